-- The parents of a commit.
use Rattle.std.specs.Prelude.{List, Result, Ok}
use Rattle.objects.specs.Named.{commit_named}
use Rattle.reading.specs.Todos.{no_fault}
use Rattle.seq_base.specs.Words.{Id}
use Rattle.seq_base.specs.World.{World}
use Rattle.seq_outside.specs.Halts.{◌>>=◌, for_reason}

-- its parents, where it can be read
abbrev pub parents_of : World → Id → Result (List Id) (Unit {0})
parents_of w id = do
  commit ← for_reason no_fault (commit_named w id)
  Ok commit.parents
