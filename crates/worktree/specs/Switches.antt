-- Index and files that are switched to another map, as steps over a world (git-read-tree(1), "Two Tree Merge"; git-switch(1)).
use Rattle.std.specs.Prelude.{◌≡◌, ◌⊎◌, List, [], ◌∷◌, Result, Ok}
use Rattle.seq_base.specs.World.{World}
use Rattle.seq_outside.specs.Halts.{stop_found}
use Rattle.seq_outside.specs.Writes.{IsFront}
use Rattle.seq_outside.specs.Turns.{◌>>=◌, Turn, gives, looks, put_in, removed}
use Rattle.seq_outside.specs.declared.lack.Lack.{Lack}
use Rattle.seq_outside.specs.declared.lack.Lack.TheVariants.{Way}
use Rattle.seq_outside.specs.declared.write.Write.{Write}
use Rattle.seq_outside.specs.declared.write.Write.TheVariants.{Put, Remove}
use Rattle.index_file.specs.declared.entry.IndexEntry.{IndexEntry}
use Rattle.stage_index.specs.Stages.{Entries}
use Rattle.stage_index.specs.Switching.{first_obstructed}
use Rattle.worktree.specs.Writes.{clear_writes}

unfoldable pub write_made : Write → Turn Lack (Unit {0})
write_made (Put path bytes) = put_in path bytes
write_made (Remove path) = removed path

-- one after another
unfoldable pub writes_made : List Write → Turn Lack (Unit {0})
writes_made [] = gives tt
writes_made (write ∷ writes) = do
  _ ← write_made write
  writes_made writes

-- index and files of the map, where those of an index stood and no untracked file is in the way
unfoldable pub switched_clear : List IndexEntry → Entries → Turn Lack (Unit {0})
switched_clear from to = do
  writes ← looks (λ w. clear_writes w from to)
  writes_made writes

-- a front of what switches them was made
abbrev pub IsSwitchFront : List IndexEntry → Entries → World → World → Type 0
IsSwitchFront from to old new = (new ≡ old) ⊎ ((writes : List Write) × (clear_writes old from to ≡ Ok writes) × IsFront old writes new)

-- no untracked file is in the way of a path
unfoldable pub unobstructed : World → List IndexEntry → Entries → Result (Unit {0}) Lack
unobstructed w from to = stop_found (first_obstructed w from to) Way

-- index and files of the map, where those of an index stood
unfoldable pub switched : List IndexEntry → Entries → Turn Lack (Unit {0})
switched from to = do
  _ ← looks (λ w. unobstructed w from to)
  switched_clear from to
