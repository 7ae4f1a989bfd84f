-- The commit that a word names (gitrevisions(7)).
use Rattle.std.specs.Prelude.{Result}
use Rattle.rev_text.specs.Revs.{Said, rev_of}
use Rattle.seq_base.specs.Words.{Id, Text}
use Rattle.seq_base.specs.World.{World}
use Rattle.seq_outside.specs.Halts.{◌>>=◌, or_stop}
use Rattle.rev_names.specs.Bases.{base_id, label_id}
use Rattle.rev_names.specs.Commits.{commit_behind}
use Rattle.rev_names.specs.declared.fault.RevFault.{RevFault}
use Rattle.rev_names.specs.declared.fault.RevFault.TheVariants.{Form}

-- what a word says
unfoldable pub said_by : Text → Result Said RevFault
said_by word = or_stop (rev_of word) Form

-- the commit that a word names
unfoldable pub rev_at : World → Text → Result Id RevFault
rev_at w word = do
  rev ← said_by word
  id ← base_id w rev.base rev.entry
  commit_behind w id rev.steps

-- the same, where a label goes before all other names
unfoldable pub label_at : World → Text → Result Id RevFault
label_at w word = do
  rev ← said_by word
  id ← label_id w rev.base rev.entry
  commit_behind w id rev.steps
