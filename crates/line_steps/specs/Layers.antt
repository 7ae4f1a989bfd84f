-- What the lines of a todo take from the layers that are built beside them, each by its definition there.
use Rattle.std.specs.Prelude.{Bool}
use Rattle.seq_base.specs.PathMaps.{Entries}
use Rattle.seq_outside.specs.Doing.{Does}
use Rattle.seq_outside.specs.declared.lack.Lack.{Lack}
pub use Rattle.content_merge.specs.declared.merged.Merged.{Merged}
pub use Rattle.commit_maker.specs.declared.making.Made.{Made}
pub use Rattle.commit_maker.specs.declared.making.Making.{Making}
pub use Rattle.commit_maker.specs.declared.making.Source.{Source}
pub use Rattle.commit_maker.specs.declared.making.Source.TheVariants.{Message, Merge, Squash}
pub use Rattle.commit_maker.specs.declared.stop.MakeStop.{MakeStop}
pub use Rattle.commit_maker.specs.declared.stop.MakeStop.TheVariants.{HookRefused, EditorFailed, EmptyMessage, Lacks}
pub use Rattle.line_steps.specs.declared.setting.Setting.{Setting}

-- ---- a merge

-- the maps of a three-way merge; ours is HEAD's
pub record Sides : Type 0 where
  pub base : Entries
  pub ours : Entries
  pub theirs : Entries

-- ---- the layers

abbrev pub Merges : Type 0
Merges = Setting → Sides → Does (Unit {0}) Lack Merged

abbrev pub Commits : Type 0
Commits = Setting → Making → Does Bool MakeStop Made

-- what the lines make with
pub record Makers : Type 0 where
  -- the three-way merge, with its drivers (gitattributes(5), "Defining a custom merge driver")
  pub merges : Merges
  -- A commit, with its hooks and its editor (git-commit(1), githooks(5)); no ref is changed. At its place it tells whether one of these has
  -- ended since index and files were last looked at.
  pub commits : Commits
