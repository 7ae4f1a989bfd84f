-- A worktree that is clean (git-status(1): "nothing to commit, working tree clean"; git-rebase(1) asks for one).
use Rattle.std.specs.Prelude.{◌≡◌, List, Option, Some, None, option_map}
use Rattle.seq_base.specs.Words.{Path}
use Rattle.seq_base.specs.World.{World}
use Rattle.index_file.specs.declared.entry.IndexEntry.{IndexEntry}
use Rattle.stage_index.specs.Changes.{changed, dirty, staged}
use Rattle.stage_index.specs.Stages.{Entries}
use Rattle.stage_index.specs.Unmerged.{first_unmerged}

-- no path is unmerged, none is staged, and no file is changed
pub record IsClean (w : World) (es : List IndexEntry) (head : Entries) : Type 0 where
  pub merged : first_unmerged es ≡ None
  pub staged : staged es head ≡ None
  pub files : changed w es ≡ None

-- why a worktree is not clean, with the least path of its sort
pub data Unclean : Type 0 where
  Unmerged : Path → Unclean
  Dirty : Path → Unclean

abbrev pub unmerged_before : Option Path → Option Path → Option Unclean
unmerged_before (Some path) dirty = Some (Unclean.Unmerged path)
unmerged_before None dirty = option_map Unclean.Dirty dirty

-- an unmerged path before one that is changed or staged
abbrev pub unclean : World → List IndexEntry → Entries → Option Unclean
unclean w es head = unmerged_before (first_unmerged es) (dirty w es head)
