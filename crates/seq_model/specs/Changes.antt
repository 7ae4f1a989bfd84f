-- Which files of a store an invocation changes (gitrepository-layout(5)).
use Rattle.std.specs.Prelude.{◌≡◌, ◌⊎◌, true, codes}
use Rattle.std.specs.FinMap as map
use Rattle.objects.specs.Named.{is_object_place}
use Rattle.ref_text.specs.Refs.{log_path, ref_path}
use Rattle.seq_base.specs.Paths.{IsPath}
use Rattle.seq_base.specs.RefNames.{IsRefName}
use Rattle.seq_base.specs.Repository.{IsRepository}
use Rattle.seq_base.specs.Words.{Name, Path}
use Rattle.seq_base.specs.World.{World}
use Rattle.seq_model.specs.Making.{message_path}

-- the file of a ref, or that of its log
abbrev pub IsRefFile : Path → Type 0
IsRefFile path = (name : Name) × IsRefName name × ((path ≡ ref_path name) ⊎ (path ≡ log_path name))

-- a file that an invocation may change: of an object, of a ref or its log, the index, the configuration, the commit's message, and a path of the
-- worktree
pub data MayChange (path : Path) : Type 0 where
  IsObject : is_object_place path ≡ true → MayChange path
  IsRef : IsRefFile path → MayChange path
  IsIndex : path ≡ codes ".git/index" → MayChange path
  IsConfig : path ≡ codes ".git/config" → MayChange path
  IsMessage : path ≡ message_path → MayChange path
  IsInWorktree : IsPath path → MayChange path

-- every other file is as it was
pub record Changes (old new : World) : Type 0 where
  pub others : (path : Path) → (MayChange path → ⊥) → map.get new path ≡ map.get old path

-- and a repository stays one
pub record KeepsRepository (old new : World) : Type 0 where
  pub changes : Changes old new
  pub stays : IsRepository old → IsRepository new
