-- The index with a file more or less, and how it is written (git-update-index(1); gitformat-index(5)).
use Rattle.std.specs.Prelude.{Bool, not, ◌==◌, ◌&&◌, ◌||◌, nat_lt, List, [], ◌∷◌, length, filter, codes, if◌then◌else◌, Option, Some, None, unwrap_or, option_map}
use Rattle.std.specs.Prelude.{Result, Ok, Err}
use Rattle.std.specs.List.{find}
use Rattle.std.specs.Str.{bytes_eq}
use Rattle.seq_base.specs.Words.{Id, Path}
use Rattle.seq_base.specs.World.{is_below}
use Rattle.seq_base.specs.declared.map.Entry.{Entry}
use Rattle.seq_base.specs.declared.mode.Mode.{Mode}
use Rattle.seq_base.specs.declared.mode.Mode.TheVariants.{File}
use Rattle.seq_outside.specs.Turns.{Turn, ◌>>=◌, looked, put_in, saying}
use Rattle.seq_outside.specs.declared.limit.LimitWhat.TheVariants.{IndexEntries}
use Rattle.index_file.specs.Spelling.{index_text}
use Rattle.index_file.specs.declared.entry.IndexEntry.{IndexEntry}
use Rattle.stage_index.specs.Staged.{others_of, with_stages}
use Rattle.stage_index.specs.Stages.{is_merged}
use Rattle.seq_model.specs.Basis.{index_limit}
use Rattle.seq_model.specs.Refusing.{denied_put}
use Rattle.seq_model.specs.declared.denial.Denial.{Denial}
use Rattle.seq_model.specs.declared.denial.Denial.TheVariants.{Limit}

-- ---- a file more

-- the entry of a path at stage 0, or ours at stage 2
abbrev pub is_ours : Path → IndexEntry → Bool
is_ours path e = bytes_eq e.path path && ((e.stage == 0) || (e.stage == 2))

-- the mode that the path has there, and else that of a file that is not executable
abbrev pub mode_at : List IndexEntry → Path → Mode
mode_at index path = unwrap_or (option_map (λ e. e.mode) (find (is_ours path) index)) File

-- a merged entry whose path would be a folder of this one, or lie below it
abbrev pub clashes : Path → IndexEntry → Bool
clashes path e = is_merged e && (is_below e.path path || is_below path e.path)

abbrev pub without_clashes : List IndexEntry → Path → List IndexEntry
without_clashes index path = filter (λ e. not (clashes path e)) index

-- the path is merged, with this mode and id
abbrev pub with_merged : List IndexEntry → Path → Entry → List IndexEntry
with_merged index path e = with_stages (without_clashes index path) path (Some e ∷ None ∷ None ∷ None ∷ [])

-- the path has the blob of its file, or no entry where no file is there
abbrev pub with_file : List IndexEntry → Path → Option Id → List IndexEntry
with_file index path None = others_of index path
with_file index path (Some id) = with_merged index path (record { mode = mode_at index path; id = id })

-- ---- how it is written

-- it can be read again
unfoldable pub fits_limit : List IndexEntry → Result (Unit {0}) Denial
fits_limit index = if nat_lt index_limit (length index) then Err (Limit IndexEntries (length index)) else Ok tt

unfoldable pub index_put : List IndexEntry → Turn Denial (Unit {0})
index_put index = do
  fits ← looked (fits_limit index)
  saying denied_put (put_in (codes ".git/index") (index_text index))
