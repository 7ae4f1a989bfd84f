-- What a switch of index and files to another map writes (git-read-tree(1), "Two Tree Merge").
use Rattle.std.specs.Prelude.{◌≡◌, List, [], ◌∷◌, ◌++◌, filter, Result, Ok, Err}
use Rattle.seq_base.specs.World.{World}
use Rattle.seq_outside.specs.Halts.{◌>>=◌, Denies}
use Rattle.seq_outside.specs.declared.halt.Halt.{Halt}
use Rattle.seq_outside.specs.declared.lack.Lack.{Lack}
use Rattle.seq_outside.specs.declared.write.Write.{Write}
use Rattle.seq_outside.specs.declared.write.Write.TheVariants.{Put}
use Rattle.index_file.specs.declared.entry.IndexEntry.{IndexEntry}
use Rattle.stage_index.specs.Stages.{Entries}
use Rattle.stage_index.specs.Switching.{index_write, is_rewritten, removals}
use Rattle.worktree.specs.Blobs.{blob_named}

-- the paths with their blobs
unfoldable pub blob_writes : World → Entries → Result (List Write) Lack
blob_writes w [] = Ok []
blob_writes w (e ∷ es) = do
  bytes ← blob_named w e.1.id
  others ← blob_writes w es
  Ok (Put e.0 bytes ∷ others)

-- of these paths, those that are written, with their blobs
abbrev pub rewritten : World → List IndexEntry → Entries → Result (List Write) Lack
rewritten w from to = blob_writes w (filter (is_rewritten from) to)

-- what switches them where no file is in the way: the removals, then the index, then the files, in path order
unfoldable pub clear_writes : World → List IndexEntry → Entries → Result (List Write) Lack
clear_writes w from to = do
  blobs ← rewritten w from to
  Ok (removals from to ++ index_write to ∷ blobs)

-- the writes that the definition gives, behind others
abbrev pub Appends : {T : Type 0} → Result T (Halt Lack) → List Write → List Write → Result (List Write) Lack → Type 0
Appends (Ok x) old new means = (made : List Write) × (means ≡ Ok made) × (new ≡ old ++ made)
Appends (Err halt) old new means = Denies halt means
