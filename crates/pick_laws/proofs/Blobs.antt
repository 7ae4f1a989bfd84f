-- What is written of a switch of index and files, read step by step.
use Rattle.std.proofs.Common.{◌≡◌, List, [], ◌∷◌, ◌++◌, filter, Result, Ok, Err, refl}
use Rattle.index_file.specs.declared.entry.IndexEntry.{IndexEntry}
use Rattle.seq_base.specs.Words.{Path, Text}
use Rattle.seq_base.specs.World.{World}
use Rattle.seq_base.specs.declared.map.Entry.{Entry}
use Rattle.seq_outside.specs.Halts.{◌>>=◌}
use Rattle.seq_outside.specs.declared.write.Write.{Write}
use Rattle.seq_outside.specs.declared.write.Write.TheVariants.{Put}
use Rattle.stage_index.specs.Stages.{Entries}
use Rattle.stage_index.specs.Switching.{index_write, is_rewritten, removals}
use Rattle.worktree.specs.Blobs.{blob_named}
use Rattle.worktree.specs.Writes.{blob_writes, clear_writes}

pub bound : {A B E : Type 0} (r : Result A E) (f : A → Result B E) (y : B) → (r >>= f) ≡ Ok y → (x : A) × (r ≡ Ok x) × (f x ≡ Ok y)
bound (Ok x) f y e = (x, refl, e)
bound (Err why) f y e = absurd cc

-- the removals, the index, and the blobs
pub clear_is : (w : World) (index : List IndexEntry) (m : Entries) (xs : List Write) → clear_writes w index m ≡ Ok xs
    → (blobs : List Write) × (blob_writes w (filter (is_rewritten index) m) ≡ Ok blobs) × (xs ≡ removals index m ++ index_write m ∷ blobs)
unfolding clear_writes
clear_is w index m xs e =
    let b = bound (blob_writes w (filter (is_rewritten index) m)) (λ blobs. Ok (removals index m ++ index_write m ∷ blobs)) xs e in (b.0, b.1, let last = b.2 in cc)

-- one blob, and the others
pub record OneBlob (w : World) (e : Path × Entry) (rows : Entries) (xs : List Write) : Type 0 where
  pub bytes : Text
  pub others : List Write
  pub blob : blob_named w e.1.id ≡ Ok bytes
  pub more : blob_writes w rows ≡ Ok others
  pub all : xs ≡ Put e.0 bytes ∷ others

pub one_blob : (w : World) (e : Path × Entry) (rows : Entries) (xs : List Write) → blob_writes w (e ∷ rows) ≡ Ok xs → OneBlob w e rows xs
unfolding blob_writes
one_blob w e rows xs is =
    let a = bound (blob_named w e.1.id) (λ bytes. blob_writes w rows >>= λ others. Ok (Put e.0 bytes ∷ others)) xs is in
    let b = bound (blob_writes w rows) (λ others. Ok (Put e.0 a.0 ∷ others)) xs a.2 in
    record { bytes = a.0; others = b.0; blob = a.1; more = b.1; all = let last = b.2 in cc }

pub no_blobs : (w : World) (xs : List Write) → blob_writes w [] ≡ Ok xs → xs ≡ []
unfolding blob_writes
no_blobs w xs is = cc
