-- What the reading of an entry's blob says of its writes.
use Rattle.std.proofs.Common.{◌≡◌, ℕ, List, [], ◌∷◌, ◌++◌, cond, true, false, Bool, Ok, Err, refl, ap, ◌∙◌}
use Rattle.seq_base.specs.World.{World}
use Rattle.seq_outside.specs.Halts.{Denies}
use Rattle.seq_outside.specs.declared.halt.Halt.{Halt}
use Rattle.seq_outside.specs.declared.halt.Halt.TheVariants.{Stops, Fault, Memory}
use Rattle.seq_outside.specs.declared.lack.Lack.{Lack}
use Rattle.seq_outside.specs.declared.write.Write.{Write}
use Rattle.seq_outside.specs.declared.write.Write.TheVariants.{Put}
use Rattle.index_file.specs.declared.entry.IndexEntry.{IndexEntry}
use Rattle.stage_index.specs.Stages.{row_of}
use Rattle.stage_index.specs.Switching.{is_rewritten}
use Rattle.worktree.specs.Blobs.{blob_named}
use Rattle.worktree.specs.Writes.{blob_writes}

nothing_more : (ws : List Write) → ws ≡ ws ++ []
nothing_more [] = refl
nothing_more (w ∷ ws) = ap (λ (vs : List Write). w ∷ vs) (nothing_more ws)

abbrev OneOf : World → List IndexEntry → IndexEntry → List Write → List Write → Type 0
OneOf w from e old new =
    (made : List Write) × (blob_writes w (cond (is_rewritten from (row_of e)) (row_of e ∷ []) []) ≡ Ok made) × (new ≡ old ++ made)

pub one_kept : (w : World) (from : List IndexEntry) (e : IndexEntry) (old : List Write) → is_rewritten from (row_of e) ≡ false
    → OneOf w from e old old
unfolding blob_writes
one_kept w from e old is = ([], ap (λ (t : Bool). blob_writes w (cond t (row_of e ∷ []) [])) is, nothing_more old)

pub one_written : (w : World) (from : List IndexEntry) (e : IndexEntry) (bytes : List ℕ) (old new : List Write) → is_rewritten from (row_of e) ≡ true
    → blob_named w e.id ≡ Ok bytes → new ≡ old ++ Put e.path bytes ∷ [] → OneOf w from e old new
unfolding blob_writes
one_written w from e bytes old new is blob pushed =
    (Put e.path bytes ∷ [], ap (λ (t : Bool). blob_writes w (cond t (row_of e ∷ []) [])) is ∙ rw blob refl, pushed)

one_fails : (w : World) (from : List IndexEntry) (e : IndexEntry) (why : Lack) → is_rewritten from (row_of e) ≡ true → blob_named w e.id ≡ Err why
    → blob_writes w (cond (is_rewritten from (row_of e)) (row_of e ∷ []) []) ≡ Err why
unfolding blob_writes
one_fails w from e why is blob = ap (λ (t : Bool). blob_writes w (cond t (row_of e ∷ []) [])) is ∙ rw blob refl

pub one_denied : (w : World) (from : List IndexEntry) (e : IndexEntry) (halt : Halt Lack) → is_rewritten from (row_of e) ≡ true
    → Denies halt (blob_named w e.id) → Denies halt (blob_writes w (cond (is_rewritten from (row_of e)) (row_of e ∷ []) []))
one_denied w from e (Stops why) is denied = one_fails w from e why is denied
one_denied w from e Fault is denied = tt
one_denied w from e Memory is denied = tt
