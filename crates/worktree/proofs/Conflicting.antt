-- The files that a conflict leaves, as far as they were gone through.
use Rattle.std.proofs.Common.{◌≡◌, ◌-◌, ◌<◌, true, false, List, [], ◌∷◌, length, take, drop, get_or, Some, None, Ok, Err, refl, sym, ap, ◌∙◌, arith}
use Rattle.seq_base.specs.Words.{Path}
use Rattle.seq_base.specs.World.{World}
use Rattle.seq_outside.specs.Halts.{Denies}
use Rattle.seq_outside.specs.declared.halt.Halt.{Halt}
use Rattle.seq_outside.specs.declared.halt.Halt.TheVariants.{Stops, Fault, Memory}
use Rattle.seq_outside.specs.declared.lack.Lack.{Lack}
use Rattle.seq_outside.specs.declared.write.Write.{Write}
use Rattle.seq_outside.proofs.Firsts.{first_and_others}
use Rattle.index_file.specs.declared.entry.IndexEntry.{IndexEntry}
use Rattle.stage_index.specs.Conflicts.{Files, first_barred, is_barred}
use Rattle.stage_index.specs.declared.conflict.ConflictFile.{ConflictFile}
use Rattle.worktree.specs.Conflicts.{with_file, with_files}

no_files : (rest : Files) → length rest ≡ 0 → rest ≡ []
no_files [] h = refl
no_files (f ∷ fs) h = absurd (omega arith)

-- ---- the first that is barred

-- the rest has the first that all have
abbrev pub SameBarred : World → List IndexEntry → Files → Files → Type 0
SameBarred w from all rest = first_barred w from rest ≡ first_barred w from all

barred : (w : World) (from : List IndexEntry) (f : Path × ConflictFile) (fs : Files) → is_barred w from f ≡ true
    → first_barred w from (f ∷ fs) ≡ Some f.0
unfolding first_barred
barred w from f fs is = rw is refl

free : (w : World) (from : List IndexEntry) (f : Path × ConflictFile) (fs : Files) → is_barred w from f ≡ false
    → first_barred w from (f ∷ fs) ≡ first_barred w from fs
unfolding first_barred
free w from f fs is = rw is refl

pub barred_at : (w : World) (from : List IndexEntry) (all rest : Files) (f : Path × ConflictFile) → SameBarred w from all rest → 0 < length rest
    → f ≡ get_or rest 0 f → is_barred w from f ≡ true → Some f.0 ≡ first_barred w from all
barred_at w from all rest f same some first is =
    sym (barred w from f _ is) ∙ ap (first_barred w from) (sym (first_and_others rest f some first)) ∙ same

pub free_at : (w : World) (from : List IndexEntry) (all rest : Files) (f : Path × ConflictFile) → SameBarred w from all rest → 0 < length rest
    → f ≡ get_or rest 0 f → is_barred w from f ≡ false
    → SameBarred w from all (take (length rest - 1) (drop 1 rest))
free_at w from all rest f same some first is = sym (free w from f _ is) ∙ ap (first_barred w from) (sym (first_and_others rest f some first)) ∙ same

none_barred : (w : World) (from : List IndexEntry) → first_barred w from [] ≡ None
unfolding first_barred
none_barred w from = refl

pub all_free : (w : World) (from : List IndexEntry) (all rest : Files) → SameBarred w from all rest → length rest ≡ 0 → None ≡ first_barred w from all
all_free w from all rest same none = sym (none_barred w from) ∙ ap (first_barred w from) (sym (no_files rest none)) ∙ same

-- ---- their writes

-- the rest makes of the writes what all make of the first ones
abbrev pub SameWrites : World → List IndexEntry → List Write → Files → List Write → Files → Type 0
SameWrites w from begun all now rest = with_files w from now rest ≡ with_files w from begun all

goes_on : (w : World) (from : List IndexEntry) (now next : List Write) (f : Path × ConflictFile) (fs : Files) → with_file w from now f ≡ Ok next
    → with_files w from now (f ∷ fs) ≡ with_files w from next fs
unfolding with_files
goes_on w from now next f fs is = rw is refl

fails : (w : World) (from : List IndexEntry) (now : List Write) (f : Path × ConflictFile) (fs : Files) (why : Lack) → with_file w from now f ≡ Err why
    → with_files w from now (f ∷ fs) ≡ Err why
unfolding with_files
fails w from now f fs why is = rw is refl

pub one_written_more : (w : World) (from : List IndexEntry) (begun now next : List Write) (all rest : Files) (f : Path × ConflictFile)
    → SameWrites w from begun all now rest → 0 < length rest → f ≡ get_or rest 0 f
    → with_file w from now f ≡ Ok next → SameWrites w from begun all next (take (length rest - 1) (drop 1 rest))
one_written_more w from begun now next all rest f same some first is =
    sym (goes_on w from now next f (take (length rest - 1) (drop 1 rest)) is) ∙ ap (with_files w from now) (sym (first_and_others rest f some first)) ∙ same

pub writing_denied : (w : World) (from : List IndexEntry) (begun now : List Write) (all rest : Files) (f : Path × ConflictFile) (halt : Halt Lack)
    → SameWrites w from begun all now rest → 0 < length rest → f ≡ get_or rest 0 f
    → Denies halt (with_file w from now f) → Denies halt (with_files w from begun all)
writing_denied w from begun now all rest f (Stops why) same some first denied =
    sym same ∙ ap (with_files w from now) (first_and_others rest f some first) ∙ fails w from now f (take (length rest - 1) (drop 1 rest)) why denied
writing_denied w from begun now all rest f Fault same some first denied = tt
writing_denied w from begun now all rest f Memory same some first denied = tt

no_more : (w : World) (from : List IndexEntry) (now : List Write) → with_files w from now [] ≡ Ok now
unfolding with_files
no_more w from now = refl

pub all_written_too : (w : World) (from : List IndexEntry) (begun now : List Write) (all rest : Files) → SameWrites w from begun all now rest
    → length rest ≡ 0 → with_files w from begun all ≡ Ok now
all_written_too w from begun now all rest same none = sym same ∙ ap (with_files w from now) (no_files rest none) ∙ no_more w from now
