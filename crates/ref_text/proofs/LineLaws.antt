-- What packed refs and a reflog say is what their texts spell.
use Rattle.std.proofs.Common.{◌≡◌, ℕ, ◌<◌, ◌-◌, List, Result, Ok, Err, get_or, length, refl, ap, subst}
use Rattle.grammar.specs.Grammar.{IsReading}
use Rattle.grammar.specs.Lines.{IsFirstBadLine, line_of_place}
use Rattle.grammar.proofs.Top.{read_whole}
use Rattle.ref_text.specs.declared.fault.LineFault.{LineFault}
use Rattle.ref_text.specs.declared.fault.LineFault.TheVariants.{Bad, Memory}
use Rattle.ref_text.specs.declared.log.LogLine.{LogLine}
use Rattle.ref_text.specs.Faults.{IsLineFault}
use Rattle.ref_text.specs.Logs.{IsLog}
use Rattle.std.specs.Prelude.{IfOk}
use Rattle.ref_text.specs.Packed.{ArePackedNames, IsPacked}
use Rattle.ref_text.specs.ReadLines.{GivesLines, log_of, or_bad_line, packed_of}
use Rattle.ref_text.specs.ReadLogs.{log_from}
use Rattle.ref_text.specs.ReadPacked.{Ref, packed_from}
use Rattle.ref_text.proofs.LogLaws.{log_reads}
use Rattle.ref_text.proofs.LogLoops.{bad_line}
use Rattle.ref_text.proofs.PackedLaws.{packed_reads}
use Rattle.ref_text.proofs.PackedLoops.{bad_packed_line}
use Rattle.ref_text.proofs.PackedTexts.{names_told}

abbrev AreBytes : List ℕ → Type 0
AreBytes text = (k : ℕ) → get_or text k 0 < 256

-- what was read, or where it ended
was_ok : {X : Type 0} (text : List ℕ) (x : X) (r : Result X ℕ) → or_bad_line text r ≡ Ok x → r ≡ Ok x
was_ok text x (Ok y) e = e
was_ok text x (Err left) e = absurd cc

line_inj : {X : Type 0} (a b : ℕ) → ◌≡◌ {A = Result X ℕ} (Err a) (Err b) → a ≡ b
line_inj a b e = cc

was_bad : {X : Type 0} (text : List ℕ) (n : ℕ) (r : Result X ℕ) → or_bad_line text r ≡ Err n
    → (left : ℕ) × (r ≡ Err left) × (line_of_place (length text - left) text ≡ n)
was_bad text n (Ok y) e = absurd cc
was_bad text n (Err left) e = (left, refl, line_inj _ n e)

pub log_read : {V : Type 0} (view : V → List LogLine) (text : List ℕ) → AreBytes text → (r : Result V LineFault) → GivesLines view r (log_of text)
    → IsReading view (IsLineFault IsLog text) IsLog text r
log_read view text bytes (Ok v) e = read_whole IsLog log_from log_reads text (view v) (was_ok text (view v) (log_from text) (unfold log_of in e))
log_read view text bytes (Err (Bad n)) e =
    let b = was_bad text n (log_from text) (unfold log_of in e) in subst (IsFirstBadLine IsLog text) b.2 (bad_line text b.0 bytes b.1)
log_read view text bytes (Err Memory) e = tt

pub packed_read : {V : Type 0} (view : V → List Ref) (text : List ℕ) → AreBytes text → (r : Result V LineFault) → GivesLines view r (packed_of text)
    → IsReading view (IsLineFault IsPacked text) IsPacked text r
packed_read view text bytes (Ok v) e =
    read_whole IsPacked packed_from packed_reads text (view v) (was_ok text (view v) (packed_from text) (unfold packed_of in e))
packed_read view text bytes (Err (Bad n)) e =
    let b = was_bad text n (packed_from text) (unfold packed_of in e) in subst (IsFirstBadLine IsPacked text) b.2 (bad_packed_line text b.0 bytes b.1)
packed_read view text bytes (Err Memory) e = tt

-- the refs that a text spells are those that are read of it, and the other way round
pub packed_to : (text : List ℕ) (refs : List Ref) → packed_of text ≡ Ok refs → IsPacked refs text
packed_to text refs e = packed_reads.takes text refs (was_ok text refs (packed_from text) (unfold packed_of in e))

pub packed_again : (text : List ℕ) (refs : List Ref) → IsPacked refs text → packed_of text ≡ Ok refs
packed_again text refs is = unfold packed_of in ap (or_bad_line text) (packed_reads.again refs text is)

pub packed_names : {V : Type 0} (view : V → List Ref) (text : List ℕ) (r : Result V LineFault) → GivesLines view r (packed_of text)
    → IfOk r (λ v. ArePackedNames (view v))
packed_names view text (Ok v) e = names_told (view v) text (packed_to text (view v) e)
packed_names view text (Err f) e = tt
