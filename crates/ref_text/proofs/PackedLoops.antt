-- The loop that reads the lines of packed refs.
use Rattle.std.proofs.Common.{◌≡◌, ℕ, suc, ◌-◌, ◌<◌, true, false, Bool, eqb, get_or, List, [], ◌∷◌, ◌++◌, length, Option, Some, None, Result, Ok, Err, refl, sym, ap, subst, ◌∙◌, arith}
use Rattle.std.specs.Prelude.{is_some}
use Rattle.std.proofs.lemmas.Bool.{eqb-true}
use Rattle.std.proofs.lemmas.List.{append-nil}
use Rattle.grammar.specs.Gives.{Fails}
use Rattle.grammar.specs.declared.fault.ReadError.{ReadError}
use Rattle.grammar.specs.declared.fault.ReadError.TheVariants as errors
use Rattle.grammar.specs.Readers.{◌>>=◌, End, end_at, star_at}
use Rattle.grammar.specs.Lines.{IsFirstBadLine, line_of_place}
use Rattle.grammar.proofs.LineLaws.{first_bad_line}
use Rattle.grammar.proofs.Top.{first_bad, read_whole}
use Rattle.grammar.proofs.StarLoops.{Loop, loop_more, loop_err, loop_last}
use Rattle.ref_text.specs.Packed.{IsPacked, packed_text}
use Rattle.ref_text.specs.ReadLogs.{any_byte}
use Rattle.ref_text.specs.ReadPacked.{Ref, next_after, packed_from, packed_line_from, refs_of}
use Rattle.ref_text.proofs.LogLoops.{all_bytes, begins_rest}
use Rattle.ref_text.proofs.PackedTexts.{packed_refs, packed_spells}
use Rattle.ref_text.proofs.PackedLaws.{AnyState, EachLine, packed_reads, packed_star}

abbrev total : List ℕ → Result (List (Option Ref) × Unit {0}) ℕ
total bytes = star_at any_byte next_after packed_line_from (λ s rest. end_at rest) (length bytes) false bytes

abbrev Lines : List ℕ → List (Option Ref) → Bool → List ℕ → Type 0
Lines bytes = Loop AnyState any_byte next_after EachLine (λ s. End) packed_line_from (λ s rest. end_at rest) packed_star (total bytes)

-- the refs of lines that were read, whether the last is one, and what is left
abbrev pub PackedLoop : List ℕ → List Ref → Bool → List ℕ → Type 0
PackedLoop bytes refs after rest = (lines : List (Option Ref)) × Lines bytes lines after rest × (refs ≡ refs_of lines)

-- with what a line says
abbrev pub with_line : List Ref → Option Ref → List Ref
with_line refs None = refs
with_line refs (Some r) = refs ++ r ∷ []

refs-push : (lines : List (Option Ref)) (line : Option Ref) → refs_of (lines ++ line ∷ []) ≡ with_line (refs_of lines) line
refs-push [] None = refl
refs-push [] (Some r) = refl
refs-push (None ∷ lines) line = refs-push lines line
refs-push (Some q ∷ lines) line = ap (λ (rs : List Ref). q ∷ rs) (refs-push lines line) ∙ first line
  where
    first : (line : Option Ref) → q ∷ with_line (refs_of lines) line ≡ with_line (q ∷ refs_of lines) line
    first None = refl
    first (Some r) = refl

pub packed_more : (bytes : List ℕ) (refs : List Ref) (after : Bool) (rest : List ℕ) (line : Option Ref) (behind : List ℕ)
    → eqb (length rest) 0 ≡ false → packed_line_from after rest ≡ Ok (line, behind)
    → PackedLoop bytes refs after rest → PackedLoop bytes (with_line refs line) (is_some line) behind × (length behind < length rest)
packed_more bytes refs after rest line behind some read l =
    let k = loop_more AnyState any_byte next_after EachLine (λ s. End) packed_line_from (λ s rest. end_at rest) packed_star (total bytes) l.0 after rest line behind (begins_rest rest some) read l.1 in
    ((l.0 ++ line ∷ [], k.0, ap (λ (rs : List Ref). with_line rs line) l.2 ∙ sym (refs-push l.0 line)), k.1)

-- the same, at values that the code made
pub packed_step : (bytes : List ℕ) (refs next : List Ref) (after on : Bool) (rest : List ℕ) (line : Option Ref) (behind : List ℕ)
    → eqb (length rest) 0 ≡ false → packed_line_from after rest ≡ Ok (line, behind)
    → next ≡ with_line refs line → on ≡ is_some line → PackedLoop bytes refs after rest → PackedLoop bytes next on behind
packed_step bytes refs next after on rest line behind some read next_is on_is l =
    subst (λ (rs : List Ref). PackedLoop bytes rs on behind) (sym next_is) (subst (λ (t : Bool). PackedLoop bytes (with_line refs line) t behind) (sym on_is) (packed_more bytes refs after rest line behind some read l).0)

pub packed_err : (bytes : List ℕ) (refs : List Ref) (after : Bool) (rest : List ℕ) (d : ReadError) → eqb (length rest) 0 ≡ false
    → Fails d (packed_line_from after rest) → PackedLoop bytes refs after rest → Fails d (packed_from bytes)
unfolding packed_from
packed_err bytes refs after rest errors.Memory some read l = tt
packed_err bytes refs after rest (errors.Stopped n) some read l =
    ap (λ (r : Result (List (Option Ref) × Unit {0}) ℕ). r >>= λ p. Ok (refs_of p.0))
    (loop_err AnyState any_byte next_after EachLine (λ s. End) packed_line_from (λ s rest. end_at rest) packed_star (total bytes) l.0 after rest (errors.Stopped n) (begins_rest rest some) read l.1)

pub packed_done : (bytes : List ℕ) (refs : List Ref) (after : Bool) (rest : List ℕ) → eqb (length rest) 0 ≡ true → PackedLoop bytes refs after rest
    → packed_from bytes ≡ Ok refs
unfolding packed_from
packed_done bytes refs after [] none l =
    ap (λ (r : Result (List (Option Ref) × Unit {0}) ℕ). r >>= λ p. Ok (refs_of p.0))
    (loop_last AnyState any_byte next_after EachLine (λ s. End) packed_line_from (λ s rest. end_at rest) packed_star (total bytes) l.0 after [] refl l.1)
    ∙ ap (λ (xs : List (Option Ref)). Ok (refs_of xs)) (append-nil l.0) ∙ ap (λ (rs : List Ref). Ok rs) (sym l.2)
packed_done bytes refs after (b ∷ rest) none l = let k = eqb-true (suc (length rest)) 0 none in absurd (omega arith)

-- ---- what is written

pub written_again : (refs : List Ref) (text : List ℕ) → IsPacked refs text → IsPacked refs (packed_text refs)
written_again refs text h = packed_spells refs (packed_refs false refs h.lines h.are_lines)

pub no_others : (refs others : List Ref) (text : List ℕ) → IsPacked refs text → IsPacked others text → others ≡ refs
no_others refs others text h g = (read_whole IsPacked packed_from packed_reads text refs (packed_reads.again refs text h)).1 others g

-- the line of a fault
pub bad_packed_line : (text : List ℕ) (left : ℕ) → ((k : ℕ) → get_or text k 0 < 256) → packed_from text ≡ Err left
    → IsFirstBadLine IsPacked text (line_of_place (length text - left) text)
bad_packed_line text left fits e =
    first_bad_line IsPacked text (length text - left) (all_bytes text fits) (first_bad IsPacked packed_from packed_reads text left e)
