-- The first line of a text.
use Rattle.std.proofs.Common.{◌≡◌, ℕ, ◌+◌, ◌-◌, ◌<◌, Bool, true, false, cond, List, [], ◌∷◌, ◌++◌, length, get_or, take, drop, refl, sym, ap, ◌∙◌, arith, drop-cons, add-one, ⊎_elim}
use Rattle.std.specs.Prelude.{◌==◌, Some, None}
use Rattle.std.specs.List.{slice_split}
use Rattle.std.specs.Str.Lines.{lines, lines_of_parts, strip_carriage_return}
use Rattle.std.proofs.lemmas.Bool.{cases_Bool, ne_eqb}
use Rattle.std.proofs.lemmas.List.{take-append-drop, get_or-take}
use Rattle.std.proofs.lemmas.List.Elements.{All-from_get_or}
use Rattle.std.proofs.lemmas.List.Splits.{slice_split_at, slice_split_none, length-slice_split}
use Rattle.memchr.specs.Find.{IsFirstByte, is_byte}

abbrev pub is_feed : ℕ → Bool
is_feed b = b == 10

pub first_of_parts : (part : List ℕ) (parts : List (List ℕ)) → 0 < length parts
    → lines_of_parts (part ∷ parts) ≡ strip_carriage_return part ∷ lines_of_parts parts
first_of_parts part [] some = absurd (omega arith)
first_of_parts part (p ∷ ps) some = refl

fails : (v : Bool) → (v ≡ true → ⊥) → v ≡ false
fails v never = ⊎_elim (λ yes. absurd (never yes)) (λ e. e) (cases_Bool v)

-- a line feed is found
pub lines_at : (text : List ℕ) (end : ℕ) → IsFirstByte (is_byte 10) text (Some end)
    → lines text ≡ strip_carriage_return (take end text) ∷ lines (drop (end + 1) text)
lines_at text end h =
    let within : end < length text = h.0.high in
    let cut : text ≡ take end text ++ get_or text end 0 ∷ drop (end + 1) text =
    sym (take-append-drop end text) ∙ ap (λ (t : List ℕ). take end text ++ t) (drop-cons text end 0 within ∙ ap (λ n. get_or text end 0 ∷ drop n text) (sym (add-one end))) in
    let before = All-from_get_or (λ b. is_feed b ≡ false) (take end text) 0
    (λ i l. let below : i < end = omega (arith, l, Rattle.std.proofs.Common.length-take end text) in ap is_feed (get_or-take end text i 0 below) ∙ fails _ (h.0.before i (omega arith) below)) in
    ap lines cut
    ∙ ap lines_of_parts (slice_split_at is_feed (take end text) (get_or text end 0) (drop (end + 1) text) before h.1)
    ∙ first_of_parts (take end text) (slice_split is_feed (drop (end + 1) text)) (omega (arith, length-slice_split is_feed (drop (end + 1) text)))

lone_part : (text : List ℕ) → 0 < length text → lines_of_parts (text ∷ []) ≡ text ∷ []
lone_part text some = ap (λ (v : Bool). cond v [] (text ∷ [])) (ne_eqb (length text) 0 (λ e. omega arith))

-- there is none
pub lines_last : (text : List ℕ) → 0 < length text → IsFirstByte (is_byte 10) text None → lines text ≡ text ∷ []
lines_last text some h =
    ap lines_of_parts (slice_split_none is_feed text (All-from_get_or (λ b. is_feed b ≡ false) text 0 (λ i l. fails _ (h i (omega arith) l))))
    ∙ lone_part text some
