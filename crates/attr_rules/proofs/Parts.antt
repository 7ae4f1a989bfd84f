-- The first part of a text, and the others.
use Rattle.std.proofs.Common.{◌≡◌, ℕ, ◌+◌, ◌<◌, Bool, true, false, List, [], ◌∷◌, ◌++◌, length, get_or, take, drop, Option, Some, None, refl, sym, ap, ◌∙◌, arith, ◌⊎◌, inl, inr, append_assoc}
use Rattle.std.specs.Prelude.{not, ◌&&◌}
use Rattle.std.specs.List.{list_all, slice_split, filter_map, cons_option, before_first, after_first, position_or_len}
use Rattle.std.proofs.Math.ListN.{drop_of_length-le}
use Rattle.std.proofs.Math.Seq.{take-length}
use Rattle.std.proofs.lemmas.Bool.Decides.{eqb_tells}
use Rattle.std.proofs.lemmas.List.Splits.{slice_split_first, slice_split_none}
use Rattle.std.proofs.lemmas.List.Sums.{position_or_len_is, fails_before_first, prefix_len-le-length}
use Rattle.std.proofs.lemmas.List.Elements.{All-from_get_or}
use Rattle.attr_rules.specs.declared.rules.Line.{Line}
use Rattle.attr_rules.specs.Names.{has_name, have_names}
use Rattle.attr_rules.specs.Rules.{is_feed, line_of, lines_of}
use Rattle.seq_base.specs.Blanks.{is_blank}

pub before_at : (p : ℕ → Bool) (xs : List ℕ) (n : ℕ) → n < length xs → ((k : ℕ) → k < n → p (get_or xs k 0) ≡ false) → p (get_or xs n 0) ≡ true
    → take n xs ≡ before_first p xs
before_at p xs n below before here = ap (λ (k : ℕ). take k xs) (sym (position_or_len_is p xs n 0 (omega arith) before (λ _. here)))

pub after_at : (p : ℕ → Bool) (xs : List ℕ) (n : ℕ) → n < length xs → ((k : ℕ) → k < n → p (get_or xs k 0) ≡ false) → p (get_or xs n 0) ≡ true
    → drop (n + 1) xs ≡ after_first p xs
after_at p xs n below before here = ap (λ (k : ℕ). drop (k + 1) xs) (sym (position_or_len_is p xs n 0 (omega arith) before (λ _. here)))

nowhere : (p : ℕ → Bool) (xs : List ℕ) → ((k : ℕ) → k < length xs → p (get_or xs k 0) ≡ false) → position_or_len p xs ≡ length xs
nowhere p xs before = position_or_len_is p xs (length xs) 0 (omega arith) before (λ h. absurd (omega arith))

pub before_none : (p : ℕ → Bool) (xs : List ℕ) → ((k : ℕ) → k < length xs → p (get_or xs k 0) ≡ false) → xs ≡ before_first p xs
before_none p xs before = sym (take-length xs) ∙ ap (λ (k : ℕ). take k xs) (sym (nowhere p xs before))

pub after_none : (p : ℕ → Bool) (xs : List ℕ) → ((k : ℕ) → k < length xs → p (get_or xs k 0) ≡ false) → [] ≡ after_first p xs
after_none p xs before = sym (drop_of_length-le xs (omega (arith, nowhere p xs before)))

-- The parts are the first and those of what stands behind it, or the first alone, with nothing behind it.
abbrev SplitFirst : (ℕ → Bool) → List ℕ → Type 0
SplitFirst p xs =
    (slice_split p xs ≡ before_first p xs ∷ slice_split p (after_first p xs)) ⊎ ((slice_split p xs ≡ before_first p xs ∷ []) × (after_first p xs ≡ []))

split_first : (p : ℕ → Bool) (xs : List ℕ) → SplitFirst p xs
split_first p xs = elim (eqb_tells (position_or_len p xs) (length xs)) [
  | inl e ↦
      let all : xs ≡ before_first p xs = sym (take-length xs) ∙ ap (λ (k : ℕ). take k xs) (sym e.1) in
      let one : slice_split p xs ≡ xs ∷ [] = slice_split_none p xs (All-from_get_or (λ (x : ℕ). p x ≡ false) xs 0 (λ i h. fails_before_first p xs i 0 (omega (arith, e.1)))) in
      inr (one ∙ ap (λ (t : List ℕ). t ∷ []) all, drop_of_length-le xs (omega (arith, e.1)))
  | inr e ↦ inl (slice_split_first p xs 0 (omega (arith, e.1, prefix_len-le-length (λ x. not (p x)) xs)))
]

-- What is found in the parts is what is found in the first and then in the others, where nothing is in an empty one.
pub found_first : {Y : Type 0} (f : List ℕ → Option Y) (p : ℕ → Bool) (xs : List ℕ) → f [] ≡ None
    → filter_map f (slice_split p xs) ≡ cons_option (f (before_first p xs)) (filter_map f (slice_split p (after_first p xs)))
found_first {Y} f p xs none = elim (split_first p xs) [
  | inl more ↦ ap (filter_map f) more
  | inr alone ↦
      let empty : filter_map f (slice_split p (after_first p xs)) ≡ [] = ap (λ (t : List ℕ). filter_map f (slice_split p t)) alone.1 ∙ ap (λ (o : Option Y). cons_option o []) none in
      ap (filter_map f) alone.0 ∙ ap (cons_option (f (before_first p xs))) (sym empty)
]

-- All parts pass where the first and then the others do, if an empty one passes.
all_first : (f : List ℕ → Bool) (p : ℕ → Bool) (xs : List ℕ) → f [] ≡ true
    → list_all f (slice_split p xs) ≡ (f (before_first p xs) && list_all f (slice_split p (after_first p xs)))
all_first f p xs on = elim (split_first p xs) [
  | inl more ↦ ap (list_all f) more
  | inr alone ↦
      let empty : list_all f (slice_split p (after_first p xs)) ≡ true = ap (λ (t : List ℕ). list_all f (slice_split p t)) alone.1 ∙ ap (λ (t : Bool). t && true) on in
      ap (list_all f) alone.0 ∙ ap (λ (t : Bool). f (before_first p xs) && t) (sym empty)
]

names_first : (text word behind : List ℕ) → word ≡ before_first is_blank text → behind ≡ after_first is_blank text
    → have_names text ≡ (has_name word && have_names behind)
names_first text word behind e f =
    all_first has_name is_blank text refl ∙ ap (λ (t : List ℕ). has_name t && have_names (after_first is_blank text)) (sym e)
    ∙ ap (λ (t : List ℕ). has_name word && have_names t) (sym f)

-- behind a word that has a name, the rest decides; one that has none decides for all
pub name_kept : (text word behind : List ℕ) → word ≡ before_first is_blank text → behind ≡ after_first is_blank text → has_name word ≡ true
    → have_names behind ≡ have_names text
name_kept text word behind e f on = sym (names_first text word behind e f ∙ ap (λ (t : Bool). t && have_names behind) on)

pub name_lost : (text word behind : List ℕ) → word ≡ before_first is_blank text → behind ≡ after_first is_blank text → has_name word ≡ false
    → have_names text ≡ false
name_lost text word behind e f off = names_first text word behind e f ∙ ap (λ (t : Bool). t && have_names behind) off

lines_first : (text line behind : List ℕ) → line ≡ before_first is_feed text → behind ≡ after_first is_feed text
    → lines_of text ≡ cons_option (line_of line) (lines_of behind)
lines_first text line behind e f =
    found_first line_of is_feed text refl
    ∙ ap (λ (t : List ℕ). cons_option (line_of t) (lines_of (after_first is_feed text))) (sym e)
    ∙ ap (λ (t : List ℕ). cons_option (line_of line) (lines_of t)) (sym f)

pub line_kept : (done : List Line) (kept : Line) (all text line behind : List ℕ) → done ++ lines_of text ≡ lines_of all
    → line ≡ before_first is_feed text → behind ≡ after_first is_feed text → Some kept ≡ line_of line
    → (done ++ kept ∷ []) ++ lines_of behind ≡ lines_of all
line_kept done kept all text line behind so_far e f g =
    append_assoc done (kept ∷ []) (lines_of behind)
    ∙ ap (λ (o : Option Line). done ++ cons_option o (lines_of behind)) g
    ∙ ap (λ (t : List Line). done ++ t) (sym (lines_first text line behind e f)) ∙ so_far

pub line_passed : (done : List Line) (all text line behind : List ℕ) → done ++ lines_of text ≡ lines_of all
    → line ≡ before_first is_feed text → behind ≡ after_first is_feed text → None ≡ line_of line
    → done ++ lines_of behind ≡ lines_of all
line_passed done all text line behind so_far e f g =
    ap (λ (o : Option Line). done ++ cons_option o (lines_of behind)) g
    ∙ ap (λ (t : List Line). done ++ t) (sym (lines_first text line behind e f)) ∙ so_far
