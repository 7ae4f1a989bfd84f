-- The marks of a text, held against the pieces that are left.
use Rattle.std.proofs.Common.{map, ◌<◌, ◌≡◌, ◌↔◌, ℕ, suc, Bool, true, false, List, [], ◌∷◌, ◌++◌, length, get_or, Some, None, refl, sym, ap, subst, ◌∙◌, arith, inl, inr}
use Rattle.std.specs.Prelude.{not, ◌&&◌, ◌||◌, ◌==◌}
use Rattle.std.specs.List.{list_all}
use Rattle.std.proofs.lemmas.Bool.{eqb-true, eq-eqb, and_parts, or_cases, and_from, or_left, or_right}
use Rattle.attr_rules.specs.declared.letter.Letter.{Letter}
use Rattle.attr_rules.specs.Pieces.{Piece, Byte, AnyByte, OneOf, Star, Folders, Everything, Takes, TakeAll, Cut, piece_at, ends_part}
use Rattle.attr_rules.specs.Matches.{Fits}
use Rattle.attr_rules.specs.Deciding.{are_taken}
use Rattle.attr_rules.specs.Reach.{followed, goes_on, may_be_empty, may_end, may_go_on, first_marks, later_marks, marks_behind}
use Rattle.attr_rules.proofs.Marks.{holds, holds_later, holds_behind}

-- ---- a piece alone

-- each byte but the last may go on, and the last may end
abbrev is_taken_from : Piece → ℕ → List ℕ → Bool
is_taken_from p b [] = may_end p b
is_taken_from p b (c ∷ text) = may_go_on p b && is_taken_from p c text

abbrev is_taken : Piece → List ℕ → Bool
is_taken p [] = may_be_empty p
is_taken p (b ∷ text) = is_taken_from p b text

star_from : (b : ℕ) (text : List ℕ) → is_taken_from Star b text ≡ list_all (λ b. not (b == 47)) (b ∷ text)
star_from b [] = grind arith
star_from b (c ∷ text) = ap (λ (t : Bool). not (b == 47) && t) (star_from c text)

folders_from : (b : ℕ) (text : List ℕ) → is_taken_from Folders b text ≡ true → (folders : List ℕ) × (b ∷ text ≡ folders ++ 47 ∷ [])
folders_from b [] h = ([], ap (λ (x : ℕ). x ∷ []) (eqb-true b 47 h))
folders_from b (c ∷ text) h = let w = folders_from c text h in (b ∷ w.0, ap (λ (t : List ℕ). b ∷ t) w.1)

from_folders : (folders : List ℕ) → is_taken Folders (folders ++ 47 ∷ []) ≡ true
from_folders [] = refl
from_folders (b ∷ []) = refl
from_folders (b ∷ c ∷ folders) = from_folders (c ∷ folders)

everything_from : (b : ℕ) (text : List ℕ) → is_taken_from Everything b text ≡ true
everything_from b [] = refl
everything_from b (c ∷ text) = everything_from c text

-- one byte, and no other
single : (p : Piece) (text : List ℕ) → may_be_empty p ≡ false → ((b : ℕ) → may_go_on p b ≡ false) → is_taken p text ≡ true
    → (b : ℕ) × (may_end p b ≡ true) × (text ≡ b ∷ [])
single p [] e g h = absurd (cc)
single p (b ∷ []) e g h = (b, h, refl)
single p (b ∷ c ∷ text) e g h = let never = g b in let k = (and_parts (may_go_on p b) (is_taken_from p c text) h).0 in absurd (cc)

takes : (p : Piece) (text : List ℕ) → is_taken p text ≡ true → Takes p text
takes (Byte c) text h = let w = single (Byte c) text refl (λ b. refl) h in w.2 ∙ ap (λ (x : ℕ). x ∷ []) (eqb-true w.0 c w.1)
takes AnyByte text h = single AnyByte text refl (λ b. refl) h
takes (OneOf negated members) text h = single (OneOf negated members) text refl (λ b. refl) h
takes Star [] h = refl
takes Star (b ∷ text) h = sym (star_from b text) ∙ h
takes Folders [] h = inl refl
takes Folders (b ∷ text) h = inr (folders_from b text h)
takes Everything text h = tt

taken : (p : Piece) (text : List ℕ) → Takes p text → is_taken p text ≡ true
taken (Byte c) text h = subst (λ (t : List ℕ). is_taken (Byte c) t ≡ true) (sym h) (eq-eqb c c refl)
taken AnyByte text h = subst (λ (t : List ℕ). is_taken AnyByte t ≡ true) (sym h.2) h.1
taken (OneOf negated members) text h = subst (λ (t : List ℕ). is_taken (OneOf negated members) t ≡ true) (sym h.2) h.1
taken Star [] h = refl
taken Star (b ∷ text) h = star_from b text ∙ h
taken Folders text (inl e) = subst (λ (t : List ℕ). is_taken Folders t ≡ true) (sym e) refl
taken Folders text (inr w) = subst (λ (t : List ℕ). is_taken Folders t ≡ true) (sym w.1) (from_folders w.0)
taken Everything [] h = refl
taken Everything (b ∷ text) h = everything_from b text

-- ---- one after the other

goes_on_splits : (p : Piece) (q : List ℕ → Bool) (text : List ℕ) → goes_on p q text ≡ true
    → (b : ℕ) × (front : List ℕ) × (rest : List ℕ) × (is_taken_from p b front ≡ true) × (q rest ≡ true) × (text ≡ b ∷ front ++ rest)
goes_on_splits p q [] h = absurd (cc)
goes_on_splits p q (b ∷ text) h = elim (or_cases (may_end p b && q text) (may_go_on p b && goes_on p q text) h) [
  | inl l ↦ let k = and_parts _ _ l in (b, [], text, k.0, k.1, refl)
  | inr r ↦ let k = and_parts _ _ r in
      let w = goes_on_splits p q text k.1 in
      (b, w.0 ∷ w.1, w.2, and_from _ _ k.0 w.3, w.4, ap (λ (t : List ℕ). b ∷ t) w.5)
]

goes_on_from : (p : Piece) (q : List ℕ → Bool) (b : ℕ) (front rest : List ℕ) → is_taken_from p b front ≡ true → q rest ≡ true
    → goes_on p q (b ∷ front ++ rest) ≡ true
goes_on_from p q b [] rest h k = or_left _ _ (and_from _ _ h k)
goes_on_from p q b (c ∷ front) rest h k =
    let parts = and_parts (may_go_on p b) (is_taken_from p c front) h in
    or_right _ _ (and_from _ _ parts.0 (goes_on_from p q c front rest parts.1 k))

pub take_all : (ps : List Piece) (text : List ℕ) → are_taken ps text ≡ true → TakeAll ps text
take_all [] [] h = refl
take_all [] (b ∷ text) h = absurd (cc)
take_all (p ∷ ps) text h = elim (or_cases (may_be_empty p && are_taken ps text) (goes_on p (are_taken ps) text) h) [
  | inl l ↦ let k = and_parts (may_be_empty p) (are_taken ps text) l in ([], text, takes p [] k.0, take_all ps text k.1, refl)
  | inr r ↦ let w = goes_on_splits p (are_taken ps) text r in
      (w.0 ∷ w.1, w.2, takes p (w.0 ∷ w.1) w.3, take_all ps w.2 w.4, w.5)
]

followed_from : (p : Piece) (q : List ℕ → Bool) (front rest : List ℕ) → is_taken p front ≡ true → q rest ≡ true → followed p q (front ++ rest) ≡ true
followed_from p q [] rest h k = or_left _ _ (and_from _ _ h k)
followed_from p q (b ∷ front) rest h k = or_right _ _ (goes_on_from p q b front rest h k)

pub all_taken : (ps : List Piece) (text : List ℕ) → TakeAll ps text → are_taken ps text ≡ true
all_taken [] text h = subst (λ (t : List ℕ). are_taken [] t ≡ true) (sym h) refl
all_taken (p ∷ ps) text h =
    subst (λ (t : List ℕ). followed p (are_taken ps) t ≡ true) (sym h.4) (followed_from p (are_taken ps) h.0 h.1 (taken p h.0 h.2) (all_taken ps h.1 h.3))

-- ---- the loop

-- some pieces of what is left take what stands behind a mark
abbrev MayFit : Bool → List Letter → List Bool → List ℕ → Type 0
MayFit begins rest marks text = (ps : List Piece) × Cut begins rest ps × (holds marks text (are_taken ps) ≡ true)

pub record StillFits (begins : Bool) (rest : List Letter) (marks : List Bool) (text : List ℕ) (letters : List Letter) : Type 0 where
  pub places : length marks ≡ suc (length text)
  pub on : MayFit begins rest marks text → Fits letters text
  pub back : Fits letters text → MayFit begins rest marks text

none_later : (text : List ℕ) (q : List ℕ → Bool) → holds_later (map (λ _. false) text) text q ≡ false
none_later [] q = refl
none_later (b ∷ text) q = none_later text q

or_false : (b : Bool) → (b || false) ≡ b
or_false true = refl
or_false false = refl

and_true : (b : Bool) → (b && true) ≡ b
and_true true = refl
and_true false = refl

and_false : (b : Bool) → (b && false) ≡ false
and_false true = refl
and_false false = refl

holds_first : (text : List ℕ) (q : List ℕ → Bool) → holds (first_marks text) text q ≡ q text
holds_first text q = ap (λ (r : Bool). q text || r) (none_later text q) ∙ or_false (q text)

as_many : (text : List ℕ) → length (map {A = ℕ} {B = Bool} (λ _. false) text) ≡ length text
as_many [] = refl
as_many (b ∷ text) = ap suc (as_many text)

pub still_fits : (letters : List Letter) (text : List ℕ) → StillFits true letters (first_marks text) text letters
still_fits letters text = record {
  places = ap suc (as_many text);
  on = λ m. (m.0, m.1, take_all m.0 text (sym (holds_first text (are_taken m.0)) ∙ m.2));
  back = λ f. (f.0, f.1, holds_first text (are_taken f.0) ∙ all_taken f.0 text f.2);
}

no_cut : (begins : Bool) (rest : List Letter) (ps : List Piece) → 0 < length rest → piece_at begins rest ≡ None → Cut begins rest ps → ⊥
no_cut begins rest [] some none e = absurd (omega (arith, ap length e))
no_cut begins rest (p ∷ ps) some none c = let e = c.1 in absurd (cc)

-- what stands in front of the letters is no piece
pub fits_no_more : (begins : Bool) (rest : List Letter) (marks : List Bool) (text : List ℕ) (letters : List Letter)
    → StillFits begins rest marks text letters
    → 0 < length rest → piece_at begins rest ≡ None → Fits letters text → ⊥
fits_no_more begins rest marks text letters still some none f = let m = still.back f in no_cut begins rest m.0 some none m.1

pub same_cut : (found other : Piece × List Letter) (begins : Bool) (rest : List Letter) → piece_at begins rest ≡ Some found
    → piece_at begins rest ≡ Some other → found ≡ other
same_cut found other begins rest e f = let g : Some found ≡ Some other = sym e ∙ f in cc

as_many_later : (p : Piece) (begun : Bool) (marks : List Bool) (text : List ℕ) → length marks ≡ length text
    → length (later_marks p begun marks text) ≡ length text
unfolding later_marks
as_many_later p begun [] text e = e
as_many_later p begun (m ∷ marks) [] e = refl
as_many_later p begun (m ∷ marks) (b ∷ text) e = ap suc (as_many_later p (m || (begun && may_go_on p b)) marks text (omega (arith, e)))

as_many_behind : (p : Piece) (marks : List Bool) (text : List ℕ) → length marks ≡ suc (length text)
    → length (marks_behind p marks text) ≡ suc (length text)
as_many_behind p [] text e = e
as_many_behind p (m ∷ marks) text e = ap suc (as_many_later p m marks text (omega (arith, e)))

cut_behind : (p : Piece) (behind : List Letter) (begins : Bool) (rest : List Letter) (marks : List Bool) (text : List ℕ) (ps : List Piece)
    → piece_at begins rest ≡ Some (p, behind) → length marks ≡ suc (length text) → Cut begins rest ps → holds marks text (are_taken ps) ≡ true
    → MayFit (ends_part p) behind (marks_behind p marks text) text
cut_behind p behind begins rest marks text [] e places none h =
    let never : piece_at begins rest ≡ None = ap (piece_at begins) none in absurd (cc)
cut_behind p behind begins rest marks text (r ∷ ps) e places c h =
    let same = same_cut (r, c.0) (p, behind) begins rest c.1 e in
    let piece : r ≡ p = ap (λ (x : Piece × List Letter). x.0) same in
    let after : c.0 ≡ behind = ap (λ (x : Piece × List Letter). x.1) same in
    let cut_here : Cut (ends_part p) behind ps = subst (λ (x : Piece × List Letter). Cut (ends_part x.0) x.1 ps) same c.2 in
    (ps, cut_here, holds_behind p marks text (are_taken ps) places ∙ subst (λ (x : Piece). holds marks text (followed x (are_taken ps)) ≡ true) piece h)

pub still_fits_behind : (p : Piece) (behind : List Letter) (begins : Bool) (rest : List Letter) (marks : List Bool) (text : List ℕ) (letters : List Letter)
    → piece_at begins rest ≡ Some (p, behind) → StillFits begins rest marks text letters → StillFits (ends_part p) behind (marks_behind p marks text) text letters
still_fits_behind p behind begins rest marks text letters e still = record {
  places = as_many_behind p marks text still.places;
  on = λ m. still.on (p ∷ m.0, (behind, e, m.1), sym (holds_behind p marks text (are_taken m.0) still.places) ∙ m.2);
  back = λ f. let m = still.back f in cut_behind p behind begins rest marks text m.0 e still.places m.1 m.2;
}

-- no piece takes nothing but the empty text
holds_later_at_end : (marks : List Bool) (b : ℕ) (text : List ℕ) → length marks ≡ length (b ∷ text)
    → holds_later marks (b ∷ text) (are_taken []) ≡ get_or marks (length text) false
holds_later_at_end [] b text e = absurd (cc)
holds_later_at_end (m ∷ []) b [] e = or_false (m && true) ∙ and_true m
holds_later_at_end (m ∷ n ∷ marks) b [] e = absurd (omega (arith, e))
holds_later_at_end (m ∷ marks) b (c ∷ text) e =
    ap (λ (r : Bool). r || holds_later marks (c ∷ text) (are_taken [])) (and_false m) ∙ holds_later_at_end marks c text (omega (arith, e))

holds_at_end : (marks : List Bool) (text : List ℕ) → length marks ≡ suc (length text)
    → holds marks text (are_taken []) ≡ get_or marks (length text) false
holds_at_end [] text e = absurd (cc)
holds_at_end (m ∷ []) [] e = or_false (m && true) ∙ and_true m
holds_at_end (m ∷ n ∷ marks) [] e = absurd (omega (arith, e))
holds_at_end (m ∷ marks) (b ∷ text) e =
    ap (λ (r : Bool). r || holds_later marks (b ∷ text) (are_taken [])) (and_false m) ∙ holds_later_at_end marks b text (omega (arith, e))

cut_nothing : (begins : Bool) (ps : List Piece) → Cut begins [] ps → ps ≡ []
cut_nothing begins [] c = refl
cut_nothing begins (p ∷ ps) c = let e = c.1 in absurd (cc)

pub fits_at_end : (begins : Bool) (rest : List Letter) (marks : List Bool) (text : List ℕ) (letters : List Letter)
    → StillFits begins rest marks text letters
    → length rest ≡ 0 → (get_or marks (length text) false ≡ true) ↔ Fits letters text
fits_at_end begins [] marks text letters still none =
    let e = holds_at_end marks text still.places in (
      λ h. still.on ([], refl, e ∙ h),
      λ f. let m = still.back f in sym e ∙ subst (λ (ps : List Piece). holds marks text (are_taken ps) ≡ true) (cut_nothing begins m.0 m.1) m.2,
    )
fits_at_end begins (a ∷ rest) marks text letters still none = absurd (omega arith)

pub still_fits_next : (p : Piece) (behind : List Letter) (begins : Bool) (rest : List Letter) (marks : List Bool) (text : List ℕ) (letters : List Letter) (begins_now : Bool) (marks_now : List Bool)
    → Some (p, behind) ≡ piece_at begins rest → begins_now ≡ ends_part p → marks_now ≡ marks_behind p marks text
    → StillFits begins rest marks text letters → StillFits begins_now behind marks_now text letters
still_fits_next p behind begins rest marks text letters begins_now marks_now e f g still =
    subst (λ (t : Bool). StillFits t behind marks_now text letters) (sym f)
    (subst (λ (ms : List Bool). StillFits (ends_part p) behind ms text letters) (sym g) (still_fits_behind p behind begins rest marks text letters (sym e) still))
