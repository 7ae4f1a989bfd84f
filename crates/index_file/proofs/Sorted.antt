-- The order of entries: the last one and the fronts of its path tell what all of them tell.
use Rattle.std.proofs.Common.{◌≡◌, ◌⊎◌, inl, inr, ℕ, suc, ◌-◌, Bool, true, false, not, ◌&&◌, ◌||◌, ◌==◌, nat_lt, cond, List, [], ◌∷◌, ◌++◌, length, set, Option, Some, None, refl, sym, ap, subst, ◌∙◌, arith}
use Rattle.std.specs.Prelude.{slice_get, IfSome, filter, map}
use Rattle.std.specs.List.{AllByRecursion, list_all, list_any}
use Rattle.std.specs.Cmp.Lexicographic.{slice_cmp, nat_list_cmp_total, nat_list_eq_equiv}
use Rattle.std.specs.Ordering.{nat_cmp, is_lt, is_le, is_eq}
use Rattle.std.specs.declared.cmp.Ordering.{Ordering}
use Rattle.std.specs.declared.cmp.Ordering.TheVariants.{Less, Equal, Greater}
use Rattle.std.proofs.lemmas.Bool.Decides.{nat_tests}
use Rattle.std.proofs.lemmas.Cmp.{same_from_slice_cmp}
use Rattle.std.proofs.lemmas.Map.Text.{is_eq-slice_cmp}
use Rattle.std.proofs.lemmas.Map.Lookups.{exact_bytes}
use Rattle.seq_base.specs.World.{is_below}
use Rattle.index_file.specs.declared.entry.IndexEntry.{IndexEntry}
use Rattle.index_file.specs.Entries.{comes_before, holds, may_precede, IsInOrder}
use Rattle.index_file.specs.Fronts.{files_of, fronts, is_below_front, last_of, allows, path_of, HoldsFronts, may_follow}
use Rattle.index_file.proofs.FrontLaws.{at_most, AllAtMost, carried, carried_is, below_is, fronts_more}

-- ---- one before the other

abbrev pub by_order : Ordering → Bool → Bool
by_order Less b = true
by_order Equal b = b
by_order Greater b = false

by_parts : (o : Ordering) (b : Bool) → is_lt o || (is_eq o && b) ≡ by_order o b
by_parts Less b = refl
by_parts Equal b = refl
by_parts Greater b = refl

abbrev stages : IndexEntry → IndexEntry → Bool
stages d e = nat_lt 0 d.stage && nat_lt d.stage e.stage

pub before_is : (d e : IndexEntry) → comes_before d e ≡ by_order (slice_cmp nat_cmp d.path e.path) (nat_lt 0 d.stage && nat_lt d.stage e.stage)
before_is d e =
    ap (λ (b : Bool). is_lt (slice_cmp nat_cmp d.path e.path) || (b && stages d e)) (sym (is_eq-slice_cmp d.path e.path))
    ∙ by_parts (slice_cmp nat_cmp d.path e.path) (stages d e)

both : (a b : Bool) → a && b ≡ true → (a ≡ true) × (b ≡ true)
both true b e = (refl, e)
both false b e = cc

-- how it comes before
abbrev Way : IndexEntry → IndexEntry → Type 0
Way d e = (slice_cmp nat_cmp d.path e.path ≡ Less) ⊎ ((d.path ≡ e.path) × (stages d e ≡ true))

way_by : (d e : IndexEntry) (o : Ordering) → slice_cmp nat_cmp d.path e.path ≡ o → by_order o (stages d e) ≡ true → Way d e
way_by d e Less p h = inl p
way_by d e Equal p h = inr (exact_bytes d.path e.path p, h)
way_by d e Greater p h = cc

way : (d e : IndexEntry) → comes_before d e ≡ true → Way d e
way d e h = way_by d e (slice_cmp nat_cmp d.path e.path) refl (sym (before_is d e) ∙ h)

equal_from : (o : Ordering) → is_eq o ≡ true → o ≡ Equal
equal_from Equal h = refl
equal_from Less h = cc
equal_from Greater h = cc

itself : (p : List ℕ) → slice_cmp nat_cmp p p ≡ Equal
itself p = equal_from (slice_cmp nat_cmp p p) (is_eq-slice_cmp p p ∙ nat_list_eq_equiv.refl p)

from_less : (d e : IndexEntry) → slice_cmp nat_cmp d.path e.path ≡ Less → comes_before d e ≡ true
from_less d e h = before_is d e ∙ ap (λ (o : Ordering). by_order o (stages d e)) h

from_same : (d e : IndexEntry) → d.path ≡ e.path → stages d e ≡ true → comes_before d e ≡ true
from_same d e p h =
    before_is d e ∙ ap (λ (o : Ordering). by_order o (stages d e)) (ap (λ (x : List ℕ). slice_cmp nat_cmp x e.path) p ∙ itself e.path) ∙ h

stages_chain : (a b c : ℕ) → nat_lt 0 a && nat_lt a b ≡ true → nat_lt 0 b && nat_lt b c ≡ true → nat_lt 0 a && nat_lt a c ≡ true
stages_chain a b c p q = grind (arith, nat_tests)

before_chain : (d f e : IndexEntry) → comes_before d f ≡ true → comes_before f e ≡ true → comes_before d e ≡ true
before_chain d f e p q = elim (way d f p) [
  | inl less ↦ elim (way f e q) [
    | inl lesser ↦ from_less d e (nat_list_cmp_total.trans d.path f.path e.path less lesser)
    | inr same ↦ from_less d e (sym (ap (λ (x : List ℕ). slice_cmp nat_cmp d.path x) same.0) ∙ less)
  ]
  | inr same ↦ elim (way f e q) [
    | inl less ↦ from_less d e (ap (λ (x : List ℕ). slice_cmp nat_cmp x e.path) same.0 ∙ less)
    | inr also ↦ from_same d e (same.0 ∙ also.0) (stages_chain d.stage f.stage e.stage same.1 also.1)
  ]
]

is_upto : (xs ys : List ℕ) (o : Ordering) → o ≡ slice_cmp nat_cmp xs ys → is_le o ≡ at_most xs ys
is_upto = same_from_slice_cmp nat_cmp is_le at_most refl (λ _ _. refl) (λ _ _. refl) (λ x y xs ys o h. grind (arith, nat_tests))

most_itself : (p : List ℕ) → at_most p p ≡ true
most_itself p = sym (is_upto p p Equal (sym (itself p)))

comes_most : (d e : IndexEntry) → comes_before d e ≡ true → at_most d.path e.path ≡ true
comes_most d e h = elim (way d e h) [
  | inl less ↦ sym (is_upto d.path e.path Less (sym less))
  | inr same ↦ ap (λ (x : List ℕ). at_most x e.path) same.0 ∙ most_itself e.path
]

-- ---- the last entry

two_less : (n : ℕ) → suc (suc n) - 1 ≡ suc n
two_less n = omega arith

one_less : (n : ℕ) → n ≡ suc n - 1
one_less n = omega arith

last_more : (d f : IndexEntry) (es : List IndexEntry) → last_of (d ∷ f ∷ es) ≡ last_of (f ∷ es)
last_more d f es = ap (slice_get (d ∷ f ∷ es)) (two_less (length es)) ∙ ap (slice_get (f ∷ es)) (one_less (length es))

last_push : (es : List IndexEntry) (e : IndexEntry) → last_of (es ++ e ∷ []) ≡ Some e
last_push [] e = refl
last_push (d ∷ []) e = last_more d e []
last_push (d ∷ f ∷ es) e = last_more d f (es ++ e ∷ []) ∙ last_push (f ∷ es) e

last_has : (P : IndexEntry → Type 0) (f : IndexEntry) (es : List IndexEntry) → AllByRecursion P (f ∷ es) → IfSome (last_of (f ∷ es)) P
last_has P f [] h = h.0
last_has P f (g ∷ es) h = let Q : Option IndexEntry → Type 0 = λ o. IfSome o P in subst Q (sym (last_more f g es)) (last_has P g es h.1)

-- ---- all of them by the last

precede_before : (d e : IndexEntry) → may_precede d e ≡ true → comes_before d e ≡ true
precede_before d e h = (both (comes_before d e) (not (holds d e)) h).0

first_too : (a b : Bool) → (b ≡ true → a ≡ true) → a && b ≡ b
first_too true b h = refl
first_too false true h = h refl
first_too false false h = refl

all_before : (es : List IndexEntry) (e : IndexEntry) → IsInOrder es → list_all (λ d. comes_before d e) es ≡ allows (last_of es) e
all_before [] e h = refl
all_before (d ∷ []) e h = elim (comes_before d e) as (λ b. b && true ≡ b) [ true ↦ refl | false ↦ refl ]
all_before (d ∷ f ∷ es) e h =
    first_too (comes_before d e) (list_all (λ d. comes_before d e) (f ∷ es))
    (λ all. before_chain d f e (precede_before d f h.0.0) (both (comes_before f e) (list_all (λ d. comes_before d e) es) all).0)
    ∙ all_before (f ∷ es) e h.1 ∙ ap (λ (o : Option IndexEntry). allows o e) (sym (last_more d f es))

shuffled : (a h m a' h' : Bool) → m ≡ a' && not h' → (a && not h) && m ≡ (a && a') && not (h || h')
shuffled true true m a' h' e = elim a' as (λ b. false ≡ b && false) [ true ↦ refl | false ↦ refl ]
shuffled true false m a' h' e = e
shuffled false h m a' h' e = refl

follow_split : (es : List IndexEntry) (e : IndexEntry) → may_follow es e ≡ list_all (λ d. comes_before d e) es && not (list_any (λ d. holds d e) es)
follow_split [] e = refl
follow_split (d ∷ es) e =
    shuffled (comes_before d e) (holds d e) (may_follow es e) (list_all (λ d. comes_before d e) es) (list_any (λ d. holds d e) es) (follow_split es e)

and_false : (b : Bool) → false ≡ b && false
and_false true = refl
and_false false = refl

held_by : (s t x l : Bool) (d : IndexEntry) (test : List ℕ → Bool) (es : List IndexEntry) → test d.path ≡ x
    → l ≡ t && list_any test (map (λ e. e.path) es)
    → (s && (t && x)) || l ≡ t && list_any test (map (λ e. e.path) (cond s (d ∷ es) es))
held_by true true x l d test es p q = rw (p, q) refl
held_by true false x l d test es p q = q
held_by false t x l d test es p q = q

any_holds : (es : List IndexEntry) (e : IndexEntry)
    → list_any (λ d. holds d e) es ≡ (e.stage == 0) && list_any (λ file. is_below file e.path) (files_of es)
any_holds [] e = and_false (e.stage == 0)
any_holds (d ∷ es) e =
    held_by (d.stage == 0) (e.stage == 0) (is_below d.path e.path) (list_any (λ d. holds d e) es) d (λ file. is_below file e.path) (filter (λ e. e.stage == 0) es) refl (any_holds es e)

follow_is : (es : List IndexEntry) (e : IndexEntry) → IsInOrder es
    → may_follow es e ≡ allows (last_of es) e && not ((e.stage == 0) && is_below_front (fronts (files_of es) e.path) e.path)
follow_is es e h = follow_split es e ∙ rw (all_before es e h, any_holds es e, below_is (files_of es) e.path) refl

-- ---- what the marks say

most_by : (s : Bool) (d : IndexEntry) (es : List IndexEntry) (last : List ℕ) → at_most d.path last ≡ true → AllAtMost (map (λ e. e.path) es) last
    → AllAtMost (map (λ e. e.path) (cond s (d ∷ es) es)) last
most_by true d es last p q = rw p q
most_by false d es last p q = q

most_last : (d : IndexEntry) (o : Option IndexEntry) (e : IndexEntry) → o ≡ Some e → IfSome o (λ e. may_precede d e ≡ true)
    → at_most d.path (path_of o) ≡ true
most_last d (Some f) e eq h = comes_most d f (precede_before d f h)
most_last d None e eq h = cc

some_last : (f : IndexEntry) (es : List IndexEntry) → (e : IndexEntry) × (last_of (f ∷ es) ≡ Some e)
some_last f [] = (f, refl)
some_last f (g ∷ es) = let r = some_last g es in (r.0, last_more f g es ∙ r.1)

all_most : (es : List IndexEntry) → IsInOrder es → AllAtMost (files_of es) (path_of (last_of es))
all_most [] h = refl
all_most (d ∷ []) h = most_by (d.stage == 0) d [] d.path (most_itself d.path) refl
all_most (d ∷ f ∷ es) h =
    let last = some_last f es in
    let P : Option IndexEntry → Type 0 = λ o. AllAtMost (files_of (d ∷ f ∷ es)) (path_of o) in
    subst P (sym (last_more d f es))
    (most_by (d.stage == 0) d (filter (λ e. e.stage == 0) (f ∷ es)) (path_of (last_of (f ∷ es)))
    (most_last d (last_of (f ∷ es)) last.0 last.1 (last_has (λ e. may_precede d e ≡ true) f es h.0)) (all_most (f ∷ es) h.1))

allows_most : (o : Option IndexEntry) (e : IndexEntry) → allows o e ≡ true → at_most (path_of o) e.path ≡ true
allows_most None e h = refl
allows_most (Some d) e h = comes_most d e h

-- ---- one entry more

files_by : (s t : Bool) (d e : IndexEntry) (es more : List IndexEntry)
    → map (λ e. e.path) more ≡ cond t (map (λ e. e.path) es ++ e.path ∷ []) (map (λ e. e.path) es)
    → map (λ e. e.path) (cond s (d ∷ more) more) ≡ cond t (map (λ e. e.path) (cond s (d ∷ es) es) ++ e.path ∷ []) (map (λ e. e.path) (cond s (d ∷ es) es))
files_by true true d e es more h = ap (λ (ps : List (List ℕ)). d.path ∷ ps) h
files_by true false d e es more h = ap (λ (ps : List (List ℕ)). d.path ∷ ps) h
files_by false t d e es more h = h

one_file : (t : Bool) (e : IndexEntry) → map (λ e. e.path) (cond t (e ∷ []) []) ≡ cond t (e.path ∷ []) []
one_file true e = refl
one_file false e = refl

files_push : (es : List IndexEntry) (e : IndexEntry) → files_of (es ++ e ∷ []) ≡ cond (e.stage == 0) (files_of es ++ e.path ∷ []) (files_of es)
files_push [] e = one_file (e.stage == 0) e
files_push (d ∷ es) e =
    files_by (d.stage == 0) (e.stage == 0) d e (filter (λ e. e.stage == 0) es) (filter (λ e. e.stage == 0) (es ++ e ∷ [])) (files_push es e)

all_push : (P : IndexEntry → Type 0) (es : List IndexEntry) (e : IndexEntry) → AllByRecursion P es → P e → AllByRecursion P (es ++ e ∷ [])
all_push P [] e h p = (p, tt)
all_push P (d ∷ es) e h p = (h.0, all_push P es e h.1 p)

pub in_order_push : (es : List IndexEntry) (e : IndexEntry) → IsInOrder es → may_follow es e ≡ true → IsInOrder (es ++ e ∷ [])
in_order_push [] e h p = (tt, tt)
in_order_push (d ∷ es) e h p =
    let s = both (may_precede d e) (may_follow es e) p in
    (all_push (λ f. may_precede d f ≡ true) es e h.0 s.0, in_order_push es e h.1 s.1)

-- ---- what `place` answers

pub not_after : (es : List IndexEntry) (e : IndexEntry) → IsInOrder es → allows (last_of es) e ≡ false → may_follow es e ≡ false
not_after es e h p = follow_is es e h ∙ ap (λ (b : Bool). b && not ((e.stage == 0) && is_below_front (fronts (files_of es) e.path) e.path)) p

marks_are : (es : List IndexEntry) (marks moved : List Bool) (e : IndexEntry) → HoldsFronts es marks → allows (last_of es) e ≡ true
    → moved ≡ carried (path_of (last_of es)) marks e.path → moved ≡ fronts (files_of es) e.path
marks_are es marks moved e h p q =
    q ∙ ap (λ (ms : List Bool). carried (path_of (last_of es)) ms e.path) h.fronts
    ∙ carried_is (files_of es) (path_of (last_of es)) e.path (all_most es h.in_order) (allows_most (last_of es) e p)

push_path : (es : List IndexEntry) (e : IndexEntry) (files : List (List ℕ)) → fronts files e.path ≡ fronts files (path_of (last_of (es ++ e ∷ [])))
push_path es e files = ap (λ (o : Option IndexEntry). fronts files (path_of o)) (sym (last_push es e))

pub placed_other : (es : List IndexEntry) (marks moved : List Bool) (e : IndexEntry) → HoldsFronts es marks → allows (last_of es) e ≡ true
    → moved ≡ carried (path_of (last_of es)) marks e.path → (e.stage == 0) ≡ false
    → (may_follow es e ≡ true) × HoldsFronts (es ++ e ∷ []) moved
placed_other es marks moved e h p q other =
    let follows : may_follow es e ≡ true = follow_is es e h.in_order ∙ rw (p, other) refl in (
      follows,
      record {
        in_order = in_order_push es e h.in_order follows;
        fronts =
            marks_are es marks moved e h p q ∙ ap (λ (fs : List (List ℕ)). fronts fs e.path) (sym (files_push es e ∙ rw other refl))
            ∙ push_path es e (files_of (es ++ e ∷ []));
      },
    )

pub placed_file : (es : List IndexEntry) (marks moved : List Bool) (e : IndexEntry) (below : Bool) → HoldsFronts es marks
    → allows (last_of es) e ≡ true → moved ≡ carried (path_of (last_of es)) marks e.path → (e.stage == 0) ≡ true
    → below ≡ is_below_front moved e.path → (not below ≡ may_follow es e) × (not below ≡ true → HoldsFronts (es ++ e ∷ []) (set moved (length e.path) true))
placed_file es marks moved e below h p q file is =
    let marked = marks_are es marks moved e h p q in
    let follows : not below ≡ may_follow es e = ap not (is ∙ ap (λ (ms : List Bool). is_below_front ms e.path) marked) ∙ sym (follow_is es e h.in_order ∙ rw (p, file) refl) in (
      follows,
      λ free. record {
        in_order = in_order_push es e h.in_order (sym follows ∙ free);
        fronts =
            ap (λ (ms : List Bool). set ms (length e.path) true) marked ∙ sym (fronts_more (files_of es) e.path)
            ∙ ap (λ (fs : List (List ℕ)). fronts fs e.path) (sym (files_push es e ∙ rw file refl)) ∙ push_path es e (files_of (es ++ e ∷ []));
      },
    )
