-- Paragraphs, line by line.
use Rattle.std.proofs.Common.{◌≡◌, ℕ, ◌+◌, ◌<◌, Bool, true, false, cond, List, [], ◌∷◌, ◌++◌, length, refl, sym, ap, ◌∙◌, ⊎_elim, ◌⊎◌, arith, append_assoc}
use Rattle.std.proofs.lemmas.Bool.{cases_Bool, cond-true, cond-false, ne_eqb}
use Rattle.std.proofs.lemmas.List.{append-nil}
use Rattle.std.proofs.lemmas.List.Splits.{slice_split-cons_yes, slice_split-cons_no, length-slice_split}
use Rattle.std.specs.Prelude.{not, filter, ◌&&◌}
use Rattle.std.specs.List.{slice_split, onto_first}
use Rattle.message_text.specs.Lines.{text_of, is_empty, has_some}
use Rattle.message_text.specs.Paragraphs.{paragraphs, spaced}

pub text_of-append : (a b : List (List ℕ)) → text_of (a ++ b) ≡ text_of a ++ text_of b
text_of-append [] b = refl
text_of-append (l ∷ a) b = ap (λ t. (l ++ 10 ∷ []) ++ t) (text_of-append a b) ∙ sym (append_assoc (l ++ 10 ∷ []) (text_of a) (text_of b))

-- the text of paragraphs, each behind an empty line
abbrev pub more : List (List (List ℕ)) → List ℕ
more [] = []
more (p ∷ ps) = (10 ∷ text_of p) ++ more ps

pub text_of-spaced : (p : List (List ℕ)) (ps : List (List (List ℕ))) → text_of (spaced (p ∷ ps)) ≡ text_of p ++ more ps
text_of-spaced p [] = sym (append-nil (text_of p))
text_of-spaced p (q ∷ ps) = text_of-append p ([] ∷ spaced (q ∷ ps)) ∙ ap (λ t. text_of p ++ 10 ∷ t) (text_of-spaced q ps)

-- the text of parts of which the first goes on with a paragraph
abbrev pub inside : List (List (List ℕ)) → List ℕ
inside [] = []
inside (h ∷ t) = text_of h ++ more (filter has_some t)

pub has_some-cons : {X : Type 0} → (x : X) (xs : List X) → has_some (x ∷ xs) ≡ true
has_some-cons x xs = let some : ¬ (length (x ∷ xs) ≡ 0) = λ e. absurd (omega arith) in ap not (ne_eqb _ _ some)

module _ (l : List ℕ) where
  inside-onto_first : (P : List (List (List ℕ))) → 0 < length P → inside (onto_first l P) ≡ (l ++ 10 ∷ []) ++ inside P
  inside-onto_first [] some = absurd (omega arith)
  inside-onto_first (h ∷ t) some = append_assoc (l ++ 10 ∷ []) (text_of h) (more (filter has_some t))

  more-onto_first : (P : List (List (List ℕ))) → 0 < length P → more (filter has_some (onto_first l P)) ≡ (10 ∷ []) ++ ((l ++ 10 ∷ []) ++ inside P)
  more-onto_first [] some = absurd (omega arith)
  more-onto_first (h ∷ t) some =
      ap more (cond-true _ _ _ (has_some-cons l h)) ∙ ap (λ x. 10 ∷ x) (append_assoc (l ++ 10 ∷ []) (text_of h) (more (filter has_some t)))

  spaced-onto_first : (P : List (List (List ℕ))) → 0 < length P → text_of (spaced (filter has_some (onto_first l P))) ≡ (l ++ 10 ∷ []) ++ inside P
  spaced-onto_first [] some = absurd (omega arith)
  spaced-onto_first (h ∷ t) some =
      ap (λ ps. text_of (spaced ps)) (cond-true _ _ _ (has_some-cons l h)) ∙ text_of-spaced (l ∷ h) (filter has_some t)
      ∙ append_assoc (l ++ 10 ∷ []) (text_of h) (more (filter has_some t))

pub some_parts : (ls : List (List ℕ)) → 0 < length (slice_split is_empty ls)
some_parts ls = omega (arith, length-slice_split is_empty ls)

-- what lines add to paragraphs that were written, or not, and behind which an empty line was dropped, or not
abbrev pub spaced_from : Bool → Bool → List (List ℕ) → List ℕ
spaced_from begun after_empty [] = []
spaced_from begun after_empty (l ∷ ls) =
    cond (is_empty l) (spaced_from begun true ls)
    (cond (after_empty && begun) (10 ∷ []) [] ++ ((l ++ 10 ∷ []) ++ spaced_from true false ls))

-- after a paragraph and an empty line; in a paragraph; at the start
pub record Spaces (ls : List (List ℕ)) : Type 0 where
  pub behind : spaced_from true true ls ≡ more (paragraphs ls)
  pub within : spaced_from true false ls ≡ inside (slice_split is_empty ls)
  pub start : (g : Bool) → spaced_from false g ls ≡ text_of (spaced (paragraphs ls))

and_false : (g : Bool) → (g && false) ≡ false
and_false true = refl
and_false false = refl

pub spaces : (ls : List (List ℕ)) → Spaces ls
spaces [] = record { behind = refl; within = refl; start = λ g. refl }
spaces (l ∷ ls) =
    let after = spaces ls in
    let some = some_parts ls in
    let P = slice_split is_empty ls in
    ⊎_elim
    (λ yes.
    let e = slice_split-cons_yes is_empty l ls yes in
    record {
      behind = cond-true _ _ _ yes ∙ after.behind ∙ ap (λ ps. more (filter has_some ps)) (sym e);
      within = cond-true _ _ _ yes ∙ after.behind ∙ ap inside (sym e);
      start = λ g. cond-true _ _ _ yes ∙ after.start true ∙ ap (λ ps. text_of (spaced (filter has_some ps))) (sym e);
    })
    (λ fails.
    let e = slice_split-cons_no is_empty l ls fails in
    record {
      behind =
          cond-false _ _ _ fails ∙ ap (λ x. (10 ∷ []) ++ ((l ++ 10 ∷ []) ++ x)) after.within ∙ sym (more-onto_first l P some)
          ∙ ap (λ ps. more (filter has_some ps)) (sym e);
      within = cond-false _ _ _ fails ∙ ap (λ x. (l ++ 10 ∷ []) ++ x) after.within ∙ sym (inside-onto_first l P some) ∙ ap inside (sym e);
      start = λ g.
          cond-false _ _ _ fails ∙ ap (λ b. cond b (10 ∷ []) [] ++ ((l ++ 10 ∷ []) ++ spaced_from true false ls)) (and_false g)
          ∙ ap (λ x. (l ++ 10 ∷ []) ++ x) after.within ∙ sym (spaced-onto_first l P some) ∙ ap (λ ps. text_of (spaced (filter has_some ps))) (sym e);
    })
    (cases_Bool (is_empty l))
