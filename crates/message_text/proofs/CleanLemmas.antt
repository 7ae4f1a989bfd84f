-- A cleaned text, line by line.
use Rattle.std.proofs.Common.{◌≡◌, ℕ, ◌+◌, Bool, true, false, cond, List, [], ◌∷◌, ◌++◌, refl, sym, ap, ◌∙◌, ⊎_elim, ◌⊎◌}
use Rattle.std.proofs.lemmas.Bool.{cases_Bool, cond-true, cond-false}
use Rattle.std.specs.Prelude.{map, not, ◌&&◌}
use Rattle.message_text.specs.Lines.{lines, is_empty, without_blanks}
use Rattle.message_text.proofs.ParagraphLemmas.{spaced_from, spaces}
use Rattle.message_text.specs.Cleaned.{is_comment, own_lines, cleaned}

-- what lines add to a cleaned text that has some, or not, and at whose end an empty line was dropped, or not
abbrev pub cleaned_from : Bool → Bool → List (List ℕ) → List ℕ
cleaned_from begun after_empty [] = []
cleaned_from begun after_empty (l ∷ ls) =
    cond (is_comment l) (cleaned_from begun after_empty ls)
    (cond (is_empty (without_blanks l)) (cleaned_from begun true ls)
    (cond (after_empty && begun) (10 ∷ []) [] ++ ((without_blanks l ++ 10 ∷ []) ++ cleaned_from true false ls)))

own_lines-from : (begun after_empty : Bool) (ls : List (List ℕ)) → cleaned_from begun after_empty ls ≡ spaced_from begun after_empty (own_lines ls)
own_lines-from begun after_empty [] = refl
own_lines-from begun after_empty (l ∷ ls) =
    ⊎_elim
    (λ yes.
    cond-true _ _ _ yes ∙ own_lines-from begun after_empty ls
    ∙ ap (λ ms. spaced_from begun after_empty (map without_blanks ms)) (sym (cond-false _ _ _ (ap not yes))))
    (λ fails.
    cond-false _ _ _ fails
    ∙ ap (λ x. cond (is_empty (without_blanks l)) x (cond (after_empty && begun) (10 ∷ []) [] ++ ((without_blanks l ++ 10 ∷ []) ++ cleaned_from true false ls))) (own_lines-from begun true ls)
    ∙ ap (λ x. cond (is_empty (without_blanks l)) (spaced_from begun true (own_lines ls)) (cond (after_empty && begun) (10 ∷ []) [] ++ ((without_blanks l ++ 10 ∷ []) ++ x))) (own_lines-from true false ls)
    ∙ ap (λ ms. spaced_from begun after_empty (map without_blanks ms)) (sym (cond-true _ _ _ (ap not fails))))
    (cases_Bool (is_comment l))

pub cleaned-from : (text : List ℕ) → cleaned_from false false (lines text) ≡ cleaned text
unfolding cleaned
cleaned-from text = own_lines-from false false (lines text) ∙ (spaces (own_lines (lines text))).start false

pub ruleset clean_steps = cleaned-from
