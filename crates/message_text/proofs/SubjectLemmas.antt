-- The subject, line by line.
use Rattle.std.proofs.Common.{◌≡◌, ℕ, ◌+◌, Bool, true, false, cond, List, [], ◌∷◌, ◌++◌, refl, sym, ap, ◌∙◌, ⊎_elim, ◌⊎◌}
use Rattle.std.proofs.lemmas.Bool.{cases_Bool, cond-true, cond-false}
use Rattle.std.specs.Prelude.{map, not}
use Rattle.std.proofs.lemmas.List.{append-nil}
use Rattle.std.specs.List.{join_with_byte}
use Rattle.message_text.specs.Lines.{lines, is_empty, up_to, without_blanks}
use Rattle.message_text.specs.Paragraphs.{first_paragraph, subject}

-- what lines add to a subject that has begun, or not
abbrev pub subject_from : Bool → List (List ℕ) → List ℕ
subject_from has_begun [] = []
subject_from true (l ∷ ls) = cond (is_empty l) [] ((32 ∷ without_blanks l) ++ subject_from true ls)
subject_from false (l ∷ ls) = cond (is_empty l) (subject_from false ls) (without_blanks l ++ subject_from true ls)

joined-cons : (l : List ℕ) (ls : List (List ℕ))
    → join_with_byte 32 (map without_blanks (l ∷ up_to is_empty ls)) ≡ without_blanks l ++ subject_from true ls
joined-cons l [] = sym (append-nil (without_blanks l))
joined-cons l (m ∷ ls) =
    ⊎_elim
    (λ yes.
    ap (λ ms. join_with_byte 32 (map without_blanks (l ∷ ms))) (cond-true _ _ _ yes)
    ∙ sym (append-nil (without_blanks l)) ∙ ap (λ xs. without_blanks l ++ xs) (sym (cond-true _ _ _ yes)))
    (λ fails.
    ap (λ ms. join_with_byte 32 (map without_blanks (l ∷ ms))) (cond-false _ _ _ fails)
    ∙ ap (λ xs. without_blanks l ++ 32 ∷ xs) (joined-cons m ls) ∙ ap (λ xs. without_blanks l ++ xs) (sym (cond-false _ _ _ fails)))
    (cases_Bool (is_empty m))

subject_from-first : (ls : List (List ℕ)) → subject_from false ls ≡ join_with_byte 32 (map without_blanks (first_paragraph ls))
subject_from-first [] = refl
subject_from-first (l ∷ ls) =
    ⊎_elim
    (λ yes.
    cond-true _ _ _ yes ∙ subject_from-first ls
    ∙ ap (λ ms. join_with_byte 32 (map without_blanks (up_to is_empty ms))) (sym (cond-false _ _ _ (ap not yes))))
    (λ fails.
    cond-false _ _ _ fails ∙ sym (joined-cons l ls)
    ∙ ap (λ ms. join_with_byte 32 (map without_blanks ms)) (sym (cond-false _ _ _ fails))
    ∙ ap (λ ms. join_with_byte 32 (map without_blanks (up_to is_empty ms))) (sym (cond-true _ _ _ (ap not fails))))
    (cases_Bool (is_empty l))

pub subject-from : (text : List ℕ) → subject_from false (lines text) ≡ subject text
unfolding subject
subject-from text = subject_from-first (lines text)

pub ruleset subject_steps = subject-from
