-- A message without its first paragraph, line by line.
use Rattle.std.proofs.Common.{◌≡◌, ℕ, ◌+◌, Bool, true, false, cond, List, [], ◌∷◌, ◌++◌, length, length-append, refl, sym, ap, ◌∙◌, ⊎_elim, ◌⊎◌, arith}
use Rattle.std.proofs.lemmas.Bool.{cases_Bool, cond-true, cond-false, ne_eqb}
use Rattle.std.proofs.lemmas.List.Splits.{join_with_byte-slice_split}
use Rattle.std.specs.List.{join_with_byte}
use Rattle.message_text.specs.Lines.{lines, text_of, is_empty, has_some, from}
use Rattle.message_text.specs.Paragraphs.{opening}
use Rattle.message_text.specs.Chain.{without_first}
use Rattle.message_text.proofs.MarkLemmas.{opening-empty, opening-first, from-empty, from-first, text_of-joined}

-- what lines leave where the paragraph has begun, or not, is over, or not, and the rest is written, or not yet
abbrev pub kept_from : Bool → Bool → Bool → List (List ℕ) → List ℕ
kept_from has_begun is_over is_writing [] = []
kept_from has_begun is_over is_writing (l ∷ ls) =
    cond is_writing ((l ++ 10 ∷ []) ++ kept_from has_begun is_over is_writing ls)
    (cond (is_empty l) (cond has_begun (kept_from has_begun true is_writing ls) ((l ++ 10 ∷ []) ++ kept_from has_begun is_over is_writing ls))
    (cond is_over ((l ++ 10 ∷ []) ++ kept_from has_begun is_over true ls) (kept_from true is_over is_writing ls)))

written : (has_begun is_over : Bool) (ls : List (List ℕ)) → kept_from has_begun is_over true ls ≡ text_of ls
written has_begun is_over [] = refl
written has_begun is_over (l ∷ ls) = ap (λ t. (l ++ 10 ∷ []) ++ t) (written has_begun is_over ls)

over : (ls : List (List ℕ)) → kept_from true true false ls ≡ text_of (from has_some ls)
over [] = refl
over (l ∷ ls) =
    ⊎_elim
    (λ yes. cond-true _ _ _ yes ∙ over ls ∙ ap text_of (sym (from-empty l ls yes)))
    (λ fails. cond-false _ _ _ fails ∙ ap (λ t. (l ++ 10 ∷ []) ++ t) (written true true ls) ∙ ap text_of (sym (from-first l ls fails)))
    (cases_Bool (is_empty l))

inside : (ls : List (List ℕ)) → kept_from true false false ls ≡ text_of (from has_some (from is_empty ls))
inside [] = refl
inside (l ∷ ls) =
    ⊎_elim
    (λ yes. cond-true _ _ _ yes ∙ over ls ∙ ap text_of (sym (from-empty l ls yes)) ∙ ap (λ ms. text_of (from has_some ms)) (sym (cond-true _ _ _ yes)))
    (λ fails. cond-false _ _ _ fails ∙ inside ls ∙ ap (λ ms. text_of (from has_some ms)) (sym (cond-false _ _ _ fails)))
    (cases_Bool (is_empty l))

-- what is left of lines in two parts
left : List (List ℕ) → List (List ℕ) → List (List ℕ)
left front rest = front ++ from has_some (from is_empty rest)

from_start : (ls : List (List ℕ)) → kept_from false false false ls ≡ text_of (left (opening ls) (from has_some ls))
unfolding left
from_start [] = refl
from_start (l ∷ ls) =
    ⊎_elim
    (λ yes.
    cond-true _ _ _ yes ∙ ap (λ t. (l ++ 10 ∷ []) ++ t) (from_start ls)
    ∙ ap (λ ms. text_of (left ms (from has_some ls))) (sym (opening-empty l ls yes))
    ∙ ap (λ ms. text_of (left (opening (l ∷ ls)) ms)) (sym (from-empty l ls yes)))
    (λ fails.
    cond-false _ _ _ fails ∙ inside ls ∙ ap (λ ms. text_of (from has_some ms)) (sym (cond-false _ _ _ fails))
    ∙ ap (λ ms. text_of (left ms (l ∷ ls))) (sym (opening-first l ls fails))
    ∙ ap (λ ms. text_of (left (opening (l ∷ ls)) ms)) (sym (from-first l ls fails)))
    (cases_Bool (is_empty l))

-- a line feed alone where there is no line
joined-text_of : (ls : List (List ℕ)) → join_with_byte 10 ls ++ 10 ∷ [] ≡ cond (is_empty (text_of ls)) (10 ∷ []) (text_of ls)
joined-text_of [] = refl
joined-text_of (l ∷ ls) =
    let some : ¬ (length (text_of (l ∷ ls)) ≡ 0) = λ e. absurd (omega (arith, length-append (l ++ 10 ∷ []) (text_of ls), length-append l (10 ∷ []))) in
    sym (text_of-joined l ls) ∙ sym (cond-false _ _ _ (ne_eqb _ _ some))

pub kept-from : (text : List ℕ) → cond (is_empty (kept_from false false false (lines text))) (10 ∷ []) (kept_from false false false (lines text))
    ≡ join_with_byte 10 (without_first (lines text)) ++ 10 ∷ []
unfolding left without_first
kept-from text =
    ap (λ t. cond (is_empty t) (10 ∷ []) t) (from_start (lines text)) ∙ sym (joined-text_of (left (opening (lines text)) (from has_some (lines text))))

pub joined-lines : (text : List ℕ) → join_with_byte 10 (lines text) ≡ text
joined-lines text = join_with_byte-slice_split 10 text

pub ruleset kept_steps = kept-from

pub ruleset joined_steps = joined-lines
