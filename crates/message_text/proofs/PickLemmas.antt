-- The messages of picks and reverts, piece by piece.
use Rattle.std.proofs.Common.{◌≡◌, ℕ, true, false, List, [], ◌∷◌, ◌++◌, sym, ap, ◌∙◌, append_assoc}
use Rattle.std.proofs.lemmas.Bool.{cond-true, cond-false}
use Rattle.std.proofs.lemmas.List.{append-nil}
use Rattle.std.specs.Prelude.{codes}
use Rattle.hex.specs.Hex.{encode_lower}
use Rattle.message_text.specs.Lines.{text_of, body}
use Rattle.message_text.specs.Picked.{has_trailers, picked_text}

-- a line of three pieces, with its line feed
abbrev pub line_of : List ℕ → List ℕ → List ℕ → List ℕ
line_of front middle end = (front ++ middle ++ end) ++ 10 ∷ []

-- the line that tells of a pick
abbrev pub pick_line : List ℕ → List ℕ
pick_line id = line_of (codes "(cherry picked from commit ") (encode_lower id) (codes ")")

pub picked_text-close : (text id : List ℕ) → has_trailers (body text) ≡ true → picked_text text id ≡ ([] ++ (body text ++ 10 ∷ [])) ++ pick_line id
unfolding picked_text
picked_text-close text id ends =
    ap (λ ls. text_of (body text ∷ ls ++ (codes "(cherry picked from commit " ++ encode_lower id ++ codes ")") ∷ [])) (cond-true _ _ _ ends)
    ∙ ap (λ x. (body text ++ 10 ∷ []) ++ x) (append-nil (pick_line id))

pub picked_text-apart : (text id : List ℕ) → has_trailers (body text) ≡ false
    → picked_text text id ≡ (([] ++ (body text ++ 10 ∷ [])) ++ ([] ++ 10 ∷ [])) ++ pick_line id
unfolding picked_text
picked_text-apart text id fails =
    ap (λ ls. text_of (body text ∷ ls ++ (codes "(cherry picked from commit " ++ encode_lower id ++ codes ")") ∷ [])) (cond-false _ _ _ fails)
    ∙ ap (λ x. (body text ++ 10 ∷ []) ++ 10 ∷ x) (append-nil (pick_line id))
    ∙ sym (append_assoc (body text ++ 10 ∷ []) (10 ∷ []) (pick_line id))

pub one_line : (old new line : List ℕ) → new ≡ old ++ line → new ≡ old ++ (line ++ [])
one_line old new line e = e ∙ ap (λ x. old ++ x) (sym (append-nil line))

pub two_lines : (old between new first second : List ℕ) → between ≡ old ++ first → new ≡ between ++ second → new ≡ old ++ (first ++ (second ++ []))
two_lines old between new first second e f =
    f ∙ ap (λ x. x ++ second) e ∙ append_assoc old first second ∙ ap (λ x. old ++ (first ++ x)) (sym (append-nil second))

pub ruleset pick_steps = (picked_text-close, picked_text-apart)
