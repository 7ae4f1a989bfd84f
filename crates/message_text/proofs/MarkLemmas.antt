-- A message with its first paragraph as comments, line by line.
use Rattle.std.proofs.Common.{◌≡◌, ℕ, ◌+◌, ◌<◌, Bool, true, false, cond, List, [], ◌∷◌, ◌++◌, length, refl, sym, ap, ◌∙◌, ⊎_elim, ◌⊎◌, arith, append_assoc}
use Rattle.std.proofs.lemmas.Bool.{cases_Bool, cond-true, cond-false}
use Rattle.std.proofs.lemmas.List.{append-nil}
use Rattle.std.proofs.lemmas.List.Splits.{join_with_byte-slice_split, length-slice_split}
use Rattle.std.specs.Prelude.{map, not}
use Rattle.std.specs.List.{join_with_byte}
use Rattle.message_text.specs.Lines.{lines, text_of, is_line_feed, is_empty, has_some, up_to, from}
use Rattle.message_text.specs.Paragraphs.{opening}
use Rattle.message_text.specs.Chain.{commented, with_first_commented}

-- what lines add where the paragraph has begun, or not, and has ended, or not
abbrev pub marked_from : Bool → Bool → List (List ℕ) → List ℕ
marked_from has_begun has_ended [] = []
marked_from has_begun has_ended (l ∷ ls) =
    cond (is_empty l) ((l ++ 10 ∷ []) ++ marked_from has_begun has_begun ls)
    (cond has_ended ((l ++ 10 ∷ []) ++ marked_from has_begun true ls)
    ((commented l ++ 10 ∷ []) ++ marked_from true false ls))

ended : (ls : List (List ℕ)) → marked_from true true ls ≡ text_of ls
ended [] = refl
ended (l ∷ ls) =
    ⊎_elim
    (λ yes. cond-true _ _ _ yes ∙ ap (λ t. (l ++ 10 ∷ []) ++ t) (ended ls))
    (λ fails. cond-false _ _ _ fails ∙ ap (λ t. (l ++ 10 ∷ []) ++ t) (ended ls))
    (cases_Bool (is_empty l))

inside : (ls : List (List ℕ)) → marked_from true false ls ≡ text_of (map commented (up_to is_empty ls) ++ from is_empty ls)
inside [] = refl
inside (l ∷ ls) =
    ⊎_elim
    (λ yes.
    cond-true _ _ _ yes ∙ ap (λ t. (l ++ 10 ∷ []) ++ t) (ended ls)
    ∙ ap (λ ms. text_of (map commented ms ++ l ∷ ls)) (sym (cond-true _ _ _ yes))
    ∙ ap (λ ms. text_of (map commented (up_to is_empty (l ∷ ls)) ++ ms)) (sym (cond-true _ _ _ yes)))
    (λ fails.
    cond-false _ _ _ fails ∙ ap (λ t. (commented l ++ 10 ∷ []) ++ t) (inside ls)
    ∙ ap (λ ms. text_of (map commented ms ++ from is_empty ls)) (sym (cond-false _ _ _ fails))
    ∙ ap (λ ms. text_of (map commented (up_to is_empty (l ∷ ls)) ++ ms)) (sym (cond-false _ _ _ fails)))
    (cases_Bool (is_empty l))

-- lines of which the first begins the paragraph, or does not
pub opening-empty : (l : List ℕ) (ls : List (List ℕ)) → is_empty l ≡ true → opening (l ∷ ls) ≡ l ∷ opening ls
opening-empty l ls none = cond-false _ _ _ (ap not none)

pub from-empty : (l : List ℕ) (ls : List (List ℕ)) → is_empty l ≡ true → from has_some (l ∷ ls) ≡ from has_some ls
from-empty l ls none = cond-false _ _ _ (ap not none)

pub opening-first : (l : List ℕ) (ls : List (List ℕ)) → is_empty l ≡ false → opening (l ∷ ls) ≡ []
opening-first l ls fails = cond-true _ _ _ (ap not fails)

pub from-first : (l : List ℕ) (ls : List (List ℕ)) → is_empty l ≡ false → from has_some (l ∷ ls) ≡ l ∷ ls
from-first l ls fails = cond-true _ _ _ (ap not fails)

-- the text by its three parts
shown : List (List ℕ) → List (List ℕ) → List (List ℕ)
shown front rest = front ++ map commented (up_to is_empty rest) ++ from is_empty rest

from_start : (ls : List (List ℕ)) → marked_from false false ls ≡ text_of (shown (opening ls) (from has_some ls))
unfolding shown
from_start [] = refl
from_start (l ∷ ls) =
    ⊎_elim
    (λ yes.
    cond-true _ _ _ yes ∙ ap (λ t. (l ++ 10 ∷ []) ++ t) (from_start ls)
    ∙ ap (λ ms. text_of (shown ms (from has_some ls))) (sym (opening-empty l ls yes))
    ∙ ap (λ ms. text_of (shown (opening (l ∷ ls)) ms)) (sym (from-empty l ls yes)))
    (λ fails.
    cond-false _ _ _ fails ∙ ap (λ t. (commented l ++ 10 ∷ []) ++ t) (inside ls)
    ∙ ap (λ ms. text_of (map commented ms ++ from is_empty ls)) (sym (cond-false _ _ _ fails))
    ∙ ap (λ ms. text_of (map commented (up_to is_empty (l ∷ ls)) ++ ms)) (sym (cond-false _ _ _ fails))
    ∙ ap (λ ms. text_of (shown ms (l ∷ ls))) (sym (opening-first l ls fails))
    ∙ ap (λ ms. text_of (shown (opening (l ∷ ls)) ms)) (sym (from-first l ls fails)))
    (cases_Bool (is_empty l))

pub marked-from : (text : List ℕ) → marked_from false false (lines text) ≡ text_of (with_first_commented (lines text))
unfolding shown with_first_commented
marked-from text = from_start (lines text)

-- lines joined by line feeds, and the line feed at the end
pub text_of-joined : (l : List ℕ) (ls : List (List ℕ)) → text_of (l ∷ ls) ≡ join_with_byte 10 (l ∷ ls) ++ 10 ∷ []
text_of-joined l [] = append-nil (l ++ 10 ∷ [])
text_of-joined l (m ∷ ls) =
    ap (λ t. (l ++ 10 ∷ []) ++ t) (text_of-joined m ls) ∙ append_assoc l (10 ∷ []) (join_with_byte 10 (m ∷ ls) ++ 10 ∷ [])
    ∙ sym (append_assoc l (10 ∷ join_with_byte 10 (m ∷ ls)) (10 ∷ []))

text_of-parts : (ls : List (List ℕ)) → 0 < length ls → text_of ls ≡ join_with_byte 10 ls ++ 10 ∷ []
text_of-parts [] some = absurd (omega arith)
text_of-parts (l ∷ ls) some = text_of-joined l ls

pub plain : (text : List ℕ) → text_of (lines text) ≡ text ++ 10 ∷ []
plain text =
    text_of-parts (lines text) (omega (arith, length-slice_split is_line_feed text)) ∙ ap (λ t. t ++ 10 ∷ []) (join_with_byte-slice_split 10 text)

pub ruleset mark_steps = marked-from

pub ruleset plain_steps = plain
