-- What the words of a text are made of.
use Rattle.std.proofs.Common.{◌≡◌, ℕ, ◌+◌, ◌-◌, ◌<◌, Bool, true, false, cond, List, [], ◌∷◌, ◌++◌, length, get_or, take, refl, sym, ap, ◌∙◌, arith, length-append, take_all}
use Rattle.std.specs.Prelude.{◌&&◌}
use Rattle.std.specs.List.{list_all}
use Rattle.std.proofs.lemmas.List.{take_more}
use Rattle.std.proofs.Math.Seq.{take-append_seam}
use Rattle.todo_text.specs.Words.{to_word, up_to_blank, from_blank}
use Rattle.seq_base.specs.Blanks.{is_blank}

-- the word and what stands behind it are all
pub word_then_blank : (text : List ℕ) → up_to_blank text ++ from_blank text ≡ text
word_then_blank [] = refl
word_then_blank (b ∷ bs) =
    elim (is_blank b) as (λ (v : Bool). cond v [] (b ∷ up_to_blank bs) ++ cond v (b ∷ bs) (from_blank bs) ≡ b ∷ bs)
    [ true ↦ refl | false ↦ ap (λ (xs : List ℕ). b ∷ xs) (word_then_blank bs) ]

front_of : (a b : List ℕ) → take (length (a ++ b) - length b) (a ++ b) ≡ a
front_of a b = let n : length (a ++ b) - length b ≡ length a = omega (arith, length-append a b) in ap (λ k. take k (a ++ b)) n ∙ take-append_seam a b

-- the word, by how long the rest is
pub word_is : (text rest : List ℕ) → rest ≡ from_blank text → take (length text - length rest) text ≡ up_to_blank text
word_is text rest e =
    ap (λ (r : List ℕ). take (length text - length r) text) e
    ∙ ap (λ (t : List ℕ). take (length t - length (from_blank text)) t) (sym (word_then_blank text))
    ∙ front_of (up_to_blank text) (from_blank text)

blanks_all : (front : List ℕ) (last : ℕ) → list_all is_blank (front ++ last ∷ []) ≡ (list_all is_blank front && is_blank last)
blanks_all [] last = elim (is_blank last) as (λ (v : Bool). (v && true) ≡ v) [ true ↦ refl | false ↦ refl ]
blanks_all (b ∷ bs) last =
    elim (is_blank b) as (λ (v : Bool). (v && list_all is_blank (bs ++ last ∷ [])) ≡ ((v && list_all is_blank bs) && is_blank last))
    [ true ↦ blanks_all bs last | false ↦ refl ]

and_true : (v : Bool) → (v && true) ≡ v
and_true true = refl
and_true false = refl

and_false : (v : Bool) → (v && false) ≡ false
and_false true = refl
and_false false = refl

-- a blank at the end
pub to_word-blank : (front : List ℕ) (last : ℕ) → is_blank last ≡ true → to_word (front ++ last ∷ []) ≡ to_word front
to_word-blank [] last e = ap (λ (v : Bool). cond (v && true) [] (last ∷ [])) e
to_word-blank (b ∷ bs) last e =
    ap (λ (v : Bool). cond v [] (b ∷ to_word (bs ++ last ∷ []))) (blanks_all (b ∷ bs) last ∙ ap (λ (v : Bool). (list_all is_blank (b ∷ bs)) && v) e ∙ and_true _)
    ∙ ap (λ (t : List ℕ). cond (list_all is_blank (b ∷ bs)) [] (b ∷ t)) (to_word-blank bs last e)

-- no blank at the end
pub to_word-word : (front : List ℕ) (last : ℕ) → is_blank last ≡ false → to_word (front ++ last ∷ []) ≡ front ++ last ∷ []
to_word-word [] last e = ap (λ (v : Bool). cond (v && true) [] (last ∷ [])) e
to_word-word (b ∷ bs) last e =
    ap (λ (v : Bool). cond v [] (b ∷ to_word (bs ++ last ∷ []))) (blanks_all (b ∷ bs) last ∙ ap (λ (v : Bool). (list_all is_blank (b ∷ bs)) && v) e ∙ and_false _)
    ∙ ap (λ (t : List ℕ). b ∷ t) (to_word-word bs last e)

last_parts : (text : List ℕ) → 0 < length text → text ≡ take (length text - 1) text ++ get_or text (length text - 1) 0 ∷ []
last_parts text some =
    let n : length text - 1 + 1 ≡ length text = omega arith in
    let within : length text - 1 < length text = omega arith in
    sym (take_all (length text) text (omega arith)) ∙ ap (λ k. take k text) (sym n) ∙ take_more text (length text - 1) 0 within

pub last_blank : (text : List ℕ) → 0 < length text → is_blank (get_or text (length text - 1) 0) ≡ true
    → to_word (take (length text - 1) text) ≡ to_word text
last_blank text some e =
    sym (to_word-blank (take (length text - 1) text) (get_or text (length text - 1) 0) e) ∙ ap to_word (sym (last_parts text some))

pub last_word : (text : List ℕ) → 0 < length text → is_blank (get_or text (length text - 1) 0) ≡ false → to_word text ≡ text
last_word text some e =
    ap to_word (last_parts text some) ∙ to_word-word (take (length text - 1) text) (get_or text (length text - 1) 0) e ∙ sym (last_parts text some)
