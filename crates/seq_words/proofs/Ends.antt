-- A text whose last byte is a carriage return, or is none.
use Rattle.std.proofs.Common.{◌≡◌, ℕ, ◌+◌, ◌-◌, ◌<◌, Bool, true, false, cond, List, [], ◌∷◌, ◌++◌, length, get_or, take, refl, sym, ap, ◌∙◌, arith, take_all}
use Rattle.std.specs.Prelude.{◌&&◌}
use Rattle.std.specs.List.{list_all}
use Rattle.std.proofs.lemmas.List.{take_more}
use Rattle.seq_model.specs.Faults.{is_return, without_returns}

returns_all : (front : List ℕ) (last : ℕ) → list_all is_return (front ++ last ∷ []) ≡ (list_all is_return front && is_return last)
returns_all [] last = elim (is_return last) as (λ (v : Bool). (v && true) ≡ v) [ true ↦ refl | false ↦ refl ]
returns_all (b ∷ bs) last =
    elim (is_return b) as (λ (v : Bool). (v && list_all is_return (bs ++ last ∷ [])) ≡ ((v && list_all is_return bs) && is_return last))
    [ true ↦ returns_all bs last | false ↦ refl ]

and_true : (v : Bool) → (v && true) ≡ v
and_true true = refl
and_true false = refl

and_false : (v : Bool) → (v && false) ≡ false
and_false true = refl
and_false false = refl

without_returns-return : (front : List ℕ) (last : ℕ) → is_return last ≡ true → without_returns (front ++ last ∷ []) ≡ without_returns front
without_returns-return [] last e = ap (λ (v : Bool). cond (v && true) [] (last ∷ [])) e
without_returns-return (b ∷ bs) last e =
    ap (λ (v : Bool). cond v [] (b ∷ without_returns (bs ++ last ∷ []))) (returns_all (b ∷ bs) last ∙ ap (λ (v : Bool). (list_all is_return (b ∷ bs)) && v) e ∙ and_true _)
    ∙ ap (λ (t : List ℕ). cond (list_all is_return (b ∷ bs)) [] (b ∷ t)) (without_returns-return bs last e)

without_returns-other : (front : List ℕ) (last : ℕ) → is_return last ≡ false → without_returns (front ++ last ∷ []) ≡ front ++ last ∷ []
without_returns-other [] last e = ap (λ (v : Bool). cond (v && true) [] (last ∷ [])) e
without_returns-other (b ∷ bs) last e =
    ap (λ (v : Bool). cond v [] (b ∷ without_returns (bs ++ last ∷ []))) (returns_all (b ∷ bs) last ∙ ap (λ (v : Bool). (list_all is_return (b ∷ bs)) && v) e ∙ and_false _)
    ∙ ap (λ (t : List ℕ). b ∷ t) (without_returns-other bs last e)

last_parts : (text : List ℕ) → 0 < length text → text ≡ take (length text - 1) text ++ get_or text (length text - 1) 0 ∷ []
last_parts text some =
    let n : length text - 1 + 1 ≡ length text = omega arith in
    let within : length text - 1 < length text = omega arith in
    sym (take_all (length text) text (omega arith)) ∙ ap (λ k. take k text) (sym n) ∙ take_more text (length text - 1) 0 within

pub last_return : (text : List ℕ) → 0 < length text → is_return (get_or text (length text - 1) 0) ≡ true
    → without_returns (take (length text - 1) text) ≡ without_returns text
last_return text some e =
    sym (without_returns-return (take (length text - 1) text) (get_or text (length text - 1) 0) e) ∙ ap without_returns (sym (last_parts text some))

pub last_other : (text : List ℕ) → 0 < length text → is_return (get_or text (length text - 1) 0) ≡ false → without_returns text ≡ text
last_other text some e =
    ap without_returns (last_parts text some) ∙ without_returns-other (take (length text - 1) text) (get_or text (length text - 1) 0) e
    ∙ sym (last_parts text some)
