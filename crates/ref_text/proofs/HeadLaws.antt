-- What HEAD's text says, and that it says nothing else.
use Rattle.std.proofs.Common.{◌≡◌, ℕ, Bool, true, false, cond, append-nil, ◌&&◌, List, [], ◌∷◌, ◌++◌, length, take, drop, Option, Some, None, Result, Ok, Err, inl, inr, refl, sym, ap, subst, ◌∙◌, length-append, arith}
use Rattle.std.specs.Prelude.{codes, nat_eq, unwrap_or}
use Rattle.std.specs.List.{starts_with}
use Rattle.std.specs.Option.{option_map}
use Rattle.std.proofs.lemmas.Bool.{cases_Bool}
use Rattle.std.proofs.Math.Seq.{take-append_seam}
use Rattle.hex.specs.Hex.{decode_of, is_hex_digit}
use Rattle.hex.specs.declared.error.FromHexError.{FromHexError}
use Rattle.hex.proofs.HexLemmas.{decode_of-ok}
use Rattle.seq_base.specs.First.{IsFirstFailing}
use Rattle.seq_base.specs.Ids.{SpellsId}
use Rattle.seq_base.specs.RefNames.{IsRefName, is_ref_name}
use Rattle.seq_base.proofs.RefPaths.{behind_front}
use Rattle.ref_text.specs.declared.head.Head.{Head}
use Rattle.ref_text.specs.declared.head.Head.TheVariants.{Branch, Detached}
use Rattle.ref_text.specs.Heads.{SpellsHead}
use Rattle.ref_text.specs.ReadHeads.{head_in, head_on, id_in, ok_of}

pub some_inj : {X : Type 0} {x y : X} → Some x ≡ Some y → x ≡ y
some_inj {X} {x} {y} e = ap (λ (o : Option X). unwrap_or o x) e

-- ---- the id of a line

decoded : (text : List ℕ) (at : ℕ) → IsFirstFailing is_hex_digit text at → (r : Result (List ℕ) FromHexError) → decode_of text ≡ r → ok_of r ≡ None
decoded text at bad (Ok bytes) is = let good = (decode_of-ok text bytes is).1 at 0 bad.within in let fails = bad.fails in absurd cc
decoded text at bad (Err e) is = refl

-- a text with a byte that is no digit
pub no_id : (text : List ℕ) (at : ℕ) → IsFirstFailing is_hex_digit text at → ok_of (decode_of text) ≡ None
no_id text at bad = decoded text at bad (decode_of text) refl

spelled : (text id : List ℕ) (r : Result (List ℕ) FromHexError) → ok_of r ≡ Some id → r ≡ Ok id
spelled text id (Ok bytes) is = ap Ok (some_inj is)
spelled text id (Err e) is = absurd cc

id_to_at : (forty : Bool) (text id : List ℕ) → (forty ≡ true → length text ≡ 40) → cond forty (ok_of (decode_of text)) None ≡ Some id
    → SpellsId id text
id_to_at true text id is h = record { forty = is refl; bytes = spelled text id (decode_of text) h }
id_to_at false text id is h = absurd cc

forty_of : (n : ℕ) → nat_eq n 40 ≡ true → n ≡ 40
forty_of n is = grind arith

pub id_to : (text id : List ℕ) → id_in text ≡ Some id → SpellsId id text
id_to text id h = id_to_at (nat_eq (length text) 40) text id (λ is. forty_of (length text) is) (unfold id_in in h)

pub id_from : (text id : List ℕ) → SpellsId id text → id_in text ≡ Some id
id_from text id h = unfold id_in in subst (λ (n : ℕ). cond (nat_eq n 40) (ok_of (decode_of text)) None ≡ Some id) (sym h.forty) (ap ok_of h.bytes)

-- ---- nothing else

pub no_hex : (id name : List ℕ) → SpellsId id (codes "ref: " ++ name) → ⊥
no_hex id name h = let k = (decode_of-ok (codes "ref: " ++ name) id h.bytes).1 0 0 (omega arith) in cc

pub same_line : (a b : List ℕ) → a ++ 10 ∷ [] ≡ b ++ 10 ∷ [] → a ≡ b
same_line a b e =
    let n : length a ≡ length b = omega (arith, ap length e, length-append a (10 ∷ []), length-append b (10 ∷ [])) in
    sym (take-append_seam a (10 ∷ [])) ∙ ap (take (length a)) e ∙ ap (λ (k : ℕ). take k (b ++ 10 ∷ [])) n ∙ take-append_seam b (10 ∷ [])

-- ---- a line

branch_to : (line : List ℕ) (h : Head) → starts_with nat_eq line (codes "ref: ") ≡ true → is_ref_name (drop 5 line) ≡ true → Branch (drop 5 line) ≡ h
    → SpellsHead h (line ++ 10 ∷ [])
branch_to line h begins is e =
    subst (λ (x : Head). SpellsHead x (line ++ 10 ∷ [])) e (is, ap (λ (l : List ℕ). l ++ 10 ∷ []) (behind_front (codes "ref: ") line begins))

digits_to : (line : List ℕ) (h : Head) (o : Option (List ℕ)) → id_in line ≡ o → option_map Detached o ≡ Some h → SpellsHead h (line ++ 10 ∷ [])
digits_to line h (Some id) is e = subst (λ (x : Head). SpellsHead x (line ++ 10 ∷ [])) (some_inj e) (line, id_to line id is, refl)
digits_to line h None is e = absurd cc

line_to_at : (begins named : Bool) (line : List ℕ) (h : Head) → starts_with nat_eq line (codes "ref: ") ≡ begins → is_ref_name (drop 5 line) ≡ named
    → head_on line (cond (begins && named) (Some (drop 5 line)) None) ≡ Some h → SpellsHead h (line ++ 10 ∷ [])
line_to_at true true line h begins named e = branch_to line h begins named (some_inj e)
line_to_at true false line h begins named e = digits_to line h (id_in line) refl e
line_to_at false named line h begins is e = digits_to line h (id_in line) refl e

-- what a line says it spells
pub line_to : (line : List ℕ) (h : Head) → head_in line ≡ Some h → SpellsHead h (line ++ 10 ∷ [])
line_to line h e = line_to_at _ _ line h refl refl (unfold head_in in e)

-- digits do not begin as a branch does
pub no_front : (id digits end : List ℕ) → SpellsId id digits → starts_with nat_eq (digits ++ end) (codes "ref: ") ≡ false
no_front id digits end h = elim (cases_Bool (starts_with nat_eq (digits ++ end) (codes "ref: "))) [
  | inl is ↦
      let e : digits ++ end ≡ codes "ref: " ++ drop 5 (digits ++ end) = behind_front (codes "ref: ") (digits ++ end) is in
      let same : digits ≡ codes "ref: " ++ take 35 (drop 5 (digits ++ end)) = sym (take-append_seam digits end) ∙ ap (λ (k : ℕ). take k (digits ++ end)) h.forty ∙ ap (take 40) e in
      absurd (no_hex id (take 35 (drop 5 (digits ++ end))) (subst (SpellsId id) same h))
  | inr not_so ↦ not_so
]

branch_from : (line name : List ℕ) → IsRefName name → line ≡ codes "ref: " ++ name → head_in line ≡ Some (Branch name)
branch_from line name is e = rw e (unfold head_in in rw is refl)

digits_from : (line id : List ℕ) → SpellsId id line → head_in line ≡ Some (Detached id)
digits_from line id h =
    unfold head_in in rw (subst (λ (l : List ℕ). starts_with nat_eq l (codes "ref: ") ≡ false) (append-nil line) (no_front id line [] h), id_from line id h) refl

-- what a line spells it says
pub line_from : (line : List ℕ) (h : Head) → SpellsHead h (line ++ 10 ∷ []) → head_in line ≡ Some h
line_from line (Branch name) h = branch_from line name h.0 (same_line line (codes "ref: " ++ name) h.1)
line_from line (Detached id) h = digits_from line id (subst (SpellsId id) (sym (same_line line h.0 h.2)) h.1)
