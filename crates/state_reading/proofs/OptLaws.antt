-- The file `opts` is recalled.
use Rattle.std.proofs.Common.{◌≡◌, ◌∙◌, ℕ, ◌-◌, ◌<◌, ◌^◌, Bool, true, false, cond, ltb, List, [], ◌∷◌, ◌++◌, Option, Some, None, Result, Ok, Err, refl, sym, ap, subst, append_assoc, arith}
use Rattle.std.specs.Prelude.{codes, decimal}
use Rattle.std.proofs.lemmas.Bool.{ltb-true, lt-ltb}
use Rattle.grammar.specs.Decimals.{capped, capped_decimal_at, decimal_at}
use Rattle.grammar.specs.Readers.{◌>>=◌, literal_at}
use Rattle.grammar.proofs.DecimalLaws.{decimal_reads, decimal_value-decimal}
use Rattle.state_text.specs.Controls.{IfThere}
use Rattle.state_text.specs.Texts.{mainline_option, set_option}
use Rattle.state_reading.specs.declared.opts.SetOptions.{SetOptions}
use Rattle.state_reading.specs.Lines.{behind}
use Rattle.state_reading.specs.Recalls.{Recalls}
use Rattle.state_reading.specs.Settings.{AreSet, IsParent, flags_at, mainline_at, mainline_behind, opts_at, parent_of, read_mainline, set_text}
use Rattle.state_reading.proofs.KeyLaws.{key_again}

flags_text : Bool → Bool → Bool → List ℕ
flags_text e r a = set_option e (codes "edit") ++ set_option r (codes "record-origin") ++ set_option a (codes "allow-empty")

-- the options behind the parent
flags_back : (m : Option ℕ) (e r a : Bool) → flags_at (m, flags_text e r a) ≡ record { mainline = m; edit = e; record_origin = r; allow_empty = a }
unfolding literal_at flags_text
flags_back m true true true = refl
flags_back m true true false = refl
flags_back m true false true = refl
flags_back m true false false = refl
flags_back m false true true = refl
flags_back m false true false = refl
flags_back m false false true = refl
flags_back m false false false = refl

no_parent : (e r a : Bool) → mainline_at (flags_text e r a) ≡ (None, flags_text e r a)
unfolding literal_at flags_text
no_parent true true true = refl
no_parent true true false = refl
no_parent true false true = refl
no_parent true false false = refl
no_parent false true true = refl
no_parent false true false = refl
no_parent false false true = refl
no_parent false false false = refl

pub number_read : (n : ℕ) (rest : List ℕ) → n < 2 ^ 64 → capped_decimal_at 10 (decimal n ++ 10 ∷ rest) ≡ Ok (n, rest)
unfolding capped_decimal_at
number_read n rest small =
    let whole : decimal_at 10 ((decimal n ++ 10 ∷ []) ++ rest) ≡ Ok (n, rest) = (decimal_reads 10 (omega arith) refl).again n (decimal n ++ 10 ∷ []) rest (decimal n, decimal_value-decimal n small, refl) in
    let same : decimal n ++ 10 ∷ rest ≡ (decimal n ++ 10 ∷ []) ++ rest = sym (append_assoc (decimal n) (10 ∷ []) rest) in
    let cap : capped n ≡ n = omega arith in
    ap (λ (t : List ℕ). decimal_at 10 t >>= λ x. Ok (capped x.0, x.1)) same
    ∙ ap (λ (r : Result (ℕ × List ℕ) ℕ). r >>= λ x. Ok (capped x.0, x.1)) whole
    ∙ ap (λ (k : ℕ). Ok (k, rest)) cap

parent_back : (n : ℕ) → n < 2 ^ 32 → parent_of n ≡ Some n
parent_back n small = ap (λ (b : Bool). cond b (Some n) None) (lt-ltb n (2 ^ 32) small)

mainline_back : (m : Option ℕ) (e r a : Bool) → IfThere IsParent m → mainline_at (mainline_option m ++ flags_text e r a) ≡ (m, flags_text e r a)
mainline_back None e r a is = no_parent e r a
mainline_back (Some n) e r a is =
    let key = 9 ∷ codes "mainline = " in
    let rest = flags_text e r a in
    let bytes = mainline_option (Some n) ++ rest in
    let same : bytes ≡ key ++ (decimal n ++ 10 ∷ rest) = append_assoc (key ++ decimal n) (10 ∷ []) rest in
    ap (λ (o : Option (List ℕ)). mainline_behind o bytes) (ap (behind key) same ∙ key_again key (decimal n ++ 10 ∷ rest))
    ∙ ap (λ (x : Result (ℕ × List ℕ) ℕ). read_mainline x (decimal n ++ 10 ∷ rest)) (number_read n rest (omega arith))
    ∙ ap (λ (p : Option ℕ). (p, rest)) (parent_back n is)

regrouped : (m e r a : List ℕ) → m ++ e ++ r ++ a ≡ m ++ (e ++ r ++ a)
regrouped m e r a = simp append_assoc

opts_back : (o : SetOptions) → AreSet o → opts_at (set_text o) ≡ o
unfolding flags_text
opts_back o is =
    ap (λ (t : List ℕ). flags_at (mainline_at t)) (regrouped (mainline_option o.mainline) (set_option o.edit (codes "edit")) (set_option o.record_origin (codes "record-origin")) (set_option o.allow_empty (codes "allow-empty")))
    ∙ ap flags_at (mainline_back o.mainline o.edit o.record_origin o.allow_empty is)
    ∙ flags_back o.mainline o.edit o.record_origin o.allow_empty

parent_fits : (n : ℕ) → IfThere IsParent (parent_of n)
parent_fits n = at (ltb n (2 ^ 32)) refl
  where
    at : (b : Bool) → ltb n (2 ^ 32) ≡ b → IfThere IsParent (cond b (Some n) None)
    at true small = ltb-true n (2 ^ 32) small
    at false large = tt

number_fits : (r : Result (ℕ × List ℕ) ℕ) (bytes : List ℕ) → IfThere IsParent (read_mainline r bytes).0
number_fits (Ok x) bytes = parent_fits x.0
number_fits (Err left) bytes = tt

mainline_fits : (o : Option (List ℕ)) (bytes : List ℕ) → IfThere IsParent (mainline_behind o bytes).0
mainline_fits None bytes = tt
mainline_fits (Some rest) bytes = number_fits (capped_decimal_at 10 rest) rest

opts_fit : (bytes : List ℕ) → AreSet (opts_at bytes)
opts_fit bytes = let b = Rattle.state_reading.specs.Settings.behind_line bytes in mainline_fits (behind (9 ∷ codes "mainline = ") b) b

pub opts_recalled : (bytes : List ℕ) (o : SetOptions) → o ≡ opts_at bytes → Recalls AreSet set_text bytes o
opts_recalled bytes o e = record {
  fits = subst AreSet (sym e) (opts_fit bytes);
  again = λ y is text. e ∙ ap opts_at text ∙ opts_back y is;
}
