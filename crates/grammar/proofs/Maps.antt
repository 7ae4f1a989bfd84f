-- The same texts, with other values.
use Rattle.std.proofs.Common.{◌≡◌, ℕ, ◌-◌, ◌++◌, inl, inr, List, length, take, Result, Ok, refl, sym, ap, subst, ◌∙◌, arith}
use Rattle.std.proofs.lemmas.List.{length-append, take_at}
use Rattle.grammar.specs.Readers.{◌>>=◌, Reads, ReadsAll, HasText, TextOf, text_at}
use Rattle.grammar.proofs.Laws.{ok_is, bind_ok, bind_err}
use Rattle.grammar.proofs.FieldLaws.{stops_same}

-- of each value x of a reader f x is told
pub all_mapped : {X Y : Type 0} (spells : X → List ℕ → Type 0) (others : Y → List ℕ → Type 0) (read : List ℕ → Result X ℕ) (f : X → Y)
    → ((x : X) (text : List ℕ) → spells x text → others (f x) text) → ((y : Y) (text : List ℕ) → others y text → (x : X) × spells x text × (y ≡ f x)) → ReadsAll spells read → ReadsAll others (λ bytes. read bytes >>= λ x. Ok (f x))
all_mapped spells others read f to from reads = record {
  takes = λ bytes y e.
      let p = bind_ok (read bytes) (λ x. Ok (f x)) y e in
      subst (λ z. others z bytes) (ok_is (f p.0) y p.2) (to p.0 bytes (reads.takes bytes p.0 p.1));
  again = λ y text g.
      let k = from y text g in
      ap (λ r. r >>= λ x. Ok (f x)) (reads.again k.0 text k.1) ∙ ap Ok (sym k.2);
  stops = λ bytes left e.
      elim (bind_err (read bytes) (λ x. Ok (f x)) left e) [
        | inl bad ↦ stops_same spells others bytes left (λ x text g. (f x, to x text g)) (λ y text g. let k = from y text g in (k.0, k.1)) (reads.stops bytes left bad)
        | inr ok ↦ let k = ok.2 in absurd cc
      ];
}

pub mapped : {X Y : Type 0} (spells : X → List ℕ → Type 0) (others : Y → List ℕ → Type 0) (read : List ℕ → Result (X × List ℕ) ℕ) (f : X → Y)
    → ((x : X) (text : List ℕ) → spells x text → others (f x) text) → ((y : Y) (text : List ℕ) → others y text → (x : X) × spells x text × (y ≡ f x)) → Reads spells read → Reads others (λ bytes. read bytes >>= λ x. Ok (f x.0, x.1))
mapped {X} {Y} spells others read f to from reads = record {
  takes = λ bytes y rest e.
      let p = bind_ok (read bytes) (λ x. Ok (f x.0, x.1)) (y, rest) e in
      let same : (f p.0.0, p.0.1) ≡ (y, rest) = ok_is (f p.0.0, p.0.1) (y, rest) p.2 in
      let k = reads.takes bytes p.0.0 p.0.1 p.1 in
      (k.0, subst (λ (z : Y). others z k.0) (ap (λ (q : Y × List ℕ). q.0) same) (to p.0.0 k.0 k.1), k.2 ∙ ap (λ (q : Y × List ℕ). k.0 ++ q.1) same);
  again = λ y text rest g.
      let k = from y text g in
      ap (λ r. r >>= λ x. Ok (f x.0, x.1)) (reads.again k.0 text rest k.1) ∙ ap (λ (z : Y). Ok (z, rest)) (sym k.2);
  stops = λ bytes left e.
      elim (bind_err (read bytes) (λ x. Ok (f x.0, x.1)) left e) [
        | inl bad ↦ stops_same spells others bytes left (λ x text g. (f x, to x text g)) (λ y text g. let k = from y text g in (k.0, k.1)) (reads.stops bytes left bad)
        | inr ok ↦ let k = ok.2 in absurd cc
      ];
}

-- the bytes themselves
pub text_reads : {X : Type 0} (spells : X → List ℕ → Type 0) (read : List ℕ → Result (X × List ℕ) ℕ) → Reads spells read
    → Reads (TextOf spells) (text_at read)
text_reads {X} spells read reads = record {
  takes = λ bytes y rest e.
      let p = bind_ok (read bytes) (λ x. Ok (take (length bytes - length x.1) bytes, x.1)) (y, rest) e in
      let same : (take (length bytes - length p.0.1) bytes, p.0.1) ≡ (y, rest) = ok_is (take (length bytes - length p.0.1) bytes, p.0.1) (y, rest) p.2 in
      let k = reads.takes bytes p.0.0 p.0.1 p.1 in
      let cut : take (length bytes - length p.0.1) bytes ≡ k.0 = cut_off bytes k.0 p.0.1 k.2 in
      (k.0, (p.0.0, k.1, sym cut ∙ ap (λ (q : List ℕ × List ℕ). q.0) same), k.2 ∙ ap (λ (q : List ℕ × List ℕ). k.0 ++ q.1) same);
  again = λ y text rest g.
      let again = reads.again g.0 text rest g.1 in
      ap (λ r. r >>= λ x. Ok (take (length (text ++ rest) - length x.1) (text ++ rest), x.1)) again ∙ ap (λ (t : List ℕ). Ok (t, rest)) (cut_off (text ++ rest) text rest refl ∙ g.2);
  stops = λ bytes left e.
      elim (bind_err (read bytes) (λ x. Ok (take (length bytes - length x.1) bytes, x.1)) left e) [
        | inl bad ↦ stops_same spells (TextOf spells) bytes left (λ x text g. (text, (x, g, refl))) (λ y text g. (g.0, g.1)) (reads.stops bytes left bad)
        | inr ok ↦ let k = ok.2 in absurd cc
      ];
}
  where
    cut_off : (bytes text rest : List ℕ) → bytes ≡ text ++ rest → take (length bytes - length rest) bytes ≡ text
    cut_off bytes text rest e =
        let len : length bytes - length rest ≡ length text = omega (arith, ap length e, length-append text rest) in
        ap (λ (t : List ℕ). take (length bytes - length rest) t) e ∙ take_at text rest (length bytes - length rest) (sym len)

pub text_has : {X : Type 0} (spells : X → List ℕ → Type 0) → HasText spells → HasText (TextOf spells)
text_has spells h = (h.1, h.1, h.2, (h.0, h.3, refl))
