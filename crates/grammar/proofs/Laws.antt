use Rattle.std.proofs.Common.{◌≡◌, ℕ, List, [], ◌∷◌, ◌++◌, Result, Ok, Err, refl, sym, ap, subst, ◌∙◌, append_assoc, ◌⊎◌, inl, inr}
use Rattle.grammar.specs.Grammar.{AllBytes}
use Rattle.grammar.specs.Readers.{◌>>=◌, NoneGoesOn, Stops, Reads, ReadsAll, HasText, Then, then_at, then_all, Nothing, nothing_at}

pub AllBytes-append : (a b : List ℕ) → AllBytes a → AllBytes b → AllBytes (a ++ b)
AllBytes-append [] b h k = k
AllBytes-append (x ∷ a) b h k = (h.0, AllBytes-append a b h.1 k)

abbrev done : {A : Type 0} → A → Result A ℕ
done x = Ok x

pub ok_is : {A : Type 0} (x y : A) → done x ≡ done y → x ≡ y
ok_is x y e = cc

pub bind_ok : {A B : Type 0} (r : Result A ℕ) (f : A → Result B ℕ) (y : B) → (r >>= f) ≡ Ok y → (x : A) × (r ≡ Ok x) × (f x ≡ Ok y)
bind_ok (Ok x) f y e = (x, refl, e)
bind_ok (Err d) f y e = absurd cc

pub bind_err : {A B : Type 0} (r : Result A ℕ) (f : A → Result B ℕ) (d : ℕ) → (r >>= f) ≡ Err d → (r ≡ Err d) ⊎ ((x : A) × (r ≡ Ok x) × (f x ≡ Err d))
bind_err (Ok x) f d e = inr (x, refl, e)
bind_err (Err d') f d e = inl cc

-- of two ways to cut a text, one is the earlier
pub cuts : (a b front back : List ℕ) → a ++ b ≡ front ++ back
    → ((u : List ℕ) × (front ≡ a ++ u)) ⊎ ((c : ℕ) × (u : List ℕ) × (a ≡ front ++ c ∷ u) × (back ≡ c ∷ (u ++ b)))
cuts [] b front back e = inl (front, refl)
cuts (x ∷ a) b [] back e = inr (x, a, refl, sym e)
cuts (x ∷ a) b (y ∷ front) back e =
    let head : x ≡ y = cc in
    let tail : a ++ b ≡ front ++ back = cc in
    elim (cuts a b front back tail) [
      | inl h ↦ let k = h.1 in inl (h.0, cc)
      | inr h ↦ let k = h.2 in inr (h.0, h.1, cc, h.3)
    ]

-- ---- one after the other

off_first : {X Z : Type 0} (first : X → List ℕ → Type 0) (second : X → Z → List ℕ → Type 0) (read : List ℕ → Result (X × List ℕ) ℕ) (left : ℕ) (front back : List ℕ)
    → Reads first read → read (front ++ back) ≡ Err left → NoneGoesOn first front back → NoneGoesOn (Then first second) front back
off_first first second read left front [] reads bad off = tt
off_first first second read left front (c ∷ back) reads bad off = λ z more g.
    elim (cuts g.1 g.2 front (c ∷ more) (sym g.5)) [
      | inl h ↦
          let e : front ++ c ∷ back ≡ g.1 ++ (h.0 ++ c ∷ back) = ap (λ (t : List ℕ). t ++ c ∷ back) h.1 ∙ append_assoc g.1 h.0 (c ∷ back) in
          let good = ap read e ∙ reads.again g.0 g.1 (h.0 ++ c ∷ back) g.3 in
          absurd cc
      | inr h ↦
          let back_is = h.3 in
          let same : h.0 ≡ c = cc in
          let text : g.1 ≡ front ++ c ∷ h.1 = h.2 ∙ ap (λ (d : ℕ). front ++ d ∷ h.1) same in
          off g.0 h.1 (subst (λ (t : List ℕ). first g.0 t) text g.3)
    ]

off_second : {X Z : Type 0} (first : X → List ℕ → Type 0) (second : X → Z → List ℕ → Type 0) (read : List ℕ → Result (X × List ℕ) ℕ) (x : X) (a front back : List ℕ)
    → Reads first read → first x a → NoneGoesOn (second x) front back → NoneGoesOn (Then first second) (a ++ front) back
off_second {X} first second read x a front [] reads ga off = tt
off_second {X} first second read x a front (c ∷ back) reads ga off = λ z more g.
    let one = reads.again x a (front ++ c ∷ more) ga in
    let two = reads.again g.0 g.1 g.2 g.3 in
    let whole : g.1 ++ g.2 ≡ a ++ (front ++ c ∷ more) = sym g.5 ∙ append_assoc a front (c ∷ more) in
    let same : (g.0, g.2) ≡ (x, front ++ c ∷ more) = ok_is (g.0, g.2) (x, front ++ c ∷ more) (sym two ∙ ap read whole ∙ one) in
    off z more (subst (λ (y : X × List ℕ). second y.0 z y.1) same g.4)

pub then_stops : {X Z : Type 0} (first : X → List ℕ → Type 0) (second : X → Z → List ℕ → Type 0) (read : List ℕ → Result (X × List ℕ) ℕ)
    → Reads first read → ((x : X) (text : List ℕ) → first x text → HasText (second x)) → (bytes : List ℕ) (left : ℕ) → read bytes ≡ Err left → Stops (Then first second) bytes left
then_stops first second read reads some bytes left bad =
    let q = reads.stops bytes left bad in
    let more = some q.on.0 (q.front ++ q.on.1) q.on.3 in
    record {
      front = q.front;
      back = q.back;
      parts = q.parts;
      left_is = q.left_is;
      on =
          (more.0, q.on.1 ++ more.1, AllBytes-append q.on.1 more.1 q.on.2 more.2, (q.on.0, q.front ++ q.on.1, more.1, q.on.3, more.3, sym (append_assoc q.front q.on.1 more.1)));
      off = off_first first second read left q.front q.back reads (ap read (sym q.parts) ∙ bad) q.off;
    }

pub then_stops_later : {X Z : Type 0} (first : X → List ℕ → Type 0) (second : X → Z → List ℕ → Type 0) (read : List ℕ → Result (X × List ℕ) ℕ)
    → Reads first read → (bytes : List ℕ) (x : X) (rest : List ℕ) (left : ℕ) → read bytes ≡ Ok (x, rest) → Stops (second x) rest left → Stops (Then first second) bytes left
then_stops_later first second read reads bytes x rest left e q =
    let a = reads.takes bytes x rest e in
    record {
      front = a.0 ++ q.front;
      back = q.back;
      parts = a.2 ∙ ap (λ (t : List ℕ). a.0 ++ t) q.parts ∙ sym (append_assoc a.0 q.front q.back);
      left_is = q.left_is;
      on = (q.on.0, q.on.1, q.on.2, (x, a.0, q.front ++ q.on.1, a.1, q.on.3, append_assoc a.0 q.front q.on.1));
      off = off_second first second read x a.0 q.front q.back reads a.1 q.off;
    }

pub then_reads : {X Z : Type 0} (first : X → List ℕ → Type 0) (second : X → Z → List ℕ → Type 0) (read : List ℕ → Result (X × List ℕ) ℕ) (later : X → List ℕ → Result (Z × List ℕ) ℕ)
    → Reads first read → ((x : X) (text : List ℕ) → first x text → Reads (second x) (later x)) → ((x : X) (text : List ℕ) → first x text → HasText (second x)) → Reads (Then first second) (then_at read later)
then_reads first second read later reads laters some = record {
  takes = λ bytes z rest e.
      let p = bind_ok (read bytes) (λ x. later x.0 x.1) (z, rest) e in
      let a = reads.takes bytes p.0.0 p.0.1 p.1 in
      let b = (laters p.0.0 a.0 a.1).takes p.0.1 z rest p.2 in
      (a.0 ++ b.0, (p.0.0, a.0, b.0, a.1, b.1, refl), a.2 ∙ ap (λ (t : List ℕ). a.0 ++ t) b.2 ∙ sym (append_assoc a.0 b.0 rest));
  again = λ z text rest g.
      let e : text ++ rest ≡ g.1 ++ (g.2 ++ rest) = ap (λ (t : List ℕ). t ++ rest) g.5 ∙ append_assoc g.1 g.2 rest in
      let one = ap read e ∙ reads.again g.0 g.1 (g.2 ++ rest) g.3 in
      ap (λ r. r >>= λ x. later x.0 x.1) one ∙ (laters g.0 g.1 g.3).again z g.2 rest g.4;
  stops = λ bytes left e.
      elim (bind_err (read bytes) (λ x. later x.0 x.1) left e) [
        | inl bad ↦ then_stops first second read reads some bytes left bad
        | inr ok ↦ let a = reads.takes bytes ok.0.0 ok.0.1 ok.1 in then_stops_later first second read reads bytes ok.0.0 ok.0.1 left ok.1 ((laters ok.0.0 a.0 a.1).stops ok.0.1 left ok.2)
      ];
}

pub then_reads_all : {X Z : Type 0} (first : X → List ℕ → Type 0) (second : X → Z → List ℕ → Type 0) (read : List ℕ → Result (X × List ℕ) ℕ) (later : X → List ℕ → Result Z ℕ)
    → Reads first read → ((x : X) (text : List ℕ) → first x text → ReadsAll (second x) (later x)) → ((x : X) (text : List ℕ) → first x text → HasText (second x)) → ReadsAll (Then first second) (then_all read later)
then_reads_all first second read later reads laters some = record {
  takes = λ bytes z e.
      let p = bind_ok (read bytes) (λ x. later x.0 x.1) z e in
      let a = reads.takes bytes p.0.0 p.0.1 p.1 in
      (p.0.0, a.0, p.0.1, a.1, (laters p.0.0 a.0 a.1).takes p.0.1 z p.2, a.2);
  again = λ z text g.
      let one = ap read g.5 ∙ reads.again g.0 g.1 g.2 g.3 in
      ap (λ r. r >>= λ x. later x.0 x.1) one ∙ (laters g.0 g.1 g.3).again z g.2 g.4;
  stops = λ bytes left e.
      elim (bind_err (read bytes) (λ x. later x.0 x.1) left e) [
        | inl bad ↦ then_stops first second read reads some bytes left bad
        | inr ok ↦ let a = reads.takes bytes ok.0.0 ok.0.1 ok.1 in then_stops_later first second read reads bytes ok.0.0 ok.0.1 left ok.1 ((laters ok.0.0 a.0 a.1).stops ok.0.1 left ok.2)
      ];
}

pub nothing_reads : {Z : Type 0} (z : Z) → Reads (Nothing z) (nothing_at z)
nothing_reads {Z} z = record {
  takes = λ bytes x rest e.
      let same : (z, bytes) ≡ (x, rest) = ok_is (z, bytes) (x, rest) e in
      ([], (sym (ap (λ (p : Z × List ℕ). p.0) same), refl), ap (λ (p : Z × List ℕ). p.1) same);
  again = λ x text rest g. let x-is = g.0 in let text-is = g.1 in rw (x-is, text-is) refl;
  stops = λ bytes left e. absurd cc;
}
