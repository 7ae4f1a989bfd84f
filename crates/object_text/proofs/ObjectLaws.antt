-- Reading objects.
use Rattle.std.proofs.Common.{◌≡◌, ℕ, zero, suc, ◌-◌, ◌^◌, ◌<◌, Bool, true, false, cond, ltb, List, [], ◌∷◌, ◌++◌, length, take, drop, Option, Some, None, Result, Ok, Err, refl, sym, ap, subst, ◌∙◌, append_assoc, arith, inl, inr}
use Rattle.std.specs.Prelude.{MatchOption, decimal}
use Rattle.std.proofs.lemmas.List.{append-nil, length-append, take-append-drop, length-take, length-drop}
use Rattle.std.proofs.lemmas.Bool.{ltb-true, ltb-false, le-ltb, lt-ltb}
use Rattle.grammar.specs.Grammar.{AllBytes}
use Rattle.grammar.specs.Decimals.{decimal_value, decimal_at, capped, capped_decimal_at}
use Rattle.grammar.specs.Gives.{Fails}
use Rattle.grammar.specs.declared.fault.ReadError.{ReadError}
use Rattle.grammar.specs.declared.fault.ReadError.TheVariants as errors
use Rattle.grammar.specs.Readers.{◌>>=◌, NoneGoesOn, Stops, ReadsAll, HasText, Then, Word, IsWord}
use Rattle.grammar.specs.Keywords.{may_of, value_of}
use Rattle.grammar.proofs.DecimalLaws.{decimal_reads, decimal_has, decimal_value-decimal}
use Rattle.grammar.proofs.FieldLaws.{reads_all_same}
use Rattle.grammar.proofs.Keywords.{HaveTexts, keywords, value_text, value_none}
use Rattle.grammar.proofs.Laws.{AllBytes-append, ok_is, bind_ok, bind_err, then_reads_all}
use Rattle.grammar.proofs.Maps.{all_mapped}
use Rattle.grammar.proofs.Words.{valued_reads}
use Rattle.object_text.specs.declared.object.Kind.{Kind}
use Rattle.object_text.specs.declared.object.Kind.TheVariants.{Blob, Tree, Commit, Tag}
use Rattle.object_text.specs.declared.object.Object.{Object}
use Rattle.object_text.specs.Objects.{kind_text, object_text, IsObject}
use Rattle.object_text.specs.ReadObjects.{kinds, kind_from, content_from, sized_from, object_from}

pub kind_value : (k : Kind) → value_of kinds (kind_text k) ≡ Some k
kind_value Blob = refl
kind_value Tree = refl
kind_value Commit = refl
kind_value Tag = refl

pub kinds_have : HaveTexts kind_text kinds
kinds_have = (refl, (refl, (refl, (refl, tt))))

pub is_kind : IsWord (may_of kinds) (value_of kinds) 32
is_kind = keywords 32 kinds (omega arith) refl refl

-- what reading a kind tells
pub kind_read : (w : List ℕ) (r : Option Kind) → MatchOption r ((k : Kind) → w ≡ kind_text k → ⊥) (λ k. w ≡ kind_text k) → value_of kinds w ≡ r
kind_read w None h = value_none kind_text kinds kinds_have w h
kind_read w (Some k) h = ap (value_of kinds) h ∙ kind_value k

abbrev Content : ℕ → List ℕ → List ℕ → Type 0
Content n x text = (length x ≡ n) × (text ≡ x)

-- ---- so many bytes and no more

zeros : ℕ → List ℕ
zeros zero = []
zeros (suc n) = 0 ∷ zeros n

zeros_are : (n : ℕ) → (length (zeros n) ≡ n) × AllBytes (zeros n)
unfolding zeros
zeros_are zero = (refl, tt)
zeros_are (suc n) = let k = zeros_are n in (ap suc k.0, (omega arith, k.1))

content_reads : (n : ℕ) → ReadsAll (Content n) (content_from n)
unfolding content_from
content_reads n = record {
  takes = λ bytes x e. takes bytes x (ltb (length bytes) n) refl (ltb n (length bytes)) refl e;
  again = λ x bytes g.
      let len = g.0 in
      let same = g.1 in
      let one : ltb (length x) n ≡ false = le-ltb _ _ (omega arith) in
      let two : ltb n (length x) ≡ false = le-ltb _ _ (omega arith) in
      rw (same, one, two) refl;
  stops = λ bytes left e. stops bytes left (ltb (length bytes) n) refl (ltb n (length bytes)) refl e;
}
  where
    takes : (bytes x : List ℕ) (t : Bool) → ltb (length bytes) n ≡ t → (u : Bool) → ltb n (length bytes) ≡ u
        → cond {A = Result (List ℕ) ℕ} t (Err 0) (cond u (Err (length bytes - n)) (Ok bytes)) ≡ Ok x → Content n x bytes
    takes bytes x true t-is u u-is e = absurd cc
    takes bytes x false t-is true u-is e = absurd cc
    takes bytes x false t-is false u-is e =
        let same = ok_is bytes x e in
        let low = ltb-false _ _ t-is in
        let high = ltb-false _ _ u-is in
        let len : length bytes ≡ n = omega arith in
        (ap length (sym same) ∙ len, same)

    stops : (bytes : List ℕ) (left : ℕ) (t : Bool) → ltb (length bytes) n ≡ t → (u : Bool) → ltb n (length bytes) ≡ u
        → cond {A = Result (List ℕ) ℕ} t (Err 0) (cond u (Err (length bytes - n)) (Ok bytes)) ≡ Err left → Stops (Content n) bytes left
    stops bytes left true t-is u u-is e =
        let short = ltb-true _ _ t-is in
        let z = zeros_are (n - length bytes) in
        record {
          front = bytes;
          back = [];
          parts = sym (append-nil bytes);
          left_is = cc;
          on =
              (bytes ++ zeros (n - length bytes), zeros (n - length bytes), z.1, (omega (arith, length-append bytes (zeros (n - length bytes)), z.0), refl));
          off = tt;
        }
    stops bytes left false t-is true u-is e =
        let long = ltb-true _ _ u-is in
        let k : length bytes - n ≡ left = cc in
        let cut = length-take n bytes in
        record {
          front = take n bytes;
          back = drop n bytes;
          parts = sym (take-append-drop n bytes);
          left_is = omega (arith, length-drop n bytes);
          on = (take n bytes, [], tt, (omega arith, append-nil (take n bytes)));
          off = off (drop n bytes);
        }
      where
        off : (back : List ℕ) → NoneGoesOn (Content n) (take n bytes) back
        off [] = tt
        off (b ∷ back) =
            λ x more g. let low =
            ltb-false (length bytes) n t-is in absurd (omega (arith, length-take n bytes, ap length g.1, g.0, length-append (take n bytes) (b ∷ more)))
    stops bytes left false t-is false u-is e = absurd cc

content_has : (n : ℕ) → HasText (Content n)
content_has n = let z = zeros_are n in (zeros n, zeros n, z.1, (z.0, refl))

abbrev Sized : List ℕ → List ℕ → Type 0
Sized = Then (Word decimal_value 0) Content

sized_reads : ReadsAll Sized sized_from
unfolding sized_from
sized_reads =
    then_reads_all (Word decimal_value 0) Content (decimal_at 0) content_from (decimal_reads 0 (omega arith) refl) (λ n _ _. content_reads n) (λ n _ _. content_has n)

sized_has : HasText Sized
sized_has =
    let w = decimal_has 0 (omega arith) refl in
    let c = content_has w.0 in
    (c.0, w.1 ++ c.1, AllBytes-append w.1 c.1 w.2 c.2, (w.0, w.1, c.1, w.3, c.3, refl))

abbrev made : Kind → List ℕ → Object
made kind bytes = record { kind = kind; bytes = bytes }

abbrev Of : Kind → Object → List ℕ → Type 0
Of kind o text = (x : List ℕ) × Sized x text × (o ≡ made kind x)

of_from : Kind → List ℕ → Result Object ℕ
of_from kind bytes = sized_from bytes >>= λ x. Ok (made kind x)

of_reads : (kind : Kind) → ReadsAll (Of kind) (of_from kind)
unfolding of_from
of_reads kind = all_mapped Sized (Of kind) sized_from (made kind) (λ x text g. (x, g, refl)) (λ o text g. (g.0, g.1, g.2)) sized_reads

of_has : (kind : Kind) → HasText (Of kind)
of_has kind = let s = sized_has in (made kind s.0, s.1, s.2, (s.0, s.3, refl))

abbrev Parts : Object → List ℕ → Type 0
Parts = Then (Word (value_of kinds) 32) Of

parts_read : ReadsAll Parts object_from
unfolding object_from kind_from of_from
parts_read =
    then_reads_all (Word (value_of kinds) 32) Of kind_from of_from (valued_reads (may_of kinds) (value_of kinds) 32 is_kind) (λ k _ _. of_reads k) (λ k _ _. of_has k)

regroup : (kind digits bytes : List ℕ) → (kind ++ 32 ∷ []) ++ ((digits ++ 0 ∷ []) ++ bytes) ≡ kind ++ 32 ∷ digits ++ 0 ∷ bytes
regroup kind digits bytes = simp append_assoc

to_object : (o : Object) (text : List ℕ) → Parts o text → IsObject o text
to_object o text g =
    let k = g.4 in
    let s = k.1 in
    let kind = value_text kind_text kinds kinds_have g.3.0 g.0 g.3.1 in
    let e1 : g.1 ≡ kind_text g.0 ++ 32 ∷ [] = g.3.2 ∙ ap (λ (t : List ℕ). t ++ 32 ∷ []) kind in
    let e2 : s.1 ≡ s.3.0 ++ 0 ∷ [] = s.3.2 in
    let e3 : s.2 ≡ k.0 = s.4.1 in
    let whole : text ≡ g.1 ++ (s.1 ++ s.2) = g.5 ∙ ap (λ (t : List ℕ). g.1 ++ t) s.5 in
    subst (λ (p : Object). IsObject p text) (sym k.2)
    (record {
      digits = s.3.0;
      length_is = s.3.1 ∙ ap (λ (n : ℕ). Some n) (sym s.4.0);
      text_is = whole ∙ rw (e1, e2, e3) (regroup (kind_text g.0) s.3.0 k.0);
    })

from_object : (o : Object) (text : List ℕ) → IsObject o text → Parts o text
from_object o text g = (
  o.kind,
  kind_text o.kind ++ 32 ∷ [],
  (g.digits ++ 0 ∷ []) ++ o.bytes,
  (kind_text o.kind, kind_value o.kind, refl),
  (o.bytes, (length o.bytes, g.digits ++ 0 ∷ [], o.bytes, (g.digits, g.length_is, refl), (refl, refl), refl), refl),
  g.text_is ∙ sym (regroup (kind_text o.kind) g.digits o.bytes),
)

pub object_reads : ReadsAll IsObject object_from
object_reads = reads_all_same Parts IsObject object_from to_object from_object parts_read

-- ---- what the program makes of a length

-- the number that was read, and not what stands for it
size_is : (bytes content : List ℕ) (size : ℕ) → capped_decimal_at 0 bytes ≡ Ok (size, content)
    → (n : ℕ) × (decimal_at 0 bytes ≡ Ok (n, content)) × (size ≡ capped n)
unfolding capped_decimal_at
size_is bytes content size e =
    let k = bind_ok (decimal_at 0 bytes) (λ n. Ok (capped n.0, n.1)) (size, content) e in
    let same : (capped k.0.0, k.0.1) ≡ (size, content) = ok_is (capped k.0.0, k.0.1) (size, content) k.2 in
    (k.0.0, k.1 ∙ ap (λ (p : ℕ × List ℕ). Ok (k.0.0, p.1)) same, sym (ap (λ (p : ℕ × List ℕ). p.0) same))

pub size_err : (bytes : List ℕ) (d : ReadError) → Fails d (capped_decimal_at 0 bytes) → Fails d (sized_from bytes)
unfolding capped_decimal_at sized_from
size_err bytes errors.Memory e = tt
size_err bytes (errors.Stopped n) e =
    elim (bind_err (decimal_at 0 bytes) (λ n. Ok (capped n.0, n.1)) n e) [
      | inl bad ↦ ap (λ (r : Result (ℕ × List ℕ) ℕ). r >>= λ x. content_from x.0 x.1) bad
      | inr ok ↦ let k = ok.2 in absurd cc
    ]

sized_is : (bytes content : List ℕ) (n : ℕ) → decimal_at 0 bytes ≡ Ok (n, content) → sized_from bytes ≡ content_from n content
unfolding sized_from
sized_is bytes content n e = ap (λ (r : Result (ℕ × List ℕ) ℕ). r >>= λ x. content_from x.0 x.1) e

pub size_short : (bytes content : List ℕ) (size : ℕ) → capped_decimal_at 0 bytes ≡ Ok (size, content) → length content < size
    → sized_from bytes ≡ Err 0
unfolding content_from
size_short bytes content size e short =
    let n = size_is bytes content size e in
    let cap = n.2 in
    let low : ltb (length content) n.0 ≡ true = lt-ltb (length content) n.0 (omega arith) in
    sized_is bytes content n.0 n.1 ∙ rw low refl

pub size_long : (bytes content : List ℕ) (size : ℕ) → capped_decimal_at 0 bytes ≡ Ok (size, content) → length content < 2 ^ 64 - 1
    → size < length content → sized_from bytes ≡ Err (length content - size)
unfolding content_from
size_long bytes content size e fits long =
    let n = size_is bytes content size e in
    let cap = n.2 in
    let same : n.0 ≡ size = omega arith in
    let low : ltb (length content) size ≡ false = le-ltb (length content) size (omega arith) in
    let high : ltb size (length content) ≡ true = lt-ltb size (length content) long in
    sized_is bytes content n.0 n.1 ∙ ap (λ (m : ℕ). content_from m content) same ∙ rw (low, high) refl

pub size_fits : (bytes content : List ℕ) (size : ℕ) → capped_decimal_at 0 bytes ≡ Ok (size, content) → length content < 2 ^ 64 - 1
    → size ≡ length content → sized_from bytes ≡ Ok content
unfolding content_from
size_fits bytes content size e fits len =
    let n = size_is bytes content size e in
    let cap = n.2 in
    let same : n.0 ≡ length content = omega arith in
    let even : ltb (length content) (length content) ≡ false = le-ltb (length content) (length content) (omega arith) in
    sized_is bytes content n.0 n.1 ∙ ap (λ (m : ℕ). content_from m content) same ∙ rw even refl

-- the text that is written of an object
pub object_written : (o : Object) (text : List ℕ) → length o.bytes < 2 ^ 64 → text ≡ object_text o → IsObject o text
object_written o text fits e = record { digits = decimal (length o.bytes); length_is = decimal_value-decimal (length o.bytes) fits; text_is = e }
