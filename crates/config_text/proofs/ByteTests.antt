-- Which bytes pass which tests.
use Rattle.std.proofs.Common.{◌≡◌, ℕ, Bool, true, false, eqb, not, ◌&&◌, ◌||◌, Option, Some, None, refl, sym, ap, subst, ◌∙◌, ◌⊎◌, inl, inr}
use Rattle.std.specs.Prelude.{is_some}
use Rattle.std.proofs.lemmas.Bool.{eqb-true}
use Rattle.grammar.proofs.Passing.{and_true}
use Rattle.config_text.specs.Bytes.{is_comment_mark, is_letter, escaped}
use Rattle.config_text.specs.Values.{is_itself}
use Rattle.config_text.specs.Reading.{is_end}
use Rattle.seq_base.specs.Blanks.{is_blank}

pub not_true : (a : Bool) → not a ≡ true → a ≡ false
not_true true e = absurd cc
not_true false e = refl

pub or_false : (a b : Bool) → (a || b) ≡ false → (a ≡ false) × (b ≡ false)
or_false true b e = absurd cc
or_false false b e = (refl, e)

pub or_true : (a b : Bool) → (a || b) ≡ true → (a ≡ true) ⊎ (b ≡ true)
or_true true b e = inl refl
or_true false b e = inr e

-- a test that fails at a byte that passes another
apart : (test : ℕ → Bool) (b c : ℕ) → test c ≡ false → test b ≡ true → eqb b c ≡ false
apart test b c fails passes = at (eqb b c) refl
  where
    at : (t : Bool) → eqb b c ≡ t → t ≡ false
    at false is = refl
    at true is = let same : b ≡ c = eqb-true b c is in let k : test b ≡ false = ap test same ∙ fails in absurd cc

pub record IsLetter (b : ℕ) : Type 0 where
  pub not_open : eqb b 91 ≡ false
  pub not_end : is_end b ≡ false
  pub not_blank : is_blank b ≡ false

three : (a b c : Bool) → a ≡ false → b ≡ false → c ≡ false → (a || (b || c)) ≡ false
three a b c p q r = rw (p, q, r) refl

two : (a b : Bool) → a ≡ false → b ≡ false → (a || b) ≡ false
two a b p q = rw (p, q) refl

pub letter : (b : ℕ) → is_letter b ≡ true → IsLetter b
letter b e = record {
  not_open = apart is_letter b 91 refl e;
  not_end = three (eqb b 10) (eqb b 35) (eqb b 59) (apart is_letter b 10 refl e) (apart is_letter b 35 refl e) (apart is_letter b 59 refl e);
  not_blank = two (eqb b 32) (eqb b 9) (apart is_letter b 32 refl e) (apart is_letter b 9 refl e);
}

-- a blank is one of two bytes
pub blank : (P : ℕ → Type 0) → P 32 → P 9 → (b : ℕ) → is_blank b ≡ true → P b
blank P space tab b e =
    elim (or_true (eqb b 32) (eqb b 9) e) [
      | inl is ↦ subst P (sym (eqb-true b 32 is)) space
      | inr is ↦ subst P (sym (eqb-true b 9 is)) tab
    ]

-- and so is what begins a comment
pub mark : (P : ℕ → Type 0) → P 35 → P 59 → (b : ℕ) → is_comment_mark b ≡ true → P b
mark P hash semicolon b e =
    elim (or_true (eqb b 35) (eqb b 59) e) [
      | inl is ↦ subst P (sym (eqb-true b 35 is)) hash
      | inr is ↦ subst P (sym (eqb-true b 59 is)) semicolon
    ]

pub record IsItself (quoted : Bool) (b : ℕ) : Type 0 where
  pub not_feed : eqb b 10 ≡ false
  pub not_quote : eqb b 34 ≡ false
  pub not_backslash : eqb b 92 ≡ false
  pub not_mark : quoted ≡ false → is_comment_mark b ≡ false

pub itself : (quoted : Bool) (b : ℕ) → is_itself quoted b ≡ true → IsItself quoted b
itself quoted b e =
    let one = and_true (not (eqb b 10) && not (eqb b 34) && not (eqb b 92)) (quoted || not (is_comment_mark b)) e in
    let two = and_true (not (eqb b 10) && not (eqb b 34)) (not (eqb b 92)) one.0 in
    let three = and_true (not (eqb b 10)) (not (eqb b 34)) two.0 in
    record {
      not_feed = not_true (eqb b 10) three.0;
      not_quote = not_true (eqb b 34) three.1;
      not_backslash = not_true (eqb b 92) two.1;
      not_mark =
          λ q. not_true (is_comment_mark b) (let k : (quoted || not (is_comment_mark b)) ≡ not (is_comment_mark b) = ap (λ (t : Bool). t || not (is_comment_mark b)) q in sym k ∙ one.1);
    }

pub record IsEscape (b c : ℕ) : Type 0 where
  pub not_feed : eqb b 10 ≡ false
  pub shows : escaped b ≡ Some c

pub escape : (b : ℕ) → is_some (escaped b) ≡ true → (c : ℕ) × IsEscape b c
escape b e = at (escaped b) refl e
  where
    at : (o : Option ℕ) → escaped b ≡ o → is_some o ≡ true → (c : ℕ) × IsEscape b c
    at None is e = absurd cc
    at (Some c) is e = (c, record { not_feed = apart (λ (b : ℕ). is_some (escaped b)) b 10 refl (ap is_some is); shows = is })
