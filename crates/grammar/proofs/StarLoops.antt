-- A loop that reads some, and then a last one.
use Rattle.std.proofs.Common.{◌≡◌, ℕ, zero, suc, ◌<◌, ◌≤◌, Bool, true, false, List, [], ◌∷◌, ◌++◌, length, Result, Ok, Err, refl, sym, ap, ◌∙◌, append_assoc, arith}
use Rattle.std.proofs.lemmas.List.{length-append}
use Rattle.grammar.specs.Gives.{Fails}
use Rattle.grammar.specs.declared.fault.ReadError.{ReadError}
use Rattle.grammar.specs.declared.fault.ReadError.TheVariants as errors
use Rattle.grammar.specs.Readers.{star_at, with_none, with_one, begins, IsStar}
use Rattle.grammar.proofs.Stars.{begins_length}

-- what was read before, and what is still read
abbrev pub with_front : {X Z : Type 0} → List X → Result (List X × Z) ℕ → Result (List X × Z) ℕ
with_front front (Ok p) = Ok (front ++ p.0, p.1)
with_front front (Err e) = Err e

with_front-one : {X Z : Type 0} (front : List X) (x : X) (r : Result (List X × Z) ℕ)
    → with_front front (with_one x r) ≡ with_front (front ++ x ∷ []) r
with_front-one {X} {Z} front x (Ok p) =
    let e : front ++ x ∷ p.0 ≡ (front ++ x ∷ []) ++ p.0 = sym (append_assoc front (x ∷ []) p.0) in ap (λ (xs : List X). Ok (xs, p.1)) e
with_front-one front x (Err e) = refl

module _ {S X Z : Type 0} (test : ℕ → Bool) (next : S → X → S) (each : S → List ℕ → Result (X × List ℕ) ℕ) (last : S → List ℕ → Result Z ℕ) where
  -- a loop has read these, and stands at this state before this rest
  pub record SoFar (total : Result (List X × Z) ℕ) (front : List X) (s : S) (rest : List ℕ) : Type 0 where
    pub n : ℕ
    pub enough : length rest ≤ n
    pub same : with_front front (star_at test next each last n s rest) ≡ total

  pub so_far_none : (s : S) (bytes : List ℕ) → SoFar (star_at test next each last (length bytes) s bytes) [] s bytes
  so_far_none s bytes = record { n = length bytes; enough = omega arith; same = none (star_at test next each last (length bytes) s bytes) }
    where
      none : (r : Result (List X × Z) ℕ) → with_front [] r ≡ r
      none (Ok p) = refl
      none (Err e) = refl

  pub so_far_more : (total : Result (List X × Z) ℕ) (front : List X) (s : S) (b : ℕ) (bytes : List ℕ) (x : X) (after : List ℕ) → test b ≡ true
      → each s (b ∷ bytes) ≡ Ok (x, after) → length after ≤ length bytes
      → SoFar total front s (b ∷ bytes) → SoFar total (front ++ x ∷ []) (next s x) after
  unfolding star_at
  so_far_more total front s b bytes x after on e fits so = at so.n so.enough so.same
    where
      at : (n : ℕ) → suc (length bytes) ≤ n → with_front front (star_at test next each last n s (b ∷ bytes)) ≡ total
          → SoFar total (front ++ x ∷ []) (next s x) after
      at zero enough same = absurd (omega arith)
      at (suc n) enough same =
          record { n = n; enough = omega arith; same = sym (with_front-one front x (star_at test next each last n (next s x) after)) ∙ (let k : with_front front (star_at test next each last (suc n) s (b ∷ bytes)) ≡ with_front front (with_one x (star_at test next each last n (next s x) after)) = rw (on, e) refl in sym k ∙ same) }

  pub so_far_err : (total : Result (List X × Z) ℕ) (front : List X) (s : S) (b : ℕ) (bytes : List ℕ) (left : ℕ) → test b ≡ true
      → each s (b ∷ bytes) ≡ Err left → SoFar total front s (b ∷ bytes) → total ≡ Err left
  unfolding star_at
  so_far_err total front s b bytes left on e so = at so.n so.enough so.same
    where
      at : (n : ℕ) → suc (length bytes) ≤ n → with_front front (star_at test next each last n s (b ∷ bytes)) ≡ total → total ≡ Err left
      at zero enough same = absurd (omega arith)
      at (suc n) enough same =
          let k : with_front front (star_at test next each last (suc n) s (b ∷ bytes)) ≡ Err left = rw (on, e) refl in sym same ∙ k

  pub so_far_nil : (total : Result (List X × Z) ℕ) (front : List X) (s : S) → SoFar total front s []
      → total ≡ with_front front (with_none (last s []))
  unfolding star_at
  so_far_nil total front s so = at so.n so.same
    where
      at : (n : ℕ) → with_front front (star_at test next each last n s []) ≡ total → total ≡ with_front front (with_none (last s []))
      at zero same = sym same
      at (suc n) same = sym same

  pub so_far_last : (total : Result (List X × Z) ℕ) (front : List X) (s : S) (b : ℕ) (bytes : List ℕ) → test b ≡ false
      → SoFar total front s (b ∷ bytes) → total ≡ with_front front (with_none (last s (b ∷ bytes)))
  unfolding star_at
  so_far_last total front s b bytes off so = at so.n so.enough so.same
    where
      at : (n : ℕ) → suc (length bytes) ≤ n → with_front front (star_at test next each last n s (b ∷ bytes)) ≡ total
          → total ≡ with_front front (with_none (last s (b ∷ bytes)))
      at zero enough same = absurd (omega arith)
      at (suc n) enough same =
          let k : with_front front (star_at test next each last (suc n) s (b ∷ bytes)) ≡ with_front front (with_none (last s (b ∷ bytes))) = rw off refl in sym same
          ∙ k

-- the same, for the loop of a star
module _ {S X Z : Type 0} (IsGood : S → Type 0) (test : ℕ → Bool) (next : S → X → S) (each : S → X → List ℕ → Type 0) (last : S → Z → List ℕ → Type 0)
    (read_each : S → List ℕ → Result (X × List ℕ) ℕ) (read_last : S → List ℕ → Result Z ℕ) (star : IsStar IsGood test next each last read_each read_last) where
  -- a loop has read these, and stands at this state before this rest
  pub record Loop (total : Result (List X × Z) ℕ) (front : List X) (s : S) (rest : List ℕ) : Type 0 where
    pub so_far : SoFar test next read_each read_last total front s rest
    pub good : IsGood s

  pub loop_none : (s : S) (bytes : List ℕ) → IsGood s → Loop (star_at test next read_each read_last (length bytes) s bytes) [] s bytes
  loop_none s bytes good = record { so_far = so_far_none test next read_each read_last s bytes; good = good }

  pub loop_more : (total : Result (List X × Z) ℕ) (front : List X) (s : S) (rest : List ℕ) (x : X) (after : List ℕ) → begins test rest ≡ true
      → read_each s rest ≡ Ok (x, after)
      → Loop total front s rest → Loop total (front ++ x ∷ []) (next s x) after × (length after < length rest)
  loop_more total front s [] x after on e l = absurd cc
  loop_more total front s (b ∷ bytes) x after on e l =
      let a = (star.reads_each s l.good).takes (b ∷ bytes) x after e in
      let long = begins_length test a.0 (star.begins s x a.0 a.1) in
      let short : length after < length (b ∷ bytes) = omega (arith, ap length a.2, length-append a.0 after) in (
        record {
          so_far = so_far_more test next read_each read_last total front s b bytes x after on e (omega arith) l.so_far;
          good = star.stays_good s x a.0 l.good a.1;
        },
        short,
      )

  pub loop_err : (total : Result (List X × Z) ℕ) (front : List X) (s : S) (rest : List ℕ) (d : ReadError) → begins test rest ≡ true
      → Fails d (read_each s rest) → Loop total front s rest → Fails d total
  loop_err total front s rest errors.Memory on e l = tt
  loop_err total front s [] (errors.Stopped n) on e l = absurd cc
  loop_err total front s (b ∷ bytes) (errors.Stopped n) on e l = so_far_err test next read_each read_last total front s b bytes n on e l.so_far

  pub loop_last : (total : Result (List X × Z) ℕ) (front : List X) (s : S) (rest : List ℕ) → begins test rest ≡ false → Loop total front s rest
      → total ≡ with_front front (with_none (read_last s rest))
  loop_last total front s [] off l = so_far_nil test next read_each read_last total front s l.so_far
  loop_last total front s (b ∷ bytes) off l = so_far_last test next read_each read_last total front s b bytes off l.so_far
