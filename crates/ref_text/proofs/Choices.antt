-- One of two grammars, told by the first byte.
use Rattle.std.proofs.Common.{◌≡◌, ◌⊎◌, ℕ, Bool, true, false, cond, List, [], ◌∷◌, ◌++◌, Result, Ok, Err, inl, inr, refl, sym, ap, ◌∙◌}
use Rattle.std.proofs.lemmas.Bool.{both_ways, cond-true, cond-false}
use Rattle.grammar.specs.Readers.{BeginsWith, NoneGoesOn, Reads, Stops, begins}

-- the first byte of a text doesn't pass, and there is one
abbrev pub BeginsApart : (ℕ → Bool) → List ℕ → Type 0
BeginsApart test [] = ⊥
BeginsApart test (b ∷ bytes) = test b ≡ false

abbrev pub Either : {X : Type 0} → (X → List ℕ → Type 0) → (X → List ℕ → Type 0) → X → List ℕ → Type 0
Either one other x text = one x text ⊎ other x text

begins_on : (test : ℕ → Bool) (text rest : List ℕ) → BeginsWith test text → begins test (text ++ rest) ≡ true
begins_on test [] rest h = absurd h
begins_on test (b ∷ text) rest h = h

begins_off : (test : ℕ → Bool) (text rest : List ℕ) → BeginsApart test text → begins test (text ++ rest) ≡ false
begins_off test [] rest h = absurd h
begins_off test (b ∷ text) rest h = h

-- what begins alike is told alike
same_first : (test : ℕ → Bool) (front : List ℕ) (b : ℕ) (back more : List ℕ) → begins test (front ++ b ∷ back) ≡ begins test (front ++ b ∷ more)
same_first test [] b back more = refl
same_first test (c ∷ front) b back more = refl

on_alone : (test : ℕ → Bool) (text : List ℕ) → BeginsWith test text → begins test text ≡ true
on_alone test [] h = absurd h
on_alone test (b ∷ text) h = h

off_alone : (test : ℕ → Bool) (text : List ℕ) → BeginsApart test text → begins test text ≡ false
off_alone test [] h = absurd h
off_alone test (b ∷ text) h = h

module _ {X : Type 0} (test : ℕ → Bool) (one other : X → List ℕ → Type 0) (read_one read_other : List ℕ → Result (X × List ℕ) ℕ)
    (on : (x : X) (text : List ℕ) → one x text → BeginsWith test text) (apart : (x : X) (text : List ℕ) → other x text → BeginsApart test text) where
  none_of_one : (bytes front back : List ℕ) → bytes ≡ front ++ back → begins test bytes ≡ true → NoneGoesOn one front back
      → NoneGoesOn (Either one other) front back
  none_of_one bytes front [] parts is off = tt
  none_of_one bytes front (b ∷ back) parts is off = λ x more g.
      elim g [
        | inl h ↦ off x more h
        | inr h ↦ both_ways (begins test (front ++ b ∷ more)) (off_alone test (front ++ b ∷ more) (apart x (front ++ b ∷ more) h)) (same_first test front b more back ∙ ap (begins test) (sym parts) ∙ is)
      ]

  none_of_other : (bytes front back : List ℕ) → bytes ≡ front ++ back → begins test bytes ≡ false → NoneGoesOn other front back
      → NoneGoesOn (Either one other) front back
  none_of_other bytes front [] parts is off = tt
  none_of_other bytes front (b ∷ back) parts is off = λ x more g.
      elim g [
        | inl h ↦ both_ways (begins test (front ++ b ∷ more)) (same_first test front b more back ∙ ap (begins test) (sym parts) ∙ is) (on_alone test (front ++ b ∷ more) (on x (front ++ b ∷ more) h))
        | inr h ↦ off x more h
      ]

  pub either_reads : Reads one read_one → Reads other read_other
      → Reads (Either one other) (λ bytes. cond (begins test bytes) (read_one bytes) (read_other bytes))
  either_reads reads others = record {
    takes = λ bytes x rest e. takes bytes x rest (begins test bytes) e;
    again = λ x text rest g. again x text rest g;
    stops = λ bytes left e. stops bytes left (begins test bytes) refl e;
  }
    where
      takes : (bytes : List ℕ) (x : X) (rest : List ℕ) (t : Bool) → cond t (read_one bytes) (read_other bytes) ≡ Ok (x, rest)
          → (text : List ℕ) × Either one other x text × (bytes ≡ text ++ rest)
      takes bytes x rest true e = let k = reads.takes bytes x rest e in (k.0, inl k.1, k.2)
      takes bytes x rest false e = let k = others.takes bytes x rest e in (k.0, inr k.1, k.2)

      again : (x : X) (text rest : List ℕ) → Either one other x text
          → cond (begins test (text ++ rest)) (read_one (text ++ rest)) (read_other (text ++ rest)) ≡ Ok (x, rest)
      again x text rest (inl h) = cond-true (begins test (text ++ rest)) _ _ (begins_on test text rest (on x text h)) ∙ reads.again x text rest h
      again x text rest (inr h) =
          cond-false (begins test (text ++ rest)) _ _ (begins_off test text rest (apart x text h)) ∙ others.again x text rest h

      stops : (bytes : List ℕ) (left : ℕ) (t : Bool) → begins test bytes ≡ t → cond t (read_one bytes) (read_other bytes) ≡ Err left
          → Stops (Either one other) bytes left
      stops bytes left true is e =
          let q = reads.stops bytes left e in
          record { front = q.front; back = q.back; parts = q.parts; left_is = q.left_is; on = (q.on.0, q.on.1, q.on.2, inl q.on.3); off = none_of_one bytes q.front q.back q.parts is q.off }
      stops bytes left false is e =
          let q = others.stops bytes left e in
          record { front = q.front; back = q.back; parts = q.parts; left_is = q.left_is; on = (q.on.0, q.on.1, q.on.2, inr q.on.3); off = none_of_other bytes q.front q.back q.parts is q.off }
