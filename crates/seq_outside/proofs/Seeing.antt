-- What is seen of a call, before what is seen after it.
use Rattle.std.proofs.Common.{ℤ, List, [], ◌∷◌, refl}
use Rattle.seq_outside.specs.Child.{Noted}
use Rattle.seq_outside.specs.Tape.{Event, SawChild, SawMoment, Sees}

module _ {A C : Type 0} (ran : A → Noted → A → Type 0) (ticked : C → ℤ → C → Type 0) where
  pub sees_child : (p p' q : A) (c d : C) (n : Noted) (rest : List Event) → ran p n p' → Sees ran ticked p' c rest q d
      → Sees ran ticked p c (SawChild n ∷ rest) q d
  unfolding Sees
  sees_child p p' q c d n rest first others = (p', first, others)

  pub sees_moment : (p q : A) (c c' d : C) (secs : ℤ) (rest : List Event) → ticked c secs c' → Sees ran ticked p c' rest q d
      → Sees ran ticked p c (SawMoment secs ∷ rest) q d
  unfolding Sees
  sees_moment p q c c' d secs rest first others = (c', first, others)

  pub sees_nothing : (p : A) (c : C) → Sees ran ticked p c [] p c
  unfolding Sees
  sees_nothing p c = (refl, refl)
