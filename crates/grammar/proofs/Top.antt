-- What a reader of a whole text says: the value, and the only one; or the place of the first fault.
use Rattle.std.proofs.Common.{◌≡◌, ℕ, ◌+◌, ◌-◌, ◌<◌, ◌≤◌, List, [], ◌∷◌, ◌++◌, length, take, Result, Ok, Err, sym, ap, subst, ◌∙◌, append_assoc, arith}
use Rattle.std.proofs.lemmas.List.{length-append, take_at}
use Rattle.grammar.specs.Grammar.{GoesOn, IsFirstBad}
use Rattle.grammar.specs.Readers.{NoneGoesOn, Stops, ReadsAll}

no_further : {X : Type 0} (spells : X → List ℕ → Type 0) (front back : List ℕ) → NoneGoesOn spells front back → 0 < length back
    → GoesOn spells (take (length front + 1) (front ++ back)) → ⊥
no_further spells front [] off lt g = absurd (omega arith)
no_further spells front (b ∷ back) off lt g =
    let whole : front ++ b ∷ back ≡ (front ++ b ∷ []) ++ back = sym (append_assoc front (b ∷ []) back) in
    let len : length (front ++ b ∷ []) ≡ length front + 1 = length-append front (b ∷ []) in
    let cut : take (length front + 1) (front ++ b ∷ back) ≡ front ++ b ∷ [] = ap (take (length front + 1)) whole ∙ take_at (front ++ b ∷ []) back (length front + 1) len in
    off g.0 g.1 (subst (λ (t : List ℕ). spells g.0 t) (ap (λ (t : List ℕ). t ++ g.1) cut ∙ append_assoc front (b ∷ []) g.1) g.3)

pub stops_first_bad : {X : Type 0} (spells : X → List ℕ → Type 0) (bytes : List ℕ) (left : ℕ) → Stops spells bytes left
    → ((x : X) → spells x bytes → ⊥) → IsFirstBad spells bytes (length bytes - left)
stops_first_bad spells bytes left s none =
    let len : length bytes - left ≡ length s.front = omega (arith, ap length s.parts, length-append s.front s.back, s.left_is) in
    let cut : take (length bytes - left) bytes ≡ s.front = ap (take (length bytes - left)) s.parts ∙ take_at s.front s.back (length bytes - left) (sym len) in
    record {
      within = omega (arith);
      goes_on = subst (λ (t : List ℕ). GoesOn spells t) (sym cut) s.on;
      no_further =
          λ lt g. no_further spells s.front s.back s.off (omega (arith, ap length s.parts, length-append s.front s.back)) (subst (λ (t : List ℕ). GoesOn spells t) (ap (λ (k : ℕ). take (k + 1) bytes) len ∙ ap (take (length s.front + 1)) s.parts) g);
      no_text = none;
    }

pub first_bad : {X : Type 0} (spells : X → List ℕ → Type 0) (read : List ℕ → Result X ℕ) → ReadsAll spells read → (bytes : List ℕ) (left : ℕ)
    → read bytes ≡ Err left
    → IsFirstBad spells bytes (length bytes - left)
first_bad spells read reads bytes left e =
    stops_first_bad spells bytes left (reads.stops bytes left e) (λ x g. let again = reads.again x bytes g in cc)

pub read_whole : {X : Type 0} (spells : X → List ℕ → Type 0) (read : List ℕ → Result X ℕ) → ReadsAll spells read → (bytes : List ℕ) (x : X)
    → read bytes ≡ Ok x
    → spells x bytes × ((y : X) → spells y bytes → y ≡ x)
read_whole spells read reads bytes x e = (reads.takes bytes x e, λ y g. let again = reads.again y bytes g in cc)

pub left_within : {X : Type 0} (spells : X → List ℕ → Type 0) (read : List ℕ → Result X ℕ) → ReadsAll spells read → (bytes : List ℕ) (left : ℕ)
    → read bytes ≡ Err left → left ≤ length bytes
left_within spells read reads bytes left e =
    let s = reads.stops bytes left e in
    omega (arith, ap length s.parts, length-append s.front s.back, s.left_is)
