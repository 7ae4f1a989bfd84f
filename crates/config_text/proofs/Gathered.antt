-- The value that the reader gathers is the one that the parts spell.
use Rattle.std.proofs.Common.{◌≡◌, ℕ, Bool, true, false, cond, eqb, ◌&&◌, List, [], ◌∷◌, ◌++◌, length, map, refl, ◌∙◌, append_assoc}
use Rattle.std.specs.List.{list_all}
use Rattle.std.proofs.lemmas.List.{append-nil}
use Rattle.config_text.specs.Values.{Mark, without_front, without_end}
use Rattle.config_text.proofs.Runs.{some_length}

abbrev pub gathered : List ℕ → List ℕ → List Mark → List ℕ
gathered value blanks [] = value
gathered value blanks (m ∷ ms) =
    cond m.is_loose (cond (eqb (length value) 0) (gathered value blanks ms) (gathered value (blanks ++ m.byte ∷ []) ms))
    (gathered (value ++ blanks ++ m.byte ∷ []) [] ms)

abbrev loose : Mark → Bool
loose m = m.is_loose

abbrev bytes : List Mark → List ℕ
bytes ms = map (λ m. m.byte) ms

none_left : (ms : List Mark) → list_all (λ n. n.is_loose) ms ≡ true → without_end ms ≡ []
none_left [] e = refl
none_left (m ∷ ms) e = rw e refl

long : (v bl : List ℕ) (b : ℕ) → eqb (length (v ++ bl ++ b ∷ [])) 0 ≡ false
long [] [] b = refl
long [] (c ∷ bl) b = some_length c (bl ++ b ∷ [])
long (c ∷ v) bl b = some_length c (v ++ bl ++ b ∷ [])

inner : (ms : List Mark) (v bl : List ℕ) → eqb (length v) 0 ≡ false
    → gathered v bl ms ≡ cond (list_all (λ n. n.is_loose) ms) v ((v ++ bl) ++ map (λ m. m.byte) (without_end ms))
inner [] v bl some = refl
inner (m ∷ ms) v bl some =
    at m.is_loose (list_all (λ n. n.is_loose) ms) refl (inner ms v (bl ++ m.byte ∷ []) some) (inner ms (v ++ bl ++ m.byte ∷ []) [] (long v bl m.byte))
  where
    at : (t u : Bool) → list_all (λ n. n.is_loose) ms ≡ u
        → gathered v (bl ++ m.byte ∷ []) ms ≡ cond u v ((v ++ (bl ++ m.byte ∷ [])) ++ map (λ m. m.byte) (without_end ms))
        → gathered (v ++ bl ++ m.byte ∷ []) [] ms ≡ cond u (v ++ bl ++ m.byte ∷ []) (((v ++ bl ++ m.byte ∷ []) ++ []) ++ map (λ m. m.byte) (without_end ms))
        → cond t (cond (eqb (length v) 0) (gathered v bl ms) (gathered v (bl ++ m.byte ∷ []) ms)) (gathered (v ++ bl ++ m.byte ∷ []) [] ms)
        ≡ cond (t && u) v ((v ++ bl) ++ map (λ m. m.byte) (cond (t && u) [] (m ∷ without_end ms)))
    at true true is later other = rw some later
    at true false is later other = rw some (later ∙ simp append_assoc)
    at false true is later other = rw (none_left ms is) other
    at false false is later other = other ∙ simp (append-nil, append_assoc)

pub gathered_is : (ms : List Mark) → gathered [] [] ms ≡ map (λ m. m.byte) (without_end (without_front ms))
gathered_is [] = refl
gathered_is (m ∷ ms) = at m.is_loose refl (gathered_is ms) (inner ms (m.byte ∷ []) [] refl) (list_all (λ n. n.is_loose) ms) refl
  where
    at : (t : Bool) → m.is_loose ≡ t → gathered [] [] ms ≡ map (λ m. m.byte) (without_end (without_front ms))
        → gathered (m.byte ∷ []) [] ms ≡ cond (list_all (λ n. n.is_loose) ms) (m.byte ∷ []) (m.byte ∷ map (λ m. m.byte) (without_end ms))
        → (u : Bool) → list_all (λ n. n.is_loose) ms ≡ u
        → cond t (gathered [] [] ms) (gathered (m.byte ∷ []) [] ms) ≡ map (λ m. m.byte) (without_end (cond t (without_front ms) (m ∷ ms)))
    at true is later other u u-is = later
    at false is later other true u-is = other ∙ rw (u-is, is, none_left ms u-is) refl
    at false is later other false u-is = other ∙ rw (u-is, is) refl
