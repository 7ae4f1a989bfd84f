-- The parts of a path, met from the left.
use Rattle.std.proofs.Common.{◌≡◌, ℕ, ◌+◌, ◌-◌, ◌<◌, ◌≤◌, Bool, true, false, cond, eqb, List, [], ◌∷◌, ◌++◌, length, take, drop, get_or, Some, None, refl, sym, ap, ◌∙◌, append_assoc, arith}
use Rattle.std.specs.List.{onto_first}
use Rattle.std.proofs.lemmas.List.{append-nil, length-take, length-drop, take_more, drop_more, drop_all, get_or-drop}
use Rattle.std.proofs.lemmas.Bool.{eq-eqb, ne_eqb}
use Rattle.seq_base.specs.Paths.{is_part, parts, first_bad}

-- the parts of what is left, behind the bytes of the first that were seen
abbrev pub onto : List ℕ → List (List ℕ) → List (List ℕ)
onto seen [] = seen ∷ []
onto seen (p ∷ ps) = (seen ++ p) ∷ ps

abbrev pub seen_of : List ℕ → ℕ → ℕ → List ℕ
seen_of bytes start i = take (i - start) (drop start bytes)

onto_more : (seen : List ℕ) (b : ℕ) (ps : List (List ℕ)) → onto seen (onto_first b ps) ≡ onto (seen ++ b ∷ []) ps
onto_more seen b [] = refl
onto_more seen b (p ∷ ps) = ap (λ (t : List ℕ). t ∷ ps) (sym (append_assoc seen (b ∷ []) p))

onto_none : (bytes : List ℕ) → onto [] (parts bytes) ≡ parts bytes
onto_none [] = refl
onto_none (b ∷ bytes) = at (eqb b 47)
  where
    first : (ps : List (List ℕ)) → onto [] (onto_first b ps) ≡ onto_first b ps
    first [] = refl
    first (p ∷ ps) = refl

    at : (t : Bool) → onto [] (cond t ([] ∷ parts bytes) (onto_first b (parts bytes))) ≡ cond t ([] ∷ parts bytes) (onto_first b (parts bytes))
    at true = refl
    at false = first (parts bytes)

pub record Met (bytes : List ℕ) (start i : ℕ) : Type 0 where
  pub within : start ≤ i
  pub same : first_bad start (onto (seen_of bytes start i) (parts (drop i bytes))) ≡ first_bad 0 (parts bytes)

pub met_none : (bytes : List ℕ) → Met bytes 0 0
met_none bytes = record { within = omega arith; same = ap (first_bad 0) (onto_none bytes) }

seen_more : (bytes : List ℕ) (start i : ℕ) → start ≤ i → i < length bytes
    → seen_of bytes start (i + 1) ≡ seen_of bytes start i ++ get_or bytes i 0 ∷ []
seen_more bytes start i le lt =
    let k : i + 1 - start ≡ (i - start) + 1 = omega arith in
    let at : get_or (drop start bytes) (i - start) 0 ≡ get_or bytes i 0 = get_or-drop start bytes (i - start) 0 ∙ ap (λ (n : ℕ). get_or bytes n 0) (let n : start + (i - start) ≡ i = omega arith in n) in
    ap (λ (n : ℕ). take n (drop start bytes)) k ∙ take_more (drop start bytes) (i - start) 0 (omega (arith, length-drop start bytes)) ∙ ap (λ (b : ℕ). take (i - start) (drop start bytes) ++ b ∷ []) at

pub met_more : (bytes : List ℕ) (start i : ℕ) → i < length bytes → (get_or bytes i 0 ≡ 47 → ⊥) → Met bytes start i → Met bytes start (i + 1)
met_more bytes start i lt ne m =
    let le = m.within in
    let cut : parts (drop i bytes) ≡ onto_first (get_or bytes i 0) (parts (drop (i + 1) bytes)) = ap parts (drop_more bytes i 0 lt) ∙ rw (ne_eqb (get_or bytes i 0) 47 ne) refl in
    let one : onto (seen_of bytes start i) (parts (drop i bytes)) ≡ onto (seen_of bytes start (i + 1)) (parts (drop (i + 1) bytes)) =
    ap (onto (seen_of bytes start i)) cut ∙ onto_more (seen_of bytes start i) (get_or bytes i 0) (parts (drop (i + 1) bytes)) ∙ ap (λ (t : List ℕ). onto t (parts (drop (i + 1) bytes))) (sym (seen_more bytes start i le lt)) in
    record { within = omega arith; same = ap (first_bad start) (sym one) ∙ m.same }

-- at a slash
ended : (bytes : List ℕ) (start i : ℕ) → i < length bytes → get_or bytes i 0 ≡ 47
    → onto (seen_of bytes start i) (parts (drop i bytes)) ≡ seen_of bytes start i ∷ parts (drop (i + 1) bytes)
ended bytes start i lt eq =
    let cut : parts (drop i bytes) ≡ [] ∷ parts (drop (i + 1) bytes) = ap parts (drop_more bytes i 0 lt) ∙ rw (eq-eqb (get_or bytes i 0) 47 eq) refl in
    ap (onto (seen_of bytes start i)) cut ∙ ap (λ (t : List ℕ). t ∷ parts (drop (i + 1) bytes)) (append-nil (seen_of bytes start i))

length-seen : (bytes : List ℕ) (start i : ℕ) → start ≤ i → i ≤ length bytes → length (seen_of bytes start i) ≡ i - start
length-seen bytes start i le lt = omega (arith, length-take (i - start) (drop start bytes), length-drop start bytes)

pub met_slash : (bytes : List ℕ) (start i : ℕ) → i < length bytes → get_or bytes i 0 ≡ 47 → is_part (seen_of bytes start i) ≡ true → Met bytes start i
    → Met bytes (i + 1) (i + 1)
met_slash bytes start i lt eq good m =
    let le = m.within in
    let k : i + 1 - (i + 1) ≡ 0 = omega arith in
    let n : start + length (seen_of bytes start i) + 1 ≡ i + 1 = omega (arith, length-seen bytes start i le) in
    let step : first_bad start (seen_of bytes start i ∷ parts (drop (i + 1) bytes)) ≡ first_bad (i + 1) (parts (drop (i + 1) bytes)) = rw good (ap (λ (a : ℕ). first_bad a (parts (drop (i + 1) bytes))) n) in
    record {
      within = omega arith;
      same =
          ap (λ (j : ℕ). first_bad (i + 1) (onto (take j (drop (i + 1) bytes)) (parts (drop (i + 1) bytes)))) k
          ∙ ap (first_bad (i + 1)) (onto_none (drop (i + 1) bytes)) ∙ sym step ∙ ap (first_bad start) (sym (ended bytes start i lt eq)) ∙ m.same;
    }

pub met_bad : (bytes : List ℕ) (start i : ℕ) → i < length bytes → get_or bytes i 0 ≡ 47 → is_part (seen_of bytes start i) ≡ false → Met bytes start i
    → first_bad 0 (parts bytes) ≡ Some start
met_bad bytes start i lt eq bad m =
    let step : first_bad start (seen_of bytes start i ∷ parts (drop (i + 1) bytes)) ≡ Some start = rw bad refl in
    sym m.same ∙ ap (first_bad start) (ended bytes start i lt eq) ∙ step

pub met_last : (bytes : List ℕ) (start i : ℕ) → length bytes ≤ i → (t : Bool) → is_part (seen_of bytes start i) ≡ t → Met bytes start i
    → first_bad 0 (parts bytes) ≡ cond t None (Some start)
met_last bytes start i le t is m =
    let cut : parts (drop i bytes) ≡ [] ∷ [] = ap parts (drop_all i bytes le) in
    let one : onto (seen_of bytes start i) (parts (drop i bytes)) ≡ seen_of bytes start i ∷ [] = ap (onto (seen_of bytes start i)) cut ∙ ap (λ (s : List ℕ). s ∷ []) (append-nil (seen_of bytes start i)) in
    let step : first_bad start (seen_of bytes start i ∷ []) ≡ cond t None (Some start) = rw is refl in
    sym m.same ∙ ap (first_bad start) one ∙ step
