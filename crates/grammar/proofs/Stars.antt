-- Some, each told by its first byte, and then a last one.
use Rattle.std.proofs.Common.{◌≡◌, ℕ, zero, suc, ◌<◌, ◌≤◌, Bool, true, false, cond, List, [], ◌∷◌, ◌++◌, length, Result, Ok, Err, refl, sym, ap, subst, ◌∙◌, arith, inl, inr}
use Rattle.std.proofs.lemmas.List.{length-append}
use Rattle.grammar.specs.Readers.{◌>>=◌, NoneGoesOn, Stops, ReadsAll, HasText, Then, Star, with_none, with_one, star_at, IsStar, BeginsWith, BeginsOtherwise}
use Rattle.grammar.proofs.FieldLaws.{stops_same}
use Rattle.grammar.proofs.Laws.{ok_is, bind_ok, bind_err, then_stops, then_stops_later}

-- the first byte of what goes on with a text
begins_behind : (test : ℕ → Bool) (a b : List ℕ) (c : ℕ) (rest : List ℕ) → BeginsWith test a → c ∷ rest ≡ a ++ b → test c ≡ true
begins_behind test [] b c rest h e = absurd h
begins_behind test (d ∷ a) b c rest h e = let same : c ≡ d = cc in ap test same ∙ h

pub begins_length : (test : ℕ → Bool) (a : List ℕ) → BeginsWith test a → 0 < length a
begins_length test [] h = absurd h
begins_length test (d ∷ a) h = omega arith

others_first : (test : ℕ → Bool) (a : List ℕ) (c : ℕ) (rest : List ℕ) → BeginsOtherwise test a → a ≡ c ∷ rest → test c ≡ false
others_first test [] c rest h e = absurd cc
others_first test (d ∷ a) c rest h e = let same : c ≡ d = cc in ap test same ∙ h

-- bytes that are cut at a place begin with the same byte, whatever follows the place
first_byte : (front : List ℕ) (c : ℕ) (back more : List ℕ) (b : ℕ) (bytes : List ℕ) → b ∷ bytes ≡ front ++ c ∷ back
    → (rest : List ℕ) × (front ++ c ∷ more ≡ b ∷ rest)
first_byte [] c back more b bytes e = (more, let k : c ≡ b = cc in ap (λ (d : ℕ). d ∷ more) k)
first_byte (d ∷ front) c back more b bytes e = (front ++ c ∷ more, let k : d ≡ b = cc in ap (λ (d : ℕ). d ∷ (front ++ c ∷ more)) k)

not_nil : (front : List ℕ) (c : ℕ) (back : List ℕ) → [] ≡ front ++ c ∷ back → ⊥
not_nil [] c back e = cc
not_nil (d ∷ front) c back e = cc

none_ok : {X Z : Type 0} (r : Result Z ℕ) (xs : List X) (z : Z) → with_none r ≡ Ok (xs, z) → (xs ≡ []) × (r ≡ Ok z)
none_ok {X} {Z} (Ok w) xs z e =
    let same : ([], w) ≡ (xs, z) = ok_is ([], w) (xs, z) e in
    (sym (ap (λ (p : List X × Z). p.0) same), ap (λ (p : List X × Z). Ok p.1) same)
none_ok (Err d) xs z e = absurd cc

none_err : {X Z : Type 0} (r : Result Z ℕ) (left : ℕ) → with_none {X = X} r ≡ Err left → r ≡ Err left
none_err (Ok w) left e = absurd cc
none_err (Err d) left e = cc

one_ok : {X Z : Type 0} (x : X) (r : Result (List X × Z) ℕ) (xs : List X) (z : Z) → with_one x r ≡ Ok (xs, z)
    → (ys : List X) × (r ≡ Ok (ys, z)) × (xs ≡ x ∷ ys)
one_ok {X} {Z} x (Ok p) xs z e =
    let same : (x ∷ p.0, p.1) ≡ (xs, z) = ok_is (x ∷ p.0, p.1) (xs, z) e in
    (p.0, ap (λ (q : List X × Z). Ok (p.0, q.1)) same, sym (ap (λ (q : List X × Z). q.0) same))
one_ok x (Err d) xs z e = absurd cc

one_err : {X Z : Type 0} (x : X) (r : Result (List X × Z) ℕ) (left : ℕ) → with_one x r ≡ Err left → r ≡ Err left
one_err x (Ok p) left e = absurd cc
one_err x (Err d) left e = cc

module _ {S X Z : Type 0} (IsGood : S → Type 0) (test : ℕ → Bool) (next : S → X → S) (each : S → X → List ℕ → Type 0) (last : S → Z → List ℕ → Type 0)
    (read_each : S → List ℕ → Result (X × List ℕ) ℕ) (read_last : S → List ℕ → Result Z ℕ) (star : IsStar IsGood test next each last read_each read_last) where
  abbrev spells : S → List X × Z → List ℕ → Type 0
  spells s p text = Star next each last s p.0 p.1 text

  -- what follows the first
  abbrev After : S → X → List X × Z → List ℕ → Type 0
  After s x p text = (q : List X × Z) × spells (next s x) q text × (p ≡ (x ∷ q.0, q.1))

  as_then : (s : S) (xs : List X) (z : Z) (b : ℕ) (text : List ℕ) → IsGood s → test b ≡ true → (rest : List ℕ) → text ≡ b ∷ rest
      → spells s (xs, z) text → Then (each s) (After s) (xs, z) text
  as_then s [] z b text good on rest e g =
      let off = others_first test text b rest (star.begins_last s z text g) e in absurd cc
  as_then s (x ∷ xs) z b text good on rest e g = (x, g.0, g.1, g.2, ((xs, z), g.3, refl), g.4)

  from_then : (s : S) (p : List X × Z) (text : List ℕ) → Then (each s) (After s) p text → spells s p text
  from_then s p text g =
      subst (λ (y : List X × Z). spells s y text) (sym g.4.2) (g.1, g.2, g.3, g.4.1, g.5)

  last_takes : (s : S) (bytes : List ℕ) (xs : List X) (z : Z) → IsGood s → with_none (read_last s bytes) ≡ Ok (xs, z)
      → Star next each last s xs z bytes
  last_takes s bytes xs z good e =
      let p = none_ok (read_last s bytes) xs z e in
      subst (λ (ys : List X). Star next each last s ys z bytes) (sym p.0) ((star.reads_last s good).takes bytes z p.1)

  -- where no further one begins, the last is met
  no_text : (s : S) (front : List ℕ) (c : ℕ) (back more : List ℕ) (bytes : List ℕ) → bytes ≡ front ++ c ∷ back → BeginsOtherwise test bytes
      → NoneGoesOn (last s) front (c ∷ back)
      → (xs : List X) (z : Z) → Star next each last s xs z (front ++ c ∷ more) → ⊥
  no_text s front c back more bytes parts other off [] z g = off z more g
  no_text s front c back more [] parts other off (x ∷ xs) z g = not_nil front c back parts
  no_text s front c back more (b ∷ bytes) parts other off (x ∷ xs) z g =
      let f = first_byte front c back more b bytes parts in
      let on = begins_behind test g.0 g.1 b f.0 (star.begins s x g.0 g.2) (sym f.1 ∙ g.4) in
      cc

  off_last : (s : S) (bytes front back : List ℕ) → bytes ≡ front ++ back → BeginsOtherwise test bytes → NoneGoesOn (last s) front back
      → NoneGoesOn (spells s) front back
  off_last s bytes front [] parts other off = tt
  off_last s bytes front (c ∷ back) parts other off = λ p more g. no_text s front c back more bytes parts other off p.0 p.1 g

  last_stops : (s : S) (bytes : List ℕ) (left : ℕ) → IsGood s → BeginsOtherwise test bytes → with_none {X = X} (read_last s bytes) ≡ Err left
      → Stops (spells s) bytes left
  last_stops s bytes left good other e =
      let q = (star.reads_last s good).stops bytes left (none_err (read_last s bytes) left e) in
      record {
        front = q.front;
        back = q.back;
        parts = q.parts;
        left_is = q.left_is;
        on = (([], q.on.0), q.on.1, q.on.2, q.on.3);
        off = off_last s bytes q.front q.back q.parts other q.off;
      }

  -- where a further one begins, it is read
  off_from_then : (s : S) (b : ℕ) (bytes front back : List ℕ) → IsGood s → test b ≡ true → b ∷ bytes ≡ front ++ back
      → NoneGoesOn (Then (each s) (After s)) front back → NoneGoesOn (spells s) front back
  off_from_then s b bytes front [] good on parts off = tt
  off_from_then s b bytes front (c ∷ back) good on parts off = λ p more g.
      let f = first_byte front c back more b bytes parts in
      off p more (as_then s p.0 p.1 b (front ++ c ∷ more) good on f.0 f.1 g)

  stops_from_then : (s : S) (b : ℕ) (bytes : List ℕ) (left : ℕ) → IsGood s → test b ≡ true → Stops (Then (each s) (After s)) (b ∷ bytes) left
      → Stops (spells s) (b ∷ bytes) left
  stops_from_then s b bytes left good on q = record {
    front = q.front;
    back = q.back;
    parts = q.parts;
    left_is = q.left_is;
    on = (q.on.0, q.on.1, q.on.2, from_then s q.on.0 (q.front ++ q.on.1) q.on.3);
    off = off_from_then s b bytes q.front q.back good on q.parts q.off;
  }

  after_stops : (s : S) (x : X) (bytes : List ℕ) (left : ℕ) → Stops (spells (next s x)) bytes left → Stops (After s x) bytes left
  after_stops s x bytes left q =
      stops_same (spells (next s x)) (After s x) bytes left (λ p text g. ((x ∷ p.0, p.1), (p, g, refl))) (λ p text g. (g.0, g.1)) q

  after_has : (s : S) (x : X) (text : List ℕ) → IsGood s → each s x text → HasText (After s x)
  after_has s x text good g =
      let k = star.has_last (next s x) (star.stays_good s x text good g) in
      ((x ∷ [], k.0), k.1, k.2, (([], k.0), k.3, refl))

  shorter : (s : S) (x : X) (a rest bytes : List ℕ) (n : ℕ) → each s x a → bytes ≡ a ++ rest → length bytes ≤ suc n → length rest ≤ n
  shorter s x a rest bytes n g e fits =
      let long = begins_length test a (star.begins s x a g) in
      omega (arith, length-append a rest, ap length e)

  -- what a further one and those behind it give
  abbrev further : ℕ → S → List ℕ → Result (List X × Z) ℕ
  further n s bytes = read_each s bytes >>= λ x. with_one x.0 (star_at test next read_each read_last n (next s x.0) x.1)

  abbrev rest_of : ℕ → X → S → List ℕ → Result (List X × Z) ℕ
  rest_of n x s bytes = with_one x (star_at test next read_each read_last n (next s x) bytes)

  pub star_takes : (n : ℕ) (s : S) (bytes : List ℕ) (xs : List X) (z : Z) → IsGood s → length bytes ≤ n
      → star_at test next read_each read_last n s bytes ≡ Ok (xs, z) → Star next each last s xs z bytes
  unfolding star_at
  star_takes zero s [] xs z good fits e = last_takes s [] xs z good e
  star_takes (suc n) s [] xs z good fits e = last_takes s [] xs z good e
  star_takes zero s (b ∷ bytes) xs z good fits e = absurd (omega arith)
  star_takes (suc n) s (b ∷ bytes) xs z good fits e = at (λ t rest. star_takes n t rest) (test b) e
    where
      at : ((t : S) (rest : List ℕ) (ys : List X) (w : Z) → IsGood t → length rest ≤ n → star_at test next read_each read_last n t rest ≡ Ok (ys, w) → Star next each last t ys w rest)
          → (t : Bool) → cond t (further n s (b ∷ bytes)) (with_none (read_last s (b ∷ bytes))) ≡ Ok (xs, z) → Star next each last s xs z (b ∷ bytes)
      at later true e =
          let p = bind_ok (read_each s (b ∷ bytes)) (λ x. rest_of n x.0 s x.1) (xs, z) e in
          let a = (star.reads_each s good).takes (b ∷ bytes) p.0.0 p.0.1 p.1 in
          let q = one_ok p.0.0 (star_at test next read_each read_last n (next s p.0.0) p.0.1) xs z p.2 in
          let rest = later (next s p.0.0) p.0.1 q.0 z (star.stays_good s p.0.0 a.0 good a.1) (shorter s p.0.0 a.0 p.0.1 (b ∷ bytes) n a.1 a.2 fits) q.1 in
          subst (λ (ys : List X). Star next each last s ys z (b ∷ bytes)) (sym q.2) (a.0, p.0.1, a.1, rest, a.2)
      at later false e = last_takes s (b ∷ bytes) xs z good e

  pub star_again : (n : ℕ) (s : S) (xs : List X) (z : Z) (bytes : List ℕ) → IsGood s → length bytes ≤ n → Star next each last s xs z bytes
      → star_at test next read_each read_last n s bytes ≡ Ok (xs, z)
  unfolding star_at
  star_again zero s [] z [] good fits g = ap with_none ((star.reads_last s good).again z [] g)
  star_again (suc n) s [] z [] good fits g = ap with_none ((star.reads_last s good).again z [] g)
  star_again zero s xs z (b ∷ bytes) good fits g = absurd (omega arith)
  star_again (suc n) s [] z (b ∷ bytes) good fits g =
      let off : test b ≡ false = star.begins_last s z (b ∷ bytes) g in
      rw off (ap with_none ((star.reads_last s good).again z (b ∷ bytes) g))
  star_again n s (x ∷ xs) z [] good fits g =
      let long = begins_length test g.0 (star.begins s x g.0 g.2) in
      absurd (omega (arith, ap length g.4, length-append g.0 g.1))
  star_again (suc n) s (x ∷ xs) z (b ∷ bytes) good fits g =
      let on : test b ≡ true = begins_behind test g.0 g.1 b bytes (star.begins s x g.0 g.2) g.4 in
      let first = ap (read_each s) g.4 ∙ (star.reads_each s good).again x g.0 g.1 g.2 in
      let rest = star_again n (next s x) xs z g.1 (star.stays_good s x g.0 good g.2) (shorter s x g.0 g.1 (b ∷ bytes) n g.2 g.4 fits) g.3 in
      rw on (ap (λ r. r >>= λ y. rest_of n y.0 s y.1) first ∙ ap (with_one x) rest)

  pub star_stops : (n : ℕ) (s : S) (bytes : List ℕ) (left : ℕ) → IsGood s → length bytes ≤ n
      → star_at test next read_each read_last n s bytes ≡ Err left → Stops (spells s) bytes left
  unfolding star_at
  star_stops zero s [] left good fits e = last_stops s [] left good tt e
  star_stops (suc n) s [] left good fits e = last_stops s [] left good tt e
  star_stops zero s (b ∷ bytes) left good fits e = absurd (omega arith)
  star_stops (suc n) s (b ∷ bytes) left good fits e = at (λ t rest. star_stops n t rest) (test b) refl e
    where
      at : ((t : S) (rest : List ℕ) (m : ℕ) → IsGood t → length rest ≤ n → star_at test next read_each read_last n t rest ≡ Err m → Stops (spells t) rest m)
          → (t : Bool) → test b ≡ t → cond t (further n s (b ∷ bytes)) (with_none (read_last s (b ∷ bytes))) ≡ Err left → Stops (spells s) (b ∷ bytes) left
      at later true is e = stops_from_then s b bytes left good is
          (elim (bind_err (read_each s (b ∷ bytes)) (λ x. rest_of n x.0 s x.1) left e) [
            | inl bad ↦ then_stops (each s) (After s) (read_each s) (star.reads_each s good) (λ x text g. after_has s x text good g) (b ∷ bytes) left bad
            | inr ok ↦
                let a = (star.reads_each s good).takes (b ∷ bytes) ok.0.0 ok.0.1 ok.1 in
                let bad = one_err ok.0.0 (star_at test next read_each read_last n (next s ok.0.0) ok.0.1) left ok.2 in
                let rest = later (next s ok.0.0) ok.0.1 left (star.stays_good s ok.0.0 a.0 good a.1) (shorter s ok.0.0 a.0 ok.0.1 (b ∷ bytes) n a.1 a.2 fits) bad in
                then_stops_later (each s) (After s) (read_each s) (star.reads_each s good) (b ∷ bytes) ok.0.0 ok.0.1 left ok.1 (after_stops s ok.0.0 ok.0.1 left rest)
          ])
      at later false is e = last_stops s (b ∷ bytes) left good is e

  pub star_reads : (s : S) → IsGood s
      → ReadsAll (λ p text. Star next each last s p.0 p.1 text) (λ bytes. star_at test next read_each read_last (length bytes) s bytes)
  star_reads s good = record {
    takes = λ bytes p e. star_takes (length bytes) s bytes p.0 p.1 good (omega arith) e;
    again = λ p bytes g. star_again (length bytes) s p.0 p.1 bytes good (omega arith) g;
    stops = λ bytes left e. star_stops (length bytes) s bytes left good (omega arith) e;
  }
