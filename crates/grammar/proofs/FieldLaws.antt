-- So many bytes, these bytes, all that is left; another grammar of the same texts.
use Rattle.std.proofs.Common.{◌≡◌, ℕ, zero, suc, ◌-◌, Bool, true, false, cond, eqb, ltb, List, [], ◌∷◌, ◌++◌, length, take, drop, Result, Ok, Err, refl, sym, ap, subst, ◌∙◌, arith}
use Rattle.std.proofs.lemmas.List.{append-nil, take_at, drop_at, take-append-drop, length-append, length-take}
use Rattle.std.proofs.lemmas.Bool.{eqb-true, eqb-false, eq-eqb, ltb-false, ltb-true, le-ltb}
use Rattle.grammar.specs.Grammar.{AllBytes}
use Rattle.grammar.specs.Readers.{NoneGoesOn, Stops, Reads, ReadsAll, HasText, Front, front_at, Literal, literal_at, Rest, rest_at, End, end_at}
use Rattle.grammar.proofs.Laws.{ok_is}

zeros : ℕ → List ℕ
zeros zero = []
zeros (suc n) = 0 ∷ zeros n

length-zeros : (n : ℕ) → length (zeros n) ≡ n
unfolding zeros
length-zeros zero = refl
length-zeros (suc n) = ap suc (length-zeros n)

bytes-zeros : (n : ℕ) → AllBytes (zeros n)
unfolding zeros
bytes-zeros zero = tt
bytes-zeros (suc n) = (omega arith, bytes-zeros n)

front_takes : (n : ℕ) (bytes x rest : List ℕ) (t : Bool) → ltb (length bytes) n ≡ t
    → cond {A = Result (List ℕ × List ℕ) ℕ} t (Err 0) (Ok (take n bytes, drop n bytes)) ≡ Ok (x, rest)
    → (text : List ℕ) × Front n x text × (bytes ≡ text ++ rest)
front_takes n bytes x rest true is e = absurd cc
front_takes n bytes x rest false is e =
    let same : (take n bytes, drop n bytes) ≡ (x, rest) = ok_is (take n bytes, drop n bytes) (x, rest) e in
    let long = ltb-false _ _ is in
    let len : length (take n bytes) ≡ n = omega (arith, length-take n bytes) in
    subst (λ (p : List ℕ × List ℕ). (text : List ℕ) × Front n p.0 text × (bytes ≡ text ++ p.1)) same (take n bytes, (len, refl), sym (take-append-drop n bytes))

front_stops : (n : ℕ) (bytes : List ℕ) (left : ℕ) (t : Bool) → ltb (length bytes) n ≡ t
    → cond {A = Result (List ℕ × List ℕ) ℕ} t (Err 0) (Ok (take n bytes, drop n bytes)) ≡ Err left → Stops (Front n) bytes left
front_stops n bytes left true is e =
    let short = ltb-true _ _ is in
    let k = n - length bytes in
    let len : length (bytes ++ zeros k) ≡ n = omega (arith, length-append bytes (zeros k), length-zeros k) in
    record { front = bytes; back = []; parts = sym (append-nil bytes); left_is = cc; on = (bytes ++ zeros k, zeros k, bytes-zeros k, (len, refl)); off = tt }
front_stops n bytes left false is e = absurd cc

pub front_reads : (n : ℕ) → Reads (Front n) (front_at n)
front_reads n = record {
  takes = λ bytes x rest e. front_takes n bytes x rest (ltb (length bytes) n) refl e;
  again = λ x text rest g.
      let len = g.0 in
      let same = g.1 in
      let long : ltb (length (x ++ rest)) n ≡ false = le-ltb _ _ (omega (arith, length-append x rest)) in
      rw (same, long, take_at x rest n len, drop_at x rest n len) refl;
  stops = λ bytes left e. front_stops n bytes left (ltb (length bytes) n) refl e;
}

pub front_has : (n : ℕ) → HasText (Front n)
front_has n = (zeros n, zeros n, bytes-zeros n, (length-zeros n, refl))

-- ---- these bytes

literal_takes : (w bytes : List ℕ) (x : Unit {0}) (rest : List ℕ) → literal_at w bytes ≡ Ok (x, rest) → bytes ≡ w ++ rest
unfolding literal_at
literal_takes [] bytes x rest e =
    let same : (tt, bytes) ≡ (x, rest) = ok_is (tt, bytes) (x, rest) e in ap (λ (p : Unit {0} × List ℕ). p.1) same
literal_takes (c ∷ w) [] x rest e = absurd cc
literal_takes (c ∷ w) (b ∷ bytes) x rest e = at (literal_takes w bytes x rest) (eqb b c) refl e
  where
    at : (literal_at w bytes ≡ Ok (x, rest) → bytes ≡ w ++ rest) → (t : Bool) → eqb b c ≡ t
        → cond t (literal_at w bytes) (Err (suc (length bytes))) ≡ Ok (x, rest) → b ∷ bytes ≡ c ∷ (w ++ rest)
    at later true is e =
        let same = eqb-true b c is in
        let k = later e in
        cc
    at later false is e = absurd cc

literal_again : (w rest : List ℕ) → literal_at w (w ++ rest) ≡ Ok (tt, rest)
unfolding literal_at
literal_again [] rest = refl
literal_again (c ∷ w) rest = rw (eq-eqb c c refl) (literal_again w rest)

literal_stops : (w bytes : List ℕ) (left : ℕ) → AllBytes w → literal_at w bytes ≡ Err left → Stops (Literal w) bytes left
unfolding literal_at
literal_stops [] bytes left fits e = absurd cc
literal_stops (c ∷ w) [] left fits e = record { front = []; back = []; parts = refl; left_is = cc; on = (tt, c ∷ w, fits, refl); off = tt }
literal_stops (c ∷ w) (b ∷ bytes) left fits e = at (literal_stops w bytes left fits.1) (eqb b c) refl e
  where
    off_behind : (front back : List ℕ) → NoneGoesOn (Literal w) front back → NoneGoesOn (Literal (c ∷ w)) (c ∷ front) back
    off_behind front [] off = tt
    off_behind front (d ∷ back) off = λ x more g. off x more (let k = g in cc)

    at : (literal_at w bytes ≡ Err left → Stops (Literal w) bytes left) → (t : Bool) → eqb b c ≡ t
        → cond t (literal_at w bytes) (Err (suc (length bytes))) ≡ Err left → Stops (Literal (c ∷ w)) (b ∷ bytes) left
    at later true is e =
        let same = eqb-true b c is in
        let k = later e in
        let parts = k.parts in
        record {
          front = c ∷ k.front;
          back = k.back;
          parts = cc;
          left_is = k.left_is;
          on = (tt, k.on.1, k.on.2, ap (λ (t : List ℕ). c ∷ t) k.on.3);
          off = off_behind k.front k.back k.off;
        }
    at later false is e = record {
      front = [];
      back = b ∷ bytes;
      parts = refl;
      left_is = cc;
      on = (tt, c ∷ w, fits, refl);
      off = λ x more g. eqb-false b c is (let k = g in cc);
    }

pub literal_reads : (w : List ℕ) → AllBytes w → Reads (Literal w) (literal_at w)
literal_reads w fits = record {
  takes = λ bytes x rest e. (w, refl, literal_takes w bytes x rest e);
  again = λ x text rest g. ap (λ (t : List ℕ). literal_at w (t ++ rest)) g ∙ literal_again w rest;
  stops = λ bytes left e. literal_stops w bytes left fits e;
}

pub literal_has : (w : List ℕ) → AllBytes w → HasText (Literal w)
literal_has w fits = (tt, w, fits, refl)

-- ---- all that is left

pub rest_reads : ReadsAll Rest rest_at
rest_reads = record {
  takes = λ bytes x e. ok_is bytes x e;
  again = λ x bytes g. ap rest_at g;
  stops = λ bytes left e. absurd cc;
}

pub end_reads : ReadsAll End end_at
end_reads = record {
  takes = takes;
  again = λ x bytes g. ap end_at g;
  stops = stops;
}
  where
    takes : (bytes : List ℕ) (x : Unit {0}) → end_at bytes ≡ Ok x → End x bytes
    takes [] x e = refl
    takes (b ∷ bytes) x e = absurd cc

    stops : (bytes : List ℕ) (left : ℕ) → end_at bytes ≡ Err left → Stops End bytes left
    stops [] left e = absurd cc
    stops (b ∷ bytes) left e =
        record { front = []; back = b ∷ bytes; parts = refl; left_is = cc; on = (tt, [], tt, refl); off = λ x more g. absurd (let k = g in cc) }

-- ---- another grammar of the same texts

pub stops_same : {X Y : Type 0} (spells : X → List ℕ → Type 0) (others : Y → List ℕ → Type 0) (bytes : List ℕ) (left : ℕ)
    → ((x : X) (text : List ℕ) → spells x text → (y : Y) × others y text) → ((y : Y) (text : List ℕ) → others y text → (x : X) × spells x text) → Stops spells bytes left → Stops others bytes left
stops_same spells others bytes left to from s = record {
  front = s.front;
  back = s.back;
  parts = s.parts;
  left_is = s.left_is;
  on = let k = to s.on.0 (s.front ++ s.on.1) s.on.3 in (k.0, s.on.1, s.on.2, k.1);
  off = off s.front s.back s.off;
}
  where
    off : (front back : List ℕ) → NoneGoesOn spells front back → NoneGoesOn others front back
    off front [] o = tt
    off front (b ∷ back) o = λ y more g. let k = from y (front ++ b ∷ more) g in o k.0 more k.1

pub reads_same : {X : Type 0} (spells others : X → List ℕ → Type 0) (read : List ℕ → Result (X × List ℕ) ℕ)
    → ((x : X) (text : List ℕ) → spells x text → others x text) → ((x : X) (text : List ℕ) → others x text → spells x text) → Reads spells read → Reads others read
reads_same spells others read to from reads = record {
  takes = λ bytes x rest e. let k = reads.takes bytes x rest e in (k.0, to x k.0 k.1, k.2);
  again = λ x text rest g. reads.again x text rest (from x text g);
  stops =
      λ bytes left e. stops_same spells others bytes left (λ x text g. (x, to x text g)) (λ x text g. (x, from x text g)) (reads.stops bytes left e);
}

pub reads_all_same : {X : Type 0} (spells others : X → List ℕ → Type 0) (read : List ℕ → Result X ℕ)
    → ((x : X) (text : List ℕ) → spells x text → others x text) → ((x : X) (text : List ℕ) → others x text → spells x text) → ReadsAll spells read → ReadsAll others read
reads_all_same spells others read to from reads = record {
  takes = λ bytes x e. to x bytes (reads.takes bytes x e);
  again = λ x text g. reads.again x text (from x text g);
  stops =
      λ bytes left e. stops_same spells others bytes left (λ x text g. (x, to x text g)) (λ x text g. (x, from x text g)) (reads.stops bytes left e);
}
