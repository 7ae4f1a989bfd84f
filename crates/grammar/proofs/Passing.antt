-- Bytes that pass a test: so many of them, or those up to the byte that ends them.
use Rattle.std.proofs.Common.{◌≡◌, ℕ, zero, suc, ◌+◌, ◌-◌, ◌<◌, ◌≤◌, Bool, true, false, cond, ◌&&◌, List, [], ◌∷◌, ◌++◌, length, drop, get_or, Option, Some, None, Result, Ok, Err, refl, sym, ap, ◌∙◌, append_assoc, arith}
use Rattle.std.specs.List.{list_all}
use Rattle.std.proofs.lemmas.List.{append-nil, length-drop, drop_more, drop_all}
use Rattle.std.proofs.lemmas.List.Folds.{list_all-append}
use Rattle.grammar.specs.Grammar.{AllBytes}
use Rattle.grammar.specs.Readers.{NoneGoesOn, Stops, Reads, HasText, Passing, with_byte, passing_at, Word, IsWord, Run, run_at, valued_at}
use Rattle.grammar.proofs.Laws.{ok_is}
use Rattle.grammar.proofs.Words.{valued_reads, reads_by, valued_of, valued_err, span_may}
use Rattle.grammar.proofs.FieldLaws.{reads_same}

pub and_true : (a b : Bool) → (a && b) ≡ true → (a ≡ true) × (b ≡ true)
and_true true b e = (refl, e)
and_true false b e = absurd cc

-- ---- so many

-- with bytes that were read before
abbrev pub with_bytes : List ℕ → Result (List ℕ × List ℕ) ℕ → Result (List ℕ × List ℕ) ℕ
with_bytes front (Ok p) = Ok (front ++ p.0, p.1)
with_bytes front (Err e) = Err e

pub with_bytes-none : (r : Result (List ℕ × List ℕ) ℕ) → with_bytes [] r ≡ r
with_bytes-none (Ok p) = refl
with_bytes-none (Err e) = refl

pub with_bytes-byte : (front : List ℕ) (b : ℕ) (r : Result (List ℕ × List ℕ) ℕ) → with_bytes front (with_byte b r) ≡ with_bytes (front ++ b ∷ []) r
with_bytes-byte front b (Ok p) = ap (λ (xs : List ℕ). Ok (xs, p.1)) (sym (append_assoc front (b ∷ []) p.0))
with_bytes-byte front b (Err e) = refl

module _ (test : ℕ → Bool) where
  with_byte_ok : (b : ℕ) (r : Result (List ℕ × List ℕ) ℕ) (x rest : List ℕ) → with_byte b r ≡ Ok (x, rest)
      → (y : List ℕ) × (r ≡ Ok (y, rest)) × (x ≡ b ∷ y)
  with_byte_ok b (Ok p) x rest e =
      let same : (b ∷ p.0, p.1) ≡ (x, rest) = ok_is (b ∷ p.0, p.1) (x, rest) e in
      (p.0, ap (λ (q : List ℕ × List ℕ). Ok (p.0, q.1)) same, sym (ap (λ (q : List ℕ × List ℕ). q.0) same))
  with_byte_ok b (Err d) x rest e = absurd cc

  with_byte_err : (b : ℕ) (r : Result (List ℕ × List ℕ) ℕ) (left : ℕ) → with_byte b r ≡ Err left → r ≡ Err left
  with_byte_err b (Ok p) left e = absurd cc
  with_byte_err b (Err d) left e = cc

  passing_takes : (n : ℕ) (bytes x rest : List ℕ) → passing_at test n bytes ≡ Ok (x, rest)
      → (length x ≡ n) × (list_all test x ≡ true) × (bytes ≡ x ++ rest)
  unfolding passing_at
  passing_takes zero bytes x rest e =
      let same : ([], bytes) ≡ (x, rest) = ok_is ([], bytes) (x, rest) e in
      let x-is : [] ≡ x = ap (λ (p : List ℕ × List ℕ). p.0) same in
      let rest-is : bytes ≡ rest = ap (λ (p : List ℕ × List ℕ). p.1) same in
      (ap length (sym x-is), ap (list_all test) (sym x-is), rest-is ∙ ap (λ (t : List ℕ). t ++ rest) x-is)
  passing_takes (suc n) [] x rest e = absurd cc
  passing_takes (suc n) (b ∷ bytes) x rest e = at (passing_takes n bytes) (test b) refl e
    where
      at : ((y after : List ℕ) → passing_at test n bytes ≡ Ok (y, after) → (length y ≡ n) × (list_all test y ≡ true) × (bytes ≡ y ++ after))
          → (t : Bool) → test b ≡ t → cond t (with_byte b (passing_at test n bytes)) (Err (suc (length bytes))) ≡ Ok (x, rest) → (length x ≡ suc n) × (list_all test x ≡ true) × (b ∷ bytes ≡ x ++ rest)
      at later true is e =
          let k = with_byte_ok b (passing_at test n bytes) x rest e in
          let l = later k.0 rest k.1 in
          let all : list_all test (b ∷ k.0) ≡ true = rw is l.1 in
          (ap length k.2 ∙ ap suc l.0, ap (list_all test) k.2 ∙ all, ap (λ (t : List ℕ). b ∷ t) l.2 ∙ ap (λ (t : List ℕ). t ++ rest) (sym k.2))
      at later false is e = absurd cc

  passing_again : (n : ℕ) (x rest : List ℕ) → length x ≡ n → list_all test x ≡ true → passing_at test n (x ++ rest) ≡ Ok (x, rest)
  unfolding passing_at
  passing_again zero [] rest len all = refl
  passing_again zero (b ∷ x) rest len all = absurd (omega arith)
  passing_again (suc n) [] rest len all = absurd (omega arith)
  passing_again (suc n) (b ∷ x) rest len all =
      let k = and_true (test b) (list_all test x) all in
      let first = k.0 in
      rw first (ap (with_byte b) (passing_again n x rest (omega arith) k.1))

  fill : ℕ → ℕ → List ℕ
  fill c zero = []
  fill c (suc n) = c ∷ fill c n

  fill_is : (c n : ℕ) → c < 256 → test c ≡ true → (length (fill c n) ≡ n) × AllBytes (fill c n) × (list_all test (fill c n) ≡ true)
  unfolding fill
  fill_is c zero fits on = (refl, tt, refl)
  fill_is c (suc n) fits on = let k = fill_is c n fits on in (ap suc k.0, (fits, k.1), rw on k.2)

  passing_stops : (c : ℕ) → c < 256 → test c ≡ true → (n : ℕ) (bytes : List ℕ) (left : ℕ) → passing_at test n bytes ≡ Err left
      → Stops (Passing test n) bytes left
  unfolding passing_at
  passing_stops c fits on zero bytes left e = absurd cc
  passing_stops c fits on (suc n) [] left e =
      let k = fill_is c (suc n) fits on in
      record { front = []; back = []; parts = refl; left_is = cc; on = (fill c (suc n), fill c (suc n), k.1, (k.0, k.2, refl)); off = tt }
  passing_stops c fits on (suc n) (b ∷ bytes) left e = at (passing_stops c fits on n bytes left) (test b) refl e
    where
      off_behind : test b ≡ true → (front back : List ℕ) → NoneGoesOn (Passing test n) front back → NoneGoesOn (Passing test (suc n)) (b ∷ front) back
      off_behind is front [] off = tt
      off_behind is front (d ∷ back) off = λ x more g.
          let len : length (front ++ d ∷ more) ≡ n = let k = ap length g.2 in let l = g.0 in omega arith in
          let all = ap (list_all test) g.2 ∙ g.1 in
          off (front ++ d ∷ more) more (len, (and_true (test b) (list_all test (front ++ d ∷ more)) all).1, refl)

      at : (passing_at test n bytes ≡ Err left → Stops (Passing test n) bytes left) → (t : Bool) → test b ≡ t
          → cond t (with_byte b (passing_at test n bytes)) (Err (suc (length bytes))) ≡ Err left → Stops (Passing test (suc n)) (b ∷ bytes) left
      at later true is e =
          let k = later (with_byte_err b (passing_at test n bytes) left e) in
          let text-is = k.on.3.2 in
          let all : list_all test (b ∷ k.on.0) ≡ true = rw is k.on.3.1 in
          record {
            front = b ∷ k.front;
            back = k.back;
            parts = ap (λ (t : List ℕ). b ∷ t) k.parts;
            left_is = k.left_is;
            on = (b ∷ k.on.0, k.on.1, k.on.2, (ap suc k.on.3.0, all, ap (λ (t : List ℕ). b ∷ t) text-is));
            off = off_behind is k.front k.back k.off;
          }
      at later false is e =
          let k = fill_is c (suc n) fits on in
          record {
            front = [];
            back = b ∷ bytes;
            parts = refl;
            left_is = cc;
            on = (fill c (suc n), fill c (suc n), k.1, (k.0, k.2, refl));
            off = λ x more g.
                let all = (and_true (test b) (list_all test more) (ap (list_all test) g.2 ∙ g.1)).0 in
                cc;
          }

  -- c is some byte that passes
  pub passing_reads : (c : ℕ) → c < 256 → test c ≡ true → (n : ℕ) → Reads (Passing test n) (passing_at test n)
  passing_reads c fits on n = record {
    takes = λ bytes x rest e. let k = passing_takes n bytes x rest e in (x, (k.0, k.1, refl), k.2);
    again = λ x text rest g. ap (λ (t : List ℕ). passing_at test n (t ++ rest)) g.2 ∙ passing_again n x rest g.0 g.1;
    stops = λ bytes left e. passing_stops c fits on n bytes left e;
  }

  pub passing_has : (c : ℕ) → c < 256 → test c ≡ true → (n : ℕ) → HasText (Passing test n)
  passing_has c fits on n = let k = fill_is c n fits on in (fill c n, fill c n, k.1, (k.0, k.2, refl))

  -- a loop over these bytes
  pub passing_more : (n : ℕ) (bytes : List ℕ) (i : ℕ) → i < n → i < length bytes → test (get_or bytes i 0) ≡ true
      → passing_at test (n - i) (drop i bytes) ≡ with_byte (get_or bytes i 0) (passing_at test (n - (i + 1)) (drop (i + 1) bytes))
  unfolding passing_at
  passing_more n bytes i lt within on =
      let k : n - i ≡ suc (n - (i + 1)) = omega arith in
      rw (k, drop_more bytes i 0 within, on) refl

  pub passing_off : (n : ℕ) (bytes : List ℕ) (i : ℕ) → i < n → i < length bytes → test (get_or bytes i 0) ≡ false
      → passing_at test (n - i) (drop i bytes) ≡ Err (length bytes - i)
  unfolding passing_at
  passing_off n bytes i lt within off =
      let k : n - i ≡ suc (n - (i + 1)) = omega arith in
      let len : suc (length (drop (i + 1) bytes)) ≡ length bytes - i = omega (arith, length-drop (i + 1) bytes) in
      rw (k, drop_more bytes i 0 within, off) (ap Err len)

  pub passing_short : (n : ℕ) (bytes : List ℕ) (i : ℕ) → i < n → length bytes ≤ i → passing_at test (n - i) (drop i bytes) ≡ Err 0
  unfolding passing_at
  passing_short n bytes i lt short =
      let k : n - i ≡ suc (n - (i + 1)) = omega arith in
      rw (k, drop_all i bytes short) refl

  pub passing_done : (n : ℕ) (bytes : List ℕ) (i : ℕ) → n ≤ i → passing_at test (n - i) (drop i bytes) ≡ Ok ([], drop i bytes)
  unfolding passing_at
  passing_done n bytes i le =
      let k : n - i ≡ 0 = omega arith in
      rw k refl

  -- ---- up to the byte that ends them

  run_value : List ℕ → Option (List ℕ)
  run_value w = cond (list_all test w) (Some w) None

  value_is : (w x : List ℕ) → run_value w ≡ Some x → (list_all test w ≡ true) × (w ≡ x)
  unfolding run_value
  value_is w x v = at (list_all test w) refl v
    where
      at : (t : Bool) → list_all test w ≡ t → cond t (Some w) None ≡ Some x → (list_all test w ≡ true) × (w ≡ x)
      at true is v = (is, cc)
      at false is v = absurd cc

  is_run : (stop : ℕ) → stop < 256 → test stop ≡ false → IsWord (list_all test) run_value stop
  unfolding run_value
  is_run stop fits off = record {
    stop_fits = fits;
    starts = refl;
    fronts = λ front back b x v.
        let all = (value_is (front ++ b ∷ back) x v).0 in
        let whole = ap (list_all test) (append_assoc front (b ∷ []) back) ∙ all in
        let k = and_true (list_all test (front ++ b ∷ [])) (list_all test back) (sym (list_all-append test (front ++ b ∷ []) back) ∙ whole) in
        let one = and_true (list_all test front) (list_all test (b ∷ [])) (sym (list_all-append test front (b ∷ [])) ∙ k.0) in
        let last = (and_true (test b) true one.1).0 in
        (k.0, λ e. let same = ap test e in cc);
    ends = λ front m. (front, [], tt, rw (append-nil front, m) refl);
  }

  run_same : (stop : ℕ) (bytes : List ℕ) → run_at test stop bytes ≡ valued_at (list_all test) run_value stop bytes
  unfolding run_value
  run_same stop bytes = at (run_at test stop bytes) refl
    where
      at : (r : Result (List ℕ × List ℕ) ℕ) → run_at test stop bytes ≡ r → r ≡ valued_at (list_all test) run_value stop bytes
      at (Ok p) is =
          let on = span_may (list_all test) stop bytes p.0 p.1 refl is in
          let value : run_value p.0 ≡ Some p.0 = rw on refl in
          sym (valued_of (list_all test) run_value stop bytes p.0 p.1 (Some p.0) is value)
      at (Err n) is = sym (valued_err (list_all test) run_value stop bytes n is)

  run_to : (stop : ℕ) (x text : List ℕ) → Word run_value stop x text → Run test stop x text
  run_to stop x text g =
      let k = value_is g.0 x g.1 in
      (ap (list_all test) (sym k.1) ∙ k.0, g.2 ∙ ap (λ (t : List ℕ). t ++ stop ∷ []) k.1)

  run_from : (stop : ℕ) (x text : List ℕ) → Run test stop x text → Word run_value stop x text
  unfolding run_value
  run_from stop x text g = let on = g.0 in (x, rw on refl, g.1)

  pub run_reads : (stop : ℕ) → stop < 256 → test stop ≡ false → Reads (Run test stop) (run_at test stop)
  run_reads stop fits off = reads_by (Run test stop) (valued_at (list_all test) run_value stop) (run_at test stop) (run_same stop)
      (reads_same (Word run_value stop) (Run test stop) (valued_at (list_all test) run_value stop) (run_to stop) (run_from stop) (valued_reads (list_all test) run_value stop (is_run stop fits off)))

  pub run_has : (stop : ℕ) → stop < 256 → HasText (Run test stop)
  run_has stop fits = ([], stop ∷ [], (fits, tt), (refl, refl))
