-- Skipping extensions, as a loop does.
use Rattle.std.proofs.Common.{◌≡◌, ℕ, zero, suc, ◌+◌, ◌-◌, ◌≤◌, Bool, true, false, not, cond, nat_lt, ◌==◌, List, length, drop, take, slice_index, Result, Ok, Err, refl, sym, ap, subst, ◌∙◌, arith}
use Rattle.std.specs.Int.{w32, from_be_bytes}
use Rattle.std.proofs.lemmas.Bool.Decides.{nat_tests}
use Rattle.std.proofs.lemmas.List.{length-drop}
use Rattle.index_file.specs.declared.fault.IndexFault.{IndexFault}
use Rattle.index_file.specs.declared.fault.IndexFault.TheVariants.{Magic, Version, Count, Name, Order, Extension, Hash, Memory}
use Rattle.index_file.specs.Reading.{◌>>=◌, Fails, extension_at, trailer_at, is_capital}

-- a fault is handed on
pub fails_then : {A B : Type 0} (f : IndexFault) (r : Result A IndexFault) (k : A → Result B IndexFault) → Fails f r → Fails f (r >>= k)
fails_then Memory r k h = tt
fails_then Magic r k h = rw h refl
fails_then (Version n) r k h = rw h refl
fails_then Count r k h = rw h refl
fails_then (Name n) r k h = rw h refl
fails_then (Order n) r k h = rw h refl
fails_then (Extension t) r k h = rw h refl
fails_then Hash r k h = rw h refl

pub fails_along : {A : Type 0} (f : IndexFault) (x y : Result A IndexFault) → x ≡ y → Fails f x → Fails f y
fails_along f x y e h = let P = λ (r : Result _ IndexFault). Fails f r in subst P e h

last_of_three : (a b c : Bool) (x y z : IndexFault) (v w : List ℕ) → cond a (Err x) (cond b (Err y) (cond c (Err z) (Ok v))) ≡ Ok w
    → (a ≡ false) × (b ≡ false) × (c ≡ false) × (v ≡ w)
last_of_three false false false x y z v w e = (refl, refl, refl, cc)
last_of_three true b c x y z v w e = cc
last_of_three false true c x y z v w e = cc
last_of_three false false true x y z v w e = cc

-- what an extension takes away
pub shorter : (bytes rest : List ℕ) → extension_at bytes ≡ Ok rest → length rest + 8 ≤ length bytes
unfolding extension_at
shorter bytes rest e =
    let size = from_be_bytes w32 (take 4 (drop 4 bytes)) in
    let s = last_of_three (nat_lt (length bytes) 28) (not (is_capital (slice_index bytes 0))) (nat_lt (length bytes) (28 + size)) Count (Extension (take 4 bytes)) Count (drop (8 + size) bytes) rest e in
    let long : 28 + size ≤ length bytes = not_less (length bytes) (28 + size) s.2 in
    let len : length rest ≡ length bytes - (8 + size) = sym (ap length s.3) ∙ length-drop (8 + size) bytes in
    omega arith
  where
    not_less : (m n : ℕ) → nat_lt m n ≡ false → n ≤ m
    not_less m n e = grind (arith, nat_tests)

ended : (t : Bool) (bytes : List ℕ) (x y : Result (List ℕ) IndexFault) → (t ≡ false → x ≡ y) → cond t (Ok bytes) x ≡ cond t (Ok bytes) y
ended true bytes x y h = refl
ended false bytes x y h = h refl

pub no_more : (bytes : List ℕ) → length bytes ≤ 0 → extension_at bytes ≡ Err Count
unfolding extension_at
no_more bytes le = rw (is_less (length bytes) le) refl
  where
    is_less : (n : ℕ) → n ≤ 0 → nat_lt n 28 ≡ true
    is_less n le = grind (arith, nat_tests)

goes_on : (bytes : List ℕ) (n m : ℕ) (r : Result (List ℕ) IndexFault) → extension_at bytes ≡ r
    → ((rest : List ℕ) → length rest + 8 ≤ length bytes → trailer_at n rest ≡ trailer_at m rest)
    → (r >>= λ rest. trailer_at n rest) ≡ (r >>= λ rest. trailer_at m rest)
goes_on bytes n m (Ok rest) e h = h rest (shorter bytes rest e)
goes_on bytes n m (Err f) e h = refl

-- the bound does not matter, once it is large enough
pub any_bound : (n m : ℕ) (bytes : List ℕ) → length bytes ≤ n → length bytes ≤ m → trailer_at n bytes ≡ trailer_at m bytes
unfolding trailer_at
any_bound zero zero bytes p q = refl
any_bound zero (suc m) bytes p q =
    ended (length bytes == 20) bytes (Err Count) (extension_at bytes >>= λ rest. trailer_at m rest) (λ _. rw (no_more bytes p) refl)
any_bound (suc n) zero bytes p q =
    ended (length bytes == 20) bytes (extension_at bytes >>= λ rest. trailer_at n rest) (Err Count) (λ _. rw (no_more bytes q) refl)
any_bound (suc n) (suc m) bytes p q =
    ended (length bytes == 20) bytes (extension_at bytes >>= λ rest. trailer_at n rest) (extension_at bytes >>= λ rest. trailer_at m rest)
    (λ _. goes_on bytes n m (extension_at bytes) refl (λ rest le. any_bound n m rest (omega arith) (omega arith)))

pub trailer_more : (n : ℕ) (bytes rest : List ℕ) → (length bytes == 20) ≡ false → extension_at bytes ≡ Ok rest → length rest ≤ n
    → trailer_at n rest ≡ trailer_at (suc n) bytes
unfolding trailer_at
trailer_more n bytes rest more e le = rw (more, e) refl

pub trailer_end : (n : ℕ) (bytes : List ℕ) → (length bytes == 20) ≡ true → trailer_at n bytes ≡ Ok bytes
unfolding trailer_at
trailer_end zero bytes e = rw e refl
trailer_end (suc n) bytes e = rw e refl

pub trailer_fails : (n : ℕ) (bytes : List ℕ) (f : IndexFault) → (length bytes == 20) ≡ false → Fails f (extension_at bytes)
    → Fails f (trailer_at (suc n) bytes)
unfolding trailer_at
trailer_fails n bytes f more h = rw more (fails_then f (extension_at bytes) (λ rest. trailer_at n rest) h)
