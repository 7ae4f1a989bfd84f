-- A loop over the bytes of a word.
use Rattle.std.proofs.Common.{◌≡◌, ℕ, suc, ◌+◌, ◌-◌, ◌<◌, ◌≤◌, Bool, true, false, List, [], ◌∷◌, ◌++◌, length, take, drop, get_or, Option, Some, None, Ok, Err, refl, sym, ap, ◌∙◌, arith}
use Rattle.std.proofs.lemmas.List.{length-drop, take_all, take_more, drop_more, drop_all}
use Rattle.std.proofs.lemmas.Bool.{eq-eqb, ne_eqb}
use Rattle.grammar.specs.Readers.{word_at, literal_at}

-- `&bytes[j..]`
pub slice_from : (bytes : List ℕ) (j : ℕ) → take (length bytes - j) (drop j bytes) ≡ drop j bytes
slice_from bytes j = take_all (length bytes - j) (drop j bytes) (omega (arith, length-drop j bytes))

module _ {X : Type 0} (may : List ℕ → Bool) (value : List ℕ → Option X) (stop : ℕ) where
  -- a byte that goes on with the word
  pub scan_more : (bytes : List ℕ) (i : ℕ) → i < length bytes → (get_or bytes i 0 ≡ stop → ⊥) → may (take (i + 1) bytes) ≡ true
      → word_at may value stop (take i bytes) (drop i bytes) ≡ word_at may value stop (take (i + 1) bytes) (drop (i + 1) bytes)
  unfolding word_at
  scan_more bytes i lt ne on =
      let t = take_more bytes i 0 lt in
      let on2 : may (take i bytes ++ get_or bytes i 0 ∷ []) ≡ true = ap may (sym t) ∙ on in
      ap (word_at may value stop (take i bytes)) (drop_more bytes i 0 lt) ∙ rw (ne_eqb (get_or bytes i 0) stop ne, on2, ← t) refl

  -- one that doesn't
  pub scan_off : (bytes : List ℕ) (i : ℕ) → i < length bytes → (get_or bytes i 0 ≡ stop → ⊥) → may (take (i + 1) bytes) ≡ false
      → word_at may value stop (take i bytes) (drop i bytes) ≡ Err (length bytes - i)
  unfolding word_at
  scan_off bytes i lt ne off =
      let t = take_more bytes i 0 lt in
      let off2 : may (take i bytes ++ get_or bytes i 0 ∷ []) ≡ false = ap may (sym t) ∙ off in
      let len : suc (length (drop (i + 1) bytes)) ≡ length bytes - i = omega (arith, length-drop (i + 1) bytes) in
      ap (word_at may value stop (take i bytes)) (drop_more bytes i 0 lt) ∙ rw (ne_eqb (get_or bytes i 0) stop ne, off2) (ap Err len)

  -- the byte that ends it
  pub scan_ended : (bytes : List ℕ) (i : ℕ) (x : X) → i < length bytes → get_or bytes i 0 ≡ stop → value (take i bytes) ≡ Some x
      → word_at may value stop (take i bytes) (drop i bytes) ≡ Ok (x, drop (i + 1) bytes)
  unfolding word_at
  scan_ended bytes i x lt eq v = ap (word_at may value stop (take i bytes)) (drop_more bytes i 0 lt) ∙ rw (eq-eqb (get_or bytes i 0) stop eq, v) refl

  pub scan_bad : (bytes : List ℕ) (i : ℕ) → i < length bytes → get_or bytes i 0 ≡ stop → value (take i bytes) ≡ None
      → word_at may value stop (take i bytes) (drop i bytes) ≡ Err (length bytes - i)
  unfolding word_at
  scan_bad bytes i lt eq v =
      let len : length (drop (i + 1) bytes) + 1 ≡ length bytes - i = omega (arith, length-drop (i + 1) bytes) in
      ap (word_at may value stop (take i bytes)) (drop_more bytes i 0 lt) ∙ rw (eq-eqb (get_or bytes i 0) stop eq, v) (ap Err len)

  -- the end of all
  pub scan_short : (bytes : List ℕ) (i : ℕ) → length bytes ≤ i → word_at may value stop (take i bytes) (drop i bytes) ≡ Err 0
  unfolding word_at
  scan_short bytes i le = ap (word_at may value stop (take i bytes)) (drop_all i bytes le)

-- ---- these bytes, one after the other

pub literal_more : (word bytes : List ℕ) (i : ℕ) → i < length word → i < length bytes → get_or bytes i 0 ≡ get_or word i 0
    → literal_at (drop i word) (drop i bytes) ≡ literal_at (drop (i + 1) word) (drop (i + 1) bytes)
unfolding literal_at
literal_more word bytes i lw lb e = rw (drop_more word i 0 lw, drop_more bytes i 0 lb, eq-eqb (get_or bytes i 0) (get_or word i 0) e) refl

pub literal_off : (word bytes : List ℕ) (i : ℕ) → i < length word → i < length bytes → (get_or bytes i 0 ≡ get_or word i 0 → ⊥)
    → literal_at (drop i word) (drop i bytes) ≡ Err (length bytes - i)
unfolding literal_at
literal_off word bytes i lw lb ne =
    let len : suc (length (drop (i + 1) bytes)) ≡ length bytes - i = omega (arith, length-drop (i + 1) bytes) in
    rw (drop_more word i 0 lw, drop_more bytes i 0 lb, ne_eqb (get_or bytes i 0) (get_or word i 0) ne) (ap Err len)

pub literal_short : (word bytes : List ℕ) (i : ℕ) → i < length word → length bytes ≤ i → literal_at (drop i word) (drop i bytes) ≡ Err 0
unfolding literal_at
literal_short word bytes i lw le = rw (drop_more word i 0 lw, drop_all i bytes le) refl

pub literal_done : (word bytes : List ℕ) (i : ℕ) → length word ≤ i → literal_at (drop i word) (drop i bytes) ≡ Ok (tt, drop i bytes)
unfolding literal_at
literal_done word bytes i le = rw (drop_all i word le) refl
