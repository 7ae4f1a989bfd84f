-- What stands behind a key, and ids at the front.
use Rattle.std.proofs.Common.{◌≡◌, ◌∙◌, ℕ, zero, ◌+◌, suc, ◌<◌, slice_index, replicate, Bool, true, false, cond, eqb, List, [], ◌∷◌, ◌++◌, length, Some, Result, Ok, Err, refl, sym, ap, subst, arith}
use Rattle.std.proofs.lemmas.Bool.{eqb-true, eq-eqb}
use Rattle.std.proofs.lemmas.List.{append-nil}
use Rattle.grammar.specs.Readers.{literal_at}
use Rattle.hex.specs.Hex.{encode_lower, encode_with, lower_digits}
use Rattle.hex.proofs.HexLemmas.{decode_of-ok, length-encode_with}
use Rattle.ident_text.specs.Ids.{id_from}
use Rattle.ident_text.proofs.IdLaws.{id_reads}
use Rattle.object_text.proofs.CommitValues.{spells_lower}
use Rattle.seq_base.specs.Ids.{IsId, SpellsId}
use Rattle.std.specs.Prelude.{codes}
use Rattle.state_text.specs.Texts.{zeros}
use Rattle.state_reading.specs.Lines.{behind, id_at, read_behind, read_id}

-- ---- ids

pub forty_of : (id : List ℕ) → IsId id → length (encode_lower id) ≡ 40
forty_of id is = omega (arith, length-encode_with lower_digits id, is.1)

pub spelled : (id : List ℕ) → IsId id → SpellsId id (encode_lower id)
spelled id is = spells_lower id (encode_lower id) is.0 (forty_of id is) refl

pub id_before : (id rest : List ℕ) → IsId id → id_from (encode_lower id ++ rest) ≡ Ok (id, rest)
id_before id rest is = id_reads.again id (encode_lower id) rest (spelled id is)

pub id_again : (id : List ℕ) → IsId id → id_at (encode_lower id) ≡ Some id
id_again id is = ap (λ (t : List ℕ). id_at t) (sym (append-nil (encode_lower id))) ∙ ap read_id (id_before id [] is)

pub spelled_is : (id text : List ℕ) → SpellsId id text → IsId id
spelled_is id text h =
    let k = decode_of-ok text id h.bytes in
    (k.3, omega (arith, k.2, h.forty))

zero_bytes : (n i : ℕ) → slice_index (replicate n 0) i < 256
zero_bytes zero i = omega arith
zero_bytes (suc n) zero = omega arith
zero_bytes (suc n) (suc i) = zero_bytes n i

pub zeros_id : IsId zeros
zeros_id = (zero_bytes 20, refl)

pub zeros_digits : encode_lower zeros ≡ codes "0000000000000000000000000000000000000000"
unfolding encode_with
zeros_digits = refl

pub id_taken : (l id rest : List ℕ) → id_from l ≡ Ok (id, rest) → IsId id
id_taken l id rest e = let k = id_reads.takes l id rest e in spelled_is id k.0 k.1

pub id_fits : (l id : List ℕ) → id_at l ≡ Some id → IsId id
id_fits l id e = at (id_from l) refl e
  where
    at : (r : Result (List ℕ × List ℕ) ℕ) → id_from l ≡ r → read_id r ≡ Some id → IsId id
    at (Ok x) is e = let same : x.0 ≡ id = cc in subst IsId same (id_taken l x.0 x.1 is)
    at (Err left) is e = absurd cc

-- ---- a key

pub key_takes : (key l rest : List ℕ) → behind key l ≡ Some rest → l ≡ key ++ rest
unfolding literal_at
key_takes [] l rest e = cc
key_takes (c ∷ key) [] rest e = absurd cc
key_takes (c ∷ key) (b ∷ l) rest e = at (key_takes key l rest) (eqb b c) refl e
  where
    at : (behind key l ≡ Some rest → l ≡ key ++ rest) → (v : Bool) → eqb b c ≡ v
        → read_behind (cond v (literal_at key l) (Err (suc (length l)))) ≡ Some rest → b ∷ l ≡ c ∷ (key ++ rest)
    at later true is e =
        let same = eqb-true b c is in
        let more = later e in
        cc
    at later false is e = absurd cc

pub key_again : (key rest : List ℕ) → behind key (key ++ rest) ≡ Some rest
unfolding literal_at
key_again [] rest = refl
key_again (c ∷ key) rest = rw (eq-eqb c c refl) (key_again key rest)
