-- Reading ids.
use Rattle.std.proofs.Common.{◌≡◌, ◌∙◌, ℕ, ◌%◌, List, [], length, Ok, refl, sym, ap, subst, arith}
use Rattle.std.specs.Result.{result_unwrap_or}
use Rattle.std.proofs.lemmas.List.Sums.{AllPass-from_list_all, list_all-from_AllPass}
use Rattle.hex.specs.Hex.{is_hex_digit}
use Rattle.hex.proofs.HexLemmas.{decode_of-ok, decode_of-digits}
use Rattle.grammar.specs.Readers.{Reads, HasText, Passing, passing_at}
use Rattle.grammar.proofs.FieldLaws.{reads_same}
use Rattle.grammar.proofs.Maps.{mapped}
use Rattle.grammar.proofs.Passing.{passing_reads, passing_has}
use Rattle.seq_base.specs.Ids.{SpellsId}
use Rattle.ident_text.specs.Ids.{AreIdDigits, id_of_digits, id_digits_from, id_from}

-- forty digits are an id's, and of no other
pub digits_spell : (x : List ℕ) → AreIdDigits x → SpellsId (id_of_digits x) x
digits_spell x h =
    let forty = h.forty in
    let d = decode_of-digits x (let e : length x % 2 ≡ 0 = rw forty refl in e) (AllPass-from_list_all is_hex_digit x h.hex) in
    let read = d.1 in
    record { forty = h.forty; bytes = read ∙ ap Ok (sym (ap (λ r. result_unwrap_or r []) read)) }

pub spelled_id : (id x : List ℕ) → SpellsId id x → id_of_digits x ≡ id
spelled_id id x h = ap (λ r. result_unwrap_or r []) h.bytes

pub spelled_digits : (id x : List ℕ) → SpellsId id x → AreIdDigits x
spelled_digits id x h = record { forty = h.forty; hex = list_all-from_AllPass is_hex_digit x (decode_of-ok x id h.bytes).1 }

-- digits, as they stand
abbrev pub IdDigits : List ℕ → List ℕ → Type 0
IdDigits x text = AreIdDigits x × (text ≡ x)

pub digits_read : Reads IdDigits id_digits_from
unfolding id_digits_from
digits_read =
    reads_same (Passing is_hex_digit 40) IdDigits id_digits_from (λ x text g. (record { forty = g.0; hex = g.1 }, g.2)) (λ x text g. (g.0.forty, g.0.hex, g.1)) (passing_reads is_hex_digit 48 (omega arith) refl 40)

pub digits_have : HasText IdDigits
digits_have = let h = passing_has is_hex_digit 48 (omega arith) refl 40 in (h.0, h.1, h.2, (record { forty = h.3.0; hex = h.3.1 }, h.3.2))

-- what was read of digits
pub digits_taken : (bytes x rest : List ℕ) → passing_at is_hex_digit 40 bytes ≡ Ok (x, rest) → AreIdDigits x
unfolding id_digits_from
digits_taken bytes x rest e = (digits_read.takes bytes x rest e).1.0

pub id_reads : Reads SpellsId id_from
unfolding id_from
id_reads = mapped IdDigits SpellsId id_digits_from id_of_digits
    (λ x text g. subst (λ (t : List ℕ). SpellsId (id_of_digits x) t) (sym g.1) (digits_spell x g.0))
    (λ id text h. (text, (spelled_digits id text h, refl), sym (spelled_id id text h)))
    digits_read

pub id_has : HasText SpellsId
id_has =
    let h = digits_have in (id_of_digits h.0, h.1, h.2, subst (λ (t : List ℕ). SpellsId (id_of_digits h.0) t) (sym h.3.1) (digits_spell h.0 h.3.0))
