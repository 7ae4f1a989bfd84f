-- What is written spells the value.
use Rattle.std.proofs.Common.{◌≡◌, ℕ, List, [], ◌∷◌, ◌++◌, Ok, Some, refl, subst}
use Rattle.std.specs.Prelude.{◌≢◌, replicate}
use Rattle.hex.specs.Hex.{decode_of, decode_pairs, encode_lower}
use Rattle.seq_base.specs.Ids.{IsId, SpellsId}
use Rattle.seq_base.proofs.HexCases.{spells_lower}
use Rattle.ref_text.specs.declared.head.Head.TheVariants.{Detached}
use Rattle.ref_text.specs.declared.log.LogLine.{LogLine}
use Rattle.ref_text.specs.Heads.{SpellsHead}
use Rattle.ref_text.specs.Logs.{IsLogLine, IsLogValue, SpellsOld, log_text, old_text, zeros}

pub id_spells : (id : List ℕ) → IsId id → SpellsHead (Detached id) (encode_lower id ++ 10 ∷ [])
id_spells id is = (encode_lower id, spells_lower id is.0 is.1, refl)

pub old_spells : (id : List ℕ) → IsId id → id ≢ replicate 20 0 → SpellsOld (Some id) (encode_lower id)
unfolding decode_pairs
old_spells id is ne = (spells, λ e. let z : decode_of zeros ≡ Ok id = subst (λ (t : List ℕ). decode_of t ≡ Ok id) e spells.bytes in ne (none z))
  where
    spells : SpellsId id (encode_lower id)
    spells = spells_lower id is.0 is.1

    none : decode_of zeros ≡ Ok id → id ≡ replicate 20 0
    none z = let k : Ok (replicate 20 0) ≡ Ok id = z in cc

pub line_spells : (line : LogLine) → IsLogValue line → SpellsOld line.old (old_text line.old) → IsId line.new → IsLogLine line (log_text line)
line_spells line is old new = record {
  old = old_text line.old;
  new = encode_lower line.new;
  who = is.who;
  is_old = old;
  is_new = spells_lower line.new new.0 new.1;
  is_ident = is.is_ident;
  is_message = is.is_message;
  text_is = refl;
}
