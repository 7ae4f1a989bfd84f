-- How long hex text is.
use Rattle.hex.proofs.HexLemmas.{length-encode_with}

pub ruleset hex_lengths = (length-encode_with)
