use Rattle.std.proofs.Common.{◌≡◌, ◌+◌, ◌++◌, length}
use Rattle.message_text.specs.Chain.{chain_text, places_from}
use Rattle.message_text.proofs.ChainLemmas.{sections_text}
use Rattle.message_text.proofs.chain_texts.chain_text.Given as goal

abbrev pub invariant-loop-rest : goal.invariant-loop-rest
invariant-loop-rest l =
    record {
      counted : l.number + length l.rest ≡ length l.fn.items;
      written : l.text.items ++ sections_text (l.number + 1) (places_from l.is_squashed l.rest) ≡ chain_text l.fn.items;
    }

abbrev pub decreases-loop-rest : goal.decreases-loop-rest
decreases-loop-rest l = length l.rest
