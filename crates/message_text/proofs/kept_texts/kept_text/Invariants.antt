use Rattle.std.proofs.Common.{◌≡◌, length}
use Rattle.std.specs.Prelude.{map, filter}
use Rattle.message_text.specs.Chain.{kept_message, kept_text, places_from}
use Rattle.message_text.specs.Picked.{last_or}
use Rattle.message_text.proofs.kept_texts.kept_text.Given as goal

abbrev pub invariant-loop-rest : goal.invariant-loop-rest
invariant-loop-rest l =
    last_or l.text.items (map kept_message (filter (λ place. place.is_kept) (places_from l.is_squashed l.rest))) ≡ kept_text l.fn.items

abbrev pub decreases-loop-rest : goal.decreases-loop-rest
decreases-loop-rest l = length l.rest
