use Rattle.std.proofs.Common.{◌≡◌, false}
use Rattle.std.specs.Prelude.{All}
use Rattle.message_text.specs.Kinds.{is_first}
use Rattle.vectors.proofs.messages.later_items.Given as goal

abbrev pub invariant-loop : goal.invariant-loop
invariant-loop l = All (λ item. is_first item.kind ≡ false) l.items.items
