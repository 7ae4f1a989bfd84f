use Rattle.std.proofs.Common.{◌≡◌, length}
use Rattle.std.specs.List.{list_all}
use Rattle.message_text.specs.Kinds.{is_squash, is_fixup}
use Rattle.message_text.specs.Lines.{up_to}
use Rattle.message_text.proofs.places.is_last_of_its_kind.Given as goal

abbrev pub invariant-loop-rest : goal.invariant-loop-rest
invariant-loop-rest l =
    list_all (λ later. is_fixup later.kind) (up_to (λ later. is_squash later.kind) l.rest)
    ≡ list_all (λ later. is_fixup later.kind) (up_to (λ later. is_squash later.kind) l.fn.items)

abbrev pub decreases-loop-rest : goal.decreases-loop-rest
decreases-loop-rest l = length l.rest
