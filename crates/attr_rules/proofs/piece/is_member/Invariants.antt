use Rattle.std.proofs.Common.{◌≡◌, length}
use Rattle.attr_rules.specs.Pieces.{is_member}
use Rattle.attr_rules.proofs.piece.is_member.Given as goal

abbrev pub invariant-loop-rest : goal.invariant-loop-rest
invariant-loop-rest l = is_member l.rest l.byte ≡ is_member l.members l.byte

abbrev pub decreases-loop-rest : goal.decreases-loop-rest
decreases-loop-rest l = length l.rest
