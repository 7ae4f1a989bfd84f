use Rattle.std.proofs.Common.{◌≡◌, ◌==◌, ◌+◌, ◌≤◌, length, take, not}
use Rattle.std.specs.List.{suffix_len}
use Rattle.attr_rules.proofs.matching.last_part.Given as goal

abbrev pub invariant-loop-begins : goal.invariant-loop-begins
invariant-loop-begins l =
    (l.begins ≤ length l.path)
    × (l.begins + suffix_len (λ b. not (b == 47)) l.path ≡ length l.path + suffix_len (λ b. not (b == 47)) (take l.begins l.path))

abbrev pub decreases-loop-begins : goal.decreases-loop-begins
decreases-loop-begins l = l.begins
