use Rattle.std.proofs.Common.{◌≡◌, take}
use Rattle.std.specs.List.{flat_map}
use Rattle.todo_text.specs.Spells.{canonical}
use Rattle.state_text.proofs.lines.todo_of.Given as goal

abbrev pub invariant-loop-line : goal.invariant-loop-line
invariant-loop-line l = l.out.items ≡ flat_map canonical (take l.line-index l.lines)
