use Rattle.std.proofs.Common.{◌≡◌, take}
use Rattle.std.specs.List.{flat_map}
use Rattle.todo_text.specs.Spells.{canonical}
use Rattle.seq_start.proofs.checked.todo_of.Given as goal

abbrev pub invariant-loop-line : goal.invariant-loop-line
invariant-loop-line l = l.text.items ≡ flat_map canonical (take l.line-index l.lines)
