use Rattle.std.proofs.Common.{◌≡◌, ◌++◌, ◌≤◌, List, length, take}
use Rattle.std.specs.Prelude.{reverse}
use Rattle.std.specs.List.{filter_map}
use Rattle.attr_rules.specs.declared.macros.Macro.{Macro}
use Rattle.attr_rules.specs.Attributes.{macro_of, counting}
use Rattle.attr_rules.proofs.macros.add_macros.Given as goal

abbrev pub invariant-loop-left : goal.invariant-loop-left
invariant-loop-left l =
    (l.left ≤ length l.lines)
    × ((more : List Macro) → l.macros.items ++ counting l.macros.items (filter_map macro_of (reverse (take l.left l.lines)) ++ more)
    ≡ l.initial.macros.items ++ counting l.initial.macros.items (filter_map macro_of (reverse l.lines) ++ more))

abbrev pub decreases-loop-left : goal.decreases-loop-left
decreases-loop-left l = l.left
