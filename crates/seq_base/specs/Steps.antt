-- What a tactic needs to know of reads after writes.
use Rattle.std.specs.FinMap.{get-insert, get-remove}
use Rattle.std.specs.Cmp.Lexicographic.{nat_list_cmp_total}

pub ruleset world_steps = (get-insert, get-remove, nat_list_cmp_total)
