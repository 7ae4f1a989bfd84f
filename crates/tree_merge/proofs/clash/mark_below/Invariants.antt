use Rattle.std.proofs.Common.{◌≡◌, ℕ, ◌<◌, ◌||◌, ◌&&◌, false, length, take, get_or, ltb}
use Rattle.std.specs.List.{list_any}
use Rattle.tree_merge.specs.declared.plans.Planned.{Planned}
use Rattle.tree_merge.specs.Plans.{is_under}
use Rattle.tree_merge.proofs.clash.mark_below.Given as goal

abbrev pub invariant-loop-j : goal.invariant-loop-j
invariant-loop-j l = record {
  found : l.found ≡ list_any (λ s. is_under l.upper s) (take l.j l.rows);
  lowers : (k : ℕ) (d : Planned) → k < length l.rows
      → get_or l.lowers k false ≡ get_or l.initial.lowers k false || (ltb k l.j && is_under l.upper (get_or l.rows k d));
}
