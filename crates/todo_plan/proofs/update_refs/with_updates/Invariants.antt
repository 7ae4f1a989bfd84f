use Rattle.std.proofs.Common.{◌≡◌, ◌++◌, [], false}
use Rattle.std.specs.Vec.Iter.{into_iter_items}
use Rattle.todo_plan.specs.UpdateRefs.{behind_each}
use Rattle.todo_plan.proofs.update_refs.with_updates.Given as goal

abbrev pub invariant-loop-line : goal.invariant-loop-line
invariant-loop-line l =
    l.all.items ++ behind_each l.branches l.inside l.revs.items (into_iter_items l.line-iterator) ≡ behind_each l.branches false [] l.fn.lines.items
