use Rattle.std.proofs.Common.{◌≡◌, ◌++◌, List, sym, ap, subst, ◌∙◌}
use Rattle.std.proofs.lemmas.List.{append-nil}
use Rattle.tree_merge.specs.declared.plans.Planned.{Planned}
use Rattle.tree_merge.proofs.InOrder.{all_in_order}
use Rattle.tree_merge.specs.Plans.{AreInOrder, all_rows, row_of}
use Rattle.tree_merge.specs.Walks.{head_entry}
use Rattle.tree_merge.proofs.Steps.{step, next_row, all_none}
use Rattle.tree_merge.proofs.walk.all_rows.Goals as goal

pub loop-path-smaller : goal.loop-path-smaller
loop-path-smaller c =
    let s = step c.loop-path.base_left c.loop-path.ours_left c.loop-path.theirs_left c.in-Some.path.now c.loop-path.invariant.order (sym c.in-Some.ensures) in
    rw (c.take.ensures.rest, c.take-in-Some.ensures.rest, c.take-in-Some-2.ensures.rest) s.smaller

pub loop-path-preserved : goal.loop-path-preserved
loop-path-preserved c =
    let s = step c.loop-path.base_left c.loop-path.ours_left c.loop-path.theirs_left c.in-Some.path.now c.loop-path.invariant.order (sym c.in-Some.ensures) in
    let made : c.row-row.result ≡ row_of c.in-Some.path.now (head_entry c.loop-path.base_left c.in-Some.path.now) (head_entry c.loop-path.ours_left c.in-Some.path.now) (head_entry c.loop-path.theirs_left c.in-Some.path.now) = cc (c.row-row.ensures, c.in_ok-copy_of.ensures, c.take.ensures.entry, c.take-in-Some.ensures.entry, c.take-in-Some-2.ensures.entry) in
    record {
      rows =
          rw (c.in_ok-push.ensures.items, c.take.ensures.rest, c.take-in-Some.ensures.rest, c.take-in-Some-2.ensures.rest) (next_row c.loop-path.rows.items _ _ _ _ _ c.loop-path.invariant.rows s.all made);
      order = rw (c.take.ensures.rest, c.take-in-Some.ensures.rest, c.take-in-Some-2.ensures.rest) s.order;
    }

pub returns-clause-order : goal.returns-clause-order
returns-clause-order c =
    let none = all_none c.loop-path.base_left c.loop-path.ours_left c.loop-path.theirs_left (sym c.in_default.ensures) in
    let is : c.loop-path.rows.items ≡ all_rows c.args.base.now c.args.ours.now c.args.theirs.now = sym (append-nil c.loop-path.rows.items) ∙ ap (λ (l : List Planned). c.loop-path.rows.items ++ l) (sym none) ∙ c.loop-path.invariant.rows in
    subst AreInOrder (sym is) (all_in_order c.args.base.now c.args.ours.now c.args.theirs.now)
