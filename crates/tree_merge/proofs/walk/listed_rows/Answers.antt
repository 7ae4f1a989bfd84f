use Rattle.std.proofs.Common.{◌≡◌, ◌++◌, List, sym, ap, subst, ◌∙◌}
use Rattle.std.proofs.lemmas.List.{append-nil}
use Rattle.tree_merge.specs.declared.plans.Planned.{Planned}
use Rattle.tree_merge.proofs.InOrder.{listed_in_order}
use Rattle.tree_merge.specs.Plans.{AreInOrder, listed, row_of}
use Rattle.tree_merge.specs.Walks.{head_entry}
use Rattle.tree_merge.proofs.Steps.{step, kept, skipped, listed_none}
use Rattle.tree_merge.proofs.walk.listed_rows.Goals as goal

pub loop-path-smaller-in_ok-push : goal.loop-path-smaller-in_ok-push
loop-path-smaller-in_ok-push c =
    let s = step c.loop-path.base_left c.loop-path.ours_left c.loop-path.theirs_left c.in-Some.path.now c.loop-path.invariant.order (sym c.in-Some.ensures) in
    rw (c.take.ensures.rest, c.take-in-Some.ensures.rest, c.take-in-Some-2.ensures.rest) s.smaller

pub loop-path-preserved-in_ok-push : goal.loop-path-preserved-in_ok-push
loop-path-preserved-in_ok-push c =
    let s = step c.loop-path.base_left c.loop-path.ours_left c.loop-path.theirs_left c.in-Some.path.now c.loop-path.invariant.order (sym c.in-Some.ensures) in
    let made : c.row-row.result ≡ row_of c.in-Some.path.now (head_entry c.loop-path.base_left c.in-Some.path.now) (head_entry c.loop-path.ours_left c.in-Some.path.now) (head_entry c.loop-path.theirs_left c.in-Some.path.now) = cc (c.row-row.ensures, c.in_ok-copy_of.ensures, c.take.ensures.entry, c.take-in-Some.ensures.entry, c.take-in-Some-2.ensures.entry) in
    record {
      rows =
          rw (c.in_ok-push.ensures.items, c.take.ensures.rest, c.take-in-Some.ensures.rest, c.take-in-Some-2.ensures.rest) (kept c.loop-path.rows.items _ _ _ _ _ c.loop-path.invariant.rows s.rows made (sym c.is_row_listed.ensures ∙ c.if-is_row_listed.true));
      order = rw (c.take.ensures.rest, c.take-in-Some.ensures.rest, c.take-in-Some-2.ensures.rest) s.order;
    }

pub loop-path-preserved : goal.loop-path-preserved
loop-path-preserved c =
    let s = step c.loop-path.base_left c.loop-path.ours_left c.loop-path.theirs_left c.in-Some.path.now c.loop-path.invariant.order (sym c.in-Some.ensures) in
    let made : c.row-row.result ≡ row_of c.in-Some.path.now (head_entry c.loop-path.base_left c.in-Some.path.now) (head_entry c.loop-path.ours_left c.in-Some.path.now) (head_entry c.loop-path.theirs_left c.in-Some.path.now) = cc (c.row-row.ensures, c.in_ok-copy_of.ensures, c.take.ensures.entry, c.take-in-Some.ensures.entry, c.take-in-Some-2.ensures.entry) in
    record {
      rows =
          rw (c.take.ensures.rest, c.take-in-Some.ensures.rest, c.take-in-Some-2.ensures.rest) (skipped c.loop-path.rows.items _ _ _ _ _ c.loop-path.invariant.rows s.rows made (sym c.is_row_listed.ensures ∙ c.if-is_row_listed.false));
      order = rw (c.take.ensures.rest, c.take-in-Some.ensures.rest, c.take-in-Some-2.ensures.rest) s.order;
    }

pub loop-path-smaller : goal.loop-path-smaller
loop-path-smaller c =
    let s = step c.loop-path.base_left c.loop-path.ours_left c.loop-path.theirs_left c.in-Some.path.now c.loop-path.invariant.order (sym c.in-Some.ensures) in
    rw (c.take.ensures.rest, c.take-in-Some.ensures.rest, c.take-in-Some-2.ensures.rest) s.smaller

pub returns-clause-order : goal.returns-clause-order
returns-clause-order c =
    let none = listed_none c.loop-path.base_left c.loop-path.ours_left c.loop-path.theirs_left (sym c.in_default.ensures) in
    let is : c.loop-path.rows.items ≡ listed c.args.base.now c.args.ours.now c.args.theirs.now = sym (append-nil c.loop-path.rows.items) ∙ ap (λ (l : List Planned). c.loop-path.rows.items ++ l) (sym none) ∙ c.loop-path.invariant.rows in
    subst AreInOrder (sym is) (listed_in_order c.args.base.now c.args.ours.now c.args.theirs.now)
