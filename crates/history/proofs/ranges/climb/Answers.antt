use Rattle.std.proofs.Common.{◌≡◌, Some, None, ap, reverse, sym, ◌∙◌}
use Rattle.merge_base.specs.Graphs.{parents_of}
use Rattle.history.specs.Walks.{first_unmarked}
use Rattle.history.proofs.Ranging.{stack_lists, stack_waits}
use Rattle.history.proofs.ranges.climb.Goals as goal

pub waiting-preserved-in-Continue-branch-2 : goal.waiting-preserved-in-Continue-branch-2
waiting-preserved-in-Continue-branch-2 c =
    let graph = c.args.graph.now in
    let found : first_unmarked graph c.waiting.marks.items (parents_of graph c.in-Some.id) ≡ Some c.in-Some-enter.parent = ap (first_unmarked graph c.waiting.marks.items) (sym c.parents_of.ensures.parents) ∙ sym c.in-Some-enter.ensures.found in
    record {
      length_is = c.enter.ensures.length;
      walked =
          stack_waits graph c.args.ids.now.items (reverse c.args.waiting.items) c.args.marks.now.items c.waiting.ids.items c.in-Some.id c.in-Some-enter.parent c.pop.new.self.items c.waiting.waiting.items c.push.new.self.items
          c.push-in-Some-enter.new.self.items c.waiting.marks.items c.enter.new.marks.items c.parents_of.ensures.graph c.in-Some.ensures.items c.in_ok-push-in-Some-enter.ensures.items c.in_ok-push-in-Some-enter-2.ensures.items found
          c.in-Some-enter.ensures.marks c.waiting.invariant.walked;
    }

pub waiting-preserved : goal.waiting-preserved
waiting-preserved c =
    let graph = c.args.graph.now in
    let none : first_unmarked graph c.waiting.marks.items (parents_of graph c.in-Some.id) ≡ None = ap (first_unmarked graph c.waiting.marks.items) (sym c.parents_of.ensures.parents) ∙ sym c.in-None.ensures.found in
    record {
      length_is = c.enter.ensures.length;
      walked =
          stack_lists graph c.args.ids.now.items (reverse c.args.waiting.items) c.args.marks.now.items c.waiting.ids.items c.in-Some.id c.pop.new.self.items c.waiting.waiting.items c.push-in-None.new.self.items c.waiting.marks.items
          c.enter.new.marks.items c.parents_of.ensures.graph c.in-Some.ensures.items c.in_ok-push-in-None.ensures.items none c.in-None.ensures.marks c.waiting.invariant.walked;
    }
