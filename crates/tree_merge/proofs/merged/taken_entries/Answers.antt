use Rattle.std.proofs.Common.{◌≡◌, Some, None, sym}
use Rattle.tree_merge.specs.Choosing.{choice}
use Rattle.tree_merge.specs.Results.{taken}
use Rattle.tree_merge.specs.Walks.{head_entry}
use Rattle.tree_merge.proofs.Steps.{step}
use Rattle.tree_merge.proofs.Taking.{none_taken, one_taken, result_step}
use Rattle.tree_merge.proofs.merged.taken_entries.Goals as goal

pub loop-path-smaller-in_ok-push : goal.loop-path-smaller-in_ok-push
loop-path-smaller-in_ok-push c =
    let s = step c.loop-path.base_left c.loop-path.ours_left c.loop-path.theirs_left c.in-Some.path.now c.loop-path.invariant.order (sym c.in-Some.ensures) in
    rw (c.take-before.ensures.rest, c.take-mine.ensures.rest, c.take-other.ensures.rest) s.smaller

pub loop-path-preserved-in_ok-push : goal.loop-path-preserved-in_ok-push
loop-path-preserved-in_ok-push c =
    let s = step c.loop-path.base_left c.loop-path.ours_left c.loop-path.theirs_left c.in-Some.path.now c.loop-path.invariant.order (sym c.in-Some.ensures) in
    let made : taken (choice (head_entry c.loop-path.base_left c.in-Some.path.now) (head_entry c.loop-path.ours_left c.in-Some.path.now) (head_entry c.loop-path.theirs_left c.in-Some.path.now)) ≡ Some c.in-Some-taken_entry.entry = cc (c.in-Some-taken_entry.ensures, c.choose.ensures, c.take-before.ensures.entry, c.take-mine.ensures.entry, c.take-other.ensures.entry) in
    record {
      entries =
          rw (c.in_ok-push.ensures.items, c.in_ok-copy_of.ensures, c.take-before.ensures.rest, c.take-mine.ensures.rest, c.take-other.ensures.rest) (one_taken c.loop-path.entries.items _ _ _ _ _ _ c.loop-path.invariant.entries (result_step _ _ _ _ s) made);
      order = rw (c.take-before.ensures.rest, c.take-mine.ensures.rest, c.take-other.ensures.rest) s.order;
    }

pub loop-path-preserved : goal.loop-path-preserved
loop-path-preserved c =
    let s = step c.loop-path.base_left c.loop-path.ours_left c.loop-path.theirs_left c.in-Some.path.now c.loop-path.invariant.order (sym c.in-Some.ensures) in
    let made : taken (choice (head_entry c.loop-path.base_left c.in-Some.path.now) (head_entry c.loop-path.ours_left c.in-Some.path.now) (head_entry c.loop-path.theirs_left c.in-Some.path.now)) ≡ None = cc (c.in_default-taken_entry.ensures, c.choose.ensures, c.take-before.ensures.entry, c.take-mine.ensures.entry, c.take-other.ensures.entry) in
    record {
      entries =
          rw (c.take-before.ensures.rest, c.take-mine.ensures.rest, c.take-other.ensures.rest) (none_taken c.loop-path.entries.items _ _ _ _ _ c.loop-path.invariant.entries (result_step _ _ _ _ s) made);
      order = rw (c.take-before.ensures.rest, c.take-mine.ensures.rest, c.take-other.ensures.rest) s.order;
    }

pub loop-path-smaller : goal.loop-path-smaller
loop-path-smaller c =
    let s = step c.loop-path.base_left c.loop-path.ours_left c.loop-path.theirs_left c.in-Some.path.now c.loop-path.invariant.order (sym c.in-Some.ensures) in
    rw (c.take-before.ensures.rest, c.take-mine.ensures.rest, c.take-other.ensures.rest) s.smaller
