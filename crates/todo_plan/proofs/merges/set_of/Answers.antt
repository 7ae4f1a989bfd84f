use Rattle.std.proofs.Common.{◌+◌, ◌∷◌, drop, sym, ap, ◌∙◌}
use Rattle.std.specs.Prelude.{◌||◌}
use Rattle.std.specs.BTreeSet.{contains}
use Rattle.std.specs.Cmp.Lexicographic.{slice_cmp}
use Rattle.std.specs.Ordering.{nat_cmp}
use Rattle.std.proofs.lemmas.List.{at_drop_more}
use Rattle.merge_base.specs.Graphs.{is_among}
use Rattle.todo_plan.proofs.MergeLaws.{put_among}
use Rattle.todo_plan.proofs.merges.set_of.Goals as goal

pub loop-id-preserved : goal.loop-id-preserved
loop-id-preserved c = λ other.
    let was = contains (slice_cmp nat_cmp) c.loop-id.set other in
    let left = drop (c.loop-id.id-index + 1) c.args.ids.now in
    put_among c.id-item.result left was (contains (slice_cmp nat_cmp) c.insert.new.self other) other (c.in_ok-insert.ensures.updates.0 other)
    ∙ ap (λ id. is_among (id ∷ left) other || was) c.id-item.is
    ∙ sym (at_drop_more (λ ids. is_among ids other || was) c.args.ids.now c.loop-id.id-index c.id-item.result c.loop-id-test.true)
    ∙ c.loop-id.invariant other
