use Rattle.std.proofs.Common.{ℕ, List, sym, ◌∙◌, subst}
use Rattle.object_text.proofs.CommitLoops.{ParentsLoop, parent_more, parent_fails, parents_last}
use Rattle.object_text.proofs.commit.parents_of.Goals as goal

pub loop-rest-smaller : goal.loop-rest-smaller
loop-rest-smaller c =
    (parent_more c.args.tree c.args.bytes.now c.loop-rest.parents.items c.loop-rest.rest.now c.in-Ok.found.0 c.in-Ok.found.1.now (sym c.has_parent.ensures ∙ c.loop-rest-test.true) c.in-Ok.ensures c.loop-rest.invariant).1

pub loop-rest-preserved : goal.loop-rest-preserved
loop-rest-preserved c =
    let more = (parent_more c.args.tree c.args.bytes.now c.loop-rest.parents.items c.loop-rest.rest.now c.in-Ok.found.0 c.in-Ok.found.1.now (sym c.has_parent.ensures ∙ c.loop-rest-test.true) c.in-Ok.ensures c.loop-rest.invariant).0 in
    subst (λ (ids : List (List ℕ)). ParentsLoop c.args.tree c.args.bytes.now ids c.in-Ok.found.1.now) (sym c.in_ok-push-in-Ok.ensures.items) more

pub returns-in-Err : goal.returns-in-Err
returns-in-Err c =
    parent_fails c.args.tree c.args.bytes.now c.loop-rest.parents.items c.loop-rest.rest.now c.in-Err.e (sym c.has_parent.ensures ∙ c.loop-rest-test.true) c.in-Err.ensures c.loop-rest.invariant

pub returns : goal.returns
returns c =
    rw (parents_last c.args.tree c.args.bytes.now c.loop-rest.parents.items c.loop-rest.rest.now (sym c.has_parent.ensures ∙ c.loop-rest-test.false) c.loop-rest.invariant) c.people_of.ensures
