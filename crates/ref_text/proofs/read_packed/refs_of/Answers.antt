use Rattle.std.proofs.Common.{ap, sym, ◌∙◌}
use Rattle.ref_text.proofs.PackedLoops.{packed_done, packed_err, packed_more, packed_step, with_line}
use Rattle.ref_text.proofs.read_packed.refs_of.Goals as goal

pub loop-rest-smaller-in_ok-push-in-Ok : goal.loop-rest-smaller-in_ok-push-in-Ok
loop-rest-smaller-in_ok-push-in-Ok c =
    (packed_more c.args.text.now c.loop-rest.refs.items c.loop-rest.after c.loop-rest.rest.now c.in-Ok.line c.in-Ok.behind.now (sym c.is_empty.ensures ∙ c.loop-rest-test.true) c.in-Ok.ensures c.loop-rest.invariant).1

pub loop-rest-preserved-in_ok-push-in-Ok : goal.loop-rest-preserved-in_ok-push-in-Ok
loop-rest-preserved-in_ok-push-in-Ok c =
    packed_step c.args.text.now c.loop-rest.refs.items c.push.new.self.items c.loop-rest.after c.is_some-after.result c.loop-rest.rest.now c.in-Ok.line c.in-Ok.behind.now (sym c.is_empty.ensures ∙ c.loop-rest-test.true) c.in-Ok.ensures
    (c.in_ok-push-in-Ok.ensures.items ∙ sym (ap (with_line c.loop-rest.refs.items) c.in-Some.is)) c.is_some-after.ensures c.loop-rest.invariant

pub loop-rest-smaller : goal.loop-rest-smaller
loop-rest-smaller c =
    (packed_more c.args.text.now c.loop-rest.refs.items c.loop-rest.after c.loop-rest.rest.now c.in-Ok.line c.in-Ok.behind.now (sym c.is_empty.ensures ∙ c.loop-rest-test.true) c.in-Ok.ensures c.loop-rest.invariant).1

pub loop-rest-preserved : goal.loop-rest-preserved
loop-rest-preserved c =
    packed_step c.args.text.now c.loop-rest.refs.items c.loop-rest.refs.items c.loop-rest.after c.is_some-after.result c.loop-rest.rest.now c.in-Ok.line c.in-Ok.behind.now (sym c.is_empty.ensures ∙ c.loop-rest-test.true) c.in-Ok.ensures
    (sym (ap (with_line c.loop-rest.refs.items) c.in_default.is)) c.is_some-after.ensures c.loop-rest.invariant

pub returns-in-Err : goal.returns-in-Err
returns-in-Err c =
    packed_err c.args.text.now c.loop-rest.refs.items c.loop-rest.after c.loop-rest.rest.now c.in-Err.e (sym c.is_empty.ensures ∙ c.loop-rest-test.true) c.in-Err.ensures c.loop-rest.invariant

pub returns : goal.returns
returns c =
    packed_done c.args.text.now c.loop-rest.refs.items c.loop-rest.after c.loop-rest.rest.now (sym c.is_empty.ensures ∙ c.loop-rest-test.false) c.loop-rest.invariant
