use Rattle.std.proofs.Common.{◌≡◌, List, Ok, ap, subst, sym, ◌∙◌}
use Rattle.ref_text.specs.declared.log.LogLine.{LogLine}
use Rattle.ref_text.specs.ReadLogs.{line_from}
use Rattle.ref_text.proofs.LogLoops.{LogLoop, log_done, log_err, log_more}
use Rattle.ref_text.proofs.read_log.lines_of.Goals as goal

pub loop-rest-smaller : goal.loop-rest-smaller
loop-rest-smaller c =
    let read : line_from c.loop-rest.rest.now ≡ Ok (c.in_ok-line-in-Ok.line, c.in-Ok.after.now) = c.in-Ok.ensures.read ∙ ap (λ (l : LogLine). Ok (l, c.in-Ok.after.now)) (sym c.in_ok-line-in-Ok.ensures) in
    (log_more c.args.text.now c.loop-rest.lines.items c.loop-rest.rest.now c.in_ok-line-in-Ok.line c.in-Ok.after.now (sym c.is_empty.ensures ∙ c.loop-rest-test.true) read c.loop-rest.invariant).1

pub loop-rest-preserved : goal.loop-rest-preserved
loop-rest-preserved c =
    let read : line_from c.loop-rest.rest.now ≡ Ok (c.in_ok-line-in-Ok.line, c.in-Ok.after.now) = c.in-Ok.ensures.read ∙ ap (λ (l : LogLine). Ok (l, c.in-Ok.after.now)) (sym c.in_ok-line-in-Ok.ensures) in
    let more = (log_more c.args.text.now c.loop-rest.lines.items c.loop-rest.rest.now c.in_ok-line-in-Ok.line c.in-Ok.after.now (sym c.is_empty.ensures ∙ c.loop-rest-test.true) read c.loop-rest.invariant).0 in
    subst (λ (lines : List LogLine). LogLoop c.args.text.now lines c.in-Ok.after.now) (sym c.in_ok-push-in-Ok.ensures.items) more

pub returns-in-Err : goal.returns-in-Err
returns-in-Err c =
    log_err c.args.text.now c.loop-rest.lines.items c.loop-rest.rest.now c.in-Err.e (sym c.is_empty.ensures ∙ c.loop-rest-test.true) c.in-Err.ensures.read c.loop-rest.invariant

pub returns : goal.returns
returns c =
    log_done c.args.text.now c.loop-rest.lines.items c.loop-rest.rest.now (sym c.is_empty.ensures ∙ c.loop-rest-test.false) c.loop-rest.invariant
