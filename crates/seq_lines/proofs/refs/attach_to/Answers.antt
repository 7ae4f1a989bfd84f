use Rattle.std.proofs.Common.{subst}
use Rattle.line_steps.specs.declared.stop.Stop.{Stop}
use Rattle.reading.specs.Ending.{ref_stop}
use Rattle.ref_store.specs.Changes.{head_set}
use Rattle.ref_text.specs.declared.head.Head.{Head}
use Rattle.ref_text.specs.declared.head.Head.TheVariants.{Branch}
use Rattle.ref_text.specs.declared.log.LogLine.{LogLine}
use Rattle.seq_outside.specs.Turns.{Turns, saying}
use Rattle.seq_lines.proofs.refs.attach_to.Goals as goal

pub returns-clause-turns : goal.returns-clause-turns
returns-clause-turns g c told =
    let old = (g.S.Store.seen c.args.store.now).content in
    let new = (g.S.Store.seen c.put_on.new.store).content in
    subst
    (λ (line : LogLine). Turns {E = Stop} {X = Unit {0}} {Y = Unit {0}} (λ x. x) c.put_on.result
    (saying ref_stop (head_set (Branch c.args.name.now) line) old) new)
    c.in_ok-line.ensures.is
    (subst
    (λ (on : Head). Turns {E = Stop} {X = Unit {0}} {Y = Unit {0}} (λ x. x) c.put_on.result (saying ref_stop (head_set on c.in_ok-line.line) old) new)
    c.in_ok-on.ensures.is (c.put_on.ensures.turns told))
