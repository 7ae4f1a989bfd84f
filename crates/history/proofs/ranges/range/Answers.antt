use Rattle.std.proofs.Common.{rules, ◌≡◌, Bool, false, List, [], length, replicate, subst}
use Rattle.std.proofs.lemmas.Result.{IfOk-weaker}
use Rattle.merge_base.specs.Ranges.{range}
use Rattle.history.specs.Laws.{IsRange}
use Rattle.history.specs.Walks.{HasMet}
use Rattle.history.proofs.Between.{range_lists}
use Rattle.history.proofs.Ranging.{range_is}
use Rattle.history.proofs.ranges.range.Goals as goal

pub returns-clause-walk : goal.returns-clause-walk
returns-clause-walk c =
    let graph = c.args.graph.now in
    let blank : c.in_ok-marks.marks.items ≡ replicate (length graph) false = search rules in
    let first = subst (λ (ms : List Bool). HasMet graph [] c.args.excluded.now ms c.in_ok-walk.field-0.items c.walk.new.marks.items) blank c.in_ok-walk.ensures.met in
    IfOk-weaker c.walk-2.result (λ ids. HasMet graph [] c.args.tips.now c.walk.new.marks.items ids.items c.walk-2.new.marks.items) (λ ids. ids.items ≡ range graph c.args.excluded.now c.args.tips.now) (λ ids met. range_is graph c.args.excluded.now c.args.tips.now c.in_ok-walk.field-0.items ids.items c.walk.new.marks.items c.walk-2.new.marks.items first met) c.walk-2.ensures.met

pub returns-clause-range : goal.returns-clause-range
returns-clause-range c =
    let graph = c.args.graph.now in
    let blank : c.in_ok-marks.marks.items ≡ replicate (length graph) false = search rules in
    let first = subst (λ (ms : List Bool). HasMet graph [] c.args.excluded.now ms c.in_ok-walk.field-0.items c.walk.new.marks.items) blank c.in_ok-walk.ensures.met in
    IfOk-weaker c.walk-2.result (λ ids. HasMet graph [] c.args.tips.now c.walk.new.marks.items ids.items c.walk-2.new.marks.items) (λ ids. IsRange graph c.args.excluded.now c.args.tips.now ids.items)
    (λ ids met. range_lists graph c.args.excluded.now c.args.tips.now ids.items c.len.ensures.graph c.requires.excluded c.requires.tips
    (range_is graph c.args.excluded.now c.args.tips.now c.in_ok-walk.field-0.items ids.items c.walk.new.marks.items c.walk-2.new.marks.items first met)) c.walk-2.ensures.met
