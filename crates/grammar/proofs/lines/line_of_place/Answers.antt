use Rattle.std.proofs.Common.{sym, ◌∙◌, arith}
use Rattle.grammar.proofs.LineLaws.{place_none, place_on, place_off}
use Rattle.grammar.proofs.lines.line_of_place.Goals as goal
use Rattle.grammar.proofs.lines.line_of_place.Goals.{then-ends_line, else-ends_line}

pub loop-i-init : goal.loop-i-init
loop-i-init c = record { number = sym (place_none c.args.bytes.now); small = omega arith }

pub loop-i-preserved : goal.loop-i-preserved
loop-i-preserved c = elim c.if-ends_line.branch [
  | then-ends_line w ↦
      let step = place_on c.args.bytes.now c.loop-i.i (sym c.ends_line.ensures ∙ w.if-ends_line.true) in
      let number = c.loop-i.invariant.number in
      record { number = omega arith; small = omega arith }
  | else-ends_line w ↦
      let step = place_off c.args.bytes.now c.loop-i.i (sym c.ends_line.ensures ∙ w.if-ends_line.false) in
      let number = c.loop-i.invariant.number in
      record { number = omega arith; small = omega arith }
]
