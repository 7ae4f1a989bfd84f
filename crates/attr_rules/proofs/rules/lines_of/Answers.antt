use Rattle.std.proofs.Common.{◌∙◌, ◌++◌, List, sym, ap}
use Rattle.attr_rules.specs.declared.rules.Line.{Line}
use Rattle.attr_rules.specs.Rules.{lines_of}
use Rattle.attr_rules.proofs.Parts.{line_kept, line_passed}
use Rattle.attr_rules.proofs.rules.lines_of.Goals as goal

pub loop-rest-preserved-in_ok-push : goal.loop-rest-preserved-in_ok-push
loop-rest-preserved-in_ok-push c =
    ap (λ (lines : List Line). lines ++ lines_of c.first_line.result.1.now) c.in_ok-push.ensures.items
    ∙ line_kept c.loop-rest.lines.items c.in-Some.kept c.args.text.now c.loop-rest.rest.now c.first_line.result.0.now c.first_line.result.1.now c.loop-rest.invariant
    c.first_line.ensures.before c.first_line.ensures.behind (sym c.in-Some.is ∙ c.in_ok-kept.ensures)

pub loop-rest-preserved : goal.loop-rest-preserved
loop-rest-preserved c =
    line_passed c.loop-rest.lines.items c.args.text.now c.loop-rest.rest.now c.first_line.result.0.now c.first_line.result.1.now c.loop-rest.invariant
    c.first_line.ensures.before c.first_line.ensures.behind (sym c.in_default.is ∙ c.in_ok-kept.ensures)
