use Rattle.std.proofs.Common.{sym, ◌∙◌}
use Rattle.todo_plan.proofs.SquashLaws.{word_off}
use Rattle.todo_plan.proofs.squashes.target_text.Goals as goal

pub loop-kind-preserved : goal.loop-kind-preserved
loop-kind-preserved c =
    word_off c.loop-kind.rest.now c.in-Some.kind c.word_length.result (sym c.in-Some.ensures.kind) c.word_length.ensures c.in-Some.ensures.word.1
    ∙ c.loop-kind.invariant
