use Rattle.std.proofs.Common.{◌∙◌, ◌+◌, sym, ap, arith}
use Rattle.std.proofs.lemmas.Bool.{eqb-true}
use Rattle.std.specs.Str.Lines.{lines as lines_in}
use Rattle.todo_text.specs.ReadTodo.{led_by, todo_of}
use Rattle.todo_text.proofs.TodoLemmas.{read_passed, read_more, read_failed, read_all}
use Rattle.todo_text.proofs.todo.read_lines.Goals as goal

pub returns-in-Err : goal.returns-in-Err
returns-in-Err c =
    read_failed c.loop-rest.has_earlier c.loop-rest.number c.loop-rest.read.items c.loop-rest.rest.now c.first_line.result.0.now _ _ c.loop-rest.invariant.reads
    c.first_line.ensures.first c.in-Err.fault (sym c.is_comment.ensures ∙ c.if-not-is_comment.true) c.in-Err.ensures

pub loop-rest-preserved-in_ok-push : goal.loop-rest-preserved-in_ok-push
loop-rest-preserved-in_ok-push c = record {
  reads =
      ap (λ lines. led_by lines (todo_of c.is_earlier-has_earlier.result (c.loop-rest.number + 1 + 1) (lines_in c.first_line.result.1.now))) c.in_ok-push.ensures.items
      ∙ read_more c.loop-rest.has_earlier c.loop-rest.number c.loop-rest.read.items c.loop-rest.rest.now c.first_line.result.0.now _ _ c.loop-rest.invariant.reads
      c.first_line.ensures.first c.in-Ok.line c.is_earlier-has_earlier.result (sym c.is_comment.ensures ∙ c.if-not-is_comment.true) c.in-Ok.ensures c.is_earlier-has_earlier.ensures;
  within = omega (arith, c.loop-rest.invariant.within, c.first_line.ensures.shorter);
}

pub loop-rest-preserved : goal.loop-rest-preserved
loop-rest-preserved c = record {
  reads =
      read_passed c.loop-rest.has_earlier c.loop-rest.number c.loop-rest.read.items c.loop-rest.rest.now c.first_line.result.0.now _ _ c.loop-rest.invariant.reads
      c.first_line.ensures.first (sym c.is_comment.ensures ∙ c.if-not-is_comment.false);
  within = omega (arith, c.loop-rest.invariant.within, c.first_line.ensures.shorter);
}

pub returns : goal.returns
returns c =
    read_all c.loop-rest.has_earlier c.loop-rest.number c.loop-rest.read.items c.loop-rest.rest.now _ c.loop-rest.invariant.reads (eqb-true _ _ (sym c.is_empty.ensures ∙ c.loop-rest-test.false))
