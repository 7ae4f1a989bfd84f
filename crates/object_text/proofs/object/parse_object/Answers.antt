use Rattle.std.proofs.Common.{subst}
use Rattle.grammar.specs.declared.fault.ReadError.{ReadError}
use Rattle.grammar.specs.Gives.{Fails}
use Rattle.grammar.proofs.Top.{read_whole, first_bad, left_within}
use Rattle.object_text.specs.Objects.{IsObject}
use Rattle.object_text.specs.ReadObjects.{object_from}
use Rattle.object_text.proofs.ObjectLaws.{object_reads}
use Rattle.object_text.proofs.object.parse_object.Goals as goal

pub overflow_sub-result : goal.overflow_sub-result
overflow_sub-result c =
    left_within IsObject object_from object_reads c.args.text.now c.in-Err-Stopped.left
    (subst (λ (d : ReadError). Fails d (object_from c.args.text.now)) c.in-Err-Stopped.field-0-is c.in-Err-Stopped.ensures)

pub returns-in-Ok : goal.returns-in-Ok
returns-in-Ok c = read_whole IsObject object_from object_reads c.args.text.now c.in-Ok.object c.in-Ok.ensures

pub returns-in-Err-Stopped : goal.returns-in-Err-Stopped
returns-in-Err-Stopped c =
    first_bad IsObject object_from object_reads c.args.text.now c.in-Err-Stopped.left
    (subst (λ (d : ReadError). Fails d (object_from c.args.text.now)) c.in-Err-Stopped.field-0-is c.in-Err-Stopped.ensures)
