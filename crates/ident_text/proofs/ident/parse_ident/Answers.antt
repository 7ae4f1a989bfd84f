use Rattle.std.proofs.Common.{subst}
use Rattle.grammar.specs.declared.fault.ReadError.{ReadError}
use Rattle.grammar.specs.Gives.{Fails}
use Rattle.grammar.proofs.Top.{read_whole, first_bad, left_within}
use Rattle.ident_text.specs.Idents.{IsIdent}
use Rattle.ident_text.specs.ReadIdents.{whole_ident_from}
use Rattle.ident_text.proofs.IdentLaws.{whole_ident_reads}
use Rattle.ident_text.proofs.ident.parse_ident.Goals as goal

pub overflow_sub-result : goal.overflow_sub-result
overflow_sub-result c =
    left_within IsIdent whole_ident_from whole_ident_reads c.args.text.now c.in-Err-Stopped.left
    (subst (λ (d : ReadError). Fails d (whole_ident_from c.args.text.now)) c.in-Err-Stopped.field-0-is c.in-Err-Stopped.ensures)

pub returns-in-Ok : goal.returns-in-Ok
returns-in-Ok c = read_whole IsIdent whole_ident_from whole_ident_reads c.args.text.now c.in-Ok.ident c.in-Ok.ensures

pub returns-in-Err-Stopped : goal.returns-in-Err-Stopped
returns-in-Err-Stopped c =
    first_bad IsIdent whole_ident_from whole_ident_reads c.args.text.now c.in-Err-Stopped.left
    (subst (λ (d : ReadError). Fails d (whole_ident_from c.args.text.now)) c.in-Err-Stopped.field-0-is c.in-Err-Stopped.ensures)
