use Rattle.std.proofs.Common.{subst}
use Rattle.grammar.specs.declared.fault.ReadError.{ReadError}
use Rattle.grammar.specs.Gives.{Fails}
use Rattle.grammar.proofs.Top.{read_whole, first_bad, left_within}
use Rattle.ident_text.specs.AuthorScripts.{IsAuthorScript}
use Rattle.ident_text.specs.ReadScripts.{script_from}
use Rattle.ident_text.proofs.ScriptLaws.{script_reads}
use Rattle.ident_text.proofs.script.parse_author_script.Goals as goal

pub overflow_sub-result : goal.overflow_sub-result
overflow_sub-result c =
    left_within IsAuthorScript script_from script_reads c.args.text.now c.in-Err-Stopped.left
    (subst (λ (d : ReadError). Fails d (script_from c.args.text.now)) c.in-Err-Stopped.field-0-is c.in-Err-Stopped.ensures)

pub returns-in-Ok : goal.returns-in-Ok
returns-in-Ok c = read_whole IsAuthorScript script_from script_reads c.args.text.now c.in-Ok.ident c.in-Ok.ensures

pub returns-in-Err-Stopped : goal.returns-in-Err-Stopped
returns-in-Err-Stopped c =
    first_bad IsAuthorScript script_from script_reads c.args.text.now c.in-Err-Stopped.left
    (subst (λ (d : ReadError). Fails d (script_from c.args.text.now)) c.in-Err-Stopped.field-0-is c.in-Err-Stopped.ensures)
