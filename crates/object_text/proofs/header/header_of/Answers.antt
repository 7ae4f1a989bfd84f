use Rattle.std.proofs.Common.{sym, ◌∙◌}
use Rattle.std.proofs.lemmas.Result.{err_from_is_err_and}
use Rattle.object_text.proofs.CommitLaws.{header_ok, header_empty, header_err}
use Rattle.object_text.proofs.header.header_of.Goals as goal

pub returns-in_err-line : goal.returns-in_err-line
returns-in_err-line c =
    let p = err_from_is_err_and c.from_residual.result c.from_residual.ensures.1 in
    rw (p.1, p.2) (header_err c.args.behind c.args.bytes.now c.in_err-line.field-0.0 c.in_err-line.ensures.read)

pub returns-then-is_empty : goal.returns-then-is_empty
returns-then-is_empty c =
    header_empty c.args.behind c.args.bytes.now c.in_ok-line.line.now c.in_ok-line.rest.now c.in_ok-line.ensures.read (sym c.is_empty.ensures ∙ c.if-is_empty.true)

pub returns : goal.returns
returns c =
    header_ok c.args.behind c.args.bytes.now c.in_ok-line.line.now c.in_ok-line.rest.now c.in_ok-line.ensures.read (sym c.is_empty.ensures ∙ c.if-is_empty.false)
