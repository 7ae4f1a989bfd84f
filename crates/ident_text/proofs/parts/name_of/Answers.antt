use Rattle.std.proofs.Common.{sym, ◌∙◌}
use Rattle.ident_text.proofs.IdentLaws.{name_read}
use Rattle.ident_text.proofs.parts.name_of.Goals as goal

pub returns : goal.returns
returns c =
    name_read c.args.bytes.now c.in_ok-word.word.now c.in_ok-word.rest.now c.in_ok-word.ensures (sym c.has_space_at_end.ensures ∙ c.if-not-has_space_at_end.false)
