use Rattle.std.proofs.Common.{drop}
use Rattle.ident_text.specs.ReadScripts.{quoted_value}
use Rattle.ident_text.proofs.ScriptLaws.{Unquoting}
use Rattle.ident_text.proofs.quotes.unquoted.Given as goal

abbrev pub invariant-loop-b : goal.invariant-loop-b
invariant-loop-b l = Unquoting (quoted_value l.word) l.value.items l.quotes (drop l.b-index l.word)
