use Rattle.std.proofs.Common.{◌≡◌, ◌++◌, take}
use Rattle.ident_text.specs.AuthorScripts.{quoted}
use Rattle.ident_text.proofs.quotes.put_quoted.Given as goal

abbrev pub invariant-loop-b : goal.invariant-loop-b
invariant-loop-b l = l.out.items ≡ l.initial.out.items ++ quoted (take l.b-index l.value)
