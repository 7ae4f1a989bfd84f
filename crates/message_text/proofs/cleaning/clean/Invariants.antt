use Rattle.std.proofs.Common.{◌≡◌, ◌++◌}
use Rattle.message_text.specs.Cleaned.{cleaned}
use Rattle.message_text.specs.Lines.{has_some}
use Rattle.message_text.proofs.CleanLemmas.{cleaned_from}
use Rattle.message_text.proofs.cleaning.clean.Given as goal

abbrev pub invariant-loop-line : goal.invariant-loop-line
invariant-loop-line l = l.kept.items ++ cleaned_from (has_some l.kept.items) l.after_empty l.line-iterator ≡ cleaned l.fn.text
