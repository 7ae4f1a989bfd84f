use Rattle.std.proofs.Common.{◌≡◌, ◌++◌}
use Rattle.std.specs.Prelude.{map}
use Rattle.message_text.specs.Chain.{commented}
use Rattle.message_text.specs.Lines.{lines, text_of}
use Rattle.message_text.proofs.chain_texts.push_comments.Given as goal

abbrev pub invariant-loop-line : goal.invariant-loop-line
invariant-loop-line l = l.text.items ++ text_of (map commented l.line-iterator) ≡ l.fn.text.items ++ text_of (map commented (lines l.fn.message))
