use Rattle.std.proofs.Common.{◌≡◌, ◌++◌}
use Rattle.message_text.specs.Chain.{with_first_commented}
use Rattle.message_text.specs.Lines.{lines, text_of}
use Rattle.message_text.proofs.MarkLemmas.{marked_from}
use Rattle.message_text.proofs.chain_texts.push_marked.Given as goal

abbrev pub invariant-loop-line : goal.invariant-loop-line
invariant-loop-line l =
    l.text.items ++ marked_from l.has_begun l.has_ended l.line-iterator ≡ l.fn.text.items ++ text_of (with_first_commented (lines l.fn.message))
