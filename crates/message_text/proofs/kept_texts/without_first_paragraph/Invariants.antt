use Rattle.std.proofs.Common.{◌≡◌, ◌∷◌, ◌++◌, [], cond}
use Rattle.std.specs.List.{join_with_byte}
use Rattle.message_text.specs.Chain.{without_first}
use Rattle.message_text.specs.Lines.{lines, is_empty}
use Rattle.message_text.proofs.KeptLemmas.{kept_from}
use Rattle.message_text.proofs.kept_texts.without_first_paragraph.Given as goal

abbrev pub invariant-loop-line : goal.invariant-loop-line
invariant-loop-line l =
    let all = l.text.items ++ kept_from l.has_begun l.is_over l.is_writing l.line-iterator in
    cond (is_empty all) (10 ∷ []) all ≡ join_with_byte 10 (without_first (lines l.fn.message)) ++ 10 ∷ []
