use Rattle.std.proofs.Common.{ap, ◌∙◌, ◌++◌}
use Rattle.std.specs.Prelude.{codes}
use Rattle.hex.specs.Hex.{encode_lower}
use Rattle.message_text.proofs.PickLemmas.{line_of, one_line, two_lines}
use Rattle.message_text.proofs.picks.push_reverted.Goals as goal

pub returns-in-None : goal.returns-in-None
returns-in-None c =
    let old = c.args.message.now.items in
    let hex = c.deref.ensures.value ∙ c.in_ok-hex.ensures.digits in
    rw c.in-None.is
    (one_line old _ (line_of (codes "This reverts commit ") (encode_lower c.args.id) (codes "."))
    (c.in_ok-push_line_of-in-None.ensures ∙ ap (λ h. old ++ line_of (codes "This reverts commit ") h (codes ".")) hex))

pub returns : goal.returns
returns c =
    let old = c.args.message.now.items in
    let hex = c.deref-in-Some.ensures.value ∙ c.in_ok-hex.ensures.digits in
    let against = c.deref-in-Some-2.ensures.value ∙ c.in_ok-against-in-Some.ensures.digits in
    rw c.in-Some.is
    (two_lines old _ _
    (line_of (codes "This reverts commit ") (encode_lower c.args.id) (codes ", reversing"))
    (line_of (codes "changes made to ") (encode_lower c.in-Some.parent) (codes "."))
    (c.in_ok-push_line_of-in-Some.ensures ∙ ap (λ h. old ++ line_of (codes "This reverts commit ") h (codes ", reversing")) hex)
    (c.in_ok-push_line_of-in-Some-2.ensures ∙ ap (λ h. c.push_line_of-in-Some.new.text.items ++ line_of (codes "changes made to ") h (codes ".")) against))
