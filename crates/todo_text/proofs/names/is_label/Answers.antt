use Rattle.std.proofs.Common.{◌∙◌, ◌++◌, sym, ap}
use Rattle.todo_text.proofs.NameLemmas.{label_is}
use Rattle.todo_text.proofs.names.is_label.Goals as goal

pub returns : goal.returns
returns c =
    label_is c.args.name.now c.as_slice.result.now c.is_ref_name.result (sym c.is_hash.ensures ∙ c.if-is_hash.false)
    (c.as_slice.ensures.value ∙ c.in_ok-extend_from_slice.ensures.items ∙ ap (λ t. t ++ c.args.name.now) c.in_ok-full.ensures.items)
    c.is_ref_name.ensures
