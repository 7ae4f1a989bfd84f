use Rattle.std.proofs.Common.{ℕ, List, ◌++◌, ◌∷◌, ap, ◌∙◌}
use Rattle.std.specs.Prelude.{codes}
use Rattle.std.specs.List.{flat_map}
use Rattle.hex.specs.Hex.{encode_lower}
use Rattle.object_text.specs.Commits.{line}
use Rattle.object_text.proofs.CommitValues.{parts_written}
use Rattle.object_text.proofs.commit_write.put_together.Goals as goal

pub returns-clause-text : goal.returns-clause-text
returns-clause-text c =
    parts_written c.new-out.result.items c.put_id.new.out.items c.put_parents.new.out.items c.put_line.new.out.items c.put_line-2.new.out.items c.put_encoding.new.out.items c.put_message.new.out.items _ _ _ _ _ _
    c.new-out.ensures.items c.in_ok-put_id.ensures.text
    (c.in_ok-put_parents.ensures.text ∙ ap (λ (ids : List (List ℕ)). c.put_id.new.out.items ++ flat_map (λ parent. line (codes "parent " ++ encode_lower parent)) ids) c.as_slice-parents.ensures)
    (c.in_ok-put_line.ensures ∙ ap (λ (t : List ℕ). c.put_parents.new.out.items ++ line (codes "author " ++ t)) c.as_slice-author.ensures)
    (c.in_ok-put_line-2.ensures ∙ ap (λ (t : List ℕ). c.put_line.new.out.items ++ line (codes "committer " ++ t)) c.as_slice-committer.ensures)
    c.in_ok-put_encoding.ensures (c.in_ok-put_message.ensures ∙ ap (λ (t : List ℕ). c.put_encoding.new.out.items ++ 10 ∷ t) c.as_slice-message.ensures)
