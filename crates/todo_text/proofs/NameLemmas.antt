-- The name of a label makes the name of a ref.
use Rattle.std.proofs.Common.{◌≡◌, ℕ, Bool, false, List, ◌++◌, sym, ap, ◌∙◌}
use Rattle.std.specs.Prelude.{◌&&◌, not, codes}
use Rattle.seq_base.specs.RefNames.{is_ref_name}
use Rattle.todo_text.specs.Names.{is_label}
use Rattle.todo_text.specs.Words.{is_hash}

pub label_is : (name full : List ℕ) (answer : Bool) → is_hash name ≡ false → full ≡ codes "refs/rewritten/" ++ name → answer ≡ is_ref_name full
    → answer ≡ is_label name
unfolding is_label
label_is name full answer e f g =
    g ∙ ap is_ref_name f ∙ sym (ap (λ (v : Bool). not v && is_ref_name (codes "refs/rewritten/" ++ name)) e)
