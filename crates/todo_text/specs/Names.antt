-- Names of labels (git-rebase(1), "REBASING MERGES") and of refs to be updated (`update-ref`, "INTERACTIVE MODE").
use Rattle.std.specs.Prelude.{ℕ, Bool, not, ◌&&◌, ◌==◌, List, ◌++◌, codes}
use Rattle.std.specs.List.{starts_with}
use Rattle.seq_base.specs.RefNames.{is_ref_name}
use Rattle.todo_text.specs.Words.{is_hash}

-- a label is kept as a ref below `refs/rewritten/`
unfoldable pub is_label : List ℕ → Bool
is_label name = not (is_hash name) && is_ref_name (codes "refs/rewritten/" ++ name)

-- below `refs/`, and no label's
unfoldable pub is_updatable : List ℕ → Bool
is_updatable name =
    is_ref_name name && starts_with (λ a b. a == b) name (codes "refs/")
    && not (starts_with (λ a b. a == b) name (codes "refs/rewritten/"))
