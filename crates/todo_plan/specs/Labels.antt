-- The labels of a todo (git-rebase(1), "REBASING MERGES": a label is set for a commit, and a reset or a merge names it later).
use Rattle.std.specs.Prelude.{◌≡◌, ◌⊎◌, ℕ, true, false, List, [], ◌∷◌}
use Rattle.hex.specs.Hex.{encode_lower}
use Rattle.merge_base.specs.Graphs.{is_among}
use Rattle.todo_text.specs.declared.line.Line.{Line}
use Rattle.todo_text.specs.declared.line.Line.TheVariants.{Pick, Exec, Break, Noop, Label, Reset, Merge, UpdateRef}

-- a label that was set, or the hex digits of a commit
abbrev pub IsKnown : List (List ℕ) → List ℕ → Type 0
IsKnown labels name = (is_among labels name ≡ true) ⊎ ((id : List ℕ) × (name ≡ encode_lower id))

-- behind those that were set, each label is set once, and before it is used
abbrev pub AreLabelsSet : List (List ℕ) → List Line → Type 0
AreLabelsSet labels [] = Unit {0}
AreLabelsSet labels (Pick k rev note ∷ lines) = AreLabelsSet labels lines
AreLabelsSet labels (Exec command ∷ lines) = AreLabelsSet labels lines
AreLabelsSet labels (Break ∷ lines) = AreLabelsSet labels lines
AreLabelsSet labels (Noop ∷ lines) = AreLabelsSet labels lines
AreLabelsSet labels (Label name ∷ lines) = (is_among labels name ≡ false) × AreLabelsSet (name ∷ labels) lines
AreLabelsSet labels (Reset name note ∷ lines) = IsKnown labels name × AreLabelsSet labels lines
AreLabelsSet labels (Merge how head note ∷ lines) = IsKnown labels head × AreLabelsSet labels lines
AreLabelsSet labels (UpdateRef name ∷ lines) = AreLabelsSet labels lines
