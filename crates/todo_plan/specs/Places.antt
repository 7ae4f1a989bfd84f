-- Where a todo stands as it is read line by line (git-rebase(1), "REBASING MERGES").
use Rattle.std.specs.Prelude.{◌≡◌, ℕ, if◌then◌else◌, List, [], ◌∷◌}
use Rattle.std.specs.List.{Contains}
use Rattle.std.specs.Str.{bytes_eq}
use Rattle.hex.specs.Hex.{encode_lower}
use Rattle.merge_base.specs.declared.graph.Node.{Node}
use Rattle.merge_base.specs.Graphs.{parents_of}
use Rattle.todo_text.specs.declared.line.Line.{Line}
use Rattle.todo_text.specs.declared.line.Line.TheVariants.{Pick, Exec, Break, Noop, Label, Reset, Merge, UpdateRef}
use Rattle.todo_text.specs.declared.line.MergeHow.{MergeHow}
use Rattle.todo_text.specs.declared.line.MergeHow.TheVariants as how

-- which commit a name stands for
abbrev pub Names : Type 0
Names = List ℕ → List ℕ

abbrev pub with_name : List ℕ → List ℕ → Names → Names
with_name name id names = λ other. if bytes_eq name other then id else names other

-- hex digits stand for their commit
pub record ReadsHex (graph : List Node) (names : Names) : Type 0 where
  pub commits : (node : Node) → Contains graph node → names (encode_lower node.id) ≡ node.id
  pub parents : (node : Node) (id : List ℕ) → Contains graph node → Contains node.parents id → names (encode_lower id) ≡ id

-- the commit whose message a merge takes
abbrev pub kept : MergeHow → List ℕ
kept how.Plain = []
kept (how.Keep rev) = rev
kept (how.Reword rev) = rev

-- Read from a place on, each pick line stands on the one parent of its commit, and each merge line on the first parent of its commit,
-- with the second as its head: so each commit can be taken as it is.
abbrev pub StandsOn : List Node → Names → List ℕ → List Line → Type 0
StandsOn graph names place [] = Unit {0}
StandsOn graph names place (Pick k rev note ∷ lines) = (parents_of graph (names rev) ≡ place ∷ []) × StandsOn graph names (names rev) lines
StandsOn graph names place (Exec command ∷ lines) = StandsOn graph names place lines
StandsOn graph names place (Break ∷ lines) = StandsOn graph names place lines
StandsOn graph names place (Noop ∷ lines) = StandsOn graph names place lines
StandsOn graph names place (Label name ∷ lines) = StandsOn graph (with_name name place names) place lines
StandsOn graph names place (Reset name note ∷ lines) = StandsOn graph names (names name) lines
StandsOn graph names place (Merge how head note ∷ lines) =
    (parents_of graph (names (kept how)) ≡ place ∷ names head ∷ []) × StandsOn graph names (names (kept how)) lines
StandsOn graph names place (UpdateRef name ∷ lines) = StandsOn graph names place lines
