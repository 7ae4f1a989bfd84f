-- The line of a commit (git-rebase(1), "INTERACTIVE MODE": its name and its subject, which "is purely for your pleasure").
use Rattle.std.specs.Prelude.{ℕ, Bool, not, ◌||◌, ◌==◌, List}
use Rattle.hex.specs.Hex.{encode_lower}
use Rattle.seq_base.specs.Blanks.{is_blank}
use Rattle.message_text.specs.Lines.{from, without_end}
use Rattle.merge_base.specs.declared.graph.Node.{Node}
use Rattle.todo_text.specs.declared.line.Line.{Line}
use Rattle.todo_text.specs.declared.line.Line.TheVariants.{Pick}
use Rattle.todo_text.specs.declared.line.PickKind.TheVariants as kind

-- SP, TAB or CR
abbrev pub is_edge : ℕ → Bool
is_edge b = is_blank b || b == 13

-- a subject as a note: without these at its ends
abbrev pub note_of : List ℕ → List ℕ
note_of subject = without_end is_edge (from (λ b. not (is_edge b)) subject)

-- the line that picks a commit
abbrev pub pick_of : Node → Line
pick_of node = Pick kind.Pick (encode_lower node.id) (note_of node.subject)
