-- What a todo tells of the commits that it is about.
use Rattle.std.specs.Prelude.{ℕ, List, [], ◌∷◌, ◌++◌, All}
use Rattle.todo_text.specs.declared.line.Line.{Line}
use Rattle.todo_text.specs.declared.line.Line.TheVariants.{Pick, Exec, Break, Noop, Label, Reset, Merge, UpdateRef}
use Rattle.todo_text.specs.declared.line.MergeHow.{MergeHow}
use Rattle.todo_text.specs.declared.line.MergeHow.TheVariants as how
use Rattle.todo_text.specs.Spells.{IsSpelled}

-- the commit whose message a merge takes
abbrev pub rev_of_merge : MergeHow → List (List ℕ)
rev_of_merge how.Plain = []
rev_of_merge (how.Keep rev) = rev ∷ []
rev_of_merge (how.Reword rev) = rev ∷ []

-- the commit that a line is about
abbrev pub rev_of : Line → List (List ℕ)
rev_of (Pick k rev note) = rev ∷ []
rev_of (Exec command) = []
rev_of Break = []
rev_of Noop = []
rev_of (Label name) = []
rev_of (Reset name note) = []
rev_of (Merge how head note) = rev_of_merge how
rev_of (UpdateRef name) = []

-- the commits that lines are about, in their order
abbrev pub revs_of : List Line → List (List ℕ)
revs_of [] = []
revs_of (line ∷ lines) = rev_of line ++ revs_of lines

-- each line is spelled by some text
pub record AreSpelled (lines : List Line) : Type 0 where
  pub each : All IsSpelled lines
