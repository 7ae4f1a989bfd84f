-- The todo that makes merges again (git-rebase(1), "REBASING MERGES"): a commit is picked, or merged again, onto the place of its first
-- parent, which is reset to where it is not the place of the line before, and a place that is named later gets a label.
use Rattle.std.specs.Prelude.{◌≡◌, ℕ, ◌+◌, Bool, not, ◌&&◌, nat_lt, ◌==◌, if◌then◌else◌, List, [], ◌∷◌, ◌++◌, length, codes, decimal, Option, Some, None}
use Rattle.std.specs.Str.{bytes_eq}
use Rattle.hex.specs.Hex.{encode_lower}
use Rattle.merge_base.specs.declared.graph.Node.{Node}
use Rattle.merge_base.specs.Graphs.{is_among, node_at}
use Rattle.todo_text.specs.declared.line.Line.{Line}
use Rattle.todo_text.specs.declared.line.Line.TheVariants.{Label, Merge, Noop, Reset}
use Rattle.todo_text.specs.declared.line.MergeHow.TheVariants.{Keep}
use Rattle.todo_plan.specs.declared.fault.PlanFault.{PlanFault}
use Rattle.todo_plan.specs.declared.fault.PlanFault.TheVariants.{Octopus, NewRoot, Memory}
use Rattle.todo_plan.specs.Commits.{note_of, pick_of}

-- ---- which ranges have a todo

-- a commit with no parent, or with more than two
abbrev pub parents_fault : Option Node → Option PlanFault
parents_fault None = None
parents_fault (Some node) =
    if length node.parents == 0 then Some (NewRoot node.id)
    else if nat_lt 2 (length node.parents) then Some (Octopus node.id)
    else None

abbrev pub or_fault : Option PlanFault → Option PlanFault → Option PlanFault
or_fault None later = later
or_fault (Some fault) later = Some fault

-- that of the first such commit of a range
abbrev pub first_fault : List Node → List (List ℕ) → Option PlanFault
first_fault graph [] = None
first_fault graph (id ∷ ids) = or_fault (parents_fault (node_at graph id)) (first_fault graph ids)

-- the first such commit is blamed; want of memory comes only where there is none
abbrev pub PlanFails : Option PlanFault → PlanFault → Type 0
PlanFails found (Octopus id) = found ≡ Some (Octopus id)
PlanFails found (NewRoot id) = found ≡ Some (NewRoot id)
PlanFails found Memory = found ≡ None

-- ---- which commits get a label

-- a commit is not the one on which the next line stands
abbrev pub is_apart : List ℕ → List ℕ → Bool
is_apart place id = not (bytes_eq id place)

abbrev pub if_apart : List ℕ → List ℕ → List (List ℕ)
if_apart place id = if is_apart place id then id ∷ [] else []

-- what a commit with these parents names: its first parent, if it does not stand on that, and its second one
abbrev pub parents_named : List ℕ → List (List ℕ) → List (List ℕ)
parents_named place [] = []
parents_named place (first ∷ []) = if_apart place first
parents_named place (first ∷ second ∷ others) = if_apart place first ++ second ∷ []

abbrev pub named_by : List ℕ → Option Node → List (List ℕ)
named_by place None = []
named_by place (Some node) = parents_named place node.parents

-- what the commits of a range name, the first of which comes behind a place
abbrev pub named : List Node → List ℕ → List (List ℕ) → List (List ℕ)
named graph place [] = []
named graph place (id ∷ ids) = named_by place (node_at graph id) ++ named graph id ids

-- ---- lines

-- the labels: which number a commit has, if it has one
abbrev pub Numbers : Type 0
Numbers = List ℕ → Option ℕ

abbrev pub label_name : ℕ → List ℕ
label_name number = codes "rw-" ++ decimal number

-- a label, else `onto` for the base, else the hex digits
abbrev pub name_by : Option ℕ → List ℕ → List ℕ → List ℕ
name_by (Some number) base id = label_name number
name_by None base id = if bytes_eq id base then codes "onto" else encode_lower id

abbrev pub name_of : List ℕ → Numbers → List ℕ → List ℕ
name_of base numbers id = name_by (numbers id) base id

abbrev pub reset_lines : List ℕ → Numbers → List ℕ → List ℕ → List Line
reset_lines base numbers place first = if is_apart place first then Reset (name_of base numbers first) [] ∷ [] else []

abbrev pub merge_of : List ℕ → Numbers → Node → List ℕ → Line
merge_of base numbers node second = Merge (Keep (encode_lower node.id)) (name_of base numbers second) (note_of node.subject)

-- the lines of a commit with these parents
abbrev pub lines_on : List ℕ → Numbers → List ℕ → Node → List (List ℕ) → List Line
lines_on base numbers place node [] = []
lines_on base numbers place node (first ∷ []) = reset_lines base numbers place first ++ pick_of node ∷ []
lines_on base numbers place node (first ∷ second ∷ others) = reset_lines base numbers place first ++ merge_of base numbers node second ∷ []

abbrev pub commit_lines : List ℕ → Numbers → List ℕ → Option Node → List Line
commit_lines base numbers place None = []
commit_lines base numbers place (Some node) = lines_on base numbers place node node.parents

abbrev pub label_lines : Bool → ℕ → List Line
label_lines wanted number = if wanted then Label (label_name number) ∷ [] else []

-- with the number of one more commit, if that is wanted
abbrev pub numbered : Bool → ℕ → List ℕ → Numbers → Numbers
numbered wanted number id numbers = λ other. if wanted && bytes_eq id other then Some number else numbers other

abbrev pub counted : Bool → ℕ → ℕ
counted wanted count = if wanted then count + 1 else count

-- the lines of the commits of a range, the first of them behind a place
abbrev pub range_lines : List Node → List ℕ → List (List ℕ) → Numbers → ℕ → List ℕ → List (List ℕ) → List Line
range_lines graph base wanted numbers count place [] = []
range_lines graph base wanted numbers count place (id ∷ ids) =
    commit_lines base numbers place (node_at graph id) ++ (label_lines (is_among wanted id) (count + 1)
    ++ range_lines graph base wanted (numbered (is_among wanted id) (count + 1) id numbers) (counted (is_among wanted id) count) id ids)

-- the todo of a range that begins behind a base
abbrev pub merges_todo : List Node → List ℕ → List (List ℕ) → List Line
merges_todo graph base [] = Noop ∷ []
merges_todo graph base (id ∷ ids) = Label (codes "onto") ∷ range_lines graph base (named graph base (id ∷ ids)) (λ other. None) 0 base (id ∷ ids)
