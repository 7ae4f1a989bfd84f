-- Groups of lines: a commit and what is squashed into it (git-rebase(1), "--exec": exec lines "will only appear at the end of each
-- squash/fixup series").
use Rattle.std.specs.Prelude.{ℕ, Bool, true, false, not, ◌&&◌, ◌||◌, if◌then◌else◌, List, [], ◌∷◌, ◌++◌, filter, map}
use Rattle.todo_text.specs.declared.line.Line.{Line}
use Rattle.todo_text.specs.declared.line.Line.TheVariants.{Pick, Exec, Break, Noop, Label, Reset, Merge, UpdateRef}
use Rattle.todo_text.specs.declared.line.PickKind.{PickKind}
use Rattle.todo_text.specs.declared.line.PickKind.TheVariants as kind

abbrev pub is_pick : PickKind → Bool
is_pick kind.Pick = true
is_pick kind.Reword = false
is_pick kind.Edit = false
is_pick kind.Squash = false
is_pick kind.Fixup = false
is_pick kind.FixupKeep = false
is_pick kind.FixupEdit = false
is_pick kind.Drop = false
is_pick kind.Revert = false

abbrev pub is_squash : PickKind → Bool
is_squash kind.Pick = false
is_squash kind.Reword = false
is_squash kind.Edit = false
is_squash kind.Squash = true
is_squash kind.Fixup = true
is_squash kind.FixupKeep = true
is_squash kind.FixupEdit = true
is_squash kind.Drop = false
is_squash kind.Revert = false

-- a pick or a merge begins a group
abbrev pub begins : Line → Bool
begins (Pick k rev note) = is_pick k
begins (Exec command) = false
begins Break = false
begins Noop = false
begins (Label name) = false
begins (Reset name note) = false
begins (Merge how head note) = true
begins (UpdateRef name) = false

-- squash, fixup and update-ref lines go on with the group before them
abbrev pub goes_on : Line → Bool
goes_on (Pick k rev note) = is_squash k
goes_on (Exec command) = false
goes_on Break = false
goes_on Noop = false
goes_on (Label name) = false
goes_on (Reset name note) = false
goes_on (Merge how head note) = false
goes_on (UpdateRef name) = true

abbrev pub if_any : Bool → List Line → List Line
if_any wanted lines = if wanted then lines else []

-- Lines with others behind each group. The flag says whether the line before them is in a group.
abbrev pub behind_groups : List Line → Bool → List Line → List Line
behind_groups more inside [] = if_any inside more
behind_groups more inside (line ∷ lines) =
    if_any (inside && not (goes_on line)) more ++ line ∷ behind_groups more (begins line || inside && goes_on line) lines

-- lines with exec lines behind each group
abbrev pub with_execs : List (List ℕ) → List Line → List Line
with_execs commands lines = behind_groups (map Exec commands) false lines

abbrev pub is_exec : Line → Bool
is_exec (Pick k rev note) = false
is_exec (Exec command) = true
is_exec Break = false
is_exec Noop = false
is_exec (Label name) = false
is_exec (Reset name note) = false
is_exec (Merge how head note) = false
is_exec (UpdateRef name) = false

abbrev pub without_execs : List Line → List Line
without_execs lines = filter (λ line. not (is_exec line)) lines
