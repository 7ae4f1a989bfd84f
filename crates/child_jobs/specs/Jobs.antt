-- The children that Git's manuals name, as jobs.
use Rattle.std.specs.Prelude.{List, [], ◌∷◌, ◌++◌, codes}
use Rattle.seq_base.specs.Words.{Name, Path, Text}
use Rattle.seq_outside.specs.declared.child.Job.{Job}

-- a job that reads nothing
abbrev pub quiet : List Text → Job
quiet words = record { words = words; input = [] }

-- a command line, by the shell (git-rebase(1), "--exec")
abbrev pub exec_of : Text → Job
exec_of command = quiet (codes "sh" ∷ codes "-c" ∷ command ∷ [])

-- an editor, which is a command line, with the file behind it (git-var(1), "GIT_EDITOR")
abbrev pub editor_of : Text → Path → Job
editor_of editor path = quiet (codes "sh" ∷ codes "-c" ∷ (editor ++ codes " \"$@\"") ∷ editor ∷ path ∷ [])

-- a hook, with its arguments and what it reads (githooks(5))
abbrev pub hook_of : Name → List Text → Text → Job
hook_of name arguments input = record { words = codes "sh" ∷ (codes ".git/hooks/" ++ name) ∷ arguments; input = input }
