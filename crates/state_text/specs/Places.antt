-- Where the files of a stopped list stand (gitrepository-layout(5); the names in `rebase-merge` and `sequencer` are Git's).
use Rattle.std.specs.Prelude.{Bool, true, false, if◌then◌else◌, List, [], ◌∷◌, ◌++◌, codes}
use Rattle.seq_base.specs.Words.{Name, Path}
use Rattle.state_text.specs.declared.state_file.StateFile.{StateFile}
use Rattle.state_text.specs.declared.state_file.StateFile.TheVariants as file
use Rattle.state_text.specs.declared.verb.Verb.{Verb}
use Rattle.state_text.specs.declared.verb.Verb.TheVariants.{Rebase, CherryPick, Revert}

abbrev pub file_name : StateFile → Name
file_name file.HeadName = codes "head-name"
file_name file.OrigHead = codes "orig-head"
file_name file.Onto = codes "onto"
file_name file.Interactive = codes "interactive"
file_name file.RebaseTodo = codes "git-rebase-todo"
file_name file.Backup = codes "git-rebase-todo.backup"
file_name file.Done = codes "done"
file_name file.Msgnum = codes "msgnum"
file_name file.End = codes "end"
file_name file.Message = codes "message"
file_name file.AuthorScript = codes "author-script"
file_name file.Amend = codes "amend"
file_name file.StoppedSha = codes "stopped-sha"
file_name file.CurrentFixups = codes "current-fixups"
file_name file.RewrittenList = codes "rewritten-list"
file_name file.RewrittenPending = codes "rewritten-pending"
file_name file.RefsToDelete = codes "refs-to-delete"
file_name file.UpdateRefs = codes "update-refs"
file_name file.Control = codes "control"
file_name file.Todo = codes "todo"
file_name file.Head = codes "head"
file_name file.AbortSafety = codes "abort-safety"
file_name file.Opts = codes "opts"
file_name file.MergeMsg = codes "MERGE_MSG"
file_name file.MergeHead = codes "MERGE_HEAD"
file_name file.RebaseHead = codes "REBASE_HEAD"
file_name file.CherryPickHead = codes "CHERRY_PICK_HEAD"
file_name file.RevertHead = codes "REVERT_HEAD"

-- it stands in `.git` itself
abbrev pub is_beside : StateFile → Bool
is_beside file.HeadName = false
is_beside file.OrigHead = false
is_beside file.Onto = false
is_beside file.Interactive = false
is_beside file.RebaseTodo = false
is_beside file.Backup = false
is_beside file.Done = false
is_beside file.Msgnum = false
is_beside file.End = false
is_beside file.Message = false
is_beside file.AuthorScript = false
is_beside file.Amend = false
is_beside file.StoppedSha = false
is_beside file.CurrentFixups = false
is_beside file.RewrittenList = false
is_beside file.RewrittenPending = false
is_beside file.RefsToDelete = false
is_beside file.UpdateRefs = false
is_beside file.Control = false
is_beside file.Todo = false
is_beside file.Head = false
is_beside file.AbortSafety = false
is_beside file.Opts = false
is_beside file.MergeMsg = true
is_beside file.MergeHead = true
is_beside file.RebaseHead = true
is_beside file.CherryPickHead = true
is_beside file.RevertHead = true

-- the folder of a verb
abbrev pub folder_of : Verb → Path
folder_of Rebase = codes ".git/rebase-merge"
folder_of CherryPick = codes ".git/sequencer"
folder_of Revert = codes ".git/sequencer"

abbrev pub in_folder : Path → Name → Path
in_folder folder name = folder ++ 47 ∷ name

abbrev pub state_path : Verb → StateFile → Path
state_path verb f = in_folder (if is_beside f then codes ".git" else folder_of verb) (file_name f)

-- what stands while an invocation runs
abbrev pub in_step_path : Verb → Path
in_step_path verb = in_folder (folder_of verb) (codes "in-step")

-- ---- the files of a verb, in the order in which they are looked at

abbrev pub heads_beside : List StateFile
heads_beside = file.MergeMsg ∷ file.MergeHead ∷ file.RebaseHead ∷ file.CherryPickHead ∷ file.RevertHead ∷ []

abbrev pub rebase_files : List StateFile
rebase_files =
    file.HeadName ∷ file.OrigHead ∷ file.Onto ∷ file.Interactive ∷ file.RebaseTodo ∷ file.Backup ∷ file.Done ∷ file.Msgnum ∷ file.End
    ∷ file.Message ∷ file.AuthorScript ∷ file.Amend ∷ file.StoppedSha ∷ file.CurrentFixups ∷ file.RewrittenList ∷ file.RewrittenPending
    ∷ file.RefsToDelete ∷ file.UpdateRefs ∷ file.Control ∷ heads_beside

abbrev pub sequencer_files : List StateFile
sequencer_files =
    file.Todo ∷ file.Done ∷ file.Head ∷ file.AbortSafety ∷ file.Opts ∷ file.Message ∷ file.AuthorScript ∷ file.StoppedSha ∷ file.Control
    ∷ heads_beside

abbrev pub files_of : Verb → List StateFile
files_of Rebase = rebase_files
files_of CherryPick = sequencer_files
files_of Revert = sequencer_files
