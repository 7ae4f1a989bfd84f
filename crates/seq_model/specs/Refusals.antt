-- Why an invocation is refused.
use Rattle.std.specs.Prelude.{codes, [], ◌++◌}
use Rattle.seq_base.specs.Words.{Text}
use Rattle.seq_model.specs.Fields.{bytes_field, number_field, id_field, found_field, exit_field, todo_bad_fields}
use Rattle.seq_model.specs.IndexFaults.{index_fault_fields}
use Rattle.seq_model.specs.declared.refusal.Refusal.{Refusal}
use Rattle.seq_model.specs.declared.refusal.Refusal.TheVariants.{NotARepository, InProgress, BadHead, BadRefs, BadConfig, Unsupported, BadIndex, NoSuchRev, AmbiguousRev, NotACommit, NoParent, NoLogEntry, BadRevForm, UnbornHead, NoIdentity, Unmerged, Dirty, Mainline, NoBase, SeveralBases, Octopus, NewRoot, HookRefused, EditorFailed, NothingToDo, HeadMoved, WouldOverwrite, BadObject, NothingInProgress, Interrupted, BadState, TodoBad, Unstaged, Staged, AlreadyARepository, BadPath, NotTracked, EmptyMessage, NotBuilt, Conflict, DriverBroken}

abbrev pub refusal_name : Refusal → Text
refusal_name NotARepository = codes "not-a-repository"
refusal_name (InProgress path) = codes "in-progress"
refusal_name BadHead = codes "bad-head"
refusal_name (BadRefs line) = codes "bad-refs"
refusal_name (BadConfig line) = codes "bad-config"
refusal_name (Unsupported key) = codes "unsupported"
refusal_name (BadIndex fault) = codes "bad-index"
refusal_name (NoSuchRev word) = codes "no-such-rev"
refusal_name (AmbiguousRev word first second) = codes "ambiguous-rev"
refusal_name (NotACommit word) = codes "not-a-commit"
refusal_name (NoParent word) = codes "no-parent"
refusal_name (NoLogEntry word) = codes "no-log-entry"
refusal_name (BadRevForm word) = codes "bad-rev-form"
refusal_name UnbornHead = codes "unborn-head"
refusal_name NoIdentity = codes "no-identity"
refusal_name (Unmerged path) = codes "unmerged"
refusal_name (Dirty path) = codes "dirty"
refusal_name (Mainline id) = codes "mainline"
refusal_name NoBase = codes "no-base"
refusal_name (SeveralBases first second) = codes "several-bases"
refusal_name (Octopus id) = codes "octopus"
refusal_name (NewRoot id) = codes "new-root"
refusal_name (HookRefused exit) = codes "hook-refused"
refusal_name (EditorFailed exit) = codes "editor-failed"
refusal_name NothingToDo = codes "nothing-to-do"
refusal_name (HeadMoved found) = codes "head-moved"
refusal_name (WouldOverwrite path) = codes "would-overwrite"
refusal_name (BadObject id) = codes "bad-object"
refusal_name NothingInProgress = codes "nothing-in-progress"
refusal_name Interrupted = codes "interrupted"
refusal_name (BadState file) = codes "bad-state"
refusal_name (TodoBad line kind) = codes "todo-bad"
refusal_name (Unstaged path) = codes "unstaged"
refusal_name (Staged path) = codes "staged"
refusal_name AlreadyARepository = codes "already-a-repository"
refusal_name (BadPath word) = codes "bad-path"
refusal_name (NotTracked path) = codes "not-tracked"
refusal_name EmptyMessage = codes "empty-message"
refusal_name NotBuilt = codes "not-built"
refusal_name (Conflict path) = codes "conflict"
refusal_name (DriverBroken path exit) = codes "driver-broken"

-- the fields, in their order
abbrev pub refusal_fields : Refusal → Text
refusal_fields NotARepository = []
refusal_fields (InProgress path) = bytes_field path
refusal_fields BadHead = []
refusal_fields (BadRefs line) = number_field line
refusal_fields (BadConfig line) = number_field line
refusal_fields (Unsupported key) = bytes_field key
refusal_fields (BadIndex fault) = index_fault_fields fault
refusal_fields (NoSuchRev word) = bytes_field word
refusal_fields (AmbiguousRev word first second) = bytes_field word ++ (id_field first ++ id_field second)
refusal_fields (NotACommit word) = bytes_field word
refusal_fields (NoParent word) = bytes_field word
refusal_fields (NoLogEntry word) = bytes_field word
refusal_fields (BadRevForm word) = bytes_field word
refusal_fields UnbornHead = []
refusal_fields NoIdentity = []
refusal_fields (Unmerged path) = bytes_field path
refusal_fields (Dirty path) = bytes_field path
refusal_fields (Mainline id) = id_field id
refusal_fields NoBase = []
refusal_fields (SeveralBases first second) = id_field first ++ id_field second
refusal_fields (Octopus id) = id_field id
refusal_fields (NewRoot id) = id_field id
refusal_fields (HookRefused exit) = exit_field exit
refusal_fields (EditorFailed exit) = exit_field exit
refusal_fields NothingToDo = []
refusal_fields (HeadMoved found) = found_field found
refusal_fields (WouldOverwrite path) = bytes_field path
refusal_fields (BadObject id) = id_field id
refusal_fields NothingInProgress = []
refusal_fields Interrupted = []
refusal_fields (BadState file) = bytes_field file
refusal_fields (TodoBad line kind) = todo_bad_fields line kind
refusal_fields (Unstaged path) = bytes_field path
refusal_fields (Staged path) = bytes_field path
refusal_fields AlreadyARepository = []
refusal_fields (BadPath word) = bytes_field word
refusal_fields (NotTracked path) = bytes_field path
refusal_fields EmptyMessage = []
refusal_fields NotBuilt = []
refusal_fields (Conflict path) = bytes_field path
refusal_fields (DriverBroken path exit) = bytes_field path ++ exit_field exit
