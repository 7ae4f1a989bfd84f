-- Why a list stops.
use Rattle.std.specs.Prelude.{codes, [], ◌∷◌, ◌++◌}
use Rattle.seq_base.specs.Words.{Text}
use Rattle.seq_model.specs.Fields.{bytes_field, id_field, found_field, exit_field, todo_bad_fields}
use Rattle.seq_model.specs.Reasons.{reason_name, reason_fields}
use Rattle.seq_model.specs.declared.stop.StopKind.{StopKind}
use Rattle.seq_model.specs.declared.stop.StopKind.TheVariants.{Conflict, Edit, Break, ExecFailed, ExecDirty, Empty, HookRefused, EditorFailed, EmptyMessage, DriverBroken, Blocked, TodoBad, RefMoved}

abbrev pub stop_kind_name : StopKind → Text
stop_kind_name Conflict = codes "conflict"
stop_kind_name Edit = codes "edit"
stop_kind_name Break = codes "break"
stop_kind_name (ExecFailed exit) = codes "exec-failed"
stop_kind_name (ExecDirty path) = codes "exec-dirty"
stop_kind_name (Empty id) = codes "empty"
stop_kind_name (HookRefused name exit) = codes "hook-refused"
stop_kind_name (EditorFailed exit) = codes "editor-failed"
stop_kind_name EmptyMessage = codes "empty-message"
stop_kind_name (DriverBroken path exit) = codes "driver-broken"
stop_kind_name (Blocked reason) = codes "blocked"
stop_kind_name (TodoBad line kind) = codes "todo-bad"
stop_kind_name (RefMoved name found) = codes "ref-moved"

-- the fields, in their order
abbrev pub stop_kind_fields : StopKind → Text
stop_kind_fields Conflict = []
stop_kind_fields Edit = []
stop_kind_fields Break = []
stop_kind_fields (ExecFailed exit) = exit_field exit
stop_kind_fields (ExecDirty path) = bytes_field path
stop_kind_fields (Empty id) = id_field id
stop_kind_fields (HookRefused name exit) = bytes_field name ++ exit_field exit
stop_kind_fields (EditorFailed exit) = exit_field exit
stop_kind_fields EmptyMessage = []
stop_kind_fields (DriverBroken path exit) = bytes_field path ++ exit_field exit
stop_kind_fields (Blocked reason) = 32 ∷ reason_name reason ++ reason_fields reason
stop_kind_fields (TodoBad line kind) = todo_bad_fields line kind
stop_kind_fields (RefMoved name found) = bytes_field name ++ found_field found
