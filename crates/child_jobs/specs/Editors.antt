-- Which editor is run (git-var(1), "GIT_EDITOR" and "GIT_SEQUENCE_EDITOR").
use Rattle.std.specs.Prelude.{Bool, if◌then◌else◌, List, [], ◌∷◌, codes, Option, Some, None}
use Rattle.std.specs.Option.{option_or}
use Rattle.std.specs.Str.{bytes_eq}
use Rattle.seq_base.specs.Words.{Name, Text}
use Rattle.config_text.specs.Lookups.{last_value}
use Rattle.config_text.specs.declared.config.Setting.{Setting}
use Rattle.seq_outside.specs.declared.env.Env.{Env}

-- the value of the first variable of a name
abbrev pub variable : List (Name × Text) → Name → Option Text
variable [] name = None
variable (v ∷ vars) name = if bytes_eq v.0 name then Some v.1 else variable vars name

-- that of a message: what is set first
abbrev pub message_editor : List Setting → List (Name × Text) → Option Text
message_editor settings vars =
    option_or (variable vars (codes "GIT_EDITOR"))
    (option_or (last_value (codes "core") [] (codes "editor") settings)
    (option_or (variable vars (codes "VISUAL")) (variable vars (codes "EDITOR"))))

-- that of a todo
abbrev pub todo_editor : List Setting → List (Name × Text) → Option Text
todo_editor settings vars =
    option_or (variable vars (codes "GIT_SEQUENCE_EDITOR"))
    (option_or (last_value (codes "sequence") [] (codes "editor") settings) (message_editor settings vars))

-- `:` runs nothing
abbrev pub unless_colon : Option Text → Option Text
unless_colon None = None
unless_colon (Some editor) = if bytes_eq editor (codes ":") then None else Some editor

-- the editor of a todo or of a message, if one is to be run
abbrev pub editor_for : List Setting → Env → Bool → Option Text
editor_for settings env todo = unless_colon (if todo then todo_editor settings env.vars else message_editor settings env.vars)
