-- Who commits (git-commit-tree(1), "Commit Information"; git-config(1), "user.name").
use Rattle.std.specs.Prelude.{Bool, not, ◌&&◌, ◌==◌, if◌then◌else◌, List, [], length, codes, Option, Some, None, Result, Ok, option_and_then}
use Rattle.std.specs.List.{list_all}
use Rattle.std.specs.Option.{option_or}
use Rattle.child_jobs.specs.Editors.{variable}
use Rattle.config_text.specs.Lookups.{last_value}
use Rattle.config_text.specs.declared.config.Setting.{Setting}
use Rattle.seq_base.specs.Words.{Name, Text}
use Rattle.ident_text.specs.Idents.{is_ident_byte}
use Rattle.seq_outside.specs.Halts.{◌>>=◌}
use Rattle.seq_model.specs.Refusing.{or_refuse}
use Rattle.seq_model.specs.declared.committer.Committer.{Committer}
use Rattle.seq_model.specs.declared.denial.Denial.{Denial}
use Rattle.seq_model.specs.declared.refusal.Refusal.TheVariants.{NoIdentity}

-- a name or an email that an ident can hold, and not an empty one
abbrev pub is_identity : Text → Bool
is_identity text = not (length text == 0) && list_all is_ident_byte text

abbrev pub identity : Text → Option Text
identity text = if is_identity text then Some text else None

-- a variable that is there decides, also where it is empty; else the setting of that key in the section `user`
abbrev pub said_by : List (Name × Text) → List Setting → Name → Name → Option Text
said_by vars settings name key = option_or (variable vars name) (last_value (codes "user") [] key settings)

-- a name or an email that is said so
unfoldable pub identity_in : List (Name × Text) → List Setting → Name → Name → Result Text Denial
identity_in vars settings name key = or_refuse (option_and_then identity (said_by vars settings name key)) NoIdentity

-- who commits, by the environment and the configuration
unfoldable pub committer_in : List (Name × Text) → List Setting → Result Committer Denial
committer_in vars settings = do
  name ← identity_in vars settings (codes "GIT_COMMITTER_NAME") (codes "name")
  email ← identity_in vars settings (codes "GIT_COMMITTER_EMAIL") (codes "email")
  Ok (record { name = name; email = email })
