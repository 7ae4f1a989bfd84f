-- Who commits (git-commit(1), "COMMIT INFORMATION"; git-config(1), "user.name").
use Rattle.std.specs.Prelude.{◌≡◌, ℤ, Bool, true, not, ◌&&◌, ◌==◌, List, [], length, codes, Option, unwrap_or}
use Rattle.std.specs.List.{list_all}
use Rattle.std.specs.Option.{option_or}
use Rattle.child_jobs.specs.Editors.{variable}
use Rattle.config_text.specs.Lookups.{last_value}
use Rattle.config_text.specs.declared.config.Setting.{Setting}
use Rattle.ident_text.specs.Idents.{is_ident_byte}
use Rattle.ident_text.specs.declared.ident.Ident.{Ident}
use Rattle.seq_base.specs.Words.{Name, Text}
use Rattle.seq_outside.specs.Env.{IsZone}
use Rattle.seq_outside.specs.declared.env.Env.{Env}

-- what a variable has, or else the key of the section `user`
abbrev pub set_by : List Setting → List (Name × Text) → Name → Name → Option Text
set_by settings vars name key = option_or (variable vars name) (last_value (codes "user") [] key settings)

abbrev pub committer_name : List Setting → Env → Option Text
committer_name settings env = set_by settings env.vars (codes "GIT_COMMITTER_NAME") (codes "name")

abbrev pub committer_email : List Setting → Env → Option Text
committer_email settings env = set_by settings env.vars (codes "GIT_COMMITTER_EMAIL") (codes "email")

-- who commits, at a moment
abbrev pub committer_at : List Setting → Env → ℤ → Ident
committer_at settings env secs = record {
  name = unwrap_or (committer_name settings env) [];
  email = unwrap_or (committer_email settings env) [];
  secs = secs;
  zone = env.zone;
}

-- an ident can hold the committer's name and email
pub record CanCommit (settings : List Setting) (env : Env) : Type 0 where
  pub name : list_all is_ident_byte (unwrap_or (committer_name settings env) []) ≡ true
  pub email : list_all is_ident_byte (unwrap_or (committer_email settings env) []) ≡ true
  pub zone : IsZone env.zone

-- a name or an email that an ident can hold, and not an empty one
abbrev pub is_identity : Text → Bool
is_identity text = not (length text == 0) && list_all is_ident_byte text

abbrev pub has_identity : List Setting → Env → Bool
has_identity settings env = is_identity (unwrap_or (committer_name settings env) []) && is_identity (unwrap_or (committer_email settings env) [])
