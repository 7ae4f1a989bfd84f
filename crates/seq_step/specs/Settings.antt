-- Who commits in a turn.
use Rattle.std.specs.Prelude.{◌≡◌, true}
use Rattle.std.specs.List.{list_all}
use Rattle.commit_maker.specs.Committers.{CanCommit}
use Rattle.ident_text.specs.Idents.{is_ident_byte}
use Rattle.line_steps.specs.declared.setting.Setting.{Setting}
use Rattle.seq_outside.specs.Env.{IsZone}

-- an ident can hold who commits, by the committer and by configuration and environment
pub record MayCommit (setting : Setting) : Type 0 where
  pub name : list_all is_ident_byte setting.committer.name ≡ true
  pub email : list_all is_ident_byte setting.committer.email ≡ true
  pub zone : IsZone setting.env.zone
  pub who : CanCommit setting.config setting.env
