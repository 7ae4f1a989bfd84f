-- What a turn that starts a list is given.
use Rattle.std.specs.Prelude.{ℤ, Result, Ok}
use Rattle.seq_base.specs.World.{World}
use Rattle.seq_model.specs.declared.denial.Denial.{Denial}
use Rattle.seq_outside.specs.Halts.{◌>>=◌}
use Rattle.seq_outside.specs.declared.env.Env.{Env}
use Rattle.line_steps.specs.declared.setting.Setting.{Setting}
use Rattle.reading.specs.Opening.{Checks, opened_at}

-- by the environment, the moment and the world with which it begins
unfoldable pub setting_at : Checks → Env → ℤ → World → Result Setting Denial
setting_at checks env secs w = do
  opened ← opened_at checks w
  committer ← checks.committer_in env.vars opened.config
  Ok (record { env = env; secs = secs; config = opened.config; committer = committer })
