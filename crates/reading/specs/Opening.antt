-- What each invocation looks at before all else, and what is taken of checks that are built elsewhere (gitrepository-layout(5)).
use Rattle.std.specs.Prelude.{List, Option, Result, Ok}
use Rattle.config_text.specs.declared.config.Setting.{Setting as ConfigSetting}
use Rattle.index_file.specs.declared.entry.IndexEntry.{IndexEntry}
use Rattle.seq_base.specs.Words.{Id, Name, Text}
use Rattle.seq_base.specs.World.{World}
use Rattle.seq_model.specs.Checks.{is_repository, place_in}
use Rattle.seq_model.specs.Basis.{index_named}
use Rattle.seq_model.specs.declared.command.StartWords.{StartWords}
use Rattle.seq_model.specs.declared.committer.Committer.{Committer}
use Rattle.seq_model.specs.declared.denial.Denial.{Denial}
use Rattle.seq_outside.specs.Halts.{◌>>=◌}
use Rattle.seq_outside.specs.declared.env.Env.{Env}
pub use Rattle.reading.specs.declared.checked.Checked.{Checked}

-- The checks of configuration, identity and start, which a meaning takes as they are given.
pub record Checks : Type 0 where
  -- the settings of a configuration that can be read, and that asks for nothing that is not there (git-config(1))
  pub settings_in : World → Result (List ConfigSetting) Denial
  -- who commits, by the variables and the configuration (git-commit-tree(1), "Commit Information")
  pub committer_in : List (Name × Text) → List ConfigSetting → Result Committer Denial
  -- the checks of a start that stand before its own children, and the todo that it generates
  pub checked_in : StartWords → Env → World → Result Checked Denial

-- HEAD's commit, which an unborn branch lacks, the configuration and the index
pub record Opened : Type 0 where
  pub head : Option Id
  pub config : List ConfigSetting
  pub index : List IndexEntry

-- the configuration, then the index
unfoldable pub opened_on : Checks → Option Id → World → Result Opened Denial
opened_on checks head w = do
  config ← checks.settings_in w
  index ← index_named w
  Ok (record { head = head; config = config; index = index })

-- that there is a repository, HEAD and the refs, and then those
unfoldable pub opened_at : Checks → World → Result Opened Denial
opened_at checks w = do
  _ ← is_repository w
  place ← place_in w
  opened_on checks place.tip w
