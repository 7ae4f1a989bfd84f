-- Which drivers a merge runs, and what they are handed (gitattributes(5), "Defining a custom merge driver").
use Rattle.std.specs.Prelude.{ℕ, ◌+◌, if◌then◌else◌, List, [], ◌∷◌, ◌++◌, length, Option, Some, None, Result, Ok}
use Rattle.config_text.specs.declared.config.Setting.{Setting}
use Rattle.driver_pool.specs.Commands.{command_of}
use Rattle.driver_pool.specs.declared.job.DriverJob.{DriverJob}
use Rattle.seq_base.specs.PathMaps.{Entries}
use Rattle.seq_base.specs.Words.{Path, Text}
use Rattle.seq_base.specs.World.{World}
use Rattle.seq_base.specs.declared.map.Entry.{Entry}
use Rattle.seq_outside.specs.Halts.{◌>>=◌}
use Rattle.seq_outside.specs.declared.lack.Lack.{Lack}
use Rattle.tree_merge.specs.declared.plans.Planned.{Planned}
use Rattle.worktree.specs.Blobs.{blob_named}
use Rattle.content_merge.specs.Drivers.{driver_of}
use Rattle.content_merge.specs.Fates.{wants_end}
use Rattle.content_merge.specs.RuleFiles.{rule_files}

-- ---- drivers

-- the template of a path's driver, if it has one that is run, by the rule files of a map
unfoldable pub driver_at : World → List Setting → Entries → Path → Result (Option Text) Lack
driver_at w settings head path = do
  files ← rule_files w head path
  Ok (driver_of settings files path)

-- that of a path of a plan: none where no contents are to be merged, and then no rule file is read
unfoldable pub row_driver : World → List Setting → Entries → Planned → Result (Option Text) Lack
row_driver w settings head row = if wants_end row then driver_at w settings head row.path else Ok None

-- those found so far, with those of these paths, in their order
unfoldable pub with_drivers : World → List Setting → Entries → List (Option Text) → List Planned → Result (List (Option Text)) Lack
with_drivers w settings head drivers [] = Ok drivers
with_drivers w settings head drivers (row ∷ rows) = do
  driver ← row_driver w settings head row
  with_drivers w settings head (drivers ++ driver ∷ []) rows

-- ---- jobs

-- a version of a file, which is empty where there is none
unfoldable pub version_of : World → Option Entry → Result Text Lack
version_of w None = Ok []
version_of w (Some entry) = blob_named w entry.id

-- the job of that number, for a path with the template of its driver; the versions are read in this order
unfoldable pub job_of : World → Planned → Text → ℕ → Result DriverJob Lack
job_of w row template number = do
  base ← version_of w row.base
  ours ← version_of w row.ours
  theirs ← version_of w row.theirs
  Ok (record { path = row.path; command = command_of template row.path number; base = base; ours = ours; theirs = theirs })

-- the jobs found so far, with that of a path, if it has a driver
unfoldable pub with_job : World → List DriverJob → Planned → Option Text → Result (List DriverJob) Lack
with_job w jobs row None = Ok jobs
with_job w jobs row (Some template) = do
  job ← job_of w row template (length jobs + 1)
  Ok (jobs ++ job ∷ [])

-- with those of these paths, each with its driver, if it has one
unfoldable pub with_jobs : World → List DriverJob → List Planned → List (Option Text) → Result (List DriverJob) Lack
with_jobs w jobs [] drivers = Ok jobs
with_jobs w jobs (row ∷ rows) [] = Ok jobs
with_jobs w jobs (row ∷ rows) (driver ∷ drivers) = do
  more ← with_job w jobs row driver
  with_jobs w more rows drivers
