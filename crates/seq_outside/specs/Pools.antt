-- The log of a spawner that runs several children at once.
use Rattle.std.specs.Prelude.{◌≡◌, ℕ, ◌+◌, ◌<◌, ◌≤◌, Bool, true, false, min, List, ◌∷◌, ◌++◌, count_by, ◌&&◌, not, ◌==◌}
use Rattle.std.specs.List.{list_any}

-- a start or an end in the log, of a job by its number
pub record Logged : Type 0 where
  pub job : ℕ
  pub end : Bool

abbrev pub is_start : Logged → Bool
is_start event = not event.end

abbrev pub is_end : Logged → Bool
is_end event = event.end

abbrev pub ends_job : ℕ → Logged → Bool
ends_job job event = event.end && event.job == job

-- the jobs that were started, and those that have ended
abbrev pub started : List Logged → ℕ
started events = count_by is_start events

abbrev pub ended : List Logged → ℕ
ended events = count_by is_end events

-- A start is of the next job, and comes while there is room and a job is left.
abbrev pub MayStart : ℕ → ℕ → List Logged → ℕ → Type 0
MayStart width jobs front job = (job ≡ started front + 1) × (job ≤ jobs) × (started front < ended front + width)

-- a job that was started and has not ended
abbrev pub IsRunning : List Logged → ℕ → Type 0
IsRunning front job = (0 < job) × (job ≤ started front) × (list_any (ends_job job) front ≡ false)

-- An end is of a running job, and comes where no job can be started.
abbrev pub MayEnd : ℕ → ℕ → List Logged → ℕ → Type 0
MayEnd width jobs front job = IsRunning front job × (started front ≡ min jobs (ended front + width))

-- the log of a pool of so many jobs, numbered from 1, of which at most `width` run at once
pub record IsPoolRun (width jobs : ℕ) (events : List Logged) : Type 0 where
  pub all_started : started events ≡ jobs
  pub all_ended : ended events ≡ jobs
  pub starts : (front back : List Logged) (job : ℕ) → events ≡ front ++ record { job = job; end = false } ∷ back → MayStart width jobs front job
  pub ends : (front back : List Logged) (job : ℕ) → events ≡ front ++ record { job = job; end = true } ∷ back → MayEnd width jobs front job
