-- The drivers of a merge as a step that takes events from outside: how each ended, one after another, and what it left.
use Rattle.std.specs.Prelude.{ℕ, ◌+◌, if◌then◌else◌, List, [], ◌∷◌, Option, Some, None, option_map}
use Rattle.std.specs.FinMap as map
use Rattle.child_jobs.specs.Jobs.{exec_of}
use Rattle.seq_base.specs.World.{World}
use Rattle.seq_outside.specs.Doing.{Does, End, Goes, Starves, Stops, gives, no_ask}
use Rattle.seq_outside.specs.Tape.{Ask, Ended}
use Rattle.driver_pool.specs.Files.{file_of, with_files, without_files}
use Rattle.driver_pool.specs.Pools.{end_of}
use Rattle.driver_pool.specs.declared.end.DriverEnd.{DriverEnd}
use Rattle.driver_pool.specs.declared.files.Version.TheVariants.{Ours}
use Rattle.driver_pool.specs.declared.job.DriverJob.{DriverJob}

-- how drivers end: with these ends, or with none where one of them could not be run
abbrev pub Ends : Type 0
Ends = Option (List DriverEnd)

-- the first ends so, and those behind it as they do
abbrev pub with_end : {E : Type 0} → DriverEnd → End E Ends → End E Ends
with_end end (Goes ends) = Goes (option_map (λ later. end ∷ later) ends)
with_end end (Stops why) = Stops why
with_end end Starves = Starves

-- behind a driver that could not be run none is
abbrev pub ends_unrun : {E : Type 0} → List Ended → End E Ends
ends_unrun [] = Goes None
ends_unrun (e ∷ es) = Starves

-- how jobs from that number on end
abbrev pub jobs_end : {E : Type 0} → ℕ → List DriverJob → List Ended → End E Ends
jobs_end number [] [] = Goes (Some [])
jobs_end number [] (e ∷ es) = Starves
jobs_end number (job ∷ jobs) [] = Starves
jobs_end number (job ∷ jobs) (e ∷ es) =
    if e.failed then ends_unrun es
    else with_end (end_of e.exit (map.get e.left (file_of number Ours))) (jobs_end (number + 1) jobs es)

-- what stands behind them: what the last left, without its files
abbrev pub world_behind : ℕ → World → List Ended → World
world_behind number w [] = w
world_behind number w (e ∷ es) = world_behind (number + 1) (without_files number e.left) es

-- each was handed in over what the one before it left, and its own files
abbrev pub jobs_asked : ℕ → List DriverJob → World → List Ended → List Ask
jobs_asked number [] w es = []
jobs_asked number (job ∷ jobs) w [] = []
jobs_asked number (job ∷ jobs) w (e ∷ es) =
    record { job = exec_of job.command; over = with_files number job w } ∷ jobs_asked (number + 1) jobs (without_files number e.left) es

abbrev pub drivers_in : {P E : Type 0} → List DriverJob → List (List Ended) → Does P E Ends
drivers_in jobs [] spot coming = record { end = Starves; spot = spot; coming = coming; asked = no_ask }
drivers_in jobs (es ∷ others) spot coming = record {
  end = jobs_end 1 jobs es;
  spot = record { world = world_behind 1 spot.world es; place = spot.place };
  coming = record coming { drivers = others };
  asked = λ more. jobs_asked 1 jobs spot.world es ∷ more;
}

-- the jobs of a merge are run; without a job no event is taken
abbrev pub drivers_end : {P E : Type 0} → List DriverJob → Does P E Ends
drivers_end [] spot coming = gives (Some []) spot coming
drivers_end (job ∷ jobs) spot coming = drivers_in (job ∷ jobs) coming.drivers spot coming
