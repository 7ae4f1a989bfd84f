-- The files that a merge driver is handed (gitattributes(5), "Defining a custom merge driver").
use Rattle.std.specs.Prelude.{ℕ, ◌++◌, codes, decimal}
use Rattle.std.specs.FinMap as map
use Rattle.seq_base.specs.Words.{Path, Text}
use Rattle.seq_base.specs.World.{World}
use Rattle.driver_pool.specs.declared.files.Version.{Version}
use Rattle.driver_pool.specs.declared.files.Version.TheVariants.{Base, Ours, Theirs}
use Rattle.driver_pool.specs.declared.job.DriverJob.{DriverJob}

abbrev pub ending : Version → Text
ending Base = codes ".base"
ending Ours = codes ".ours"
ending Theirs = codes ".theirs"

-- the file of a version for the job of that number
unfoldable pub file_of : ℕ → Version → Path
file_of number version = codes ".git/merge-driver/" ++ decimal number ++ ending version

-- a world with the files of a job
abbrev pub with_files : ℕ → DriverJob → World → World
with_files number job w =
    map.insert (map.insert (map.insert w (file_of number Base) job.base) (file_of number Ours) job.ours) (file_of number Theirs) job.theirs

-- a world without them
abbrev pub without_files : ℕ → World → World
without_files number w = map.remove (map.remove (map.remove w (file_of number Base)) (file_of number Ours)) (file_of number Theirs)
