use Rattle.reading.proofs.Files.{files_are_kept, none_is_left}
use Rattle.reading.proofs.laws.files_are_the_controls.Goals as goal

pub returns : goal.returns
returns g = record { kept = files_are_kept; left = none_is_left }
