use Rattle.reading.proofs.LinesApart.{lines_apart}
use Rattle.reading.proofs.laws.lines_look_at_no_file.Goals as goal

pub returns : goal.returns
returns g = λ setting options. lines_apart setting options
