use Rattle.std.proofs.Common.{◌≡◌, length}
use Rattle.config_text.specs.Reading.{start}
use Rattle.config_text.specs.Returns.{fed, read_from}
use Rattle.config_text.proofs.parse.settings_of.Given as goal

abbrev pub invariant-loop-rest : goal.invariant-loop-rest
invariant-loop-rest l = read_from l.reader l.rest ≡ read_from (fed start) l.text

abbrev pub decreases-loop-rest : goal.decreases-loop-rest
decreases-loop-rest l = length l.rest
