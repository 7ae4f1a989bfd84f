use Rattle.std.proofs.Common.{◌≡◌, length}
use Rattle.std.specs.Option.{option_or, option_copied}
use Rattle.config_text.specs.Lookups.{last_value}
use Rattle.config_text.proofs.config.Config.get.Given as goal

abbrev pub invariant-loop-rest : goal.invariant-loop-rest
invariant-loop-rest l = option_or (last_value l.section l.sub l.key l.rest) (option_copied l.last) ≡ last_value l.section l.sub l.key l.self

abbrev pub decreases-loop-rest : goal.decreases-loop-rest
decreases-loop-rest l = length l.rest
