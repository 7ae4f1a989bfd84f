use Rattle.std.proofs.Common.{◌≡◌}
use Rattle.message_text.specs.Picked.{has_trailers}
use Rattle.message_text.proofs.TrailerLemmas.{trailers_from}
use Rattle.message_text.proofs.picks.has_trailers.Given as goal

abbrev pub invariant-loop-line : goal.invariant-loop-line
invariant-loop-line l = trailers_from l.has_first l.is_inside l.ends_in_trailers l.line-iterator ≡ has_trailers l.fn.text
