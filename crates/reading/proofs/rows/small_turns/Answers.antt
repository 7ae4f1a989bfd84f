use Rattle.reading.proofs.Computed.{made_by_user, resolved_to_nothing, staged_past}
use Rattle.reading.proofs.Computed.{start_is_refused, takes_out, takes_up, turns_apart, unresolved}
use Rattle.reading.proofs.rows.small_turns.Goals as goal

pub returns : goal.returns
returns g = record {
  start_is_refused = start_is_refused;
  turns_apart = turns_apart;
  unresolved = unresolved;
  staged_past = staged_past;
  made_by_user = made_by_user;
  resolved_to_nothing = resolved_to_nothing;
  takes_out = takes_out;
  takes_up = takes_up;
}
