use Rattle.seq_state.proofs.Chains.{kept_pushed}
use Rattle.seq_state.proofs.state.push_unedited.Goals as goal

pub returns : goal.returns
returns c = kept_pushed _ _ _ _ c.requires.never c.in_ok-text.ensures c.in_ok-push_file.ensures
