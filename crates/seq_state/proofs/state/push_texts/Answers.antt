use Rattle.seq_state.proofs.Chains.{texts_pushed}
use Rattle.seq_state.proofs.state.push_texts.Goals as goal

pub returns : goal.returns
returns c = texts_pushed _ _ _ _ _ c.requires c.in_ok-text.ensures c.in_ok-push_file.ensures c.in_ok-push_kept.ensures
