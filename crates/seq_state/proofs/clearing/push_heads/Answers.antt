use Rattle.seq_state.proofs.Listing.{heads_pushed}
use Rattle.seq_state.proofs.clearing.push_heads.Goals as goal

pub returns : goal.returns
returns c =
    heads_pushed _ _ _ _ _ _ c.in_ok-push_head.ensures c.in_ok-push_head-2.ensures c.in_ok-push_head-3.ensures c.in_ok-push_head-4.ensures
    c.in_ok-push_head-5.ensures
