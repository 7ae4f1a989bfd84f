use Rattle.std.proofs.Common.{◌∙◌, ap, sym}
use Rattle.seq_base.specs.World.{World}
use Rattle.state_text.specs.declared.verb.Verb.TheVariants.{CherryPick}
use Rattle.state_text.specs.Places.{folder_of}
use Rattle.state_found.specs.Found.{has_files}
use Rattle.state_found.proofs.StateLaws.{no_state}
use Rattle.state_found.proofs.read.read_state.Goals as goal

pub returns-clause-state : goal.returns-clause-state
returns-clause-state g c = λ told.
    let w = (g.S.Store.seen c.args.store.now).content in
    no_state w (sym (c.in_ok-has_files.ensures.there told) ∙ c.if-branch.false)
    (ap (λ (v : World). has_files v (folder_of CherryPick)) (sym (c.in_ok-has_files.ensures.reads.0 told))
    ∙ sym (c.in_ok-has_files-2.ensures.there told) ∙ c.if-branch-2.false)
