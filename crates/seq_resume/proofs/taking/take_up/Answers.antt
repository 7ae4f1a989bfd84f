use Rattle.std.proofs.Common.{◌≡◌, rules, subst, sym}
use Rattle.reading.specs.Resuming.{taken_up}
use Rattle.state_found.specs.Reads.{IsControlBut}
use Rattle.state_text.specs.declared.control.Control.{Control}
use Rattle.seq_resume.proofs.Takings.{still_told}
use Rattle.seq_resume.proofs.taking.take_up.Goals as goal

pub returns-clause-kept : goal.returns-clause-kept
returns-clause-kept c = λ is.
    let taken : Control = record c.args.control { updates = c.named_updates-updates.result; chain = c.keep_chain-chain.result } in
    let same : taken ≡ taken_up c.args.again c.args.going.now c.args.control = search rules in
    subst IsControlBut (sym same) (still_told c.args.again c.args.going.now c.args.control is)
