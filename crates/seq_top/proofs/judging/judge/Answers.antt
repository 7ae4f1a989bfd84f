use Rattle.seq_model.specs.Commands.{command_of}
use Rattle.seq_top.proofs.Judged.{as_read}
use Rattle.seq_top.proofs.judging.judge.Goals as goal

pub returns-in-Ok-clause-judges : goal.returns-in-Ok-clause-judges
returns-in-Ok-clause-judges g c =
    let seen = g.S.Store.seen in
    let done = c.perform-outcome in
    rw c.from_vec.ensures (as_read g.S.Store.told g.C.Clock.ticked (command_of c.args.words.now) c.in-Ok.command c.args.env.now (seen c.args.store.now) c.args.clock.now (seen done.new.store) done.new.clock done.result done.new.out.items c.in-Ok.ensures done.ensures.does)
