use Rattle.seq_top.proofs.Judged.{as_asked}
use Rattle.seq_top.proofs.judging.start.Goals as goal

pub returns-in-Some-clause-does : goal.returns-in-Some-clause-does
returns-in-Some-clause-does g c = record {
  first = c.now-first.result;
  between = c.now-first.new.self;
  ticks = c.now-first.ensures;
  kind = c.pick.ensures.kind;
  judged = as_asked g.S.Store.told g.C.Clock.ticked c.args.env.now _ _ _ _ _ _ c.in-Some.ensures c.pick.ensures.judged;
}
