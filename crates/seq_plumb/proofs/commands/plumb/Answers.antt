use Rattle.std.proofs.Common.{refl}
use Rattle.seq_plumb.proofs.commands.plumb.Goals as goal

pub returns-clause-does : goal.returns-clause-does
returns-clause-does g c = record {
  first = c.now-first.result;
  between = c.now-first.new.self;
  ticks = c.now-first.ensures;
  kind = c.plumb_drafted.ensures.kind;
  judged = record { ticks_not = refl; fits = λ told secs. c.plumb_drafted.ensures.fits told };
}
