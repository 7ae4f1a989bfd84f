use Rattle.std.proofs.Common.{◌≡◌, ◌+◌, length}
use Rattle.child_steps.specs.Children.{spot_of}
use Rattle.reading.specs.Stages.{lines_do}
use Rattle.seq_outside.specs.Follows.{ComesTo}
use Rattle.seq_outside.specs.Child.{Serves}
use Rattle.seq_outside.specs.Seen.{Lasts}
use Rattle.seq_step.specs.Keeping.{HasSameLists}
use Rattle.seq_lines.proofs.lines.run_lines.Given as goal

abbrev pub invariant-loop-left : goal.invariant-loop-left
invariant-loop-left g l = record {
  follows : g.S.Store.told → ComesTo g.P.Spawner.ran g.C.Clock.ticked l.fn.spawner l.fn.clock l.spawner l.clock
      (lines_do l.setting l.control l.lines 0) (spot_of (g.S.Store.seen l.fn.store) l.fn.place)
      (lines_do l.setting l.control l.left l.done) (spot_of (g.S.Store.seen l.store) l.place);
  lasts : Lasts (g.S.Store.seen l.fn.store) (g.S.Store.seen l.store);
  children : Serves (g.P.Spawner.seen l.fn.spawner) (g.P.Spawner.seen l.spawner);
  lists : HasSameLists l.fn.place l.place;
  length_is : l.done + length l.left ≡ length l.lines;
}

abbrev pub decreases-loop-left : goal.decreases-loop-left
decreases-loop-left g l = length l.left
