use Rattle.std.proofs.Common.{◌∷◌, Err, refl}
use Rattle.seq_outside.proofs.Seeing.{sees_child}
use Rattle.seq_outside.specs.Child.{noted}
use Rattle.seq_outside.specs.Tape.{SawChild}
use Rattle.seq_outside.specs.declared.child.ChildError.TheVariants.{Failed}
use Rattle.child_steps.proofs.Running.{noted_failed}
use Rattle.line_steps.specs.Hooks.{job_does}
use Rattle.seq_step.proofs.job.run_job.Goals as goal

pub returns-in-Err-Failed-clause-follows : goal.returns-in-Err-Failed-clause-follows
unfolding job_does
returns-in-Err-Failed-clause-follows g c = λ told q d rest sees.
    let old = g.S.Store.seen c.args.store.now in
    let new = g.S.Store.seen c.run.new.store in
    let ran = noted_failed g.S.Store.told g.P.Spawner.ran c.args.job.now c.args.spawner.now c.run.new.self old new c.in-Err-Failed.field-0 c.in-Err-Failed.field-0-is c.in-Err-Failed.ensures.runs in
    record {
      this = SawChild (noted c.args.job.now old (Err Failed) new) ∷ rest;
      is =
          sees_child g.P.Spawner.ran g.C.Clock.ticked c.args.spawner.now c.run.new.self q c.args.clock.now d (noted c.args.job.now old (Err Failed) new) rest ran sees;
      ends = refl;
      spot = refl;
      left = refl;
      asked = refl;
    }
