use Rattle.std.proofs.Common.{Ok, ap, ◌∙◌}
use Rattle.child_steps.specs.Children.{spot_of}
use Rattle.seq_step.proofs.Hooking.{hook_there}
use Rattle.seq_step.proofs.job.run_hook.Goals as goal

pub returns-then-branch-clause-follows : goal.returns-then-branch-clause-follows
returns-then-branch-clause-follows g c told =
    hook_there g.P.Spawner.ran g.C.Clock.ticked c.args.spawner.now c.args.clock.now c.start_hook.new.spawner c.start_hook.new.clock
    c.args.name.now c.args.arguments.now c.args.input.now (g.S.Store.seen c.args.store.now).content (g.S.Store.seen c.has_hook.new.store).content c.args.place.now
    c.start_hook.result (spot_of (g.S.Store.seen c.start_hook.new.store) c.start_hook.new.place)
    (c.in_ok-has_hook.ensures.gives told ∙ ap Ok c.if-branch.true) (c.in_ok-has_hook.ensures.reads.0 told) (c.start_hook.ensures.follows told)
