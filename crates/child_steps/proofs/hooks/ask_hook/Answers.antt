use Rattle.std.proofs.Common.{Ok, Err, ap, ◌∙◌}
use Rattle.std.proofs.lemmas.Result.{err_from_is_err_and}
use Rattle.child_steps.proofs.Asking.{hook_there}
use Rattle.child_steps.specs.Children.{spot_of}
use Rattle.child_steps.proofs.hooks.ask_hook.Goals as goal

pub returns-in_err-run_hook-clause-follows : goal.returns-in_err-run_hook-clause-follows
returns-in_err-run_hook-clause-follows g c told =
    let p = err_from_is_err_and c.from_residual-in_err-run_hook.result c.from_residual-in_err-run_hook.ensures.1 in
    rw (p.1, p.2) (hook_there g.P.Spawner.ran g.C.Clock.ticked c.args.spawner.now c.args.clock.now c.run_hook.new.spawner c.run_hook.new.clock
    c.args.name.now c.args.arguments.now (g.S.Store.seen c.args.store.now).content (g.S.Store.seen c.has_hook.new.store).content c.args.ran.now
    (Err c.in_err-run_hook.field-0.0) (spot_of (g.S.Store.seen c.run_hook.new.store) c.run_hook.new.ran)
    (c.in_ok-has_hook.ensures.gives told ∙ ap Ok c.if-branch.true) (c.in_ok-has_hook.ensures.reads.0 told) (c.in_err-run_hook.ensures.follows told))

pub returns-then-branch-clause-follows : goal.returns-then-branch-clause-follows
returns-then-branch-clause-follows g c told =
    hook_there g.P.Spawner.ran g.C.Clock.ticked c.args.spawner.now c.args.clock.now c.run_hook.new.spawner c.run_hook.new.clock
    c.args.name.now c.args.arguments.now (g.S.Store.seen c.args.store.now).content (g.S.Store.seen c.has_hook.new.store).content c.args.ran.now
    (Ok tt) (spot_of (g.S.Store.seen c.run_hook.new.store) c.run_hook.new.ran)
    (c.in_ok-has_hook.ensures.gives told ∙ ap Ok c.if-branch.true) (c.in_ok-has_hook.ensures.reads.0 told) (c.in_ok-run_hook.ensures.follows told)
