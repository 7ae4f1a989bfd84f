use Rattle.std.proofs.Common.{ap, ◌∙◌}
use Rattle.std.specs.List.{list_any}
use Rattle.stage_index.specs.Switching.{is_untracked}
use Rattle.worktree.proofs.Obstacles.{below_any}
use Rattle.worktree.proofs.obstacle.stands_below.Goals as goal

pub returns-clause-told : goal.returns-clause-told
returns-clause-told g c told =
    c.has_untracked.ensures
    ∙ ap (list_any (is_untracked c.args.from.now)) (c.deref.ensures.value ∙ c.in_ok-files.ensures.found told)
    ∙ below_any _ c.args.from.now c.args.path.now c.requires.path
