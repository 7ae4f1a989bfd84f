use Rattle.std.proofs.Common.{◌∙◌}
use Rattle.stage_index.specs.Stages.{map_of}
use Rattle.stage_index.specs.Switching.{index_write, removals}
use Rattle.worktree.proofs.FirstWrites.{index_last}
use Rattle.worktree.proofs.Resetting.{index_write_is}
use Rattle.worktree.proofs.reset.reset_first.Goals as goal

pub returns-clause-made : goal.returns-clause-made
returns-clause-made c =
    index_last c.new-writes.result.items c.push_removals.new.writes.items c.push.new.self.items (removals c.args.from.now (map_of c.args.index.now)) c.in_ok-index_write.field-0 (index_write (map_of c.args.index.now))
    c.new-writes.ensures.items c.in_ok-push_removals.ensures.pushed (c.in_ok-index_write.ensures ∙ index_write_is c.args.index.now c.requires.indexed) c.in_ok-push.ensures.items
