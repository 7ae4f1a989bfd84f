use Rattle.stage_index.specs.Conflicts.{conflict_removals, stages_write}
use Rattle.worktree.proofs.FirstWrites.{index_last}
use Rattle.worktree.proofs.conflict_writes.first_writes.Goals as goal

pub returns-clause-made : goal.returns-clause-made
returns-clause-made c =
    index_last c.new-writes.result.items c.push_all_left_out.new.writes.items c.push.new.self.items (conflict_removals c.args.from.now c.args.index.now c.args.files.now) c.in_ok-index_write.field-0 (stages_write c.args.index.now)
    c.new-writes.ensures.items c.in_ok-push_all_left_out.ensures.pushed c.in_ok-index_write.ensures c.in_ok-push.ensures.items
