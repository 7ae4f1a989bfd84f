use Rattle.seq_outside.proofs.Blocking.{front_is_store_path}
use Rattle.worktree.proofs.obstacle.stands_before.Goals as goal

pub stands_at-requires-clause-path : goal.stands_at-requires-clause-path
stands_at-requires-clause-path g c = front_is_store_path c.args.path.now c.args.n c.requires.path c.requires.within c.if-path-n-ne47.false
