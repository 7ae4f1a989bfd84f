use Rattle.std.proofs.Common.{◌∙◌}
use Rattle.seq_outside.specs.Halts.{halt_cause}
use Rattle.seq_outside.specs.Seen.{cause_of}
use Rattle.path_trees.proofs.Naming.{read_after}
use Rattle.path_trees.proofs.named.read_commit_map.Goals as goal

pub returns-clause-reads : goal.returns-clause-reads
returns-clause-reads g c = (
  λ told. c.read_tree_map.ensures.reads.0 told ∙ c.in_ok-commit.ensures.reads.0 told,
  read_after g.S.Store.told (g.S.Store.seen c.args.store.now) (g.S.Store.seen c.read_commit.new.store) (g.S.Store.seen c.read_tree_map.new.store) (cause_of halt_cause c.read_tree_map.result) c.in_ok-commit.ensures.reads.1 c.read_tree_map.ensures.reads.1,
)
