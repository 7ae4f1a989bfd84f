use Rattle.std.proofs.Common.{◌≡◌, length}
use Rattle.seq_outside.specs.Seen.{HasReadCause}
use Rattle.seq_outside.specs.Seen.Cause.{ByNone}
use Rattle.content_merge.specs.RuleFiles.{with_folders}
use Rattle.content_merge.proofs.rule_files.push_folders.Given as goal

abbrev pub invariant-loop-rest : goal.invariant-loop-rest
invariant-loop-rest g l = record {
  rest : g.S.Store.told
      → with_folders (g.S.Store.seen l.fn.store).content l.head l.files.items l.rest ≡ with_folders (g.S.Store.seen l.fn.store).content l.head l.fn.files.items l.folders;
  same : g.S.Store.told → (g.S.Store.seen l.store).content ≡ (g.S.Store.seen l.fn.store).content;
  cause : HasReadCause g.S.Store.told ByNone (g.S.Store.seen l.fn.store) (g.S.Store.seen l.store);
}

abbrev pub decreases-loop-rest : goal.decreases-loop-rest
decreases-loop-rest g l = length l.rest
