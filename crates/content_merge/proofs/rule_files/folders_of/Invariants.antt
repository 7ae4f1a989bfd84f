use Rattle.std.proofs.Common.{◌≡◌, ◌≤◌, ◌++◌, length}
use Rattle.content_merge.specs.RuleFiles.{folders_in, folders_of}
use Rattle.content_merge.proofs.rule_files.folders_of.Given as goal

abbrev pub invariant-loop-end : goal.invariant-loop-end
invariant-loop-end l = record {
  found : l.folders.items ++ folders_in l.end l.path ≡ folders_of l.path;
  end : l.end ≤ length l.path;
}

abbrev pub decreases-loop-end : goal.decreases-loop-end
decreases-loop-end l = l.end
