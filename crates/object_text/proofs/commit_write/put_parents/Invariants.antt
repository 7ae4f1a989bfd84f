use Rattle.std.proofs.Common.{◌≡◌, ◌++◌, take}
use Rattle.std.specs.Prelude.{codes}
use Rattle.std.specs.List.{AllByRecursion, flat_map}
use Rattle.hex.specs.Hex.{encode_lower}
use Rattle.seq_base.specs.Ids.{SpellsId}
use Rattle.object_text.specs.Commits.{line}
use Rattle.object_text.proofs.commit_write.put_parents.Given as goal

abbrev pub invariant-loop-parent : goal.invariant-loop-parent
invariant-loop-parent l = record {
  written : l.out.items ≡ l.fn.out.items ++ flat_map (λ parent. line (codes "parent " ++ encode_lower parent)) (take l.parent-index l.parents);
  spelled : AllByRecursion (λ parent. SpellsId parent (encode_lower parent)) (take l.parent-index l.parents);
}
