use Rattle.std.proofs.Common.{rules, arith, ◌≡◌, ◌-◌, ◌<◌, ◌==◌, true, ◌++◌, ◌∷◌, [], take, slice_index}
use Rattle.content_merge.proofs.Folders.{with_folder}
use Rattle.content_merge.proofs.rule_files.folders_of.Goals as goal

pub loop-end-preserved-in_ok-push : goal.loop-end-preserved-in_ok-push
loop-end-preserved-in_ok-push c =
    let some : 0 < c.loop-end.end = search rules in
    let slash : (slice_index c.args.path.now (c.loop-end.end - 1) == 47) ≡ true = search rules in
    let pushed : c.push.new.self.items ≡ c.loop-end.folders.items ++ take (c.loop-end.end - 1) c.args.path.now ∷ [] = search rules in
    record {
      found = with_folder c.push.new.self.items c.loop-end.folders.items _ c.loop-end.end c.args.path.now some slash pushed c.loop-end.invariant.found;
      end = let bound = c.loop-end.invariant.end in omega (arith, bound);
    }
