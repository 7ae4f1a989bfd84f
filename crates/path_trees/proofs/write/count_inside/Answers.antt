use Rattle.std.proofs.Common.{◌≡◌, ◌-◌, ◌<◌, ◌≤◌, ◌==◌, false, true, List, ℕ, length, take, drop, sym, subst, arith, rules}
use Rattle.std.specs.List.{starts_with}
use Rattle.seq_base.specs.declared.map.Entry.{Entry}
use Rattle.path_trees.proofs.Cuts.{all_behind, counts, stops}
use Rattle.path_trees.proofs.write.count_inside.Goals as goal

pub returns-then-not-starts_with : goal.returns-then-not-starts_with
returns-then-not-starts_with c =
    let some : 0 < length c.loop-rest.rest.now = omega arith in
    let outside = subst (λ (p : List ℕ). false ≡ starts_with (λ a b. a == b) (take (length p - c.args.skip) (drop c.args.skip p)) c.args.folder.now) c.bytes.ensures.same c.if-not-starts_with.ensures.value in
    let none = stops c.args.folder.now c.args.skip c.loop-rest.rest.now c.row-item.result some c.row-item.is (sym outside) in
    omega (arith, c.loop-rest.invariant.total, none)

pub loop-rest-preserved : goal.loop-rest-preserved
loop-rest-preserved c =
    let some : 0 < length c.loop-rest.rest.now = omega arith in
    let inside = subst (λ (p : List ℕ). true ≡ starts_with (λ a b. a == b) (take (length p - c.args.skip) (drop c.args.skip p)) c.args.folder.now) c.bytes.ensures.same c.if-not-starts_with.ensures.value in
    let more = counts c.args.folder.now c.args.skip c.loop-rest.rest.now c.row-item.result some c.row-item.is (sym inside) in
    record {
      total = omega (arith, c.loop-rest.invariant.total, more);
      long =
          (all_behind c.args.folder.now c.args.skip c.loop-rest.rest.now c.row-item.result some c.row-item.is (λ (e : List ℕ × Entry). c.args.skip ≤ length e.0) c.loop-rest.invariant.long).1;
      room = search rules;
    }
