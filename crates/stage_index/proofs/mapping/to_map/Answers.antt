use Rattle.std.proofs.Common.{arith, ◌<◌, ◌≡◌, length, subst}
use Rattle.std.specs.List.{AllByRecursion}
use Rattle.std.proofs.lemmas.Result.{err_from_is_err_and}
use Rattle.seq_outside.proofs.Firsts.{first_and_others}
use Rattle.seq_base.specs.declared.mode.Mode.TheVariants.{Folder}
use Rattle.stage_index.proofs.Joining.{all_joined, in_order_map, joined_at, refused_at}
use Rattle.stage_index.proofs.mapping.to_map.Goals as goal

pub loop-rest-preserved : goal.loop-rest-preserved
loop-rest-preserved c =
    let some : 0 < length c.loop-rest.rest.now = omega arith in
    record {
      so_far =
          joined_at c.loop-rest.map c.in_ok-map.map c.args.entries.now c.loop-rest.rest.now c.entry-item.result c.loop-rest.invariant.so_far some c.entry-item.is c.in_ok-map.ensures;
      files =
          (subst (AllByRecursion (λ e. e.mode ≡ Folder → ⊥)) (first_and_others c.loop-rest.rest.now c.entry-item.result some c.entry-item.is) c.loop-rest.invariant.files).1;
    }

pub with_entry-requires : goal.with_entry-requires
with_entry-requires c =
    let some : 0 < length c.loop-rest.rest.now = omega arith in
    (subst (AllByRecursion (λ e. e.mode ≡ Folder → ⊥)) (first_and_others c.loop-rest.rest.now c.entry-item.result some c.entry-item.is) c.loop-rest.invariant.files).0

pub returns-in_err-map-clause-gives : goal.returns-in_err-map-clause-gives
returns-in_err-map-clause-gives c =
    let some : 0 < length c.loop-rest.rest.now = omega arith in
    let p = err_from_is_err_and c.from_residual.result c.from_residual.ensures.1 in
    rw (p.1, p.2) (refused_at c.loop-rest.map c.args.entries.now c.loop-rest.rest.now c.entry-item.result c.in_err-map.field-0.0 c.loop-rest.invariant.so_far some c.entry-item.is c.in_err-map.ensures)

pub returns-clause-gives : goal.returns-clause-gives
returns-clause-gives c = all_joined c.loop-rest.map c.args.entries.now c.loop-rest.rest.now c.loop-rest.invariant.so_far (omega arith)

pub returns-clause-map : goal.returns-clause-map
returns-clause-map c order =
    in_order_map c.args.entries.now c.loop-rest.map order (all_joined c.loop-rest.map c.args.entries.now c.loop-rest.rest.now c.loop-rest.invariant.so_far (omega arith))
