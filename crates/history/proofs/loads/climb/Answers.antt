use Rattle.std.proofs.Common.{rules, ◌≡◌, ◌+◌, List, Some, None, ap, arith, length, length-append, reverse, subst, sym, ◌∙◌}
use Rattle.std.proofs.lemmas.Result.{err_from_is_err_and}
use Rattle.merge_base.specs.declared.graph.Node.{Node}
use Rattle.merge_base.specs.Graphs.{HasPlainSubjects, first_missing, limit}
use Rattle.history.specs.Waiting.{waited}
use Rattle.history.proofs.Climbing.{climb_denies, climb_ends, climb_is_bad, climb_joins, climb_waits, none_popped}
use Rattle.history.proofs.Subjects.{front_plain, last_plain, more_plain, pushed_plain}
use Rattle.history.proofs.loads.climb.Goals as goal

pub returns-in_err-parent-in-Some-missing-clause-gives : goal.returns-in_err-parent-in-Some-missing-clause-gives
returns-in_err-parent-in-Some-missing-clause-gives g c told =
    let w = (g.S.Store.seen c.args.store.now).content in
    let rest = c.pop.new.self.items in
    let p = err_from_is_err_and c.from_residual.result c.from_residual.ensures.1 in
    let first : first_missing c.waiting.graph c.in-Some.node.parents ≡ Some c.in-Some-missing.id = ap (first_missing c.waiting.graph) (sym c.as_slice.ensures) ∙ sym c.in-Some-missing.ensures in
    let fits : c.room_beside-room.result + length rest + 1 ≡ limit = ap (λ (xs : List Node). c.room_beside-room.result + length xs + 1) (sym c.deref.ensures.value) ∙ c.room_beside-room.ensures in
    rw (p.1, p.2) (climb_denies w (g.S.Store.seen c.waiting.store).content c.waiting.graph rest c.waiting.waiting.items c.in-Some.node c.in-Some-missing.id c.room_beside-room.result c.in_err-parent-in-Some-missing.field-0.0
    (waited w c.args.graph.now (reverse c.args.waiting.items)) (c.waiting.invariant.same told) c.in-Some.ensures.items fits first (c.waiting.invariant.left told) (c.in_err-parent-in-Some-missing.ensures.gives told))

pub waiting-preserved-in-Continue-branch-3 : goal.waiting-preserved-in-Continue-branch-3
waiting-preserved-in-Continue-branch-3 g c =
    let w = (g.S.Store.seen c.args.store.now).content in
    let rest = c.pop.new.self.items in
    let parent = c.in_ok-parent-in-Some-missing.parent in
    let first : first_missing c.waiting.graph c.in-Some.node.parents ≡ Some c.in-Some-missing.id = ap (first_missing c.waiting.graph) (sym c.as_slice.ensures) ∙ sym c.in-Some-missing.ensures in
    let fits : c.room_beside-room.result + length rest + 1 ≡ limit = ap (λ (xs : List Node). c.room_beside-room.result + length xs + 1) (sym c.deref.ensures.value) ∙ c.room_beside-room.ensures in
    record {
      left =
          λ told. climb_waits w (g.S.Store.seen c.waiting.store).content c.waiting.graph rest c.waiting.waiting.items c.push.new.self.items c.push-in-Some-missing.new.self.items c.in-Some.node parent c.in-Some-missing.id
          c.room_beside-room.result (waited w c.args.graph.now (reverse c.args.waiting.items)) (c.waiting.invariant.same told) c.in-Some.ensures.items c.in_ok-push-in-Some-missing.ensures.items c.in_ok-push-in-Some-missing-2.ensures.items fits
          c.in_ok-parent-in-Some-missing.ensures.room first c.in_ok-parent-in-Some-missing.ensures.id (c.in_ok-parent-in-Some-missing.ensures.gives told) (c.waiting.invariant.left told);
      subjects = λ a b.
          let h = c.waiting.invariant.subjects a b in (
            h.0,
            pushed_plain c.waiting.waiting.items c.push.new.self.items c.push-in-Some-missing.new.self.items parent (c.in_ok-push-in-Some-missing.ensures.items ∙ sym c.in-Some.ensures.items) c.in_ok-push-in-Some-missing-2.ensures.items h.1
                c.in_ok-parent-in-Some-missing.ensures.subject,
          );
      small =
          omega (arith, c.in_ok-parent-in-Some-missing.ensures.room, fits, c.pop.new.self.ok.0, c.in-Some.ensures.cases, c.in_ok-push-in-Some-missing.ensures.len, c.in_ok-push-in-Some-missing-2.ensures.len);
      same = λ told. c.in_ok-parent-in-Some-missing.ensures.reads.0 told ∙ c.waiting.invariant.same told;
      cause = search rules;
    }

pub waiting-preserved : goal.waiting-preserved
waiting-preserved g c =
    let w = (g.S.Store.seen c.args.store.now).content in
    let rest = c.pop.new.self.items in
    let none : first_missing c.waiting.graph c.in-Some.node.parents ≡ None = ap (first_missing c.waiting.graph) (sym c.as_slice.ensures) ∙ sym c.in-None.ensures in
    let grown = ap length c.in_ok-join-in-None.ensures.grown ∙ length-append c.waiting.graph _ in
    record {
      left =
          λ told. climb_joins w c.waiting.graph rest c.waiting.waiting.items c.in-Some.node c.join.new.graph (waited w c.args.graph.now (reverse c.args.waiting.items)) c.in-Some.ensures.items none c.in_ok-join-in-None.ensures.gives
          (c.waiting.invariant.left told);
      subjects = λ a b.
          let h = c.waiting.invariant.subjects a b in
          let all = subst HasPlainSubjects c.in-Some.ensures.items h.1 in
          (subst HasPlainSubjects (sym c.in_ok-join-in-None.ensures.grown) (more_plain c.waiting.graph c.in-Some.node h.0 (last_plain rest c.in-Some.node all)), front_plain rest c.in-Some.node all);
      small = omega (arith, grown, c.in-Some.ensures.cases);
      same = c.waiting.invariant.same;
      cause = c.waiting.invariant.cause;
    }

pub returns-in_err-join-in-None-clause-gives : goal.returns-in_err-join-in-None-clause-gives
returns-in_err-join-in-None-clause-gives g c told =
    let w = (g.S.Store.seen c.args.store.now).content in
    let p = err_from_is_err_and c.from_residual-in_err-join-in-None.result c.from_residual-in_err-join-in-None.ensures.1 in
    let none : first_missing c.waiting.graph c.in-Some.node.parents ≡ None = ap (first_missing c.waiting.graph) (sym c.as_slice.ensures) ∙ sym c.in-None.ensures in
    rw (p.1, p.2) (climb_is_bad w c.waiting.graph c.pop.new.self.items c.waiting.waiting.items c.in-Some.node c.in_err-join-in-None.field-0.0 (waited w c.args.graph.now (reverse c.args.waiting.items)) c.in-Some.ensures.items none
    (c.waiting.invariant.left told) c.in_err-join-in-None.ensures.gives)

pub returns-clause-gives : goal.returns-clause-gives
returns-clause-gives g c told =
    let w = (g.S.Store.seen c.args.store.now).content in
    let none = none_popped c.pop.result _ _ c.waiting.waiting.items c.pop.new.self.items c.in_default.not-Some c.pop.ensures.cases c.pop.ensures.items c.pop.ensures.rest in
    climb_ends w c.waiting.graph c.waiting.waiting.items (waited w c.args.graph.now (reverse c.args.waiting.items)) none (c.waiting.invariant.left told)
