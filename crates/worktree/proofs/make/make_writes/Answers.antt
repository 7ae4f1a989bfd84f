use Rattle.std.proofs.Common.{rules, arith, ◌≡◌, ◌∷◌, [], length, List, refl, sym, ap, subst, ◌∙◌}
use Rattle.std.specs.List.{AllByRecursion}
use Rattle.std.specs.Vec.Iter.{into_iter_items}
use Rattle.std.proofs.lemmas.Result.{err_from_is_err_and}
use Rattle.seq_outside.specs.declared.write.Write.{Write}
use Rattle.seq_outside.specs.Writes.{HasStorePath}
use Rattle.worktree.proofs.Making.{LeftOver, all_made, front_stopped, none_left, one_left, one_stopped}
use Rattle.worktree.proofs.make.make_writes.Goals as goal

pub loop-write-preserved : goal.loop-write-preserved
loop-write-preserved g c =
    let at = c.loop-write in
    let steps : into_iter_items at.write-iterator ≡ c.in-Some.write ∷ into_iter_items c.next.new.self = c.in-Some.ensures.steps.0 in
    record {
      left = λ told.
          one_left _ _ _ _ _ c.in-Some.write (subst (LeftOver _ _ _) steps (at.invariant.left told)) (c.in_ok-make_write.ensures.turns told) (c.in_ok-make_write.ensures.leaves told) (c.in_ok-make_write.ensures.elsewhere told);
      paths = (subst (AllByRecursion HasStorePath) steps at.invariant.paths).1;
      length_is =
          let was = at.invariant.length_is in
          let gone = c.in-Some.ensures.steps.1 in
          let short = ap length steps in
          omega arith;
      cause = search rules;
    }

pub returns-in_err-make_write-clause-turns : goal.returns-in_err-make_write-clause-turns
returns-in_err-make_write-clause-turns g c told =
    let at = c.loop-write in
    let steps : into_iter_items at.write-iterator ≡ c.in-Some.write ∷ into_iter_items c.next.new.self = c.in-Some.ensures.steps.0 in
    let p = err_from_is_err_and c.from_residual.result c.from_residual.ensures.1 in
    rw (p.1, p.2) (one_stopped _ _ _ _ _ c.in-Some.write c.in_err-make_write.field-0.0 (subst (LeftOver _ _ _) steps (at.invariant.left told)) (c.in_err-make_write.ensures.turns told))

pub returns-in_err-make_write-clause-front : goal.returns-in_err-make_write-clause-front
returns-in_err-make_write-clause-front g c told =
    let at = c.loop-write in
    let steps : into_iter_items at.write-iterator ≡ c.in-Some.write ∷ into_iter_items c.next.new.self = c.in-Some.ensures.steps.0 in
    front_stopped _ _ _ _ _ c.in-Some.write c.in_err-make_write.field-0.0 (subst (LeftOver _ _ _) steps (at.invariant.left told)) (c.in_err-make_write.ensures.leaves told)

nothing_left : (ws : List Write) → length ws ≡ 0 → ws ≡ []
nothing_left [] h = refl
nothing_left (w ∷ ws) h = absurd (omega arith)

pub returns-clause-turns : goal.returns-clause-turns
returns-clause-turns g c told =
    let at = c.loop-write in
    let none = c.in-None.ensures.steps in
    let empty : into_iter_items at.write-iterator ≡ [] = nothing_left _ (sym at.invariant.length_is ∙ none.0) in
    none_left _ _ _ (subst (LeftOver _ _ _) empty (at.invariant.left told))

pub returns-clause-front : goal.returns-clause-front
returns-clause-front g c told =
    let at = c.loop-write in
    let none = c.in-None.ensures.steps in
    let empty : into_iter_items at.write-iterator ≡ [] = nothing_left _ (sym at.invariant.length_is ∙ none.0) in
    all_made _ _ _ (subst (LeftOver _ _ _) empty (at.invariant.left told))
