use Rattle.std.proofs.Common.{◌≡◌, ◌++◌, ℕ, List, [], ◌∷◌, Bool, false, length, take, replicate, refl, ap, ◌∙◌, arith}
use Rattle.merge_base.specs.Graphs.{ParentsFirst}
use Rattle.merge_base.specs.Marks.{mark_each, mark_older}
use Rattle.merge_base.proofs.Reaching.{reached_marked}
use Rattle.merge_base.proofs.search.ancestors.Goals as goal

take_front : (xs ys : List Bool) (n : ℕ) → n ≡ length xs → take n (xs ++ ys) ≡ xs
take_front xs ys n e = rw e (front xs)
  where
    front : (xs : List Bool) → take (length xs) (xs ++ ys) ≡ xs
    front [] = refl
    front (x ∷ xs) = ap (λ (r : List Bool). x ∷ r) (front xs)

pub returns : goal.returns
returns c =
    let graph = c.args.graph.now in
    let first : ParentsFirst graph = c.mark_ancestors.ensures.graph in
    let is : c.mark_ancestors.new.marks ≡ mark_older graph (length graph) (mark_each graph c.args.ids.now (replicate (length graph) false)) = c.mark_ancestors.ensures.marks ∙ ap (mark_older graph (length graph)) (c.deref_mut.ensures.value ∙ c.in_ok-marks.ensures.marks) in
    let all = reached_marked graph c.args.ids.now first in
    let len : c.in_ok-marks.marks.len ≡ length c.mark_ancestors.new.marks = omega (arith, c.mark_ancestors.auto.marks, c.deref_mut.ensures.len) in
    rw (take_front c.mark_ancestors.new.marks _ c.in_ok-marks.marks.len len, is) all
