use Rattle.std.proofs.Common.{◌≡◌, Result, Ok, Err, IfOk, length, IsPermutation, IsSorted, nat_cmp, ◌∙◌}
use Rattle.std.specs.Cmp.Lexicographic.{slice_cmp}
use Rattle.merge_base.specs.Bases.{AreBases}
use Rattle.merge_base.specs.Marks.{left_of_both, parents_of_both}
use Rattle.merge_base.proofs.Ordered.{bases_are}
use Rattle.merge_base.proofs.search.bases.Goals as goal

from_both : {T E : Type 0} (r : Result T E) (P Q R : T → Type 0) → IfOk r P → IfOk r Q → ((x : T) → P x → Q x → R x) → IfOk r R
from_both (Ok x) P Q R p q f = f x p q
from_both (Err e) P Q R p q f = tt

pub returns : goal.returns
returns c =
    let graph = c.args.graph.now in
    let of_a = c.in_ok-of_a.of_a.items in
    let of_b = c.in_ok-of_b.of_b.items in
    let found = c.in_ok-best.field-0.items in
    let above : c.deref-5.result.now ≡ parents_of_both graph of_a of_b (length graph) = c.deref-5.ensures.value ∙ c.in_ok-above.ensures.marks ∙ (λ i. parents_of_both graph (c.deref.ensures.value i) (c.deref-2.ensures.value i) (length graph)) in
    let left : found ≡ left_of_both graph of_a of_b (parents_of_both graph of_a of_b (length graph)) (length graph) = c.in_ok-best.ensures ∙ (λ i. left_of_both graph (c.deref-3.ensures.value i) (c.deref-4.ensures.value i) (above i) (length graph)) in
    from_both c.in_order.result (λ ids. IsPermutation found ids.items) (λ ids. IsSorted (slice_cmp nat_cmp) ids.items) (λ ids. AreBases graph c.args.a c.args.b ids.items) c.in_order.ensures.moved c.in_order.ensures.order
    (λ ids moved sorted. bases_are graph c.args.a c.args.b of_a of_b (record { first = c.in_ok-above.ensures.graph; has_a = c.requires.a; marks_a = c.in_ok-of_a.ensures; marks_b = c.in_ok-of_b.ensures }) found ids.items left moved sorted)
