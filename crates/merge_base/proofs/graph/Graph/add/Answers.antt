use Rattle.std.proofs.Common.{rules, ◌≡◌, ◌∷◌, ◌++◌, ◌<◌, List, [], Bool, true, false, cond, length, None, Result, Ok, Err, sym, ap, ◌∙◌}
use Rattle.std.specs.Prelude.{OnOk, is_ok}
use Rattle.merge_base.specs.declared.graph.Node.{Node}
use Rattle.merge_base.specs.Graphs.{first_missing, has, limit}
use Rattle.merge_base.proofs.Growing.{graph_more}
use Rattle.merge_base.proofs.graph.Graph.add.Goals as goal

on_ok : {T E : Type 0} (r : Result T E) (P : Type 0) → OnOk r P → is_ok r ≡ true → P
on_ok (Ok x) P h e = h
on_ok (Err x) P h e = absurd cc

pub invariant_of-self-else-is_err-2 : goal.invariant_of-self-else-is_err-2
invariant_of-self-else-is_err-2 c =
    let nodes = c.self.inside.nodes.items in
    let node = c.args.node in
    let items : c.push.new.self.items ≡ nodes ++ node ∷ [] = c.push.ensures.items ∙ ap (λ (b : Bool). cond b (nodes ++ node ∷ []) nodes) c.if-is_err.ensures.negation in
    let new : has nodes node.id ≡ false = ap (λ (g : List Node). has g node.id) c.self.view_is ∙ sym c.has.ensures ∙ c.if-has.false in
    let there : first_missing nodes node.parents ≡ None = ap (λ (g : List Node). first_missing g node.parents) c.self.view_is ∙ ap (first_missing c.args.self.now) (sym c.as_slice.ensures) ∙ sym c.missing.ensures ∙ c.in_default.is in
    let room : length nodes < limit = search rules in
    let is : c.len-place.result ≡ length nodes = search rules in
    let puts = on_ok c.insert.result _ c.insert.ensures.updates c.if-is_err-2.ensures.negation in
    rw items (graph_more nodes node c.self.inside.places c.insert.new.self c.len-place.result c.self.invariant new there room is puts.0)
