use Rattle.std.proofs.Common.{rules, ◌≡◌, ℕ, ◌<◌, List, Some, is_some, length, get_or, sym, ap, ◌∙◌, arith}
use Rattle.merge_base.specs.declared.graph.Node.{Node}
use Rattle.merge_base.proofs.Places.{place_has, placed, unplaced}
use Rattle.merge_base.proofs.graph.Graph.node.Goals as goal

pub bounds-nodes-place : goal.bounds-nodes-place
bounds-nodes-place c =
    let at = placed 0 c.args.self.now c.args.id c.in-Some.place (sym c.in-Some.ensures.place) in
    omega (arith, at.is, at.within, ap length c.nodes-nodes.ensures.same)

pub returns-in-Some-clause-found : goal.returns-in-Some-clause-found
returns-in-Some-clause-found c =
    let node = c.index-nodes-place.result in
    let at = placed 0 c.args.self.now c.args.id c.in-Some.place (sym c.in-Some.ensures.place) in
    let place : c.in-Some.place ≡ at.at = omega (arith, at.is) in
    let is : node ≡ get_or c.args.self.now at.at node = c.index-nodes-place.is ∙ ap (λ (graph : List Node). get_or graph c.in-Some.place node) c.nodes-nodes.ensures.same ∙ ap (λ (k : ℕ). get_or c.args.self.now k node) place in
    ap Some is ∙ sym (at.found node)

pub returns-in-None-clause-found : goal.returns-in-None-clause-found
returns-in-None-clause-found c = sym (unplaced 0 c.args.self.now c.args.id (sym c.in-None.ensures.place))

pub offset_bounds-nodes-place : goal.offset_bounds-nodes-place
offset_bounds-nodes-place c =
    let at = placed 0 c.args.self.now c.args.id c.in-Some.place (sym c.in-Some.ensures.place) in
    let within : c.in-Some.place < length c.nodes-nodes.result.now = omega (arith, at.is, at.within, ap length c.nodes-nodes.ensures.same) in
    search rules

pub returns-in-Some-clause-has : goal.returns-in-Some-clause-has
returns-in-Some-clause-has c = ap is_some c.in-Some.ensures.place ∙ place_has 0 c.args.self.now c.args.id

pub returns-in-None-clause-has : goal.returns-in-None-clause-has
returns-in-None-clause-has c = ap is_some c.in-None.ensures.place ∙ place_has 0 c.args.self.now c.args.id
