use Rattle.std.proofs.Common.{rules, ◌≡◌, ◌<◌, ℕ, List, Option, Some, None, length, sym, arith}
use Rattle.std.specs.Prelude.{IfSome}
use Rattle.merge_base.specs.declared.graph.Node.{Node}
use Rattle.merge_base.specs.Graphs.{place_from}
use Rattle.merge_base.proofs.Places.{placed}
use Rattle.merge_base.proofs.graph.Graph.place_of.Goals as goal

within : (graph : List Node) (id : List ℕ) (place : Option ℕ) → place ≡ place_from 0 graph id → IfSome place (λ place. place < length graph)
within graph id None e = tt
within graph id (Some place) e = let at = placed 0 graph id place (sym e) in omega (arith, at.is, at.within)

pub returns-clause-within : goal.returns-clause-within
returns-clause-within c =
    let is : c.copied.result ≡ place_from 0 c.args.self.now c.args.id.now = search rules in
    within c.args.self.now c.args.id.now c.copied.result is
