use Rattle.std.proofs.Common.{◌≡◌, ◌+◌, Bool, List, Some, ap, count_by, not, sym, ◌∙◌}
use Rattle.history.specs.Walks.{first_unmarked}
use Rattle.history.proofs.Ranging.{fewer}
use Rattle.history.proofs.ranges.enter.Goals as goal

pub returns-clause-fewer : goal.returns-clause-fewer
returns-clause-fewer c =
    let graph = c.args.graph.now in
    let marks = c.args.marks.now.items in
    let found : first_unmarked graph marks c.args.ids.now ≡ Some c.in_ok-found.found = ap (λ (ms : List Bool). first_unmarked graph ms c.args.ids.now) (sym c.deref.ensures.value) ∙ sym c.in_ok-found.ensures in
    ap (λ (ms : List Bool). count_by not ms + 1) c.note.ensures ∙ fewer graph marks c.args.ids.now c.in_ok-found.found c.requires found
