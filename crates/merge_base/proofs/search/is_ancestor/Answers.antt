use Rattle.std.proofs.Common.{◌≡◌, ◌<◌, false, is_some, length, sym, ap, subst, ◌∙◌, arith}
use Rattle.std.proofs.lemmas.List.{get_or_default}
use Rattle.merge_base.specs.Bases.{Ancestors}
use Rattle.merge_base.specs.Graphs.{place_from}
use Rattle.merge_base.specs.Marks.{is_marked}
use Rattle.merge_base.proofs.Places.{place_has}
use Rattle.merge_base.proofs.Marking.{id_placed}
use Rattle.merge_base.proofs.search.is_ancestor.Goals as goal

pub unreachable-requires : goal.unreachable-requires
unreachable-requires c =
    let there = place_has 0 c.args.graph.now c.args.a in
    let has_a = c.requires.a in
    let none : is_some (place_from 0 c.args.graph.now c.args.a) ≡ false = ap is_some (sym c.in-None.ensures.place) in
    cc

pub returns : goal.returns
returns c =
    let graph = c.args.graph.now in
    let at = id_placed graph c.args.a c.in-Some.place (sym c.in-Some.ensures.place) in
    let in' : c.in-Some.place < length c.in_ok-marks.marks.items = omega (arith, at.0, c.in_ok-marks.ensures.length_is) in
    let mark_is : c.index.result.now ≡ is_marked c.in_ok-marks.marks.items c.in-Some.place = c.index.ensures ∙ get_or_default c.in_ok-marks.marks.items c.in-Some.place c.index.result.now false in' in
    let each = c.in_ok-marks.ensures.each c.in-Some.place at.0 in
    (λ m. subst (Ancestors graph c.args.b) at.1 (each.0 (sym mark_is ∙ m)), λ a. mark_is ∙ each.1 (subst (Ancestors graph c.args.b) (sym at.1) a))
