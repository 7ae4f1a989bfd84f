use Rattle.std.proofs.Common.{◌≡◌, ◌||◌, ◌&&◌, not, get_or, ◌∙◌}
use Rattle.tree_merge.specs.Plans.{is_present, marked}
use Rattle.tree_merge.proofs.Marking.{mapped_more, untouched}
use Rattle.tree_merge.proofs.clash.mark_rows.Goals as goal

pub loop-i-preserved : goal.loop-i-preserved
loop-i-preserved c =
    let all = c.args.rows.now in
    let row = c.index-rows-i.result in
    let i = c.loop-i.i in
    let is : get_or c.loop-i.rows i row ≡ get_or all i row = untouched (marked all) all c.loop-i.rows i row c.loop-i.invariant c.loop-i-test.true in
    let upper = c.requires.upper i row c.loop-i-test.true in
    let lower = c.requires.lower i row c.loop-i-test.true in
    let made : c.mark_row.new.row ≡ marked all (get_or all i row) = c.mark_row.ensures ∙ (λ j. record (is j) { clash = upper j || lower j; written = is_present (is j).choice && not (upper j) }) in
    mapped_more (marked all) all c.loop-i.rows i c.mark_row.new.row row c.loop-i.invariant c.loop-i-test.true made
