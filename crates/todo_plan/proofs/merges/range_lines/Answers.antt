use Rattle.std.proofs.Common.{◌+◌, ◌++◌, ◌∷◌, ℕ, Bool, true, false, ◌≤◌, drop, sym, ap, subst, ◌∙◌, arith}
use Rattle.std.specs.BTreeMap.{get}
use Rattle.std.specs.Cmp.Lexicographic.{slice_cmp}
use Rattle.std.specs.Ordering.{nat_cmp}
use Rattle.std.proofs.lemmas.List.{at_drop_more}
use Rattle.todo_plan.specs.Merges.{Numbers, counted, range_lines}
use Rattle.todo_plan.proofs.MergeLaws.{one_commit}
use Rattle.todo_plan.proofs.merges.range_lines.Goals as goal

counts : (wanted : Bool) (count place : ℕ) → count ≤ place → counted wanted count ≤ place + 1
counts true count place h = omega arith
counts false count place h = omega arith

pub loop-id-preserved : goal.loop-id-preserved
loop-id-preserved c =
    let graph = c.args.graph.now in
    let numbers : Numbers = λ other. get (slice_cmp nat_cmp) c.loop-id.numbers other in
    let left = drop (c.loop-id.id-index + 1) c.args.range.now in
    record {
      counts =
          subst (λ (n : ℕ). n ≤ c.loop-id.id-index + 1) (sym c.counted-count.ensures) (counts c.contains-is_wanted.result c.loop-id.count c.loop-id.id-index c.loop-id.invariant.counts);
      lines_are =
          one_commit graph c.args.base c.args.ids.now numbers (λ other. get (slice_cmp nat_cmp) c.note_number.new.numbers other) c.loop-id.count c.counted-count.result c.loop-id.place c.id-item.result left c.contains-is_wanted.result
          c.loop-id.lines.items c.push_commit.new.lines.items c.push_label.new.lines.items
          (c.contains-is_wanted.ensures ∙ c.requires c.id-item.result) c.in_ok-push_commit.ensures c.in_ok-push_label.ensures c.in_ok-note_number.ensures c.counted-count.ensures
          ∙ ap (λ id. c.loop-id.lines.items ++ range_lines graph c.args.base c.args.ids.now numbers c.loop-id.count c.loop-id.place (id ∷ left)) c.id-item.is
          ∙ sym (at_drop_more (λ ids. c.loop-id.lines.items ++ range_lines graph c.args.base c.args.ids.now numbers c.loop-id.count c.loop-id.place ids) c.args.range.now c.loop-id.id-index c.id-item.result c.loop-id-test.true)
          ∙ c.loop-id.invariant.lines_are;
    }
