use Rattle.std.specs.BTreeMap.{get}
use Rattle.std.specs.Cmp.Lexicographic.{slice_cmp}
use Rattle.std.specs.Ordering.{nat_cmp}
use Rattle.todo_plan.proofs.MergeLaws.{put_number}
use Rattle.todo_plan.proofs.merges.note_number.Goals as goal

pub returns : goal.returns
returns c =
    λ other. put_number c.args.id c.args.number c.args.wanted (get (slice_cmp nat_cmp) c.args.numbers.now other) (get (slice_cmp nat_cmp) c.insert.new.self other) other c.if-not-wanted.false (c.in_ok-insert.ensures.updates.0 other)
