use Rattle.std.proofs.Common.{◌≡◌, ◌-◌, [], length}
use Rattle.index_file.specs.Fronts.{HoldsFronts}
use Rattle.index_file.specs.Reading.{entries_at}
use Rattle.index_file.proofs.read.entries_of.Given as goal

abbrev pub invariant-loop-i : goal.invariant-loop-i
invariant-loop-i l = record {
  rest : entries_at (l.count - l.i) l.entries.items l.rest ≡ entries_at l.count [] l.bytes;
  number : length l.entries.items ≡ l.i;
  fronts : HoldsFronts l.entries.items l.files.items;
}
