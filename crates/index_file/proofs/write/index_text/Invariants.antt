use Rattle.std.proofs.Common.{◌≡◌, ◌++◌, length, take}
use Rattle.std.specs.List.{AllByRecursion, flat_map}
use Rattle.index_file.specs.Spelling.{IsRow, header_text, entry_text, no_stat}
use Rattle.index_file.proofs.write.index_text.Given as goal

abbrev pub invariant-loop-entry : goal.invariant-loop-entry
invariant-loop-entry l = record {
  text : l.out.items ≡ header_text (length l.entries) ++ flat_map entry_text (take l.entry-index l.entries);
  rows : AllByRecursion (λ e. IsRow (no_stat, e)) (take l.entry-index l.entries);
}
