use Rattle.std.proofs.Common.{◌≡◌, ◌++◌, reverse, vec_len}
use Rattle.std.specs.List.{filter_map}
use Rattle.content_merge.specs.Merging.{map_row, row_text}
use Rattle.content_merge.proofs.merged.clean.Given as goal

abbrev pub invariant-rows : goal.invariant-rows
invariant-rows l = record {
  entries : l.entries.items ++ filter_map map_row (reverse l.left.items) ≡ filter_map map_row l.fn.rows.items;
  texts : l.texts.items ++ filter_map row_text (reverse l.left.items) ≡ filter_map row_text l.fn.rows.items;
}

abbrev pub decreases-rows : goal.decreases-rows
decreases-rows l = vec_len l.left
