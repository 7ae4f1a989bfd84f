use Rattle.std.proofs.Common.{◌≡◌, ◌++◌, reverse, vec_len}
use Rattle.std.specs.List.{filter_map, flat_map}
use Rattle.content_merge.specs.Merging.{file_row, row_text, staged_row}
use Rattle.content_merge.proofs.merged.conflict.Given as goal

abbrev pub invariant-rows : goal.invariant-rows
invariant-rows l = record {
  index : l.index.items ++ flat_map staged_row (reverse l.left.items) ≡ flat_map staged_row l.fn.rows.items;
  files : l.files.items ++ filter_map file_row (reverse l.left.items) ≡ filter_map file_row l.fn.rows.items;
  texts : l.texts.items ++ filter_map row_text (reverse l.left.items) ≡ filter_map row_text l.fn.rows.items;
}

abbrev pub decreases-rows : goal.decreases-rows
decreases-rows l = vec_len l.left
