use Rattle.content_merge.specs.Merging.{file_row, row_text, staged_row}
use Rattle.content_merge.proofs.Ends.{more_flat, more_mapped}
use Rattle.content_merge.proofs.merged.conflict.Goals as goal

pub rows-preserved : goal.rows-preserved
rows-preserved c = record {
  index = more_flat _ _ _ _ _ _ c.in-Some.ensures.items staged_row c.in_ok-push_staged.ensures c.rows.invariant.index;
  files = more_mapped _ _ _ _ _ _ c.in-Some.ensures.items file_row c.in_ok-push_left.ensures.files c.rows.invariant.files;
  texts = more_mapped _ _ _ _ _ _ c.in-Some.ensures.items row_text c.in_ok-push_left.ensures.texts c.rows.invariant.texts;
}
