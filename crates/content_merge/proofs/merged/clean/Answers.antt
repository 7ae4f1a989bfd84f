use Rattle.content_merge.specs.Merging.{map_row, row_text}
use Rattle.content_merge.proofs.Ends.{more_mapped}
use Rattle.content_merge.proofs.merged.clean.Goals as goal

pub rows-preserved : goal.rows-preserved
rows-preserved c = record {
  entries = more_mapped _ _ _ _ _ _ c.in-Some.ensures.items map_row c.in_ok-push_entry.ensures c.rows.invariant.entries;
  texts = more_mapped _ _ _ _ _ _ c.in-Some.ensures.items row_text c.in_ok-push_text.ensures c.rows.invariant.texts;
}
