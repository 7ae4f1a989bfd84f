use Rattle.reading.proofs.Computed.{below_another, branch_moved, failed_words, keeps_lines, nothing_rewritten, pairs, reads_until, todo_is_bad}
use Rattle.reading.proofs.rows.small_list.Goals as goal

pub returns : goal.returns
returns g = record {
  reads_until = reads_until;
  keeps_lines = keeps_lines;
  failed_words = failed_words;
  todo_is_bad = todo_is_bad;
  pairs = pairs;
  nothing_rewritten = nothing_rewritten;
  branch_moved = branch_moved;
  below_another = below_another;
}
