use Rattle.reading.proofs.Computed.{becomes_empty, breaks, conflicts, driver_breaks, exec_fails, exec_leaves_dirt, forwards, hook_runs, in_the_way}
use Rattle.reading.proofs.rows.small_lines.Goals as goal

pub returns : goal.returns
returns g = record {
  breaks = breaks;
  forwards = forwards;
  conflicts = conflicts;
  in_the_way = in_the_way;
  driver_breaks = driver_breaks;
  becomes_empty = becomes_empty;
  exec_fails = exec_fails;
  exec_leaves_dirt = exec_leaves_dirt;
  hook_runs = hook_runs;
}
