use Rattle.reading.proofs.Computed.{counts_lines, gives_up, is_denied, keeps_files, start_is_told}
use Rattle.reading.proofs.rows.small_files.Goals as goal

pub returns : goal.returns
returns g = record {
  keeps_files = keeps_files;
  counts_lines = counts_lines;
  start_is_told = start_is_told;
  gives_up = gives_up;
  is_denied = is_denied;
}
