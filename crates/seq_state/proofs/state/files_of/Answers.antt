use Rattle.std.proofs.Common.{List, ◌++◌, Ok, ap, ◌∙◌}
use Rattle.reading.specs.State.{chain_files}
use Rattle.seq_base.specs.Words.{Path, Text}
use Rattle.seq_state.proofs.Placing.{all_paths}
use Rattle.seq_state.proofs.state.files_of.Goals as goal

pub returns-in_ok-push_chain_files-in-Ok-clause-paths : goal.returns-in_ok-push_chain_files-in-Ok-clause-paths
returns-in_ok-push_chain_files-in-Ok-clause-paths g c =
    all_paths _ c.args.control.now (Ok c.deref.result.now)
    (c.in_ok-push_chain_files-in-Ok.ensures ∙ ap (λ (files : List (Path × Text)). files ++ chain_files (Ok c.deref.result.now)) c.in_ok-files.ensures)
