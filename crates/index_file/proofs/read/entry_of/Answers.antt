use Rattle.index_file.proofs.Rows.{whole_takes}
use Rattle.index_file.proofs.read.entry_of.Goals as goal

pub entry_in_text-requires : goal.entry_in_text-requires
entry_in_text-requires c = (whole_takes _ _ _ c.in_ok-text.ensures).whole
