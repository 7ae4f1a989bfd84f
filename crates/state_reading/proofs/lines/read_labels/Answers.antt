use Rattle.state_reading.proofs.LineLaws.{labels_recalled}
use Rattle.state_reading.proofs.lines.read_labels.Goals as goal

pub returns : goal.returns
returns c = labels_recalled c.args.bytes.now _ _ c.from_vec.ensures c.in_ok-labels.ensures
