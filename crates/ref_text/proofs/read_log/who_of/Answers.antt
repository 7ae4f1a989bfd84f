use Rattle.ref_text.proofs.LogLoops.{ident_within}
use Rattle.ref_text.proofs.read_log.who_of.Goals as goal

pub slice_bounds-ident-count : goal.slice_bounds-ident-count
slice_bounds-ident-count c = ident_within c.args.bytes.now _ c.in_ok-rest.rest.now c.in_ok-rest.ensures
