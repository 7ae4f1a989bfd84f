use Rattle.std.proofs.Common.{arith}
use Rattle.ref_store.proofs.Listing.{all_were_kept}
use Rattle.ref_store.proofs.folder.names_of.Goals as goal

pub returns-clause-are_names : goal.returns-clause-are_names
returns-clause-are_names c = all_were_kept _ c.loop-rest.rest.now c.args.paths.now (omega (arith, c.in_default.len_below)) c.loop-rest.invariant
