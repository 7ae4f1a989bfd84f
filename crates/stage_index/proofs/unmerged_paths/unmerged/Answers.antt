use Rattle.std.proofs.Common.{arith, ◌<◌, length}
use Rattle.stage_index.proofs.Listing.{all_listed, listed_at, listing_begins}
use Rattle.stage_index.proofs.unmerged_paths.unmerged.Goals as goal

pub loop-rest-init : goal.loop-rest-init
loop-rest-init c = listing_begins c.args.entries.now c.new-paths.result.items c.new-paths.ensures.items

pub loop-rest-preserved : goal.loop-rest-preserved
loop-rest-preserved c =
    let some : 0 < length c.loop-rest.rest.now = omega arith in
    listed_at c.args.entries.now c.loop-rest.rest.now c.loop-rest.paths.items c.list_too.new.paths.items c.entry-item.result c.loop-rest.invariant some c.entry-item.is c.in_ok-list_too.ensures

pub returns : goal.returns
returns c = all_listed c.args.entries.now c.loop-rest.rest.now c.loop-rest.paths.items c.loop-rest.invariant (omega arith)
