use Rattle.std.proofs.Common.{ap, sym, ◌∙◌}
use Rattle.content_merge.specs.Causes.{is_unrun}
use Rattle.content_merge.proofs.Indexes.{unrun_none}
use Rattle.content_merge.proofs.merging.merge_rows.Goals as goal

pub returns-clause-unrun : goal.returns-clause-unrun
returns-clause-unrun g c =
    λ e. c.in_ok-ends.ensures.unrun (unrun_none c.args.rows.now c.args.drivers.now c.in_ok-ends.ends (sym (ap is_unrun c.in_ok-merged_with.ensures.merged) ∙ e))
