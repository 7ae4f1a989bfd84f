use Rattle.std.proofs.Common.{sym, subst, ◌∙◌}
use Rattle.merge_base.specs.Graphs.{IsPlain}
use Rattle.history.proofs.Subjects.{subject_plain}
use Rattle.history.proofs.loads.node_of.Goals as goal

pub returns-clause-subject : goal.returns-clause-subject
returns-clause-subject c = subst IsPlain (sym (c.from_vec-2.ensures ∙ c.in_ok-line.ensures)) (subject_plain c.as_slice.result.now)
