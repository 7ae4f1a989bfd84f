use Rattle.std.proofs.Common.{◌++◌, List, ap, ◌∙◌}
use Rattle.reading.specs.declared.end_ref.EndRef.{EndRef}
use Rattle.seq_lines.proofs.end_refs.push_branch.Goals as goal

pub returns-in_ok-push-in-Some-clause-is : goal.returns-in_ok-push-in-Some-clause-is
returns-in_ok-push-in-Some-clause-is c =
    c.in_ok-push-in-Some.ensures.items
    ∙ rw c.in-Some.is (ap (λ (last : List EndRef). c.args.refs.now.items ++ last) c.in_ok-branch-in-Some.ensures.is)
