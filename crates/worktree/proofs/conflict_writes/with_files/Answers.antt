use Rattle.std.proofs.Common.{rules, arith, ◌<◌, length, subst, ◌∙◌, Ok, ◌≡◌}
use Rattle.std.proofs.lemmas.Result.{err_from_is_err_and}
use Rattle.seq_base.specs.World.{World}
use Rattle.seq_outside.specs.Halts.{Denies}
use Rattle.worktree.specs.Conflicts.{with_file}
use Rattle.worktree.proofs.Conflicting.{all_written_too, one_written_more, writing_denied}
use Rattle.worktree.proofs.conflict_writes.with_files.Goals as goal

pub returns-in_err-writes-clause-gives : goal.returns-in_err-writes-clause-gives
returns-in_err-writes-clause-gives g c told =
    let some : 0 < length c.loop-rest.rest.now = omega arith in
    let e = c.in_err-writes.field-0.0 in
    let p = err_from_is_err_and c.from_residual.result c.from_residual.ensures.1 in
    let denied = subst (λ (v : World). Denies e (with_file v c.args.from.now c.loop-rest.writes.items c.file-item.result)) (c.loop-rest.invariant.same told) (c.in_err-writes.ensures.gives told) in
    rw (p.1, p.2) (writing_denied _ c.args.from.now c.args.begun.items c.loop-rest.writes.items c.args.files.now c.loop-rest.rest.now c.file-item.result e (c.loop-rest.invariant.made told) some c.file-item.is denied)

pub loop-rest-preserved : goal.loop-rest-preserved
loop-rest-preserved g c =
    let some : 0 < length c.loop-rest.rest.now = omega arith in
    record {
      made = λ told.
          let is = subst (λ (v : World). with_file v c.args.from.now c.loop-rest.writes.items c.file-item.result ≡ Ok c.in_ok-writes.writes.items) (c.loop-rest.invariant.same told) (c.in_ok-writes.ensures.gives told) in
          one_written_more _ c.args.from.now c.args.begun.items c.loop-rest.writes.items c.in_ok-writes.writes.items c.args.files.now c.loop-rest.rest.now c.file-item.result (c.loop-rest.invariant.made told) some c.file-item.is is;
      own = c.in_ok-writes.ensures.own;
      same = λ told. c.in_ok-writes.ensures.reads.0 told ∙ c.loop-rest.invariant.same told;
      cause = search rules;
    }

pub returns-clause-gives : goal.returns-clause-gives
returns-clause-gives g c told =
    all_written_too _ c.args.from.now c.args.begun.items c.loop-rest.writes.items c.args.files.now c.loop-rest.rest.now (c.loop-rest.invariant.made told) (omega arith)
