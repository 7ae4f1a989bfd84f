use Rattle.std.proofs.Common.{sym, subst, Result}
use Rattle.seq_base.specs.World.{World}
use Rattle.seq_model.specs.declared.reason.Reason.{Reason}
use Rattle.seq_outside.specs.Turns.{Turns}
use Rattle.seq_abort.proofs.Backs.{head_behind_branch}
use Rattle.seq_abort.proofs.abort.put_refs_back.Goals as goal

pub returns-clause-turns : goal.returns-clause-turns
returns-clause-turns g c = λ told.
    subst (λ (means : Result (Unit {0}) Reason × World). Turns (λ x. x) c.put_head_back.result means (g.S.Store.seen c.put_head_back.new.store).content)
    (sym (head_behind_branch c.args.setting.now c.args.name.now c.args.orig c.args.found.now _ _ (c.in_ok-put_branch_back.ensures.turns told)))
    (c.put_head_back.ensures.turns told)
