-- HEAD goes back behind the branch.
use Rattle.std.proofs.Common.{◌≡◌, Option, Ok, ap}
use Rattle.line_steps.specs.declared.setting.Setting.{Setting}
use Rattle.reading.specs.Aborting.{branch_back, head_back, refs_back}
use Rattle.reading.specs.declared.before.Before.{Before}
use Rattle.seq_base.specs.Words.{Id, Name}
use Rattle.seq_base.specs.World.{World}
use Rattle.seq_model.specs.declared.reason.Reason.{Reason}
use Rattle.seq_outside.specs.Turns.{go_on}
use Rattle.std.specs.Prelude.{Result}

pub head_behind_branch : (setting : Setting) (name : Option Name) (orig : Id) (found : Before) (w new : World)
    → branch_back setting name orig found w ≡ (Ok tt, new) → refs_back setting name orig found w ≡ head_back setting name orig found new
unfolding refs_back
head_behind_branch setting name orig found w new is =
    ap (λ (done : Result (Unit {0}) Reason × World). go_on done (λ _. head_back setting name orig found)) is
