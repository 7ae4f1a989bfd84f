-- What is denied at a first step is denied, whatever comes next.
use Rattle.std.proofs.Common.{ap}
use Rattle.std.specs.Prelude.{Result}
use Rattle.seq_outside.specs.Halts.{◌>>=◌, Denies}
use Rattle.seq_outside.specs.declared.halt.Halt.{Halt}
use Rattle.seq_outside.specs.declared.halt.Halt.TheVariants.{Stops, Fault, Memory}

pub denied_first : {E X Y : Type 0} (halt : Halt E) (means : Result X E) (next : X → Result Y E) → Denies halt means → Denies halt (means >>= next)
denied_first (Stops why) means next is = ap (λ m. m >>= next) is
denied_first Fault means next is = tt
denied_first Memory means next is = tt
