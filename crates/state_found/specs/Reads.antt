-- What is read of a stopped list.
use Rattle.std.specs.Prelude.{◌≡◌, Result, Ok, Err}
use Rattle.seq_base.specs.World.{World}
use Rattle.seq_outside.specs.declared.halt.Halt.{Halt}
use Rattle.seq_outside.specs.declared.halt.Halt.TheVariants.{Stops, Fault, Memory}
use Rattle.state_text.specs.Controls.{IsControl}
use Rattle.state_text.specs.declared.control.Control.{Control}
use Rattle.state_text.specs.declared.control.Left.{Left}
use Rattle.state_found.specs.declared.found.Found.{Found}
use Rattle.state_found.specs.declared.found.Found.TheVariants.{Nothing, Paused, Interrupted}
use Rattle.state_found.specs.declared.fault.StateFault.{StateFault}
use Rattle.state_found.specs.declared.fault.StateFault.TheVariants.{Bad}
use Rattle.state_found.specs.Found.{HasNoState, IsBad, IsInterrupted, IsPaused}

abbrev pub IsFound : World → Found → Type 0
IsFound w Nothing = HasNoState w
IsFound w (Paused k) = IsPaused w k
IsFound w (Interrupted verb) = IsInterrupted w verb

abbrev pub IsStateFault : World → StateFault → Type 0
IsStateFault w (Bad f) = IsBad w f

-- the answer is what the files are found to be
abbrev pub IsAnswer : World → Result Found StateFault → Type 0
IsAnswer w (Ok found) = IsFound w found
IsAnswer w (Err fault) = IsStateFault w fault

-- and they are found to be nothing else
pub record IsOnlyAnswer (w : World) (answer : Result Found StateFault) : Type 0 where
  pub is : IsAnswer w answer
  pub only : (other : Result Found StateFault) → IsAnswer w other → answer ≡ other

abbrev pub IsStateRead : World → Result Found (Halt StateFault) → Type 0
IsStateRead w (Ok found) = IsOnlyAnswer w (Ok found)
IsStateRead w (Err (Stops fault)) = IsOnlyAnswer w (Err fault)
IsStateRead w (Err Fault) = Unit {0}
IsStateRead w (Err Memory) = Unit {0}

-- files can tell the control, whatever is left of it
abbrev pub IsControlBut : Control → Type 0
IsControlBut k = (left : Left) × IsControl (record k { left = left })

abbrev pub HasControl : Found → Type 0
HasControl Nothing = Unit {0}
HasControl (Paused k) = IsControlBut k
HasControl (Interrupted verb) = Unit {0}

-- what was read is that control, unless the store failed or memory ran out
abbrev pub IsReadAs : Control → Result Found (Halt StateFault) → Type 0
IsReadAs k (Ok found) = found ≡ Paused k
IsReadAs k (Err (Stops fault)) = ⊥
IsReadAs k (Err Fault) = Unit {0}
IsReadAs k (Err Memory) = Unit {0}

-- a list is paused, and whoever reads its files reads that
pub record IsReadBack (w : World) (k : Control) : Type 0 where
  pub paused : IsPaused w k
  pub read : (result : Result Found (Halt StateFault)) → IsStateRead w result → IsReadAs k result
