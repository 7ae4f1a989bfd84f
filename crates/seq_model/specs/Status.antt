-- The exit status of an outcome.
use Rattle.std.specs.Prelude.{ℕ}
use Rattle.seq_model.specs.declared.outcome.Outcome.{Outcome}
use Rattle.seq_model.specs.declared.outcome.Outcome.TheVariants.{Done, Stopped, Usage, Refused, StoreFault, ChildFault, OutputFault, Limit, Memory}

abbrev pub status_of : Outcome → ℕ
status_of (Done head) = 0
status_of (Stopped kind paths) = 1
status_of (Usage fault) = 2
status_of (Refused refusal) = 3
status_of StoreFault = 5
status_of ChildFault = 6
status_of OutputFault = 7
status_of (Limit what number) = 8
status_of Memory = 9
