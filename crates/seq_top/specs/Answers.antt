-- What an invocation answers, by its words and by what the store holds.
use Rattle.std.specs.Prelude.{◌≡◌, ◌⊎◌, ℕ, ℤ, Bool, true, false, ◌&&◌, if◌then◌else◌, ◌++◌, take, List, Result, Ok, Err}
use Rattle.seq_base.specs.Words.{Text}
use Rattle.seq_top.specs.Built.{commits, meant, tells_itself}
use Rattle.seq_model.specs.Changes.{KeepsRepository}
use Rattle.seq_model.specs.Commands.{command_of}
use Rattle.seq_model.specs.Judged.{Does}
use Rattle.seq_model.specs.Report.{report_of}
use Rattle.seq_model.specs.declared.command.Command.{Command}
use Rattle.seq_model.specs.declared.outcome.Outcome.{Outcome}
use Rattle.seq_model.specs.declared.outcome.Outcome.TheVariants.{Done, Stopped, Usage, Refused, StoreFault, ChildFault, OutputFault, Limit, Memory}
use Rattle.seq_model.specs.declared.usage.UsageFault.{UsageFault}
use Rattle.seq_outside.specs.Causes.{Rose}
use Rattle.seq_outside.specs.Seen.{Seen}
use Rattle.seq_outside.specs.declared.env.Env.{Env}

-- Neither the store nor the clock was asked.
pub record AsksNothing {C : Type 0} (old : Seen) (clock : C) (new : Seen) (clock' : C) : Type 0 where
  pub clock_same : clock' ≡ clock
  pub same : new ≡ old

-- Memory ran out as good words were read.
pub record IsUnread {C : Type 0} (old : Seen) (clock : C) (new : Seen) (clock' : C) (outcome : Outcome) : Type 0 where
  pub answer : outcome ≡ Memory
  pub nothing : AsksNothing old clock new clock'

-- Bad words: Usage, or want of memory to read or say them.
pub record IsUsage {C : Type 0} (fault : UsageFault) (old : Seen) (clock : C) (new : Seen) (clock' : C) (outcome : Outcome) : Type 0 where
  pub answer : (outcome ≡ Usage fault) ⊎ (outcome ≡ Memory)
  pub nothing : AsksNothing old clock new clock'

-- by the words
abbrev pub Judges : {C : Type 0} → Type 0 → (C → ℤ → C → Type 0) → Result Command UsageFault → Env → Seen → C → Seen → C → Outcome → Text → Type 0
Judges told ticked (Ok command) env old clock new clock' outcome own =
    Does told ticked (commits command) (λ secs. meant env command secs old.content) old.content clock new.content clock' outcome own
    ⊎ IsUnread old clock new clock' outcome
Judges told ticked (Err fault) env old clock new clock' outcome own = IsUsage fault old clock new clock' outcome

-- ---- printing

-- What was judged is the outcome, unless it could not be printed or memory ran out.
abbrev pub FitsJudged : Outcome → Outcome → Type 0
FitsJudged (Done head) judged = judged ≡ Done head
FitsJudged (Stopped kind paths) judged = judged ≡ Stopped kind paths
FitsJudged (Usage fault) judged = judged ≡ Usage fault
FitsJudged (Refused refusal) judged = judged ≡ Refused refusal
FitsJudged StoreFault judged = judged ≡ StoreFault
FitsJudged ChildFault judged = judged ≡ ChildFault
FitsJudged OutputFault judged = Unit {0}
FitsJudged (Limit what number) judged = judged ≡ Limit what number
FitsJudged Memory judged = Unit {0}

abbrev pub is_done : Outcome → Bool
is_done (Done head) = true
is_done outcome = false

-- what is printed: the report, but where it is done and the command tells itself, its own text
abbrev pub text_of : Bool → Outcome → Text → Text
text_of tells outcome own = if is_done outcome && tells then own else report_of outcome

-- whether the command tells itself
abbrev pub tells : Result Command UsageFault → Bool
tells (Ok command) = tells_itself command
tells (Err fault) = false

-- that it tells itself matters where it is done
abbrev pub IsTold : Outcome → Bool → Bool → Type 0
IsTold (Done head) here there = here ≡ there
IsTold outcome here there = Unit {0}

-- a prefix of the piece was added
abbrev pub AddsPrefix : Text → Text → Text → Type 0
AddsPrefix old piece new = (n : ℕ) × (new ≡ old ++ take n piece)

-- The text was added to what was printed; where it could not be printed or memory ran out, a prefix of it.
abbrev pub Prints : Outcome → Text → Text → Text → Type 0
Prints (Done head) text old new = new ≡ old ++ text
Prints (Stopped kind paths) text old new = new ≡ old ++ text
Prints (Usage fault) text old new = new ≡ old ++ text
Prints (Refused refusal) text old new = new ≡ old ++ text
Prints StoreFault text old new = new ≡ old ++ text
Prints ChildFault text old new = new ≡ old ++ text
Prints OutputFault text old new = AddsPrefix old text new
Prints (Limit what number) text old new = new ≡ old ++ text
Prints Memory text old new = AddsPrefix old text new

-- ---- causes

-- StoreFault comes only where a count of the store rose, that of faults where it tells what it holds; and where that of faults rose it is
-- StoreFault, OutputFault or Memory. OutputFault comes only where the sink's count rose. No child is run.
abbrev pub HasOutcomeCause : Type 0 → Outcome → Seen → Seen → ℕ → ℕ → Type 0
HasOutcomeCause told (Done head) old new sink sink' = new.faults ≡ old.faults
HasOutcomeCause told (Stopped kind paths) old new sink sink' = new.faults ≡ old.faults
HasOutcomeCause told (Usage fault) old new sink sink' = new.faults ≡ old.faults
HasOutcomeCause told (Refused refusal) old new sink sink' = new.faults ≡ old.faults
HasOutcomeCause told StoreFault old new sink sink' =
    (Rose old.faults new.faults ⊎ Rose old.blocked new.blocked) × (told → Rose old.faults new.faults)
HasOutcomeCause told ChildFault old new sink sink' = ⊥
HasOutcomeCause told OutputFault old new sink sink' = Rose sink sink'
HasOutcomeCause told (Limit what number) old new sink sink' = new.faults ≡ old.faults
HasOutcomeCause told Memory old new sink sink' = Unit {0}

-- ---- an invocation

-- what is seen of the outside as a call begins, or as it ends: of the store, the clock and the sink, with its count of faults
pub record Outside (C : Type 0) : Type 0 where
  pub store : Seen
  pub clock : C
  pub printed : Text
  pub sink_faults : ℕ

abbrev pub outside : {C : Type 0} → Seen → C → Text → ℕ → Outside C
outside store clock printed sink_faults = record { store = store; clock = clock; printed = printed; sink_faults = sink_faults }

-- An outcome of an invocation. `told` and `sink_told` hold of a store and of a sink that tell what they hold, and `ticked` is what a clock
-- tells.
pub record Answers {C : Type 0} (told sink_told : Type 0) (ticked : C → ℤ → C → Type 0) (words : List Text) (env : Env)
    (old new : Outside C) (outcome : Outcome) : Type 0 where
  pub judged : Outcome
  pub own : Text
  pub judges : Judges told ticked (command_of words) env old.store old.clock new.store new.clock judged own
  pub keeps : told → KeepsRepository old.store.content new.store.content
  pub fits_judged : FitsJudged outcome judged
  pub prints : sink_told → Prints outcome (text_of (tells (command_of words)) judged own) old.printed new.printed
  pub cause : HasOutcomeCause told outcome old.store new.store old.sink_faults new.sink_faults
