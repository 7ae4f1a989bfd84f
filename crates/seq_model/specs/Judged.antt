-- What an invocation comes to before its outcome is printed: what it answers and prints itself, what it leaves, at which moment, and why.
use Rattle.std.specs.Prelude.{◌≡◌, ◌⊎◌, ℤ, Bool, true, false, Result, Ok, Err}
use Rattle.seq_base.specs.Words.{Text}
use Rattle.seq_base.specs.World.{World}
use Rattle.seq_model.specs.declared.denial.Denial.{Denial}
use Rattle.seq_model.specs.declared.denial.Denial.TheVariants as denied
use Rattle.seq_model.specs.declared.outcome.Outcome.{Outcome}
use Rattle.seq_model.specs.declared.outcome.Outcome.TheVariants.{Done, Stopped, Usage, Refused, StoreFault, ChildFault, OutputFault, Limit, Memory}
use Rattle.seq_model.specs.declared.reply.Reply.{Reply}
use Rattle.seq_outside.specs.Seen.{HasFault, Seen}
use Rattle.seq_outside.specs.Writes.{IsToward}
use Rattle.seq_outside.specs.declared.halt.Halt.{Halt}
use Rattle.seq_outside.specs.declared.halt.Halt.TheVariants as halts

-- ---- what is answered, and what it leaves

-- a step's answer, or why there is none, as an outcome
abbrev pub outcome_of : Result Reply (Halt Denial) → Outcome
outcome_of (Ok reply) = Done reply.head
outcome_of (Err (halts.Stops (denied.Refused refusal))) = Refused refusal
outcome_of (Err (halts.Stops (denied.Limit what number))) = Limit what number
outcome_of (Err halts.Fault) = StoreFault
outcome_of (Err halts.Memory) = Memory

-- this is what it prints itself, where it answers
abbrev pub IsOwn : Result Reply (Halt Denial) → Text → Type 0
IsOwn (Ok reply) own = own ≡ reply.own
IsOwn (Err halt) own = Unit {0}

-- the world that a command makes; where it is denied nothing is made, and it is the one that it was asked in
abbrev pub aimed : {X : Type 0} → World → Result X Denial × World → World
aimed w (Ok x, v) = v
aimed w (Err denial, v) = w

-- By what is meant: the answer, and what is printed with it, unless the store failed or memory ran out.
abbrev pub FitsReply : Outcome → Text → Result Reply Denial → Type 0
FitsReply (Done head) own means = means ≡ Ok (record { head = head; own = own })
FitsReply (Stopped kind paths) own means = ⊥
FitsReply (Usage fault) own means = ⊥
FitsReply (Refused refusal) own means = means ≡ Err (denied.Refused refusal)
FitsReply StoreFault own means = Unit {0}
FitsReply ChildFault own means = ⊥
FitsReply OutputFault own means = ⊥
FitsReply (Limit what number) own means = means ≡ Err (denied.Limit what number)
FitsReply Memory own means = Unit {0}

-- What an outcome leaves: the world that was aimed at where all is done, what stood where it is refused, and after a fault of the store or
-- want of memory a front of the changes that lead to that world, objects before all else.
abbrev pub Leaves : Outcome → World → World → World → Type 0
Leaves (Done head) old aim new = new ≡ aim
Leaves (Stopped kind paths) old aim new = ⊥
Leaves (Usage fault) old aim new = ⊥
Leaves (Refused refusal) old aim new = new ≡ old
Leaves StoreFault old aim new = IsToward old aim new
Leaves ChildFault old aim new = ⊥
Leaves OutputFault old aim new = ⊥
Leaves (Limit what number) old aim new = new ≡ old
Leaves Memory old aim new = IsToward old aim new

-- the outcome is what was meant, and leaves what it is to
pub record Fits (old new : World) (means : Result Reply Denial × World) (outcome : Outcome) (own : Text) : Type 0 where
  pub answer : FitsReply outcome own means.0
  pub leaves : Leaves outcome old (aimed old means) new

-- nothing was made
abbrev pub IsUnmade : Outcome → Type 0
IsUnmade (Done head) = ⊥
IsUnmade (Stopped kind paths) = ⊥
IsUnmade (Usage fault) = ⊥
IsUnmade (Refused refusal) = Unit {0}
IsUnmade StoreFault = Unit {0}
IsUnmade ChildFault = ⊥
IsUnmade OutputFault = ⊥
IsUnmade (Limit what number) = Unit {0}
IsUnmade Memory = Unit {0}

-- an outcome that a command may have that neither stops nor runs a child
abbrev pub IsPlain : Outcome → Type 0
IsPlain (Done head) = Unit {0}
IsPlain (Stopped kind paths) = ⊥
IsPlain (Usage fault) = ⊥
IsPlain (Refused refusal) = Unit {0}
IsPlain StoreFault = Unit {0}
IsPlain ChildFault = ⊥
IsPlain OutputFault = ⊥
IsPlain (Limit what number) = Unit {0}
IsPlain Memory = Unit {0}

-- ---- moments

-- It was judged at a moment that the clock told.
pub record IsAtMoment {C : Type 0} (told : Type 0) (ticked : C → ℤ → C → Type 0) (means : ℤ → Result Reply Denial × World)
    (old : World) (clock : C) (new : World) (clock' : C) (outcome : Outcome) (own : Text) : Type 0 where
  pub secs : ℤ
  pub ticks : ticked clock secs clock'
  pub fits : told → Fits old new (means secs) outcome own

-- It was judged at no moment: whatever the moment, it is so, and nothing is changed.
pub record IsAtNone {C : Type 0} (told : Type 0) (means : ℤ → Result Reply Denial × World)
    (old : World) (clock : C) (new : World) (clock' : C) (outcome : Outcome) (own : Text) : Type 0 where
  pub ticks_not : clock' ≡ clock
  pub unmade : IsUnmade outcome
  pub fits : told → (secs : ℤ) → FitsReply outcome own (means secs).0
  pub same : told → new ≡ old

-- a command that makes a commit: at the one or the other
abbrev pub IsJudged : {C : Type 0} → Type 0 → (C → ℤ → C → Type 0) → (ℤ → Result Reply Denial × World) → World → C → World → C → Outcome → Text
    → Type 0
IsJudged told ticked means old clock new clock' outcome own =
    IsAtMoment told ticked means old clock new clock' outcome own ⊎ IsAtNone told means old clock new clock' outcome own

-- a command that makes none takes no moment, and may change something all the same
pub record IsWithout {C : Type 0} (told : Type 0) (means : ℤ → Result Reply Denial × World)
    (old : World) (clock : C) (new : World) (clock' : C) (outcome : Outcome) (own : Text) : Type 0 where
  pub ticks_not : clock' ≡ clock
  pub fits : told → (secs : ℤ) → Fits old new (means secs) outcome own

-- by whether it makes a commit
abbrev pub IsJudgedBy : {C : Type 0} → Bool → Type 0 → (C → ℤ → C → Type 0) → (ℤ → Result Reply Denial × World) → World → C → World → C → Outcome
    → Text → Type 0
IsJudgedBy true told ticked means old clock new clock' outcome own = IsJudged told ticked means old clock new clock' outcome own
IsJudgedBy false told ticked means old clock new clock' outcome own = IsWithout told means old clock new clock' outcome own

-- What a command asks for: a moment before the store is asked, and one for the commit that it makes, if it makes one.
pub record Does {C : Type 0} (told : Type 0) (ticked : C → ℤ → C → Type 0) (commits : Bool) (means : ℤ → Result Reply Denial × World)
    (old : World) (clock : C) (new : World) (clock' : C) (outcome : Outcome) (own : Text) : Type 0 where
  pub first : ℤ
  pub between : C
  pub ticks : ticked clock first between
  pub kind : IsPlain outcome
  pub judged : IsJudgedBy commits told ticked means old between new clock' outcome own

-- ---- in a draft

-- What was drafted is made, and the world is what was meant; or it is refused, and all is as it was; or a front of the changes was made.
abbrev pub Ends : {X : Type 0} → Result X (Halt Denial) → World → Result X Denial × World → World → Type 0
Ends (Ok x) old means new = means ≡ (Ok x, new)
Ends (Err (halts.Stops denial)) old means new = (means.0 ≡ Err denial) × (new ≡ old)
Ends (Err halts.Fault) old means new = IsToward old (aimed old means) new
Ends (Err halts.Memory) old means new = IsToward old (aimed old means) new

-- No other end than a failure of the store moves the count of faults.
abbrev pub HasEndCause : {X E : Type 0} → Type 0 → Result X (Halt E) → Seen → Seen → Type 0
HasEndCause told (Ok x) old new = new.faults ≡ old.faults
HasEndCause told (Err (halts.Stops why)) old new = new.faults ≡ old.faults
HasEndCause told (Err halts.Fault) old new = HasFault told old new
HasEndCause told (Err halts.Memory) old new = new.faults ≡ old.faults

abbrev pub HasJudgedCause : Type 0 → Outcome → Seen → Seen → Type 0
HasJudgedCause told StoreFault old new = HasFault told old new
HasJudgedCause told ChildFault old new = ⊥
HasJudgedCause told OutputFault old new = ⊥
HasJudgedCause told outcome old new = new.faults ≡ old.faults
