-- A step that was made over a draft, and what is answered of it.
use Rattle.std.proofs.Common.{◌≡◌, ◌⊎◌, inl, inr, ℕ, ◌≤◌, Result, Ok, Err, refl, sym, ap, subst, ◌∙◌, arith}
use Rattle.seq_base.specs.Words.{Text}
use Rattle.seq_base.specs.World.{World}
use Rattle.seq_model.specs.Judged.{Ends, Fits, FitsReply, HasEndCause, HasJudgedCause, IsOwn, IsPlain, IsUnmade, outcome_of}
use Rattle.seq_model.specs.declared.denial.Denial.{Denial}
use Rattle.seq_model.specs.declared.denial.Denial.TheVariants as denied
use Rattle.seq_model.specs.declared.reply.Reply.{Reply}
use Rattle.seq_outside.specs.Causes.{Rose}
use Rattle.seq_outside.specs.Halts.{Denies, halt_cause}
use Rattle.seq_outside.specs.Seen.{Cause, HasCause, HasReadCause, Seen, Stays}
use Rattle.seq_outside.specs.Seen.Cause.{ByBlock, ByFault, ByNone}
use Rattle.seq_outside.specs.declared.halt.Halt.{Halt}
use Rattle.seq_outside.specs.declared.halt.Halt.TheVariants as halts

-- ---- outcomes

pub is_plain : (result : Result Reply (Halt Denial)) → IsPlain (outcome_of result)
is_plain (Ok reply) = tt
is_plain (Err (halts.Stops (denied.Refused refusal))) = tt
is_plain (Err (halts.Stops (denied.Limit what number))) = tt
is_plain (Err halts.Fault) = tt
is_plain (Err halts.Memory) = tt

pub unmade : (halt : Halt Denial) → IsUnmade (outcome_of (Err halt))
unmade (halts.Stops (denied.Refused refusal)) = tt
unmade (halts.Stops (denied.Limit what number)) = tt
unmade halts.Fault = tt
unmade halts.Memory = tt

pub fits_halt : (halt : Halt Denial) (own : Text) (means : Result Reply Denial) → Denies halt means → FitsReply (outcome_of (Err halt)) own means
fits_halt (halts.Stops (denied.Refused refusal)) own means is = is
fits_halt (halts.Stops (denied.Limit what number)) own means is = is
fits_halt halts.Fault own means is = tt
fits_halt halts.Memory own means is = tt

pub fits_end : (old new : World) (means : Result Reply Denial × World) (result : Result Reply (Halt Denial)) (own : Text) → Ends result old means new
    → IsOwn result own → Fits old new means (outcome_of result) own
fits_end old new means (Ok reply) own is says =
    record { answer = ap (λ (m : Result Reply Denial × World). m.0) is ∙ ap (λ (t : Text). Ok (record { head = reply.head; own = t })) (sym says); leaves = rw is refl }
fits_end old new means (Err (halts.Stops (denied.Refused refusal))) own is says = record { answer = is.0; leaves = is.1 }
fits_end old new means (Err (halts.Stops (denied.Limit what number))) own is says = record { answer = is.0; leaves = is.1 }
fits_end old new means (Err halts.Fault) own is says = record { answer = tt; leaves = is }
fits_end old new means (Err halts.Memory) own is says = record { answer = tt; leaves = is }

-- ---- causes

pub rose_later : (a b c : ℕ) → a ≤ b → Rose b c → Rose a c
rose_later a b c le rose = omega arith

pub stays_by : (told : Type 0) (cause : Cause) (old new : Seen) → HasCause told cause old new → Stays told old new
stays_by told ByNone old new is = is.1
stays_by told ByFault old new is = is.2
stays_by told ByBlock old new is = is.2

pub read_cause : (told : Type 0) (halt : Halt Denial) (old new : Seen) → HasReadCause told (halt_cause halt) old new
    → HasJudgedCause told (outcome_of (Err halt)) old new
read_cause told (halts.Stops (denied.Refused refusal)) old new is = is.0
read_cause told (halts.Stops (denied.Limit what number)) old new is = is.0
read_cause told halts.Fault old new is = (inl is.1, λ t. is.1)
read_cause told halts.Memory old new is = is.0

pub judged_cause : (told : Type 0) (result : Result Reply (Halt Denial)) (old mid new : Seen) → mid.faults ≡ old.faults → old.blocked ≤ mid.blocked
    → HasEndCause told result mid new → HasJudgedCause told (outcome_of result) old new
judged_cause told (Ok reply) old mid new same grows is = is ∙ same
judged_cause told (Err (halts.Stops (denied.Refused refusal))) old mid new same grows is = is ∙ same
judged_cause told (Err (halts.Stops (denied.Limit what number))) old mid new same grows is = is ∙ same
judged_cause told (Err halts.Fault) old mid new same grows is = (which is.0, λ t. subst (λ (n : ℕ). Rose n new.faults) same (is.1 t))
  where
    which : Rose mid.faults new.faults ⊎ Rose mid.blocked new.blocked → Rose old.faults new.faults ⊎ Rose old.blocked new.blocked
    which (inl rose) = inl (subst (λ (n : ℕ). Rose n new.faults) same rose)
    which (inr rose) = inr (rose_later old.blocked mid.blocked new.blocked grows rose)
judged_cause told (Err halts.Memory) old mid new same grows is = is ∙ same

pub end_cause : (told : Type 0) (result : Result Reply (Halt Denial)) (old new : Seen) → HasEndCause told result old new
    → HasJudgedCause told (outcome_of result) old new
end_cause told result old new is = judged_cause told result old old new refl (omega arith) is
