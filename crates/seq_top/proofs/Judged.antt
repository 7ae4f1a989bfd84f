-- A pick that is made over a draft, and what is answered of it.
use Rattle.std.proofs.Common.{◌≡◌, ◌≢◌, ℤ, inl, List, Option, Result, Ok, Err, refl, sym, ap, subst, ◌∙◌}
use Rattle.std.specs.Prelude.{ℕ, Some, []}
use Rattle.seq_base.specs.Words.{Id, Name, Text}
use Rattle.seq_base.specs.World.{World}
use Rattle.seq_model.specs.Judged.{Does, Ends, HasJudgedCause, IsAtMoment, IsAtNone, IsJudged, IsOwn, outcome_of}
use Rattle.seq_model.specs.Picked.{Prepared as Definition, finished, picked, prepared}
use Rattle.seq_model.specs.declared.command.Command.{Command}
use Rattle.seq_model.specs.declared.denial.Denial.{Denial}
use Rattle.seq_model.specs.declared.outcome.Outcome.{Outcome}
use Rattle.seq_model.specs.declared.outcome.Outcome.TheVariants.{Done, Stopped, Usage, Refused, StoreFault, ChildFault, OutputFault, Limit, Memory}
use Rattle.seq_model.specs.declared.reply.Reply.{Reply}
use Rattle.seq_model.specs.declared.usage.UsageFault.{UsageFault}
use Rattle.seq_model.proofs.Judged.{fits_end, fits_halt, unmade}
use Rattle.seq_outside.specs.Causes.{Rose}
use Rattle.seq_outside.specs.Halts.{Denies}
use Rattle.seq_outside.specs.Seen.{Seen}
use Rattle.seq_outside.specs.Turns.{Turns, gives, go_on}
use Rattle.seq_outside.specs.declared.env.Env.{Env}
use Rattle.seq_outside.specs.declared.halt.Halt.{Halt}
use Rattle.seq_outside.specs.declared.halt.Halt.TheVariants as halts
use Rattle.seq_pick.specs.declared.committing.Prepared.{Prepared}
use Rattle.seq_top.specs.Answers.{FitsJudged, HasOutcomeCause, Judges}
use Rattle.seq_top.specs.Built.{commits, meant, picked_or_not, replied}

-- ---- the definition

-- it is denied for the reason that is told, in this world
abbrev IsDenied : {Y : Type 0} → Halt Denial → Result Y Denial × World → World → Type 0
IsDenied {Y} (halts.Stops denial) means w = means ≡ (Err denial, w)
IsDenied {Y} halts.Fault means w = Unit {0}
IsDenied {Y} halts.Memory means w = Unit {0}

pub is_denied : (view : Prepared → Definition) (halt : Halt Denial) (means : Result Definition Denial × World) (w : World)
    → Turns view (Err halt) means w → IsDenied halt means w
is_denied view (halts.Stops denial) means w is = is
is_denied view halts.Fault means w is = tt
is_denied view halts.Memory means w is = tt

-- the commit that a step answers, as a reply
abbrev with_reply : Result Id Denial × World → Result Reply Denial × World
with_reply r = go_on r (λ id. gives (record { head = Some id; own = [] }))

-- a pick that is prepared is finished
picked_is : (env : Env) (secs : ℤ) (word : Text) (w v : World) (pick : Definition) → prepared env.vars word w ≡ (Ok pick, v)
    → picked env secs word w ≡ finished pick env.zone secs v
unfolding picked
picked_is env secs word w v pick is = rw is refl

pub replied_is : (env : Env) (secs : ℤ) (word : Text) (w v : World) (pick : Definition) → prepared env.vars word w ≡ (Ok pick, v)
    → replied (picked env secs word) w ≡ replied (finished pick env.zone secs) v
replied_is env secs word w v pick is = ap with_reply (picked_is env secs word w v pick is)

-- one that is not is denied
replied_not : (env : Env) (secs : ℤ) (word : Text) (w v : World) (halt : Halt Denial) → IsDenied {Y = Definition} halt (prepared env.vars word w) v
    → Denies halt (replied (picked env secs word) w).0
unfolding picked
replied_not env secs word w v (halts.Stops denial) is = rw is refl
replied_not env secs word w v halts.Fault is = tt
replied_not env secs word w v halts.Memory is = tt

-- ---- moments

pub at_secs : (result : Result Reply (Halt Denial)) (old drafted new : World) (pick : Definition) (zone : Text) (secs : ℤ) {here : ℤ} → here ≡ secs
    → Ends result old (replied (finished pick zone here) drafted) new → Ends result old (replied (finished pick zone secs) drafted) new
at_secs result old drafted new pick zone secs same ends = subst (λ (at : ℤ). Ends result old (replied (finished pick zone at) drafted) new) same ends

module _ {C : Type 0} (told : Type 0) (ticked : C → ℤ → C → Type 0) (env : Env) (word : Text) (old new : World) (clock clock' : C) where
  pub at_moment : (secs : ℤ) (pick : Definition) (lent drafted : World) (result : Result Reply (Halt Denial)) (own : Text) → ticked clock secs clock'
      → (told → prepared env.vars word old ≡ (Ok pick, drafted)) → (told → lent ≡ old)
      → (told → Ends result lent (replied (finished pick env.zone secs) drafted) new) → IsOwn result own → IsAtMoment told ticked (λ secs. replied (picked env secs word) old) old clock new clock' (outcome_of result) own
  at_moment secs pick lent drafted result own ticks is same ends says = record {
    secs = secs;
    ticks = ticks;
    fits = λ t.
        fits_end old new (replied (picked env secs word) old) result own
        (subst (λ (m : Result Reply Denial × World). Ends result old m new) (sym (replied_is env secs word old drafted pick (is t)))
        (subst (λ (w : World). Ends result w (replied (finished pick env.zone secs) drafted) new) (same t) (ends t))) says;
  }

  pub at_none : (halt : Halt Denial) (drafted : World) (own : Text) → clock' ≡ clock
      → (told → IsDenied {Y = Definition} halt (prepared env.vars word old) drafted) → (told → new ≡ old)
      → IsAtNone told (λ secs. replied (picked env secs word) old) old clock new clock' (outcome_of (Err halt)) own
  at_none halt drafted own same denies stays = record {
    ticks_not = same;
    unmade = unmade halt;
    fits = λ t secs. fits_halt halt own (replied (picked env secs word) old).0 (replied_not env secs word old drafted halt (denies t));
    same = stays;
  }

-- ---- over a draft in which nothing is changed yet

module _ (vars vars' : List (Name × Text)) (word : Text) (old start : World) (same_vars : vars' ≡ vars) (same : start ≡ old) where
  pub prepared_there : (r : Result Definition Denial × World) → prepared vars' word start ≡ r → prepared vars word old ≡ r
  prepared_there r is = ap (λ (v : List (Name × Text)). prepared v word old) (sym same_vars) ∙ ap (prepared vars' word) (sym same) ∙ is

  pub denied_there : (halt : Halt Denial) (v : World) → IsDenied {Y = Definition} halt (prepared vars' word start) v
      → IsDenied {Y = Definition} halt (prepared vars word old) v
  denied_there halt v is =
      subst (λ (r : Result Definition Denial × World). IsDenied {Y = Definition} halt r v) (sym (prepared_there (prepared vars' word start) refl)) is

-- ---- what is asked for

module _ {C : Type 0} (told : Type 0) (ticked : C → ℤ → C → Type 0) (env : Env) (old new : World) (clock clock' : C) (outcome : Outcome) (own : Text) where
  pub as_asked : {here there : Option Text} → here ≡ there
      → IsJudged told ticked (λ secs. picked_or_not env secs here old) old clock new clock' outcome own
      → IsJudged told ticked (λ secs. picked_or_not env secs there old) old clock new clock' outcome own
  as_asked is = subst (λ (asked : Option Text). IsJudged told ticked (λ secs. picked_or_not env secs asked old) old clock new clock' outcome own) is

-- ---- printing

pub caused : (told : Type 0) (outcome judged : Outcome) (old new : Seen) (sink sink' : ℕ) → FitsJudged outcome judged
    → HasJudgedCause told judged old new
    → (outcome ≡ OutputFault → judged ≢ OutputFault → Rose sink sink') → HasOutcomeCause told outcome old new sink sink'
caused told (Done head) judged old new sink sink' fits is printed = subst (λ (o : Outcome). HasJudgedCause told o old new) fits is
caused told (Stopped kind paths) judged old new sink sink' fits is printed = subst (λ (o : Outcome). HasJudgedCause told o old new) fits is
caused told (Usage fault) judged old new sink sink' fits is printed = subst (λ (o : Outcome). HasJudgedCause told o old new) fits is
caused told (Refused refusal) judged old new sink sink' fits is printed = subst (λ (o : Outcome). HasJudgedCause told o old new) fits is
caused told StoreFault judged old new sink sink' fits is printed = subst (λ (o : Outcome). HasJudgedCause told o old new) fits is
caused told ChildFault judged old new sink sink' fits is printed = subst (λ (o : Outcome). HasJudgedCause told o old new) fits is
caused told OutputFault judged old new sink sink' fits is printed =
    printed refl (λ same. subst (λ (o : Outcome). HasJudgedCause told o old new) same is)
caused told (Limit what number) judged old new sink sink' fits is printed = subst (λ (o : Outcome). HasJudgedCause told o old new) fits is
caused told Memory judged old new sink sink' fits is printed = tt

-- ---- the words

-- they were read as this command, and what it asks for was done
pub as_read : {C : Type 0} (told : Type 0) (ticked : C → ℤ → C → Type 0) (read : Result Command UsageFault) (command : Command) (env : Env)
    (old : Seen) (clock : C) (new : Seen) (clock' : C) (outcome : Outcome) (own : Text) → read ≡ Ok command
    → Does told ticked (commits command) (λ secs. meant env command secs old.content) old.content clock new.content clock' outcome own
    → Judges told ticked read env old clock new clock' outcome own
as_read told ticked read command env old clock new clock' outcome own is does = rw is (inl does)
