-- Where a list stands beside the repository, and how it stops.
use Rattle.std.specs.Prelude.{Bool, true, false, Some, None, Result}
use Rattle.seq_base.specs.Words.{Id}
use Rattle.seq_base.specs.World.{World}
use Rattle.seq_model.specs.declared.reason.Reason.{Reason}
use Rattle.seq_model.specs.declared.stop.StopKind.{StopKind}
use Rattle.seq_model.specs.declared.stop.StopKind.TheVariants as kind
use Rattle.seq_outside.specs.Doing.{Does, looks, makes, places}
use Rattle.seq_outside.specs.Halts.{for_reason}
use Rattle.seq_outside.specs.Turns.{Turn}
use Rattle.seq_outside.specs.Turns as turns
use Rattle.seq_outside.specs.declared.lack.Lack.{Lack}
use Rattle.seq_outside.specs.declared.lack.Lack.TheVariants as lack
use Rattle.seq_model.specs.declared.reason.Reason.TheVariants as reason
use Rattle.state_text.specs.declared.control.Control.{Control}
pub use Rattle.line_steps.specs.declared.place.Place.{Place}
pub use Rattle.line_steps.specs.declared.stop.Stop.{Stop}

-- ---- the place

-- the place with which a turn begins
abbrev pub place_of : Control → Place
place_of k = record {
  head = k.stopped_head;
  waiting = k.waiting;
  rewritten = k.rewritten;
  chain = k.chain;
  labels = k.labels;
  updates = k.updates;
  unseen = false;
}

abbrev pub with_place : Place → Control → Control
with_place place k = record k {
  stopped_head = place.head;
  waiting = place.waiting;
  rewritten = place.rewritten;
  chain = place.chain;
  labels = place.labels;
  updates = place.updates;
}

-- HEAD is at this commit
abbrev pub at_head : Id → Place → Place
at_head id place = record place { head = id }

abbrev pub with_unseen : Bool → Place → Place
with_unseen unseen place = record place { unseen = unseen }

-- ---- stops

abbrev pub Doing : Type 0 → Type 0
Doing X = Does Place Stop X

-- what is read, and what is written, where the reason is told otherwise
abbrev pub reads : {P E F X : Type 0} → (E → F) → (World → Result X E) → Does P F X
reads told read = looks (λ w. for_reason told (read w))

abbrev pub writes : {P E F X : Type 0} → (E → F) → Turn E X → Does P F X
writes told turn = makes (turns.saying told turn)

-- a stop without more
abbrev pub stop_of : StopKind → Stop
stop_of why = record { kind = why; put_back = false; pending = None; commit = None; failed = false }

-- the line is put back, and tried again by the next turn
abbrev pub blocked : Reason → Stop
blocked why = record (stop_of (kind.Blocked why)) { put_back = true }

-- the same, of a line of this commit
abbrev pub blocked_at : Id → Reason → Stop
blocked_at id why = record (blocked why) { commit = Some id }

-- what is lacked, as the reason why a line is blocked
abbrev pub reason_of : Lack → Reason
reason_of (lack.Object id) = reason.BadObject id
reason_of (lack.Limit what number) = reason.Limit what number
reason_of (lack.Way path) = reason.WouldOverwrite path
reason_of (lack.Place id) = reason.BadObject id

-- what is lacked for a line of this commit
abbrev pub lacked_at : Id → Lack → Stop
lacked_at id lack = blocked_at id (reason_of lack)

-- HEAD is at this commit
abbrev pub heads : Id → Doing (Unit {0})
heads id = places (at_head id)

-- index and files have been looked at
abbrev pub seen : Doing (Unit {0})
seen = places (with_unseen false)
