-- One turn more.
use Rattle.std.proofs.Common.{◌≡◌, List, [], ◌∷◌, ◌++◌, refl, ap}
use Rattle.seq_outside.specs.Tape.{Coming, SawChild, SawDrivers, SawMoment, all_ended, coming, ended_of}
use Rattle.seq_outside.specs.Tape.{Event as Seen}
use Rattle.reading.specs.Opening.{Checks}
use Rattle.reading.specs.Readings.{Reading, follow, meaning, turned}
use Rattle.reading.specs.Starting.{Start}
use Rattle.reading.specs.Tapes.{Begins, Call, Child, Drivers, Event, Moment, Turn, calls, events_of, seen_first, this_call}

first-seen : (seen : List Seen) → seen_first (events_of seen) ≡ coming seen
first-seen [] = refl
first-seen (SawChild n ∷ seen) = ap (λ (x : Coming). record x { children = ended_of n ∷ x.children }) (first-seen seen)
first-seen (SawDrivers notes ∷ seen) = ap (λ (x : Coming). record x { drivers = all_ended notes ∷ x.drivers }) (first-seen seen)
first-seen (SawMoment secs ∷ seen) = ap (λ (x : Coming). record x { moments = secs ∷ x.moments }) (first-seen seen)

no-calls : (seen : List Seen) → calls (events_of seen) ≡ []
no-calls [] = refl
no-calls (SawChild n ∷ seen) = no-calls seen
no-calls (SawDrivers notes ∷ seen) = no-calls seen
no-calls (SawMoment secs ∷ seen) = no-calls seen

first-before : (tape : List Event) (turn : Turn) (seen : List Seen) → seen_first (tape ++ this_call turn seen) ≡ seen_first tape
first-before [] turn seen = refl
first-before (Begins other ∷ tape) turn seen = refl
first-before (Child e ∷ tape) turn seen = ap (λ (x : Coming). record x { children = e ∷ x.children }) (first-before tape turn seen)
first-before (Drivers es ∷ tape) turn seen = ap (λ (x : Coming). record x { drivers = es ∷ x.drivers }) (first-before tape turn seen)
first-before (Moment secs ∷ tape) turn seen = ap (λ (x : Coming). record x { moments = secs ∷ x.moments }) (first-before tape turn seen)

-- the turn stands alone at the end
one_call : Turn → List Seen → List Call
one_call turn seen = record { turn = turn; coming = coming seen } ∷ []

calls-last : (turn : Turn) (seen : List Seen) → calls (this_call turn seen) ≡ one_call turn seen
unfolding one_call
calls-last turn seen = rw (first-seen seen, no-calls seen) refl

calls-more : (tape : List Event) (turn : Turn) (seen : List Seen) → calls (tape ++ this_call turn seen) ≡ calls tape ++ one_call turn seen
calls-more [] turn seen = calls-last turn seen
calls-more (Begins other ∷ tape) turn seen = rw (first-before tape turn seen, calls-more tape turn seen) refl
calls-more (Child e ∷ tape) turn seen = calls-more tape turn seen
calls-more (Drivers es ∷ tape) turn seen = calls-more tape turn seen
calls-more (Moment secs ∷ tape) turn seen = calls-more tape turn seen

follow-more : (checks : Checks) (reading : Reading) (xs ys : List Call)
    → follow checks reading (xs ++ ys) ≡ follow checks (follow checks reading xs) ys
follow-more checks reading [] ys = refl
follow-more checks reading (call ∷ xs) ys = follow-more checks (turned checks reading.ending call.turn call.coming) xs ys

-- the meaning over one call more is a turn over the meaning so far
pub meaning-more : (checks : Checks) (start : Start) (tape : List Event) (turn : Turn) (seen : List Seen)
    → meaning checks start (tape ++ this_call turn seen) ≡ turned checks (meaning checks start tape).ending turn (coming seen)
unfolding one_call meaning
meaning-more checks start tape turn seen = rw (calls-more tape turn seen) (follow-more checks _ (calls tape) (one_call turn seen))
