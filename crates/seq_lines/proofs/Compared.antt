-- The refs of an end, compared one after another.
use Rattle.std.proofs.Common.{◌≡◌, ◌-◌, ◌<◌, ◌||◌, Bool, true, false, List, ◌∷◌, length, take, drop, get_or, Ok, Err, refl, sym, ap, subst, ◌∙◌}
use Rattle.std.specs.Prelude.{Option, None, Some, Result, if◌then◌else◌}
use Rattle.std.specs.List.{find}
use Rattle.line_steps.specs.Places.{stop_of}
use Rattle.line_steps.specs.declared.stop.Stop.{Stop}
use Rattle.reading.specs.Ending.{all_writable, barred_stop, found_value, has_moved, is_among_folders, moved_stop, none_moved}
use Rattle.reading.specs.declared.end_ref.EndRef.{EndRef}
use Rattle.ref_store.specs.Changes.{is_barred}
use Rattle.seq_base.specs.World.{World}
use Rattle.seq_lines.specs.Refs.{AreEndRefs}
use Rattle.seq_model.specs.declared.reason.Reason.TheVariants.{BadName}
use Rattle.seq_model.specs.declared.stop.StopKind.TheVariants.{Blocked, RefMoved}
use Rattle.seq_outside.proofs.Firsts.{first_and_others}
use Rattle.seq_outside.specs.Halts.{Denies}
use Rattle.seq_outside.specs.declared.halt.Halt.{Halt}
use Rattle.seq_outside.specs.declared.halt.Halt.TheVariants.{Stops, Fault, Memory}

-- what is not barred itself
pub if_unbarred : (found barred among others : Bool) → found ≡ barred → found ≡ false → among ≡ others → among ≡ barred || others
if_unbarred found barred among others is not_so same = rw (sym is, not_so) same

-- the others are such as all are
pub others_are : (rest : List EndRef) (r : EndRef) → 0 < length rest → r ≡ get_or rest 0 r → AreEndRefs rest
    → AreEndRefs (take (length rest - 1) (drop 1 rest))
others_are rest r some first all =
    let split : AreEndRefs (r ∷ take (length rest - 1) (drop 1 rest)) = subst AreEndRefs (first_and_others rest r some first) all in split.1

-- ---- the first that is looked for, told as a stop

module _ (p : EndRef → Bool) (told : Option EndRef → Result (Unit {0}) Stop) (why : EndRef → Stop)
    (says : (r : EndRef) → told (Some r) ≡ Err (why r)) where
  later : (r : EndRef) (refs : List EndRef) → told (if p r then Some r else None) ≡ Ok tt → told (find p (r ∷ refs)) ≡ told (find p refs)
  later r refs = at (p r) refl
    where
      at : (t : Bool) → p r ≡ t → told (if t then Some r else None) ≡ Ok tt → told (find p (r ∷ refs)) ≡ told (find p refs)
      at true is goes = let never : Err (why r) ≡ Ok tt = sym (says r) ∙ goes in absurd cc
      at false is goes = rw is refl

  first : (r : EndRef) (refs : List EndRef) (stop : Stop) → told None ≡ Ok tt → told (if p r then Some r else None) ≡ Err stop
      → told (find p (r ∷ refs)) ≡ Err stop
  first r refs stop none = at (p r) refl
    where
      at : (t : Bool) → p r ≡ t → told (if t then Some r else None) ≡ Err stop → told (find p (r ∷ refs)) ≡ Err stop
      at true is stopped = rw is stopped
      at false is stopped = let never : Ok tt ≡ Err stop = sym none ∙ stopped in absurd cc

  more_of : (all rest : List EndRef) (r : EndRef) → told (find p rest) ≡ told (find p all) → 0 < length rest → r ≡ get_or rest 0 r
      → told (if p r then Some r else None) ≡ Ok tt → told (find p (take (length rest - 1) (drop 1 rest))) ≡ told (find p all)
  more_of all rest r same some is goes =
      sym (later r (take (length rest - 1) (drop 1 rest)) goes)
      ∙ ap (λ (refs : List EndRef). told (find p refs)) (sym (first_and_others rest r some is)) ∙ same

  stopped_by : (all rest : List EndRef) (r : EndRef) (halt : Halt Stop) → told None ≡ Ok tt → told (find p rest) ≡ told (find p all) → 0 < length rest
      → r ≡ get_or rest 0 r → Denies halt (told (if p r then Some r else None)) → Denies halt (told (find p all))
  stopped_by all rest r (Stops stop) none same some is stopped =
      sym same ∙ ap (λ (refs : List EndRef). told (find p refs)) (first_and_others rest r some is)
      ∙ first r (take (length rest - 1) (drop 1 rest)) stop none stopped
  stopped_by all rest r Fault none same some is stopped = tt
  stopped_by all rest r Memory none same some is stopped = tt

-- ---- those that have moved

abbrev unmoved : World → EndRef → Result (Unit {0}) Stop
unmoved w r = moved_stop w (if has_moved w r then Some r else None)

abbrev why_moved : World → EndRef → Stop
why_moved w r = stop_of (RefMoved r.name (found_value w r))

pub unmoved_so_far : (w v : World) (all rest : List EndRef) (r : EndRef) → v ≡ w → none_moved rest w ≡ none_moved all w → 0 < length rest
    → r ≡ get_or rest 0 r → unmoved v r ≡ Ok tt → none_moved (take (length rest - 1) (drop 1 rest)) w ≡ none_moved all w
unfolding none_moved
unmoved_so_far w v all rest r is same some first goes =
    more_of (has_moved w) (moved_stop w) (why_moved w) (λ r. refl) all rest r same some first
    (subst (λ (u : World). unmoved u r ≡ Ok tt) is goes)

pub one_moved : (w v : World) (all rest : List EndRef) (r : EndRef) (halt : Halt Stop) → v ≡ w → none_moved rest w ≡ none_moved all w
    → 0 < length rest
    → r ≡ get_or rest 0 r → Denies halt (unmoved v r) → Denies halt (none_moved all w)
unfolding none_moved
one_moved w v all rest r halt is same some first stopped =
    stopped_by (has_moved w) (moved_stop w) (why_moved w) (λ r. refl) all rest r halt refl same some first
    (subst (λ (u : World). Denies halt (unmoved u r)) is stopped)

-- ---- those that cannot be written

abbrev barred_among : World → List EndRef → EndRef → Bool
barred_among w all r = is_barred w r.name || is_among_folders all r

abbrev unbarred : World → List EndRef → EndRef → Result (Unit {0}) Stop
unbarred w all r = barred_stop (if barred_among w all r then Some r else None)

abbrev why_barred : EndRef → Stop
why_barred r = stop_of (Blocked (BadName r.name))

-- the first of some of them
abbrev pub writable_among : World → List EndRef → List EndRef → Result (Unit {0}) Stop
writable_among w all rest = barred_stop (find (barred_among w all) rest)

pub writable_so_far : (w v : World) (all rest : List EndRef) (r : EndRef) → v ≡ w → writable_among w all rest ≡ writable_among w all all
    → 0 < length rest
    → r ≡ get_or rest 0 r → unbarred v all r ≡ Ok tt → writable_among w all (take (length rest - 1) (drop 1 rest)) ≡ writable_among w all all
writable_so_far w v all rest r is same some first goes =
    more_of (barred_among w all) barred_stop why_barred (λ r. refl) all rest r same some first
    (subst (λ (u : World). unbarred u all r ≡ Ok tt) is goes)

pub one_barred : (w v : World) (all rest : List EndRef) (r : EndRef) (halt : Halt Stop) → v ≡ w → writable_among w all rest ≡ writable_among w all all
    → 0 < length rest → r ≡ get_or rest 0 r → Denies halt (unbarred v all r) → Denies halt (all_writable all w)
unfolding all_writable
one_barred w v all rest r halt is same some first stopped =
    stopped_by (barred_among w all) barred_stop why_barred (λ r. refl) all rest r halt refl same some first
    (subst (λ (u : World). Denies halt (unbarred u all r)) is stopped)
