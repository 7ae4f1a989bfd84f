-- What is seen of drivers is what the step takes.
use Rattle.std.proofs.Common.{◌≡◌, ℕ, ℤ, ◌+◌, Bool, false, cond, List, [], ◌∷◌, length, Some, None, Ok, Err, refl, sym, ap, subst, ◌∙◌, arith}
use Rattle.std.specs.FinMap as map
use Rattle.std.specs.Global.{Vec}
use Rattle.child_jobs.specs.Jobs.{exec_of}
use Rattle.seq_base.specs.World.{World}
use Rattle.seq_outside.specs.Child.{Noted}
use Rattle.seq_outside.specs.Doing.{Goes}
use Rattle.seq_outside.specs.Follows.{Comes}
use Rattle.seq_outside.specs.Seen.{Seen}
use Rattle.seq_outside.specs.Tape.{Ask, Drives, Event, SawDrivers, Sees, all_asked, all_ended, ask_of, asks, exit_seen}
use Rattle.seq_outside.specs.declared.child.Exit.{Exit}
use Rattle.driver_pool.specs.Drives.{Ends, drivers_end, ends_unrun, jobs_asked, jobs_end, with_end, world_behind}
use Rattle.driver_pool.specs.Files.{file_of, with_files, without_files}
use Rattle.driver_pool.specs.Pools.{AreHandedIn, AreNoted, HasFailedLast, HasWell, RunsDrivers, end_of, ends_of, left_behind}
use Rattle.driver_pool.specs.declared.end.DriverEnd.{DriverEnd}
use Rattle.driver_pool.specs.declared.end.PoolFault.TheVariants.{Child}
use Rattle.driver_pool.specs.declared.files.Version.TheVariants.{Ours}
use Rattle.driver_pool.specs.declared.job.DriverJob.{DriverJob}

-- ---- the notes as events

world_seen : (number : ℕ) (w : World) (notes : List Noted) → world_behind number w (all_ended notes) ≡ left_behind number w notes
world_seen number w [] = refl
world_seen number w (n ∷ notes) = world_seen (number + 1) (without_files number n.left) notes

exit_well : (n : Noted) → n.failed ≡ false → exit_seen n.exit n.failed ≡ n.exit
exit_well n well = ap (exit_seen n.exit) well

ends_seen : {E : Type 0} (number : ℕ) (jobs : List DriverJob) (notes : List Noted) → length notes ≡ length jobs → HasWell notes
    → jobs_end {E = E} number jobs (all_ended notes) ≡ Goes (Some (ends_of number notes))
ends_seen {E} number [] [] same well = refl
ends_seen {E} number [] (n ∷ notes) same well = absurd (omega (arith, same))
ends_seen {E} number (job ∷ jobs) [] same well = absurd (omega (arith, same))
ends_seen {E} number (job ∷ jobs) (n ∷ notes) same well =
    let later = ends_seen {E = E} (number + 1) jobs notes (omega (arith, same)) well.1 in
    ap (λ (failed : Bool). cond failed (ends_unrun {E = E} (all_ended notes)) (with_end (end_of (exit_seen n.exit n.failed) (map.get n.left (file_of number Ours))) (jobs_end (number + 1) jobs (all_ended notes)))) well.0
    ∙ ap (λ (exit : Exit). with_end (end_of exit (map.get n.left (file_of number Ours))) (jobs_end {E = E} (number + 1) jobs (all_ended notes))) (exit_well n well.0)
    ∙ ap (with_end (end_of n.exit (map.get n.left (file_of number Ours)))) later

same_ask : (a b : Ask) → a.job ≡ b.job → a.over ≡ b.over → a ≡ b
same_ask a b job over = λ i. record { job = job i; over = over i }

module _ (told : Type 0) where
  unrun_seen : {E : Type 0} (number : ℕ) (jobs : List DriverJob) (w : World) (notes : List Noted) → AreHandedIn told number jobs w notes
      → HasFailedLast notes
      → jobs_end {E = E} number jobs (all_ended notes) ≡ Goes None
  unrun_seen {E} number jobs w [] handed failed = absurd failed
  unrun_seen {E} number [] w (n ∷ notes) handed failed = absurd handed
  unrun_seen {E} number (job ∷ jobs) w (n ∷ []) handed failed =
      ap (λ (b : Bool). cond b (ends_unrun {E = E} []) (with_end (end_of (exit_seen n.exit n.failed) (map.get n.left (file_of number Ours))) (jobs_end (number + 1) jobs []))) failed
  unrun_seen {E} number (job ∷ jobs) w (n ∷ m ∷ notes) handed failed =
      let later = unrun_seen {E = E} (number + 1) jobs (without_files number n.left) (m ∷ notes) handed.2 failed.1 in
      ap (λ (b : Bool). cond b (ends_unrun {E = E} (all_ended (m ∷ notes))) (with_end (end_of (exit_seen n.exit n.failed) (map.get n.left (file_of number Ours))) (jobs_end (number + 1) jobs (all_ended (m ∷ notes))))) failed.0
      ∙ ap (with_end (end_of (exit_seen n.exit n.failed) (map.get n.left (file_of number Ours)))) later

  asks_seen : told → (number : ℕ) (jobs : List DriverJob) (w : World) (notes : List Noted) → AreHandedIn told number jobs w notes
      → jobs_asked number jobs w (all_ended notes) ≡ all_asked notes
  asks_seen t number [] w [] handed = refl
  asks_seen t number [] w (n ∷ notes) handed = absurd handed
  asks_seen t number (job ∷ jobs) w [] handed = refl
  asks_seen t number (job ∷ jobs) w (n ∷ notes) handed =
      let later = asks_seen t (number + 1) jobs (without_files number n.left) notes handed.2 in
      let here : Ask = record { job = exec_of job.command; over = with_files number job w } in
      let first : here ≡ ask_of n = same_ask here (ask_of n) (sym handed.0) (sym (handed.1 t)) in
      λ i. first i ∷ later i

-- ---- the step

-- what is noted of jobs, before what is seen after them
abbrev pub seen_with : List DriverJob → List Noted → List Event → List Event
seen_with [] notes rest = rest
seen_with (job ∷ jobs) notes rest = SawDrivers notes ∷ rest

module _ {A C : Type 0} (ran : A → Noted → A → Type 0) (ticked : C → ℤ → C → Type 0) where
  drives : (p p' : A) (notes : List Noted) → AreNoted ran p notes p' → Drives ran ticked p notes p'
  drives p p' [] h = h
  drives p p' (n ∷ notes) h = (h.0, h.1, drives h.0 p' notes h.2)

  sees_with : (jobs : List DriverJob) (notes : List Noted) (p p' q : A) (c d : C) (rest : List Event) → (length notes ≡ 0 → p' ≡ p)
      → (length jobs ≡ 0 → length notes ≡ 0)
      → AreNoted ran p notes p' → Sees ran ticked p' c rest q d → Sees ran ticked p c (seen_with jobs notes rest) q d
  unfolding Sees
  sees_with [] notes p p' q c d rest still none noted sees = subst (λ (x : A). Sees ran ticked x c rest q d) (still (none refl)) sees
  sees_with (job ∷ jobs) notes p p' q c d rest still none noted sees = (p', drives p p' notes noted, sees)

  still_there : (notes : List Noted) (p p' : A) → AreNoted ran p notes p' → length notes ≡ 0 → p' ≡ p
  still_there [] p p' noted none = noted
  still_there (n ∷ notes) p p' noted none = absurd (omega (arith, none))

  none_handed : (told : Type 0) (jobs : List DriverJob) (w : World) (notes : List Noted) → AreHandedIn told 1 jobs w notes → length jobs ≡ 0
      → length notes ≡ 0
  none_handed told jobs w [] handed none = refl
  none_handed told [] w (n ∷ notes) handed none = absurd handed
  none_handed told (job ∷ jobs) w (n ∷ notes) handed none = absurd (omega (arith, none))

  -- the step over what is noted, where it ends so and leaves that
  foretold : {S E : Type 0} (told : Type 0) (t : told) (jobs : List DriverJob) (notes : List Noted) (p p' : A) (c : C) (w w' : World) (place : S) (ends : Ends)
      → AreNoted ran p notes p' → AreHandedIn told 1 jobs w notes → jobs_end {E = E} 1 jobs (all_ended notes) ≡ Goes ends → w' ≡ left_behind 1 w notes
      → Comes {P = S} {E = E} ran ticked p c p' c (drivers_end jobs) (record { world = w; place = place }) (Goes ends) (record { world = w'; place = place })
  foretold told t [] [] p p' c w w' place ends noted handed is left q d rest sees = record {
    this = rest;
    is = sees_with [] [] p p' q c d rest (λ e. noted) (λ e. refl) noted sees;
    ends = is;
    spot = λ i. record { world = sym left i; place = place };
    left = refl;
    asked = refl;
  }
  foretold told t [] (n ∷ notes) p p' c w w' place ends noted handed is left q d rest sees = absurd handed
  foretold told t (job ∷ jobs) notes p p' c w w' place ends noted handed is left q d rest sees = record {
    this = SawDrivers notes ∷ rest;
    is = sees_with (job ∷ jobs) notes p p' q c d rest (still_there notes p p' noted) (none_handed told (job ∷ jobs) w notes handed) noted sees;
    ends = is;
    spot = λ i. record { world = (world_seen 1 w notes ∙ sym left) i; place = place };
    left = refl;
    asked = λ i. sym (asks_seen told t 1 (job ∷ jobs) w notes handed) i ∷ asks rest;
  }

  -- drivers that ended
  pub drivers_ended : {S E : Type 0} (told : Type 0) (t : told) (jobs : List DriverJob) (p p' : A) (c : C) (old new : Seen) (place : S) (ends : Vec DriverEnd)
      → RunsDrivers told ran jobs p old (Ok ends) p' new
      → Comes {P = S} {E = E} ran ticked p c p' c (drivers_end jobs) (record { world = old.content; place = place }) (Goes (Some ends.items)) (record { world = new.content; place = place })
  drivers_ended {S} {E} told t jobs p p' c old new place ends r =
      foretold told t jobs r.notes p p' c old.content new.content place (Some ends.items) r.noted r.handed
      (ends_seen {E = E} 1 jobs r.notes r.comes.0 r.comes.1 ∙ ap (λ (xs : List DriverEnd). Goes (Some xs)) (sym (r.comes.2 t))) (r.comes.3 t)

  -- one of them could not be run
  pub drivers_unrun : {S E : Type 0} (told : Type 0) (t : told) (jobs : List DriverJob) (p p' : A) (c : C) (old new : Seen) (place : S)
      → RunsDrivers told ran jobs p old (Err Child) p' new
      → Comes {P = S} {E = E} ran ticked p c p' c (drivers_end jobs) (record { world = old.content; place = place }) (Goes None) (record { world = new.content; place = place })
  drivers_unrun {S} {E} told t jobs p p' c old new place r =
      foretold told t jobs r.notes p p' c old.content new.content place None r.noted r.handed
      (unrun_seen told {E = E} 1 jobs old.content r.notes r.handed r.comes.0) (r.comes.1 t)
