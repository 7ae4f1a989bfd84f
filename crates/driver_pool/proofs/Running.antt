-- What is seen of the drivers that are left goes on what was seen of those before them.
use Rattle.std.proofs.Common.{◌≡◌, ℕ, ◌+◌, ◌<◌, ◌-◌, true, false, drop, get_or, take, List, [], ◌∷◌, ◌++◌, length, Ok, Err, refl, sym, ap, subst, ◌∙◌, append_assoc, arith, inl, inr, append-nil}
use Rattle.std.proofs.Math.Seq.{take-length}
use Rattle.std.specs.FinMap as map
use Rattle.std.specs.Global.{Vec}
use Rattle.seq_base.specs.World.{World}
use Rattle.seq_outside.specs.Child.{Noted}
use Rattle.seq_outside.specs.Seen.{Seen}
use Rattle.driver_pool.specs.Files.{file_of, with_files, without_files}
use Rattle.driver_pool.specs.Pools.{AreHandedIn, AreNoted, ComesTo, HandsIn, HandsInOrNot, HasFailedLast, HasWell, IsCalm, IsDriven, RunsDrivers, StaysCalm, end_of, ends_of, left_behind}
use Rattle.driver_pool.specs.declared.end.DriverEnd.{DriverEnd}
use Rattle.driver_pool.specs.declared.end.PoolFault.{PoolFault}
use Rattle.driver_pool.specs.declared.end.PoolFault.TheVariants.{Blocked, Child, Fault, Memory}
use Rattle.driver_pool.specs.declared.files.Version.TheVariants.{Ours}
use Rattle.driver_pool.specs.declared.job.DriverJob.{DriverJob}

pub others_are : (whole : List DriverJob) → take (length whole - 1) (drop 1 whole) ≡ drop 1 whole
others_are [] = refl
others_are (j ∷ rest) =
    let one : length (j ∷ rest) - 1 ≡ length rest = omega arith in
    ap (λ (k : ℕ). take k rest) one ∙ take-length rest

-- all that was seen, where these notes end it
pub record Whole {P : Type 0} (told : Type 0) (ran : P → Noted → P → Type 0) (jobs : List DriverJob) (p : P) (old : Seen) (ends : List DriverEnd) (number : ℕ) (rest : List DriverJob) (mid : Seen) (notes : List Noted) (r : P) : Type 0 where
  pub all : List Noted
  pub noted : AreNoted ran p all r
  pub handed : AreHandedIn told 1 jobs old.content all
  pub count : length all + length rest ≡ length jobs + length notes
  pub well : HasWell notes → HasWell all
  pub last : HasFailedLast notes → HasFailedLast all
  pub ends_are : told → ends_of 1 all ≡ ends ++ ends_of number notes
  pub left : told → left_behind 1 old.content all ≡ left_behind number mid.content notes
  pub calm : IsCalm all → (mid.faults ≡ old.faults) × IsCalm notes

pub record IsSoFar {P : Type 0} (told : Type 0) (ran : P → Noted → P → Type 0) (jobs : List DriverJob) (p : P) (old : Seen) (ends : List DriverEnd) (number : ℕ) (rest : List DriverJob) (q : P) (mid : Seen) : Type 0 where
  pub goes_on : (notes : List Noted) (r : P) → AreNoted ran q notes r → AreHandedIn told number rest mid.content notes
      → Whole told ran jobs p old ends number rest mid notes r

-- a list is its first job and what follows it
pub first_job : (whole : List DriverJob) (job : DriverJob) → 0 < length whole → job ≡ get_or whole 0 job → whole ≡ job ∷ drop 1 whole
first_job [] job some is = absurd (omega (arith, some))
first_job (j ∷ rest) job some is = ap (λ (x : DriverJob). x ∷ rest) (sym is)

module _ {P : Type 0} (told : Type 0) (ran : P → Noted → P → Type 0) (jobs : List DriverJob) (p : P) (old : Seen) where
  pub restated : (ends ends' : List DriverEnd) (number : ℕ) (a b : List DriverJob) (q : P) (mid : Seen) → ends' ≡ ends → b ≡ a
      → IsSoFar told ran jobs p old ends number a q mid → IsSoFar told ran jobs p old ends' number b q mid
  restated ends ends' number a b q mid same_ends same_jobs h =
      subst (λ (x : List DriverEnd). IsSoFar told ran jobs p old x number b q mid) (sym same_ends)
      (subst (λ (y : List DriverJob). IsSoFar told ran jobs p old ends number y q mid) (sym same_jobs) h)

  pub begins : IsSoFar told ran jobs p old [] 1 jobs p old
  begins = record {
    goes_on = λ notes r noted handed. record {
      all = notes;
      noted = noted;
      handed = handed;
      count = omega arith;
      well = λ h. h;
      last = λ h. h;
      ends_are = λ t. refl;
      left = λ t. refl;
      calm = λ c. (refl, c);
    };
  }

  -- over another world, where it is not told
  over_same : (number : ℕ) (rest : List DriverJob) (v v' : World) (notes : List Noted) → (told → v' ≡ v) → AreHandedIn told number rest v' notes
      → AreHandedIn told number rest v notes
  over_same number rest v v' [] same h = tt
  over_same number [] v v' (n ∷ notes) same h = absurd h
  over_same number (job ∷ rest) v v' (n ∷ notes) same h = (h.0, (λ t. h.1 t ∙ ap (with_files number job) (same t)), h.2)

  left_same : (number : ℕ) (v v' : World) (notes : List Noted) → v' ≡ v → left_behind number v' notes ≡ left_behind number v notes
  left_same number v v' notes same = ap (λ (u : World). left_behind number u notes) same

  failed_on : (n : Noted) (notes : List Noted) → n.failed ≡ false → HasFailedLast notes → HasFailedLast (n ∷ notes)
  failed_on n [] h k = absurd k
  failed_on n (m ∷ notes) h k = (h, k)

  -- the count so far, and of what comes
  count_on : (first then last : ℕ) (n : Noted) (notes : List Noted) → (n.rose ≡ false → then ≡ first) → (first ≡ last) × IsCalm (n ∷ notes)
      → (then ≡ last) × IsCalm notes
  count_on first then last n notes calm h = (calm h.1.0 ∙ h.0, h.1.1)

  module _ (ends : List DriverEnd) (number : ℕ) (job : DriverJob) (rest : List DriverJob) (q : P) (mid : Seen) (so_far : IsSoFar told ran jobs p old ends number (job ∷ rest) q mid) where
    pub steps : (n : Noted) (q' : P) (new : Seen) (end : DriverEnd) → HandsIn told ran number job q mid.content n q' → n.failed ≡ false
        → (told → end ≡ end_of n.exit (map.get n.left (file_of number Ours))) → (told → new.content ≡ without_files number n.left) → (n.rose ≡ false → new.faults ≡ mid.faults)
        → IsSoFar told ran jobs p old (ends ++ end ∷ []) (number + 1) rest q' new
    steps n q' new end hands well end_is left_is calm = record {
      goes_on = λ notes r noted handed.
          let whole = so_far.goes_on (n ∷ notes) r (q', hands.ran_is, noted) (hands.job_is, hands.over_is, over_same (number + 1) rest (without_files number n.left) new.content notes left_is handed) in
          record {
            all = whole.all;
            noted = whole.noted;
            handed = whole.handed;
            count = let c = whole.count in omega arith;
            well = λ h. whole.well (well, h);
            last = λ h. whole.last (failed_on n notes well h);
            ends_are =
                λ t. whole.ends_are t ∙ ap (λ (e : DriverEnd). ends ++ e ∷ ends_of (number + 1) notes) (sym (end_is t))
                ∙ sym (append_assoc ends (end ∷ []) (ends_of (number + 1) notes));
            left = λ t. whole.left t ∙ sym (left_same (number + 1) (without_files number n.left) new.content notes (left_is t));
            calm = λ c. count_on mid.faults new.faults old.faults n notes calm (whole.calm c);
          };
    }

    -- a job that was handed in ends it
    ends_here : (n : Noted) (q' : P) → HandsIn told ran number job q mid.content n q'
        → Whole told ran jobs p old ends number (job ∷ rest) mid (n ∷ []) q'
    ends_here n q' hands = so_far.goes_on (n ∷ []) q' (q', hands.ran_is, refl) (hands.job_is, hands.over_is, tt)

    -- or none was
    none_here : Whole told ran jobs p old ends number (job ∷ rest) mid [] q
    none_here = so_far.goes_on [] q refl tt

    pub stops_at_child : (n : Noted) (q' : P) (new : Seen) → HandsIn told ran number job q mid.content n q' → n.failed ≡ true
        → (told → new.content ≡ without_files number n.left)
        → (n.rose ≡ false → new.faults ≡ mid.faults) → RunsDrivers told ran jobs p old (Err Child) q' new
    stops_at_child n q' new hands failed left_is calm =
        let whole = ends_here n q' hands in
        record {
          notes = whole.all;
          noted = whole.noted;
          handed = whole.handed;
          comes = (whole.last failed, λ t. left_is t ∙ sym (whole.left t));
          calm = λ c. (count_on mid.faults new.faults old.faults n [] calm (whole.calm c)).0;
        }

    -- nothing is said of what is left
    abbrev IsOther : PoolFault → Type 0
    IsOther Child = ⊥
    IsOther Fault = Unit {0}
    IsOther Blocked = Unit {0}
    IsOther Memory = Unit {0}

    comes_other : (fault : PoolFault) (notes : List Noted) (v : World) → IsOther fault → ComesTo told jobs old.content notes (Err fault) v
    comes_other Child notes v h = absurd h
    comes_other Fault notes v h = tt
    comes_other Blocked notes v h = tt
    comes_other Memory notes v h = tt

    -- what stays from there on stays from the start on
    calm_on : (fault : PoolFault) (new : Seen) → mid.faults ≡ old.faults → StaysCalm {T = DriverEnd} (Err fault) mid new
        → StaysCalm {T = Vec DriverEnd} (Err fault) old new
    calm_on Child new same h = h ∙ same
    calm_on Fault new same h = tt
    calm_on Blocked new same h = h ∙ same
    calm_on Memory new same h = h ∙ same

    pub stops : (fault : PoolFault) (q' : P) (new : Seen) → IsOther fault → HandsInOrNot told ran number job q mid (Err fault) q' new
        → RunsDrivers told ran jobs p old (Err fault) q' new
    stops fault q' new other (inl same) =
        let whole = none_here in
        record {
          notes = whole.all;
          noted = subst (λ (r : P). AreNoted ran p whole.all r) (sym same.0) whole.noted;
          handed = whole.handed;
          comes = comes_other fault whole.all new.content other;
          calm = λ c. calm_on fault new (whole.calm c).0 same.1;
        }
    stops fault q' new other (inr some) =
        let whole = ends_here some.0 q' some.1 in
        record {
          notes = whole.all;
          noted = whole.noted;
          handed = whole.handed;
          comes = comes_other fault whole.all new.content other;
          calm = λ c. calm_on fault new (whole.calm c).0 (some.2 (whole.calm c).1.0);
        }

  module _ (ends : List DriverEnd) (number : ℕ) (whole : List DriverJob) (q : P) (mid : Seen) (so_far : IsSoFar told ran jobs p old ends number whole q mid) where
    from : (job : DriverJob) (rest : List DriverJob) → whole ≡ job ∷ rest → IsSoFar told ran jobs p old ends number (job ∷ rest) q mid
    from job rest is = subst (λ (left : List DriverJob). IsSoFar told ran jobs p old ends number left q mid) is so_far

    pub goes_on_behind : (job : DriverJob) (rest : List DriverJob) (end : DriverEnd) (q' : P) (new : Seen) → whole ≡ job ∷ rest
        → IsDriven told ran number job q mid (Ok end) q' new
        → IsSoFar told ran jobs p old (ends ++ end ∷ []) (number + 1) rest q' new
    goes_on_behind job rest end q' new is d = steps ends number job rest q mid (from job rest is) d.by.0 q' new end d.by.1 d.by.2 d.by.3 d.by.4 d.by.5

    -- where memory runs out for the list of ends
    pub ends_full : (job : DriverJob) (rest : List DriverJob) (end : DriverEnd) (q' : P) (new : Seen) → whole ≡ job ∷ rest
        → IsDriven told ran number job q mid (Ok end) q' new
        → RunsDrivers told ran jobs p old (Err Memory) q' new
    ends_full job rest end q' new is d = stops ends number job rest q mid (from job rest is) Memory q' new tt (inr (d.by.0, d.by.1, d.by.5))

    pub ends_at : (job : DriverJob) (rest : List DriverJob) (fault : PoolFault) (q' : P) (new : Seen) → whole ≡ job ∷ rest
        → IsDriven told ran number job q mid (Err fault) q' new
        → RunsDrivers told ran jobs p old (Err fault) q' new
    ends_at job rest Child q' new is d = stops_at_child ends number job rest q mid (from job rest is) d.by.0 q' new d.by.1 d.by.2 d.by.3 d.by.4
    ends_at job rest Fault q' new is d = stops ends number job rest q mid (from job rest is) Fault q' new tt d.by
    ends_at job rest Blocked q' new is d = stops ends number job rest q mid (from job rest is) Blocked q' new tt d.by
    ends_at job rest Memory q' new is d = stops ends number job rest q mid (from job rest is) Memory q' new tt d.by

  -- all have ended
  pub ends_well : (ends : Vec DriverEnd) (number : ℕ) (whole : List DriverJob) (q : P) (mid : Seen) → length whole ≡ 0
      → IsSoFar told ran jobs p old ends.items number whole q mid → RunsDrivers told ran jobs p old (Ok ends) q mid
  ends_well ends number [] q mid none so_far =
      let whole = so_far.goes_on [] q refl tt in
      record {
        notes = whole.all;
        noted = whole.noted;
        handed = whole.handed;
        comes = ((let c = whole.count in omega arith), whole.well tt, (λ t. sym (whole.ends_are t ∙ append-nil ends.items)), λ t. sym (whole.left t));
        calm = λ c. (whole.calm c).0;
      }
  ends_well ends number (job ∷ rest) q mid none so_far = absurd (omega (arith, none))
