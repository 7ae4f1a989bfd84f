-- A name that is writable is given its value.
use Rattle.std.proofs.Common.{◌≡◌, ◌||◌, ℕ, Bool, true, false, List, Option, Some, None, Result, Ok, Err, refl, sym, ap, ◌≢◌, not, ◌∙◌}
use Rattle.std.specs.FinMap as map
use Rattle.seq_base.specs.RefNames.{IsRefName}
use Rattle.seq_base.specs.World.{World, is_blocked}
use Rattle.seq_outside.specs.declared.halt.Halt.{Halt}
use Rattle.seq_outside.specs.declared.halt.Halt.TheVariants.{Stops, Fault, Memory}
use Rattle.seq_outside.specs.Halts as halts
use Rattle.seq_outside.specs.Halts.{stop_if}
use Rattle.std.proofs.lemmas.Bool.{false_from_ne_true}
use Rattle.std.proofs.lemmas.Slice.Eq.{bytes_eq-Decides}
use Rattle.seq_outside.specs.Turns.{Turns, go_on, looked, turn_for}
use Rattle.ref_text.specs.declared.head.Head.{Head}
use Rattle.ref_text.specs.declared.head.Head.TheVariants.{Detached}
use Rattle.ref_text.specs.declared.log.LogLine.{LogLine}
use Rattle.ref_text.specs.Heads.{head_text}
use Rattle.ref_text.specs.Refs.{IsWritable, head_name, log_path, logged, ref_path, set_ref}
use Rattle.ref_store.specs.declared.fault.RefFault.{RefFault}
use Rattle.ref_store.specs.declared.fault.RefFault.TheVariants.{Blocked, Moved}
use Rattle.ref_store.specs.Values.{value_at}
use Rattle.ref_store.specs.Changes.{NeverStops, expected_at, is_value, updated, head_line_put, head_noted, head_put, in_way_of, line_noted, line_put, noted, value_noted, value_put, writable_at}
use Rattle.ref_store.specs.Moves.{ref_set}
use Rattle.ref_store.proofs.Moving.{line_free, log_free, put_free}

writable_of : (a b : Bool) (name : List ℕ) → stop_if (a || b) (Blocked name) ≡ Ok tt → (a ≡ false) × (b ≡ false)
writable_of false false name h = (refl, refl)
writable_of false true name h = absurd cc
writable_of true b name h = absurd cc

pub free_of : (w : World) (name : List ℕ) → writable_at w name ≡ Ok tt → IsWritable w name
free_of w name h =
    let both = writable_of (is_blocked w (ref_path name)) (is_blocked w (log_path name)) name (unfold writable_at in h) in record { ref = both.0; log = both.1 }

ref_free : (w : World) (name id : List ℕ) → is_blocked w (ref_path name) ≡ false
    → ref_set name id w ≡ (Ok tt, map.insert w (ref_path name) (head_text (Detached id)))
ref_free w name id free = unfold ref_set in put_free w (ref_path name) (head_text (Detached id)) free

value_free : (w : World) (name id : List ℕ) → is_blocked w (ref_path name) ≡ false
    → value_put name id w ≡ (Ok tt, map.insert w (ref_path name) (head_text (Detached id)))
value_free w name id free = unfold value_put in ap (turn_for (in_way_of name)) (ref_free w name id free)

line_put_free : (w : World) (name : List ℕ) (line : LogLine) → is_blocked w (log_path name) ≡ false
    → line_put name line w ≡ (Ok tt, logged w name line)
line_put_free w name line free = unfold line_put in ap (turn_for (in_way_of name)) (line_free w name line free)

noted_free : (w : World) (name : List ℕ) (line : Option LogLine) → is_blocked w (log_path name) ≡ false
    → line_noted name line w ≡ (Ok tt, noted w name line)
noted_free w name None free = refl
noted_free w name (Some line) free = line_put_free w name line free

pub value_noted_free : (w : World) (name id : List ℕ) (line : Option LogLine) → IsRefName name → IsWritable w name
    → value_noted name id line w ≡ (Ok tt, noted (map.insert w (ref_path name) (head_text (Detached id))) name line)
value_noted_free w name id line is free =
    let text = head_text (Detached id) in
    unfold value_noted in rw (value_free w name id free.ref) (noted_free (map.insert w (ref_path name) text) name line (log_free w name name text is free.log))

head_put_free : (w : World) (head : Head) → is_blocked w (ref_path head_name) ≡ false
    → head_put head w ≡ (Ok tt, map.insert w (ref_path head_name) (head_text head))
head_put_free w head free = unfold head_put in ap (turn_for (in_way_of head_name)) (put_free w (ref_path head_name) (head_text head) free)

head_line_free : (w : World) (line : LogLine) → is_blocked w (log_path head_name) ≡ false → head_line_put line w ≡ (Ok tt, logged w head_name line)
head_line_free w line free = unfold head_line_put in line_put_free w head_name line free

pub head_noted_free : (w : World) (head : Head) (line : LogLine) → IsWritable w head_name
    → head_noted head line w ≡ (Ok tt, logged (map.insert w (ref_path head_name) (head_text head)) head_name line)
head_noted_free w head line free =
    unfold head_noted in rw (head_put_free w head free.ref) (head_line_free (map.insert w (ref_path head_name) (head_text head)) line (log_free w head_name head_name (head_text head) refl free.log))

-- what goes well does not stop
pub never_stops : (r : Result (Unit {0}) (Halt RefFault)) (means : Result (Unit {0}) RefFault × World) (world new : World) → means ≡ (Ok tt, world)
    → Turns (λ x. x) r means new → NeverStops r
never_stops (Ok x) means world new is turns = tt
never_stops (Err (Stops why)) means world new is turns =
    apart (Ok tt) (Err why) refl refl (ap (λ (p : Result (Unit {0}) RefFault × World). p.0) (sym is ∙ turns))
  where
    apart : (a b : Result (Unit {0}) RefFault) → a ≡ Ok tt → b ≡ Err why → a ≡ b → ⊥
    apart a b p q e = absurd cc
never_stops (Err Fault) means world new is turns = tt
never_stops (Err Memory) means world new is turns = tt

-- ---- an update as a whole

expected_is : (w : World) (name : List ℕ) (expected : Option (List ℕ)) (r : Result (Option (List ℕ)) RefFault) → value_at w name ≡ r
    → expected_at w name expected ≡ halts.◌>>=◌ r (λ found. stop_if (not (is_value found expected)) (Moved found))
expected_is w name expected r is =
    unfold expected_at in ap (λ (q : Result (Option (List ℕ)) RefFault). halts.◌>>=◌ q (λ found. stop_if (not (is_value found expected)) (Moved found))) is

same_value : (a : Option (List ℕ)) → is_value a a ≡ true
same_value None = refl
same_value (Some a) = (bytes_eq-Decides a a).1 refl

value_is : (a b : Option (List ℕ)) → is_value a b ≡ true → a ≡ b
value_is None None h = refl
value_is (Some a) (Some b) h = ap Some ((bytes_eq-Decides a b).0 h)
value_is None (Some b) h = absurd cc
value_is (Some a) None h = absurd cc

updated_at : (w : World) (name : List ℕ) (expected : Option (List ℕ)) (id : List ℕ) (line : Option LogLine)
    → updated name expected id line w ≡ go_on (looked (expected_at w name expected) w) (λ _ v. go_on (looked (writable_at v name) v) (λ _ u. value_noted name id line u))
updated_at w name expected id line = unfold updated in refl

-- a fault of the value is the answer
pub update_fails : (w : World) (name : List ℕ) (expected : Option (List ℕ)) (id : List ℕ) (line : Option LogLine) (why : RefFault)
    → value_at w name ≡ Err why → updated name expected id line w ≡ (Err why, w)
update_fails w name expected id line why is = updated_at w name expected id line ∙ rw (expected_is w name expected (Err why) is) refl

-- another value is Moved
pub update_moved : (w : World) (name : List ℕ) (expected : Option (List ℕ)) (id : List ℕ) (line : Option LogLine) (found : Option (List ℕ))
    → value_at w name ≡ Ok found → found ≢ expected → updated name expected id line w ≡ (Err (Moved found), w)
update_moved w name expected id line found is ne =
    let other : is_value found expected ≡ false = false_from_ne_true (is_value found expected) (λ same. ne (value_is found expected same)) in
    updated_at w name expected id line ∙ rw (expected_is w name expected (Ok found) is, other) refl

met : (w : World) (name : List ℕ) (expected : Option (List ℕ)) → value_at w name ≡ Ok expected → expected_at w name expected ≡ Ok tt
met w name expected is = expected_is w name expected (Ok expected) is ∙ ap (λ (b : Bool). stop_if (not b) (Moved expected)) (same_value expected)

-- what is in the way is Blocked
pub update_blocked : (w : World) (name : List ℕ) (expected : Option (List ℕ)) (id : List ℕ) (line : Option LogLine) → value_at w name ≡ Ok expected
    → is_blocked w (ref_path name) || is_blocked w (log_path name) ≡ true → updated name expected id line w ≡ (Err (Blocked name), w)
update_blocked w name expected id line is blocked =
    let not_free : writable_at w name ≡ Err (Blocked name) = unfold writable_at in rw blocked refl in
    updated_at w name expected id line ∙ rw (met w name expected is, not_free) refl

-- else the ref is set
pub update_sets : (w : World) (name : List ℕ) (expected : Option (List ℕ)) (id : List ℕ) (line : LogLine) → IsRefName name
    → value_at w name ≡ Ok expected → IsWritable w name → updated name expected id (Some line) w ≡ (Ok tt, set_ref w name id line)
update_sets w name expected id line told is free =
    let writable : writable_at w name ≡ Ok tt = unfold writable_at in rw (free.ref, free.log) refl in
    updated_at w name expected id (Some line) ∙ rw (met w name expected is, writable) (value_noted_free w name id (Some line) told free)

pub ruleset updates = (update_fails, update_moved, update_blocked, update_sets)
