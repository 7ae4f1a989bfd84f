-- Refs that are changed, as steps over a world (git-update-ref(1), git-symbolic-ref(1)).
use Rattle.std.specs.FinMap as map
use Rattle.std.specs.Prelude.{◌≡◌, ◌⊎◌, Bool, true, false, not, ◌||◌, if◌then◌else◌, Option, Some, None, Result, Ok, Err, List, is_some}
use Rattle.std.specs.Ordering.{eq_by_cmp}
use Rattle.std.specs.Str.{bytes_eq}
use Rattle.seq_base.specs.Words.{Id, Name, Path}
use Rattle.seq_base.specs.World.{World, is_blocked, path_cmp}
use Rattle.seq_outside.specs.declared.halt.Halt.{Halt}
use Rattle.seq_outside.specs.declared.halt.Halt.TheVariants.{Stops, Fault, Memory}
use Rattle.seq_outside.specs.declared.lack.Lack.{Lack}
use Rattle.seq_outside.specs.Halts as halts
use Rattle.seq_outside.specs.Halts.{stop_if}
use Rattle.seq_outside.specs.Turns.{◌>>=◌, Turn, gives, looks, saying, put_in}
use Rattle.ref_text.specs.declared.log.LogLine.{LogLine}
use Rattle.ref_text.specs.Refs.{logged, log_path, ref_path, head_name, is_packed, packed_path, without}
use Rattle.ref_text.specs.declared.head.Head.{Head}
use Rattle.ref_text.specs.Heads.{head_text}
use Rattle.ref_text.specs.Packed.{packed_text}
use Rattle.ref_text.specs.ReadPacked.{Ref}
use Rattle.ref_store.specs.Moves.{line_added, ref_set}
use Rattle.ref_store.specs.Values.{value_at, packed_at}
use Rattle.ref_store.specs.declared.fault.RefFault.{RefFault}
use Rattle.ref_store.specs.declared.fault.RefFault.TheVariants.{Blocked, Moved}

abbrev pub is_value : Option Id → Option Id → Bool
is_value None None = true
is_value (Some a) (Some b) = bytes_eq a b
is_value None (Some b) = false
is_value (Some a) None = false

-- a name has the value that is expected
unfoldable pub expected_at : World → Name → Option Id → Result (Unit {0}) RefFault
expected_at w name expected = halts.◌>>=◌ (value_at w name) (λ found. stop_if (not (is_value found expected)) (Moved found))

-- something is in the way of a name's file, or of its log
abbrev pub is_barred : World → Name → Bool
is_barred w name = is_blocked w (ref_path name) || is_blocked w (log_path name)

unfoldable pub writable_at : World → Name → Result (Unit {0}) RefFault
writable_at w name = stop_if (is_barred w name) (Blocked name)

abbrev pub in_way_of : Name → Lack → RefFault
in_way_of name lack = Blocked name

unfoldable pub value_put : Name → Id → Turn RefFault (Unit {0})
value_put name id = saying (in_way_of name) (ref_set name id)

unfoldable pub line_put : Name → LogLine → Turn RefFault (Unit {0})
line_put name line = saying (in_way_of name) (line_added name line)

-- the log of a name has the line, if one is given
abbrev pub line_noted : Name → Option LogLine → Turn RefFault (Unit {0})
line_noted name None = gives tt
line_noted name (Some line) = line_put name line

-- the world with the line
abbrev pub noted : World → Name → Option LogLine → World
noted w name None = w
noted w name (Some line) = logged w name line

-- a name has the value, and its log the line
unfoldable pub value_noted : Name → Id → Option LogLine → Turn RefFault (Unit {0})
value_noted name id line = do
  _ ← value_put name id
  line_noted name line

-- a name that has the expected value is given another
unfoldable pub updated : Name → Option Id → Id → Option LogLine → Turn RefFault (Unit {0})
updated name expected id line = do
  _ ← looks (λ w. expected_at w name expected)
  _ ← looks (λ w. writable_at w name)
  value_noted name id line

-- what an update with a line comes to
abbrev pub UpdateIs : World → Name → Option Id → Id → LogLine → Result (Unit {0}) RefFault × World → Type 0
UpdateIs w name expected id line means = updated name expected id (Some line) w ≡ means

-- HEAD's file has the text
unfoldable pub head_put : Head → Turn RefFault (Unit {0})
head_put head = saying (in_way_of head_name) (put_in (ref_path head_name) (head_text head))

unfoldable pub head_line_put : LogLine → Turn RefFault (Unit {0})
head_line_put line = line_put head_name line

unfoldable pub head_noted : Head → LogLine → Turn RefFault (Unit {0})
head_noted head line = do
  _ ← head_put head
  head_line_put line

-- HEAD is set, and its log has the line
unfoldable pub head_set : Head → LogLine → Turn RefFault (Unit {0})
head_set head line = do
  _ ← looks (λ w. writable_at w head_name)
  head_noted head line

-- the packed refs are written anew without the name
unfoldable pub repacked : Name → List Ref → Turn RefFault (Unit {0})
repacked name refs = saying (in_way_of name) (put_in packed_path (packed_text (without name refs)))

-- the same, where they have it
unfoldable pub unpacked_from : Name → List Ref → Turn RefFault (Unit {0})
unpacked_from name refs w = if is_packed refs name then repacked name refs w else gives tt w

-- a name's own file is removed; whether it was there
unfoldable pub loose_removed : Name → Turn RefFault Bool
loose_removed name w = (Ok (is_some (map.get w (ref_path name))), map.remove w (ref_path name))

unfoldable pub removed_from : Name → List Ref → Turn RefFault Bool
removed_from name refs = do
  _ ← unpacked_from name refs
  loose_removed name

-- whether a name was there, loose or packed, once it is gone
unfoldable pub deleted_from : Name → List Ref → Turn RefFault Bool
deleted_from name refs = do
  there ← removed_from name refs
  gives (is_packed refs name || there)

-- a name is loose, or among these packed refs
abbrev pub is_there : World → List Ref → Name → Bool
is_there w refs name = is_packed refs name || is_some (map.get w (ref_path name))

-- a name is deleted, loose and packed
unfoldable pub deleted : Name → Turn RefFault Bool
deleted name = do
  refs ← looks packed_at
  deleted_from name refs

-- ---- what a call did

-- what stood in the way of a put is in the way of the name
abbrev pub IsBlockedFor : Name → Result (Unit {0}) (Halt Lack) → Result (Unit {0}) (Halt RefFault) → Type 0
IsBlockedFor name (Ok x) result = result ≡ Ok tt
IsBlockedFor name (Err (Stops lack)) result = (result ≡ Err (Stops (Blocked name))) ⊎ (result ≡ Err Memory)
IsBlockedFor name (Err Fault) result = result ≡ Err Fault
IsBlockedFor name (Err Memory) result = result ≡ Err Memory

-- it stopped for no reason
abbrev pub NeverStops : {X : Type 0} → Result X (Halt RefFault) → Type 0
NeverStops (Ok x) = Unit {0}
NeverStops (Err (Stops why)) = ⊥
NeverStops (Err Fault) = Unit {0}
NeverStops (Err Memory) = Unit {0}

-- where it stopped for a reason, nothing was changed
abbrev pub KeepsIfStopped : {X : Type 0} → Result X (Halt RefFault) → World → World → Type 0
KeepsIfStopped (Ok x) old new = Unit {0}
KeepsIfStopped (Err (Stops why)) old new = new ≡ old
KeepsIfStopped (Err Fault) old new = Unit {0}
KeepsIfStopped (Err Memory) old new = Unit {0}

-- a path that is neither a name's file nor its log
pub record IsOutside (name path : Path) : Type 0 where
  pub ref : eq_by_cmp path_cmp path (ref_path name) ≡ false
  pub log : eq_by_cmp path_cmp path (log_path name) ≡ false

-- a path that is neither a name's file nor that of the packed refs
pub record IsNotDeleted (name path : Path) : Type 0 where
  pub ref : eq_by_cmp path_cmp path (ref_path name) ≡ false
  pub packed : eq_by_cmp path_cmp path packed_path ≡ false
