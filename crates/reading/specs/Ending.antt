-- The end of a rebase: its refs are compared, and all are written or none (git-rebase(1); git-update-ref(1)).
use Rattle.std.specs.Prelude.{Bool, true, false, not, ◌||◌, if◌then◌else◌, List, [], ◌∷◌, ◌++◌, map, codes}
use Rattle.std.specs.Prelude.{Option, Some, None, option_and_then, Result, Ok, Err}
use Rattle.std.specs.List.{find, list_any}
use Rattle.hex.specs.Hex.{encode_lower}
use Rattle.ref_store.specs.Changes.{head_put, head_set, is_barred, is_value, value_noted}
use Rattle.ref_store.specs.Values.{head_at, value_at}
use Rattle.ref_store.specs.declared.fault.RefFault.{RefFault}
use Rattle.ref_text.specs.declared.head.Head.{Head}
use Rattle.ref_text.specs.declared.head.Head.TheVariants.{Branch, Detached}
use Rattle.ref_text.specs.declared.log.LogLine.{LogLine}
use Rattle.seq_base.specs.Words.{Id, Name, Text}
use Rattle.seq_base.specs.World.{World, is_below}
use Rattle.seq_model.specs.Making.{value_of}
use Rattle.seq_model.specs.declared.reason.Reason.TheVariants.{BadName}
use Rattle.seq_model.specs.declared.stop.StopKind.TheVariants.{Blocked, RefMoved}
use Rattle.seq_outside.specs.Halts.{for_reason}
use Rattle.seq_outside.specs.Turns.{◌>>=◌, Turn, gives, looks, saying}
use Rattle.state_text.specs.declared.control.Control.{Control}
use Rattle.state_text.specs.declared.control.RefUpdate.{RefUpdate}
use Rattle.line_steps.specs.declared.setting.Setting.{Setting}
use Rattle.line_steps.specs.Places.{stop_of}
use Rattle.line_steps.specs.declared.stop.Stop.{Stop}
use Rattle.line_steps.specs.Writing.{reason_of_ref, turn_ident}
pub use Rattle.reading.specs.declared.end_ref.EndRef.{EndRef}

-- ---- the refs

abbrev pub update_ref : RefUpdate → EndRef
update_ref u = record { name = u.name; expected = u.expected; new = u.new; message = codes "rewritten during rebase"; is_update = true }

abbrev pub branch_ref : Control → Id → Option Name → List EndRef
branch_ref k head None = []
branch_ref k head (Some name) = record {
  name = name;
  expected = Some k.orig;
  new = Some head;
  message = codes "rebase (finish): " ++ name ++ codes " onto " ++ encode_lower k.onto;
  is_update = false;
} ∷ []

-- the branch first, then the others, in byte order of their names
abbrev pub end_refs : Control → Id → List RefUpdate → List EndRef
end_refs k head updates = branch_ref k head k.head_name ++ map update_ref updates

-- ---- compared

abbrev pub value_or_none : Result (Option Id) RefFault → Option Id
value_or_none (Ok value) = value
value_or_none (Err fault) = None

-- The value of a ref, and none of one that cannot be read. A ref of an `update-ref` line has none either where it is an id of zeros alone.
abbrev pub found_value : World → EndRef → Option Id
found_value w r = let value = value_or_none (value_at w r.name) in if r.is_update then option_and_then value_of value else value

abbrev pub has_moved : World → EndRef → Bool
has_moved w r = not (is_value (found_value w r) r.expected)

-- one of the refs lies below the other
abbrev pub is_among_folders : List EndRef → EndRef → Bool
is_among_folders refs r = list_any (λ (other : EndRef). is_below other.name r.name || is_below r.name other.name) refs

abbrev pub moved_stop : World → Option EndRef → Result (Unit {0}) Stop
moved_stop w None = Ok tt
moved_stop w (Some r) = Err (stop_of (RefMoved r.name (found_value w r)))

abbrev pub barred_stop : Option EndRef → Result (Unit {0}) Stop
barred_stop None = Ok tt
barred_stop (Some r) = Err (stop_of (Blocked (BadName r.name)))

-- no ref has moved
unfoldable pub none_moved : List EndRef → World → Result (Unit {0}) Stop
none_moved refs w = moved_stop w (find (has_moved w) refs)

-- each ref can be written
unfoldable pub all_writable : List EndRef → World → Result (Unit {0}) Stop
all_writable refs w = barred_stop (find (λ (r : EndRef). is_barred w r.name || is_among_folders refs r) refs)

-- ---- written

abbrev pub ref_stop : RefFault → Stop
ref_stop fault = stop_of (Blocked (reason_of_ref fault))

-- (an id of zeros alone stands for no value)
abbrev pub line_for : Setting → Option Id → Id → Text → LogLine
line_for setting old new message = record { old = option_and_then value_of old; new = new; ident = turn_ident setting; message = message }

abbrev pub ref_written : Setting → EndRef → Option Id → Turn Stop (Unit {0})
ref_written setting r None = gives tt
ref_written setting r (Some new) = saying ref_stop (value_noted r.name new (Some (line_for setting r.expected new r.message)))

unfoldable pub refs_written : Setting → List EndRef → Turn Stop (Unit {0})
refs_written setting [] = gives tt
refs_written setting (r ∷ refs) = do
  _ ← ref_written setting r r.new
  refs_written setting refs

-- HEAD is on a branch
abbrev pub is_attached : Head → Bool
is_attached (Branch name) = true
is_attached (Detached id) = false

abbrev pub detached_from : Id → Head → Turn Stop (Unit {0})
detached_from head on = if is_attached on then saying ref_stop (head_put (Detached head)) else gives tt

-- HEAD is detached at the result, without a line in its log
unfoldable pub head_detached : Id → Turn Stop (Unit {0})
head_detached head = do
  on ← looks (λ w. for_reason ref_stop (head_at w))
  detached_from head on

abbrev pub returning_line : Setting → Id → Name → LogLine
returning_line setting head name = line_for setting (Some head) head (codes "rebase (finish): returning to " ++ name)

-- HEAD is attached again; a rebase that began detached leaves it so, at the result
abbrev pub head_attached : Setting → Id → Option Name → Turn Stop (Unit {0})
head_attached setting head None = head_detached head
head_attached setting head (Some name) = saying ref_stop (head_set (Branch name) (returning_line setting head name))

unfoldable pub end_written : Setting → Control → Id → List EndRef → Turn Stop (Unit {0})
end_written setting k head refs = do
  _ ← refs_written setting refs
  head_attached setting head k.head_name

-- all refs are compared before any is written
unfoldable pub all_ended : Setting → Control → Id → List EndRef → Turn Stop (Unit {0})
all_ended setting k head refs = do
  _ ← looks (none_moved refs)
  _ ← looks (all_writable refs)
  end_written setting k head refs

-- The refs of a list that has used every line.
abbrev pub refs_ended : Setting → Control → Id → List RefUpdate → Turn Stop (Unit {0})
refs_ended setting k head updates = all_ended setting k head (end_refs k head updates)
