-- The object that the base of a word names (gitrevisions(7), "<refname>", "<sha1>" and "<refname>@{<n>}").
use Rattle.std.specs.Prelude.{ℕ, not, if◌then◌else◌, List, [], ◌∷◌, ◌++◌, codes, reverse, slice_get, is_some, Option, Some, None, Result, Ok, Err}
use Rattle.std.specs.Option.{option_map}
use Rattle.std.specs.Str.{bytes_eq}
use Rattle.seq_base.specs.RefNames.{is_ref_name}
use Rattle.seq_base.specs.Words.{Id, Name, Text}
use Rattle.seq_base.specs.World.{World}
use Rattle.seq_outside.specs.Halts.{◌>>=◌, for_reason, or_stop, stop_if}
use Rattle.objects.specs.Prefixes.{ids_with, is_prefix}
use Rattle.ref_store.specs.Values.{log_at, value_at}
use Rattle.ref_text.specs.ReadHeads.{id_in}
use Rattle.ref_text.specs.Refs.{head_name}
use Rattle.ref_text.specs.declared.log.LogLine.{LogLine}
use Rattle.rev_names.specs.Faults.{bad_ref}
use Rattle.rev_names.specs.declared.fault.RevFault.{RevFault}
use Rattle.rev_names.specs.declared.fault.RevFault.TheVariants.{NoSuch, Ambiguous, NoLogEntry, Form}
use Rattle.rev_names.specs.declared.refs.FoundRef.{FoundRef}

-- ---- names

-- `@` is HEAD
abbrev pub plain : Text → Text
plain base = if bytes_eq base (codes "@") then head_name else base

-- the names that a base may stand for, in the order in which they are tried
abbrev pub names_of : Text → List Name
names_of base =
    base ∷ (codes "refs/" ++ base) ∷ (codes "refs/tags/" ++ base) ∷ (codes "refs/heads/" ++ base) ∷ (codes "refs/remotes/" ++ base)
    ∷ (codes "refs/remotes/" ++ base ++ codes "/HEAD") ∷ []

abbrev pub label_name : Text → Name
label_name base = codes "refs/rewritten/" ++ base

-- ---- refs

-- the value of a name, if it is a ref's and has one
unfoldable pub value_of : World → Name → Result (Option Id) RevFault
value_of w name = if is_ref_name name then for_reason bad_ref (value_at w name) else Ok None

-- the ref of a name that has a value, else what is tried later
abbrev pub or_later : Name → Result (Option FoundRef) RevFault → Option Id → Result (Option FoundRef) RevFault
or_later name later (Some id) = Ok (Some (record { name = name; id = id }))
or_later name later None = later

-- the first of some names that is a ref's and has a value
unfoldable pub first_ref : World → List Name → Result (Option FoundRef) RevFault
first_ref w [] = Ok None
first_ref w (name ∷ names) = do
  value ← value_of w name
  or_later name (first_ref w names) value

-- the new value of the line so many before the last
abbrev pub new_before : ℕ → List LogLine → Option Id
new_before n lines = option_map (λ line. line.new) (slice_get (reverse lines) n)

-- an entry of the log of a ref, counted from the last
unfoldable pub entry_of : World → Name → ℕ → Result Id RevFault
entry_of w name n = do
  lines ← for_reason bad_ref (log_at w name)
  or_stop (new_before n lines) NoLogEntry

-- the value of a ref, or that of an entry of its log
unfoldable pub ref_id : World → FoundRef → Option ℕ → Result Id RevFault
ref_id w ref None = Ok ref.id
ref_id w ref (Some n) = entry_of w ref.name n

-- ---- ids

-- no log is kept of an id
abbrev pub no_entry : Option ℕ → Result (Unit {0}) RevFault
no_entry entry = stop_if (is_some entry) Form

abbrev pub only_one : List Id → Result Id RevFault
only_one [] = Err NoSuch
only_one (id ∷ []) = Ok id
only_one (first ∷ second ∷ more) = Err (Ambiguous first second)

-- the only object whose id begins with these digits
unfoldable pub id_with : World → Text → Option ℕ → Result Id RevFault
id_with w digits entry = do
  are ← stop_if (not (is_prefix digits)) NoSuch
  none ← no_entry entry
  only_one (ids_with w digits)

-- forty digits
unfoldable pub whole_id : Id → Option ℕ → Result Id RevFault
whole_id id entry = do
  none ← no_entry entry
  Ok id

-- ---- the base

-- what a ref that was found has, or else the object whose id begins so
abbrev pub ref_or_digits : World → Text → Option ℕ → Option FoundRef → Result Id RevFault
ref_or_digits w base entry (Some ref) = ref_id w ref entry
ref_or_digits w base entry None = id_with w base entry

unfoldable pub name_id : World → Text → Option ℕ → Result Id RevFault
name_id w base entry = do
  ref ← first_ref w (names_of (plain base))
  ref_or_digits w base entry ref

abbrev pub id_or_name : World → Text → Option ℕ → Option Id → Result Id RevFault
id_or_name w base entry (Some id) = whole_id id entry
id_or_name w base entry None = name_id w base entry

-- forty digits are an id; else the refs are looked up, and then ids that begin so
unfoldable pub base_id : World → Text → Option ℕ → Result Id RevFault
base_id w base entry = id_or_name w base entry (id_in base)

abbrev pub label_or_base : World → Text → Option ℕ → Option FoundRef → Result Id RevFault
label_or_base w base entry (Some ref) = ref_id w ref entry
label_or_base w base entry None = base_id w base entry

-- the ref of a label
unfoldable pub label_ref : World → Text → Result (Option FoundRef) RevFault
label_ref w base = first_ref w (label_name base ∷ [])

-- the same, where a label goes before all others
unfoldable pub label_id : World → Text → Option ℕ → Result Id RevFault
label_id w base entry = do
  label ← label_ref w base
  label_or_base w base entry label
