-- Reading a tree from left to right.
use Rattle.std.specs.Prelude.{◌≡◌, ℕ, Bool, true, false, not, ◌&&◌, ◌==◌, nat_lt, if◌then◌else◌, List, [], ◌∷◌, length, Option, Some, None, Result, Ok}
use Rattle.std.specs.List.{AllByRecursion, list_all}
use Rattle.std.specs.Str.{bytes_eq}
use Rattle.grammar.specs.Keywords.{may_of, value_of}
use Rattle.grammar.specs.Readers.{◌>>=◌, valued_at, front_at, end_at, star_at}
use Rattle.seq_base.specs.Words.{Name, Text}
use Rattle.seq_base.specs.declared.mode.Mode.{Mode}
use Rattle.seq_base.specs.declared.mode.Mode.TheVariants.{File, Exec, Link, Gitlink, Folder}
use Rattle.seq_base.specs.Modes.{mode_text}
use Rattle.seq_base.specs.PathMaps.{is_less}
use Rattle.object_text.specs.declared.tree.TreeEntry.{TreeEntry}
use Rattle.object_text.specs.Trees.{key, is_name_byte, is_name, IsBefore}

-- the words of the modes
abbrev pub modes : List (Text × Mode)
modes = (mode_text File, File) ∷ (mode_text Exec, Exec) ∷ (mode_text Link, Link) ∷ (mode_text Gitlink, Gitlink) ∷ (mode_text Folder, Folder) ∷ []

unfoldable pub mode_from : Text → Result (Mode × Text) ℕ
mode_from bytes = valued_at (may_of modes) (value_of modes) 32 bytes

-- some text that begins so comes after a
abbrev pub may_rise : Name → Text → Bool
may_rise a [] = true
may_rise [] (b ∷ front) = true
may_rise (a ∷ as') (b ∷ front) = if a == b then may_rise as' front else nat_lt a b

-- a name behind an entry of this key begins so
abbrev pub may_name : Name → Text → Bool
may_name last front = list_all is_name_byte front && may_rise last front

-- the front of a name is a front of the last key
abbrev pub is_tied : Name → Text → Bool
is_tied [] last = true
is_tied (b ∷ front) [] = false
is_tied (b ∷ front) (c ∷ last) = if c == b then is_tied front last else false

-- what is known of a name and the last key, a byte at a time
pub record HasSeen (last : Name) (tied : Bool) (seen : Text) : Type 0 where
  pub goes_on : may_name last seen ≡ true
  pub tied_is : tied ≡ is_tied seen last

-- of the entries so far, the newest of them first; [] for none
abbrev pub last_key : List TreeEntry → Name
last_key [] = []
last_key (d ∷ ds) = key d.mode d.name

-- no entry so far has this name
abbrev pub is_new : List TreeEntry → Name → Bool
is_new earlier name = list_all (λ d. not (bytes_eq d.name name)) earlier

-- an entry may stand behind those so far
abbrev pub may_follow : List TreeEntry → Mode → Name → Bool
may_follow earlier mode name = is_name name && is_less (last_key earlier) (key mode name) && is_new earlier name

-- each of the entries so far, the newest of them first, stands behind those that follow here
abbrev pub IsTreeSoFar : List TreeEntry → Type 0
IsTreeSoFar [] = Unit {0}
IsTreeSoFar (e ∷ es) = (is_name e.name ≡ true) × AllByRecursion (λ d. IsBefore d e) es × IsTreeSoFar es

abbrev pub name_value : List TreeEntry → Mode → Text → Option Name
name_value earlier mode w = if may_follow earlier mode w then Some w else None

unfoldable pub name_from : List TreeEntry → Mode → Text → Result (Name × Text) ℕ
name_from earlier mode bytes = valued_at (may_name (last_key earlier)) (name_value earlier mode) 0 bytes

unfoldable pub entry_from : List TreeEntry → Text → Result (TreeEntry × Text) ℕ
entry_from earlier bytes = do
  mode ← mode_from bytes
  name ← name_from earlier mode.0 mode.1
  id ← front_at 20 name.1
  Ok (record { mode = mode.0; name = name.0; id = id.0 }, id.1)

abbrev pub grown : List TreeEntry → TreeEntry → List TreeEntry
grown earlier e = e ∷ earlier

abbrev pub any_byte : ℕ → Bool
any_byte b = true

-- all entries
unfoldable pub tree_from : Text → Result (List TreeEntry) ℕ
tree_from bytes = do
  entries ← star_at any_byte grown entry_from (λ s rest. end_at rest) (length bytes) [] bytes
  Ok entries.0
