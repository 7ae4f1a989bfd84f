-- A rebase that is given up (git-rebase(1), "--abort" and "--quit").
use Rattle.std.specs.Prelude.{List, [], ◌++◌, codes, Option, Some, None, Result, Ok, Err}
use Rattle.hex.specs.Hex.{encode_lower}
use Rattle.index_file.specs.Index.{indexed}
use Rattle.index_file.specs.declared.entry.IndexEntry.{IndexEntry}
use Rattle.ref_store.specs.Changes.{head_set, value_noted}
use Rattle.ref_store.specs.Values.{value_at}
use Rattle.ref_text.specs.declared.head.Head.{Head}
use Rattle.ref_text.specs.declared.log.LogLine.{LogLine}
use Rattle.ref_text.specs.declared.head.Head.TheVariants.{Branch, Detached}
use Rattle.seq_base.specs.PathMaps.{Entries}
use Rattle.seq_base.specs.Words.{Id, Name, Text}
use Rattle.seq_base.specs.World.{World}
use Rattle.seq_model.specs.declared.reason.Reason.{Reason}
use Rattle.seq_outside.specs.Turns.{◌>>=◌, Turn, gives, looks, saying}
use Rattle.worktree.specs.ResetTurns.{reset_to}
use Rattle.reading.specs.Ending.{line_for, value_or_none}
use Rattle.line_steps.specs.Heads.{head_found, index_found, map_found}
use Rattle.line_steps.specs.declared.setting.Setting.{Setting}
use Rattle.line_steps.specs.Places.{reason_of}
use Rattle.reading.specs.State.{without_files, without_state}
use Rattle.line_steps.specs.Writing.{entries_or_none, reason_of_ref}
use Rattle.reading.specs.declared.before.Before.{Before}

abbrev pub id_or_none : Result Id Reason → Option Id
id_or_none (Ok id) = Some id
id_or_none (Err why) = None

abbrev pub map_or_none : World → Option Id → Entries
map_or_none w None = []
map_or_none w (Some head) = elim (map_found w head) [ Ok m ↦ m | Err why ↦ [] ]

-- the paths that the found index tracks, and those of the map of the found HEAD; what cannot be read tracks none
abbrev pub indexed_at : World → List IndexEntry
indexed_at w = entries_or_none (index_found w)

abbrev pub headed_at : World → List IndexEntry
headed_at w = indexed (map_or_none w (id_or_none (head_found w)))

abbrev pub value_before : World → Option Name → Option Id
value_before w None = None
value_before w (Some name) = value_or_none (value_at w name)

-- what an abort finds, before it changes anything
abbrev pub found_before : Option Name → World → Before
found_before name w = record { value = value_before w name; head = id_or_none (head_found w); index = indexed_at w; tracked = headed_at w }

-- index and files of a map, over both
unfoldable pub tracked_reset : Before → Entries → Turn Reason (Unit {0})
tracked_reset found old = do
  _ ← saying reason_of (reset_to found.index old)
  saying reason_of (reset_to found.tracked old)

-- where HEAD goes back to, and how its log tells it
abbrev pub head_before : Option Name → Id → Head
head_before None orig = Detached orig
head_before (Some name) orig = Branch name

abbrev pub name_before : Option Name → Id → Text
name_before None orig = encode_lower orig
name_before (Some name) orig = name

abbrev pub branch_line : Setting → Name → Id → Option Id → LogLine
branch_line setting name orig value = line_for setting value orig (codes "rebase (abort): " ++ name)

-- the branch is at the old head again, whatever it was at
abbrev pub branch_back : Setting → Option Name → Id → Before → Turn Reason (Unit {0})
branch_back setting None orig found = gives tt
branch_back setting (Some name) orig found = saying reason_of_ref (value_noted name orig (Some (branch_line setting name orig found.value)))

abbrev pub back_line : Setting → Option Name → Id → Before → LogLine
back_line setting name orig found = line_for setting found.head orig (codes "rebase (abort): returning to " ++ name_before name orig)

-- and so is HEAD
abbrev pub head_back : Setting → Option Name → Id → Before → Turn Reason (Unit {0})
head_back setting name orig found = saying reason_of_ref (head_set (head_before name orig) (back_line setting name orig found))

unfoldable pub refs_back : Setting → Option Name → Id → Before → Turn Reason (Unit {0})
refs_back setting name orig found = do
  _ ← branch_back setting name orig found
  head_back setting name orig found

-- nothing of the list's state is left
abbrev pub state_cleared : Turn Reason (Unit {0})
state_cleared w = (Ok tt, without_state w)

-- index and files are those of the old head
unfoldable pub files_back : Before → Entries → Turn Reason (Unit {0})
files_back found old = do
  _ ← tracked_reset found old
  state_cleared

-- Branch, HEAD, index and files as before the start, by what was found.
unfoldable pub aborted_from : Setting → Option Name → Id → Before → Turn Reason (Unit {0})
aborted_from setting name orig found = do
  old ← looks (λ w. map_found w orig)
  _ ← refs_back setting name orig found
  files_back found old

-- a rebase of this branch, which was at that commit, is given up
unfoldable pub aborted : Setting → Option Name → Id → Turn Reason (Unit {0})
aborted setting name orig w = aborted_from setting name orig (found_before name w) w

-- where it is not told where the branch was, nothing but the list's files goes
abbrev pub given_up : Setting → Option (Option Name × Id) → Turn Reason (Unit {0})
given_up setting None w = (Ok tt, without_files w)
given_up setting (Some before) w = aborted setting before.0 before.1 w

-- a list is left as it stands, without its state
abbrev pub quitted : World → World
quitted w = without_state w
