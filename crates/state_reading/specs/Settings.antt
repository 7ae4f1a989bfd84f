-- What `control` and `opts` say.
use Rattle.std.specs.Prelude.{◌≡◌, ℕ, ◌<◌, ◌^◌, Bool, true, false, not, ◌||◌, ◌==◌, nat_lt, if◌then◌else◌, [], ◌∷◌, ◌++◌, codes, Option, Some, None, Result, Ok, Err}
use Rattle.std.specs.Str.{bytes_eq}
use Rattle.grammar.specs.Decimals.{capped_decimal_at}
use Rattle.object_text.specs.Commits.{IsEncoding, encoding_text, is_header_value, line}
use Rattle.ident_text.specs.Ids.{id_from}
use Rattle.seq_base.specs.Ids.{IsId}
use Rattle.seq_base.specs.Words.{Id, Text}
use Rattle.state_text.specs.declared.control.Form.{Form}
use Rattle.state_text.specs.declared.control.Form.TheVariants.{New, Amend, Merge}
use Rattle.state_text.specs.declared.options.Empty.{Empty}
use Rattle.state_text.specs.declared.options.Empty.TheVariants as empty
use Rattle.state_text.specs.declared.stop_word.StopWord.{StopWord}
use Rattle.state_text.specs.declared.stop_word.StopWord.TheVariants as stop
use Rattle.state_text.specs.declared.verb.Verb.{Verb}
use Rattle.state_text.specs.declared.verb.Verb.TheVariants.{Rebase, CherryPick, Revert}
use Rattle.state_text.specs.Controls.{IfThere, IsForm}
use Rattle.state_text.specs.Texts.{edit_word, form_word, id_line, mainline_option, set_option}
use Rattle.state_text.specs.Words.{empty_word, stop_word, verb_word, yes_or_no}
use Rattle.state_reading.specs.declared.settings.Settings.{Settings}
use Rattle.state_reading.specs.declared.opts.SetOptions.{SetOptions}
use Rattle.state_reading.specs.Lines.{behind}
use Rattle.state_reading.specs.Values.{id_or_zeros, without_feed}

-- ---- lines one after the other

abbrev pub first_line : Text → Text
first_line [] = []
first_line (b ∷ bytes) = if b == 10 then [] else b ∷ first_line bytes

abbrev pub behind_line : Text → Text
behind_line [] = []
behind_line (b ∷ bytes) = if b == 10 then bytes else behind_line bytes

-- ---- words; what is none of them stands for the last

abbrev pub verb_at : Text → Verb
verb_at l = if bytes_eq l (codes "verb rebase") then Rebase else if bytes_eq l (codes "verb revert") then Revert else CherryPick

abbrev pub empty_at : Text → Empty
empty_at l = if bytes_eq l (codes "empty drop") then empty.Drop else if bytes_eq l (codes "empty keep") then empty.Keep else empty.Stop

abbrev pub ff_at : Text → Bool
ff_at l = bytes_eq l (codes "ff yes")

abbrev pub reschedule_at : Text → Bool
reschedule_at l = bytes_eq l (codes "reschedule yes")

abbrev pub late_stop_at : Text → StopWord
late_stop_at l =
    if bytes_eq l (codes "stop hook-refused") then stop.HookRefused
    else if bytes_eq l (codes "stop editor-failed") then stop.EditorFailed
    else if bytes_eq l (codes "stop empty-message") then stop.EmptyMessage
    else if bytes_eq l (codes "stop driver-broken") then stop.DriverBroken
    else if bytes_eq l (codes "stop blocked") then stop.Blocked
    else if bytes_eq l (codes "stop todo-bad") then stop.TodoBad
    else stop.RefMoved

abbrev pub stop_at : Text → StopWord
stop_at l =
    if bytes_eq l (codes "stop conflict") then stop.Conflict
    else if bytes_eq l (codes "stop edit") then stop.Edit
    else if bytes_eq l (codes "stop break") then stop.Break
    else if bytes_eq l (codes "stop exec-failed") then stop.ExecFailed
    else if bytes_eq l (codes "stop exec-dirty") then stop.ExecDirty
    else if bytes_eq l (codes "stop empty") then stop.Empty
    else late_stop_at l

-- ---- ids behind a key

abbrev pub id_behind : Option Text → Id
id_behind None = id_or_zeros []
id_behind (Some l) = id_or_zeros l

abbrev pub head_at : Text → Id
head_at l = id_behind (behind (codes "head ") l)

-- ---- the commit that is still to be made

abbrev pub is_edited : Text → Bool
is_edited rest = bytes_eq rest (codes " edit")

abbrev pub read_merge : Result (Id × Text) ℕ → Option (Form × Bool)
read_merge (Ok x) = Some (Merge x.0, is_edited x.1)
read_merge (Err left) = None

abbrev pub merge_at : Option Text → Option (Form × Bool)
merge_at None = None
merge_at (Some rest) = read_merge (id_from rest)

abbrev pub amend_at : Option Text → Text → Option (Form × Bool)
amend_at None l = merge_at (behind (codes "pending merge ") l)
amend_at (Some rest) l = Some (Amend, is_edited rest)

abbrev pub new_at : Option Text → Text → Option (Form × Bool)
new_at None l = amend_at (behind (codes "pending amend") l) l
new_at (Some rest) l = Some (New, is_edited rest)

abbrev pub pending_at : Text → Option (Form × Bool)
pending_at l = new_at (behind (codes "pending new") l) l

-- ---- the encoding, which may go on in further lines

-- a line feed is followed by a space
abbrev pub is_followed : ℕ → Text → Bool
is_followed b [] = not (b == 10)
is_followed b (c ∷ bytes) = not (b == 10) || c == 32

abbrev pub value_if : Text → Option Text
value_if value = if is_header_value value then Some value else None

abbrev pub value_behind : Option Text → Option Text
value_behind None = None
value_behind (Some rest) = value_if (without_feed rest)

abbrev pub encoding_at : Text → Option Text
encoding_at bytes = value_behind (behind (codes "encoding ") bytes)

-- an encoding is told of a pending commit alone
abbrev pub encoding_for : Option (Form × Bool) → Option Text → Option Text
encoding_for None encoding = None
encoding_for (Some told) encoding = encoding

-- ---- the file `control`

abbrev pub settings_at : Text → Settings
settings_at bytes =
    let verb_line = behind_line bytes in
    let empty_line = behind_line verb_line in
    let ff_line = behind_line empty_line in
    let reschedule_line = behind_line ff_line in
    let stop_line = behind_line reschedule_line in
    let head_line = behind_line stop_line in
    let pending_line = behind_line head_line in
    record {
      verb = verb_at (first_line verb_line);
      empty = empty_at (first_line empty_line);
      ff = ff_at (first_line ff_line);
      reschedule = reschedule_at (first_line reschedule_line);
      stop = stop_at (first_line stop_line);
      head = head_at (first_line head_line);
      pending = pending_at (first_line pending_line);
      encoding = encoding_for (pending_at (first_line pending_line)) (encoding_at (behind_line pending_line));
    }

abbrev pub pending_told : Option (Form × Bool) → Text
pending_told None = codes "none"
pending_told (Some told) = form_word told.0 ++ edit_word told.1

abbrev pub verbs_text : Settings → Text
verbs_text s =
    line (codes "gitseq 1")
    ++ line (codes "verb " ++ verb_word s.verb)
    ++ line (codes "empty " ++ empty_word s.empty)
    ++ line (codes "ff " ++ yes_or_no s.ff)
    ++ line (codes "reschedule " ++ yes_or_no s.reschedule)

abbrev pub stops_text : Settings → Text
stops_text s = line (codes "stop " ++ stop_word s.stop) ++ codes "head " ++ id_line s.head

-- the file that is written of them
abbrev pub settings_text : Settings → Text
settings_text s = verbs_text s ++ stops_text s ++ (codes "pending " ++ pending_told s.pending ++ 10 ∷ encoding_text s.encoding)

abbrev pub IsTold : Option (Form × Bool) → Option Text → Type 0
IsTold None encoding = encoding ≡ None
IsTold (Some told) encoding = IsForm told.0 × IsEncoding encoding

pub record IsSettings (s : Settings) : Type 0 where
  pub head : IsId s.head
  pub told : IsTold s.pending s.encoding

-- ---- the file `opts`

abbrev pub flag_key : Text → Text
flag_key key = 9 ∷ line (key ++ codes " = true")

abbrev pub is_there : Option Text → Bool
is_there None = false
is_there (Some rest) = true

abbrev pub rest_or : Option Text → Text → Text
rest_or None bytes = bytes
rest_or (Some rest) bytes = rest

-- whether the key stands there, and what stands behind it
abbrev pub has_flag : Text → Text → Bool
has_flag key bytes = is_there (behind (flag_key key) bytes)

abbrev pub behind_flag : Text → Text → Text
behind_flag key bytes = rest_or (behind (flag_key key) bytes) bytes

abbrev pub parent_of : ℕ → Option ℕ
parent_of n = if nat_lt n (2 ^ 32) then Some n else None

abbrev pub read_mainline : Result (ℕ × Text) ℕ → Text → Option ℕ × Text
read_mainline (Ok x) bytes = (parent_of x.0, x.1)
read_mainline (Err left) bytes = (None, bytes)

-- the parent against which merges are picked, and what stands behind it
abbrev pub mainline_behind : Option Text → Text → Option ℕ × Text
mainline_behind None bytes = (None, bytes)
mainline_behind (Some rest) bytes = read_mainline (capped_decimal_at 10 rest) rest

abbrev pub mainline_at : Text → Option ℕ × Text
mainline_at bytes = mainline_behind (behind (9 ∷ codes "mainline = ") bytes) bytes

abbrev pub flags_at : Option ℕ × Text → SetOptions
flags_at x =
    let behind_edit = behind_flag (codes "edit") x.1 in
    let behind_origin = behind_flag (codes "record-origin") behind_edit in
    record {
      mainline = x.0;
      edit = has_flag (codes "edit") x.1;
      record_origin = has_flag (codes "record-origin") behind_edit;
      allow_empty = has_flag (codes "allow-empty") behind_origin;
    }

abbrev pub opts_at : Text → SetOptions
opts_at bytes = flags_at (mainline_at (behind_line bytes))

abbrev pub set_text : SetOptions → Text
set_text o =
    line (codes "[options]")
    ++ mainline_option o.mainline
    ++ set_option o.edit (codes "edit")
    ++ set_option o.record_origin (codes "record-origin")
    ++ set_option o.allow_empty (codes "allow-empty")

abbrev pub IsParent : ℕ → Type 0
IsParent n = n < 2 ^ 32

abbrev pub AreSet : SetOptions → Type 0
AreSet o = IfThere IsParent o.mainline
