-- Reading a configuration from left to right: what is known behind a front of it, in which each CR before LF is dropped.
use Rattle.std.specs.Prelude.{◌≡◌, ℕ, ◌==◌, Bool, true, false, not, ◌&&◌, ◌||◌, if◌then◌else◌, List, [], ◌∷◌, ◌++◌, length, Option, Some, None, codes}
use Rattle.std.specs.Char.{to_ascii_lowercase}
use Rattle.config_text.specs.declared.config.Setting.{Setting}
use Rattle.config_text.specs.declared.place.Place.{Place}
use Rattle.config_text.specs.declared.place.Place.TheVariants.{Start, Indented, Section, BehindSection, Sub, SubEscape, BehindSub, BehindHeader, Key, BehindKey, Value, ValueEscape, Quoted, QuotedEscape, Comment}
use Rattle.config_text.specs.Bytes.{is_comment_mark, is_section_byte, is_letter, is_key_byte, is_sub_byte, escaped}
use Rattle.config_text.specs.Configs.{kept}
use Rattle.seq_base.specs.Blanks.{is_blank}

pub record State : Type 0 where
  pub place : Place
  pub settings : List Setting
  pub section : List ℕ
  pub sub : List ℕ
  pub key : List ℕ
  -- the value so far, without the blanks at its end
  pub value : List ℕ
  pub blanks : List ℕ

abbrev pub start : State
start = record { place = Start; settings = []; section = []; sub = []; key = []; value = []; blanks = [] }

abbrev pub moved : Place → State → State
moved place s = record s { place = place }

-- the setting is whole
abbrev pub with_setting : State → State
with_setting s = record s { settings = s.settings ++ kept s.section s.sub s.key s.value }

abbrev pub with_content : Place → State → ℕ → State
with_content place s b = record s { place = place; value = s.value ++ s.blanks ++ b ∷ []; blanks = [] }

abbrev pub with_blank : State → ℕ → State
with_blank s b = if length s.value == 0 then s else record s { blanks = s.blanks ++ b ∷ [] }

-- the end of the line, or a comment
abbrev pub is_end : ℕ → Bool
is_end b = (b == 10) || is_comment_mark b

abbrev pub behind_end : ℕ → Place
behind_end b = if b == 10 then Start else Comment

-- a setting or a comment may begin
abbrev pub at_item : Place → State → ℕ → Option State
at_item place s b =
    if is_end b then Some (moved (behind_end b) s)
    else if is_blank b then Some (moved place s)
    else if is_letter b && not (length s.section == 0) then Some (record s { place = Key; key = to_ascii_lowercase b ∷ []; value = codes "true" })
    else None

abbrev pub at_front : State → ℕ → Option State
at_front s b = if b == 91 then Some (record s { place = Section; section = []; sub = [] }) else at_item Indented s b

abbrev pub in_section : State → ℕ → Option State
in_section s b =
    if is_section_byte b then Some (record s { section = s.section ++ to_ascii_lowercase b ∷ [] })
    else if length s.section == 0 then None
    else if b == 93 then Some (moved BehindHeader s)
    else if is_blank b then Some (moved BehindSection s)
    else None

abbrev pub behind_section : State → ℕ → Option State
behind_section s b = if is_blank b then Some s else if b == 34 then Some (moved Sub s) else None

abbrev pub behind_backslash : State → ℕ → Option State
behind_backslash s b = if is_sub_byte b then Some (record s { place = Sub; sub = s.sub ++ b ∷ [] }) else None

abbrev pub in_sub : State → ℕ → Option State
in_sub s b = if b == 34 then Some (moved BehindSub s) else if b == 92 then Some (moved SubEscape s) else behind_backslash s b

abbrev pub behind_sub : State → ℕ → Option State
behind_sub s b = if b == 93 then Some (moved BehindHeader s) else None

abbrev pub behind_key : State → ℕ → Option State
behind_key s b =
    if b == 61 then Some (record s { place = Value; value = []; blanks = [] })
    else if is_blank b then Some (moved BehindKey s)
    else if is_end b then Some (moved (behind_end b) (with_setting s))
    else None

abbrev pub in_key : State → ℕ → Option State
in_key s b = if is_key_byte b then Some (record s { key = s.key ++ to_ascii_lowercase b ∷ [] }) else behind_key s b

abbrev pub in_value : State → ℕ → Option State
in_value s b =
    if is_end b then Some (moved (behind_end b) (with_setting s))
    else if b == 34 then Some (moved Quoted s)
    else if b == 92 then Some (moved ValueEscape s)
    else if is_blank b then Some (with_blank s b)
    else Some (with_content Value s b)

abbrev pub in_quotes : State → ℕ → Option State
in_quotes s b =
    if b == 10 then None
    else if b == 34 then Some (moved Value s)
    else if b == 92 then Some (moved QuotedEscape s)
    else Some (with_content Quoted s b)

abbrev pub with_escaped : Place → State → Option ℕ → Option State
with_escaped place s None = None
with_escaped place s (Some b) = Some (with_content place s b)

abbrev pub in_escape : Place → State → ℕ → Option State
in_escape place s b = if b == 10 then Some (moved place s) else with_escaped place s (escaped b)

abbrev pub in_comment : State → ℕ → Option State
in_comment s b = if b == 10 then Some (moved Start s) else Some s

-- behind a byte, if it may stand there
abbrev pub step_at : Place → State → ℕ → Option State
step_at Start s b = at_front s b
step_at Indented s b = at_front s b
step_at Section s b = in_section s b
step_at BehindSection s b = behind_section s b
step_at Sub s b = in_sub s b
step_at SubEscape s b = behind_backslash s b
step_at BehindSub s b = behind_sub s b
step_at BehindHeader s b = at_item BehindHeader s b
step_at Key s b = in_key s b
step_at BehindKey s b = behind_key s b
step_at Value s b = in_value s b
step_at ValueEscape s b = in_escape Value s b
step_at Quoted s b = in_quotes s b
step_at QuotedEscape s b = in_escape Quoted s b
step_at Comment s b = in_comment s b

unfoldable pub step : State → ℕ → Option State
step s b = step_at s.place s b

-- a CR may stand there, or LF, before which it is dropped
abbrev pub may_return : Place → Bool
may_return Section = false
may_return BehindSection = false
may_return BehindSub = false
may_return place = true

abbrev pub is_start : Place → Bool
is_start Start = true
is_start place = false

abbrev pub whole : Option State → Option (List Setting)
whole None = None
whole (Some s) = if is_start s.place then Some s.settings else None

-- it went on to that state, or there is none
abbrev pub Went : Option State → Bool → State → Type 0
Went None went now = went ≡ false
Went (Some s) went now = (went ≡ true) × (now ≡ s)
