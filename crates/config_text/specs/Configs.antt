-- git-config(1), "Syntax": which texts are configurations, and which settings they have. A text is a row of lines; each may have
-- a header, a setting and a comment, in this order. A value may go over several lines of the file.
use Rattle.std.specs.Prelude.{◌≡◌, ℕ, ◌==◌, Bool, true, false, not, ◌&&◌, if◌then◌else◌, List, [], ◌∷◌, ◌++◌, length, map, Option, Some, None, codes}
use Rattle.std.specs.List.{list_all, flat_map}
use Rattle.config_text.specs.declared.config.Setting.{Setting}
use Rattle.config_text.specs.Bytes.{is_comment_mark, is_in_line, is_section_byte, is_letter, is_key_byte, is_sub_byte, is_plain_sub_byte, lower, is_include}
use Rattle.config_text.specs.Values.{Part, part_text, is_value, value_of}
use Rattle.seq_base.specs.Blanks.{is_blank}

-- ---- a header: `[section]` or `[section "sub"]`

-- a byte of a subsection, as it stands or behind a `\`
pub data SubPart : Type 0 where
  Plain : ℕ → SubPart
  Quoted : ℕ → SubPart

abbrev pub sub_part_text : SubPart → List ℕ
sub_part_text (Plain b) = b ∷ []
sub_part_text (Quoted b) = 92 ∷ b ∷ []

abbrev pub is_sub_part : SubPart → Bool
is_sub_part (Plain b) = is_plain_sub_byte b
is_sub_part (Quoted b) = is_sub_byte b

abbrev pub sub_part_byte : SubPart → ℕ
sub_part_byte (Plain b) = b
sub_part_byte (Quoted b) = b

pub record Sub : Type 0 where
  pub blanks : List ℕ
  pub parts : List SubPart

pub record Header : Type 0 where
  pub section : List ℕ
  pub sub : Option Sub
  pub blanks : List ℕ

abbrev pub sub_text : Option Sub → List ℕ
sub_text None = []
sub_text (Some sub) = sub.blanks ++ 34 ∷ flat_map sub_part_text sub.parts ++ 34 ∷ []

abbrev pub header_text : Option Header → List ℕ
header_text None = []
header_text (Some header) = 91 ∷ header.section ++ sub_text header.sub ++ 93 ∷ header.blanks

-- at least one blank stands before the quoted subsection
abbrev pub is_sub : Option Sub → Bool
is_sub None = true
is_sub (Some sub) = not (length sub.blanks == 0) && list_all is_blank sub.blanks && list_all is_sub_part sub.parts

abbrev pub is_header : Option Header → Bool
is_header None = true
is_header (Some header) =
    not (length header.section == 0) && list_all is_section_byte header.section && is_sub header.sub && list_all is_blank header.blanks

-- the subsection: empty where none is written
abbrev pub sub_of : Option Sub → List ℕ
sub_of None = []
sub_of (Some sub) = map sub_part_byte sub.parts

-- the section that holds behind a header, in lower case, and its subsection
abbrev pub section_behind : List ℕ → Option Header → List ℕ
section_behind section None = section
section_behind section (Some header) = lower header.section

abbrev pub sub_behind : List ℕ → Option Header → List ℕ
sub_behind sub None = sub
sub_behind sub (Some header) = sub_of header.sub

-- ---- a setting: `key` or `key = value`

pub record Assignment : Type 0 where
  pub key : List ℕ
  pub blanks : List ℕ
  pub value : Option (List Part)

abbrev pub value_text : Option (List Part) → List ℕ
value_text None = []
value_text (Some parts) = 61 ∷ flat_map part_text parts

abbrev pub assignment_text : Option Assignment → List ℕ
assignment_text None = []
assignment_text (Some a) = a.key ++ a.blanks ++ value_text a.value

abbrev pub is_key : List ℕ → Bool
is_key [] = false
is_key (b ∷ bs) = is_letter b && list_all is_key_byte bs

abbrev pub is_written : Option (List Part) → Bool
is_written None = true
is_written (Some parts) = is_value false parts

-- no key stands before the first section
abbrev pub is_assignment : List ℕ → Option Assignment → Bool
is_assignment section None = true
is_assignment section (Some a) = not (length section == 0) && is_key a.key && list_all is_blank a.blanks && is_written a.value

-- a key alone has the value `true`
abbrev pub given : Option (List Part) → List ℕ
given None = codes "true"
given (Some parts) = value_of parts

-- the setting, with section and key in lower case
abbrev pub kept : List ℕ → List ℕ → List ℕ → List ℕ → List Setting
kept section sub key value =
    if is_include section then [] else record { section = section; sub = sub; key = key; value = value } ∷ []

abbrev pub assigned : List ℕ → List ℕ → Option Assignment → List Setting
assigned section sub None = []
assigned section sub (Some a) = kept section sub (lower a.key) (given a.value)

-- ---- lines

pub record Line : Type 0 where
  pub indent : List ℕ
  pub header : Option Header
  pub assignment : Option Assignment
  pub comment : List ℕ

abbrev pub is_comment : List ℕ → Bool
is_comment [] = true
is_comment (b ∷ bs) = is_comment_mark b && list_all is_in_line bs

abbrev pub line_text : Line → List ℕ
line_text l = l.indent ++ header_text l.header ++ assignment_text l.assignment ++ l.comment ++ 10 ∷ []

-- behind this section
abbrev pub is_line : List ℕ → Line → Bool
is_line section l =
    list_all is_blank l.indent && is_header l.header && is_assignment (section_behind section l.header) l.assignment && is_comment l.comment

-- each of these lines may stand so; before the first header the section is empty
abbrev pub are_lines : List ℕ → List Line → Bool
are_lines section [] = true
are_lines section (l ∷ ls) = is_line section l && are_lines (section_behind section l.header) ls

abbrev pub settings_of : List ℕ → List ℕ → List Line → List Setting
settings_of section sub [] = []
settings_of section sub (l ∷ ls) =
    assigned (section_behind section l.header) (sub_behind sub l.header) l.assignment
    ++ settings_of (section_behind section l.header) (sub_behind sub l.header) ls

-- without each CR that stands before LF
abbrev pub begins_with_feed : List ℕ → Bool
begins_with_feed [] = false
begins_with_feed (b ∷ bs) = b == 10

abbrev pub without_returns : List ℕ → List ℕ
without_returns [] = []
without_returns (b ∷ bs) = if (b == 13) && begins_with_feed bs then without_returns bs else b ∷ without_returns bs

-- The text is a configuration with these settings, in their order. Its last line may lack the LF.
pub record IsConfig (settings : List Setting) (text : List ℕ) : Type 0 where
  pub lines : List Line
  pub are : are_lines [] lines ≡ true
  pub text_is : without_returns text ++ 10 ∷ [] ≡ flat_map line_text lines
  pub settings_are : settings ≡ settings_of [] [] lines
