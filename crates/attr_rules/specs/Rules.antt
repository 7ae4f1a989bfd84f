-- gitattributes(5), "DESCRIPTION": the lines of a rule file.
use Rattle.std.specs.Prelude.{ℕ, ◌-◌, ◌==◌, Bool, not, ◌||◌, if◌then◌else◌, List, [], ◌∷◌, Option, Some, None, length, take, slice_index}
use Rattle.std.specs.List.{slice_split, filter_map, before_first, after_first}
use Rattle.attr_rules.specs.declared.rules.Line.{Line}
use Rattle.attr_rules.specs.Names.{have_names}
use Rattle.seq_base.specs.Blanks.{is_blank}

-- the rules of a file: its folder, and its lines
pub record RuleFile : Type 0 where
  pub folder : List ℕ
  pub lines : List Line

abbrev pub is_feed : ℕ → Bool
is_feed b = b == 10

-- without the CR at the end
abbrev pub without_return : List ℕ → List ℕ
without_return line = if slice_index line (length line - 1) == 13 then take (length line - 1) line else line

-- without the blanks at the front
abbrev pub without_blanks : List ℕ → List ℕ
without_blanks [] = []
without_blanks (b ∷ bs) = if is_blank b then without_blanks bs else b ∷ bs

-- it begins with `#`, `!` or `"`
abbrev pub is_other : ℕ → Bool
is_other b = (b == 35) || (b == 33) || (b == 34)

-- a pattern, and behind a blank its attributes, each by a name that an attribute may have
abbrev pub rule_of : List ℕ → Option Line
rule_of [] = None
rule_of (b ∷ bs) =
    if is_other b then None
    else if not (have_names (after_first is_blank (b ∷ bs))) then None
    else Some (record { pattern = before_first is_blank (b ∷ bs); attributes = after_first is_blank (b ∷ bs) })

abbrev pub line_of : List ℕ → Option Line
line_of line = rule_of (without_blanks (without_return line))

-- the lines that are not passed over
abbrev pub lines_of : List ℕ → List Line
lines_of text = filter_map line_of (slice_split is_feed text)
