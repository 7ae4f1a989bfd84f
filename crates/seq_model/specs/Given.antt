-- What the words behind a verb give (git-rebase(1) and its like, "Options"; gitcli(7)): flags, options with their values, and arguments.
use Rattle.std.specs.Prelude.{ℕ, Bool, true, false, ◌==◌, ◌&&◌, ◌||◌, ◌++◌, List, [], ◌∷◌, Option, Some, None, codes, take, drop, count_by, nat_lt, if◌then◌else◌}
use Rattle.std.specs.List.{find, list_all, list_any, before_first, after_first}
use Rattle.std.specs.Option.{option_and_then, option_map}
use Rattle.std.specs.Str.{bytes_eq}
use Rattle.seq_base.specs.StorePaths.{is_text}
use Rattle.seq_model.specs.Rows.{Row, is_argument, is_flag, is_repeated}

-- a row, and the value that it has; a flag's is empty
pub record Given : Type 0 where
  pub row : Row
  pub value : List ℕ

abbrev pub begins_with : ℕ → List ℕ → Bool
begins_with byte [] = false
begins_with byte (b ∷ word) = b == byte

-- the word has a leading `-`
abbrev pub is_dashed : List ℕ → Bool
is_dashed = begins_with 45

-- the word has two leading `-`
abbrev pub is_long : List ℕ → Bool
is_long word = is_dashed word && is_dashed (drop 1 word)

abbrev pub is_equals : ℕ → Bool
is_equals byte = byte == 61

abbrev pub row_named : List Row → List ℕ → Option Row
row_named rows name = find (λ row. bytes_eq row.name name) rows

abbrev pub argument_row : List Row → Option Row
argument_row rows = find (λ row. is_argument row.form) rows

-- what the next word is to be: any word, an option's value, or an argument, since `--` was met
pub data Expected : Type 0 where
  any : Expected
  value_of : Row → Expected
  argument : Expected

-- what a word gives, if it gives something, and what is then expected
pub record Step : Type 0 where
  pub gives : List Given
  pub next : Expected

abbrev pub gives : Row → List ℕ → Expected → Step
gives row value next = record { gives = record { row = row; value = value } ∷ []; next = next }

abbrev pub awaits : Expected → Step
awaits next = record { gives = []; next = next }

-- a value in the option's own word
abbrev pub attached : List ℕ → Row → Option Step
attached value row = if is_flag row.form then None else Some (gives row value any)

-- `--onto=X`
abbrev pub long_value : List Row → List ℕ → Option Step
long_value rows word = option_and_then (attached (after_first is_equals word)) (row_named rows (before_first is_equals word))

-- `-mN`, where N does not begin with `=`
abbrev pub short_value : List Row → List ℕ → Option Step
short_value rows word =
    if begins_with 61 (drop 2 word) then None else option_and_then (attached (drop 2 word)) (row_named rows (take 2 word))

abbrev pub with_value : List Row → List ℕ → Option Step
with_value rows word = if is_long word then long_value rows word else short_value rows word

-- a flag, or an option whose value is the next word
abbrev pub named : List ℕ → Row → Step
named word row = if is_flag row.form then gives row [] any else awaits (value_of row)

abbrev pub dashed : Option Row → List Row → List ℕ → Option Step
dashed (Some row) rows word = Some (named word row)
dashed None rows word = with_value rows word

abbrev pub as_argument : List Row → List ℕ → Expected → Option Step
as_argument rows word next = option_map (λ row. gives row word next) (argument_row rows)

abbrev pub any_word : List Row → List ℕ → Option Step
any_word rows word =
    if bytes_eq word (codes "--") then Some (awaits argument)
    else if is_dashed word then dashed (row_named rows word) rows word
    else as_argument rows word any

-- what one word comes to, and None where it may not stand there
abbrev pub step : List Row → Expected → List ℕ → Option Step
step rows any word = any_word rows word
step rows (value_of row) word = if is_dashed word then None else Some (gives row word any)
step rows argument word = as_argument rows word argument

-- no option waits for its value
abbrev pub has_ended : Expected → Bool
has_ended any = true
has_ended (value_of row) = false
has_ended argument = true

-- what the words give behind what was given before, one word after another
abbrev pub given_behind : List Row → List Given → Expected → List (List ℕ) → Option (List Given)
given_behind rows before expected [] = if has_ended expected then Some before else None
given_behind rows before expected (word ∷ words) =
    option_and_then (λ s. given_behind rows (before ++ s.gives) s.next words) (step rows expected word)

abbrev pub is_row : List ℕ → Given → Bool
is_row name g = bytes_eq g.row.name name

abbrev pub is_given : List Given → List ℕ → Bool
is_given all name = list_any (is_row name) all

-- nothing stands twice but what may be repeated
abbrev pub is_single : List Row → List Given → Bool
is_single rows all = list_all (λ row. is_repeated row.form || nat_lt (count_by (is_row row.name) all) 2) rows

abbrev pub if_single : List Row → List Given → Option (List Given)
if_single rows all = if is_single rows all then Some all else None

-- what the words give, and None where they are not plain
abbrev pub given_by : List Row → List (List ℕ) → Option (List Given)
given_by rows words =
    if list_all is_text words then option_and_then (if_single rows) (given_behind rows [] any words) else None
