-- What is wrong with plain words (git-rebase(1), "Options" and "Incompatible options"): a value, then a name that is missing, then a pair.
use Rattle.std.specs.Prelude.{ℕ, ◌^◌, Bool, false, not, ◌==◌, ◌&&◌, nat_lt, List, [], ◌∷◌, length, Option, Some, None, is_some, Result, Ok, Err, codes, if◌then◌else◌}
use Rattle.std.specs.Char.{is_ascii_digit}
use Rattle.std.specs.List.{filter, find, list_all, list_any}
use Rattle.std.specs.Option.{option_map, option_or}
use Rattle.std.specs.Str.{bytes_eq}
use Rattle.std.specs.Str.Parse.{digits_value}
use Rattle.todo_text.specs.Words.{from_word}
use Rattle.seq_model.specs.Given.{Given, given_by, is_given}
use Rattle.seq_model.specs.Rows.{Row, is_action, is_needed}
use Rattle.state_text.specs.declared.options.Empty.{Empty}
use Rattle.state_text.specs.declared.options.Empty.TheVariants.{Drop, Keep, Stop}
use Rattle.seq_model.specs.declared.form.Form.{Form}
use Rattle.seq_model.specs.declared.form.Form.TheVariants as form
use Rattle.seq_model.specs.declared.usage.UsageFault.{UsageFault}
use Rattle.seq_model.specs.declared.usage.UsageFault.TheVariants.{Parse, Value, Missing, Pair}

-- ---- values

abbrev pub empty_named : List ℕ → Option Empty
empty_named word =
    if bytes_eq word (codes "drop") then Some Drop
    else if bytes_eq word (codes "keep") then Some Keep
    else if bytes_eq word (codes "stop") then Some Stop
    else None

-- a parent's number, from 1: digits alone, and zeros may lead
abbrev pub parent_number : List ℕ → Option ℕ
parent_number word =
    let number = digits_value 10 word in
    if not (length word == 0) && list_all is_ascii_digit word && nat_lt 0 number && nat_lt number (2 ^ 32) then Some number else None

abbrev pub is_return : ℕ → Bool
is_return byte = byte == 13

-- a text without the carriage returns at its end
abbrev pub without_returns : List ℕ → List ℕ
without_returns [] = []
without_returns (b ∷ bs) = if list_all is_return (b ∷ bs) then [] else b ∷ without_returns bs

-- the command that a value of `-x` is
abbrev pub shell_command : List ℕ → List ℕ
shell_command word = without_returns (from_word word)

-- it stands on one line
abbrev pub is_shell_line : List ℕ → Bool
is_shell_line command = not (length command == 0) && list_all (λ b. not (b == 10)) command

abbrev pub is_bad_empty : Form → List ℕ → Bool
is_bad_empty form.Empty value = not (is_some (empty_named value))
is_bad_empty _ value = false

abbrev pub is_bad_number : Form → List ℕ → Bool
is_bad_number form.Number value = not (is_some (parent_number value))
is_bad_number _ value = false

abbrev pub is_bad_shell : Form → List ℕ → Bool
is_bad_shell form.Shell value = not (is_shell_line (shell_command value))
is_bad_shell _ value = false

-- the first value that is bad so
abbrev pub first_bad : (Form → List ℕ → Bool) → List Given → Option (List ℕ)
first_bad is_bad all = option_map (λ g. g.value) (find (λ g. is_bad g.row.form g.value) all)

-- the value of which to tell
abbrev pub bad_value : List Given → Option (List ℕ)
bad_value all = option_or (first_bad is_bad_empty all) (option_or (first_bad is_bad_number all) (first_bad is_bad_shell all))

-- ---- names and pairs

-- `--continue` or its like is given
abbrev pub is_acting : List Given → Bool
is_acting all = list_any (λ g. is_action g.row.form) all

-- a row that must stand is not given
abbrev pub lacks_one : List Row → List Given → Bool
lacks_one rows all = list_any (λ row. is_needed row.form && not (is_given all row.name)) rows

abbrev pub is_missing : List Row → List Given → Bool
is_missing rows all = not (is_acting all) && lacks_one rows all

-- the rows that are given, in their order
abbrev pub given_rows : List Given → List Row → List Row
given_rows all rows = filter (λ row. is_given all row.name) rows

abbrev pub first_two : List Row → Option UsageFault
first_two [] = None
first_two (first ∷ []) = None
first_two (first ∷ second ∷ rows) = Some (Pair first.name second.name)

-- `--continue` and its like stand first in the rows, and alone; `--keep-redundant-commits` is `--empty=keep`
abbrev pub pair_of : List Row → List Given → Option UsageFault
pair_of rows all =
    if is_acting all then first_two (given_rows all rows)
    else if is_given all (codes "--keep-redundant-commits") && is_given all (codes "--empty")
    then Some (Pair (codes "--keep-redundant-commits") (codes "--empty"))
    else None

abbrev pub fault_of : List Row → List Given → Option UsageFault
fault_of rows all =
    option_or (option_map Value (bad_value all))
    (option_or (if is_missing rows all then Some Missing else None) (pair_of rows all))

abbrev pub faultless : List Row → List Given → Result (List Given) UsageFault
faultless rows all = elim (fault_of rows all) [ None ↦ Ok all | Some fault ↦ Err fault ]

abbrev pub judged : List Row → Option (List Given) → Result (List Given) UsageFault
judged rows None = Err Parse
judged rows (Some all) = faultless rows all

-- what the words give, where nothing is wrong with them
abbrev pub read_by : List Row → List (List ℕ) → Result (List Given) UsageFault
read_by rows words = judged rows (given_by rows words)
