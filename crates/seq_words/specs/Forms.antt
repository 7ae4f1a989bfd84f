-- Which names the rows have whose values are judged.
use Rattle.std.specs.Prelude.{◌≡◌, ◌&&◌, ◌||◌, Bool, true, false, not, ℕ, List, codes}
use Rattle.std.specs.List.{list_all}
use Rattle.std.specs.Option.{option_map_or}
use Rattle.std.specs.Str.{bytes_eq}
use Rattle.seq_model.specs.Given.{Given, row_named}
use Rattle.seq_model.specs.Rows.{Row, is_action}
use Rattle.seq_model.specs.declared.form.Form.{Form}
use Rattle.seq_model.specs.declared.form.Form.TheVariants as form
use Rattle.clap.specs.declared.parser.matches.ArgMatches.{ArgMatches}
use Rattle.seq_words.specs.Told.{Holds}

abbrev pub same : Bool → Bool → Bool
same true b = b
same false b = not b

abbrev pub is_empty_form : Form → Bool
is_empty_form form.Empty = true
is_empty_form _ = false

abbrev pub is_number : Form → Bool
is_number form.Number = true
is_number _ = false

abbrev pub is_shell : Form → Bool
is_shell form.Shell = true
is_shell _ = false

abbrev pub is_action_name : List ℕ → Bool
is_action_name name = bytes_eq name (codes "--continue") || (bytes_eq name (codes "--skip") || (bytes_eq name (codes "--abort")
    || (bytes_eq name (codes "--quit") || bytes_eq name (codes "--edit-todo"))))

-- the row of this name has such a form
abbrev pub has_form : (Form → Bool) → List Row → List ℕ → Bool
has_form test rows name = option_map_or (λ row. test row.form) (row_named rows name) false

-- the row has such a form where it is the one of this name
abbrev pub only : (Form → Bool) → List Row → List ℕ → Row → Bool
only test rows name row = same (test row.form) (bytes_eq row.name name && has_form test rows name)

abbrev pub forms_fit : List Row → Row → Bool
forms_fit rows row = only is_empty_form rows (codes "--empty") row
    && (only is_number rows (codes "-m") row && (only is_shell rows (codes "-x") row && same (is_action row.form) (is_action_name row.name)))

-- a parse holds what the rows gave
abbrev pub HoldsOf : List Row → ArgMatches → List Given → Type 0
HoldsOf rows m all = Holds m all × (list_all (λ g. forms_fit rows g.row) all ≡ true)
