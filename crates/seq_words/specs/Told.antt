-- What `clap` is told of the rows, and what it is to hold.
use Rattle.std.specs.Prelude.{◌≡◌, ◌⊎◌, ◌<◌, ◌==◌, ⊤, ℕ, Bool, true, false, List, [], ◌∷◌, Option, Some, if◌then◌else◌}
use Rattle.std.specs.List.{fold}
use Rattle.seq_model.specs.Given.{Given, is_dashed}
use Rattle.seq_model.specs.Rows.{Row, is_argument, is_flag}
use Rattle.clap.specs.Lexer.{has_byte}
use Rattle.clap.specs.Walk as clap
use Rattle.clap.specs.Matches.{found_of}
use Rattle.clap.specs.declared.parser.matches.ArgMatches.{ArgMatches}
use Rattle.clap.specs.Walk.{Rule, Text, rows_of, arg_by_id, arg_by_index, arg_by_long, arg_by_short, with_values}
use Rattle.clap.specs.declared.builder.action.ArgAction.TheVariants.{Append}
use Rattle.clap.specs.declared.builder.value_parser.Reading.TheVariants.{AsWritten}
use Rattle.clap.specs.declared.builder.value_parser.ValueParser.TheVariants.{String}
use Rattle.clap.specs.declared.parser.matches.ValueSource.TheVariants.{CommandLine}

-- an argument of a built command: each use of it is kept, and one of a flag has the empty value
abbrev pub told_as : Text → Option Text → Option ℕ → Option ℕ → Bool → Rule
told_as name long short index flag = record {
  id = name;
  long = long;
  aliases = [];
  short = short;
  short_aliases = [];
  index = index;
  action = Some Append;
  range = Some (record {
    start_inclusive = if flag then 0 else 1;
    end_inclusive = if flag then 0 else 1;
  });
  value_names = 0;
  defaults = [];
  missing = if flag then [] ∷ [] else [];
  trailing_var_arg = false;
  parser = Some String;
  ignore_case = false;
  required = false;
  is_simple = true;
  is_free = true;
}

-- the row is an option with a long name
pub record IsLong (c : List Rule) (row : Row) (rule : Rule) : Type 0 where
  pub first : ℕ
  pub rest : Text
  pub name : row.name ≡ 45 ∷ 45 ∷ first ∷ rest
  pub whole : has_byte 61 (first ∷ rest) ≡ false
  pub found : arg_by_long c (first ∷ rest) ≡ Some rule
  pub option : is_argument row.form ≡ false

-- the row is an option of one letter
pub record IsShort (c : List Rule) (row : Row) (rule : Rule) : Type 0 where
  pub letter : ℕ
  pub name : row.name ≡ 45 ∷ letter ∷ []
  pub ascii : letter < 128
  pub other : (letter == 45) ≡ false
  pub found : arg_by_short c letter ≡ Some rule
  pub option : is_argument row.form ≡ false

-- the row is the argument
pub record IsArgument (c : List Rule) (row : Row) (rule : Rule) : Type 0 where
  pub name : is_dashed row.name ≡ false
  pub found : arg_by_index c 1 ≡ Some rule
  pub valued : is_flag row.form ≡ false

-- a built command knows the row by its name
pub record Fits (c : List Rule) (row : Row) : Type 0 where
  pub long : Option Text
  pub short : Option ℕ
  pub index : Option ℕ
  pub flag : Bool
  pub form : is_flag row.form ≡ flag
  pub by_id : arg_by_id c row.name ≡ Some (told_as row.name long short index flag)
  pub way : IsLong c row (told_as row.name long short index flag)
      ⊎ (IsShort c row (told_as row.name long short index flag)
      ⊎ IsArgument c row (told_as row.name long short index flag))

abbrev pub AllFit : List Rule → List Row → Type 0
AllFit c [] = ⊤
AllFit c (row ∷ rows) = Fits c row × AllFit c rows

-- a use, as a parse keeps it
abbrev pub kept : List clap.Row → Given → List clap.Row
kept rows g = with_values g.row.name AsWritten CommandLine (g.value ∷ []) rows

-- what a parse holds of all that was given
abbrev pub all_kept : List clap.Row → List Given → List clap.Row
all_kept = fold kept

-- a parse holds what was given
abbrev pub Holds : ArgMatches → List Given → Type 0
Holds m all = rows_of (found_of m) ≡ all_kept [] all
