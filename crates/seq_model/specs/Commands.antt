-- What the words of the command line ask for (git-rebase(1), git-cherry-pick(1), git-revert(1), "Synopsis").
use Rattle.std.specs.Prelude.{ℕ, Bool, true, false, not, ◌||◌, List, [], ◌∷◌, map, Option, Some, None, unwrap_or, Result, Ok, Err, codes, if◌then◌else◌}
use Rattle.std.specs.List.{filter, find}
use Rattle.std.specs.Option.{option_and_then, option_map}
use Rattle.std.specs.Str.{bytes_eq}
use Rattle.seq_model.specs.Given.{Given, is_given, is_row}
use Rattle.seq_model.specs.Faults.{empty_named, parent_number, read_by, shell_command}
use Rattle.seq_model.specs.Rows.{cat_rows, cherry_pick_rows, commit_rows, paths_rows, rebase_rows, revert_rows}
use Rattle.seq_model.specs.declared.command.Command.{Command}
use Rattle.seq_model.specs.declared.command.Command.TheVariants.{Start, Act, Plumb}
use Rattle.state_text.specs.declared.options.Empty.{Empty}
use Rattle.state_text.specs.declared.options.Empty.TheVariants.{Drop, Keep, Stop}
use Rattle.state_text.specs.declared.options.Options.{Options}
use Rattle.seq_model.specs.declared.command.PlumbWords.TheVariants.{Init, Add, Rm, Commit, Status, Cat}
use Rattle.seq_model.specs.declared.command.StartWords.{StartWords}
use Rattle.seq_model.specs.declared.usage.UsageFault.{UsageFault}
use Rattle.seq_model.specs.declared.usage.UsageFault.TheVariants.{NoVerb, UnknownVerb}
use Rattle.seq_model.specs.declared.verb.Action.{Action}
use Rattle.seq_model.specs.declared.verb.Action.TheVariants.{Continue, Skip, Abort, Quit, EditTodo}
use Rattle.state_text.specs.declared.verb.Verb.{Verb}
use Rattle.state_text.specs.declared.verb.Verb.TheVariants.{Rebase, CherryPick, Revert}

-- the value of an option or of an argument
abbrev pub value_given : List Given → List ℕ → Option (List ℕ)
value_given all name = option_map (λ g. g.value) (find (is_row name) all)

-- the values, in the order given
abbrev pub values_given : List Given → List ℕ → List (List ℕ)
values_given all name = map (λ g. g.value) (filter (is_row name) all)

abbrev pub action_given : List Given → Option Action
action_given all =
    if is_given all (codes "--continue") then Some Continue
    else if is_given all (codes "--skip") then Some Skip
    else if is_given all (codes "--abort") then Some Abort
    else if is_given all (codes "--quit") then Some Quit
    else if is_given all (codes "--edit-todo") then Some EditTodo
    else None

abbrev pub empty_given : List Given → Option Empty
empty_given all = option_and_then empty_named (value_given all (codes "--empty"))

abbrev pub mainline_given : List Given → Option ℕ
mainline_given all = option_and_then parent_number (value_given all (codes "-m"))

-- without `--empty` a rebase stops with `-i`, else keeps with `-x`, else drops
abbrev pub rebase_empty : List Given → Empty
rebase_empty all = unwrap_or (empty_given all)
    (if is_given all (codes "-i") then Stop else if is_given all (codes "-x") then Keep else Drop)

abbrev pub cherry_pick_empty : List Given → Empty
cherry_pick_empty all = if is_given all (codes "--keep-redundant-commits") then Keep else unwrap_or (empty_given all) Stop

abbrev pub is_keep : Empty → Bool
is_keep Keep = true
is_keep _ = false

abbrev pub rebase_options : List Given → Options
rebase_options all = record {
  ff = not (is_given all (codes "--no-ff"));
  empty = rebase_empty all;
  reschedule = is_given all (codes "--reschedule-failed-exec");
  mainline = None;
  edit = false;
  record_origin = false;
  allow_empty = false;
}

abbrev pub rebase_start : List Given → StartWords
rebase_start all = record {
  verb = Rebase;
  options = rebase_options all;
  revs = values_given all (codes "UPSTREAM");
  onto = value_given all (codes "--onto");
  interactive = is_given all (codes "-i");
  merges = is_given all (codes "--rebase-merges");
  autosquash = is_given all (codes "--autosquash");
  update_refs = is_given all (codes "--update-refs");
  execs = map shell_command (values_given all (codes "-x"));
}

abbrev pub picks : Verb → Options → List Given → StartWords
picks verb options all = record {
  verb = verb;
  options = options;
  revs = values_given all (codes "REV");
  onto = None;
  interactive = false;
  merges = false;
  autosquash = false;
  update_refs = false;
  execs = [];
}

-- to keep commits that become empty is to allow those that are
abbrev pub cherry_pick_options : List Given → Options
cherry_pick_options all = record {
  ff = false;
  empty = cherry_pick_empty all;
  reschedule = false;
  mainline = mainline_given all;
  edit = is_given all (codes "-e");
  record_origin = is_given all (codes "-x");
  allow_empty = is_given all (codes "--allow-empty") || is_keep (cherry_pick_empty all);
}

abbrev pub revert_options : List Given → Options
revert_options all = record {
  ff = false;
  empty = Stop;
  reschedule = false;
  mainline = mainline_given all;
  edit = is_given all (codes "-e");
  record_origin = false;
  allow_empty = false;
}

-- `--continue` or its like, or else a start
abbrev pub act_or : Verb → List Given → StartWords → Command
act_or verb all start = elim (action_given all) [ Some action ↦ Act verb action | None ↦ Start start ]

abbrev pub rebase : List Given → Command
rebase all = act_or Rebase all (rebase_start all)

abbrev pub cherry_pick : List Given → Command
cherry_pick all = act_or CherryPick all (picks CherryPick (cherry_pick_options all) all)

abbrev pub revert : List Given → Command
revert all = act_or Revert all (picks Revert (revert_options all) all)

abbrev pub init : List Given → Command
init all = Plumb Init

abbrev pub status : List Given → Command
status all = Plumb Status

abbrev pub add : List Given → Command
add all = Plumb (Add (values_given all (codes "PATH")))

abbrev pub rm : List Given → Command
rm all = Plumb (Rm (values_given all (codes "PATH")))

abbrev pub commit : List Given → Command
commit all = Plumb (Commit (is_given all (codes "--amend")) (unwrap_or (value_given all (codes "-m")) []))

abbrev pub cat : List Given → Command
cat all = Plumb (Cat (unwrap_or (value_given all (codes "HEX")) []))

abbrev pub asks : (List Given → Command) → Result (List Given) UsageFault → Result Command UsageFault
asks command (Ok all) = Ok (command all)
asks command (Err fault) = Err fault

-- what the words behind a verb ask for
abbrev pub behind_verb : List ℕ → List (List ℕ) → Result Command UsageFault
behind_verb verb words =
    if bytes_eq verb (codes "rebase") then asks rebase (read_by rebase_rows words)
    else if bytes_eq verb (codes "cherry-pick") then asks cherry_pick (read_by cherry_pick_rows words)
    else if bytes_eq verb (codes "revert") then asks revert (read_by revert_rows words)
    else if bytes_eq verb (codes "init") then asks init (read_by [] words)
    else if bytes_eq verb (codes "add") then asks add (read_by paths_rows words)
    else if bytes_eq verb (codes "rm") then asks rm (read_by paths_rows words)
    else if bytes_eq verb (codes "commit") then asks commit (read_by commit_rows words)
    else if bytes_eq verb (codes "status") then asks status (read_by [] words)
    else if bytes_eq verb (codes "cat") then asks cat (read_by cat_rows words)
    else Err (UnknownVerb verb)

-- what the words of the command line ask for, or what is wrong with them
abbrev pub command_of : List (List ℕ) → Result Command UsageFault
command_of [] = Err NoVerb
command_of (verb ∷ words) = behind_verb verb words
