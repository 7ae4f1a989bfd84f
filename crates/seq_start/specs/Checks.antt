-- The checks of a rebase's start that stand before its own children, and the todo that it generates (git-rebase(1)).
use Rattle.std.specs.Prelude.{◌∷◌, [], not, unwrap_or, ◌==◌, ◌&&◌, if◌then◌else◌, is_some, List, length, codes}
use Rattle.std.specs.Prelude.{false, true, Bool, Option, Some, None, Result, Ok, Err}
use Rattle.std.specs.FinMap as map
use Rattle.std.specs.List.{list_all}
use Rattle.child_jobs.specs.Editors.{editor_for}
use Rattle.config_text.specs.declared.config.Setting.{Setting}
use Rattle.history.specs.Loads.{loaded}
use Rattle.merge_base.specs.Ranges.{range}
use Rattle.merge_base.specs.declared.graph.Node.{Node}
use Rattle.ref_text.specs.declared.head.Head.{Head}
use Rattle.ref_text.specs.declared.head.Head.TheVariants.{Branch, Detached}
use Rattle.seq_base.specs.Blanks.{is_blank}
use Rattle.seq_base.specs.Words.{Id, Name, Path, Text}
use Rattle.seq_base.specs.World.{World}
use Rattle.index_file.specs.declared.entry.IndexEntry.{IndexEntry}
use Rattle.seq_model.specs.Basis.{basis_at, unmerged}
use Rattle.seq_model.specs.Checks.{born, commit_by, is_repository}
use Rattle.seq_model.specs.Committers.{committer_in}
use Rattle.seq_model.specs.Pick.{clean_map}
use Rattle.seq_model.specs.Refusing.{denied_file, refuse_found, refuse_if}
use Rattle.seq_model.specs.Settings.{settings_in}
use Rattle.seq_model.specs.declared.command.StartWords.{StartWords}
use Rattle.seq_model.specs.declared.denial.Denial.{Denial}
use Rattle.seq_model.specs.declared.denial.Denial.TheVariants.{Refused}
use Rattle.seq_model.specs.declared.place.Place.{Place}
use Rattle.seq_model.specs.declared.refusal.Refusal.TheVariants.{InProgress, NoSuchRev, NotBuilt, Unmerged}
use Rattle.seq_outside.specs.Halts.{◌>>=◌, for_reason}
use Rattle.seq_outside.specs.Store.{files_below}
use Rattle.seq_outside.specs.declared.env.Env.{Env}
use Rattle.state_text.specs.declared.control.Control.{Control}
use Rattle.state_text.specs.declared.control.Left.TheVariants.{Lines}
use Rattle.state_text.specs.declared.options.Options.{Options}
use Rattle.state_text.specs.declared.stop_word.StopWord.TheVariants.{Break}
use Rattle.state_text.specs.declared.verb.Verb.{Verb}
use Rattle.state_text.specs.declared.verb.Verb.TheVariants.{Rebase, CherryPick, Revert}
use Rattle.todo_plan.specs.Groups.{with_execs}
use Rattle.todo_plan.specs.Linear.{linear_todo}
use Rattle.todo_text.specs.Todos.{todo_text}
use Rattle.reading.specs.Opening.{Checks, Opened}
use Rattle.reading.specs.declared.checked.Checked.{Checked}
use Rattle.seq_start.specs.declared.opening.Opened.{Opened as Found}

-- ---- no other command is in progress

unfoldable pub lacks_folder : World → Path → Result (Unit {0}) Denial
lacks_folder w path = refuse_if (not (length (files_below w path) == 0)) (InProgress path)

unfoldable pub lacks_file : World → Path → Result (Unit {0}) Denial
lacks_file w path = refuse_if (is_some (map.get w path)) (InProgress path)

-- git-rebase(1)
unfoldable pub no_rebase : World → Result (Unit {0}) Denial
no_rebase w = lacks_folder w (codes ".git/rebase-merge")

-- git-cherry-pick(1), git-revert(1)
unfoldable pub no_sequence : World → Result (Unit {0}) Denial
no_sequence w = lacks_folder w (codes ".git/sequencer")

-- git-am(1)
unfoldable pub no_mailbox : World → Result (Unit {0}) Denial
no_mailbox w = lacks_folder w (codes ".git/rebase-apply")

unfoldable pub no_pick : World → Result (Unit {0}) Denial
no_pick w = lacks_file w (codes ".git/CHERRY_PICK_HEAD")

unfoldable pub no_revert : World → Result (Unit {0}) Denial
no_revert w = lacks_file w (codes ".git/REVERT_HEAD")

unfoldable pub no_merge : World → Result (Unit {0}) Denial
no_merge w = lacks_file w (codes ".git/MERGE_HEAD")

unfoldable pub no_list : World → Result (Unit {0}) Denial
no_list w = do
  _ ← no_rebase w
  _ ← no_sequence w
  no_mailbox w

unfoldable pub no_head : World → Result (Unit {0}) Denial
no_head w = do
  _ ← no_pick w
  _ ← no_revert w
  no_merge w

unfoldable pub is_idle : World → Result (Unit {0}) Denial
is_idle w = do
  _ ← no_list w
  no_head w

-- ---- the todo that is generated

-- the commits that HEAD has and the upstream has not
abbrev pub commits_of : List Node → Id → Id → List Id
commits_of graph upstream head = range graph (upstream ∷ []) (head ∷ [])

-- their lines, and the commands behind each
abbrev pub todo_by : StartWords → Id → Id → List Node → Text
todo_by words upstream head graph = todo_text (with_execs words.execs (linear_todo graph (commits_of graph upstream head)))

unfoldable pub generated : StartWords → Id → Id → World → Result Text Denial
generated words upstream head w = do
  graph ← for_reason denied_file (loaded w (upstream ∷ head ∷ []))
  Ok (todo_by words upstream head graph)

-- ---- the words

abbrev pub is_rebase : Verb → Bool
is_rebase Rebase = true
is_rebase CherryPick = false
is_rebase Revert = false

-- no option that a rebase does not have
abbrev pub are_rebase_options : Options → Bool
are_rebase_options options = not (is_some options.mainline) && (not options.edit && (not options.record_origin && not options.allow_empty))

-- it stands on one line, and begins with no blank
abbrev pub is_command : Text → Bool
is_command [] = false
is_command (b ∷ bs) = not (is_blank b) && list_all (λ c. not (c == 10)) (b ∷ bs)

abbrev pub lacks_options : StartWords → Bool
lacks_options words = not words.merges && (not words.autosquash && not words.update_refs)

-- what is asked for is built
abbrev pub is_built : StartWords → Bool
is_built words = is_rebase words.verb && (lacks_options words && (are_rebase_options words.options && list_all is_command words.execs))

-- the word that gives the upstream
abbrev pub upstream_of : List Text → Result Text Denial
upstream_of [] = Err (Refused NotBuilt)
upstream_of (upstream ∷ []) = Ok upstream
upstream_of (upstream ∷ other ∷ revs) = Err (Refused NotBuilt)

unfoldable pub upstream_in : StartWords → Result Text Denial
upstream_in words = do
  _ ← refuse_if (not (is_built words)) NotBuilt
  upstream_of words.revs

-- the commit of the word that gives what is rebased onto; a log tells of that word on one line
unfoldable pub onto_by : World → Text → Result Id Denial
onto_by w word = do
  onto ← commit_by w word
  _ ← refuse_if (not (list_all (λ b. not (b == 10)) word)) (NoSuchRev word)
  Ok onto

abbrev pub branch_of : Head → Option Name
branch_of (Branch name) = Some name
branch_of (Detached id) = None

-- the control with which a list begins; its lines are those of the todo
abbrev pub control_of : StartWords → Head → Id → Id → Text → Control
control_of words on head onto todo = record {
  verb = Rebase;
  options = words.options;
  head_name = branch_of on;
  orig = head;
  onto = onto;
  done = [];
  left = Lines [];
  backup = todo;
  labels = [];
  updates = [];
  rewritten = [];
  waiting = [];
  chain = [];
  stop = Break;
  stopped_head = head;
  stopped_commit = None;
  pending = None;
}

abbrev pub editor_asked : StartWords → List Setting → Env → Option Text
editor_asked words settings env = if words.interactive then editor_for settings env true else None

-- ---- all of them

unfoldable pub clean_for : List IndexEntry → Id → World → Result (Unit {0}) Denial
clean_for index head w = do
  _ ← refuse_found (unmerged index) Unmerged
  _ ← clean_map w head index
  Ok tt

-- what was checked, with the words that gave its commits
abbrev pub checked_as : StartWords → Env → Head → List Setting → Text → Text → Id → Id → Text → Checked
checked_as words env on settings upstream_word onto_word onto head todo = record {
  control = control_of words on head onto todo;
  upstream = upstream_word;
  onto_word = onto_word;
  editor = editor_asked words settings env;
}

-- the todo of a list that can be picked, once its commits are known
unfoldable pub todo_for : StartWords → Env → List Setting → List IndexEntry → Id → Id → World → Result Text Denial
todo_for words env settings index upstream head w = do
  _ ← committer_in env.vars settings
  _ ← clean_for index head w
  generated words upstream head w

-- with HEAD's commit
unfoldable pub todo_at : StartWords → Env → Option Id → List Setting → List IndexEntry → Id → World → Result (Id × Text) Denial
todo_at words env tip settings index upstream w = do
  head ← born tip
  todo ← todo_for words env settings index upstream head w
  Ok (head, todo)

-- the commits are known
unfoldable pub checked_from : StartWords → Env → Place → List Setting → List IndexEntry → Text → Text → Id → Id → World → Result Checked Denial
checked_from words env place settings index upstream_word onto_word onto upstream w = do
  found ← todo_at words env place.tip settings index upstream w
  Ok (checked_as words env place.head settings upstream_word onto_word onto found.0 found.1)

unfoldable pub checked_with : StartWords → Env → Place → List Setting → List IndexEntry → Text → Text → World → Result Checked Denial
checked_with words env place settings index upstream_word onto_word w = do
  onto ← onto_by w onto_word
  upstream ← commit_by w upstream_word
  checked_from words env place settings index upstream_word onto_word onto upstream w

unfoldable pub checked_at : StartWords → Env → Text → World → Result Checked Denial
checked_at words env upstream w = do
  basis ← basis_at w
  checked_with words env basis.place basis.settings basis.index upstream (unwrap_or words.onto upstream) w

-- the checks of a start, in their order
unfoldable pub checked_in : StartWords → Env → World → Result Checked Denial
checked_in words env w = do
  _ ← is_repository w
  upstream ← upstream_in words
  _ ← is_idle w
  checked_at words env upstream w

abbrev pub checks : Checks
checks = record { settings_in = settings_in; committer_in = committer_in; checked_in = checked_in }

-- what was found, as definitions see it
abbrev pub opened_is : Found → Opened
opened_is found = record { head = found.head; config = found.config; index = found.index.items }
