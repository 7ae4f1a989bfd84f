-- What may stand behind each verb, and what it then asks for.
use Rattle.std.specs.Prelude.{List, []}
use Rattle.seq_model.specs.Commands as asks
use Rattle.seq_model.specs.Given.{Given}
use Rattle.seq_model.specs.Rows.{Row, cat_rows, cherry_pick_rows, commit_rows, paths_rows, rebase_rows, revert_rows}
use Rattle.seq_model.specs.declared.command.Command.{Command}
use Rattle.seq_words.specs.declared.verb.VerbWord.{VerbWord}
use Rattle.seq_words.specs.declared.verb.VerbWord.TheVariants.{Rebase, CherryPick, Revert, Init, Add, Rm, Commit, Status, Cat}

abbrev pub rows_for : VerbWord → List Row
rows_for Rebase = rebase_rows
rows_for CherryPick = cherry_pick_rows
rows_for Revert = revert_rows
rows_for Init = []
rows_for Add = paths_rows
rows_for Rm = paths_rows
rows_for Commit = commit_rows
rows_for Status = []
rows_for Cat = cat_rows

abbrev pub asked_by : VerbWord → List Given → Command
asked_by Rebase = asks.rebase
asked_by CherryPick = asks.cherry_pick
asked_by Revert = asks.revert
asked_by Init = asks.init
asked_by Add = asks.add
asked_by Rm = asks.rm
asked_by Commit = asks.commit
asked_by Status = asks.status
asked_by Cat = asks.cat
