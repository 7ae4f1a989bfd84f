-- The names of what is wrong with a line of the todo.
use Rattle.std.specs.Prelude.{codes}
use Rattle.seq_base.specs.Words.{Text}
use Rattle.todo_text.specs.declared.todo_kind.TodoKind.{TodoKind}
use Rattle.todo_text.specs.declared.todo_kind.TodoKind.TheVariants.{Command, Missing, Extra, Label, RefName, Octopus, NoEarlier, NoSuchCommit, MergePicked, OwnBranch, NotBuilt}

abbrev pub todo_kind_name : TodoKind → Text
todo_kind_name Command = codes "command"
todo_kind_name Missing = codes "missing"
todo_kind_name Extra = codes "extra"
todo_kind_name Label = codes "label"
todo_kind_name RefName = codes "ref-name"
todo_kind_name Octopus = codes "octopus"
todo_kind_name NoEarlier = codes "no-earlier"
todo_kind_name NoSuchCommit = codes "no-such-commit"
todo_kind_name MergePicked = codes "merge-picked"
todo_kind_name OwnBranch = codes "own-branch"
todo_kind_name NotBuilt = codes "not-built"
