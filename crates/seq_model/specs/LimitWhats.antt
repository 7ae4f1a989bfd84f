-- The names of what has a limit.
use Rattle.std.specs.Prelude.{codes}
use Rattle.seq_base.specs.Words.{Text}
use Rattle.seq_outside.specs.declared.limit.LimitWhat.{LimitWhat}
use Rattle.seq_outside.specs.declared.limit.LimitWhat.TheVariants.{ObjectBytes, TreeDepth, IndexEntries, TodoLines, TodoBytes, Labels, Parents, Commits, Jobs}

abbrev pub limit_what_name : LimitWhat → Text
limit_what_name ObjectBytes = codes "object-bytes"
limit_what_name TreeDepth = codes "tree-depth"
limit_what_name IndexEntries = codes "index-entries"
limit_what_name TodoLines = codes "todo-lines"
limit_what_name TodoBytes = codes "todo-bytes"
limit_what_name Labels = codes "labels"
limit_what_name Parents = codes "parents"
limit_what_name Commits = codes "commits"
limit_what_name Jobs = codes "jobs"
