-- HEAD that is moved, on its branch or detached, as steps over a world (git-update-ref(1)).
use Rattle.std.specs.Prelude.{◌≡◌, false, if◌then◌else◌, [], ◌++◌, unwrap_or, Result, Ok, Err}
use Rattle.std.specs.FinMap as map
use Rattle.std.specs.Ordering.{eq_by_cmp}
use Rattle.seq_base.specs.Words.{Id, Name, Path}
use Rattle.seq_base.specs.World.{World, path_cmp}
use Rattle.seq_outside.specs.declared.lack.Lack.{Lack}
use Rattle.seq_outside.specs.Turns.{◌>>=◌, Turn, gives, put_in}
use Rattle.ref_text.specs.declared.head.Head.{Head}
use Rattle.ref_text.specs.declared.head.Head.TheVariants.{Branch, Detached}
use Rattle.ref_text.specs.declared.log.LogLine.{LogLine}
use Rattle.ref_text.specs.Heads.{head_text}
use Rattle.ref_text.specs.Logs.{log_text}
use Rattle.ref_text.specs.Refs.{has_log, head_name, log_path, ref_path}

-- the ref's file has the value
unfoldable pub ref_set : Name → Id → Turn Lack (Unit {0})
ref_set name id = put_in (ref_path name) (head_text (Detached id))

-- the ref's log has a line more, if a log is kept of it
unfoldable pub line_added : Name → LogLine → Turn Lack (Unit {0})
line_added name line w = if has_log name then put_in (log_path name) (unwrap_or (map.get w (log_path name)) [] ++ log_text line) w else gives tt w

-- HEAD's log has a line more
unfoldable pub head_logged : LogLine → Turn Lack (Unit {0})
head_logged line = line_added head_name line

-- the ref's log has the line, and HEAD's too
unfoldable pub lines_added : Name → LogLine → Turn Lack (Unit {0})
lines_added name line = do
  _ ← line_added name line
  head_logged line

-- the branch has the value, and its log and HEAD's the line
unfoldable pub branch_moved : Name → Id → LogLine → Turn Lack (Unit {0})
branch_moved name id line = do
  _ ← ref_set name id
  lines_added name line

-- HEAD itself has the value, and its log the line
unfoldable pub detached_moved : Id → LogLine → Turn Lack (Unit {0})
detached_moved id line = do
  _ ← ref_set head_name id
  head_logged line

-- HEAD is moved: its branch, or HEAD itself where it is detached
unfoldable pub head_moved : Head → Id → LogLine → Turn Lack (Unit {0})
head_moved (Branch name) id line = branch_moved name id line
head_moved (Detached old) id line = detached_moved id line

-- the name whose file changes where HEAD is moved
abbrev pub moved_name : Head → Name
moved_name (Branch name) = name
moved_name (Detached old) = head_name

-- a step that did not stop has left this world
abbrev pub LeavesIfOk : Result (Unit {0}) Lack × World → World → Type 0
LeavesIfOk (Ok x, left) aim = left ≡ aim
LeavesIfOk (Err why, left) aim = Unit {0}

-- a path that is neither the name's file nor its log nor HEAD's
pub record IsElsewhere (name : Name) (path : Path) : Type 0 where
  pub ref : eq_by_cmp path_cmp path (ref_path name) ≡ false
  pub log : eq_by_cmp path_cmp path (log_path name) ≡ false
  pub head : eq_by_cmp path_cmp path (log_path head_name) ≡ false
