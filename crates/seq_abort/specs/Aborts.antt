-- A rebase that is given up, where an index can hold the map to go back to (git-rebase(1), "--abort").
use Rattle.std.specs.Prelude.{Option, Some, None}
use Rattle.line_steps.specs.Finding.{map_held}
use Rattle.line_steps.specs.Places.{reason_of}
use Rattle.line_steps.specs.declared.setting.Setting.{Setting}
use Rattle.reading.specs.Aborting.{aborted, given_up}
use Rattle.seq_base.specs.Words.{Id, Name}
use Rattle.seq_model.specs.declared.reason.Reason.{Reason}
use Rattle.seq_outside.specs.Halts.{for_reason}
use Rattle.seq_outside.specs.Turns.{◌>>=◌, Turn, looks}

-- the old head's map is looked at first, and nothing is changed where an index cannot hold it
unfoldable pub aborted_to : Setting → Option Name → Id → Turn Reason (Unit {0})
aborted_to setting name orig = do
  _ ← looks (λ w. for_reason reason_of (map_held orig w))
  aborted setting name orig

-- the same; where it is not told where the branch was, nothing but the list's files goes
abbrev pub given_up_to : Setting → Option (Option Name × Id) → Turn Reason (Unit {0})
given_up_to setting None = given_up setting None
given_up_to setting (Some before) = aborted_to setting before.0 before.1
