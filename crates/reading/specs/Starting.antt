-- A rebase that begins, once it was checked (git-rebase(1); gitrevisions(7), "ORIG_HEAD").
use Rattle.std.specs.Prelude.{List, ◌++◌, codes}
use Rattle.index_file.specs.declared.entry.IndexEntry.{IndexEntry}
use Rattle.ref_text.specs.Heads.{head_text}
use Rattle.ref_text.specs.declared.head.Head.TheVariants.{Detached}
use Rattle.ref_text.specs.declared.log.LogLine.{LogLine}
use Rattle.seq_base.specs.PathMaps.{Entries}
use Rattle.seq_base.specs.World.{World}
use Rattle.seq_model.specs.Making.{value_of}
use Rattle.seq_model.specs.declared.reason.Reason.{Reason}
use Rattle.seq_outside.specs.Turns.{◌>>=◌, Turn, put_in, saying}
use Rattle.line_steps.specs.declared.setting.Setting.{Setting}
use Rattle.line_steps.specs.Places.{reason_of}
use Rattle.line_steps.specs.Writing.{head_written, switched_over, turn_ident}
pub use Rattle.reading.specs.declared.planned.Planned.{Planned}

-- A start that was checked, in the world that it found, but for what its own children changed.
pub record Start : Type 0 where
  pub world : World
  pub plan : Planned

abbrev pub start_line : Setting → Planned → LogLine
start_line setting plan = record {
  old = value_of plan.control.orig;
  new = plan.control.onto;
  ident = turn_ident setting;
  message = codes "rebase (start): checkout " ++ plan.onto_word;
}

-- ORIG_HEAD is the old head; index and files are those of onto; HEAD is there, detached
unfoldable pub onto_switched : Setting → Planned → List IndexEntry → Entries → Turn Reason (Unit {0})
onto_switched setting plan index m = do
  _ ← saying reason_of (put_in (codes ".git/ORIG_HEAD") (head_text (Detached plan.control.orig)))
  _ ← saying reason_of (switched_over index m)
  head_written plan.control.onto (start_line setting plan)
