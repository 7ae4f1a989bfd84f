-- A start that was checked, and one that can be carried out.
use Rattle.std.specs.Prelude.{◌≡◌}
use Rattle.ref_text.specs.Logs.{IsMessage}
use Rattle.state_text.specs.Controls.{IsChain, IsControl, IsTold}
use Rattle.state_text.specs.declared.control.Control.{Control}
use Rattle.state_text.specs.declared.control.Left.{Left}
use Rattle.state_text.specs.declared.verb.Verb.TheVariants.{Rebase}
use Rattle.reading.specs.declared.checked.Checked.{Checked}
use Rattle.reading.specs.declared.planned.Planned.{Planned}
use Rattle.seq_lines.specs.Refs.{HasBranch}

-- its files can tell all of it, and it is that of a rebase
pub record IsStart (k : Control) : Type 0 where
  pub control : IsControl k
  pub rebase : k.verb ≡ Rebase

-- and a log can tell of its word
pub record IsChecked (checked : Checked) : Type 0 where
  pub start : IsStart checked.control
  pub word : IsMessage checked.onto_word

-- its files can tell all of it and can be written, its branch is a ref, and a log can tell of the word
pub record IsPlan (plan : Planned) : Type 0 where
  pub start : IsStart plan.control
  pub told : IsTold plan.control
  pub chain : IsChain plan.control.chain
  pub branch : HasBranch plan.control
  pub word : IsMessage plan.onto_word

-- ---- with what is left of its todo

abbrev pub with_left : Control → Left → Control
with_left k left = record k { left = left }

abbrev pub plan_with : Checked → Left → Planned
plan_with checked left = record { control = with_left checked.control left; onto_word = checked.onto_word }
