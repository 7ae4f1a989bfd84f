-- Which refs the end of a list may be told of.
use Rattle.std.specs.Prelude.{List}
use Rattle.std.specs.List.{AllByRecursion}
use Rattle.ref_text.specs.Logs.{IsMessage}
use Rattle.seq_base.specs.RefNames.{IsRefName}
use Rattle.state_text.specs.Controls.{IfThere}
use Rattle.state_text.specs.declared.control.Control.{Control}
use Rattle.state_text.specs.declared.control.RefUpdate.{RefUpdate}
use Rattle.reading.specs.declared.end_ref.EndRef.{EndRef}

-- it is the name of a ref, and a log can tell of it
pub record IsEndRef (r : EndRef) : Type 0 where
  pub name : IsRefName r.name
  pub message : IsMessage r.message

abbrev pub AreEndRefs : List EndRef → Type 0
AreEndRefs refs = AllByRecursion IsEndRef refs

-- each is an update of a ref
abbrev pub NameRefs : List RefUpdate → Type 0
NameRefs updates = AllByRecursion (λ (u : RefUpdate). IsRefName u.name) updates

-- the branch of a control is a ref
abbrev pub HasBranch : Control → Type 0
HasBranch k = IfThere IsRefName k.head_name
