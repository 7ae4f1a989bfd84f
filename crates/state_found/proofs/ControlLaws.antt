-- A control that is read is one that files can tell, whatever is left of it.
use Rattle.std.proofs.Common.{sym, subst, Result, Ok, Err}
use Rattle.std.specs.Prelude.{IfOk}
use Rattle.seq_base.specs.Words.{Text}
use Rattle.state_found.specs.Judged.{IsRebaseJudged, IsSequenceJudged, RebaseKept}
use Rattle.state_found.specs.Reads.{IsControlBut}
use Rattle.state_found.specs.Recalled.{Files}
use Rattle.state_found.proofs.FoundLaws.{rebase_control}
use Rattle.state_found.proofs.SequenceFound.{sequence_control}
use Rattle.state_text.specs.declared.control.Control.{Control}
use Rattle.state_text.specs.declared.state_file.StateFile.{StateFile}

rebase_kept_but : (found : Files) (todo : Text) (k : Control) → RebaseKept found todo k → IsControlBut k
rebase_kept_but found todo k kept =
    let control = rebase_control found kept.told kept.judged.is kept.judged.small in
    subst IsControlBut (sym kept.is) (_, control)

pub rebase_but : (found : Files) (todo : Text) (judged : Result Control StateFile) → IsRebaseJudged found todo judged → IfOk judged IsControlBut
rebase_but found todo (Ok k) is = rebase_kept_but found todo k is
rebase_but found todo (Err f) is = tt

pub sequence_but : (found : Files) (judged : Result Control StateFile) → IsSequenceJudged found judged → IfOk judged IsControlBut
sequence_but found (Ok k) is = (k.left, sequence_control found k is.is)
sequence_but found (Err f) is = tt
