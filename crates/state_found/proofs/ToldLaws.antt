-- A control that is recalled may be written.
use Rattle.std.proofs.Common.{◌≡◌, ◌∙◌, ℕ, Bool, List, Option, Some, None, refl, sym, ap, subst}
use Rattle.std.specs.Prelude.{◌||◌, is_some}
use Rattle.ident_text.specs.declared.ident.Ident.{Ident}
use Rattle.ident_text.specs.Idents.{IsIdentValue}
use Rattle.state_text.specs.declared.control.Control.{Control}
use Rattle.state_text.specs.declared.control.Left.{Left}
use Rattle.state_text.specs.declared.state_file.StateFile.{StateFile}
use Rattle.state_text.specs.declared.state_file.StateFile.TheVariants as file
use Rattle.state_text.specs.Controls.{IfThere, IsLeft, IsTold}
use Rattle.state_text.specs.Texts.{author_of}
use Rattle.state_reading.specs.Recalls.{bytes_at}
use Rattle.state_reading.specs.Values.{IsAuthor}
use Rattle.state_found.specs.Found.{has_lines}
use Rattle.state_found.specs.Judged.{IsOnlyLeft, RebaseJudged, RebaseKept, SequenceJudged}
use Rattle.state_found.specs.Recalled.{Files, IsRebaseIn, IsSequenceIn, form_of, told_form}
use Rattle.state_found.proofs.PendingLaws.{author_is}

author_value : (o : Option Ident) → IfThere IsAuthor o → IfThere IsIdentValue o
author_value None is = tt
author_value (Some ident) is = is.value

pub rebase_told : (found : Files) (k : Control) → IsRebaseIn found k → IsTold k
rebase_told found k r =
    let left = r.is.left in
    let author : author_of k.pending ≡ r.author = ap author_of r.is.pending
    ∙ author_is (bytes_at found file.Message) r.author r.told (form_of r.amend (told_form r.told.pending))
    (is_some r.amend || is_some r.told.pending) in
    record {
      done = r.is.done.fits;
      left = subst IsLeft (sym left) tt;
      author = subst (IfThere IsIdentValue) (sym author) (author_value r.author r.author_is.fits);
    }

pub sequence_told : (found : Files) (k : Control) → IsSequenceIn found k → IsTold k
sequence_told found k r =
    let author : author_of k.pending ≡ r.author = ap author_of r.is.pending
    ∙ author_is (bytes_at found file.Message) r.author r.told (told_form r.told.pending) (is_some r.told.pending) in
    record {
      done = r.is.done.fits;
      left = subst IsLeft (sym r.is.left.2) r.is.left.1.fits;
      author = subst (IfThere IsIdentValue) (sym author) (author_value r.author r.author_is.fits);
    }

pub rebase_kept : (found : Files) (todo : List ℕ) (told : Control) (misfit : Option StateFile) (earlier : Bool) (left : Left)
    → RebaseJudged found misfit told → misfit ≡ None → earlier ≡ has_lines told.done → IsOnlyLeft earlier todo left
    → RebaseKept found todo (record told { left = left })
rebase_kept found todo told misfit earlier left j none is only =
    let P : Option StateFile → Type 0 = λ m. RebaseJudged found m told in
    let Q : Bool → Type 0 = λ b. IsOnlyLeft b todo left in
    record { told = told; judged = subst P none j; left = subst Q is only; is = refl }

pub rebase_bad : (found : Files) (k : Control) (misfit : Option StateFile) (f : StateFile) → RebaseJudged found misfit k → misfit ≡ Some f
    → (k : Control) × RebaseJudged found (Some f) k
rebase_bad found k misfit f j some = let P : Option StateFile → Type 0 = λ m. RebaseJudged found m k in (k, subst P some j)

pub sequence_bad : (found : Files) (k : Control) (misfit : Option StateFile) (f : StateFile) → SequenceJudged found misfit k → misfit ≡ Some f
    → (k : Control) × SequenceJudged found (Some f) k
sequence_bad found k misfit f j some = let P : Option StateFile → Type 0 = λ m. SequenceJudged found m k in (k, subst P some j)
