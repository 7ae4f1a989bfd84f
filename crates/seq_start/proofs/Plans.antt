-- The control of a start, with what is left of its todo: whether it may begin is the same, and its files can be written.
use Rattle.std.proofs.Common.{◌≡◌, Option, Some, None, refl}
use Rattle.ident_text.specs.Idents.{IsIdentValue}
use Rattle.reading.specs.Looking.{files_unchanged, head_unmoved, index_unchanged, may_begin, unchanged}
use Rattle.reading.specs.declared.checked.Checked.{Checked}
use Rattle.seq_base.specs.World.{World}
use Rattle.seq_start.specs.Plans.{IsChecked, IsPlan, IsStart, plan_with, with_left}
use Rattle.state_text.specs.Controls.{IfThere, IsLeft, IsOfVerb, IsPending}
use Rattle.state_text.specs.Texts.{author_of}
use Rattle.state_text.specs.declared.control.Control.{Control}
use Rattle.state_text.specs.declared.control.Left.{Left}
use Rattle.state_text.specs.declared.control.Pending.{Pending}
use Rattle.state_text.specs.declared.verb.Verb.{Verb}
use Rattle.state_text.specs.declared.verb.Verb.TheVariants.{Rebase, CherryPick, Revert}

-- ---- whether it may begin

pub unchanged_with : (k : Control) (left : Left) (w : World) → unchanged (with_left k left) w ≡ unchanged k w
unfolding unchanged head_unmoved files_unchanged index_unchanged
unchanged_with k left w = refl

pub may_begin_with : (k : Control) (left : Left) (w : World) → may_begin (with_left k left) w ≡ may_begin k w
unfolding may_begin
may_begin_with k left w = refl

-- ---- its files

author_told : (pending : Option Pending) → IfThere IsPending pending → IfThere IsIdentValue (author_of pending)
author_told None h = tt
author_told (Some p) h = h.0

of_rebase : (k : Control) (left : Left) (verb : Verb) → verb ≡ Rebase → IsOfVerb verb k → IsOfVerb verb (with_left k left)
of_rebase k left Rebase is of = record { mainline = of.mainline; edit = of.edit; record_origin = of.record_origin; allow_empty = of.allow_empty }
of_rebase k left CherryPick is of = absurd cc
of_rebase k left Revert is of = absurd cc

start_with : (k : Control) (left : Left) → IsStart k → IsLeft left → IsStart (with_left k left)
start_with k left start fits =
    let is = start.control in
    record {
      control = record {
        head_name = is.head_name;
        done = is.done;
        left = fits;
        labels = is.labels;
        updates = is.updates;
        ordered = is.ordered;
        chain = is.chain;
        pending = is.pending;
        of_verb = of_rebase k left k.verb start.rebase is.of_verb;
      };
      rebase = start.rebase;
    }

pub is_plan : (checked : Checked) (left : Left) → IsChecked checked → IsLeft left → IsPlan (plan_with checked left)
is_plan checked left h fits =
    let k = checked.control in
    let control = h.start.control in
    record {
      start = start_with k left h.start fits;
      told = record { done = control.done; left = fits; author = author_told k.pending control.pending };
      chain = control.chain;
      branch = control.head_name;
      word = h.word;
    }
