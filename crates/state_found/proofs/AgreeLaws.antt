-- Where another control has a file and those before it, the control that is recalled has it too.
use Rattle.std.proofs.Common.{◌≡◌, ◌∙◌, ℕ, ◌+◌, ◌<◌, ◌≤◌, ◌^◌, Bool, true, cond, List, [], length, Option, Some, None, refl, sym, ap, arith}
use Rattle.std.specs.Prelude.{max, unwrap_or}
use Rattle.std.specs.List.{AllByRecursion, list_any}
use Rattle.std.specs.Option.{option_map}
use Rattle.ident_text.specs.AuthorScripts.{script_text}
use Rattle.state_text.specs.declared.control.Control.{Control}
use Rattle.state_text.specs.declared.control.Pending.{Pending}
use Rattle.state_text.specs.declared.options.Options.{Options}
use Rattle.state_text.specs.declared.state_file.StateFile.{StateFile}
use Rattle.state_text.specs.declared.state_file.StateFile.TheVariants as file
use Rattle.state_text.specs.declared.verb.Verb.{Verb}
use Rattle.state_text.specs.declared.verb.Verb.TheVariants.{Rebase, CherryPick}
use Rattle.state_text.specs.Controls.{IsControl}
use Rattle.state_text.specs.Places.{folder_of}
use Rattle.state_text.specs.Texts.{control_text, head_name_text, id_line, is_cherry_pick, is_rebase, is_revert, kept, left_count, left_text, number_line, opts_text, other_head_of, stopped_line, text_in, while_pending}
use Rattle.state_text.specs.declared.control.Left.{Left}
use Rattle.state_text.specs.declared.control.RefUpdate.{RefUpdate}
use Rattle.message_text.specs.declared.chain.ChainKind.{ChainKind}
use Rattle.todo_text.specs.declared.line.Line.{Line}
use Rattle.todo_text.specs.Todos.{todo_text}
use Rattle.state_reading.specs.declared.opts.SetOptions.{SetOptions}
use Rattle.state_reading.specs.Lines.{ids_text, items_text, labels_text, pairs_text, updates_text}
use Rattle.state_reading.specs.Settings.{set_text, settings_text}
use Rattle.state_reading.specs.Recalls.{bytes_at, is_file, text_at}
use Rattle.state_found.specs.Found.{IsHeld, asked_files, files_before}
use Rattle.state_found.specs.Judged.{number_at, read_number, wanted}
use Rattle.state_found.specs.Recalled.{Files, IsRebaseIn, IsSequenceIn}
use Rattle.state_reading.proofs.OptLaws.{number_read}
use Rattle.state_found.proofs.FileLaws.{of_one}
use Rattle.state_found.proofs.PendingLaws.{control_told, settings_from}
use Rattle.state_found.proofs.RebaseLaws as rebase
use Rattle.state_found.proofs.SequenceLaws as sequence

-- ---- what the file `control`, and the heads beside, are made of

control_same : (k y : Control) → k.verb ≡ y.verb → k.options ≡ y.options → k.stop ≡ y.stop → k.stopped_head ≡ y.stopped_head → k.pending ≡ y.pending
    → control_text k ≡ control_text y
control_same k y verb options stop head pending =
    let a = settings_from k.verb k.options k.stop k.stopped_head k.pending in
    let b = settings_from y.verb y.options y.stop y.stopped_head y.pending in
    let same : a ≡ b = rw (verb, options, stop, head, pending) refl in
    control_told k ∙ ap settings_text same ∙ sym (control_told y)

heads_same : (told : Verb → Bool) (k y : Control) → k.verb ≡ y.verb → k.pending ≡ y.pending → k.stopped_commit ≡ y.stopped_commit
    → stopped_line (told k.verb) k ≡ stopped_line (told y.verb) y
heads_same told k y verb pending stopped =
    ap (λ (v : Verb). stopped_line (told v) k) verb
    ∙ ap (λ (o : Option (List ℕ)). cond (told y.verb) (option_map id_line o) None)
    (ap (λ (p : Option Pending). while_pending p k.stopped_commit) pending ∙ ap (while_pending y.pending) stopped)

-- the number of lines, read again
number_back : (n : ℕ) → n < 2 ^ 64 → number_at (number_line n) ≡ n
number_back n small = ap read_number (number_read n [] small)

at_least : (m n : ℕ) → n ≤ m → max m n ≡ m
at_least m n le = omega arith

module _ (found : Files) (k : Control) (r : IsRebaseIn found k) (y : Control) (is : IsControl y) (held : IsHeld y) (of : y.verb ≡ Rebase) where
  abbrev Has : StateFile → Type 0
  Has f = text_at found f ≡ text_in f y

  abbrev n : ℕ
  n = number_at (bytes_at found file.End)

  end_is : Has file.Done → Has file.End → max n (length k.done) ≡ length y.done + left_count y.left
  unfolding text_in
  end_is done e =
      let all = length y.done + left_count y.left in
      let number : n ≡ all = ap (λ (o : Option (List ℕ)). number_at (unwrap_or o [])) e ∙ number_back all (held.lines of) in
      let lines : length k.done ≡ length y.done = ap length (rebase.done_same found k r y is held.typed of done) in
      ap (λ (m : ℕ). max m (length k.done)) number ∙ ap (max all) lines ∙ at_least all (length y.done) (omega arith)

  has_pending : Has file.Message → Has file.AuthorScript → Has file.Amend → Has file.Control → rebase.HasPending found k r y is held.typed of
  has_pending message author amend control = record { message = message; author = author; amend = amend; control = control }

  pub rebase_agrees : (f : StateFile) → list_any (is_file f) (asked_files Rebase) ≡ true → AllByRecursion Has (files_before f (asked_files Rebase))
      → Has f → wanted n f k ≡ text_in f y
  unfolding text_in
  rebase_agrees file.HeadName among before e =
      ap (λ (o : Option (List ℕ)). Some (head_name_text o)) (rebase.head_name_same found k r y is held.typed of e)
  rebase_agrees file.OrigHead among before e =
      ap (λ (id : List ℕ). Some (id_line id)) (rebase.orig_same found k r y is held.typed of e)
  rebase_agrees file.Onto among before e =
      ap (λ (id : List ℕ). Some (id_line id)) (rebase.onto_same found k r y is held.typed of e)
  rebase_agrees file.Interactive among before e =
      refl
  rebase_agrees file.RebaseTodo among before e = absurd cc
  rebase_agrees file.Backup among before e =
      ap kept (rebase.backup_same found k r y is held.typed of e)
  rebase_agrees file.Done among before e =
      ap (λ (ls : List Line). kept (todo_text ls)) (rebase.done_same found k r y is held.typed of e)
  rebase_agrees file.Msgnum among before e =
      ap (λ (ls : List Line). Some (number_line (length ls)))
      (rebase.done_same found k r y is held.typed of (of_one Has (files_before file.Msgnum (asked_files Rebase)) file.Done refl before))
  rebase_agrees file.End among before e =
      ap (λ (m : ℕ). Some (number_line m)) (end_is (of_one Has (files_before file.End (asked_files Rebase)) file.Done refl before) e)
  rebase_agrees file.Message among before e =
      ap kept (rebase.message_told found k r y is held.typed of ∙ rebase.message_same found k r y is held.typed of e)
  rebase_agrees file.AuthorScript among before e =
      ap (option_map script_text) (rebase.author_told found k r y is held.typed of ∙ rebase.author_same found k r y is held.typed of e)
  rebase_agrees file.Amend among before e =
      ap (option_map id_line) (rebase.amend_told found k r y is held.typed of ∙ rebase.amend_same found k r y is held.typed of e)
  rebase_agrees file.StoppedSha among before e =
      ap (option_map id_line) (rebase.stopped_same found k r y is held.typed of e)
  rebase_agrees file.CurrentFixups among before e =
      ap (λ (xs : List (ChainKind × List ℕ)). kept (items_text xs)) (rebase.chain_same found k r y is held.typed of e)
  rebase_agrees file.RewrittenList among before e =
      ap (λ (xs : List (List ℕ × List ℕ)). kept (pairs_text xs)) (rebase.rewritten_same found k r y is held.typed of e)
  rebase_agrees file.RewrittenPending among before e =
      ap (λ (xs : List (List ℕ)). kept (ids_text xs)) (rebase.waiting_same found k r y is held.typed of e)
  rebase_agrees file.RefsToDelete among before e =
      ap (λ (xs : List (List ℕ)). kept (labels_text xs)) (rebase.labels_same found k r y is held.typed of e)
  rebase_agrees file.UpdateRefs among before e =
      ap (λ (xs : List RefUpdate). kept (updates_text xs)) (rebase.updates_same found k r y is held.typed of e)
  rebase_agrees file.Control among before e =
      ap Some (control_same k y (r.is.verb ∙ sym of) (rebase.options_same found k r y is held.typed of e)
      (rebase.stop_same found k r y is held.typed of e)
      (rebase.stopped_head_same found k r y is held.typed of
      (has_pending (of_one Has (files_before file.Control (asked_files Rebase)) file.Message refl before)
      (of_one Has (files_before file.Control (asked_files Rebase)) file.AuthorScript refl before)
      (of_one Has (files_before file.Control (asked_files Rebase)) file.Amend refl before) e))
      (rebase.pending_same found k r y is held.typed of
      (has_pending (of_one Has (files_before file.Control (asked_files Rebase)) file.Message refl before)
      (of_one Has (files_before file.Control (asked_files Rebase)) file.AuthorScript refl before)
      (of_one Has (files_before file.Control (asked_files Rebase)) file.Amend refl before) e)))
  rebase_agrees file.Todo among before e = absurd cc
  rebase_agrees file.Head among before e = absurd cc
  rebase_agrees file.AbortSafety among before e = absurd cc
  rebase_agrees file.Opts among before e = absurd cc
  rebase_agrees file.MergeMsg among before e =
      ap kept (rebase.message_told found k r y is held.typed of
      ∙ rebase.message_same found k r y is held.typed of
      (of_one Has (files_before file.MergeMsg (asked_files Rebase)) file.Message refl before))
  rebase_agrees file.MergeHead among before e =
      ap (λ (p : Option Pending). option_map id_line (other_head_of p))
      (rebase.pending_same found k r y is held.typed of
      (has_pending (of_one Has (files_before file.MergeHead (asked_files Rebase)) file.Message refl before)
      (of_one Has (files_before file.MergeHead (asked_files Rebase)) file.AuthorScript refl before)
      (of_one Has (files_before file.MergeHead (asked_files Rebase)) file.Amend refl before)
      (of_one Has (files_before file.MergeHead (asked_files Rebase)) file.Control refl before)))
  rebase_agrees file.RebaseHead among before e =
      heads_same is_rebase k y (r.is.verb ∙ sym of)
      (rebase.pending_same found k r y is held.typed of
      (has_pending (of_one Has (files_before file.RebaseHead (asked_files Rebase)) file.Message refl before)
      (of_one Has (files_before file.RebaseHead (asked_files Rebase)) file.AuthorScript refl before)
      (of_one Has (files_before file.RebaseHead (asked_files Rebase)) file.Amend refl before)
      (of_one Has (files_before file.RebaseHead (asked_files Rebase)) file.Control refl before)))
      (rebase.stopped_same found k r y is held.typed of
      (of_one Has (files_before file.RebaseHead (asked_files Rebase)) file.StoppedSha refl before))
  rebase_agrees file.CherryPickHead among before e =
      heads_same is_cherry_pick k y (r.is.verb ∙ sym of)
      (rebase.pending_same found k r y is held.typed of
      (has_pending (of_one Has (files_before file.CherryPickHead (asked_files Rebase)) file.Message refl before)
      (of_one Has (files_before file.CherryPickHead (asked_files Rebase)) file.AuthorScript refl before)
      (of_one Has (files_before file.CherryPickHead (asked_files Rebase)) file.Amend refl before)
      (of_one Has (files_before file.CherryPickHead (asked_files Rebase)) file.Control refl before)))
      (rebase.stopped_same found k r y is held.typed of
      (of_one Has (files_before file.CherryPickHead (asked_files Rebase)) file.StoppedSha refl before))
  rebase_agrees file.RevertHead among before e =
      heads_same is_revert k y (r.is.verb ∙ sym of)
      (rebase.pending_same found k r y is held.typed of
      (has_pending (of_one Has (files_before file.RevertHead (asked_files Rebase)) file.Message refl before)
      (of_one Has (files_before file.RevertHead (asked_files Rebase)) file.AuthorScript refl before)
      (of_one Has (files_before file.RevertHead (asked_files Rebase)) file.Amend refl before)
      (of_one Has (files_before file.RevertHead (asked_files Rebase)) file.Control refl before)))
      (rebase.stopped_same found k r y is held.typed of
      (of_one Has (files_before file.RevertHead (asked_files Rebase)) file.StoppedSha refl before))

module _ (found : Files) (k : Control) (r : IsSequenceIn found k) (y : Control) (is : IsControl y) (held : IsHeld y)
    (of : folder_of y.verb ≡ folder_of CherryPick) where
  abbrev SequenceHas : StateFile → Type 0
  SequenceHas f = text_at found f ≡ text_in f y

  pub sequence_agrees : (n : ℕ) (f : StateFile) → list_any (is_file f) (asked_files CherryPick) ≡ true
      → AllByRecursion SequenceHas (files_before f (asked_files CherryPick)) → SequenceHas f
      → wanted n f k ≡ text_in f y
  unfolding text_in
  sequence_agrees n file.HeadName among before e = absurd cc
  sequence_agrees n file.OrigHead among before e = absurd cc
  sequence_agrees n file.Onto among before e = absurd cc
  sequence_agrees n file.Interactive among before e = absurd cc
  sequence_agrees n file.RebaseTodo among before e = absurd cc
  sequence_agrees n file.Backup among before e = absurd cc
  sequence_agrees n file.Done among before e =
      ap (λ (ls : List Line). kept (todo_text ls)) (sequence.done_same found k r y is held.typed of e)
  sequence_agrees n file.Msgnum among before e = absurd cc
  sequence_agrees n file.End among before e = absurd cc
  sequence_agrees n file.Message among before e =
      ap kept (sequence.message_told found k r y is held.typed of ∙ sequence.message_same found k r y is held.typed of e)
  sequence_agrees n file.AuthorScript among before e =
      ap (option_map script_text) (sequence.author_told found k r y is held.typed of ∙ sequence.author_same found k r y is held.typed of e)
  sequence_agrees n file.Amend among before e = absurd cc
  sequence_agrees n file.StoppedSha among before e =
      ap (option_map id_line) (sequence.stopped_same found k r y is held.typed of e)
  sequence_agrees n file.CurrentFixups among before e = absurd cc
  sequence_agrees n file.RewrittenList among before e = absurd cc
  sequence_agrees n file.RewrittenPending among before e = absurd cc
  sequence_agrees n file.RefsToDelete among before e = absurd cc
  sequence_agrees n file.UpdateRefs among before e = absurd cc
  sequence_agrees n file.Control among before e =
      ap Some (control_same k y
      (sequence.verb_same found k r y is held.typed of
      (of_one SequenceHas (files_before file.Control (asked_files CherryPick)) file.Opts refl before) e)
      (sequence.options_same found k r y is held.typed of
      (of_one SequenceHas (files_before file.Control (asked_files CherryPick)) file.Opts refl before) e)
      (sequence.stop_same found k r y is held.typed of e)
      (sequence.stopped_head_same found k r y is held.typed of
      (of_one SequenceHas (files_before file.Control (asked_files CherryPick)) file.AbortSafety refl before))
      (sequence.pending_same found k r y is held.typed of
      (of_one SequenceHas (files_before file.Control (asked_files CherryPick)) file.Message refl before)
      (of_one SequenceHas (files_before file.Control (asked_files CherryPick)) file.AuthorScript refl before) e))
  sequence_agrees n file.Todo among before e =
      ap (λ (l : Left). kept (left_text l)) (sequence.left_same found k r y is held.typed of e)
  sequence_agrees n file.Head among before e =
      ap (λ (id : List ℕ). Some (id_line id)) (sequence.orig_same found k r y is held.typed of e)
  sequence_agrees n file.AbortSafety among before e =
      ap (λ (id : List ℕ). Some (id_line id)) (sequence.stopped_head_same found k r y is held.typed of e)
  sequence_agrees n file.Opts among before e =
      ap (λ (o : Options). Some (opts_text o)) r.is.options ∙ ap (λ (o : SetOptions). Some (set_text o))
      (sequence.chosen_same found k r y is held.typed of e)
  sequence_agrees n file.MergeMsg among before e =
      ap kept (sequence.message_told found k r y is held.typed of
      ∙ sequence.message_same found k r y is held.typed of
      (of_one SequenceHas (files_before file.MergeMsg (asked_files CherryPick)) file.Message refl before))
  sequence_agrees n file.MergeHead among before e =
      ap (λ (p : Option Pending). option_map id_line (other_head_of p))
      (sequence.pending_same found k r y is held.typed of
      (of_one SequenceHas (files_before file.MergeHead (asked_files CherryPick)) file.Message refl before)
      (of_one SequenceHas (files_before file.MergeHead (asked_files CherryPick)) file.AuthorScript refl before)
      (of_one SequenceHas (files_before file.MergeHead (asked_files CherryPick)) file.Control refl before))
  sequence_agrees n file.RebaseHead among before e =
      heads_same is_rebase k y
      (sequence.verb_same found k r y is held.typed of
      (of_one SequenceHas (files_before file.RebaseHead (asked_files CherryPick)) file.Opts refl before)
      (of_one SequenceHas (files_before file.RebaseHead (asked_files CherryPick)) file.Control refl before))
      (sequence.pending_same found k r y is held.typed of
      (of_one SequenceHas (files_before file.RebaseHead (asked_files CherryPick)) file.Message refl before)
      (of_one SequenceHas (files_before file.RebaseHead (asked_files CherryPick)) file.AuthorScript refl before)
      (of_one SequenceHas (files_before file.RebaseHead (asked_files CherryPick)) file.Control refl before))
      (sequence.stopped_same found k r y is held.typed of
      (of_one SequenceHas (files_before file.RebaseHead (asked_files CherryPick)) file.StoppedSha refl before))
  sequence_agrees n file.CherryPickHead among before e =
      heads_same is_cherry_pick k y
      (sequence.verb_same found k r y is held.typed of
      (of_one SequenceHas (files_before file.CherryPickHead (asked_files CherryPick)) file.Opts refl before)
      (of_one SequenceHas (files_before file.CherryPickHead (asked_files CherryPick)) file.Control refl before))
      (sequence.pending_same found k r y is held.typed of
      (of_one SequenceHas (files_before file.CherryPickHead (asked_files CherryPick)) file.Message refl before)
      (of_one SequenceHas (files_before file.CherryPickHead (asked_files CherryPick)) file.AuthorScript refl before)
      (of_one SequenceHas (files_before file.CherryPickHead (asked_files CherryPick)) file.Control refl before))
      (sequence.stopped_same found k r y is held.typed of
      (of_one SequenceHas (files_before file.CherryPickHead (asked_files CherryPick)) file.StoppedSha refl before))
  sequence_agrees n file.RevertHead among before e =
      heads_same is_revert k y
      (sequence.verb_same found k r y is held.typed of
      (of_one SequenceHas (files_before file.RevertHead (asked_files CherryPick)) file.Opts refl before)
      (of_one SequenceHas (files_before file.RevertHead (asked_files CherryPick)) file.Control refl before))
      (sequence.pending_same found k r y is held.typed of
      (of_one SequenceHas (files_before file.RevertHead (asked_files CherryPick)) file.Message refl before)
      (of_one SequenceHas (files_before file.RevertHead (asked_files CherryPick)) file.AuthorScript refl before)
      (of_one SequenceHas (files_before file.RevertHead (asked_files CherryPick)) file.Control refl before))
      (sequence.stopped_same found k r y is held.typed of
      (of_one SequenceHas (files_before file.RevertHead (asked_files CherryPick)) file.StoppedSha refl before))
