-- A control that is recalled of the files of a rebase, and another control that has these files.
use Rattle.std.proofs.Common.{◌≡◌, ◌∙◌, ℕ, false, List, [], Option, Some, None, refl, sym, ap, subst}
use Rattle.std.specs.Prelude.{◌||◌, is_some, unwrap_or}
use Rattle.ident_text.specs.declared.ident.Ident.{Ident}
use Rattle.seq_base.specs.Ids.{IsId}
use Rattle.state_text.specs.declared.control.Control.{Control}
use Rattle.state_text.specs.declared.control.Form.{Form}
use Rattle.state_text.specs.declared.control.Form.TheVariants.{New, Amend, Merge}
use Rattle.state_text.specs.declared.control.Pending.{Pending}
use Rattle.state_text.specs.declared.state_file.StateFile.{StateFile}
use Rattle.state_text.specs.declared.state_file.StateFile.TheVariants as file
use Rattle.state_text.specs.declared.verb.Verb.{Verb}
use Rattle.state_text.specs.declared.verb.Verb.TheVariants.{Rebase}
use Rattle.state_text.specs.Controls.{IfThere, IsControl, IsOfVerb, IsRebase, IsTyped}
use Rattle.state_text.specs.Texts.{amend_of, amended, author_of, message_of, text_in}
use Rattle.state_reading.specs.declared.settings.Settings.{Settings}
use Rattle.state_reading.specs.Lines.{ids_text, items_text, labels_text, pairs_text, updates_text}
use Rattle.state_reading.specs.Recalls.{Recalls, bytes_at, text_at}
use Rattle.state_reading.specs.Settings.{IsSettings, settings_text}
use Rattle.state_reading.specs.Values.{IsAuthor, optional_line, optional_script}
use Rattle.state_found.specs.Recalled.{Files, IsRebaseIn, IsRebaseOf, form_of, is_told, pending_of, rebase_options, told_form}
use Rattle.state_found.proofs.FileLaws.{bytes_kept, bytes_optional, bytes_script}
use Rattle.state_found.proofs.PendingLaws.{amend_fits, amend_is, author_fits, author_is, control_told, message_is, options_made, rebase_whole, settings_fit, settings_of}
use Rattle.todo_text.specs.Todos.{todo_text}

pub rebase_is : (found : Files) (amend : Option (List ℕ)) (author : Option Ident) (told : Settings) (k : Control)
    → Recalls (IfThere IsId) optional_line (bytes_at found file.Amend) amend
    → Recalls (IfThere IsAuthor) optional_script (bytes_at found file.AuthorScript) author
    → Recalls IsSettings settings_text (bytes_at found file.Control) told → IsRebaseOf found amend author told k → IsRebaseIn found k
rebase_is found amend author told k a b c is =
    record { amend = amend; amend_is = a; author = author; author_is = b; told = told; told_is = c; is = is }

abbrev bytes_in : Option (List ℕ) → List ℕ
bytes_in o = unwrap_or o []

-- ---- parts that are one, where the other control has their file

module _ (found : Files) (k : Control) (r : IsRebaseIn found k) (y : Control) (is : IsControl y) (typed : IsTyped y) (of : y.verb ≡ Rebase) where
  abbrev pub Has : StateFile → Type 0
  Has f = text_at found f ≡ text_in f y

  pub head_name_same : Has file.HeadName → k.head_name ≡ y.head_name
  unfolding text_in
  head_name_same e = r.is.head_name.again y.head_name is.head_name (ap bytes_in e)

  pub orig_same : Has file.OrigHead → k.orig ≡ y.orig
  unfolding text_in
  orig_same e = r.is.orig.again y.orig typed.orig (ap bytes_in e)

  pub onto_same : Has file.Onto → k.onto ≡ y.onto
  unfolding text_in
  onto_same e = r.is.onto.again y.onto typed.onto (ap bytes_in e)

  pub backup_same : Has file.Backup → k.backup ≡ y.backup
  unfolding text_in
  backup_same e = r.is.backup ∙ ap bytes_in e ∙ bytes_kept y.backup

  pub done_same : Has file.Done → k.done ≡ y.done
  unfolding text_in
  done_same e = r.is.done.again y.done is.done (ap bytes_in e ∙ bytes_kept (todo_text y.done))

  pub message_same : Has file.Message → bytes_at found file.Message ≡ message_of y.pending
  unfolding text_in
  message_same e = ap bytes_in e ∙ bytes_kept (message_of y.pending)

  pub author_same : Has file.AuthorScript → r.author ≡ author_of y.pending
  unfolding text_in
  author_same e =
      r.author_is.again (author_of y.pending) (author_fits y.pending is.pending typed.pending) (ap bytes_in e ∙ bytes_script (author_of y.pending))

  pub amend_same : Has file.Amend → r.amend ≡ amend_of y.pending y.stopped_head
  unfolding text_in
  amend_same e =
      r.amend_is.again (amend_of y.pending y.stopped_head) (amend_fits y.pending y.stopped_head typed.stopped_head)
      (ap bytes_in e ∙ bytes_optional (amend_of y.pending y.stopped_head))

  pub stopped_same : Has file.StoppedSha → k.stopped_commit ≡ y.stopped_commit
  unfolding text_in
  stopped_same e = r.is.stopped_commit.again y.stopped_commit typed.stopped_commit (ap bytes_in e ∙ bytes_optional y.stopped_commit)

  pub chain_same : Has file.CurrentFixups → k.chain ≡ y.chain
  unfolding text_in
  chain_same e = r.is.chain.again y.chain (typed.chain, is.chain) (ap bytes_in e ∙ bytes_kept (items_text y.chain))

  pub rewritten_same : Has file.RewrittenList → k.rewritten ≡ y.rewritten
  unfolding text_in
  rewritten_same e = r.is.rewritten.again y.rewritten typed.rewritten (ap bytes_in e ∙ bytes_kept (pairs_text y.rewritten))

  pub waiting_same : Has file.RewrittenPending → k.waiting ≡ y.waiting
  unfolding text_in
  waiting_same e = r.is.waiting.again y.waiting typed.waiting (ap bytes_in e ∙ bytes_kept (ids_text y.waiting))

  pub labels_same : Has file.RefsToDelete → k.labels ≡ y.labels
  unfolding text_in
  labels_same e = r.is.labels.again y.labels is.labels (ap bytes_in e ∙ bytes_kept (labels_text y.labels))

  pub updates_same : Has file.UpdateRefs → k.updates ≡ y.updates
  unfolding text_in
  updates_same e =
      r.is.updates.again y.updates (record { updates = is.updates; typed = typed.updates; ordered = is.ordered })
      (ap bytes_in e ∙ bytes_kept (updates_text y.updates))

  pub told_same : Has file.Control → r.told ≡ settings_of y
  unfolding text_in
  told_same e = r.told_is.again (settings_of y) (settings_fit y typed.stopped_head is.pending typed.pending) (ap bytes_in e ∙ control_told y)

  -- ---- what several files tell

  pub message_told : message_of k.pending ≡ bytes_at found file.Message
  message_told =
      ap message_of r.is.pending
      ∙ message_is (bytes_at found file.Message) r.author r.told (form_of r.amend (told_form r.told.pending))
      (is_some r.amend || is_some r.told.pending)

  pub author_told : author_of k.pending ≡ r.author
  author_told =
      ap author_of r.is.pending
      ∙ author_is (bytes_at found file.Message) r.author r.told (form_of r.amend (told_form r.told.pending))
      (is_some r.amend || is_some r.told.pending)

  pub amend_told : amend_of k.pending k.stopped_head ≡ r.amend
  amend_told =
      ap (λ (h : List ℕ). amend_of k.pending h) r.is.stopped_head
      ∙ ap (λ (p : Option Pending). amend_of p (unwrap_or r.amend r.told.head)) r.is.pending
      ∙ amend_is (bytes_at found file.Message) r.author r.told r.amend

  pub record HasPending : Type 0 where
    pub message : Has file.Message
    pub author : Has file.AuthorScript
    pub amend : Has file.Amend
    pub control : Has file.Control

  pub pending_same : HasPending → k.pending ≡ y.pending
  pending_same has =
      let p = y.pending in
      let head = y.stopped_head in
      r.is.pending
      ∙ ap (λ (m : List ℕ). pending_of (is_told m r.author (is_some r.amend || is_some r.told.pending))
      (form_of r.amend (told_form r.told.pending)) m r.author r.told) (message_same has.message)
      ∙ ap (λ (a : Option Ident). pending_of (is_told (message_of p) a (is_some r.amend || is_some r.told.pending))
      (form_of r.amend (told_form r.told.pending)) (message_of p) a r.told) (author_same has.author)
      ∙ ap (λ (a : Option (List ℕ)). pending_of (is_told (message_of p) (author_of p) (is_some a || is_some r.told.pending))
      (form_of a (told_form r.told.pending)) (message_of p) (author_of p) r.told) (amend_same has.amend)
      ∙ rebase_whole p head r.told (ap (λ (s : Settings). s.pending) (told_same has.control))
      (ap (λ (s : Settings). s.encoding) (told_same has.control))

  head_unless : (o : Option (List ℕ)) (head : List ℕ) → ((id : List ℕ) → o ≡ Some id → id ≡ head) → unwrap_or o head ≡ head
  head_unless None head same = refl
  head_unless (Some id) head same = same id refl

  amended_head : (p : Option Pending) (head id : List ℕ) → amend_of p head ≡ Some id → id ≡ head
  amended_head None head id e = absurd cc
  amended_head (Some p) head id e = at p.form e
    where
      at : (f : Form) → amended f head ≡ Some id → id ≡ head
      at New e = absurd cc
      at Amend e = cc
      at (Merge other) e = absurd cc

  pub stopped_head_same : HasPending → k.stopped_head ≡ y.stopped_head
  stopped_head_same has =
      r.is.stopped_head
      ∙ ap (λ (o : Option (List ℕ)). unwrap_or o r.told.head) (amend_same has.amend)
      ∙ ap (λ (s : Settings). unwrap_or (amend_of y.pending y.stopped_head) s.head) (told_same has.control)
      ∙ head_unless (amend_of y.pending y.stopped_head) y.stopped_head (amended_head y.pending y.stopped_head)

  pub options_same : Has file.Control → k.options ≡ y.options
  options_same e =
      let rebase : IsRebase y = subst (λ (v : Verb). IsOfVerb v y) of is.of_verb in
      r.is.options
      ∙ ap rebase_options (told_same e)
      ∙ options_made y.options y.options.ff y.options.empty y.options.reschedule None false false false refl refl refl (sym rebase.mainline)
      (sym rebase.edit) (sym rebase.record_origin) (sym rebase.allow_empty)

  pub stop_same : Has file.Control → k.stop ≡ y.stop
  stop_same e = r.is.stop ∙ ap (λ (s : Settings). s.stop) (told_same e)
