-- A control that is recalled of the files of a cherry-pick or a revert, and another control that has these files.
use Rattle.std.proofs.Common.{◌≡◌, ◌∙◌, ℕ, false, List, [], Option, refl, sym, ap}
use Rattle.std.specs.Prelude.{is_some, unwrap_or}
use Rattle.ident_text.specs.declared.ident.Ident.{Ident}
use Rattle.state_text.specs.declared.control.Control.{Control}
use Rattle.state_text.specs.declared.control.Left.{Left}
use Rattle.state_text.specs.declared.control.Left.TheVariants.{Lines, Raw}
use Rattle.state_text.specs.declared.state_file.StateFile.{StateFile}
use Rattle.state_text.specs.declared.state_file.StateFile.TheVariants as file
use Rattle.state_text.specs.declared.verb.Verb.{Verb}
use Rattle.state_text.specs.declared.verb.Verb.TheVariants.{Rebase, CherryPick, Revert}
use Rattle.state_text.specs.Controls.{AreLines, IfThere, IsControl, IsLeft, IsOfVerb, IsSequence, IsTyped}
use Rattle.state_text.specs.Places.{folder_of}
use Rattle.state_text.specs.Texts.{author_of, left_text, message_of, text_in}
use Rattle.state_reading.specs.declared.opts.SetOptions.{SetOptions}
use Rattle.state_reading.specs.declared.settings.Settings.{Settings}
use Rattle.state_reading.specs.Recalls.{Recalls, bytes_at, text_at}
use Rattle.state_reading.specs.Settings.{AreSet, IsSettings, set_text, settings_text}
use Rattle.state_reading.specs.Values.{IsAuthor, optional_script}
use Rattle.state_found.specs.Recalled.{Files, IsSequenceIn, IsSequenceOf, is_plain, is_told, pending_of, sequence_empty, sequence_options, sequence_verb, told_form}
use Rattle.state_found.proofs.FileLaws.{bytes_kept, bytes_optional, bytes_script}
use Rattle.state_found.proofs.PendingLaws.{author_fits, author_is, control_told, message_is, options_made, sequence_whole, settings_fit, settings_of}
use Rattle.todo_text.specs.Todos.{todo_text}

pub sequence_is : (found : Files) (author : Option Ident) (told : Settings) (chosen : SetOptions) (k : Control)
    → Recalls (IfThere IsAuthor) optional_script (bytes_at found file.AuthorScript) author
    → Recalls IsSettings settings_text (bytes_at found file.Control) told
    → Recalls AreSet set_text (bytes_at found file.Opts) chosen → IsSequenceOf found author told chosen k → IsSequenceIn found k
sequence_is found author told chosen k a b c is =
    record { author = author; author_is = a; told = told; told_is = b; chosen = chosen; chosen_is = c; is = is }

abbrev bytes_in : Option (List ℕ) → List ℕ
bytes_in o = unwrap_or o []

-- what its options say
abbrev pub chosen_of : Control → SetOptions
chosen_of y = record {
  mainline = y.options.mainline;
  edit = y.options.edit;
  record_origin = y.options.record_origin;
  allow_empty = y.options.allow_empty;
}

-- ---- a control of the folder

no_rebase : {Z : Type 0} → folder_of Rebase ≡ folder_of CherryPick → Z
no_rebase e = absurd cc

pub in_sequence : (y : Control) → IsControl y → folder_of y.verb ≡ folder_of CherryPick → IsSequence y
in_sequence y is folder = at y.verb folder is.of_verb
  where
    at : (v : Verb) → folder_of v ≡ folder_of CherryPick → IsOfVerb v y → IsSequence y
    at Rebase e of = no_rebase e
    at CherryPick e of = of
    at Revert e of = of.sequence

verb_kept : (y : Control) → IsControl y → folder_of y.verb ≡ folder_of CherryPick → sequence_verb y.verb (is_plain (chosen_of y)) ≡ y.verb
verb_kept y is folder = at y.verb folder is.of_verb
  where
    at : (v : Verb) → folder_of v ≡ folder_of CherryPick → IsOfVerb v y → sequence_verb v (is_plain (chosen_of y)) ≡ v
    at Rebase e of = no_rebase e
    at CherryPick e of = refl
    at Revert e of =
        let origin = of.record_origin in
        let empty = of.allow_empty in
        rw (origin, empty) refl

empty_kept : (y : Control) → IsControl y → folder_of y.verb ≡ folder_of CherryPick → sequence_empty y.verb y.options.empty ≡ y.options.empty
empty_kept y is folder = at y.verb folder is.of_verb
  where
    at : (v : Verb) → folder_of v ≡ folder_of CherryPick → IsOfVerb v y → sequence_empty v y.options.empty ≡ y.options.empty
    at Rebase e of = no_rebase e
    at CherryPick e of = refl
    at Revert e of = sym of.empty

-- ---- parts that are one, where the other control has their file

module _ (found : Files) (k : Control) (r : IsSequenceIn found k) (y : Control) (is : IsControl y) (typed : IsTyped y)
    (of : folder_of y.verb ≡ folder_of CherryPick) where
  abbrev pub Has : StateFile → Type 0
  Has f = text_at found f ≡ text_in f y

  pub orig_same : Has file.Head → k.orig ≡ y.orig
  unfolding text_in
  orig_same e = r.is.orig.again y.orig typed.orig (ap bytes_in e)

  pub done_same : Has file.Done → k.done ≡ y.done
  unfolding text_in
  done_same e = r.is.done.again y.done is.done (ap bytes_in e ∙ bytes_kept (todo_text y.done))

  pub left_same : Has file.Todo → k.left ≡ y.left
  unfolding text_in
  left_same e = r.is.left.2 ∙ at y.left (in_sequence y is of).left is.left (ap bytes_in e ∙ bytes_kept (left_text y.left))
    where
      at : (l : Left) → AreLines l → IsLeft l → bytes_at found file.Todo ≡ left_text l → Lines r.is.left.0 ≡ l
      at (Lines ls) lines fits e = ap Lines (r.is.left.1.again ls fits e)
      at (Raw raw) lines fits e = absurd lines

  pub chosen_same : Has file.Opts → r.chosen ≡ chosen_of y
  unfolding text_in
  chosen_same e = r.chosen_is.again (chosen_of y) typed.mainline (ap bytes_in e)

  pub message_same : Has file.Message → bytes_at found file.Message ≡ message_of y.pending
  unfolding text_in
  message_same e = ap bytes_in e ∙ bytes_kept (message_of y.pending)

  pub author_same : Has file.AuthorScript → r.author ≡ author_of y.pending
  unfolding text_in
  author_same e =
      r.author_is.again (author_of y.pending) (author_fits y.pending is.pending typed.pending) (ap bytes_in e ∙ bytes_script (author_of y.pending))

  pub stopped_same : Has file.StoppedSha → k.stopped_commit ≡ y.stopped_commit
  unfolding text_in
  stopped_same e = r.is.stopped_commit.again y.stopped_commit typed.stopped_commit (ap bytes_in e ∙ bytes_optional y.stopped_commit)

  pub stopped_head_same : Has file.AbortSafety → k.stopped_head ≡ y.stopped_head
  unfolding text_in
  stopped_head_same e = r.is.stopped_head.again y.stopped_head typed.stopped_head (ap bytes_in e)

  pub told_same : Has file.Control → r.told ≡ settings_of y
  unfolding text_in
  told_same e = r.told_is.again (settings_of y) (settings_fit y typed.stopped_head is.pending typed.pending) (ap bytes_in e ∙ control_told y)

  pub message_told : message_of k.pending ≡ bytes_at found file.Message
  message_told =
      ap message_of r.is.pending ∙ message_is (bytes_at found file.Message) r.author r.told (told_form r.told.pending) (is_some r.told.pending)

  pub author_told : author_of k.pending ≡ r.author
  author_told =
      ap author_of r.is.pending ∙ author_is (bytes_at found file.Message) r.author r.told (told_form r.told.pending) (is_some r.told.pending)

  pub pending_same : Has file.Message → Has file.AuthorScript → Has file.Control → k.pending ≡ y.pending
  pending_same message author control =
      let p = y.pending in
      r.is.pending
      ∙ ap (λ (m : List ℕ). pending_of (is_told m r.author (is_some r.told.pending)) (told_form r.told.pending) m r.author r.told)
      (message_same message)
      ∙ ap (λ (a : Option Ident). pending_of (is_told (message_of p) a (is_some r.told.pending)) (told_form r.told.pending) (message_of p) a r.told)
      (author_same author)
      ∙ sequence_whole p r.told (ap (λ (s : Settings). s.pending) (told_same control)) (ap (λ (s : Settings). s.encoding) (told_same control))

  pub verb_same : Has file.Opts → Has file.Control → k.verb ≡ y.verb
  verb_same opts control =
      r.is.verb
      ∙ ap (λ (v : Verb). sequence_verb v (is_plain r.chosen)) (ap (λ (s : Settings). s.verb) (told_same control))
      ∙ ap (λ (o : SetOptions). sequence_verb y.verb (is_plain o)) (chosen_same opts)
      ∙ verb_kept y is of

  pub options_same : Has file.Opts → Has file.Control → k.options ≡ y.options
  options_same opts control =
      let sequence = in_sequence y is of in
      r.is.options
      ∙ ap (λ (v : Verb). sequence_options v r.told r.chosen) (verb_same opts control)
      ∙ ap (λ (s : Settings). sequence_options y.verb s r.chosen) (told_same control)
      ∙ ap (sequence_options y.verb (settings_of y)) (chosen_same opts)
      ∙ options_made y.options false (sequence_empty y.verb y.options.empty) false y.options.mainline y.options.edit y.options.record_origin
      y.options.allow_empty (sym sequence.ff) (empty_kept y is of) (sym sequence.reschedule) refl refl refl refl

  pub stop_same : Has file.Control → k.stop ≡ y.stop
  stop_same e = r.is.stop ∙ ap (λ (s : Settings). s.stop) (told_same e)
