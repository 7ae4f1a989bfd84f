-- What is judged of the files of a cherry-pick or a revert is what they are found to be.
use Rattle.std.proofs.Common.{◌≡◌, ◌∙◌, ℕ, Bool, true, false, cond, List, Option, Some, None, refl, sym, ap, subst}
use Rattle.std.specs.Prelude.{codes, is_some, not}
use Rattle.std.specs.FinMap as files
use Rattle.std.specs.List.{AllByRecursion}
use Rattle.std.proofs.lemmas.Bool.{and_parts, not-true}
use Rattle.seq_base.specs.Ids.{IsId}
use Rattle.seq_base.specs.RefNames.{IsRefName}
use Rattle.seq_base.specs.World.{World}
use Rattle.state_text.specs.declared.control.Control.{Control}
use Rattle.state_text.specs.declared.control.Left.{Left}
use Rattle.state_text.specs.declared.options.Options.{Options}
use Rattle.state_text.specs.declared.state_file.StateFile.{StateFile}
use Rattle.state_text.specs.declared.state_file.StateFile.TheVariants as file
use Rattle.state_text.specs.declared.verb.Verb.{Verb}
use Rattle.state_text.specs.declared.verb.Verb.TheVariants.{Rebase, CherryPick, Revert}
use Rattle.state_text.specs.Controls.{AreLines, AreOrdered, IfThere, IsChain, IsControl, IsLabel, IsLeft, IsOfVerb, IsPending, IsSequence, IsTypedPending, IsTypedUpdate, IsUpdate}
use Rattle.state_text.specs.Places.{folder_of, in_folder, in_step_path, is_beside, file_name, state_path}
use Rattle.state_text.specs.Texts.{text_in}
use Rattle.state_reading.specs.Lines.{IsIdPair, IsItem}
use Rattle.state_reading.specs.Recalls.{bytes_at, text_at}
use Rattle.state_reading.specs.Settings.{IsParent}
use Rattle.state_found.specs.Found.{Fits, IsFirstMisfit, IsFolderRead, IsHeld, IsLeftBehind, IsPaused, asked_files, has_files}
use Rattle.state_found.specs.Judged.{SequenceJudged, files_found, wanted}
use Rattle.state_found.specs.Recalled.{Files, IsSequenceIn, is_plain, is_told, sequence_empty, sequence_verb, told_form}
use Rattle.state_found.proofs.AgreeLaws.{sequence_agrees}
use Rattle.state_found.proofs.FileLaws.{of_one}
use Rattle.state_found.proofs.FoundLaws.{asked_same, pending_fits, same_control, told_form_fits}
use Rattle.state_found.proofs.JudgeLaws as judge
use Rattle.state_found.proofs.SequenceLaws as sequence

never_rebase : (v : Verb) (plain : Bool) → Rebase ≡ sequence_verb v plain → ⊥
never_rebase Rebase plain e = absurd cc
never_rebase CherryPick plain e = absurd cc
never_rebase Revert true e = absurd cc
never_rebase Revert false e = absurd cc

revert_plain : (v : Verb) (plain : Bool) → Revert ≡ sequence_verb v plain → plain ≡ true
revert_plain Rebase plain e = absurd cc
revert_plain CherryPick plain e = absurd cc
revert_plain Revert true e = refl
revert_plain Revert false e = absurd cc

module _ (found : Files) (k : Control) (r : IsSequenceIn found k) where
  is_sequence : IsSequence k
  is_sequence = record {
    ff = ap (λ (o : Options). o.ff) r.is.options;
    reschedule = ap (λ (o : Options). o.reschedule) r.is.options;
    head_name = r.is.head_name;
    onto = r.is.onto;
    left = subst AreLines (sym r.is.left.2) tt;
    backup = r.is.backup;
    labels = r.is.labels;
    updates = r.is.updates;
    rewritten = r.is.rewritten;
    waiting = r.is.waiting;
    chain = r.is.chain;
  }

  of_its_verb : (v : Verb) → k.verb ≡ v → IsOfVerb v k
  of_its_verb Rebase e = absurd (never_rebase r.told.verb (is_plain r.chosen) (sym e ∙ r.is.verb))
  of_its_verb CherryPick e = is_sequence
  of_its_verb Revert e =
      let plain = revert_plain r.told.verb (is_plain r.chosen) (sym e ∙ r.is.verb) in
      let parts = and_parts (not r.chosen.record_origin) (not r.chosen.allow_empty) plain in
      record {
        sequence = is_sequence;
        empty = ap (λ (o : Options). o.empty) r.is.options ∙ ap (λ (v : Verb). sequence_empty v r.told.empty) e;
        record_origin = ap (λ (o : Options). o.record_origin) r.is.options ∙ not-true r.chosen.record_origin parts.0;
        allow_empty = ap (λ (o : Options). o.allow_empty) r.is.options ∙ not-true r.chosen.allow_empty parts.1;
      }

  pub sequence_control : IsControl k
  sequence_control =
      let pending = pending_fits (is_told (bytes_at found file.Message) r.author (is_some r.told.pending)) (told_form r.told.pending)
      (bytes_at found file.Message) r.author r.told
      (told_form_fits r.told.pending r.told.encoding r.told_is.fits.told) r.author_is.fits r.told_is.fits.told in
      record {
        head_name = subst (IfThere IsRefName) (sym r.is.head_name) tt;
        done = r.is.done.fits;
        left = subst IsLeft (sym r.is.left.2) r.is.left.1.fits;
        labels = subst (AllByRecursion IsLabel) (sym r.is.labels) tt;
        updates = subst (AllByRecursion IsUpdate) (sym r.is.updates) tt;
        ordered = subst AreOrdered (sym r.is.updates) tt;
        chain = subst IsChain (sym r.is.chain) tt;
        pending = subst (IfThere IsPending) (sym r.is.pending) pending.0;
        of_verb = of_its_verb k.verb refl;
      }

  pub sequence_held : IsHeld k
  sequence_held =
      let pending = pending_fits (is_told (bytes_at found file.Message) r.author (is_some r.told.pending)) (told_form r.told.pending)
      (bytes_at found file.Message) r.author r.told
      (told_form_fits r.told.pending r.told.encoding r.told_is.fits.told) r.author_is.fits r.told_is.fits.told in
      let mainline : k.options.mainline ≡ r.chosen.mainline = ap (λ (o : Options). o.mainline) r.is.options in
      record {
        typed = record {
          orig = r.is.orig.fits;
          onto = subst IsId (sym r.is.onto) r.is.orig.fits;
          stopped_head = r.is.stopped_head.fits;
          stopped_commit = r.is.stopped_commit.fits;
          updates = subst (AllByRecursion IsTypedUpdate) (sym r.is.updates) tt;
          rewritten = subst (AllByRecursion IsIdPair) (sym r.is.rewritten) tt;
          waiting = subst (AllByRecursion IsId) (sym r.is.waiting) tt;
          chain = subst (AllByRecursion IsItem) (sym r.is.chain) tt;
          pending = subst (IfThere IsTypedPending) (sym r.is.pending) pending.1;
          mainline = subst (IfThere IsParent) (sym mainline) r.chosen_is.fits;
        };
        lines = λ e. absurd (never_rebase r.told.verb (is_plain r.chosen) (sym e ∙ r.is.verb));
      }

  pub sequence_folder : folder_of k.verb ≡ folder_of CherryPick
  sequence_folder = at k.verb refl
    where
      at : (v : Verb) → k.verb ≡ v → folder_of v ≡ folder_of CherryPick
      at Rebase e = absurd (never_rebase r.told.verb (is_plain r.chosen) (sym e ∙ r.is.verb))
      at CherryPick e = refl
      at Revert e = refl

sequence_wanted : (k : Control) (f : StateFile) → judge.among f (asked_files CherryPick) → wanted 0 f k ≡ text_in f k
unfolding text_in
sequence_wanted k file.HeadName there = absurd cc
sequence_wanted k file.OrigHead there = absurd cc
sequence_wanted k file.Onto there = absurd cc
sequence_wanted k file.Interactive there = absurd cc
sequence_wanted k file.RebaseTodo there = absurd cc
sequence_wanted k file.Backup there = absurd cc
sequence_wanted k file.Done there = refl
sequence_wanted k file.Msgnum there = absurd cc
sequence_wanted k file.End there = absurd cc
sequence_wanted k file.Message there = refl
sequence_wanted k file.AuthorScript there = refl
sequence_wanted k file.Amend there = absurd cc
sequence_wanted k file.StoppedSha there = refl
sequence_wanted k file.CurrentFixups there = absurd cc
sequence_wanted k file.RewrittenList there = absurd cc
sequence_wanted k file.RewrittenPending there = absurd cc
sequence_wanted k file.RefsToDelete there = absurd cc
sequence_wanted k file.UpdateRefs there = absurd cc
sequence_wanted k file.Control there = refl
sequence_wanted k file.Todo there = refl
sequence_wanted k file.Head there = refl
sequence_wanted k file.AbortSafety there = refl
sequence_wanted k file.Opts there = refl
sequence_wanted k file.MergeMsg there = refl
sequence_wanted k file.MergeHead there = refl
sequence_wanted k file.RebaseHead there = refl
sequence_wanted k file.CherryPickHead there = refl
sequence_wanted k file.RevertHead there = refl

pub other_verb : (w : World) (v : Verb) → IsFolderRead w v → has_files w (folder_of Rebase) ≡ false → folder_of v ≡ folder_of CherryPick
other_verb w Rebase is none = absurd cc
other_verb w CherryPick is none = refl
other_verb w Revert is none = refl

-- a file's place goes by the folder
pub path_same : (w : World) (f : StateFile) (v u : Verb) → folder_of v ≡ folder_of u → files.get w (state_path v f) ≡ files.get w (state_path u f)
path_same w f v u e = ap (λ (folder : List ℕ). files.get w (in_folder (cond (is_beside f) (codes ".git") folder) (file_name f))) e

pub step_same : (w : World) (v u : Verb) → folder_of v ≡ folder_of u → files.get w (in_step_path v) ≡ files.get w (in_step_path u)
step_same w v u e = ap (λ (folder : List ℕ). files.get w (in_folder folder (codes "in-step"))) e

module _ (w : World) (k : Control) where
  abbrev file_at : StateFile → Option (List ℕ)
  file_at f = files.get w (state_path CherryPick f)

  abbrev found : Files
  found = files_found w CherryPick

  has : (y : Control) → folder_of y.verb ≡ folder_of CherryPick → (f : StateFile) → judge.among f (asked_files CherryPick) → Fits w y f
      → text_at found f ≡ text_in f y
  has y of f there fits = judge.text_found file_at (asked_files CherryPick) f there ∙ sym (path_same w f y.verb CherryPick of) ∙ fits

  fit : (misfit : Option StateFile) (j : SequenceJudged found misfit k) (f : StateFile) → judge.among f (asked_files CherryPick)
      → judge.Holds file_at 0 k f → Fits w k f
  fit misfit j f there holds = path_same w f k.verb CherryPick (sequence_folder found k j.is) ∙ holds ∙ sequence_wanted k f there

  pub sequence_first : (f : StateFile) → SequenceJudged found (Some f) k → IsFirstMisfit CherryPick w f
  sequence_first f j =
      let m = judge.misfit file_at 0 k (asked_files CherryPick) f (sym j.judged) in
      record {
        asked = m.there;
        goes_on = (
          k,
          sequence_control found k j.is,
          sequence_held found k j.is,
          sequence_folder found k j.is,
          judge.all_before (judge.Holds file_at 0 k) (Fits w k) f (asked_files CherryPick) (fit (Some f) j) m.before,
        );
        no_further = λ y is held folder before here.
            m.here (
            sym (path_same w f y.verb CherryPick folder) ∙ here
            ∙ sym (
            sequence_agrees found k j.is y is held folder 0 f m.there
            (judge.all_before (Fits w y) (λ g. text_at found g ≡ text_in g y) f (asked_files CherryPick) (has y folder) before)
            (has y folder f m.there here)
            )
            );
      }

  pub sequence_paused : SequenceJudged found None k → has_files w (folder_of Rebase) ≡ false → files.get w (in_step_path CherryPick) ≡ None
      → IsPaused w k
  sequence_paused j folder rests =
      let holds = judge.no_misfit file_at 0 k (asked_files CherryPick) (sym j.judged) in
      let fits = judge.all_of (judge.Holds file_at 0 k) (Fits w k) (asked_files CherryPick) (fit None j) holds in
      let same = sequence_folder found k j.is in
      record {
        told = k;
        control = sequence_control found k j.is;
        held = sequence_held found k j.is;
        folder = read k.verb same;
        rests = step_same w k.verb CherryPick same ∙ rests;
        fits = subst (AllByRecursion (Fits w k)) (sym (asked_same k.verb CherryPick same)) fits;
        left = kept k.verb same;
        is = refl;
      }
    where
      read : (v : Verb) → folder_of v ≡ folder_of CherryPick → IsFolderRead w v
      read Rebase e = absurd cc
      read CherryPick e = folder
      read Revert e = folder

      kept : (v : Verb) → folder_of v ≡ folder_of CherryPick → IsLeftBehind v w k k.left
      kept Rebase e = absurd cc
      kept CherryPick e = refl
      kept Revert e = refl

  left_kept : (v : Verb) (y : Control) (l : Left) → folder_of v ≡ folder_of CherryPick → IsLeftBehind v w y l → l ≡ y.left
  left_kept Rebase y l e is = absurd cc
  left_kept CherryPick y l e is = is
  left_kept Revert y l e is = is

  pub sequence_only : SequenceJudged found None k → has_files w (folder_of Rebase) ≡ false → (other : Control) → IsPaused w other → k ≡ other
  sequence_only j none other p =
      let y = p.told in
      let of = other_verb w y.verb p.folder none in
      let s = sequence.in_sequence y p.control of in
      let mine = is_sequence found k j.is in
      let fits = subst (AllByRecursion (Fits w y)) (asked_same y.verb CherryPick of) p.fits in
      let Has : StateFile → Type 0 = λ f. text_at found f ≡ text_in f y in
      let all : AllByRecursion Has (asked_files CherryPick) = judge.all_of (Fits w y) Has (asked_files CherryPick) (has y of) fits in
      let one : (f : StateFile) → judge.among f (asked_files CherryPick) → Has f = λ f there. of_one Has (asked_files CherryPick) f there all in
      let opts = one file.Opts refl in
      let control = one file.Control refl in
      let orig = sequence.orig_same found k j.is y p.control p.held.typed of (one file.Head refl) in
      let left = sequence.left_same found k j.is y p.control p.held.typed of (one file.Todo refl) in
      let same : k ≡ y = same_control k y k.left y.left
      (sequence.verb_same found k j.is y p.control p.held.typed of opts control)
      (sequence.options_same found k j.is y p.control p.held.typed of opts control)
      (mine.head_name ∙ sym s.head_name)
      orig
      (mine.onto ∙ orig ∙ sym s.onto)
      (sequence.done_same found k j.is y p.control p.held.typed of (one file.Done refl))
      left
      (mine.backup ∙ sym s.backup)
      (mine.labels ∙ sym s.labels)
      (mine.updates ∙ sym s.updates)
      (mine.rewritten ∙ sym s.rewritten)
      (mine.waiting ∙ sym s.waiting)
      (mine.chain ∙ sym s.chain)
      (sequence.stop_same found k j.is y p.control p.held.typed of control)
      (sequence.stopped_head_same found k j.is y p.control p.held.typed of (one file.AbortSafety refl))
      (sequence.stopped_same found k j.is y p.control p.held.typed of (one file.StoppedSha refl))
      (sequence.pending_same found k j.is y p.control p.held.typed of (one file.Message refl) (one file.AuthorScript refl) control) in
      let whole : record y { left = y.left } ≡ record y { left = other.left } =
      ap (λ (l : Left). record y { left = l }) (sym (left_kept y.verb y other.left of p.left)) in
      same ∙ whole ∙ sym p.is
