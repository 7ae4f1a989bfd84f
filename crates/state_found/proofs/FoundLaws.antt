-- What is judged of the files of a world is what they are found to be.
use Rattle.std.proofs.Common.{◌≡◌, ◌∙◌, ℕ, zero, suc, ◌+◌, ◌-◌, ◌<◌, ◌^◌, Bool, true, false, List, [], length, replicate, Option, Some, None, Result, Ok, Err, refl, sym, ap, subst, arith}
use Rattle.std.specs.Prelude.{◌||◌, All, is_some, max, unwrap_or, FitsSigned}
use Rattle.std.specs.Int.{w64}
use Rattle.std.specs.FinMap as files
use Rattle.std.specs.List.{AllByRecursion}
use Rattle.std.proofs.lemmas.List.{length-replicate}
use Rattle.std.proofs.lemmas.List.Elements.{All-cons, All-nil}
use Rattle.grammar.specs.Decimals.{capped, capped_decimal_at, decimal_at}
use Rattle.grammar.specs.Readers.{◌>>=◌}
use Rattle.ident_text.specs.declared.ident.Ident.{Ident}
use Rattle.ident_text.specs.Idents.{IsIdentValue}
use Rattle.seq_base.specs.Ids.{IsId}
use Rattle.object_text.specs.Commits.{IsEncoding}
use Rattle.seq_base.specs.World.{World}
use Rattle.state_text.specs.declared.control.Control.{Control}
use Rattle.state_text.specs.declared.control.Form.{Form}
use Rattle.state_text.specs.declared.control.Form.TheVariants.{New, Amend, Merge}
use Rattle.state_text.specs.declared.control.Left.{Left}
use Rattle.state_text.specs.declared.control.Left.TheVariants.{Lines}
use Rattle.state_text.specs.declared.options.Options.{Options}
use Rattle.state_text.specs.declared.state_file.StateFile.{StateFile}
use Rattle.state_text.specs.declared.state_file.StateFile.TheVariants as file
use Rattle.state_text.specs.declared.verb.Verb.{Verb}
use Rattle.state_text.specs.declared.verb.Verb.TheVariants.{Rebase, CherryPick, Revert}
use Rattle.state_text.specs.Controls.{IfThere, IsControl, IsForm, IsOfVerb, IsPending, IsTypedPending}
use Rattle.state_text.specs.Places.{folder_of, in_step_path, state_path}
use Rattle.state_text.specs.Texts.{number_line, text_in}
use Rattle.todo_text.specs.declared.line.Line.{Line}
use Rattle.todo_text.specs.declared.line.Line.TheVariants.{Noop}
use Rattle.todo_text.specs.Spells.{IsSpelled}
use Rattle.todo_text.proofs.TextLaws.{noop_spelled}
use Rattle.state_reading.specs.declared.settings.Settings.{Settings}
use Rattle.state_reading.specs.Recalls.{bytes_at, text_at}
use Rattle.state_reading.specs.Settings.{IsTold}
use Rattle.state_reading.specs.Values.{IsAuthor}
use Rattle.state_found.specs.Found.{Fits, IsFirstMisfit, IsFolderRead, IsHeld, IsLeftBehind, IsLeftOf, IsPaused, asked_files, files_before, has_files, has_lines}
use Rattle.state_found.specs.Judged.{RebaseJudged, RebaseKept, files_found, number_at, read_number, wanted}
use Rattle.state_found.specs.Recalled.{Files, IsRebaseIn, form_of, is_told, not_amend, pending_of, told_form}
use Rattle.state_found.proofs.AgreeLaws.{rebase_agrees}
use Rattle.state_found.proofs.FileLaws.{of_one}
use Rattle.state_found.proofs.JudgeLaws as judge
use Rattle.state_found.proofs.RebaseLaws as rebase

-- ---- the pending commit that is recalled may be one

form_fits : (f : Form) → IsForm f → IsForm (not_amend f)
form_fits New is = tt
form_fits Amend is = tt
form_fits (Merge other) is = is

pub told_form_fits : (told : Option (Form × Bool)) (en : Option (List ℕ)) → IsTold told en → IsForm (told_form told)
told_form_fits None en is = tt
told_form_fits (Some told) en is = is.0

told_encoding : (told : Option (Form × Bool)) (en : Option (List ℕ)) → IsTold told en → IsEncoding en
told_encoding None en is = subst IsEncoding (sym is) tt
told_encoding (Some told) en is = is.1

amend_form : (amend : Option (List ℕ)) (f : Form) → IsForm f → IsForm (form_of amend f)
amend_form None f is = form_fits f is
amend_form (Some id) f is = tt

author_parts : (o : Option Ident) → IfThere IsAuthor o → IfThere IsIdentValue o × IfThere (λ (ident : Ident). FitsSigned w64 ident.secs) o
author_parts None is = (tt, tt)
author_parts (Some ident) is = (is.value, is.fits)

pub pending_fits : (there : Bool) (form : Form) (message : List ℕ) (author : Option Ident) (told : Settings) → IsForm form → IfThere IsAuthor author
    → IsTold told.pending told.encoding
    → IfThere IsPending (pending_of there form message author told) × IfThere IsTypedPending (pending_of there form message author told)
pending_fits false form message author told is writer told-is = (tt, tt)
pending_fits true form message author told is writer told-is =
    let k = author_parts author writer in
    ((k.0, told_encoding told.pending told.encoding told-is), (is, k.1))

head_fits : (o : Option (List ℕ)) (head : List ℕ) → IfThere IsId o → IsId head → IsId (unwrap_or o head)
head_fits None head a b = b
head_fits (Some id) head a b = a

-- ---- a rebase with so many lines

abbrev pub with_lines : ℕ → Control → Control
with_lines n k = record k { left = Lines (replicate (n - length k.done) Noop) }

all_noops : (n : ℕ) → All IsSpelled (replicate n Noop)
all_noops zero = All-nil IsSpelled
all_noops (suc n) = All-cons IsSpelled Noop (replicate n Noop) noop_spelled (all_noops n)

count_noops : (n : ℕ) → length (replicate n Noop) ≡ n
count_noops n = length-replicate n Noop

number_small : (bytes : List ℕ) → number_at bytes < 2 ^ 64
unfolding capped_decimal_at
number_small bytes = at (decimal_at 10 bytes)
  where
    at : (r : Result (ℕ × List ℕ) ℕ) → read_number (r >>= λ x. Ok (capped x.0, x.1)) < 2 ^ 64
    at (Ok x) = omega arith
    at (Err left) = omega arith

module _ (found : Files) (k : Control) (r : IsRebaseIn found k) (small : length k.done < 2 ^ 64) where
  abbrev number : ℕ
  number = number_at (bytes_at found file.End)

  pub rebase_control : IsControl (with_lines number k)
  rebase_control =
      let pending = pending_fits (is_told (bytes_at found file.Message) r.author (is_some r.amend || is_some r.told.pending))
      (form_of r.amend (told_form r.told.pending)) (bytes_at found file.Message) r.author r.told
      (amend_form r.amend (told_form r.told.pending) (told_form_fits r.told.pending r.told.encoding r.told_is.fits.told)) r.author_is.fits
      r.told_is.fits.told in
      record {
        head_name = r.is.head_name.fits;
        done = r.is.done.fits;
        left = all_noops (number - length k.done);
        labels = r.is.labels.fits;
        updates = r.is.updates.fits.updates;
        ordered = r.is.updates.fits.ordered;
        chain = r.is.chain.fits.1;
        pending = subst (IfThere IsPending) (sym r.is.pending) pending.0;
        of_verb = rebase_verb;
      }
    where
      rebase_verb : IsOfVerb k.verb (with_lines number k)
      rebase_verb =
          let options = r.is.options in
          subst (λ (v : Verb). IsOfVerb v (with_lines number k)) (sym r.is.verb)
          (record {
            mainline = ap (λ (o : Options). o.mainline) options;
            edit = ap (λ (o : Options). o.edit) options;
            record_origin = ap (λ (o : Options). o.record_origin) options;
            allow_empty = ap (λ (o : Options). o.allow_empty) options;
          })

  pub rebase_held : IsHeld (with_lines number k)
  rebase_held =
      let pending = pending_fits (is_told (bytes_at found file.Message) r.author (is_some r.amend || is_some r.told.pending))
      (form_of r.amend (told_form r.told.pending)) (bytes_at found file.Message) r.author r.told
      (amend_form r.amend (told_form r.told.pending) (told_form_fits r.told.pending r.told.encoding r.told_is.fits.told)) r.author_is.fits
      r.told_is.fits.told in
      let mainline : k.options.mainline ≡ None = ap (λ (o : Options). o.mainline) r.is.options in
      record {
        typed = record {
          orig = r.is.orig.fits;
          onto = r.is.onto.fits;
          stopped_head = subst IsId (sym r.is.stopped_head) (head_fits r.amend r.told.head r.amend_is.fits r.told_is.fits.head);
          stopped_commit = r.is.stopped_commit.fits;
          updates = r.is.updates.fits.typed;
          rewritten = r.is.rewritten.fits;
          waiting = r.is.waiting.fits;
          chain = r.is.chain.fits.0;
          pending = subst (IfThere IsTypedPending) (sym r.is.pending) pending.1;
          mainline = subst (IfThere (λ (n : ℕ). n < 2 ^ 32)) (sym mainline) tt;
        };
        lines = λ _. omega (arith, count_noops (number - length k.done), number_small (bytes_at found file.End));
      }

  all_lines : length k.done + length (replicate (number - length k.done) Noop) ≡ max number (length k.done)
  all_lines = omega (arith, count_noops (number - length k.done))

  pub rebase_wanted : (f : StateFile) → judge.among f (asked_files Rebase) → wanted number f k ≡ text_in f (with_lines number k)
  unfolding text_in
  rebase_wanted file.HeadName there = refl
  rebase_wanted file.OrigHead there = refl
  rebase_wanted file.Onto there = refl
  rebase_wanted file.Interactive there = refl
  rebase_wanted file.RebaseTodo there = absurd cc
  rebase_wanted file.Backup there = refl
  rebase_wanted file.Done there = refl
  rebase_wanted file.Msgnum there = refl
  rebase_wanted file.End there = ap (λ (n : ℕ). Some (number_line n)) (sym all_lines)
  rebase_wanted file.Message there = refl
  rebase_wanted file.AuthorScript there = refl
  rebase_wanted file.Amend there = refl
  rebase_wanted file.StoppedSha there = refl
  rebase_wanted file.CurrentFixups there = refl
  rebase_wanted file.RewrittenList there = refl
  rebase_wanted file.RewrittenPending there = refl
  rebase_wanted file.RefsToDelete there = refl
  rebase_wanted file.UpdateRefs there = refl
  rebase_wanted file.Control there = refl
  rebase_wanted file.Todo there = absurd cc
  rebase_wanted file.Head there = absurd cc
  rebase_wanted file.AbortSafety there = absurd cc
  rebase_wanted file.Opts there = absurd cc
  rebase_wanted file.MergeMsg there = refl
  rebase_wanted file.MergeHead there = refl
  rebase_wanted file.RebaseHead there = refl
  rebase_wanted file.CherryPickHead there = refl
  rebase_wanted file.RevertHead there = refl

of_rebase : (y : Control) → folder_of y.verb ≡ folder_of Rebase → y.verb ≡ Rebase
of_rebase y e = at y.verb e
  where
    at : (v : Verb) → folder_of v ≡ folder_of Rebase → v ≡ Rebase
    at Rebase e = refl
    at CherryPick e = absurd cc
    at Revert e = absurd cc

module _ (w : World) (k : Control) where
  abbrev file_at : StateFile → Option (List ℕ)
  file_at f = files.get w (state_path Rebase f)

  abbrev found : Files
  found = files_found w Rebase

  -- a file that a control has is found as it has it
  has : (y : Control) → y.verb ≡ Rebase → (f : StateFile) → judge.among f (asked_files Rebase) → Fits w y f → text_at found f ≡ text_in f y
  has y of f there fits = judge.text_found file_at (asked_files Rebase) f there ∙ sym (ap (λ (v : Verb). files.get w (state_path v f)) of) ∙ fits

  module _ (misfit : Option StateFile) (j : RebaseJudged found misfit k) where
    abbrev n : ℕ
    n = number_at (bytes_at found file.End)

    fit : (f : StateFile) → judge.among f (asked_files Rebase) → judge.Holds file_at n k f → Fits w (with_lines n k) f
    fit f there holds = ap (λ (v : Verb). files.get w (state_path v f)) j.is.is.verb ∙ holds ∙ rebase_wanted found k j.is j.small f there

    -- another control that has the files before one, and that one, has it as it is wanted
    pub no_misfit : (y : Control) → IsControl y → IsHeld y → y.verb ≡ Rebase → (f : StateFile) → judge.among f (asked_files Rebase)
        → AllByRecursion (Fits w y) (files_before f (asked_files Rebase)) → Fits w y f → judge.Holds file_at n k f
    no_misfit y is held of f there before here =
        sym (ap (λ (v : Verb). files.get w (state_path v f)) of) ∙ here
        ∙ sym (rebase_agrees found k j.is y is held of f there
        (judge.all_before (Fits w y) (λ g. text_at found g ≡ text_in g y) f (asked_files Rebase) (has y of) before) (has y of f there here))

  pub rebase_first : (f : StateFile) → RebaseJudged found (Some f) k → IsFirstMisfit Rebase w f
  rebase_first f j =
      let n = number_at (bytes_at found file.End) in
      let m = judge.misfit file_at n k (asked_files Rebase) f (sym j.judged) in
      let told = with_lines n k in
      record {
        asked = m.there;
        goes_on = (
          told,
          rebase_control found k j.is j.small,
          rebase_held found k j.is j.small,
          ap folder_of j.is.is.verb,
          judge.all_before (judge.Holds file_at n k) (Fits w told) f (asked_files Rebase) (fit (Some f) j) m.before,
        );
        no_further = λ y is held folder before here. m.here (no_misfit (Some f) j y is held (of_rebase y folder) f m.there before here);
      }

  pub rebase_fits : RebaseJudged found None k → AllByRecursion (Fits w (with_lines (number_at (bytes_at found file.End)) k)) (asked_files Rebase)
  rebase_fits j =
      let holds = judge.no_misfit file_at (number_at (bytes_at found file.End)) k (asked_files Rebase) (sym j.judged) in
      judge.all_of (judge.Holds file_at (number_at (bytes_at found file.End)) k) (Fits w (with_lines (number_at (bytes_at found file.End)) k))
      (asked_files Rebase) (fit None j) holds

-- ---- the folder of a rebase

pub rebase_paused : (w : World) (kept : Control)
    (j : RebaseKept (files_found w Rebase) (unwrap_or (files.get w (state_path Rebase file.RebaseTodo)) []) kept)
    → has_files w (folder_of Rebase) ≡ true → files.get w (in_step_path Rebase) ≡ None → IsPaused w kept
rebase_paused w kept j folder rests =
    let k = j.told in
    let r = j.judged.is in
    let told = with_lines (number_at (bytes_at (files_found w Rebase) file.End)) k in
    let verb : Rebase ≡ k.verb = sym r.is.verb in
    record {
      told = told;
      control = rebase_control (files_found w Rebase) k r j.judged.small;
      held = rebase_held (files_found w Rebase) k r j.judged.small;
      folder = subst (λ (v : Verb). IsFolderRead w v) verb folder;
      rests = subst (λ (v : Verb). files.get w (in_step_path v) ≡ None) verb rests;
      fits = subst (λ (v : Verb). AllByRecursion (Fits w told) (asked_files v)) verb (rebase_fits w k j.judged);
      left = subst (λ (v : Verb). IsLeftBehind v w told kept.left) verb j.left.is;
      is = j.is;
    }

pub asked_same : (v u : Verb) → folder_of v ≡ folder_of u → asked_files v ≡ asked_files u
asked_same Rebase Rebase e = refl
asked_same Rebase CherryPick e = absurd cc
asked_same Rebase Revert e = absurd cc
asked_same CherryPick Rebase e = absurd cc
asked_same CherryPick CherryPick e = refl
asked_same CherryPick Revert e = refl
asked_same Revert Rebase e = absurd cc
asked_same Revert CherryPick e = refl
asked_same Revert Revert e = refl

-- where a file is the first that no control has, no control has them all
pub not_paused : (verb : Verb) (w : World) (f : StateFile) (other : Control) → IsFirstMisfit verb w f → (p : IsPaused w other)
    → folder_of p.told.verb ≡ folder_of verb → ⊥
not_paused verb w f other first p folder =
    let fits = subst (AllByRecursion (Fits w p.told)) (asked_same p.told.verb verb folder) p.fits in
    first.no_further p.told p.control p.held folder (judge.front_of (Fits w p.told) f (asked_files verb) fits)
    (of_one (Fits w p.told) (asked_files verb) f first.asked fits)

pub rebase_folder : (w : World) (v : Verb) → IsFolderRead w v → has_files w (folder_of Rebase) ≡ true → v ≡ Rebase
rebase_folder w Rebase is there = refl
rebase_folder w CherryPick is there = absurd cc
rebase_folder w Revert is there = absurd cc

pub same_control : (k y : Control) (l m : Left) → k.verb ≡ y.verb → k.options ≡ y.options → k.head_name ≡ y.head_name → k.orig ≡ y.orig
    → k.onto ≡ y.onto → k.done ≡ y.done → l ≡ m → k.backup ≡ y.backup → k.labels ≡ y.labels
    → k.updates ≡ y.updates → k.rewritten ≡ y.rewritten → k.waiting ≡ y.waiting → k.chain ≡ y.chain → k.stop ≡ y.stop
    → k.stopped_head ≡ y.stopped_head → k.stopped_commit ≡ y.stopped_commit → k.pending ≡ y.pending
    → record k { left = l } ≡ record y { left = m }
same_control k y l m a b c d e f g h i j n o p q r s t = rw (a, b, c, d, e, f, g, h, i, j, n, o, p, q, r, s, t) refl

pub rebase_only : (w : World) (kept other : Control)
    → RebaseKept (files_found w Rebase) (unwrap_or (files.get w (state_path Rebase file.RebaseTodo)) []) kept
    → has_files w (folder_of Rebase) ≡ true → IsPaused w other → kept ≡ other
rebase_only w kept other j folder p =
    let k = j.told in
    let r = j.judged.is in
    let y = p.told in
    let of = rebase_folder w y.verb p.folder folder in
    let fits = subst (λ (v : Verb). AllByRecursion (Fits w y) (asked_files v)) of p.fits in
    let Has : StateFile → Type 0 = λ f. text_at (files_found w Rebase) f ≡ text_in f y in
    let all : AllByRecursion Has (asked_files Rebase) = judge.all_of (Fits w y) Has (asked_files Rebase) (has w k y of) fits in
    let one : (f : StateFile) → judge.among f (asked_files Rebase) → Has f = λ f there. of_one Has (asked_files Rebase) f there all in
    let pending : rebase.HasPending (files_found w Rebase) k r y p.control p.held.typed of =
    record { message = one file.Message refl; author = one file.AuthorScript refl; amend = one file.Amend refl; control = one file.Control refl } in
    let done = rebase.done_same (files_found w Rebase) k r y p.control p.held.typed of (one file.Done refl) in
    let bytes = unwrap_or (files.get w (state_path Rebase file.RebaseTodo)) [] in
    let read = subst (λ (v : Verb). IsLeftBehind v w y other.left) of p.left in
    let left : kept.left ≡ other.left = j.left.only other.left
    (subst (λ (ls : List Line). IsLeftOf (has_lines ls) bytes other.left) (sym done) read) in
    j.is
    ∙ same_control k y kept.left other.left (r.is.verb ∙ sym of)
    (rebase.options_same (files_found w Rebase) k r y p.control p.held.typed of (one file.Control refl))
    (rebase.head_name_same (files_found w Rebase) k r y p.control p.held.typed of (one file.HeadName refl))
    (rebase.orig_same (files_found w Rebase) k r y p.control p.held.typed of (one file.OrigHead refl))
    (rebase.onto_same (files_found w Rebase) k r y p.control p.held.typed of (one file.Onto refl))
    done left
    (rebase.backup_same (files_found w Rebase) k r y p.control p.held.typed of (one file.Backup refl))
    (rebase.labels_same (files_found w Rebase) k r y p.control p.held.typed of (one file.RefsToDelete refl))
    (rebase.updates_same (files_found w Rebase) k r y p.control p.held.typed of (one file.UpdateRefs refl))
    (rebase.rewritten_same (files_found w Rebase) k r y p.control p.held.typed of (one file.RewrittenList refl))
    (rebase.waiting_same (files_found w Rebase) k r y p.control p.held.typed of (one file.RewrittenPending refl))
    (rebase.chain_same (files_found w Rebase) k r y p.control p.held.typed of (one file.CurrentFixups refl))
    (rebase.stop_same (files_found w Rebase) k r y p.control p.held.typed of (one file.Control refl))
    (rebase.stopped_head_same (files_found w Rebase) k r y p.control p.held.typed of pending)
    (rebase.stopped_same (files_found w Rebase) k r y p.control p.held.typed of (one file.StoppedSha refl))
    (rebase.pending_same (files_found w Rebase) k r y p.control p.held.typed of pending)
    ∙ sym p.is
