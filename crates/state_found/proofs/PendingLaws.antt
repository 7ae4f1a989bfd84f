-- The commit that is still to be made, and what `control` says of it.
use Rattle.std.proofs.Common.{◌≡◌, ◌∙◌, ℕ, Bool, true, false, List, [], ◌∷◌, ◌++◌, length, Option, Some, None, refl, sym, ap}
use Rattle.std.specs.Prelude.{◌||◌, ◌==◌, codes, is_some, not, unwrap_or, FitsSigned}
use Rattle.std.specs.Int.{w64}
use Rattle.std.proofs.lemmas.Bool.{not-false, or_parts}
use Rattle.ident_text.specs.declared.ident.Ident.{Ident}
use Rattle.seq_base.specs.Ids.{IsId}
use Rattle.ident_text.specs.Idents.{IsIdentValue}
use Rattle.object_text.specs.Commits.{encoding_text}
use Rattle.state_text.specs.declared.control.Control.{Control}
use Rattle.state_text.specs.declared.control.Form.{Form}
use Rattle.state_text.specs.declared.control.Form.TheVariants.{New, Amend, Merge}
use Rattle.state_text.specs.declared.control.Pending.{Pending}
use Rattle.state_text.specs.declared.options.Empty.{Empty}
use Rattle.state_text.specs.declared.options.Options.{Options}
use Rattle.state_text.specs.declared.stop_word.StopWord.{StopWord}
use Rattle.state_text.specs.declared.verb.Verb.{Verb}
use Rattle.state_text.specs.Controls.{IfThere, IsPending, IsTypedPending}
use Rattle.state_text.specs.Texts.{amend_of, amended, author_of, control_text, encoding_of, message_of, pending_word}
use Rattle.state_reading.specs.declared.settings.Settings.{Settings}
use Rattle.state_reading.specs.Settings.{IsSettings, IsTold, pending_told, settings_text, stops_text, verbs_text}
use Rattle.state_reading.specs.Values.{IsAuthor}
use Rattle.state_found.specs.Recalled.{form_of, is_told, not_amend, pending_of, told_form}
use Rattle.state_found.proofs.FileLaws.{nothing_is}

abbrev pub told_of : Option Pending → Option (Form × Bool)
told_of None = None
told_of (Some p) = Some (p.form, p.edit)

-- what `control` says
abbrev pub settings_from : Verb → Options → StopWord → List ℕ → Option Pending → Settings
settings_from verb options stop head pending = record {
  verb = verb;
  empty = options.empty;
  ff = options.ff;
  reschedule = options.reschedule;
  stop = stop;
  head = head;
  pending = told_of pending;
  encoding = encoding_of pending;
}

abbrev pub settings_of : Control → Settings
settings_of y = settings_from y.verb y.options y.stop y.stopped_head y.pending

word_same : (p : Option Pending) → pending_word p ≡ pending_told (told_of p)
word_same None = refl
word_same (Some p) = refl

pub control_told : (y : Control) → control_text y ≡ settings_text (settings_of y)
control_told y =
    let s = settings_of y in
    ap (λ (w : List ℕ). verbs_text s ++ stops_text s ++ (codes "pending " ++ w ++ 10 ∷ encoding_text (encoding_of y.pending))) (word_same y.pending)

told_fits : (p : Option Pending) → IfThere IsPending p → IfThere IsTypedPending p → IsTold (told_of p) (encoding_of p)
told_fits None is typed = refl
told_fits (Some p) is typed = (typed.0, is.1)

pub settings_fit : (y : Control) → IsId y.stopped_head → IfThere IsPending y.pending → IfThere IsTypedPending y.pending → IsSettings (settings_of y)
settings_fit y head is typed = record { head = head; told = told_fits y.pending is typed }

pub author_fits : (p : Option Pending) → IfThere IsPending p → IfThere IsTypedPending p → IfThere IsAuthor (author_of p)
author_fits None is typed = tt
author_fits (Some p) is typed = at p.author is.0 typed.1
  where
    at : (o : Option Ident) → IfThere IsIdentValue o → IfThere (λ (ident : Ident). FitsSigned w64 ident.secs) o → IfThere IsAuthor o
    at None a b = tt
    at (Some ident) a b = record { value = a; fits = b }

pub amend_fits : (p : Option Pending) (head : List ℕ) → IsId head → IfThere IsId (amend_of p head)
amend_fits None head is = tt
amend_fits (Some p) head is = at p.form
  where
    at : (f : Form) → IfThere IsId (amended f head)
    at New = tt
    at Amend = is
    at (Merge other) = tt

-- ---- options

abbrev pub options_from : Bool → Empty → Bool → Option ℕ → Bool → Bool → Bool → Options
options_from ff empty reschedule mainline edit origin allowed =
    record { ff = ff; empty = empty; reschedule = reschedule; mainline = mainline; edit = edit; record_origin = origin; allow_empty = allowed }

pub options_made : (o : Options) (ff : Bool) (empty : Empty) (reschedule : Bool) (mainline : Option ℕ) (edit origin allowed : Bool) → ff ≡ o.ff
    → empty ≡ o.empty → reschedule ≡ o.reschedule → mainline ≡ o.mainline
    → edit ≡ o.edit → origin ≡ o.record_origin → allowed ≡ o.allow_empty → options_from ff empty reschedule mainline edit origin allowed ≡ o
options_made o ff empty reschedule mainline edit origin allowed a b c d e f g = rw (a, b, c, d, e, f, g) refl

-- ---- it is recalled

module _ (message : List ℕ) (author : Option Ident) (told : Settings) where
  told_empty : (b : Bool) → is_told message author b ≡ false → (message ≡ []) × (author ≡ None)
  told_empty b off =
      let k = or_parts (not (length message == 0) || is_some author) b off in
      let j = or_parts (not (length message == 0)) (is_some author) k.0 in
      (nothing_is message (not-false (length message == 0) j.0), at author j.1)
    where
      at : (o : Option Ident) → is_some o ≡ false → o ≡ None
      at None e = refl
      at (Some ident) e = absurd cc

  -- its message, and its author, whether some file tells of it or none
  pub message_is : (form : Form) (b : Bool) → message_of (pending_of (is_told message author b) form message author told) ≡ message
  message_is form b = at (is_told message author b) refl
    where
      at : (t : Bool) → is_told message author b ≡ t → message_of (pending_of t form message author told) ≡ message
      at true on = refl
      at false off = sym (told_empty b off).0

  pub author_is : (form : Form) (b : Bool) → author_of (pending_of (is_told message author b) form message author told) ≡ author
  author_is form b = at (is_told message author b) refl
    where
      at : (t : Bool) → is_told message author b ≡ t → author_of (pending_of t form message author told) ≡ author
      at true on = refl
      at false off = sym (told_empty b off).1

or_true : (a : Bool) → (a || true) ≡ true
or_true true = refl
or_true false = refl

always_told : (message : List ℕ) (author : Option Ident) (b : Bool) → b ≡ true → is_told message author b ≡ true
always_told message author b is =
    ap (λ (v : Bool). not (length message == 0) || is_some author || v) is ∙ or_true (not (length message == 0) || is_some author)

not_amended : (f : Form) (head : List ℕ) → amended (not_amend f) head ≡ None
not_amended New head = refl
not_amended Amend head = refl
not_amended (Merge other) head = refl

-- the commit that a pending one takes the place of
pub amend_is : (message : List ℕ) (author : Option Ident) (told : Settings) (amend : Option (List ℕ))
    → amend_of (pending_of (is_told message author (is_some amend || is_some told.pending))
    (form_of amend (told_form told.pending)) message author told) (unwrap_or amend told.head) ≡ amend
amend_is message author told None = at (is_told message author (is_some told.pending))
  where
    at : (t : Bool) → amend_of (pending_of t (not_amend (told_form told.pending)) message author told) told.head ≡ None
    at true = not_amended (told_form told.pending) told.head
    at false = refl
amend_is message author told (Some id) =
    ap (λ (t : Bool). amend_of (pending_of t Amend message author told) id) (always_told message author true refl)

form_is : (f : Form) (head : List ℕ) → form_of (amended f head) f ≡ f
form_is New head = refl
form_is Amend head = refl
form_is (Merge other) head = refl

-- what a control's own files tell is its own commit
pub rebase_whole : (p : Option Pending) (head : List ℕ) (told : Settings) → told.pending ≡ told_of p → told.encoding ≡ encoding_of p
    → pending_of (is_told (message_of p) (author_of p) (is_some (amend_of p head) || is_some told.pending))
    (form_of (amend_of p head) (told_form told.pending)) (message_of p) (author_of p) told ≡ p
rebase_whole None head told e f = rw e refl
rebase_whole (Some p) head told e f =
    let there = always_told p.message p.author (is_some (amended p.form head) || true) (or_true (is_some (amended p.form head))) in
    let form = form_is p.form head in
    rw (e, f, there, form) refl

pub sequence_whole : (p : Option Pending) (told : Settings) → told.pending ≡ told_of p → told.encoding ≡ encoding_of p
    → pending_of (is_told (message_of p) (author_of p) (is_some told.pending)) (told_form told.pending) (message_of p) (author_of p) told ≡ p
sequence_whole None told e f = rw e refl
sequence_whole (Some p) told e f =
    let there = always_told p.message p.author true refl in
    rw (e, f, there) refl
