-- What a control is recalled as: each of its parts is what its file was written of.
use Rattle.std.specs.Prelude.{◌≡◌, Bool, false, not, ◌&&◌, ◌||◌, ◌==◌, if◌then◌else◌, List, [], length, All, Option, Some, None, is_some, unwrap_or}
use Rattle.std.specs.List.{AllByRecursion}
use Rattle.ident_text.specs.declared.ident.Ident.{Ident}
use Rattle.seq_base.specs.Ids.{IsId}
use Rattle.seq_base.specs.RefNames.{IsRefName}
use Rattle.seq_base.specs.Words.{Id, Text}
use Rattle.state_text.specs.declared.control.Control.{Control}
use Rattle.state_text.specs.declared.control.Form.{Form}
use Rattle.state_text.specs.declared.control.Form.TheVariants.{New, Amend, Merge}
use Rattle.state_text.specs.declared.control.Left.TheVariants.{Lines, Raw}
use Rattle.state_text.specs.declared.control.Pending.{Pending}
use Rattle.state_text.specs.declared.options.Empty.{Empty}
use Rattle.state_text.specs.declared.options.Empty.TheVariants as empty
use Rattle.state_text.specs.declared.options.Options.{Options}
use Rattle.state_text.specs.declared.state_file.StateFile.{StateFile}
use Rattle.state_text.specs.declared.state_file.StateFile.TheVariants as file
use Rattle.state_text.specs.declared.verb.Verb.{Verb}
use Rattle.state_text.specs.declared.verb.Verb.TheVariants.{Rebase, CherryPick, Revert}
use Rattle.state_text.specs.Controls.{IfThere, IsLabel}
use Rattle.state_text.specs.Texts.{head_name_text, id_line}
use Rattle.state_reading.specs.declared.opts.SetOptions.{SetOptions}
use Rattle.state_reading.specs.declared.settings.Settings.{Settings}
use Rattle.state_reading.specs.Lines.{AreItems, AreUpdates, IsIdPair, ids_text, items_text, labels_text, pairs_text, updates_text}
use Rattle.state_reading.specs.Recalls.{Recalls, bytes_at}
use Rattle.state_reading.specs.Settings.{AreSet, IsSettings, set_text, settings_text}
use Rattle.state_reading.specs.Values.{IsAuthor, optional_line, optional_script}
use Rattle.todo_text.specs.declared.line.Line.{Line}
use Rattle.todo_text.specs.Spells.{IsSpelled}
use Rattle.todo_text.specs.Todos.{todo_text}

-- the files that were found, with what they hold
abbrev pub Files : Type 0
Files = List (StateFile × Option Text)

-- ---- the commit that is still to be made

abbrev pub told_form : Option (Form × Bool) → Form
told_form None = New
told_form (Some told) = told.0

abbrev pub told_edit : Option (Form × Bool) → Bool
told_edit None = false
told_edit (Some told) = told.1

-- the file `amend` tells that it takes the place of another, and no other file does
abbrev pub not_amend : Form → Form
not_amend New = New
not_amend Amend = New
not_amend (Merge other) = Merge other

abbrev pub form_of : Option Id → Form → Form
form_of None form = not_amend form
form_of (Some id) form = Amend

-- some file tells of it
abbrev pub is_told : Text → Option Ident → Bool → Bool
is_told message author told = not (length message == 0) || is_some author || told

abbrev pub pending_of : Bool → Form → Text → Option Ident → Settings → Option Pending
pending_of there form message author told =
    if there then Some (record { form = form; edit = told_edit told.pending; author = author; encoding = told.encoding; message = message }) else None

-- ---- a rebase

abbrev pub rebase_options : Settings → Options
rebase_options told =
    record {
      ff = told.ff;
      empty = told.empty;
      reschedule = told.reschedule;
      mainline = None;
      edit = false;
      record_origin = false;
      allow_empty = false;
    }

abbrev pub rebase_pending : Files → Option Id → Option Ident → Settings → Option Pending
rebase_pending found amend author told =
    pending_of (is_told (bytes_at found file.Message) author (is_some amend || is_some told.pending)) (form_of amend (told_form told.pending))
    (bytes_at found file.Message) author told

-- but for what is left
pub record IsRebaseOf (found : Files) (amend : Option Id) (author : Option Ident) (told : Settings) (k : Control) : Type 0 where
  pub verb : k.verb ≡ Rebase
  pub options : k.options ≡ rebase_options told
  pub head_name : Recalls (IfThere IsRefName) head_name_text (bytes_at found file.HeadName) k.head_name
  pub orig : Recalls IsId id_line (bytes_at found file.OrigHead) k.orig
  pub onto : Recalls IsId id_line (bytes_at found file.Onto) k.onto
  pub done : Recalls (All IsSpelled) todo_text (bytes_at found file.Done) k.done
  pub left : k.left ≡ Raw []
  pub backup : k.backup ≡ bytes_at found file.Backup
  pub labels : Recalls (AllByRecursion IsLabel) labels_text (bytes_at found file.RefsToDelete) k.labels
  pub updates : Recalls AreUpdates updates_text (bytes_at found file.UpdateRefs) k.updates
  pub rewritten : Recalls (AllByRecursion IsIdPair) pairs_text (bytes_at found file.RewrittenList) k.rewritten
  pub waiting : Recalls (AllByRecursion IsId) ids_text (bytes_at found file.RewrittenPending) k.waiting
  pub chain : Recalls AreItems items_text (bytes_at found file.CurrentFixups) k.chain
  pub stop : k.stop ≡ told.stop
  pub stopped_head : k.stopped_head ≡ unwrap_or amend told.head
  pub stopped_commit : Recalls (IfThere IsId) optional_line (bytes_at found file.StoppedSha) k.stopped_commit
  pub pending : k.pending ≡ rebase_pending found amend author told

pub record IsRebaseIn (found : Files) (k : Control) : Type 0 where
  pub amend : Option Id
  pub amend_is : Recalls (IfThere IsId) optional_line (bytes_at found file.Amend) amend
  pub author : Option Ident
  pub author_is : Recalls (IfThere IsAuthor) optional_script (bytes_at found file.AuthorScript) author
  pub told : Settings
  pub told_is : Recalls IsSettings settings_text (bytes_at found file.Control) told
  pub is : IsRebaseOf found amend author told k

-- ---- a cherry-pick or a revert

abbrev pub is_plain : SetOptions → Bool
is_plain o = not o.record_origin && not o.allow_empty

-- options that a revert has not are a cherry-pick's
abbrev pub sequence_verb : Verb → Bool → Verb
sequence_verb Rebase plain = CherryPick
sequence_verb CherryPick plain = CherryPick
sequence_verb Revert plain = if plain then Revert else CherryPick

abbrev pub sequence_empty : Verb → Empty → Empty
sequence_empty Rebase e = e
sequence_empty CherryPick e = e
sequence_empty Revert e = empty.Stop

abbrev pub sequence_options : Verb → Settings → SetOptions → Options
sequence_options verb told o = record {
  ff = false;
  empty = sequence_empty verb told.empty;
  reschedule = false;
  mainline = o.mainline;
  edit = o.edit;
  record_origin = o.record_origin;
  allow_empty = o.allow_empty;
}

abbrev pub sequence_pending : Files → Option Ident → Settings → Option Pending
sequence_pending found author told =
    pending_of (is_told (bytes_at found file.Message) author (is_some told.pending)) (told_form told.pending)
    (bytes_at found file.Message) author told

pub record IsSequenceOf (found : Files) (author : Option Ident) (told : Settings) (o : SetOptions) (k : Control) : Type 0 where
  pub verb : k.verb ≡ sequence_verb told.verb (is_plain o)
  pub options : k.options ≡ sequence_options k.verb told o
  pub head_name : k.head_name ≡ None
  pub orig : Recalls IsId id_line (bytes_at found file.Head) k.orig
  pub onto : k.onto ≡ k.orig
  pub done : Recalls (All IsSpelled) todo_text (bytes_at found file.Done) k.done
  pub left : (ls : List Line) × Recalls (All IsSpelled) todo_text (bytes_at found file.Todo) ls × (k.left ≡ Lines ls)
  pub backup : k.backup ≡ []
  pub labels : k.labels ≡ []
  pub updates : k.updates ≡ []
  pub rewritten : k.rewritten ≡ []
  pub waiting : k.waiting ≡ []
  pub chain : k.chain ≡ []
  pub stop : k.stop ≡ told.stop
  pub stopped_head : Recalls IsId id_line (bytes_at found file.AbortSafety) k.stopped_head
  pub stopped_commit : Recalls (IfThere IsId) optional_line (bytes_at found file.StoppedSha) k.stopped_commit
  pub pending : k.pending ≡ sequence_pending found author told

pub record IsSequenceIn (found : Files) (k : Control) : Type 0 where
  pub author : Option Ident
  pub author_is : Recalls (IfThere IsAuthor) optional_script (bytes_at found file.AuthorScript) author
  pub told : Settings
  pub told_is : Recalls IsSettings settings_text (bytes_at found file.Control) told
  pub chosen : SetOptions
  pub chosen_is : Recalls AreSet set_text (bytes_at found file.Opts) chosen
  pub is : IsSequenceOf found author told chosen k
