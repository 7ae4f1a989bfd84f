-- The message of a commit, which hooks and an editor may change (git-commit(1), "--edit", "--cleanup"; githooks(5)).
use Rattle.std.specs.Prelude.{Bool, false, ◌&&◌, ◌||◌, ◌==◌, ℕ, is_some, unwrap_or, if◌then◌else◌, List, [], ◌∷◌, codes, Option, Some, None}
use Rattle.std.specs.Prelude.{Result, Ok, Err}
use Rattle.std.specs.FinMap as map
use Rattle.std.specs.List.{list_all}
use Rattle.child_jobs.specs.Editors.{editor_for}
use Rattle.child_jobs.specs.Jobs.{editor_of}
use Rattle.config_text.specs.declared.config.Setting.{Setting}
use Rattle.message_text.specs.Cleaned.{cleaned}
use Rattle.seq_base.specs.Blanks.{is_blank}
use Rattle.seq_base.specs.Words.{Name, Path, Text}
use Rattle.seq_base.specs.World.{World}
use Rattle.seq_outside.specs.Doing.{◌>>=◌, Does, gives, looks, makes, place, saying}
use Rattle.seq_outside.specs.Turns.{put_in}
use Rattle.seq_outside.specs.declared.env.Env.{Env}
use Rattle.child_steps.specs.Children.{asked, hook_asked}
use Rattle.child_steps.specs.declared.child.ChildEnd.{ChildEnd}
use Rattle.commit_maker.specs.declared.making.Making.{Making}
use Rattle.commit_maker.specs.declared.making.Source.{Source}
use Rattle.commit_maker.specs.declared.making.Source.TheVariants as source
use Rattle.commit_maker.specs.declared.stop.MakeStop.{MakeStop}
use Rattle.commit_maker.specs.declared.stop.MakeStop.TheVariants.{HookRefused, EditorFailed, EmptyMessage, Lacks}

-- at its place such a step tells whether a hook or an editor has ended
abbrev pub Committing : Type 0 → Type 0
Committing X = Does Bool MakeStop X

-- where hooks and an editor find the message
abbrev pub message_path : Path
message_path = codes ".git/COMMIT_EDITMSG"

-- ---- what sees it

abbrev pub hook_refused : Name → ChildEnd → MakeStop
hook_refused name child = HookRefused name child.exit child.failed

abbrev pub editor_failed : ChildEnd → MakeStop
editor_failed child = EditorFailed child.exit child.failed

-- a hook that may refuse the commit
abbrev pub hook_does : Name → List Text → Committing (Unit {0})
hook_does name arguments = saying (hook_refused name) (hook_asked name arguments)

-- what the hook is told of a message
abbrev pub source_word : Source → Text
source_word source.Message = codes "message"
source_word source.Merge = codes "merge"
source_word source.Squash = codes "squash"

unfoldable pub pre_commit : Bool → Committing (Unit {0})
pre_commit edit = if edit then hook_does (codes "pre-commit") [] else gives tt

unfoldable pub prepare_commit_msg : Source → Committing (Unit {0})
prepare_commit_msg from = hook_does (codes "prepare-commit-msg") (message_path ∷ source_word from ∷ [])

unfoldable pub commit_msg : Bool → Committing (Unit {0})
commit_msg edit = if edit then hook_does (codes "commit-msg") (message_path ∷ []) else gives tt

-- the editor of a message that is to be edited, if one is to be run
abbrev pub editor_at : List Setting → Env → Bool → Option Text
editor_at settings env edit = if edit then editor_for settings env false else None

unfoldable pub edited_by : Option Text → Committing (Unit {0})
edited_by None = gives tt
edited_by (Some editor) = saying editor_failed (asked (editor_of editor message_path))

-- hooks and the editor see the message, in their order
unfoldable pub shown : Bool → Source → Option Text → Committing (Unit {0})
shown edit from editor = do
  _ ← pre_commit edit
  _ ← prepare_commit_msg from
  _ ← edited_by editor
  commit_msg edit

-- ---- what is left of it

-- the text that stands there: a file that is gone is empty
abbrev pub text_at : World → Text
text_at w = unwrap_or (map.get w message_path) []

abbrev pub is_blank_or_feed : ℕ → Bool
is_blank_or_feed b = is_blank b || b == 10

abbrev pub cleaned_if : Bool → Text → Text
cleaned_if cleans text = if cleans then cleaned text else text

-- A message is none where a hook or an editor left no byte but blanks and line feeds.
abbrev pub unless_empty : Bool → Text → Result Text MakeStop
unless_empty ran text = if ran && list_all is_blank_or_feed text then Err EmptyMessage else Ok text

unfoldable pub message_left : Bool → Bool → World → Result Text MakeStop
message_left ran cleans w = unless_empty ran (cleaned_if cleans (text_at w))

-- the text as it then stands
unfoldable pub left_does : Bool → Committing Text
left_does cleans = do
  ran ← place
  looks (message_left ran cleans)

-- The text is put where hooks and the editor find it, and what they leave of it is the message: cleaned, where it was edited or is a chain's.
unfoldable pub message_does : Option Text → Making → Committing Text
message_does editor making = do
  _ ← saying Lacks (makes (put_in message_path making.message))
  _ ← shown making.edit making.source editor
  left_does (is_some editor || making.chain)
