-- What a command comes to, of those that are built: the pick of one commit without options, and the commands on index, files and objects.
use Rattle.std.specs.Prelude.{ℤ, Bool, true, false, not, ◌&&◌, if◌then◌else◌, List, [], ◌∷◌, Option, Some, None, is_some}
use Rattle.seq_base.specs.Words.{Id, Text}
use Rattle.seq_outside.specs.Turns.{Turn, ◌>>=◌, gives, looks}
use Rattle.seq_outside.specs.declared.env.Env.{Env}
use Rattle.seq_model.specs.Picked.{picked}
use Rattle.seq_model.specs.declared.command.Command.{Command}
use Rattle.seq_model.specs.declared.command.Command.TheVariants.{Start, Act, Plumb}
use Rattle.state_text.specs.declared.options.Empty.{Empty}
use Rattle.state_text.specs.declared.options.Empty.TheVariants.{Stop}
use Rattle.state_text.specs.declared.options.Options.{Options}
use Rattle.seq_model.specs.declared.command.StartWords.{StartWords}
use Rattle.seq_model.specs.declared.denial.Denial.{Denial}
use Rattle.seq_model.specs.declared.reply.Reply.{Reply}
use Rattle.seq_model.specs.Unbuilt.{not_built}
use Rattle.seq_plumb.specs.Plumbed.{plumbed, prints_own}
use Rattle.state_text.specs.declared.verb.Verb.{Verb}
use Rattle.state_text.specs.declared.verb.Verb.TheVariants.{CherryPick}

abbrev pub is_stop : Empty → Bool
is_stop Stop = true
is_stop _ = false

-- what a cherry-pick has without options; it has none for the other two
abbrev pub is_plain : Options → Bool
is_plain options =
    is_stop options.empty && not (is_some options.mainline) && not options.edit && not options.record_origin && not options.allow_empty

abbrev pub is_cherry_pick : Verb → Bool
is_cherry_pick CherryPick = true
is_cherry_pick _ = false

abbrev pub only_word : List Text → Option Text
only_word (word ∷ []) = Some word
only_word words = None

abbrev pub picked_alone : StartWords → Option Text
picked_alone start = if is_cherry_pick start.verb && is_plain start.options then only_word start.revs else None

-- the commit is what HEAD then is at, and nothing but the report is printed
abbrev pub replied : Turn Denial Id → Turn Denial Reply
replied step = do
  id ← step
  gives (record { head = Some id; own = [] })

-- the pick of the commit that is asked for, and the refusal where no such pick is asked for
abbrev pub picked_or_not : Env → ℤ → Option Text → Turn Denial Reply
picked_or_not env secs (Some word) = replied (picked env secs word)
picked_or_not env secs None = looks not_built

-- what a command comes to at a moment
abbrev pub meant : Env → Command → ℤ → Turn Denial Reply
meant env (Start start) secs = picked_or_not env secs (picked_alone start)
meant env (Act verb action) secs = looks not_built
meant env (Plumb words) secs = plumbed words

-- it makes a commit, where it is not refused
abbrev pub commits : Command → Bool
commits (Start start) = true
commits (Act verb action) = true
commits (Plumb words) = false

-- it prints a text of its own in the place of `done`
abbrev pub tells_itself : Command → Bool
tells_itself (Start start) = false
tells_itself (Act verb action) = false
tells_itself (Plumb words) = prints_own words
