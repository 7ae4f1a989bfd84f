-- The stages of a reading between its turns: before a line, a line, the end; and the list of its lines (git-rebase(1), "INTERACTIVE MODE").
use Rattle.std.specs.Prelude.{ℕ, ◌+◌, if◌then◌else◌, List, [], ◌∷◌, ◌++◌, codes, filter, not, map, Ok}
use Rattle.std.specs.List.{flat_map}
use Rattle.std.specs.Str.{bytes_eq}
use Rattle.seq_base.specs.Words.{Id}
use Rattle.seq_base.specs.World.{World}
use Rattle.state_text.specs.Texts.{pair_line}
use Rattle.seq_model.specs.declared.reason.Reason.{Reason}
use Rattle.seq_model.specs.declared.reason.Reason.TheVariants as reason
use Rattle.seq_model.specs.declared.stop.StopKind.TheVariants as kind
use Rattle.seq_outside.specs.Doing.{◌>>=◌, Does, gives, makes, place, places, saying}
use Rattle.todo_text.specs.declared.line.Line.{Line}
use Rattle.state_text.specs.declared.control.Control.{Control}
use Rattle.state_text.specs.declared.options.Options.{Options}
use Rattle.reading.specs.Ending.{refs_ended}
use Rattle.line_steps.specs.Heads.{clean_at, head_found}
use Rattle.line_steps.specs.declared.unclean.Unclean.{Unclean}
use Rattle.line_steps.specs.declared.unclean.Unclean.TheVariants.{IsChanged, IsUnread}
use Rattle.line_steps.specs.Hooks.{hook_does}
use Rattle.line_steps.specs.declared.setting.Setting.{Setting}
use Rattle.line_steps.specs.Making.{makers}
pub use Rattle.line_steps.specs.Steps.{line_does}
pub use Rattle.line_steps.specs.declared.pause.Pause.{Pause}
use Rattle.line_steps.specs.Places.{Doing, heads, reads, seen, stop_of}
use Rattle.line_steps.specs.declared.place.Place.{Place}
use Rattle.line_steps.specs.declared.stop.Stop.{Stop}
use Rattle.reading.specs.State.{without_state}

-- ---- before a line, and before the end

-- the list stops between its lines: none is put back
abbrev pub between : Reason → Stop
between why = stop_of (kind.Blocked why)

abbrev pub left_unclean : Unclean → Stop
left_unclean (IsUnread why) = between why
left_unclean (IsChanged path) = between (reason.Dirty path)

-- HEAD's commit, as it is then
unfoldable pub head_does : Doing Id
head_does = do
  head ← reads between head_found
  _ ← heads head
  gives head

-- index and files are those of HEAD's commit
unfoldable pub clean_does : Id → Doing (Unit {0})
clean_does head = do
  _ ← reads left_unclean (λ w. clean_at w head)
  seen

-- the same, where a hook or an editor has ended since they were last looked at
unfoldable pub look_does : Id → Doing (Unit {0})
look_does head = do
  here ← place
  if here.unseen then clean_does head else gives tt

-- a commit that became itself is no pair
abbrev pub paired : List Id → Id → List (Id × Id)
paired waiting head = map (λ id. (id, head)) (filter (λ id. not (bytes_eq id head)) waiting)

-- The commits that wait are paired with HEAD. (Here an open chain is closed first.)
abbrev pub closes : Id → Doing (Unit {0})
closes head = places (λ p. record p { rewritten = p.rewritten ++ paired p.waiting head; waiting = [] })

unfoldable pub before_line_does : Doing (Unit {0})
before_line_does = do
  head ← head_does
  _ ← look_does head
  closes head

unfoldable pub before_end_does : Doing Id
before_end_does = do
  head ← head_does
  _ ← closes head
  gives head

-- ---- the end

-- the hook is told of each pair, and not run without one
abbrev pub rewritten_does : List (Id × Id) → Doing (Unit {0})
rewritten_does [] = gives tt
rewritten_does (pair ∷ pairs) = hook_does (codes "post-rewrite") (codes "rebase" ∷ []) (flat_map pair_line (pair ∷ pairs))

abbrev pub left_as : (World → World) → Doing (Unit {0})
left_as change = makes (λ w. (Ok tt, change w))

-- nothing of the list's state is left, and the hook is run
unfoldable pub end_clears : List (Id × Id) → Doing (Unit {0})
end_clears pairs = do
  _ ← left_as without_state
  rewritten_does pairs

-- the refs are written first
unfoldable pub end_at : Setting → Control → Id → Place → Doing (Unit {0})
end_at setting k head here = do
  _ ← makes (refs_ended setting k head here.updates)
  end_clears here.rewritten

unfoldable pub end_does : Setting → Control → Doing (Unit {0})
end_does setting k = do
  head ← before_end_does
  here ← place
  end_at setting k head here

-- ---- the list

abbrev pub paused_at : ℕ → Stop → Pause
paused_at n stop = record { stop = stop; done = n }

-- after a line, which is done unless it is put back
abbrev pub paused_after : ℕ → Stop → Pause
paused_after n stop = record { stop = stop; done = if stop.put_back then n else n + 1 }

-- a line after so many that are done, with what comes before it
unfoldable pub line_goes : Setting → Options → Line → ℕ → Does Place Pause (Unit {0})
line_goes setting options line n = do
  _ ← saying (paused_at n) before_line_does
  saying (paused_after n) (line_does makers setting options line)

-- The lines, one after another, of which so many are done; and the end.
unfoldable pub lines_do : Setting → Control → List Line → ℕ → Does Place Pause (Unit {0})
lines_do setting k [] n = saying (paused_at n) (end_does setting k)
lines_do setting k (line ∷ lines) n = do
  _ ← line_goes setting k.options line n
  lines_do setting k lines (n + 1)
