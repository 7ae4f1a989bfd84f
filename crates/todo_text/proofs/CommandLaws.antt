-- The words that name a command.
use Rattle.std.proofs.Common.{◌≡◌, ◌⊎◌, ℕ, Bool, true, false, cond, List, [], Option, Some, None, refl, ap, ◌∙◌, subst, inl, inr, ⊎_elim}
use Rattle.std.specs.Prelude.{codes}
use Rattle.std.specs.Str.{bytes_eq}
use Rattle.std.proofs.lemmas.Bool.{or_cases}
use Rattle.std.proofs.lemmas.Slice.Eq.{bytes_eq-Decides}
use Rattle.todo_text.specs.declared.line.Line.{Line}
use Rattle.todo_text.specs.declared.line.Line.TheVariants as line
use Rattle.todo_text.specs.declared.line.PickKind.{PickKind}
use Rattle.todo_text.specs.declared.line.PickKind.TheVariants as kind
use Rattle.todo_text.specs.declared.command.Command.{Command}
use Rattle.todo_text.specs.declared.command.Command.TheVariants.{Pick, Fixup, Exec, Break, Noop, Label, Reset, Merge, UpdateRef}
use Rattle.todo_text.specs.Commands.{is_named, pick_of, other_of, pick_or, command_of}
use Rattle.todo_text.specs.Spells.{pick_word, pick_letter, command_word, command_letter}

pub same : (a b : List ℕ) → bytes_eq a b ≡ true → a ≡ b
same a b h = (bytes_eq-Decides a b).0 h

-- the kinds that a word names alone
abbrev pub is_simple : PickKind → Bool
is_simple kind.Pick = true
is_simple kind.Reword = true
is_simple kind.Edit = true
is_simple kind.Squash = true
is_simple kind.Fixup = false
is_simple kind.FixupKeep = false
is_simple kind.FixupEdit = false
is_simple kind.Drop = true
is_simple kind.Revert = true

abbrev pub is_simple_command : Command → Bool
is_simple_command (Pick k) = is_simple k
is_simple_command Fixup = true
is_simple_command Exec = true
is_simple_command Break = true
is_simple_command Noop = true
is_simple_command Label = true
is_simple_command Reset = true
is_simple_command Merge = true
is_simple_command UpdateRef = true

abbrev pub word_for : Command → List ℕ
word_for (Pick k) = pick_word k
word_for Fixup = codes "fixup"
word_for Exec = codes "exec"
word_for Break = codes "break"
word_for Noop = codes "noop"
word_for Label = codes "label"
word_for Reset = codes "reset"
word_for Merge = codes "merge"
word_for UpdateRef = codes "update-ref"

abbrev pub letter_for : Command → List ℕ
letter_for (Pick k) = pick_letter k
letter_for Fixup = codes "f"
letter_for Exec = codes "x"
letter_for Break = codes "b"
letter_for Noop = codes "noop"
letter_for Label = codes "l"
letter_for Reset = codes "t"
letter_for Merge = codes "m"
letter_for UpdateRef = codes "u"

-- the word names the command
pub record Named (w : List ℕ) (command : Command) : Type 0 where
  pub by : (w ≡ word_for command) ⊎ (w ≡ letter_for command)
  pub simple : is_simple_command command ≡ true

by_name : (whole letter w : List ℕ) → is_named whole letter w ≡ true → (w ≡ whole) ⊎ (w ≡ letter)
by_name whole letter w h = ⊎_elim (λ e. inl (same w whole e)) (λ e. inr (same w letter e)) (or_cases _ _ h)

tested : {C : Type 0} (P : C → Type 0) (v : Bool) (a : C) (rest : Option C) (c : C) → (v ≡ true → P a) → (rest ≡ Some c → P c)
    → cond v (Some a) rest ≡ Some c → P c
tested P true a rest c here later e = let one : a ≡ c = cc in subst P one (here refl)
tested P false a rest c here later e = later e

none_found : {C : Type 0} (P : C → Type 0) (c : C) → None ≡ Some c → P c
none_found P c e = let no_way : ⊥ = cc in absurd no_way

pick_named : (w : List ℕ) (k : PickKind) → pick_of w ≡ Some k → Named w (Pick k)
pick_named w k =
    let P : PickKind → Type 0 = λ k. Named w (Pick k) in
    tested P (is_named (codes "pick") (codes "p") w) kind.Pick _ k (λ h. record { by = by_name (codes "pick") (codes "p") w h; simple = refl })
    (tested P (is_named (codes "reword") (codes "r") w) kind.Reword _ k (λ h. record { by = by_name (codes "reword") (codes "r") w h; simple = refl })
    (tested P (is_named (codes "edit") (codes "e") w) kind.Edit _ k (λ h. record { by = by_name (codes "edit") (codes "e") w h; simple = refl })
    (tested P (is_named (codes "squash") (codes "s") w) kind.Squash _ k (λ h. record { by = by_name (codes "squash") (codes "s") w h; simple = refl })
    (tested P (is_named (codes "drop") (codes "d") w) kind.Drop _ k (λ h. record { by = by_name (codes "drop") (codes "d") w h; simple = refl })
    (tested P (bytes_eq w (codes "revert")) kind.Revert _ k (λ h. record { by = inl (same w (codes "revert") h); simple = refl })
    (none_found P k))))))

other_named : (w : List ℕ) (c : Command) → other_of w ≡ Some c → Named w c
other_named w c =
    let P : Command → Type 0 = λ c. Named w c in
    tested P (is_named (codes "fixup") (codes "f") w) Fixup _ c (λ h. record { by = by_name (codes "fixup") (codes "f") w h; simple = refl })
    (tested P (is_named (codes "exec") (codes "x") w) Exec _ c (λ h. record { by = by_name (codes "exec") (codes "x") w h; simple = refl })
    (tested P (is_named (codes "break") (codes "b") w) Break _ c (λ h. record { by = by_name (codes "break") (codes "b") w h; simple = refl })
    (tested P (bytes_eq w (codes "noop")) Noop _ c (λ h. record { by = inl (same w (codes "noop") h); simple = refl })
    (tested P (is_named (codes "label") (codes "l") w) Label _ c (λ h. record { by = by_name (codes "label") (codes "l") w h; simple = refl })
    (tested P (is_named (codes "reset") (codes "t") w) Reset _ c (λ h. record { by = by_name (codes "reset") (codes "t") w h; simple = refl })
    (tested P (is_named (codes "merge") (codes "m") w) Merge _ c (λ h. record { by = by_name (codes "merge") (codes "m") w h; simple = refl })
    (tested P (is_named (codes "update-ref") (codes "u") w) UpdateRef _ c (λ h. record { by = by_name (codes "update-ref") (codes "u") w h; simple = refl })
    (none_found P c))))))))

either_named : (w : List ℕ) (o : Option PickKind) (c : Command) → pick_of w ≡ o → pick_or o (other_of w) ≡ Some c → Named w c
either_named w None c e h = other_named w c h
either_named w (Some k) c e h = let one : Pick k ≡ c = cc in subst (Named w) one (pick_named w k e)

pub command_named : (w : List ℕ) (c : Command) → command_of w ≡ Some c → Named w c
unfolding command_of
command_named w c h = either_named w (pick_of w) c refl h

pub no_command : command_of [] ≡ None
unfolding command_of
no_command = refl

-- ---- the command of a line

abbrev pub pick_for : PickKind → Command
pick_for kind.Pick = Pick kind.Pick
pick_for kind.Reword = Pick kind.Reword
pick_for kind.Edit = Pick kind.Edit
pick_for kind.Squash = Pick kind.Squash
pick_for kind.Fixup = Fixup
pick_for kind.FixupKeep = Fixup
pick_for kind.FixupEdit = Fixup
pick_for kind.Drop = Pick kind.Drop
pick_for kind.Revert = Pick kind.Revert

abbrev pub command_for : Line → Command
command_for (line.Pick k rev note) = pick_for k
command_for (line.Exec command) = Exec
command_for line.Break = Break
command_for line.Noop = Noop
command_for (line.Label name) = Label
command_for (line.Reset name note) = Reset
command_for (line.Merge how head note) = Merge
command_for (line.UpdateRef name) = UpdateRef

either : (w a b : List ℕ) (c : Command) → command_of a ≡ Some c → command_of b ≡ Some c → (w ≡ a) ⊎ (w ≡ b) → command_of w ≡ Some c
either w a b c e f h = ⊎_elim (λ g. ap command_of g ∙ e) (λ g. ap command_of g ∙ f) h

pick_is : (k : PickKind) (w : List ℕ) → (w ≡ pick_word k) ⊎ (w ≡ pick_letter k) → command_of w ≡ Some (pick_for k)
unfolding command_of
pick_is kind.Pick w h = either w (codes "pick") (codes "p") _ refl refl h
pick_is kind.Reword w h = either w (codes "reword") (codes "r") _ refl refl h
pick_is kind.Edit w h = either w (codes "edit") (codes "e") _ refl refl h
pick_is kind.Squash w h = either w (codes "squash") (codes "s") _ refl refl h
pick_is kind.Fixup w h = either w (codes "fixup") (codes "f") _ refl refl h
pick_is kind.FixupKeep w h = either w (codes "fixup") (codes "f") _ refl refl h
pick_is kind.FixupEdit w h = either w (codes "fixup") (codes "f") _ refl refl h
pick_is kind.Drop w h = either w (codes "drop") (codes "d") _ refl refl h
pick_is kind.Revert w h = either w (codes "revert") (codes "revert") _ refl refl h

pub command_is : (l : Line) (w : List ℕ) → (w ≡ command_word l) ⊎ (w ≡ command_letter l) → command_of w ≡ Some (command_for l)
unfolding command_of
command_is (line.Pick k rev note) w h = pick_is k w h
command_is (line.Exec command) w h = either w (codes "exec") (codes "x") _ refl refl h
command_is line.Break w h = either w (codes "break") (codes "b") _ refl refl h
command_is line.Noop w h = either w (codes "noop") (codes "noop") _ refl refl h
command_is (line.Label name) w h = either w (codes "label") (codes "l") _ refl refl h
command_is (line.Reset name note) w h = either w (codes "reset") (codes "t") _ refl refl h
command_is (line.Merge how head note) w h = either w (codes "merge") (codes "m") _ refl refl h
command_is (line.UpdateRef name) w h = either w (codes "update-ref") (codes "u") _ refl refl h
