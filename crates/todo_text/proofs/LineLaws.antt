-- What a text spells is what is read of it.
use Rattle.std.proofs.Common.{◌≡◌, ℕ, true, false, List, [], ◌∷◌, length, refl, sym, ap, ◌∙◌, inl, inr, ⊎_elim, arith}
use Rattle.std.specs.Prelude.{◌==◌, Ok, Option, Some, None}
use Rattle.std.proofs.lemmas.Bool.{cases_Bool, eqb-true}
use Rattle.todo_text.specs.declared.line.Line.{Line}
use Rattle.todo_text.specs.declared.command.Command.{Command}
use Rattle.todo_text.specs.Words.{word, behind, lacks_word}
use Rattle.todo_text.specs.Commands.{command_of}
use Rattle.todo_text.specs.Spells.{HasNoFeed, Spells}
use Rattle.todo_text.specs.ReadLine.{arguments_line, with_command, line_of}
use Rattle.todo_text.proofs.WordLaws.{word_is, behind_is, begins_on}
use Rattle.todo_text.proofs.CommandLaws.{command_named, command_is, command_for, no_command}
use Rattle.todo_text.proofs.ArgumentLaws.{arguments_told, ok_same}
use Rattle.todo_text.proofs.FormLaws.{arguments_are}

empty : (w : List ℕ) → length w == 0 ≡ true → w ≡ []
empty [] h = refl
empty (b ∷ bs) h = let e : length (b ∷ bs) ≡ 0 = eqb-true _ _ h in absurd (omega arith)

has_command : (text : List ℕ) (c : Command) → command_of (word text) ≡ Some c → lacks_word text ≡ false
has_command text c h =
    ⊎_elim
    (λ none. let e : None ≡ Some c = sym no_command ∙ ap command_of (sym (empty (word text) none)) ∙ h in let no_way : ⊥ = cc in absurd no_way)
    (λ some. some)
    (cases_Bool (lacks_word text))

sound_with : (text : List ℕ) (l : Line) → HasNoFeed text → (o : Option Command) → command_of (word text) ≡ o → with_command o (behind text) ≡ Ok l
    → Spells l text
sound_with text l feed None e h = let no_way : ⊥ = cc in absurd no_way
sound_with text l feed (Some c) e h =
    let named = command_named (word text) c e in
    let told = arguments_told c (behind text) l named.simple h in
    record {
      one_line = feed;
      command = word text;
      named = ⊎_elim (λ by. inl (by ∙ told.word_same)) (λ by. inr (by ∙ told.letter_same)) named.by;
      rest = told.rest;
      words = (behind text, begins_on text (has_command text c e), told.words);
      ends = told.ends;
      fit = told.fit;
    }

-- what is read is spelled
pub line_sound : (text : List ℕ) (l : Line) → HasNoFeed text → line_of text ≡ Ok l → Spells l text
unfolding line_of
line_sound text l feed h = sound_with text l feed (command_of (word text)) refl h

-- what is spelled is read
pub line_complete : (text : List ℕ) (l : Line) → Spells l text → line_of text ≡ Ok l
unfolding line_of
line_complete text l h =
    let between = h.words.0 in
    let begins = h.words.1 in
    ap (λ (o : Option Command). with_command o (behind text)) (ap command_of (word_is text h.command between begins) ∙ command_is l h.command h.named)
    ∙ ap (arguments_line (command_for l)) (behind_is text h.command between begins)
    ∙ arguments_are l between h.rest h.words.2 h.ends h.fit

-- a text spells one line at most
pub line_one : (text : List ℕ) (a b : Line) → Spells a text → Spells b text → a ≡ b
line_one text a b f g = ok_same a b (sym (line_complete text a f) ∙ line_complete text b g)
