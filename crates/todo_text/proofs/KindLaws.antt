-- What is wrong with a line is the first kind that applies.
use Rattle.std.proofs.Common.{◌≡◌, ℕ, Bool, true, false, cond, List, refl, sym, ap, ◌∙◌}
use Rattle.std.specs.Prelude.{◌&&◌, ◌||◌, not, codes, Result, Ok, Err, Option, Some, None, is_none}
use Rattle.std.specs.Result.{result_err}
use Rattle.std.specs.Str.{bytes_eq}
use Rattle.todo_text.specs.declared.line.Line.{Line}
use Rattle.todo_text.specs.declared.line.Line.TheVariants as line
use Rattle.todo_text.specs.declared.line.PickKind.{PickKind}
use Rattle.todo_text.specs.declared.line.PickKind.TheVariants as kind
use Rattle.todo_text.specs.declared.line.MergeHow.{MergeHow}
use Rattle.todo_text.specs.declared.line.MergeHow.TheVariants.{Plain, Keep, Reword}
use Rattle.todo_text.specs.declared.todo_kind.TodoKind.{TodoKind}
use Rattle.todo_text.specs.declared.todo_kind.TodoKind.TheVariants as fault
use Rattle.todo_text.specs.declared.command.Command.{Command}
use Rattle.todo_text.specs.declared.command.Command.TheVariants.{Pick, Fixup, Exec, Break, Noop, Label, Reset, Merge, UpdateRef}
use Rattle.todo_text.specs.Words.{from_word, trimmed, word, behind, lacks_word, lacks_head, is_hash, note_of}
use Rattle.todo_text.specs.Names.{is_label, is_updatable}
use Rattle.todo_text.specs.Commands.{command_of}
use Rattle.todo_text.specs.Kinds.{has_second_head, is_missing, is_extra, is_bad_label, is_bad_ref, is_octopus, is_squash, wants_earlier, if_command, first_kind}
use Rattle.todo_text.specs.Todos.{squashes}
use Rattle.todo_text.specs.ReadLine.{◌>>=◌, rev_line, fixup_line, exec_line, lone_line, lone_word, label_line, update_line, reset_line, merge_note, head_line, keep_line, reword_line, merge_line, arguments_line, with_command, line_of}
use Rattle.todo_text.specs.ReadTodo.{placed, line_in}

module _ (earlier : Bool) where
  test_kind : (v : Bool) (k : TodoKind) (r : Result Line TodoKind) (o : Option TodoKind) → o ≡ result_err (placed earlier r)
      → cond v (Some k) o ≡ result_err (placed earlier (cond v (Err k) r))
  test_kind true k r o h = refl
  test_kind false k r o h = h

  late : (v : Bool) (l : Line)
      → cond (v && not earlier) (Some fault.NoEarlier) None ≡ result_err (cond (not (earlier || not v)) (Err fault.NoEarlier) (Ok l))
  late v l =
      elim v as (λ v. cond (v && not earlier) (Some fault.NoEarlier) None ≡ result_err (cond (not (earlier || not v)) (Err fault.NoEarlier) (Ok l))) [
        | true ↦ elim earlier as (λ e. cond (true && not e) (Some fault.NoEarlier) None ≡ result_err (cond (not (e || not true)) (Err fault.NoEarlier) (Ok l))) [ true ↦ refl | false ↦ refl ]
        | false ↦ elim earlier as (λ e. cond (false && not e) (Some fault.NoEarlier) None ≡ result_err (cond (not (e || not false)) (Err fault.NoEarlier) (Ok l))) [ true ↦ refl | false ↦ refl ]
      ]

  last_kind : (l : Line) (v : Bool) → squashes l ≡ v → cond (v && not earlier) (Some fault.NoEarlier) None ≡ result_err (placed earlier (Ok l))
  last_kind l v e = late v l ∙ ap (λ (w : Bool). result_err (cond (not (earlier || not w)) (Err fault.NoEarlier) (Ok l))) (sym e)

  good_kind : (l : Line) → squashes l ≡ false → None ≡ result_err (placed earlier (Ok l))
  good_kind l e = last_kind l false e

  tested-bind : {X : Type 0} (v : Bool) (k : TodoKind) (r : Result X TodoKind) (f : X → Result Line TodoKind)
      → (cond v (Err k) r >>= f) ≡ cond v (Err k) (r >>= f)
  tested-bind true k r f = refl
  tested-bind false k r f = refl

  or_test : (v w : Bool) (x y : Option TodoKind) → cond (v || w) x y ≡ cond v x (cond w x y)
  or_test true w x y = refl
  or_test false w x y = refl

  rev_kind : (k : PickKind) (text : List ℕ)
      → cond (lacks_word text) (Some fault.Missing) (cond (is_squash k && not earlier) (Some fault.NoEarlier) None) ≡ result_err (placed earlier (rev_line k text))
  unfolding rev_line
  rev_kind k text = test_kind (lacks_word text) fault.Missing _ _ (last_kind (line.Pick k (word text) (note_of (behind text))) (is_squash k) refl)

  fixup_kind : (text : List ℕ)
      → cond (is_missing Fixup text) (Some fault.Missing) (cond (true && not earlier) (Some fault.NoEarlier) None) ≡ result_err (placed earlier (fixup_line text))
  unfolding fixup_line
  fixup_kind text =
      elim (bytes_eq (word text) (codes "-C"))
      as (λ v. cond (cond (v || bytes_eq (word text) (codes "-c")) (lacks_word (behind text)) (lacks_word text)) (Some fault.Missing) (cond (true && not earlier) (Some fault.NoEarlier) None)
      ≡ result_err (placed earlier (cond v (rev_line kind.FixupKeep (behind text)) (cond (bytes_eq (word text) (codes "-c")) (rev_line kind.FixupEdit (behind text)) (rev_line kind.Fixup text))))) [
        | true ↦ rev_kind kind.FixupKeep (behind text)
        | false ↦
            elim (bytes_eq (word text) (codes "-c"))
            as (λ w. cond (cond (false || w) (lacks_word (behind text)) (lacks_word text)) (Some fault.Missing) (cond (true && not earlier) (Some fault.NoEarlier) None)
            ≡ result_err (placed earlier (cond w (rev_line kind.FixupEdit (behind text)) (rev_line kind.Fixup text))))
            [ true ↦ rev_kind kind.FixupEdit (behind text) | false ↦ rev_kind kind.Fixup text ]
      ]

  exec_kind : (text : List ℕ) → cond (lacks_word text) (Some fault.Missing) None ≡ result_err (placed earlier (exec_line text))
  unfolding exec_line
  exec_kind text = test_kind (lacks_word text) fault.Missing _ _ (good_kind (line.Exec (from_word text)) refl)

  lone_kind : (l : Line) (text : List ℕ) → squashes l ≡ false
      → cond (not (lacks_word text)) (Some fault.Extra) None ≡ result_err (placed earlier (lone_line l text))
  unfolding lone_line
  lone_kind l text e = test_kind (not (lacks_word text)) fault.Extra _ _ (good_kind l e)

  name_kind : (text : List ℕ) (f : List ℕ → Result Line TodoKind) (o : Option TodoKind) → o ≡ result_err (placed earlier (f (word text)))
      → cond (lacks_word text) (Some fault.Missing) (cond (not (lacks_word (behind text))) (Some fault.Extra) o) ≡ result_err (placed earlier (lone_word text >>= f))
  unfolding lone_word
  name_kind text f o h =
      test_kind (lacks_word text) fault.Missing _ _ (test_kind (not (lacks_word (behind text))) fault.Extra (f (word text)) o h)
      ∙ sym (ap (λ (r : Result Line TodoKind). result_err (placed earlier r))
      (tested-bind (lacks_word text) fault.Missing (cond (not (lacks_word (behind text))) (Err fault.Extra) (Ok (word text))) f
      ∙ ap (λ (r : Result Line TodoKind). cond (lacks_word text) (Err fault.Missing) r) (tested-bind (not (lacks_word (behind text))) fault.Extra (Ok (word text)) f)))

  label_kind : (text : List ℕ)
      → cond (lacks_word text) (Some fault.Missing) (cond (not (lacks_word (behind text))) (Some fault.Extra) (cond (not (is_label (word text))) (Some fault.Label) None))
      ≡ result_err (placed earlier (label_line text))
  unfolding label_line
  label_kind text =
      name_kind text (λ name. cond (not (is_label name)) (Err fault.Label) (Ok (line.Label name))) _
      (test_kind (not (is_label (word text))) fault.Label (Ok (line.Label (word text))) None (good_kind (line.Label (word text)) refl))

  update_kind : (text : List ℕ)
      → cond (lacks_word text) (Some fault.Missing) (cond (not (lacks_word (behind text))) (Some fault.Extra) (cond (not (is_updatable (word text))) (Some fault.RefName) None))
      ≡ result_err (placed earlier (update_line text))
  unfolding update_line
  update_kind text =
      name_kind text (λ name. cond (not (is_updatable name)) (Err fault.RefName) (Ok (line.UpdateRef name))) _
      (test_kind (not (is_updatable (word text))) fault.RefName (Ok (line.UpdateRef (word text))) None (good_kind (line.UpdateRef (word text)) refl))

  reset_kind : (text : List ℕ) → cond (lacks_word text) (Some fault.Missing) None ≡ result_err (placed earlier (reset_line text))
  unfolding reset_line
  reset_kind text = test_kind (lacks_word text) fault.Missing _ _ (good_kind (line.Reset (word text) (note_of (behind text))) refl)

  note_kind : (how : MergeHow) (head text : List ℕ)
      → cond (not (lacks_word text) && not (is_hash (word text))) (Some fault.Octopus) None ≡ result_err (placed earlier (merge_note text >>= λ note. Ok (line.Merge how head note)))
  unfolding merge_note
  note_kind how head text =
      elim (lacks_word text)
      as (λ v. cond (not v && not (is_hash (word text))) (Some fault.Octopus) None
      ≡ result_err (placed earlier (cond v (Ok (word text)) (cond (is_hash (word text)) (Ok (trimmed (behind text))) (Err fault.Octopus)) >>= λ note. Ok (line.Merge how head note)))) [
        | true ↦ good_kind (line.Merge how head (word text)) refl
        | false ↦
            elim (is_hash (word text))
            as (λ v. cond (true && not v) (Some fault.Octopus) None ≡ result_err (placed earlier (cond v (Ok (trimmed (behind text))) (Err fault.Octopus) >>= λ note. Ok (line.Merge how head note))))
            [ true ↦ good_kind (line.Merge how head (trimmed (behind text))) refl | false ↦ refl ]
      ]

  head_kind : (how : MergeHow) (text : List ℕ)
      → cond (lacks_head text) (Some fault.Missing) (cond (has_second_head text) (Some fault.Octopus) None) ≡ result_err (placed earlier (head_line how text))
  unfolding head_line
  head_kind how text = test_kind (lacks_head text) fault.Missing _ _ (note_kind how (word text) (behind text))

  keep_kind : (text : List ℕ)
      → cond (lacks_word text || lacks_head (behind text)) (Some fault.Missing) (cond (has_second_head (behind text)) (Some fault.Octopus) None) ≡ result_err (placed earlier (keep_line text))
  unfolding keep_line
  keep_kind text =
      or_test (lacks_word text) (lacks_head (behind text)) (Some fault.Missing) _ ∙ test_kind (lacks_word text) fault.Missing _ _ (head_kind (Keep (word text)) (behind text))

  reword_kind : (text : List ℕ)
      → cond (lacks_word text || lacks_head (behind text)) (Some fault.Missing) (cond (has_second_head (behind text)) (Some fault.Octopus) None) ≡ result_err (placed earlier (reword_line text))
  unfolding reword_line
  reword_kind text =
      or_test (lacks_word text) (lacks_head (behind text)) (Some fault.Missing) _ ∙ test_kind (lacks_word text) fault.Missing _ _ (head_kind (Reword (word text)) (behind text))

  merge_kind : (text : List ℕ)
      → cond (is_missing Merge text) (Some fault.Missing) (cond (is_octopus Merge text) (Some fault.Octopus) None) ≡ result_err (placed earlier (merge_line text))
  unfolding merge_line
  merge_kind text =
      elim (bytes_eq (word text) (codes "-C"))
      as (λ v. cond (cond (v || bytes_eq (word text) (codes "-c")) (lacks_word (behind text) || lacks_head (behind (behind text))) (lacks_head text)) (Some fault.Missing)
      (cond (cond (v || bytes_eq (word text) (codes "-c")) (has_second_head (behind (behind text))) (has_second_head text)) (Some fault.Octopus) None)
      ≡ result_err (placed earlier (cond v (keep_line (behind text)) (cond (bytes_eq (word text) (codes "-c")) (reword_line (behind text)) (head_line Plain text))))) [
        | true ↦ keep_kind (behind text)
        | false ↦
            elim (bytes_eq (word text) (codes "-c"))
            as (λ w. cond (cond (false || w) (lacks_word (behind text) || lacks_head (behind (behind text))) (lacks_head text)) (Some fault.Missing)
            (cond (cond (false || w) (has_second_head (behind (behind text))) (has_second_head text)) (Some fault.Octopus) None)
            ≡ result_err (placed earlier (cond w (reword_line (behind text)) (head_line Plain text))))
            [ true ↦ reword_kind (behind text) | false ↦ head_kind Plain text ]
      ]

  abbrev chain : Option Command → List ℕ → Option TodoKind
  chain o text =
      cond (is_none o) (Some fault.Command)
      (cond (if_command o (λ c. is_missing c text)) (Some fault.Missing)
      (cond (if_command o (λ c. is_extra c text)) (Some fault.Extra)
      (cond (if_command o (λ c. is_bad_label c text)) (Some fault.Label)
      (cond (if_command o (λ c. is_bad_ref c text)) (Some fault.RefName)
      (cond (if_command o (λ c. is_octopus c text)) (Some fault.Octopus)
      (cond (if_command o (λ c. wants_earlier c && not earlier)) (Some fault.NoEarlier) None))))))

  command_kind : (o : Option Command) (text : List ℕ) → chain o text ≡ result_err (placed earlier (with_command o text))
  unfolding arguments_line
  command_kind None text = refl
  command_kind (Some (Pick k)) text = rev_kind k text
  command_kind (Some Fixup) text = fixup_kind text
  command_kind (Some Exec) text = exec_kind text
  command_kind (Some Break) text = lone_kind line.Break text refl
  command_kind (Some Noop) text = lone_kind line.Noop text refl
  command_kind (Some Label) text = label_kind text
  command_kind (Some Reset) text = reset_kind text
  command_kind (Some Merge) text = merge_kind text
  command_kind (Some UpdateRef) text = update_kind text

  -- the first kind that applies is what the reader says
  pub first_kind_is : (text : List ℕ) → first_kind earlier text ≡ result_err (line_in earlier text)
  unfolding first_kind line_in line_of
  first_kind_is text = command_kind (command_of (word text)) (behind text)
