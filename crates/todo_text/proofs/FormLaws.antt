-- A text that spells a line is read as that line.
use Rattle.std.proofs.Common.{◌≡◌, ℕ, Bool, true, false, cond, List, [], ◌∷◌, length, refl, sym, ap, ◌∙◌, subst, arith, ⊎_elim}
use Rattle.std.specs.Prelude.{◌||◌, ◌&&◌, ◌==◌, not, codes, Result, Ok, Err}
use Rattle.std.specs.Str.{bytes_eq}
use Rattle.std.proofs.lemmas.Bool.{cond-true, cond-false, not-true, and_parts, ne_eqb}
use Rattle.todo_text.specs.declared.line.Line.{Line}
use Rattle.todo_text.specs.declared.line.Line.TheVariants as line
use Rattle.todo_text.specs.declared.line.PickKind.{PickKind}
use Rattle.todo_text.specs.declared.line.PickKind.TheVariants as kind
use Rattle.todo_text.specs.declared.line.MergeHow.{MergeHow}
use Rattle.todo_text.specs.declared.line.MergeHow.TheVariants.{Plain, Keep, Reword}
use Rattle.todo_text.specs.declared.todo_kind.TodoKind.{TodoKind}
use Rattle.todo_text.specs.declared.todo_kind.TodoKind.TheVariants as fault
use Rattle.todo_text.specs.Words.{trimmed, up_to_blank, word, behind, lacks_word, lacks_head, is_hash, note_of}
use Rattle.todo_text.specs.Names.{is_label, is_updatable}
use Rattle.todo_text.specs.Spells.{AreBlanks, Begins, BeginsAll, Leads, IsNote, IsMergeNote, arguments, Ends, is_fit, is_option}
use Rattle.todo_text.specs.ReadLine.{◌>>=◌, rev_line, fixup_line, exec_line, lone_line, lone_word, label_line, update_line, reset_line, merge_note, head_line, keep_line, reword_line, merge_line, arguments_line}
use Rattle.todo_text.proofs.WordLaws.{word_is, behind_is, has_word, no_word, lacks, from_word-leads, trimmed_is, note_is}
use Rattle.todo_text.proofs.CommandLaws.{command_for}
use Rattle.todo_text.proofs.ArgumentLaws.{or_false}

-- a text begins with a word, and the rest is known
record Head (text w rest : List ℕ) : Type 0 where
  is_word : word text ≡ w
  is_rest : behind text ≡ rest
  some : lacks_word text ≡ false

head_of : (text w rest : List ℕ) → Begins text w rest → Head text w rest
head_of text w rest h = record { is_word = word_is text w rest h; is_rest = behind_is text w rest h; some = has_word text w rest h }

rev_is : (k : PickKind) (text rev rest note : List ℕ) → Begins text rev rest → IsNote rest note → rev_line k text ≡ Ok (line.Pick k rev note)
unfolding rev_line
rev_is k text rev rest note begins n =
    let h = head_of text rev rest begins in
    cond-false (lacks_word text) _ _ h.some
    ∙ ap (λ (w : List ℕ). Ok (line.Pick k w (note_of (behind text)))) h.is_word
    ∙ ap (λ (t : List ℕ). Ok (line.Pick k rev t)) (ap note_of h.is_rest ∙ note_is rest note n)

option_is : (text w rest : List ℕ) (o : List ℕ) (v : Bool) → Begins text w rest → bytes_eq w o ≡ v → bytes_eq (word text) o ≡ v
option_is text w rest o v begins e = ap (λ (x : List ℕ). bytes_eq x o) (word_is text w rest begins) ∙ e

keep_is : (text between rev rest note : List ℕ) → Begins text (codes "-C") between → Begins between rev rest → IsNote rest note
    → fixup_line text ≡ Ok (line.Pick kind.FixupKeep rev note)
unfolding fixup_line
keep_is text between rev rest note begins later n =
    cond-true _ _ _ (option_is text (codes "-C") between (codes "-C") true begins refl)
    ∙ ap (rev_line kind.FixupKeep) (behind_is text (codes "-C") between begins)
    ∙ rev_is kind.FixupKeep between rev rest note later n

edit_is : (text between rev rest note : List ℕ) → Begins text (codes "-c") between → Begins between rev rest → IsNote rest note
    → fixup_line text ≡ Ok (line.Pick kind.FixupEdit rev note)
unfolding fixup_line
edit_is text between rev rest note begins later n =
    cond-false _ _ _ (option_is text (codes "-c") between (codes "-C") false begins refl)
    ∙ cond-true _ _ _ (option_is text (codes "-c") between (codes "-c") true begins refl)
    ∙ ap (rev_line kind.FixupEdit) (behind_is text (codes "-c") between begins)
    ∙ rev_is kind.FixupEdit between rev rest note later n

plain_is : (text rev rest note : List ℕ) → Begins text rev rest → IsNote rest note → not (is_option rev) ≡ true
    → fixup_line text ≡ Ok (line.Pick kind.Fixup rev note)
unfolding fixup_line
plain_is text rev rest note begins n fit =
    let none = or_false (bytes_eq rev (codes "-C")) (bytes_eq rev (codes "-c")) (not-true _ fit) in
    cond-false _ _ _ (option_is text rev rest (codes "-C") false begins none.0)
    ∙ cond-false _ _ _ (option_is text rev rest (codes "-c") false begins none.1)
    ∙ rev_is kind.Fixup text rev rest note begins n

exec_is : (text command : List ℕ) → length command == 0 ≡ false → Leads text command → (lacks_word text ≡ false)
    → exec_line text ≡ Ok (line.Exec command)
unfolding exec_line
exec_is text command some leads has = cond-false _ _ _ has ∙ ap (λ (t : List ℕ). Ok (line.Exec t)) (from_word-leads text command leads)

lone_is : (l : Line) (text : List ℕ) → AreBlanks text → lone_line l text ≡ Ok l
unfolding lone_line
lone_is l text blanks = cond-false _ _ _ (ap not (lacks text blanks))

name_is : (text name rest : List ℕ) → Begins text name rest → AreBlanks rest → lone_word text ≡ Ok name
unfolding lone_word
name_is text name rest begins blanks =
    let h = head_of text name rest begins in
    cond-false _ _ _ h.some
    ∙ cond-false _ _ _ (ap not (ap lacks_word h.is_rest ∙ lacks rest blanks))
    ∙ ap (λ (w : List ℕ). Ok w) h.is_word

label_is : (text name rest : List ℕ) → Begins text name rest → AreBlanks rest → is_label name ≡ true → label_line text ≡ Ok (line.Label name)
unfolding label_line
label_is text name rest begins blanks fit =
    ap (λ (r : Result (List ℕ) TodoKind). r >>= λ name. cond (not (is_label name)) (Err fault.Label) (Ok (line.Label name))) (name_is text name rest begins blanks)
    ∙ cond-false _ _ _ (ap not fit)

update_is : (text name rest : List ℕ) → Begins text name rest → AreBlanks rest → is_updatable name ≡ true
    → update_line text ≡ Ok (line.UpdateRef name)
unfolding update_line
update_is text name rest begins blanks fit =
    ap (λ (r : Result (List ℕ) TodoKind). r >>= λ name. cond (not (is_updatable name)) (Err fault.RefName) (Ok (line.UpdateRef name))) (name_is text name rest begins blanks)
    ∙ cond-false _ _ _ (ap not fit)

reset_is : (text name rest note : List ℕ) → Begins text name rest → IsNote rest note → reset_line text ≡ Ok (line.Reset name note)
unfolding reset_line
reset_is text name rest note begins n =
    let h = head_of text name rest begins in
    cond-false (lacks_word text) _ _ h.some
    ∙ ap (λ (w : List ℕ). Ok (line.Reset w (note_of (behind text)))) h.is_word
    ∙ ap (λ (t : List ℕ). Ok (line.Reset name t)) (ap note_of h.is_rest ∙ note_is rest note n)

-- ---- merges

merge_note_is : (text note : List ℕ) → IsMergeNote text note → merge_note text ≡ Ok note
unfolding merge_note
merge_note_is text note h =
    ⊎_elim
    (λ none. cond-true _ _ _ (lacks text none.0) ∙ ap (λ (t : List ℕ). Ok t) (no_word text none.0 ∙ sym none.1))
    (λ some.
    let begins = some.1 in
    cond-false _ _ _ (has_word text (codes "#") some.0 begins)
    ∙ cond-true _ _ _ (ap is_hash (word_is text (codes "#") some.0 begins))
    ∙ ap (λ (t : List ℕ). Ok t) (ap trimmed (behind_is text (codes "#") some.0 begins) ∙ trimmed_is some.0 note some.2))
    h

head_is : (how : MergeHow) (text head rest note : List ℕ) → Begins text head rest → IsMergeNote rest note → not (is_hash head) ≡ true
    → head_line how text ≡ Ok (line.Merge how head note)
unfolding head_line
head_is how text head rest note begins n fit =
    let h = head_of text head rest begins in
    cond-false (lacks_head text) _ _ (ap (λ (v : Bool). v || is_hash (word text)) h.some ∙ ap is_hash h.is_word ∙ not-true _ fit)
    ∙ ap (λ (r : Result (List ℕ) TodoKind). r >>= λ note. Ok (line.Merge how (word text) note)) (ap merge_note h.is_rest ∙ merge_note_is rest note n)
    ∙ ap (λ (w : List ℕ). Ok (line.Merge how w note)) h.is_word

kept_head_is : (text between rev last head rest note : List ℕ) → Begins text (codes "-C") between → Begins between rev last → Begins last head rest
    → IsMergeNote rest note
    → not (is_hash head) ≡ true → merge_line text ≡ Ok (line.Merge (Keep rev) head note)
unfolding merge_line keep_line
kept_head_is text between rev last head rest note begins second third n fit =
    let h = head_of between rev last second in
    cond-true _ _ _ (option_is text (codes "-C") between (codes "-C") true begins refl)
    ∙ ap keep_line (behind_is text (codes "-C") between begins)
    ∙ cond-false _ _ _ h.some
    ∙ ap (λ (w : List ℕ). head_line (Keep w) (behind between)) h.is_word
    ∙ ap (head_line (Keep rev)) h.is_rest
    ∙ head_is (Keep rev) last head rest note third n fit

reworded_head_is : (text between rev last head rest note : List ℕ) → Begins text (codes "-c") between → Begins between rev last
    → Begins last head rest → IsMergeNote rest note
    → not (is_hash head) ≡ true → merge_line text ≡ Ok (line.Merge (Reword rev) head note)
unfolding merge_line reword_line
reworded_head_is text between rev last head rest note begins second third n fit =
    let h = head_of between rev last second in
    cond-false _ _ _ (option_is text (codes "-c") between (codes "-C") false begins refl)
    ∙ cond-true _ _ _ (option_is text (codes "-c") between (codes "-c") true begins refl)
    ∙ ap reword_line (behind_is text (codes "-c") between begins)
    ∙ cond-false _ _ _ h.some
    ∙ ap (λ (w : List ℕ). head_line (Reword w) (behind between)) h.is_word
    ∙ ap (head_line (Reword rev)) h.is_rest
    ∙ head_is (Reword rev) last head rest note third n fit

plain_head_is : (text head rest note : List ℕ) → Begins text head rest → IsMergeNote rest note → (not (is_option head) && not (is_hash head)) ≡ true
    → merge_line text ≡ Ok (line.Merge Plain head note)
unfolding merge_line
plain_head_is text head rest note begins n fit =
    let parts = and_parts (not (is_option head)) (not (is_hash head)) fit in
    let none = or_false (bytes_eq head (codes "-C")) (bytes_eq head (codes "-c")) (not-true _ parts.0) in
    cond-false _ _ _ (option_is text head rest (codes "-C") false begins none.0)
    ∙ cond-false _ _ _ (option_is text head rest (codes "-c") false begins none.1)
    ∙ head_is Plain text head rest note begins n parts.1

-- ---- all lines

some_lead : (text command : List ℕ) → length command == 0 ≡ false → Leads text command → lacks_word text ≡ false
unfolding word
some_lead text [] some leads = let no_way : ⊥ = cc in absurd no_way
some_lead text (b ∷ bs) some leads =
    let P : List ℕ → Type 0 = λ t. length (up_to_blank t) == 0 ≡ false in
    subst P (sym (from_word-leads text (b ∷ bs) leads)) (subst (λ (t : List ℕ). length t == 0 ≡ false) (sym (cond-false _ _ _ leads.begins)) (ne_eqb _ _ (λ e. omega arith)))

pub arguments_are : (l : Line) (text rest : List ℕ) → BeginsAll text (arguments l) rest → Ends l rest → is_fit l ≡ true
    → arguments_line (command_for l) text ≡ Ok l
unfolding arguments_line
arguments_are (line.Pick kind.Pick rev note) text rest w e fit =
    rev_is kind.Pick text rev w.0 note w.1 (subst (λ (t : List ℕ). IsNote t note) (sym w.2) e)
arguments_are (line.Pick kind.Reword rev note) text rest w e fit =
    rev_is kind.Reword text rev w.0 note w.1 (subst (λ (t : List ℕ). IsNote t note) (sym w.2) e)
arguments_are (line.Pick kind.Edit rev note) text rest w e fit =
    rev_is kind.Edit text rev w.0 note w.1 (subst (λ (t : List ℕ). IsNote t note) (sym w.2) e)
arguments_are (line.Pick kind.Squash rev note) text rest w e fit =
    rev_is kind.Squash text rev w.0 note w.1 (subst (λ (t : List ℕ). IsNote t note) (sym w.2) e)
arguments_are (line.Pick kind.Fixup rev note) text rest w e fit =
    plain_is text rev w.0 note w.1 (subst (λ (t : List ℕ). IsNote t note) (sym w.2) e) fit
arguments_are (line.Pick kind.FixupKeep rev note) text rest w e fit =
    let v = w.2 in keep_is text w.0 rev v.0 note w.1 v.1 (subst (λ (t : List ℕ). IsNote t note) (sym v.2) e)
arguments_are (line.Pick kind.FixupEdit rev note) text rest w e fit =
    let v = w.2 in edit_is text w.0 rev v.0 note w.1 v.1 (subst (λ (t : List ℕ). IsNote t note) (sym v.2) e)
arguments_are (line.Pick kind.Drop rev note) text rest w e fit =
    rev_is kind.Drop text rev w.0 note w.1 (subst (λ (t : List ℕ). IsNote t note) (sym w.2) e)
arguments_are (line.Pick kind.Revert rev note) text rest w e fit =
    rev_is kind.Revert text rev w.0 note w.1 (subst (λ (t : List ℕ). IsNote t note) (sym w.2) e)
arguments_are (line.Exec command) text rest w e fit =
    let leads = subst (λ (t : List ℕ). Leads t command) (sym w) e.1 in exec_is text command e.0 leads (some_lead text command e.0 leads)
arguments_are line.Break text rest w e fit = lone_is line.Break text (subst AreBlanks (sym w) e)
arguments_are line.Noop text rest w e fit = lone_is line.Noop text (subst AreBlanks (sym w) e)
arguments_are (line.Label name) text rest w e fit = label_is text name w.0 w.1 (subst AreBlanks (sym w.2) e) fit
arguments_are (line.Reset name note) text rest w e fit = reset_is text name w.0 note w.1 (subst (λ (t : List ℕ). IsNote t note) (sym w.2) e)
arguments_are (line.Merge Plain head note) text rest w e fit =
    plain_head_is text head w.0 note w.1 (subst (λ (t : List ℕ). IsMergeNote t note) (sym w.2) e) fit
arguments_are (line.Merge (Keep rev) head note) text rest w e fit =
    let v = w.2 in let u = v.2 in kept_head_is text w.0 rev v.0 head u.0 note w.1 v.1 u.1 (subst (λ (t : List ℕ). IsMergeNote t note) (sym u.2) e) fit
arguments_are (line.Merge (Reword rev) head note) text rest w e fit =
    let v = w.2 in let u = v.2 in reworded_head_is text w.0 rev v.0 head u.0 note w.1 v.1 u.1 (subst (λ (t : List ℕ). IsMergeNote t note) (sym u.2) e) fit
arguments_are (line.UpdateRef name) text rest w e fit = update_is text name w.0 w.1 (subst AreBlanks (sym w.2) e) fit
