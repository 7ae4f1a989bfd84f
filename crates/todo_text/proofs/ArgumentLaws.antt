-- What is read behind a command is what the text spells.
use Rattle.std.proofs.Common.{◌≡◌, ℕ, Bool, true, false, cond, List, [], ◌∷◌, ◌++◌, length, refl, sym, ap, ◌∙◌, subst, arith, inl, inr, ⊎_elim}
use Rattle.std.specs.Prelude.{◌&&◌, ◌||◌, ◌==◌, not, codes, Result, Ok, Err}
use Rattle.std.specs.Str.{bytes_eq}
use Rattle.std.proofs.lemmas.Bool.{cases_Bool, cond-true, cond-false, not-false, ne_eqb}
use Rattle.todo_text.specs.declared.line.Line.{Line}
use Rattle.todo_text.specs.declared.line.Line.TheVariants as line
use Rattle.todo_text.specs.declared.line.PickKind.{PickKind}
use Rattle.todo_text.specs.declared.line.PickKind.TheVariants as kind
use Rattle.todo_text.specs.declared.line.MergeHow.{MergeHow}
use Rattle.todo_text.specs.declared.line.MergeHow.TheVariants.{Plain, Keep, Reword}
use Rattle.todo_text.specs.declared.todo_kind.TodoKind.{TodoKind}
use Rattle.todo_text.specs.declared.todo_kind.TodoKind.TheVariants as fault
use Rattle.todo_text.specs.declared.command.Command.{Command}
use Rattle.todo_text.specs.declared.command.Command.TheVariants.{Pick, Fixup, Exec, Break, Noop, Label, Reset, Merge, UpdateRef}
use Rattle.todo_text.specs.Words.{from_word, up_to_blank, word, behind, lacks_word, lacks_head, is_hash, note_of}
use Rattle.todo_text.specs.Names.{is_label, is_updatable}
use Rattle.todo_text.specs.Spells.{AreBlanks, Begins, BeginsAll, Trims, IsMergeNote, command_word, command_letter, arguments, Ends, is_fit, is_option, is_pick, pick_option}
use Rattle.todo_text.specs.ReadLine.{◌>>=◌, rev_line, fixup_line, exec_line, lone_line, lone_word, label_line, update_line, reset_line, merge_note, head_line, keep_line, reword_line, merge_line, arguments_line}
use Rattle.todo_text.proofs.WordLaws.{begins_on, blanks_on, no_word, leads_on, trims_on, note_on}
use Rattle.todo_text.proofs.CommandLaws.{same, is_simple, is_simple_command, word_for, letter_for}

-- a test was passed, since there is a value
pub past : {X : Type 0} (v : Bool) (k : TodoKind) (r : Result X TodoKind) (x : X) → cond v (Err k) r ≡ Ok x → (v ≡ false) × (r ≡ Ok x)
past true k r x h = let no_way : ⊥ = cc in absurd no_way
past false k r x h = (refl, h)

bound : {X Y : Type 0} (r : Result X TodoKind) (f : X → Result Y TodoKind) (y : Y) → (r >>= f) ≡ Ok y → (x : X) × (r ≡ Ok x) × (f x ≡ Ok y)
bound (Ok x) f y h = (x, refl, h)
bound (Err k) f y h = let no_way : ⊥ = cc in absurd no_way

pub ok_same : {X : Type 0} (x y : X) → ◌≡◌ {A = Result X TodoKind} (Ok x) (Ok y) → x ≡ y
ok_same x y h = cc

-- the text behind a command spells the line
pub record Told (command : Command) (text : List ℕ) (l : Line) : Type 0 where
  pub word_same : word_for command ≡ command_word l
  pub letter_same : letter_for command ≡ command_letter l
  pub rest : List ℕ
  pub words : BeginsAll text (arguments l) rest
  pub ends : Ends l rest
  pub fit : is_fit l ≡ true

simple_option : (k : PickKind) → is_simple k ≡ true → pick_option k ≡ []
simple_option kind.Pick h = refl
simple_option kind.Reword h = refl
simple_option kind.Edit h = refl
simple_option kind.Squash h = refl
simple_option kind.Fixup h = let no_way : ⊥ = cc in absurd no_way
simple_option kind.FixupKeep h = let no_way : ⊥ = cc in absurd no_way
simple_option kind.FixupEdit h = let no_way : ⊥ = cc in absurd no_way
simple_option kind.Drop h = refl
simple_option kind.Revert h = refl

simple_fit : (k : PickKind) (rev : List ℕ) → is_simple k ≡ true → is_pick k rev ≡ true
simple_fit kind.Pick rev h = refl
simple_fit kind.Reword rev h = refl
simple_fit kind.Edit rev h = refl
simple_fit kind.Squash rev h = refl
simple_fit kind.Fixup rev h = let no_way : ⊥ = cc in absurd no_way
simple_fit kind.FixupKeep rev h = refl
simple_fit kind.FixupEdit rev h = refl
simple_fit kind.Drop rev h = refl
simple_fit kind.Revert rev h = refl

rev_past : (k : PickKind) (text : List ℕ) (l : Line) → rev_line k text ≡ Ok l
    → (lacks_word text ≡ false) × (line.Pick k (word text) (note_of (behind text)) ≡ l)
unfolding rev_line
rev_past k text l h =
    let p = past (lacks_word text) fault.Missing (Ok (line.Pick k (word text) (note_of (behind text)))) l h in (p.0, ok_same _ _ p.1)

pick_told : (k : PickKind) (text : List ℕ) (l : Line) → is_simple k ≡ true → rev_line k text ≡ Ok l → Told (Pick k) text l
pick_told k text l simple h =
    let p = rev_past k text l h in
    let P : List (List ℕ) → Type 0 = λ ws. BeginsAll text (ws ++ word text ∷ []) (behind text) in
    subst (Told (Pick k) text) p.1 (record {
      word_same = refl;
      letter_same = refl;
      rest = behind text;
      words = subst P (sym (simple_option k simple)) (behind text, begins_on text p.0, refl);
      ends = note_on (behind text);
      fit = simple_fit k (word text) simple;
    })

begins_as : (text w : List ℕ) → bytes_eq (word text) w ≡ true → length w == 0 ≡ false → Begins text w (behind text)
begins_as text w h some =
    let P : List ℕ → Type 0 = λ x. Begins text x (behind text) in
    let e = same (word text) w h in
    subst P e (begins_on text (ap (λ (x : List ℕ). length x == 0) e ∙ some))

not_option : (w : List ℕ) → bytes_eq w (codes "-C") ≡ false → bytes_eq w (codes "-c") ≡ false → is_option w ≡ false
not_option w e f = ap (λ (v : Bool). v || bytes_eq w (codes "-c")) e ∙ f

fixup_told : (text : List ℕ) (l : Line) → fixup_line text ≡ Ok l → Told Fixup text l
unfolding fixup_line
fixup_told text l h =
    ⊎_elim
    (λ keep.
    let p = rev_past kind.FixupKeep (behind text) l (sym (cond-true _ _ _ keep) ∙ h) in
    subst (Told Fixup text) p.1 (record {
      word_same = refl;
      letter_same = refl;
      rest = behind (behind text);
      words = (behind text, begins_as text (codes "-C") keep refl, (behind (behind text), begins_on (behind text) p.0, refl));
      ends = note_on (behind (behind text));
      fit = refl;
    }))
    (λ other.
    let h' = sym (cond-false _ _ _ other) ∙ h in
    ⊎_elim
    (λ edit.
    let p = rev_past kind.FixupEdit (behind text) l (sym (cond-true _ _ _ edit) ∙ h') in
    subst (Told Fixup text) p.1 (record {
      word_same = refl;
      letter_same = refl;
      rest = behind (behind text);
      words = (behind text, begins_as text (codes "-c") edit refl, (behind (behind text), begins_on (behind text) p.0, refl));
      ends = note_on (behind (behind text));
      fit = refl;
    }))
    (λ plain.
    let p = rev_past kind.Fixup text l (sym (cond-false _ _ _ plain) ∙ h') in
    subst (Told Fixup text) p.1 (record {
      word_same = refl;
      letter_same = refl;
      rest = behind text;
      words = (behind text, begins_on text p.0, refl);
      ends = note_on (behind text);
      fit = ap not (not_option (word text) other plain);
    }))
    (cases_Bool (bytes_eq (word text) (codes "-c"))))
    (cases_Bool (bytes_eq (word text) (codes "-C")))

some_bytes : (text : List ℕ) → length (up_to_blank text) == 0 ≡ false → length text == 0 ≡ false
some_bytes [] h = h
some_bytes (b ∷ bs) h = ne_eqb _ _ (λ e. omega arith)

some_from : (text : List ℕ) → lacks_word text ≡ false → length (from_word text) == 0 ≡ false
unfolding word
some_from text h = some_bytes (from_word text) h

exec_told : (text : List ℕ) (l : Line) → exec_line text ≡ Ok l → Told Exec text l
unfolding exec_line
exec_told text l h =
    let p = past (lacks_word text) fault.Missing (Ok (line.Exec (from_word text))) l h in
    subst (Told Exec text) (ok_same _ _ p.1) (record {
      word_same = refl;
      letter_same = refl;
      rest = text;
      words = refl;
      ends = (some_from text p.0, leads_on text);
      fit = refl;
    })

lone_past : (line' : Line) (text : List ℕ) (l : Line) → lone_line line' text ≡ Ok l → AreBlanks text × (line' ≡ l)
unfolding lone_line
lone_past line' text l h = let p = past (not (lacks_word text)) fault.Extra (Ok line') l h in (blanks_on text (not-false _ p.0), ok_same _ _ p.1)

break_told : (text : List ℕ) (l : Line) → lone_line line.Break text ≡ Ok l → Told Break text l
break_told text l h =
    let p = lone_past line.Break text l h in
    subst (Told Break text) p.1 (record { word_same = refl; letter_same = refl; rest = text; words = refl; ends = p.0; fit = refl })

noop_told : (text : List ℕ) (l : Line) → lone_line line.Noop text ≡ Ok l → Told Noop text l
noop_told text l h =
    let p = lone_past line.Noop text l h in
    subst (Told Noop text) p.1 (record { word_same = refl; letter_same = refl; rest = text; words = refl; ends = p.0; fit = refl })

record LoneWord (text name : List ℕ) : Type 0 where
  begins : Begins text name (behind text)
  blanks : AreBlanks (behind text)

word_past : (text name : List ℕ) → lone_word text ≡ Ok name → LoneWord text name
unfolding lone_word
word_past text name h =
    let p = past (lacks_word text) fault.Missing (cond (not (lacks_word (behind text))) (Err fault.Extra) (Ok (word text))) name h in
    let q = past (not (lacks_word (behind text))) fault.Extra (Ok (word text)) name p.1 in
    let P : List ℕ → Type 0 = λ w. Begins text w (behind text) in
    record { begins = subst P (ok_same _ _ q.1) (begins_on text p.0); blanks = blanks_on (behind text) (not-false _ q.0) }

label_told : (text : List ℕ) (l : Line) → label_line text ≡ Ok l → Told Label text l
unfolding label_line
label_told text l h =
    let b = bound (lone_word text) (λ name. cond (not (is_label name)) (Err fault.Label) (Ok (line.Label name))) l h in
    let name = b.0 in
    let w = word_past text name b.1 in
    let p = past (not (is_label name)) fault.Label (Ok (line.Label name)) l b.2 in
    subst (Told Label text) (ok_same _ _ p.1) (record {
      word_same = refl;
      letter_same = refl;
      rest = behind text;
      words = (behind text, w.begins, refl);
      ends = w.blanks;
      fit = not-false _ p.0;
    })

update_told : (text : List ℕ) (l : Line) → update_line text ≡ Ok l → Told UpdateRef text l
unfolding update_line
update_told text l h =
    let b = bound (lone_word text) (λ name. cond (not (is_updatable name)) (Err fault.RefName) (Ok (line.UpdateRef name))) l h in
    let name = b.0 in
    let w = word_past text name b.1 in
    let p = past (not (is_updatable name)) fault.RefName (Ok (line.UpdateRef name)) l b.2 in
    subst (Told UpdateRef text) (ok_same _ _ p.1) (record {
      word_same = refl;
      letter_same = refl;
      rest = behind text;
      words = (behind text, w.begins, refl);
      ends = w.blanks;
      fit = not-false _ p.0;
    })

reset_told : (text : List ℕ) (l : Line) → reset_line text ≡ Ok l → Told Reset text l
unfolding reset_line
reset_told text l h =
    let p = past (lacks_word text) fault.Missing (Ok (line.Reset (word text) (note_of (behind text)))) l h in
    subst (Told Reset text) (ok_same _ _ p.1) (record {
      word_same = refl;
      letter_same = refl;
      rest = behind text;
      words = (behind text, begins_on text p.0, refl);
      ends = note_on (behind text);
      fit = refl;
    })

-- ---- merges

merge_note_past : (text note : List ℕ) → merge_note text ≡ Ok note → IsMergeNote text note
unfolding merge_note
merge_note_past text note h =
    ⊎_elim
    (λ none.
    let blanks = blanks_on text none in
    inl (blanks, sym (ok_same _ _ (sym (cond-true _ _ _ none) ∙ h)) ∙ no_word text blanks))
    (λ some.
    let h' = sym (cond-false _ _ _ some) ∙ h in
    ⊎_elim
    (λ hash.
    let P : List ℕ → Type 0 = λ n. Trims (behind text) n in
    inr (behind text, begins_as text (codes "#") hash refl, subst P (ok_same _ _ (sym (cond-true _ _ _ hash) ∙ h')) (trims_on (behind text))))
    (λ other. let no_way : ⊥ = let e : ◌≡◌ {A = Result (List ℕ) TodoKind} (Err fault.Octopus) (Ok note) = sym (cond-false _ _ _ other) ∙ h' in cc in absurd no_way)
    (cases_Bool (is_hash (word text))))
    (cases_Bool (lacks_word text))

record Head (how : MergeHow) (text : List ℕ) (l : Line) : Type 0 where
  note : List ℕ
  is_line : line.Merge how (word text) note ≡ l
  begins : Begins text (word text) (behind text)
  is_note : IsMergeNote (behind text) note
  no_hash : is_hash (word text) ≡ false

pub or_false : (v w : Bool) → (v || w) ≡ false → (v ≡ false) × (w ≡ false)
or_false true w h = let no_way : ⊥ = cc in absurd no_way
or_false false w h = (refl, h)

head_past : (how : MergeHow) (text : List ℕ) (l : Line) → head_line how text ≡ Ok l → Head how text l
unfolding head_line
head_past how text l h =
    let p = past (lacks_head text) fault.Missing (merge_note (behind text) >>= λ note. Ok (line.Merge how (word text) note)) l h in
    let t = or_false (lacks_word text) (is_hash (word text)) p.0 in
    let b = bound (merge_note (behind text)) (λ note. Ok (line.Merge how (word text) note)) l p.1 in
    record {
      note = b.0;
      is_line = ok_same _ _ b.2;
      begins = begins_on text t.0;
      is_note = merge_note_past (behind text) b.0 b.1;
      no_hash = t.1;
    }

merge_told : (text : List ℕ) (l : Line) → merge_line text ≡ Ok l → Told Merge text l
unfolding merge_line keep_line reword_line
merge_told text l h =
    ⊎_elim
    (λ keep.
    let p = past (lacks_word (behind text)) fault.Missing (head_line (Keep (word (behind text))) (behind (behind text))) l (sym (cond-true _ _ _ keep) ∙ h) in
    let q = head_past (Keep (word (behind text))) (behind (behind text)) l p.1 in
    subst (Told Merge text) q.is_line (record {
      word_same = refl;
      letter_same = refl;
      rest = behind (behind (behind text));
      words =
          (behind text, begins_as text (codes "-C") keep refl, (behind (behind text), begins_on (behind text) p.0, (behind (behind (behind text)), q.begins, refl)));
      ends = q.is_note;
      fit = ap not q.no_hash;
    }))
    (λ other.
    let h' = sym (cond-false _ _ _ other) ∙ h in
    ⊎_elim
    (λ reword.
    let p = past (lacks_word (behind text)) fault.Missing (head_line (Reword (word (behind text))) (behind (behind text))) l (sym (cond-true _ _ _ reword) ∙ h') in
    let q = head_past (Reword (word (behind text))) (behind (behind text)) l p.1 in
    subst (Told Merge text) q.is_line (record {
      word_same = refl;
      letter_same = refl;
      rest = behind (behind (behind text));
      words =
          (behind text, begins_as text (codes "-c") reword refl, (behind (behind text), begins_on (behind text) p.0, (behind (behind (behind text)), q.begins, refl)));
      ends = q.is_note;
      fit = ap not q.no_hash;
    }))
    (λ plain.
    let q = head_past Plain text l (sym (cond-false _ _ _ plain) ∙ h') in
    subst (Told Merge text) q.is_line (record {
      word_same = refl;
      letter_same = refl;
      rest = behind text;
      words = (behind text, q.begins, refl);
      ends = q.is_note;
      fit = ap (λ (v : Bool). not v && not (is_hash (word text))) (not_option (word text) other plain) ∙ ap not q.no_hash;
    }))
    (cases_Bool (bytes_eq (word text) (codes "-c"))))
    (cases_Bool (bytes_eq (word text) (codes "-C")))

pub arguments_told : (c : Command) (text : List ℕ) (l : Line) → is_simple_command c ≡ true → arguments_line c text ≡ Ok l → Told c text l
unfolding arguments_line
arguments_told (Pick k) text l s h = pick_told k text l s h
arguments_told Fixup text l s h = fixup_told text l h
arguments_told Exec text l s h = exec_told text l h
arguments_told Break text l s h = break_told text l h
arguments_told Noop text l s h = noop_told text l h
arguments_told Label text l s h = label_told text l h
arguments_told Reset text l s h = reset_told text l h
arguments_told Merge text l s h = merge_told text l h
arguments_told UpdateRef text l s h = update_told text l h
