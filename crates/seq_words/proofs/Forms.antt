-- The values of a form are those of one name.
use Rattle.std.proofs.Common.{◌≡◌, ◌∙◌, ◌&&◌, ◌||◌, ℕ, Bool, true, false, not, refl, sym, ap, ap₂, List, [], ◌∷◌, Some, None, is_some, codes, true≢false}
use Rattle.std.specs.Str.{bytes_eq}
use Rattle.std.specs.List.{find, list_all, list_any}
use Rattle.std.specs.Prelude.{if◌then◌else◌}
use Rattle.clap.proofs.WalkLemmas.{both}
use Rattle.seq_model.specs.Commands.{action_given, values_given}
use Rattle.seq_model.specs.Faults.{empty_named, first_bad, is_acting, is_bad_empty, is_bad_number, is_bad_shell, is_shell_line, parent_number, shell_command}
use Rattle.seq_model.specs.Given.{Given, is_given, is_row}
use Rattle.seq_model.specs.Rows.{Row, is_action}
use Rattle.seq_model.specs.declared.form.Form.{Form}
use Rattle.seq_model.specs.declared.form.Form.TheVariants as form
use Rattle.seq_model.specs.declared.verb.Action.TheVariants.{Abort, Continue, EditTodo, Quit, Skip}
use Rattle.seq_words.specs.Forms.{forms_fit, has_form, is_action_name, is_empty_form, is_number, is_shell, only, same}

same_is : (a b : Bool) → same a b ≡ true → a ≡ b
same_is true b e = sym e
same_is false true e = absurd (true≢false (sym e))
same_is false false e = refl

-- a bad value is a value of the form
module _ (test : Form → Bool) (is_bad : Form → List ℕ → Bool) (bad : List ℕ → Bool) (is : (f : Form) (v : List ℕ) → is_bad f v ≡ (test f && bad v)) (rows : List Row) (name : List ℕ) where
  cases : (g : Given) (all : List Given) (a mine b : Bool) → bytes_eq g.row.name name ≡ mine → bad g.value ≡ b
      → is_bad g.row.form g.value ≡ ((mine && a) && b)
      → first_bad is_bad all ≡ (if a then find bad (values_given all name) else None)
      → first_bad is_bad (g ∷ all) ≡ (if a then find bad (values_given (g ∷ all) name) else None)
  cases g all true true true i j k later = rw (i, k, j) refl
  cases g all true true false i j k later = rw (i, k, j) later
  cases g all true false b i j k later = rw (i, k) later
  cases g all false true b i j k later = rw k later
  cases g all false false b i j k later = rw k later

  pub bad_of : (asked : Bool) → has_form test rows name ≡ asked → (all : List Given) → list_all (λ g. only test rows name g.row) all ≡ true
      → first_bad is_bad all ≡ (if asked then find bad (values_given all name) else None)
  bad_of true asks [] e = refl
  bad_of false asks [] e = refl
  bad_of asked asks (g ∷ all) e =
      let p = both (only test rows name g.row) (list_all (λ x. only test rows name x.row) all) e in
      let form_is : test g.row.form ≡ (bytes_eq g.row.name name && asked) = same_is _ _ p.0 ∙ ap (λ (x : Bool). bytes_eq g.row.name name && x) asks in
      let bad_is : is_bad g.row.form g.value ≡ ((bytes_eq g.row.name name && asked) && bad g.value) = is g.row.form g.value ∙ ap (λ (x : Bool). x && bad g.value) form_is in
      cases g all asked (bytes_eq g.row.name name) (bad g.value) refl refl bad_is (bad_of asked asks all p.1)

-- ---- what fits all forms fits each

each_of : (p q : Given → Bool) → ((g : Given) → p g ≡ true → q g ≡ true) → (all : List Given) → list_all p all ≡ true → list_all q all ≡ true
each_of p q weaker [] e = refl
each_of p q weaker (g ∷ all) e =
    let b = both (p g) (list_all p all) e in
    ap₂ (λ (x y : Bool). x && y) (weaker g b.0) (each_of p q weaker all b.1)

abbrev Fit : List Row → List Given → Type 0
Fit rows all = list_all (λ g. forms_fit rows g.row) all ≡ true

pub bad_empty_is : (rows : List Row) (all : List Given) → Fit rows all
    → first_bad is_bad_empty all ≡ (if has_form is_empty_form rows (codes "--empty") then find (λ word. not (is_some (empty_named word))) (values_given all (codes "--empty")) else None)
bad_empty_is rows all fit =
    bad_of is_empty_form is_bad_empty (λ word. not (is_some (empty_named word))) is rows (codes "--empty") _ refl all
    (each_of _ _ (λ g e. (both (only is_empty_form rows (codes "--empty") g.row) _ e).0) all fit)
  where
    is : (f : Form) (v : List ℕ) → is_bad_empty f v ≡ (is_empty_form f && not (is_some (empty_named v)))
    is form.Empty v = refl
    is form.Action v = refl
    is form.Flag v = refl
    is form.Name v = refl
    is form.Number v = refl
    is form.Shell v = refl
    is form.Text v = refl
    is form.One v = refl
    is form.Many v = refl

pub bad_number_is : (rows : List Row) (all : List Given) → Fit rows all
    → first_bad is_bad_number all ≡ (if has_form is_number rows (codes "-m") then find (λ word. not (is_some (parent_number word))) (values_given all (codes "-m")) else None)
bad_number_is rows all fit =
    bad_of is_number is_bad_number (λ word. not (is_some (parent_number word))) is rows (codes "-m") _ refl all
    (each_of _ _ (λ g e. (both (only is_number rows (codes "-m") g.row) _ (both (only is_empty_form rows (codes "--empty") g.row) _ e).1).0) all fit)
  where
    is : (f : Form) (v : List ℕ) → is_bad_number f v ≡ (is_number f && not (is_some (parent_number v)))
    is form.Empty v = refl
    is form.Action v = refl
    is form.Flag v = refl
    is form.Name v = refl
    is form.Number v = refl
    is form.Shell v = refl
    is form.Text v = refl
    is form.One v = refl
    is form.Many v = refl

pub bad_shell_is : (rows : List Row) (all : List Given) → Fit rows all
    → first_bad is_bad_shell all ≡ (if has_form is_shell rows (codes "-x") then find (λ word. not (is_shell_line (shell_command word))) (values_given all (codes "-x")) else None)
bad_shell_is rows all fit =
    bad_of is_shell is_bad_shell (λ word. not (is_shell_line (shell_command word))) is rows (codes "-x") _ refl all
    (each_of _ _ (λ g e. (both (only is_shell rows (codes "-x") g.row) _ (both (only is_number rows (codes "-m") g.row) _ (both (only is_empty_form rows (codes "--empty") g.row) _ e).1).1).0) all fit)
  where
    is : (f : Form) (v : List ℕ) → is_bad_shell f v ≡ (is_shell f && not (is_shell_line (shell_command v)))
    is form.Empty v = refl
    is form.Action v = refl
    is form.Flag v = refl
    is form.Name v = refl
    is form.Number v = refl
    is form.Shell v = refl
    is form.Text v = refl
    is form.One v = refl
    is form.Many v = refl

pub ruleset bad_words = (bad_empty_is, bad_number_is, bad_shell_is)

-- ---- actions

any_or : (p q : Given → Bool) (all : List Given) → list_any (λ g. p g || q g) all ≡ (list_any p all || list_any q all)
any_or p q [] = refl
any_or p q (g ∷ all) = go (p g) (q g) (list_any p all) (list_any q all) (any_or p q all)
  where
    go : (a b c d : Bool) → list_any (λ x. p x || q x) all ≡ (c || d) → ((a || b) || list_any (λ x. p x || q x) all) ≡ ((a || c) || (b || d))
    go true b c d e = refl
    go false true true d e = refl
    go false true false d e = refl
    go false false c d e = e

any_same : (p q : Given → Bool) (all : List Given) → list_all (λ g. same (p g) (q g)) all ≡ true → list_any p all ≡ list_any q all
any_same p q [] e = refl
any_same p q (g ∷ all) e =
    let b = both (same (p g) (q g)) (list_all (λ x. same (p x) (q x)) all) e in
    ap₂ (λ (x y : Bool). x || y) (same_is _ _ b.0) (any_same p q all b.1)

pub acting_is : (rows : List Row) (all : List Given) → Fit rows all → is_acting all ≡ is_some (action_given all)
acting_is rows all fit =
    any_same (λ g. is_action g.row.form) (λ g. is_action_name g.row.name) all
    (each_of _ _ (λ g e. (both (only is_shell rows (codes "-x") g.row) _ (both (only is_number rows (codes "-m") g.row) _ (both (only is_empty_form rows (codes "--empty") g.row) _ e).1).1).1) all fit)
    ∙ any_or (is_row (codes "--continue")) _ all
    ∙ ap (λ (b : Bool). is_given all (codes "--continue") || b) (any_or (is_row (codes "--skip")) _ all
    ∙ ap (λ (b : Bool). is_given all (codes "--skip") || b) (any_or (is_row (codes "--abort")) _ all
    ∙ ap (λ (b : Bool). is_given all (codes "--abort") || b) (any_or (is_row (codes "--quit")) (is_row (codes "--edit-todo")) all)))
    ∙ go (is_given all (codes "--continue")) (is_given all (codes "--skip")) (is_given all (codes "--abort")) (is_given all (codes "--quit")) (is_given all (codes "--edit-todo"))
  where
    go : (a b c d e : Bool)
        → (a || (b || (c || (d || e)))) ≡ is_some (if a then Some Continue else if b then Some Skip else if c then Some Abort else if d then Some Quit else if e then Some EditTodo else None)
    go true b c d e = refl
    go false true c d e = refl
    go false false true d e = refl
    go false false false true e = refl
    go false false false false true = refl
    go false false false false false = refl

pub ruleset acting_words = acting_is
