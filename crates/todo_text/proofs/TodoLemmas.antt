-- A todo is read one line after the other.
use Rattle.std.proofs.Common.{◌≡◌, ℕ, ◌+◌, Bool, true, false, cond, List, [], ◌∷◌, ◌++◌, length, refl, sym, ap, ◌∙◌, append_assoc, arith}
use Rattle.std.proofs.lemmas.List.{append-nil}
use Rattle.std.specs.Str.Lines.{lines}
use Rattle.std.specs.Prelude.{◌||◌, Result, Ok, Err}
use Rattle.todo_text.specs.declared.line.Line.{Line}
use Rattle.todo_text.specs.declared.todo_kind.TodoKind.{TodoKind}
use Rattle.todo_text.specs.declared.fault.TodoFault.{TodoFault}
use Rattle.todo_text.specs.declared.fault.TodoFault.TheVariants.{Bad, Memory}
use Rattle.todo_text.specs.Todos.{is_comment, counts}
use Rattle.todo_text.specs.ReadTodo.{line_in, LineGives, led_by, begun_by, todo_of, TodoGives}

pub led_by-led_by : (a b : List Line) (r : Result (List Line) TodoFault) → led_by a (led_by b r) ≡ led_by (a ++ b) r
led_by-led_by a b (Ok ls) = ap (λ (x : List Line). Ok x) (sym (append_assoc a b ls))
led_by-led_by a b (Err fault) = refl

module _ (earlier : Bool) (n : ℕ) (text : List ℕ) (texts : List (List ℕ)) where
  pub todo_comment : is_comment text ≡ true → todo_of earlier n (text ∷ texts) ≡ todo_of earlier (n + 1) texts
  unfolding todo_of
  todo_comment e =
      ap (λ (v : Bool). cond v (todo_of earlier (n + 1) texts) (begun_by n (line_in earlier text) (λ (line : Line). todo_of (earlier || counts line) (n + 1) texts))) e

  todo_other : is_comment text ≡ false
      → todo_of earlier n (text ∷ texts) ≡ begun_by n (line_in earlier text) (λ (line : Line). todo_of (earlier || counts line) (n + 1) texts)
  unfolding todo_of
  todo_other e =
      ap (λ (v : Bool). cond v (todo_of earlier (n + 1) texts) (begun_by n (line_in earlier text) (λ (line : Line). todo_of (earlier || counts line) (n + 1) texts))) e

  pub todo_line : (line : Line) → is_comment text ≡ false → line_in earlier text ≡ Ok line
      → todo_of earlier n (text ∷ texts) ≡ led_by (line ∷ []) (todo_of (earlier || counts line) (n + 1) texts)
  todo_line line e f = todo_other e ∙ ap (λ (r : Result Line TodoKind). begun_by n r (λ (l : Line). todo_of (earlier || counts l) (n + 1) texts)) f

  pub todo_bad : (kind : TodoKind) → is_comment text ≡ false → line_in earlier text ≡ Err kind → todo_of earlier n (text ∷ texts) ≡ Err (Bad n kind)
  todo_bad kind e f = todo_other e ∙ ap (λ (r : Result Line TodoKind). begun_by n r (λ (l : Line). todo_of (earlier || counts l) (n + 1) texts)) f

module _ (earlier : Bool) (n : ℕ) (read : List Line) (rest text : List ℕ) (texts : List (List ℕ)) (whole : Result (List Line) TodoFault)
    (so_far : led_by read (todo_of earlier (n + 1) (lines rest)) ≡ whole) (first : lines rest ≡ text ∷ texts) where
  cut : led_by read (todo_of earlier (n + 1) (text ∷ texts)) ≡ whole
  cut = ap (λ (ts : List (List ℕ)). led_by read (todo_of earlier (n + 1) ts)) (sym first) ∙ so_far

  pub read_passed : is_comment text ≡ true → led_by read (todo_of earlier (n + 1 + 1) texts) ≡ whole
  read_passed e = ap (led_by read) (sym (todo_comment earlier (n + 1) text texts e)) ∙ cut

  pub read_more : (line : Line) (after : Bool) → is_comment text ≡ false → line_in earlier text ≡ Ok line → after ≡ (earlier || counts line)
      → led_by (read ++ line ∷ []) (todo_of after (n + 1 + 1) texts) ≡ whole
  read_more line after e f g =
      ap (λ (v : Bool). led_by (read ++ line ∷ []) (todo_of v (n + 1 + 1) texts)) g
      ∙ sym (led_by-led_by read (line ∷ []) (todo_of (earlier || counts line) (n + 1 + 1) texts))
      ∙ ap (led_by read) (sym (todo_line earlier (n + 1) text texts line e f))
      ∙ cut

  pub read_failed : (fault : TodoFault) → is_comment text ≡ false → LineGives (n + 1) (Err fault) (line_in earlier text) → TodoGives (Err fault) whole
  read_failed (Bad number kind) e f =
      sym cut ∙ ap (led_by read) (todo_bad earlier (n + 1) text texts kind e f.0) ∙ ap (λ (k : ℕ). Err (Bad k kind)) (sym f.1)
  read_failed Memory e f = tt

pub read_all : (earlier : Bool) (n : ℕ) (read : List Line) (rest : List ℕ) (whole : Result (List Line) TodoFault)
    → led_by read (todo_of earlier (n + 1) (lines rest)) ≡ whole → length rest ≡ 0 → whole ≡ Ok read
unfolding todo_of
read_all earlier n read [] whole so_far e = sym so_far ∙ ap (λ (ls : List Line). Ok ls) (append-nil read)
read_all earlier n read (b ∷ bs) whole so_far e = absurd (omega arith)
