-- `clap` takes plain words, and holds what they give.
use Rattle.std.proofs.Common.{◌≡◌, ℕ, Bool, true, false, refl, sym, ap, subst, List, [], ◌∷◌, ◌++◌, drop, Option, Some, None, true≢false, eqb-true, codes}
use Rattle.std.specs.Str.{bytes_eq}
use Rattle.std.specs.List.{fold}
use Rattle.std.specs.Prelude.{IfSome, if◌then◌else◌, option_and_then}
use Rattle.std.proofs.lemmas.List.Sums.{fold-append}
use Rattle.std.proofs.lemmas.Slice.Eq.{bytes_eq-Decides}
use Rattle.seq_model.specs.Given.{Given, Expected, any, value_of, argument, any_word, as_argument, awaits, dashed, gives, given_behind, has_ended, is_dashed, row_named, step}
use Rattle.seq_model.specs.Given as model
use Rattle.seq_model.specs.Rows.{Row}
use Rattle.clap.specs.Walk as clap
use Rattle.clap.specs.Walk.{Text, Walk, walked, settled_rows}
use Rattle.clap.specs.Takes.{settle_passes, walk_passes}
use Rattle.clap.specs.Simple.{Shape}
use Rattle.seq_words.specs.Told.{AllFit, Fits, all_kept, kept}
use Rattle.seq_words.proofs.Walks.{dashes, held_at, waiting_at, walk_at}
use Rattle.seq_words.proofs.Steps.{Follows, Reaches, Stands, argument_follows, find_fits, named_follows, trailing_follows, value_follows, with_value_follows}

dashed_parts : (word : Text) → is_dashed word ≡ true → word ≡ 45 ∷ drop 1 word
dashed_parts [] e = absurd (true≢false (sym e))
dashed_parts (z ∷ zs) e = ap (λ (k : ℕ). k ∷ zs) (eqb-true z 45 e)

any_follows : (s : Shape) (rules : List Row) (rows : List clap.Row) (pending : Option (Text × List Text)) (busy : Bool) (word : Text)
    → AllFit s.rules rules
    → settle_passes s.rules s.args_override_self (held_at rows pending) ≡ true
    → IfSome (any_word rules word) (Reaches s rows pending busy word)
any_follows s rules rows pending busy word fit ok = split (bytes_eq word (codes "--")) refl
  where
    by_name : (o : Option Row) → row_named rules word ≡ o → is_dashed word ≡ true
        → IfSome o (λ row. Fits s.rules row × (bytes_eq row.name word ≡ true))
        → IfSome (dashed o rules word) (Reaches s rows pending busy word)
    by_name None found e h =
        let parts = dashed_parts word e in
        subst (λ (t : Text). row_named rules t ≡ None → IfSome (dashed None rules t) (Reaches s rows pending busy t)) (sym parts)
        (with_value_follows s rules rows pending busy (drop 1 word) fit ok) found
    by_name (Some row) found e h =
        let name : row.name ≡ word = (bytes_eq-Decides _ _).0 h.1 in
        subst (λ (t : Text). is_dashed t ≡ true → Reaches s rows pending busy t (model.named t row)) name
        (λ dash. named_follows s row rows pending busy h.0.long h.0.short h.0.index h.0.flag ok h.0.form dash h.0.by_id h.0.way) e

    or_argument : (b : Bool) → is_dashed word ≡ b
        → IfSome (if b then dashed (row_named rules word) rules word else as_argument rules word any) (Reaches s rows pending busy word)
    or_argument true e = by_name (row_named rules word) refl e (find_fits s.rules rules _ fit)
    or_argument false e = argument_follows s rules rows pending busy word fit ok e

    split : (b : Bool) → bytes_eq word (codes "--") ≡ b
        → IfSome (if b then Some (awaits argument) else (if is_dashed word then dashed (row_named rules word) rules word else as_argument rules word any))
        (Reaches s rows pending busy word)
    split true e =
        subst (λ (t : Text). Reaches s rows pending busy t (awaits argument)) (sym ((bytes_eq-Decides word (codes "--")).0 e))
        (walk_at rows pending (waiting_at busy) true, dashes s rows pending busy, (rows, pending, waiting_at busy, refl, refl, ok))
    split false e = or_argument (is_dashed word) refl

step_follows : (s : Shape) (rules : List Row) (expected : Expected) (r : List clap.Row) (w : Walk) (word : Text) → AllFit s.rules rules
    → Stands s expected r w
    → IfSome (step rules expected word) (Follows s r w word)
step_follows s rules any r w word fit (rows, pending, busy, is, settled, ok) =
    subst (λ (q : List clap.Row). IfSome (any_word rules word) (Follows s q w word)) settled
    (subst (λ (u : Walk). IfSome (any_word rules word) (Follows s (settled_rows s.rules pending rows) u word)) (sym is) (any_follows s rules rows pending busy word fit ok))
step_follows s rules (value_of row) r w word fit h = go (is_dashed word) refl
  where
    go : (b : Bool) → is_dashed word ≡ b → IfSome (if b then None else Some (gives row word any)) (Follows s r w word)
    go true e = tt
    go false e = value_follows s row r w word h e
step_follows s rules argument r w word fit (rows, pending, waiting, is, settled, ok) =
    subst (λ (q : List clap.Row). IfSome (as_argument rules word argument) (Follows s q w word)) settled
    (subst (λ (u : Walk). IfSome (as_argument rules word argument) (Follows s (settled_rows s.rules pending rows) u word)) (sym is) (trailing_follows s rules rows pending waiting word fit ok))

-- the walk has ended, and holds these rows
pub record Ends (s : Shape) (r : List clap.Row) (w : Walk) : Type 0 where
  pub rows : settled_rows s.rules w.held.pending w.held.rows ≡ r
  pub settles : settle_passes s.rules s.args_override_self w.held ≡ true
  pub stopped : w.stopped ≡ None

-- what ends well
ended : (s : Shape) (expected : Expected) (r : List clap.Row) (w : Walk) → has_ended expected ≡ true → Stands s expected r w → Ends s r w
ended s any r w e (rows, pending, busy, is, settled, ok) = subst (Ends s r) (sym is) (record { rows = settled; settles = ok; stopped = refl })
ended s (value_of row) r w e h = absurd (true≢false (sym e))
ended s argument r w e (rows, pending, waiting, is, settled, ok) = subst (Ends s r) (sym is) (record { rows = settled; settles = ok; stopped = refl })

-- the walk over the words that follow
abbrev pub Takes : Shape → Walk → List Text → List Given → Type 0
Takes s w words all = Ends s (all_kept [] all) (fold (walked s.rules []) w words) × (walk_passes s [] w words ≡ true)

pub words_taken : (s : Shape) (rules : List Row) (words : List Text) (expected : Expected) (before : List Given) (w : Walk) → AllFit s.rules rules
    → Stands s expected (all_kept [] before) w → IfSome (given_behind rules before expected words) (Takes s w words)
unfolding walk_passes
words_taken s rules [] expected before w fit h = go (has_ended expected) refl
  where
    go : (b : Bool) → has_ended expected ≡ b → IfSome (if b then Some before else None) (Takes s w [])
    go true e = (ended s expected (all_kept [] before) w e h, refl)
    go false e = tt
words_taken s rules (word ∷ words) expected before w fit h =
    go (step rules expected word) (step_follows s rules expected (all_kept [] before) w word fit h) (λ next more after stands. words_taken s rules words next more after fit stands)
  where
    go : (o : Option model.Step) → IfSome o (Follows s (all_kept [] before) w word)
        → ((next : Expected) (more : List Given) (after : Walk) → Stands s next (all_kept [] more) after → IfSome (given_behind rules more next words) (Takes s after words))
        → IfSome (option_and_then (λ st. given_behind rules (before ++ st.gives) st.next words) o) (Takes s w (word ∷ words))
    go None f later = tt
    go (Some st) (after, goes, stands) later =
        let stood : Stands s st.next (all_kept [] (before ++ st.gives)) after =
        subst (λ (q : List clap.Row). Stands s st.next q after) (sym (fold-append kept [] before st.gives)) stands in
        let rest = later st.next (before ++ st.gives) after stood in
        push (given_behind rules (before ++ st.gives) st.next words) rest
      where
        push : (o : Option (List Given)) → IfSome o (Takes s after words) → IfSome o (Takes s w (word ∷ words))
        push None r = tt
        push (Some all) r = (rw goes.0 r.0, rw (goes.1, goes.0) r.1)
