-- A step over plain words, and the same step of `clap`'s walk.
use Rattle.std.proofs.Common.{◌≡◌, ◌⊎◌, ◌∙◌, ◌+◌, ◌==◌, ◌||◌, ℕ, Bool, cond, true, false, refl, sym, ap, ap₂, subst, arith, List, [], ◌∷◌, length, take, drop, get_or, suc, Option, Some, None, is_some, inl, inr, true≢false, eqb-true}
use Rattle.std.specs.Str.{bytes_eq}
use Rattle.std.specs.List.{find, before_first, after_first, position_or_len}
use Rattle.std.specs.Prelude.{IfSome, if◌then◌else◌, option_and_then, option_map}
use Rattle.std.proofs.lemmas.Slice.Eq.{bytes_eq-Decides}
use Rattle.seq_model.specs.Given.{Expected, any, value_of, argument, argument_row, as_argument, attached, begins_with, gives, is_dashed, is_equals, long_value as long_value_of, named, row_named, short_value as short_value_of, with_value}
use Rattle.seq_model.specs.Given as model
use Rattle.seq_model.specs.Rows.{Row, is_argument, is_flag}
use Rattle.clap.specs.Lexer.{has_byte, long_of}
use Rattle.clap.specs.Walk as clap
use Rattle.clap.specs.Walk.{Text, Walk, Waiting, positional, idle, option, Rule, arg_by_id, arg_by_index, settled_rows, with_values}
use Rattle.clap.specs.Takes.{settle_passes}
use Rattle.clap.specs.Simple.{Shape}
use Rattle.clap.specs.declared.builder.value_parser.Reading.TheVariants.{AsWritten}
use Rattle.clap.specs.declared.parser.matches.ValueSource.TheVariants.{CommandLine}
use Rattle.seq_words.specs.Told.{AllFit, Fits, IsArgument, IsLong, IsShort, all_kept, told_as}
use Rattle.seq_words.proofs.Walks.{Goes, behind_dashes, held_at, long_awaits, long_flag, long_value, option_value, plain_argument, short_awaits, short_flag, short_value, waiting_at, walk_at}

-- where the walk stands when this is expected, and the rows are these
abbrev pub Stands : Shape → Expected → List clap.Row → Walk → Type 0
Stands s any r w = (rows : List clap.Row) × (pending : Option (Text × List Text)) × (busy : Bool) × (w ≡ walk_at rows pending (waiting_at busy) false)
    × (settled_rows s.rules pending rows ≡ r) × (settle_passes s.rules s.args_override_self (held_at rows pending) ≡ true)
Stands s (value_of row) r w =
    (long : Option Text) × (short : Option ℕ) × (index : Option ℕ) × (w ≡ walk_at r (Some (row.name, [])) (option row.name) false)
    × (arg_by_id s.rules row.name ≡ Some (told_as row.name long short index false))
Stands s argument r w = (rows : List clap.Row) × (pending : Option (Text × List Text)) × (waiting : Waiting) × (w ≡ walk_at rows pending waiting true)
    × (settled_rows s.rules pending rows ≡ r) × (settle_passes s.rules s.args_override_self (held_at rows pending) ≡ true)

-- the walk takes the word, and then stands as the step says
abbrev pub Follows : Shape → List clap.Row → Walk → Text → model.Step → Type 0
Follows s r w word st = (after : Walk) × Goes s w word after × Stands s st.next (all_kept r st.gives) after

-- the same, from where any word may follow
abbrev pub Reaches : Shape → List clap.Row → Option (Text × List Text) → Bool → Text → model.Step → Type 0
Reaches s rows pending busy = Follows s (settled_rows s.rules pending rows) (walk_at rows pending (waiting_at busy) false)

pub find_fits : (c : List Rule) (rows : List Row) (p : Row → Bool) → AllFit c rows → IfSome (find p rows) (λ row. Fits c row × (p row ≡ true))
find_fits c [] p fit = tt
find_fits c (row ∷ rows) p fit = go (p row) refl (find_fits c rows p fit.1)
  where
    go : (b : Bool) → p row ≡ b → IfSome (find p rows) (λ x. Fits c x × (p x ≡ true))
        → IfSome (cond b (Some row) (find p rows)) (λ x. Fits c x × (p x ≡ true))
    go true e later = (fit.0, e)
    go false e later = later

-- ---- words

one_more : (n : ℕ) → 1 + n ≡ suc n
one_more n = omega arith

before_whole : (text : Text) → has_byte 61 text ≡ false → before_first is_equals text ≡ text
before_whole [] e = refl
before_whole (x ∷ xs) e = go (x == 61) refl e (before_whole xs)
  where
    go : (b : Bool) → (x == 61) ≡ b → (b || has_byte 61 xs) ≡ false → (has_byte 61 xs ≡ false → before_first is_equals xs ≡ xs)
        → before_first is_equals (x ∷ xs) ≡ x ∷ xs
    go true at lacks later = absurd (true≢false lacks)
    go false at lacks later =
        rw at (ap (λ (k : ℕ). take k (x ∷ xs)) (one_more (position_or_len is_equals xs)) ∙ ap (λ (t : Text). x ∷ t) (later lacks))

long_name : (first : ℕ) (rest : Text) → has_byte 61 (first ∷ rest) ≡ false → long_of (45 ∷ 45 ∷ first ∷ rest) ≡ Some (first ∷ rest, None)
long_name first rest e =
    ap₂ (λ (n : Text) (b : Bool). Some (n, cond b (Some (after_first is_equals (first ∷ rest))) None)) (before_whole (first ∷ rest) e) e

-- ---- steps

-- a use that waits is settled, and passes
pending_kept : (s : Shape) (rows : List clap.Row) (name word : Text) (long : Option Text) (short index : Option ℕ)
    → arg_by_id s.rules name ≡ Some (told_as name long short index false)
    → (settled_rows s.rules (Some (name, word ∷ [])) rows ≡ with_values name AsWritten CommandLine (word ∷ []) rows)
    × (settle_passes s.rules s.args_override_self (held_at rows (Some (name, word ∷ []))) ≡ true)
pending_kept s rows name word long short index by_id = (rw by_id refl, rw by_id refl)

-- what the row's name does, as a word
pub named_follows : (s : Shape) (row : Row) (rows : List clap.Row) (pending : Option (Text × List Text)) (busy : Bool) (long : Option Text) (short index : Option ℕ) (flag : Bool)
    → settle_passes s.rules s.args_override_self (held_at rows pending) ≡ true → is_flag row.form ≡ flag → is_dashed row.name ≡ true
    → arg_by_id s.rules row.name ≡ Some (told_as row.name long short index flag)
    → IsLong s.rules row (told_as row.name long short index flag)
    ⊎ (IsShort s.rules row (told_as row.name long short index flag) ⊎ IsArgument s.rules row (told_as row.name long short index flag))
    → Follows s (settled_rows s.rules pending rows) (walk_at rows pending (waiting_at busy) false) row.name (named row.name row)
named_follows s row rows pending busy long short index true ok form dash by_id (inl l) =
    let goes = long_flag s rows pending busy row.name (l.first ∷ l.rest) row.name long short index ok (rw l.name refl) (rw l.name (long_name l.first l.rest l.whole)) l.found in
    rw form (walk_at (with_values row.name AsWritten CommandLine ([] ∷ []) (settled_rows s.rules pending rows)) None idle false, goes, (_, None, false, refl, refl, refl))
named_follows s row rows pending busy long short index false ok form dash by_id (inl l) =
    let goes = long_awaits s rows pending busy row.name (l.first ∷ l.rest) row.name long short index ok (rw l.name refl) (rw l.name (long_name l.first l.rest l.whole)) l.found in
    rw form (walk_at (settled_rows s.rules pending rows) (Some (row.name, [])) (option row.name) false, goes, (long, short, index, refl, by_id))
named_follows s row rows pending busy long short index true ok form dash by_id (inr (inl l)) =
    let goes = short_flag s rows pending busy l.letter row.name long short index ok l.ascii l.other l.found in
    rw form (
      walk_at (with_values row.name AsWritten CommandLine ([] ∷ []) (settled_rows s.rules pending rows)) None idle false,
      subst (λ (word : Text). Goes s (walk_at rows pending (waiting_at busy) false) word (walk_at (with_values row.name AsWritten CommandLine ([] ∷ []) (settled_rows s.rules pending rows)) None idle false)) (sym l.name) goes,
      (_, None, false, refl, refl, refl),
    )
named_follows s row rows pending busy long short index false ok form dash by_id (inr (inl l)) =
    let goes = short_awaits s rows pending busy l.letter row.name long short index ok l.ascii l.other l.found in
    rw form (
      walk_at (settled_rows s.rules pending rows) (Some (row.name, [])) (option row.name) false,
      subst (λ (word : Text). Goes s (walk_at rows pending (waiting_at busy) false) word (walk_at (settled_rows s.rules pending rows) (Some (row.name, [])) (option row.name) false)) (sym l.name) goes,
      (long, short, index, refl, by_id),
    )
named_follows s row rows pending busy long short index flag ok form dash by_id (inr (inr a)) = absurd (true≢false (sym dash ∙ a.name))

-- a word with no dash, or any behind `--`, is the argument
argument_rule : (s : Shape) (row : Row) → is_argument row.form ≡ true → Fits s.rules row
    → (long : Option Text) × (short : Option ℕ) × (index : Option ℕ) × (arg_by_id s.rules row.name ≡ Some (told_as row.name long short index false))
    × (arg_by_index s.rules 1 ≡ Some (told_as row.name long short index false))
argument_rule s row form fit = go fit.flag fit.form fit.by_id fit.way
  where
    go : (flag : Bool) → is_flag row.form ≡ flag → arg_by_id s.rules row.name ≡ Some (told_as row.name fit.long fit.short fit.index flag)
        → IsLong s.rules row (told_as row.name fit.long fit.short fit.index flag)
        ⊎ (IsShort s.rules row (told_as row.name fit.long fit.short fit.index flag) ⊎ IsArgument s.rules row (told_as row.name fit.long fit.short fit.index flag))
        → (long : Option Text) × (short : Option ℕ) × (index : Option ℕ) × (arg_by_id s.rules row.name ≡ Some (told_as row.name long short index false))
        × (arg_by_index s.rules 1 ≡ Some (told_as row.name long short index false))
    go flag is by_id (inl l) = absurd (true≢false (sym form ∙ l.option))
    go flag is by_id (inr (inl l)) = absurd (true≢false (sym form ∙ l.option))
    go true is by_id (inr (inr a)) = absurd (true≢false (sym is ∙ a.valued))
    go false is by_id (inr (inr a)) = (fit.long, fit.short, fit.index, by_id, a.found)

as_argument_follows : (s : Shape) (rules : List Row) (rows : List clap.Row) (pending : Option (Text × List Text)) (w : Walk) (word : Text) (next : Expected)
    → AllFit s.rules rules
    → ((row : Row) (long : Option Text) (short index : Option ℕ) → arg_by_id s.rules row.name ≡ Some (told_as row.name long short index false)
    → arg_by_index s.rules 1 ≡ Some (told_as row.name long short index false)
    → Follows s (settled_rows s.rules pending rows) w word (gives row word next))
    → IfSome (as_argument rules word next) (Follows s (settled_rows s.rules pending rows) w word)
as_argument_follows s rules rows pending w word next fit each = go (argument_row rules) (find_fits s.rules rules (λ row. is_argument row.form) fit)
  where
    go : (found : Option Row) → IfSome found (λ row. Fits s.rules row × (is_argument row.form ≡ true))
        → IfSome (option_map (λ row. gives row word next) found) (Follows s (settled_rows s.rules pending rows) w word)
    go None h = tt
    go (Some row) h = let a = argument_rule s row h.1 h.0 in each row a.0 a.1 a.2 a.3 a.4

pub argument_follows : (s : Shape) (rules : List Row) (rows : List clap.Row) (pending : Option (Text × List Text)) (busy : Bool) (word : Text)
    → AllFit s.rules rules → settle_passes s.rules s.args_override_self (held_at rows pending) ≡ true → is_dashed word ≡ false
    → IfSome (as_argument rules word any) (Follows s (settled_rows s.rules pending rows) (walk_at rows pending (waiting_at busy) false) word)
argument_follows s rules rows pending busy word fit ok bare =
    as_argument_follows s rules rows pending (walk_at rows pending (waiting_at busy) false) word any fit (λ row long short index by_id found.
    let k = pending_kept s (settled_rows s.rules pending rows) row.name word long short index by_id in (
      _,
      plain_argument s rows pending busy word row.name long short index ok bare found,
      (settled_rows s.rules pending rows, Some (row.name, word ∷ []), true, refl, k.0, k.1),
    ))

pub trailing_follows : (s : Shape) (rules : List Row) (rows : List clap.Row) (pending : Option (Text × List Text)) (waiting : Waiting) (word : Text)
    → AllFit s.rules rules → settle_passes s.rules s.args_override_self (held_at rows pending) ≡ true
    → IfSome (as_argument rules word argument) (Follows s (settled_rows s.rules pending rows) (walk_at rows pending waiting true) word)
trailing_follows s rules rows pending waiting word fit ok =
    as_argument_follows s rules rows pending (walk_at rows pending waiting true) word argument fit (λ row long short index by_id found.
    let k = pending_kept s (settled_rows s.rules pending rows) row.name word long short index by_id in (
      _,
      behind_dashes s rows pending waiting word row.name long short index found ok,
      (settled_rows s.rules pending rows, Some (row.name, word ∷ []), positional, refl, k.0, k.1),
    ))

-- a value in the next word
pub value_follows : (s : Shape) (row : Row) (r : List clap.Row) (w : Walk) (word : Text) → Stands s (value_of row) r w
    → is_dashed word ≡ false → Follows s r w word (gives row word any)
value_follows s row r w word (long, short, index, is, by_id) bare =
    let k = pending_kept s r row.name word long short index by_id in (
      walk_at r (Some (row.name, word ∷ [])) idle false,
      subst (λ (u : Walk). Goes s u word (walk_at r (Some (row.name, word ∷ [])) idle false)) (sym is) (option_value s r word row.name long short index bare by_id),
      (r, Some (row.name, word ∷ []), false, refl, k.0, k.1),
    )

-- ---- a value in the option's own word

before_dash : (ys : Text) → before_first is_equals (45 ∷ ys) ≡ 45 ∷ before_first is_equals ys
before_dash ys = ap (λ (k : ℕ). take k (45 ∷ ys)) (one_more (position_or_len is_equals ys))

after_dash : (ys : Text) → after_first is_equals (45 ∷ ys) ≡ after_first is_equals ys
after_dash ys =
    ap (λ (k : ℕ). drop k (45 ∷ ys)) (let k : 1 + position_or_len is_equals ys + 1 ≡ suc (position_or_len is_equals ys + 1) = omega arith in k)

-- the row is an option with a value
abbrev Valued : Shape → Row → Type 0
Valued s row =
    (long : Option Text) × (short : Option ℕ) × (index : Option ℕ) × (is_dashed row.name ≡ true → IsLong s.rules row (told_as row.name long short index false)
    ⊎ IsShort s.rules row (told_as row.name long short index false))

valued : (s : Shape) (row : Row) → Fits s.rules row → is_flag row.form ≡ false → Valued s row
valued s row fit form = go fit.flag fit.form fit.way
  where
    go : (flag : Bool) → is_flag row.form ≡ flag
        → IsLong s.rules row (told_as row.name fit.long fit.short fit.index flag)
        ⊎ (IsShort s.rules row (told_as row.name fit.long fit.short fit.index flag) ⊎ IsArgument s.rules row (told_as row.name fit.long fit.short fit.index flag))
        → Valued s row
    go true is way = absurd (true≢false (sym is ∙ form))
    go false is (inl l) = (fit.long, fit.short, fit.index, λ dash. inl l)
    go false is (inr (inl l)) = (fit.long, fit.short, fit.index, λ dash. inr l)
    go false is (inr (inr a)) = (fit.long, fit.short, fit.index, λ dash. absurd (true≢false (sym dash ∙ a.name)))

long_with_value : (s : Shape) (rows : List clap.Row) (pending : Option (Text × List Text)) (busy : Bool) (ys : Text) (row : Row) → Fits s.rules row
    → settle_passes s.rules s.args_override_self (held_at rows pending) ≡ true
    → is_flag row.form ≡ false → row.name ≡ before_first is_equals (45 ∷ 45 ∷ ys) → (row.name ≡ 45 ∷ 45 ∷ ys → ⊥)
    → Follows s (settled_rows s.rules pending rows) (walk_at rows pending (waiting_at busy) false) (45 ∷ 45 ∷ ys) (gives row (after_first is_equals (45 ∷ 45 ∷ ys)) any)
long_with_value s rows pending busy ys row fit ok form name whole =
    let v = valued s row fit form in
    let same : row.name ≡ 45 ∷ 45 ∷ before_first is_equals ys = name ∙ before_dash (45 ∷ ys) ∙ ap (λ (t : Text). 45 ∷ t) (before_dash ys) in
    let value : after_first is_equals (45 ∷ 45 ∷ ys) ≡ after_first is_equals ys = after_dash (45 ∷ ys) ∙ after_dash ys in
    elim (v.3 (ap is_dashed same)) [
      | inl l ↦
          let stem : l.first ∷ l.rest ≡ before_first is_equals ys = ap (drop 2) (sym l.name ∙ same) in
          let has : has_byte 61 ys ≡ true = go (has_byte 61 ys) refl same in
          let longer : bytes_eq (45 ∷ 45 ∷ ys) (45 ∷ 45 ∷ []) ≡ false = more ys l.first l.rest stem in
          let parts : long_of (45 ∷ 45 ∷ ys) ≡ Some (l.first ∷ l.rest, Some (after_first is_equals ys)) = cut ys l.first l.rest stem has in
          rw value (
            _,
            long_value s rows pending busy (45 ∷ 45 ∷ ys) (l.first ∷ l.rest) row.name v.0 v.1 v.2 ok longer (after_first is_equals ys) parts l.found,
            (with_values row.name AsWritten CommandLine (after_first is_equals ys ∷ []) (settled_rows s.rules pending rows), None, false, refl, refl, refl),
          )
      | inr l ↦
          let letter : l.letter ≡ 45 = ap (λ (t : Text). get_or t 1 0) (sym l.name ∙ same) in
          let bad : true ≡ false = ap (λ (k : ℕ). k == 45) (sym letter) ∙ l.other in
          absurd (true≢false bad)
    ]
  where
    go : (b : Bool) → has_byte 61 ys ≡ b → row.name ≡ 45 ∷ 45 ∷ before_first is_equals ys → has_byte 61 ys ≡ true
    go true e same = e
    go false e same = absurd (whole (same ∙ ap (λ (t : Text). 45 ∷ 45 ∷ t) (before_whole ys e)))

    more : (zs : Text) (first : ℕ) (rest : Text) → first ∷ rest ≡ before_first is_equals zs → bytes_eq (45 ∷ 45 ∷ zs) (45 ∷ 45 ∷ []) ≡ false
    more [] first rest e =
        let bad : suc (length rest) ≡ 0 = ap length e in
        absurd (omega arith)
    more (z ∷ zs) first rest e = refl

    cut : (zs : Text) (first : ℕ) (rest : Text) → first ∷ rest ≡ before_first is_equals zs → has_byte 61 zs ≡ true
        → long_of (45 ∷ 45 ∷ zs) ≡ Some (first ∷ rest, Some (after_first is_equals zs))
    cut [] first rest e has = absurd (true≢false (sym has))
    cut (z ∷ zs) first rest e has = ap₂ (λ (n : Text) (b : Bool). Some (n, cond b (Some (after_first is_equals (z ∷ zs))) None)) (sym e) has

short_with_value : (s : Shape) (rows : List clap.Row) (pending : Option (Text × List Text)) (busy : Bool) (ys : Text) (row : Row) → Fits s.rules row
    → settle_passes s.rules s.args_override_self (held_at rows pending) ≡ true
    → is_flag row.form ≡ false → is_dashed ys ≡ false → row.name ≡ take 2 (45 ∷ ys) → (row.name ≡ 45 ∷ ys → ⊥) → begins_with 61 (drop 2 (45 ∷ ys)) ≡ false
    → Follows s (settled_rows s.rules pending rows) (walk_at rows pending (waiting_at busy) false) (45 ∷ ys) (gives row (drop 2 (45 ∷ ys)) any)
short_with_value s rows pending busy ys row fit ok form bare name whole no_equals =
    let v = valued s row fit form in
    elim (v.3 (ap is_dashed name)) [
      | inl l ↦
          let second : is_dashed ys ≡ true = dash_of ys (l.first ∷ l.rest) (sym l.name ∙ name) in
          absurd (true≢false (sym second ∙ bare))
      | inr l ↦ at ys l no_equals name whole
    ]
  where
    dash_of : (zs more : Text) → 45 ∷ 45 ∷ more ≡ take 2 (45 ∷ zs) → is_dashed zs ≡ true
    dash_of [] more e =
        let bad : suc (suc (length more)) ≡ 1 = ap length e in
        absurd (omega arith)
    dash_of (z ∷ zs) more e = ap (λ (t : Text). get_or t 1 0 == 45) (sym e)

    at : (zs : Text) → IsShort s.rules row (told_as row.name (valued s row fit form).0 (valued s row fit form).1 (valued s row fit form).2 false)
        → begins_with 61 (drop 2 (45 ∷ zs)) ≡ false → row.name ≡ take 2 (45 ∷ zs) → (row.name ≡ 45 ∷ zs → ⊥)
        → Follows s (settled_rows s.rules pending rows) (walk_at rows pending (waiting_at busy) false) (45 ∷ zs) (gives row (drop 2 (45 ∷ zs)) any)
    at [] l lacks named other = absurd (other named)
    at (z ∷ []) l lacks named other = absurd (other named)
    at (z ∷ y ∷ zs) l lacks named other =
        let letter : l.letter ≡ z = ap (λ (t : Text). get_or t 1 0) (sym l.name ∙ named) in
        let goes = short_value s rows pending busy l.letter row.name _ _ _ ok l.ascii l.other y zs lacks l.found in (
          walk_at (with_values row.name AsWritten CommandLine ((y ∷ zs) ∷ []) (settled_rows s.rules pending rows)) None idle false,
          subst (λ (k : ℕ). Goes s (walk_at rows pending (waiting_at busy) false) (45 ∷ k ∷ y ∷ zs) (walk_at (with_values row.name AsWritten CommandLine ((y ∷ zs) ∷ []) (settled_rows s.rules pending rows)) None idle false)) letter goes,
          (with_values row.name AsWritten CommandLine ((y ∷ zs) ∷ []) (settled_rows s.rules pending rows), None, false, refl, refl, refl),
        )

-- a word with a dash that is no row's name
pub with_value_follows : (s : Shape) (rules : List Row) (rows : List clap.Row) (pending : Option (Text × List Text)) (busy : Bool) (ys : Text)
    → AllFit s.rules rules
    → settle_passes s.rules s.args_override_self (held_at rows pending) ≡ true → row_named rules (45 ∷ ys) ≡ None
    → IfSome (with_value rules (45 ∷ ys)) (Follows s (settled_rows s.rules pending rows) (walk_at rows pending (waiting_at busy) false) (45 ∷ ys))
with_value_follows s rules rows pending busy ys fit ok none = go (is_dashed ys) refl
  where
    -- the row's name is not the word, since no row has that name
    other_name : (name : Text) (row : Row) → row_named rules name ≡ Some row → bytes_eq row.name name ≡ true → row.name ≡ 45 ∷ ys → ⊥
    other_name name row found same is =
        let word : name ≡ 45 ∷ ys = sym ((bytes_eq-Decides row.name name).0 same) ∙ is in
        let bad : false ≡ true = ap is_some (sym none ∙ ap (row_named rules) (sym word) ∙ found) in
        true≢false (sym bad)

    by_long : (zs : Text) → ys ≡ 45 ∷ zs → (o : Option Row) → row_named rules (before_first is_equals (45 ∷ ys)) ≡ o
        → IfSome o (λ row. Fits s.rules row × (bytes_eq row.name (before_first is_equals (45 ∷ ys)) ≡ true))
        → IfSome (option_and_then (attached (after_first is_equals (45 ∷ ys))) o) (Reaches s rows pending busy (45 ∷ ys))
    by_long zs is None found h = tt
    by_long zs is (Some row) found h =
        elim (is_flag row.form) as (λ (b : Bool). is_flag row.form ≡ b → IfSome (if b then None else Some (gives row (after_first is_equals (45 ∷ ys)) any)) (Reaches s rows pending busy (45 ∷ ys))) [
          | true ↦ λ form. tt
          | false ↦ λ form.
              let name : row.name ≡ before_first is_equals (45 ∷ ys) = (bytes_eq-Decides _ _).0 h.1 in
              let other = other_name (before_first is_equals (45 ∷ ys)) row found h.1 in
              subst (λ (t : Text). row.name ≡ before_first is_equals (45 ∷ t) → (row.name ≡ 45 ∷ t → ⊥)
              → Follows s (settled_rows s.rules pending rows) (walk_at rows pending (waiting_at busy) false) (45 ∷ t) (gives row (after_first is_equals (45 ∷ t)) any))
              (sym is) (long_with_value s rows pending busy zs row h.0 ok form) name other
        ] refl

    by_short : (o : Option Row) → is_dashed ys ≡ false → begins_with 61 (drop 2 (45 ∷ ys)) ≡ false → row_named rules (take 2 (45 ∷ ys)) ≡ o
        → IfSome o (λ row. Fits s.rules row × (bytes_eq row.name (take 2 (45 ∷ ys)) ≡ true))
        → IfSome (option_and_then (attached (drop 2 (45 ∷ ys))) o) (Reaches s rows pending busy (45 ∷ ys))
    by_short None bare lacks found h = tt
    by_short (Some row) bare lacks found h =
        elim (is_flag row.form) as (λ (b : Bool). is_flag row.form ≡ b → IfSome (if b then None else Some (gives row (drop 2 (45 ∷ ys)) any)) (Reaches s rows pending busy (45 ∷ ys))) [
          | true ↦ λ form. tt
          | false ↦ λ form. short_with_value s rows pending busy ys row h.0 ok form bare ((bytes_eq-Decides _ _).0 h.1) (other_name (take 2 (45 ∷ ys)) row found h.1) lacks
        ] refl

    second : (zs : Text) → is_dashed zs ≡ true → zs ≡ 45 ∷ drop 1 zs
    second [] e = absurd (true≢false (sym e))
    second (z ∷ zs) e = ap (λ (k : ℕ). k ∷ zs) (eqb-true z 45 e)

    unless_equals : (b : Bool) → begins_with 61 (drop 2 (45 ∷ ys)) ≡ b → is_dashed ys ≡ false
        → IfSome (if b then None else option_and_then (attached (drop 2 (45 ∷ ys))) (row_named rules (take 2 (45 ∷ ys)))) (Reaches s rows pending busy (45 ∷ ys))
    unless_equals true lacks bare = tt
    unless_equals false lacks bare = by_short (row_named rules (take 2 (45 ∷ ys))) bare lacks refl (find_fits s.rules rules _ fit)

    go : (b : Bool) → is_dashed ys ≡ b
        → IfSome (if b then long_value_of rules (45 ∷ ys) else short_value_of rules (45 ∷ ys)) (Reaches s rows pending busy (45 ∷ ys))
    go true e = by_long (drop 1 ys) (second ys e) (row_named rules (before_first is_equals (45 ∷ ys))) refl (find_fits s.rules rules _ fit)
    go false e = unless_equals (begins_with 61 (drop 2 (45 ∷ ys))) refl e
