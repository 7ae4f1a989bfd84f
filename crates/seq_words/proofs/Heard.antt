-- The command of a verb takes plain words, and holds what they give.
use Rattle.std.proofs.Common.{◌≡◌, ◌∙◌, ◌&&◌, Bool, cond, true, false, refl, sym, ap, ap₂, List, [], ◌∷◌, ◌++◌, drop, take, Option, Some, None, is_some, true≢false, codes}
use Rattle.std.specs.List.{after_first, before_first, find, fold, list_all}
use Rattle.std.specs.Str.{bytes_eq}
use Rattle.std.specs.Prelude.{⊤, IfSome, IsSomeAnd, Result, Ok, Err, if◌then◌else◌, option_and_then, option_map}
use Rattle.std.proofs.lemmas.List.Folds.{list_all-append}
use Rattle.clap.proofs.SimpleLemmas.{is_nil}
use Rattle.clap.proofs.WalkLemmas.{both}
use Rattle.clap.specs.Simple.{App, HasMatchesOf, built, entered, is_simple, matches_of, names_of}
use Rattle.clap.specs.Takes.{built_takes, default_passes, entered_passes, is_valid, level_passes, takes}
use Rattle.clap.specs.Walk as clap
use Rattle.clap.specs.Walk.{Names, Rule, Text, finished, has_row, is_empty, nothing_held, rows_after, settled, walk, with_default, idle}
use Rattle.clap.specs.declared.parser.matches.ArgMatches.{ArgMatches}
use Rattle.seq_model.specs.Faults.{fault_of, judged}
use Rattle.seq_model.specs.Given.{Expected, Given, Step, any, any_word, argument, argument_row, as_argument, attached, awaits, begins_with, dashed, given_behind, gives, has_ended, if_single, is_dashed, is_equals, is_long, is_single, long_value, named, row_named, step, value_of, with_value}
use Rattle.seq_model.specs.Rows.{Row, is_flag}
use Rattle.seq_model.specs.declared.usage.UsageFault.{UsageFault}
use Rattle.seq_words.specs.Forms.{HoldsOf, forms_fit}
use Rattle.seq_words.specs.Told.{Holds, all_kept}
use Rattle.seq_words.specs.VerbWords.{rows_for}
use Rattle.seq_words.specs.Verbs.{told_app, told_rules}
use Rattle.seq_words.specs.declared.verb.VerbWord.{VerbWord}
use Rattle.seq_words.proofs.Taken.{Takes, words_taken}
use Rattle.seq_words.proofs.Verbs.{Known, known}
use Rattle.seq_words.proofs.Walks.{walk_at}

-- no argument has a default
no_default : (rows : List clap.Row) (a : Rule) → is_empty a.defaults ≡ true → with_default rows a ≡ rows
no_default rows a e = go (has_row a.id rows) refl
  where
    go : (b : Bool) → has_row a.id rows ≡ b → with_default rows a ≡ rows
    go true h = rw h refl
    go false h = rw (h, is_nil a.defaults e) refl

no_defaults : (c : List Rule) (rows : List clap.Row) → list_all (λ a. is_empty a.defaults) c ≡ true → fold with_default rows c ≡ rows
no_defaults [] rows e = refl
no_defaults (a ∷ c) rows e =
    let b = both (is_empty a.defaults) (list_all (λ x. is_empty x.defaults) c) e in
    ap (λ (r : List clap.Row). fold with_default r c) (no_default rows a b.0) ∙ no_defaults c rows b.1

and_true : {a b : Bool} → a ≡ true → b ≡ true → (a && b) ≡ true
and_true d e = ap₂ (λ (x y : Bool). x && y) d e

-- a built command takes the words, where the walk over them has come to its end
module _ (b : App) (words : List Text) (all : List Given) (t : Takes b.top (walk_at [] None idle false) words all) where
  rows_held : list_all (λ a. is_empty a.defaults) b.top.rules ≡ true → rows_after b.top.rules [] words ≡ all_kept [] all
  rows_held leaves = no_defaults b.top.rules (settled b.top.rules (walk b.top.rules [] nothing_held words).held).rows leaves ∙ t.0.rows

  level_taken : list_all default_passes b.top.rules ≡ true → ((found : List clap.Row) → is_valid b.top found false ≡ true)
      → level_passes b.top [] nothing_held words false ≡ true
  level_taken defaults valid =
      and_true t.1 (and_true t.0.settles (and_true defaults (valid (finished b.top.rules (walk b.top.rules [] nothing_held words).held))))

  built_taken : names_of b ≡ [] → list_all default_passes b.top.rules ≡ true → ((found : List clap.Row) → is_valid b.top found false ≡ true)
      → built_takes b nothing_held words ≡ true
  built_taken names defaults valid =
      ap (λ (ns : Names). entered_passes b (walk b.top.rules ns nothing_held words).stopped
      && level_passes b.top ns nothing_held words (is_some (entered b (walk b.top.rules ns nothing_held words).stopped))) names
      ∙ ap (λ (stop : Option (Text × List Text)). entered_passes b stop && level_passes b.top [] nothing_held words (is_some (entered b stop))) t.0.stopped
      ∙ level_taken defaults valid

-- the command of known rows
module _ (rows : List Row) (k : Known rows) (words : List Text) where
  abbrev Told : List Given → Type 0
  Told all = (matches_of (told_app rows) words ≡ all_kept [] all) × (takes (told_app rows) words ≡ true)

  told_of : (all : List Given) → Takes (built (told_app rows)).top (walk_at [] None idle false) words all → Told all
  told_of all t = (
    ap₂ (λ (ns : Names) (ws : List Text). rows_after (told_rules rows) ns ws) k.names (k.words words) ∙ rows_held (built (told_app rows)) words all t k.leaves,
    and_true k.simple (ap (λ (ws : List Text). built_takes (built (told_app rows)) nothing_held ws) (k.words words)
        ∙ built_taken (built (told_app rows)) words all t k.names k.defaults k.valid),
  )

  told_holds : IfSome (given_behind rows [] any words) Told
  told_holds =
      go (given_behind rows [] any words) (words_taken (built (told_app rows)).top rows words any [] (walk_at [] None idle false) k.fit ([], None, false, refl, refl, refl))
    where
      go : (o : Option (List Given)) → IfSome o (Takes (built (told_app rows)).top (walk_at [] None idle false) words) → IfSome o Told
      go None t = tt
      go (Some all) t = told_of all t

-- ---- what is given is of the rows

module _ (q : Row → Bool) where
  abbrev Awaits : Expected → Type 0
  Awaits any = ⊤
  Awaits (value_of row) = q row ≡ true
  Awaits argument = ⊤

  abbrev AllAre : List Given → Type 0
  AllAre all = list_all (λ g. q g.row) all ≡ true

  abbrev Gives : Step → Type 0
  Gives st = AllAre st.gives × Awaits st.next

  find_all : (p : Row → Bool) (rows : List Row) → list_all q rows ≡ true → IfSome (find p rows) (λ row. q row ≡ true)
  find_all p [] e = tt
  find_all p (row ∷ rows) e = let b = both (q row) (list_all q rows) e in go (p row) b.0 (find_all p rows b.1)
    where
      go : (b : Bool) → q row ≡ true → IfSome (find p rows) (λ x. q x ≡ true) → IfSome (cond b (Some row) (find p rows)) (λ x. q x ≡ true)
      go true here later = here
      go false here later = later

  attached_gives : (value : Text) (o : Option Row) → IfSome o (λ row. q row ≡ true) → IfSome (option_and_then (attached value) o) Gives
  attached_gives value None h = tt
  attached_gives value (Some row) h = go (is_flag row.form)
    where
      go : (b : Bool) → IfSome (if b then None else Some (gives row value any)) Gives
      go true = tt
      go false = (and_true h refl, tt)

  argument_gives : (word : Text) (next : Expected) → Awaits next → (o : Option Row) → IfSome o (λ row. q row ≡ true)
      → IfSome (option_map (λ row. gives row word next) o) Gives
  argument_gives word next n None h = tt
  argument_gives word next n (Some row) h = (and_true h refl, n)

  named_gives : (word : Text) (row : Row) → q row ≡ true → Gives (named word row)
  named_gives word row h = go (is_flag row.form)
    where
      go : (b : Bool) → Gives (if b then gives row [] any else awaits (value_of row))
      go true = (and_true h refl, tt)
      go false = (refl, h)

  module _ (rows : List Row) (e : list_all q rows ≡ true) where
    with_value_gives : (word : Text) → IfSome (with_value rows word) Gives
    with_value_gives word = go (is_long word) (begins_with 61 (drop 2 word))
      where
        go : (long equals : Bool) → IfSome (if long then long_value rows word
            else (if equals then None else option_and_then (attached (drop 2 word)) (row_named rows (take 2 word)))) Gives
        go true equals = attached_gives (after_first is_equals word) (row_named rows (before_first is_equals word)) (find_all _ rows e)
        go false true = tt
        go false false = attached_gives (drop 2 word) (row_named rows (take 2 word)) (find_all _ rows e)

    dashed_gives : (word : Text) (o : Option Row) → IfSome o (λ row. q row ≡ true) → IfSome (dashed o rows word) Gives
    dashed_gives word None h = with_value_gives word
    dashed_gives word (Some row) h = named_gives word row h

    any_gives : (word : Text) → IfSome (any_word rows word) Gives
    any_gives word = go (bytes_eq word (codes "--")) (is_dashed word)
      where
        go : (two one : Bool)
            → IfSome (if two then Some (awaits argument) else (if one then dashed (row_named rows word) rows word else as_argument rows word any)) Gives
        go true one = (refl, tt)
        go false true = dashed_gives word (row_named rows word) (find_all _ rows e)
        go false false = argument_gives word any tt (argument_row rows) (find_all _ rows e)

    step_gives : (expected : Expected) (word : Text) → Awaits expected → IfSome (step rows expected word) Gives
    step_gives any word h = any_gives word
    step_gives (value_of row) word h = go (is_dashed word)
      where
        go : (b : Bool) → IfSome (if b then None else Some (gives row word any)) Gives
        go true = tt
        go false = (and_true h refl, tt)
    step_gives argument word h = argument_gives word argument tt (argument_row rows) (find_all _ rows e)

    given_are : (words : List Text) (expected : Expected) (before : List Given) → Awaits expected → AllAre before
        → IfSome (given_behind rows before expected words) AllAre
    given_are [] expected before a h = go (has_ended expected)
      where
        go : (b : Bool) → IfSome (if b then Some before else None) AllAre
        go true = h
        go false = tt
    given_are (word ∷ words) expected before a h =
        go (step rows expected word) (step_gives expected word a) (λ next more n m. given_are words next more n m)
      where
        go : (o : Option Step) → IfSome o Gives
            → ((next : Expected) (more : List Given) → Awaits next → AllAre more → IfSome (given_behind rows more next words) AllAre)
            → IfSome (option_and_then (λ st. given_behind rows (before ++ st.gives) st.next words) o) AllAre
        go None s later = tt
        go (Some st) s later = later st.next (before ++ st.gives) s.1 (list_all-append (λ g. q g.row) before st.gives ∙ and_true h s.0)

-- ---- of a parse

pub held_by : (verb : VerbWord) (words : List Text) (app : App) (m : ArgMatches) → app ≡ told_app (rows_for verb) → HasMatchesOf app words m
    → is_some (given_behind (rows_for verb) [] any words) ≡ true → IsSomeAnd (given_behind (rows_for verb) [] any words) (HoldsOf (rows_for verb) m)
held_by verb words app m is has plain =
    go (given_behind (rows_for verb) [] any words) (told_holds (rows_for verb) k words) (given_are (forms_fit (rows_for verb)) (rows_for verb) k.forms words any [] tt refl) plain
  where
    k : Known (rows_for verb)
    k = known verb

    go : (o : Option (List Given)) → IfSome o (Told (rows_for verb) k words) → IfSome o (AllAre (forms_fit (rows_for verb))) → is_some o ≡ true
        → IsSomeAnd o (HoldsOf (rows_for verb) m)
    go None t f p = absurd (true≢false (sym p))
    go (Some all) t f p = ((has (ap is_simple is ∙ k.simple)).0 ∙ ap (λ (a : App). matches_of a words) is ∙ t.0, f)

pub plain_taken : (verb : VerbWord) (words : List Text) (app : App) → app ≡ told_app (rows_for verb)
    → is_some (given_behind (rows_for verb) [] any words) ≡ true → takes app words ≡ true
plain_taken verb words app is plain =
    ap (λ (a : App). takes a words) is ∙ go (given_behind (rows_for verb) [] any words) (told_holds (rows_for verb) (known verb) words) plain
  where
    go : (o : Option (List Given)) → IfSome o (Told (rows_for verb) (known verb) words) → is_some o ≡ true
        → takes (told_app (rows_for verb)) words ≡ true
    go None t p = absurd (true≢false (sym p))
    go (Some all) t p = t.1

-- nothing stands twice, and nothing else is wrong
pub nothing_wrong : (rows : List Row) (m : ArgMatches) (single : Bool) (given : Option (List Given))
    → ((all : List Given) → Holds m all → single ≡ is_single rows all)
    → IsSomeAnd given (HoldsOf rows m) → single ≡ true → ((all : List Given) → HoldsOf rows m all → None ≡ fault_of rows all)
    → (all : List Given) × (judged rows (option_and_then (if_single rows) given) ≡ Ok all) × Holds m all
nothing_wrong rows m single None is h e of = absurd h
nothing_wrong rows m single (Some all) is h e of = (
  all,
  ap (λ (b : Bool). judged rows (if b then Some all else None)) (sym (is all h.0) ∙ e)
      ∙ ap (λ (o : Option UsageFault). elim o as (λ (x : Option UsageFault). Result (List Given) UsageFault) [ None ↦ Ok all | Some fault ↦ Err fault ]) (sym (of all h)),
  h.0,
)
