-- What is found of a name, where a parse holds what was given.
use Rattle.std.proofs.Common.{arith, length, suc, ◌≡◌, ◌∙◌, ◌+◌, ◌||◌, ℕ, Bool, cond, true, false, refl, sym, ap, List, [], ◌∷◌, ◌++◌, map, Option, Some, None, is_some, true≢false, option_map}
use Rattle.std.specs.Str.{bytes_eq}
use Rattle.std.specs.List.{filter, find}
use Rattle.std.specs.Prelude.{count_by, nat_lt, option_and_then, slice_get, unwrap_or}
use Rattle.std.proofs.lemmas.List.Sums.{sum_by-cons}
use Rattle.std.proofs.lemmas.List.{append_assoc, append-nil}
use Rattle.std.proofs.lemmas.Slice.Eq.{bytes_eq-Decides}
use Rattle.seq_model.specs.Commands.{value_given, values_given}
use Rattle.seq_model.specs.Given.{Given, is_given, is_row}
use Rattle.clap.specs.Walk.{Row, Text, all_of}
use Rattle.std.specs.Borrow.{Bor}
use Rattle.clap.specs.Matches.{first_value, found_of, matched_of, raw_values}
use Rattle.clap.specs.declared.parser.matches.ArgMatches.{ArgMatches}
use Rattle.clap.specs.declared.parser.matches.MatchedArg.{MatchedArg}
use Rattle.clap.proofs.WalkLemmas.{raw_values-rows}
use Rattle.seq_words.specs.Told.{Holds, all_kept, kept}

abbrev values_at : Text → List Row → List Text
values_at name rows = unwrap_or (all_of name rows) []

-- one use more
abbrev after_use : Bool → Text → List Row → Given → Option (List Text)
after_use b name rows g = cond b (Some (values_at name rows ++ g.value ∷ [])) (all_of name rows)

decide : (a b : Text) → bytes_eq a b ≡ true → a ≡ b
decide a b = (bytes_eq-Decides a b).0

kept_at : (name : Text) (g : Given) (rows : List Row) → all_of name (kept rows g) ≡ after_use (bytes_eq g.row.name name) name rows g
kept_at name g [] = go (bytes_eq g.row.name name) refl
  where
    go : (b : Bool) → bytes_eq g.row.name name ≡ b → all_of name (kept [] g) ≡ after_use (bytes_eq g.row.name name) name [] g
    go true e = rw e refl
    go false e = rw e refl
kept_at name g (r ∷ rs) = go (bytes_eq r.id g.row.name) (bytes_eq r.id name) (bytes_eq g.row.name name) refl refl refl (kept_at name g rs)
  where
    go : (here mine asked : Bool) → bytes_eq r.id g.row.name ≡ here → bytes_eq r.id name ≡ mine → bytes_eq g.row.name name ≡ asked
        → all_of name (kept rs g) ≡ after_use (bytes_eq g.row.name name) name rs g
        → all_of name (kept (r ∷ rs) g) ≡ after_use (bytes_eq g.row.name name) name (r ∷ rs) g
    go true true true a b c later = rw (a, b, c) refl
    go true false false a b c later = rw (a, b, c) refl
    go true true false a b c later =
        let bad : bytes_eq g.row.name name ≡ true = ap (λ (t : Text). bytes_eq t name) (sym (decide r.id g.row.name a)) ∙ b in
        absurd (true≢false (sym bad ∙ c))
    go true false true a b c later =
        let bad : bytes_eq r.id name ≡ true = ap (λ (t : Text). bytes_eq t name) (decide r.id g.row.name a) ∙ c in
        absurd (true≢false (sym bad ∙ b))
    go false true true a b c later =
        let bad : bytes_eq r.id g.row.name ≡ true = (bytes_eq-Decides r.id g.row.name).1 (decide r.id name b ∙ sym (decide g.row.name name c)) in
        absurd (true≢false (sym bad ∙ a))
    go false true false a b c later = rw (a, b, c) refl
    go false false asked a b c later = rw (a, b) later

-- the same, of all uses
pub values_kept : (name : Text) (all : List Given) (rows : List Row)
    → values_at name (all_kept rows all) ≡ values_at name rows ++ values_given all name
values_kept name [] rows = sym (append-nil (values_at name rows))
values_kept name (g ∷ all) rows =
    values_kept name all (kept rows g)
    ∙ ap (λ (o : Option (List Text)). unwrap_or o [] ++ values_given all name) (kept_at name g rows)
    ∙ go (bytes_eq g.row.name name)
  where
    go : (b : Bool)
        → unwrap_or (after_use b name rows g) [] ++ values_given all name ≡ values_at name rows ++ map (λ (x : Given). x.value) (cond b (g ∷ filter (is_row name) all) (filter (is_row name) all))
    go true = append_assoc (values_at name rows) (g.value ∷ []) (values_given all name)
    go false = refl

pub given_kept : (name : Text) (all : List Given) (rows : List Row)
    → is_some (all_of name (all_kept rows all)) ≡ (is_some (all_of name rows) || is_given all name)
given_kept name [] rows = go (is_some (all_of name rows))
  where
    go : (b : Bool) → b ≡ (b || false)
    go true = refl
    go false = refl
given_kept name (g ∷ all) rows =
    given_kept name all (kept rows g)
    ∙ ap (λ (o : Option (List Text)). is_some o || is_given all name) (kept_at name g rows)
    ∙ go (bytes_eq g.row.name name) (is_some (all_of name rows)) refl
  where
    go : (b before : Bool) → is_some (all_of name rows) ≡ before
        → (is_some (after_use b name rows g) || is_given all name) ≡ (is_some (all_of name rows) || (b || is_given all name))
    go true true e = rw e refl
    go true false e = rw e refl
    go false before e = refl

-- ---- of a parse

pub holds_given : (m : ArgMatches) (all : List Given) (name : Text) → Holds m all → is_some (matched_of (found_of m) name) ≡ is_given all name
holds_given m all name h =
    some (matched_of (found_of m) name) ∙ ap is_some (raw_values-rows (found_of m) name) ∙ ap (λ (rows : List Row). is_some (all_of name rows)) h ∙ given_kept name all []
  where
    some : (o : Option MatchedArg) → is_some o ≡ is_some (option_map raw_values o)
    some None = refl
    some (Some x) = refl

pub holds_values : (m : ArgMatches) (all : List Given) (name : Text) → Holds m all
    → unwrap_or (option_map raw_values (matched_of (found_of m) name)) [] ≡ values_given all name
holds_values m all name h =
    ap (λ (o : Option (List Text)). unwrap_or o []) (raw_values-rows (found_of m) name) ∙ ap (values_at name) h ∙ values_kept name all []

pub holds_value : (m : ArgMatches) (all : List Given) (name : Text) → Holds m all → first_value (found_of m) name ≡ value_given all name
holds_value m all name h = at (matched_of (found_of m) name) ∙ ap (λ (vs : List Text). slice_get vs 0) (holds_values m all name h) ∙ first all
  where
    of : (vs : List (Bor Text)) → option_map (λ s. s.now) (slice_get vs 0) ≡ slice_get (map (λ s. s.now) vs) 0
    of [] = refl
    of (v ∷ vs) = refl

    at : (o : Option MatchedArg)
        → option_and_then (λ a. option_map (λ s. s.now) (slice_get a.vals.items 0)) o ≡ slice_get (unwrap_or (option_map raw_values o) []) 0
    at None = refl
    at (Some x) = of x.vals.items

    first : (gs : List Given) → slice_get (values_given gs name) 0 ≡ value_given gs name
    first [] = refl
    first (g ∷ gs) = go (is_row name g) (first gs)
      where
        go : (b : Bool) → slice_get (values_given gs name) 0 ≡ value_given gs name
            → slice_get (map (λ (x : Given). x.value) (cond b (g ∷ filter (is_row name) gs) (filter (is_row name) gs))) 0 ≡ option_map (λ (x : Given). x.value) (cond b (Some g) (find (is_row name) gs))
        go true later = refl
        go false later = later

-- as many stand as have a value
counted_is : (name : Text) (all : List Given) → count_by (is_row name) all ≡ length (values_given all name)
counted_is name [] = refl
counted_is name (g ∷ all) =
    sum_by-cons (λ x. cond (is_row name x) 1 0) g all ∙ ap (λ (n : ℕ). cond (bytes_eq g.row.name name) 1 0 + n) (counted_is name all)
    ∙ go (bytes_eq g.row.name name)
  where
    go : (b : Bool)
        → cond b 1 0 + length (values_given all name) ≡ length (map (λ (x : Given). x.value) (cond b (g ∷ filter (is_row name) all) (filter (is_row name) all)))
    go true = let one : 1 + length (values_given all name) ≡ suc (length (values_given all name)) = omega arith in one
    go false = let none : 0 + length (values_given all name) ≡ length (values_given all name) = omega arith in none

length_now : (xs : List (Bor Text)) → length (map (λ x. x.now) xs) ≡ length xs
length_now [] = refl
length_now (x ∷ xs) = ap suc (length_now xs)

abbrev texts_of : Option (Bor (List (Bor Text))) → List Text
texts_of o = unwrap_or (option_map (λ texts. map (λ text. text.now) texts.now) o) []

pub counted_some : (name : Text) (all : List Given) (o : Option (Bor (List (Bor Text)))) (texts : Bor (List (Bor Text))) → o ≡ Some texts
    → texts_of o ≡ values_given all name → nat_lt (length texts.now) 2 ≡ nat_lt (count_by (is_row name) all) 2
counted_some name all o texts is values =
    ap (λ (n : ℕ). nat_lt n 2) (sym (length_now texts.now) ∙ ap length (sym (ap texts_of is) ∙ values) ∙ sym (counted_is name all))

pub counted_none : (name : Text) (all : List Given) (o : Option (Bor (List (Bor Text)))) → o ≡ None
    → texts_of o ≡ values_given all name → true ≡ nat_lt (count_by (is_row name) all) 2
counted_none name all o is values = ap (λ (n : ℕ). nat_lt n 2) (ap length (sym (ap texts_of is) ∙ values) ∙ sym (counted_is name all))

pub ruleset held_words = (holds_given, holds_values, holds_value)
