-- Whether words are plain hangs on no word before them, but on what is expected.
use Rattle.std.proofs.Common.{◌≡◌, ◌∙◌, ◌++◌, ◌<◌, ◌≤◌, ◌-◌, Bool, true, false, refl, sym, ap, arith, ℕ, List, [], ◌∷◌, length, map, take, take_all, drop, Option, Some, None, is_some}
use Rattle.std.specs.Borrow.{Bor}
use Rattle.std.specs.Prelude.{slice_index_or, option_and_then, if◌then◌else◌}
use Rattle.seq_model.specs.Given.{Expected, Given, Step, any, attached, awaits, given_behind, gives, named, value_of, has_ended, step}
use Rattle.seq_model.specs.Rows.{Row, is_flag}
use Rattle.seq_words.specs.Next.{attached_next, named_next, next_of}

abbrev some_if : List Given → Bool → Bool
some_if all b = is_some (if b then Some all else None)

-- the words that follow are plain, where this is expected
abbrev plain_from : List Row → List (List ℕ) → Option Expected → Bool
plain_from rows words None = false
plain_from rows words (Some expected) = is_some (given_behind rows [] expected words)

plain_behind : (rows : List Row) (before : List Given) (expected : Expected) (words : List (List ℕ))
    → is_some (given_behind rows before expected words) ≡ is_some (given_behind rows [] expected words)
plain_behind rows before expected [] = go (has_ended expected)
  where
    go : (b : Bool) → some_if before b ≡ some_if [] b
    go true = refl
    go false = refl
plain_behind rows before expected (word ∷ words) = go (step rows expected word) (λ b e. plain_behind rows b e words)
  where
    go : (o : Option Step) → ((b : List Given) (e : Expected) → is_some (given_behind rows b e words) ≡ is_some (given_behind rows [] e words))
        → is_some (option_and_then (λ s. given_behind rows (before ++ s.gives) s.next words) o) ≡ is_some (option_and_then (λ s. given_behind rows ([] ++ s.gives) s.next words) o)
    go None later = refl
    go (Some s) later = later (before ++ s.gives) s.next ∙ sym (later s.gives s.next)

plain_more : (rows : List Row) (expected : Expected) (word : List ℕ) (words : List (List ℕ))
    → is_some (given_behind rows [] expected (word ∷ words)) ≡ plain_from rows words (next_of (step rows expected word))
plain_more rows expected word words = go (step rows expected word)
  where
    go : (o : Option Step) → is_some (option_and_then (λ s. given_behind rows ([] ++ s.gives) s.next words) o) ≡ plain_from rows words (next_of o)
    go None = refl
    go (Some s) = plain_behind rows s.gives s.next words

pub attached_is : (value : List ℕ) (o : Option Row) → next_of (option_and_then (attached value) o) ≡ attached_next o
attached_is value None = refl
attached_is value (Some row) = go (is_flag row.form)
  where
    go : (b : Bool) → next_of (if b then None else Some (gives row value any)) ≡ (if b then None else Some any)
    go true = refl
    go false = refl

pub named_is : (word : List ℕ) (row : Row) → (named word row).next ≡ named_next row
named_is word row = go (is_flag row.form)
  where
    go : (b : Bool) → (if b then gives row [] any else awaits (value_of row)).next ≡ (if b then any else value_of row)
    go true = refl
    go false = refl

-- the same, of the words that are left
pub plain_next : (rows : List Row) (expected next : Expected) (rest : List (Bor (List ℕ))) (d : Bor (List ℕ)) (word : List ℕ) → 0 < length rest
    → word ≡ (slice_index_or rest 0 d).now → Some next ≡ next_of (step rows expected word)
    → is_some (given_behind rows [] next (map (λ x. x.now) (take (length rest - 1) (drop 1 rest)))) ≡ is_some (given_behind rows [] expected (map (λ x. x.now) rest))
plain_next rows expected next [] d word some is e = absurd (omega (arith, some))
plain_next rows expected next (t ∷ ts) d word some is e =
    let enough : length ts ≤ length (t ∷ ts) - 1 = omega arith in
    ap (λ (xs : List (Bor (List ℕ))). is_some (given_behind rows [] next (map (λ x. x.now) xs))) (take_all (length (t ∷ ts) - 1) ts enough)
    ∙ ap (plain_from rows (map (λ x. x.now) ts)) (e ∙ ap (λ (w : List ℕ). next_of (step rows expected w)) is)
    ∙ sym (plain_more rows expected t.now (map (λ x. x.now) ts))
