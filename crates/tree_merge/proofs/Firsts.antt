-- The first path of entries, and the paths behind it.
use Rattle.std.proofs.Common.{◌≡◌, ℕ, Bool, true, false, cond, not, ◌||◌, List, [], ◌∷◌, ◌++◌, Some, None, refl, ap, ◌∙◌}
use Rattle.std.specs.Prelude.{filter}
use Rattle.std.specs.List.{AllByRecursion, list_any}
use Rattle.std.specs.Str.{bytes_eq}
use Rattle.seq_base.specs.PathMaps.{IsAscending, entry_at, is_less}
use Rattle.tree_merge.specs.Plans.{Entries, paths_of, with_path}
use Rattle.tree_merge.specs.Walks.{after, head_entry, head_path}
use Rattle.tree_merge.proofs.Order.{otherwise_less, not_both_less, less_apart, same_swap, same_is, same_self, less_or_same}

-- no entry comes before the path
abbrev pub NoneBefore : List ℕ → Entries → Type 0
NoneBefore p = AllByRecursion (λ e. is_less e.0 p ≡ false)

-- each entry comes behind the path
abbrev pub Behind : List ℕ → Entries → Type 0
Behind p = AllByRecursion (λ e. is_less p e.0 ≡ true)

abbrev pub has : List ℕ → Entries → Bool
has p = list_any (λ e. bytes_eq e.0 p)

abbrev pub without : List ℕ → Entries → Entries
without p = filter (λ e. not (bytes_eq e.0 p))

without_none : (p : List ℕ) (es : Entries) → has p es ≡ false → without p es ≡ es
without_none p [] h = refl
without_none p (e ∷ es) h = at (without_none p es) (bytes_eq e.0 p) refl h
  where
    at : (has p es ≡ false → without p es ≡ es) → (t : Bool) → bytes_eq e.0 p ≡ t → (t || has p es) ≡ false
        → cond (not t) (e ∷ without p es) (without p es) ≡ e ∷ es
    at rest true is h = absurd cc
    at rest false is h = ap (λ (r : Entries). e ∷ r) (rest h)

none_equal : (p : List ℕ) (es : Entries) → Behind p es → has p es ≡ false
none_equal p [] h = refl
none_equal p (e ∷ es) h = rw (same_swap e.0 p, less_apart p e.0 h.0) (none_equal p es h.1)

behind_of : (p : List ℕ) (es : Entries) → NoneBefore p es → has p es ≡ false → Behind p es
behind_of p [] h n = tt
behind_of p (e ∷ es) h n = at (behind_of p es h.1) (bytes_eq e.0 p) refl n
  where
    at : (has p es ≡ false → Behind p es) → (t : Bool) → bytes_eq e.0 p ≡ t → (t || has p es) ≡ false → Behind p (e ∷ es)
    at rest true is n = absurd cc
    at rest false is n = (otherwise_less p e.0 (same_swap p e.0 ∙ is) h.0, rest n)

module _ (P : List ℕ → Type 0) where
  all_with : (ps : List (List ℕ)) (p : List ℕ) → AllByRecursion P ps → P p → AllByRecursion P (with_path ps p)
  all_with [] p h here = (here, tt)
  all_with (q ∷ ps) p h here = at (all_with ps p h.1 here) (bytes_eq q p) (is_less p q)
    where
      at : AllByRecursion P (with_path ps p) → (t u : Bool) → AllByRecursion P (cond t (q ∷ ps) (cond u (p ∷ q ∷ ps) (q ∷ with_path ps p)))
      at rest true u = h
      at rest false true = (here, h)
      at rest false false = (h.0, rest)

  pub all_paths : (es : Entries) → AllByRecursion (λ e. P e.0) es → AllByRecursion P (paths_of es)
  all_paths [] h = tt
  all_paths (e ∷ es) h = all_with (paths_of es) e.0 (all_paths es h.1) h.0

first_with : (p : List ℕ) (ps : List (List ℕ)) → AllByRecursion (λ q. is_less p q ≡ true) ps → with_path ps p ≡ p ∷ ps
first_with p [] h = refl
first_with p (q ∷ ps) h = rw (same_swap q p, less_apart p q h.0, h.0) refl

-- the least path stands first, and the others follow as they would without it
pub first_of : (p : List ℕ) (es : Entries) → NoneBefore p es → has p es ≡ true → paths_of es ≡ p ∷ paths_of (without p es)
first_of p [] h there = absurd cc
first_of p (e ∷ es) h there = at (first_of p es h.1) (bytes_eq e.0 p) refl there
  where
    put : (has p es ≡ true → paths_of es ≡ p ∷ paths_of (without p es)) → (u : Bool) → has p es ≡ u
        → with_path (paths_of es) p ≡ p ∷ paths_of (without p es)
    put later true k = rw (later k, same_self p) refl
    put later false k = rw (without_none p es k) (first_with p (paths_of es) (all_paths (λ q. is_less p q ≡ true) es (behind_of p es h.1 k)))

    at : (has p es ≡ true → paths_of es ≡ p ∷ paths_of (without p es)) → (t : Bool) → bytes_eq e.0 p ≡ t → (t || has p es) ≡ true
        → with_path (paths_of es) e.0 ≡ p ∷ paths_of (cond (not t) (e ∷ without p es) (without p es))
    at later true is there = rw (same_is e.0 p is) (put later (has p es) refl)
    at later false is there = rw (later there, same_swap p e.0, is, h.0) refl

pub filter_append : {X : Type 0} (test : X → Bool) (xs ys : List X) → filter test (xs ++ ys) ≡ filter test xs ++ filter test ys
filter_append test [] ys = refl
filter_append {X = X} test (x ∷ xs) ys = at (filter_append test xs ys) (test x)
  where
    at : filter test (xs ++ ys) ≡ filter test xs ++ filter test ys → (t : Bool)
        → cond t (x ∷ filter test (xs ++ ys)) (filter test (xs ++ ys)) ≡ cond t (x ∷ filter test xs) (filter test xs) ++ filter test ys
    at rest true = ap (λ (r : List X). x ∷ r) rest
    at rest false = rest

-- what is before one path is before a later one
behind_all : (p a : List ℕ) (es : Entries) → is_less a p ≡ false → AllByRecursion (λ d. is_less a d.0 ≡ true) es → Behind p es
behind_all p a [] l h = tt
behind_all p a (d ∷ es) l h = (less_or_same p a d.0 l h.0, behind_all p a es l h.1)

none_before_of : (p : List ℕ) (es : Entries) → Behind p es → NoneBefore p es
none_before_of p [] h = tt
none_before_of p (e ∷ es) h = (not_both_less p e.0 h.0, none_before_of p es h.1)

-- a map in order whose first path is not before this one
pub record Head (p : List ℕ) (es : Entries) : Type 0 where
  pub none_before : NoneBefore p es
  pub gone : without p es ≡ after es p
  pub behind : Behind p (after es p)
  pub entry : entry_at es p ≡ head_entry es p

entry_none : (p : List ℕ) (es : Entries) → Behind p es → entry_at es p ≡ None
entry_none p [] h = refl
entry_none p (e ∷ es) h = rw (same_swap e.0 p, less_apart p e.0 h.0) (entry_none p es h.1)

pub head_of : (p : List ℕ) (es : Entries) → IsAscending es → ((q : List ℕ) → head_path es ≡ Some q → is_less q p ≡ false) → Head p es
head_of p [] h l = record { none_before = tt; gone = refl; behind = tt; entry = refl }
head_of p (e ∷ es) h l = at (bytes_eq e.0 p) refl
  where
    rest : Behind p es
    rest = behind_all p e.0 es (l e.0 refl) h.0

    gone_rest : without p es ≡ es
    gone_rest = without_none p es (none_equal p es rest)

    at : (t : Bool) → bytes_eq e.0 p ≡ t → Head p (e ∷ es)
    at true is = record {
      none_before = (l e.0 refl, none_before_of p es rest);
      gone = rw is gone_rest;
      behind = rw is rest;
      entry = rw is refl;
    }
    at false is = record {
      none_before = (l e.0 refl, none_before_of p es rest);
      gone = rw is (ap (λ (r : Entries). e ∷ r) gone_rest);
      behind = rw is (otherwise_less p e.0 (same_swap p e.0 ∙ is) (l e.0 refl), rest);
      entry = rw is (entry_none p es rest);
    }
