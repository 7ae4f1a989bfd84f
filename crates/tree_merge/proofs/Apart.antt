-- After a merge without clash no path lies below another.
use Rattle.std.proofs.Common.{◌≡◌, ℕ, zero, suc, ◌<◌, Bool, true, false, cond, not, ◌||◌, ◌&&◌, List, [], ◌∷◌, ◌++◌, length, get_or, Option, Some, None, is_some, refl, sym, ap, subst, ◌∙◌, arith}
use Rattle.std.specs.Prelude.{filter, map}
use Rattle.std.specs.Option.{option_map}
use Rattle.std.specs.List.{AllByRecursion, cons_option, list_any, filter_map}
use Rattle.std.specs.Str.{bytes_eq}
use Rattle.seq_base.specs.declared.map.Entry.{Entry}
use Rattle.seq_base.specs.World.{is_below}
use Rattle.seq_base.specs.PathMaps.{AreApart, IsPathMap, clashes, entry_at, is_less, same_entry}
use Rattle.tree_merge.specs.declared.rules.Choice.{Choice}
use Rattle.tree_merge.specs.declared.rules.Choice.TheVariants.{Take, Content, Conflict}
use Rattle.tree_merge.specs.declared.plans.Planned.{Planned}
use Rattle.tree_merge.specs.Choosing.{choice}
use Rattle.tree_merge.specs.Plans.{Entries, is_listed, is_present, is_under, is_upper, listed, marked, paths_of, plan_of, row_at}
use Rattle.tree_merge.specs.Results.{HasNoClash, result_of, taken, taken_at}
use Rattle.tree_merge.proofs.Order.{less_apart, same_is, same_swap}
use Rattle.tree_merge.proofs.InOrder.{Ascends, ascends_paths}
use Rattle.tree_merge.proofs.Sameness.{entry_decides, choice_theirs}

or_swap : (a b : Bool) → (a || b) ≡ (b || a)
or_swap true true = refl
or_swap true false = refl
or_swap false true = refl
or_swap false false = refl

or_left : (a b : Bool) → (a || b) ≡ false → a ≡ false
or_left true b e = absurd cc
or_left false b e = refl

-- a path at which an entry is taken is there after the merge
taken_present : (c : Choice) → is_some (taken c) ≡ true → is_present c ≡ true
taken_present (Take e) h = h
taken_present (Content m k) h = absurd cc
taken_present (Conflict f) h = absurd cc

-- what is taken, one side has
taken_side : (b o t : Option Entry) → is_some (taken (choice b o t)) ≡ true → (is_some o || is_some t) ≡ true
taken_side b None None h = absurd cc
taken_side b None (Some t) h = refl
taken_side b (Some o) t h = refl

module _ {X : Type 0} where
  at_all : (P : X → Type 0) (xs : List X) → AllByRecursion P xs → (k : ℕ) (d : X) → k < length xs → P (get_or xs k d)
  at_all P [] h k d l = absurd (omega arith)
  at_all P (x ∷ xs) h zero d l = h.0
  at_all P (x ∷ xs) h (suc k) d l = at_all P xs h.1 k d (omega arith)

-- two paths of one map are apart
apart_first : (p : List ℕ) (es : Entries) (q : List ℕ) → AllByRecursion (λ d. clashes p d.0 ≡ false) es → is_some (entry_at es q) ≡ true
    → clashes p q ≡ false
apart_first p [] q h there = absurd cc
apart_first p (e ∷ es) q h there = at (apart_first p es q h.1) (bytes_eq e.0 q) refl there
  where
    at : (is_some (entry_at es q) ≡ true → clashes p q ≡ false) → (t : Bool) → bytes_eq e.0 q ≡ t → is_some (cond t (Some e.1) (entry_at es q)) ≡ true
        → clashes p q ≡ false
    at rest true is there = subst (λ (r : List ℕ). clashes p r ≡ false) (same_is e.0 q is) h.0
    at rest false is there = rest there

folder_self_none : (p q : List ℕ) → clashes p q ≡ false → clashes q p ≡ false
folder_self_none p q h = or_swap (is_below q p) (is_below p q) ∙ h

apart_pair : (es : Entries) (p q : List ℕ) → AreApart es → is_some (entry_at es p) ≡ true → is_some (entry_at es q) ≡ true → bytes_eq p q ≡ false
    → clashes p q ≡ false
apart_pair [] p q h there also ne = absurd cc
apart_pair (e ∷ es) p q h there also ne = at (apart_pair es p q h.1) (bytes_eq e.0 p) refl (bytes_eq e.0 q) refl there also
  where
    at : (is_some (entry_at es p) ≡ true → is_some (entry_at es q) ≡ true → bytes_eq p q ≡ false → clashes p q ≡ false) → (t : Bool)
        → bytes_eq e.0 p ≡ t → (u : Bool) → bytes_eq e.0 q ≡ u
        → is_some (cond t (Some e.1) (entry_at es p)) ≡ true → is_some (cond u (Some e.1) (entry_at es q)) ≡ true → clashes p q ≡ false
    at rest true is true also_is there also = absurd (let k = same_is e.0 p is in let m = subst (λ (r : List ℕ). bytes_eq r q ≡ true) k also_is in cc)
    at rest true is false also_is there also = subst (λ (r : List ℕ). clashes r q ≡ false) (same_is e.0 p is) (apart_first e.0 es q h.0 also)
    at rest false is true also_is there also =
        folder_self_none q p (subst (λ (r : List ℕ). clashes r p ≡ false) (same_is e.0 q also_is) (apart_first e.0 es p h.0 there))
    at rest false is false also_is there also = rest there also ne

module _ (R : List ℕ → Planned) where
  any_listed : (test : Planned → Bool) (ps : List (List ℕ)) (j : ℕ) (d : List ℕ) → j < length ps → is_listed (R (get_or ps j d)) ≡ true
      → test (R (get_or ps j d)) ≡ true → list_any test (filter is_listed (map R ps)) ≡ true
  any_listed test [] j d l is yes' = absurd (omega arith)
  any_listed test (p ∷ ps) zero d l is yes' = rw (is, yes') refl
  any_listed test (p ∷ ps) (suc j) d l is yes' = at (any_listed test ps j d (omega arith) is yes') (is_listed (R p)) (test (R p))
    where
      at : list_any test (filter is_listed (map R ps)) ≡ true → (t u : Bool)
          → list_any test (cond t (R p ∷ filter is_listed (map R ps)) (filter is_listed (map R ps))) ≡ true
      at rest true u = or_right (test (R p)) rest
        where
          or_right : (a : Bool) {b : Bool} → b ≡ true → (a || b) ≡ true
          or_right true e = refl
          or_right false e = e
      at rest false u = rest

  pub all_listed : (P : Planned → Type 0) (ps : List (List ℕ)) → AllByRecursion P (filter is_listed (map R ps)) → (j : ℕ) (d : List ℕ) → j < length ps
      → is_listed (R (get_or ps j d)) ≡ true → P (R (get_or ps j d))
  all_listed P [] h j d l is = absurd (omega arith)
  all_listed P (p ∷ ps) h zero d l is = at (is_listed (R p)) is h
    where
      at : (t : Bool) → t ≡ true → AllByRecursion P (cond t (R p ∷ filter is_listed (map R ps)) (filter is_listed (map R ps))) → P (R p)
      at true e h = h.0
      at false e h = absurd cc
  all_listed P (p ∷ ps) h (suc j) d l is = all_listed P ps (at (is_listed (R p)) h) j d (omega arith) is
    where
      at : (t : Bool) → AllByRecursion P (cond t (R p ∷ filter is_listed (map R ps)) (filter is_listed (map R ps)))
          → AllByRecursion P (filter is_listed (map R ps))
      at true h = h.1
      at false h = h

pub all_mapped : (P : Planned → Type 0) (f : Planned → Planned) (rows : List Planned) → AllByRecursion P (map f rows)
    → AllByRecursion (λ r. P (f r)) rows
all_mapped P f [] h = tt
all_mapped P f (r ∷ rows) h = (h.0, all_mapped P f rows h.1)

-- what both sides left as it was and is still there, both sides have
unlisted_both : (b o t : Option Entry) → not (same_entry b o && same_entry o t) ≡ false → is_some (taken (choice b o t)) ≡ true
    → (is_some o ≡ true) × (is_some t ≡ true)
unlisted_both b o t e h = at (same_entry b o) refl (same_entry o t) refl e
  where
    at : (x : Bool) → same_entry b o ≡ x → (y : Bool) → same_entry o t ≡ y → not (x && y) ≡ false → (is_some o ≡ true) × (is_some t ≡ true)
    at true x true y e =
        let bo = (entry_decides b o).0 x in
        let ot = (entry_decides o t).0 y in
        let there : is_some t ≡ true = sym (ap (λ (c : Choice). is_some (taken c)) (ap (λ (v : Option Entry). choice v o t) bo ∙ choice_theirs o t)) ∙ h in
        (ap is_some ot ∙ there, there)
    at true x false y e = absurd cc
    at false x y w e = absurd cc

ands : (a b c : Bool) → a ≡ true → b ≡ true → c ≡ true → a && (b && c) ≡ true
ands true true true e f g = refl
ands true true false e f g = absurd cc
ands true false c e f g = absurd cc
ands false b c e f g = absurd cc

pub record AreMaps (b o t : Entries) : Type 0 where
  pub base : IsPathMap b
  pub ours : IsPathMap o
  pub theirs : IsPathMap t

module _ (b o t : Entries) (maps : AreMaps b o t) (calm : HasNoClash (plan_of b o t)) where
  abbrev ps : List (List ℕ)
  ps = paths_of (b ++ o ++ t)

  abbrev good : List ℕ → Type 0
  good p = is_some (taken_at b o t p) ≡ true

  -- of two listed paths none is a folder of the other
  not_folder : (j k : ℕ) (d : List ℕ) → j < length ps → k < length ps → is_listed (row_at b o t (get_or ps j d)) ≡ true
      → is_listed (row_at b o t (get_or ps k d)) ≡ true → good (get_or ps j d) → good (get_or ps k d)
      → is_below (get_or ps j d) (get_or ps k d) ≡ false
  not_folder j k d lj lk listed_j listed_k gj gk = at (is_below (get_or ps j d) (get_or ps k d)) refl
    where
      row_j : Planned
      row_j = row_at b o t (get_or ps j d)

      none : is_upper (listed b o t) (row_at b o t (get_or ps j d)) ≡ false
      none =
          or_left _ _ (all_listed (row_at b o t) (λ r. (marked (listed b o t) r).clash ≡ false) ps (all_mapped (λ r. r.clash ≡ false) (marked (listed b o t)) (listed b o t) calm) j d lj listed_j)

      at : (x : Bool) → is_below (get_or ps j d) (get_or ps k d) ≡ x → x ≡ false
      at false e = refl
      at true e =
          let hit = any_listed (row_at b o t) (λ r. is_under (row_at b o t (get_or ps j d)) r) ps k d lk listed_k (ands _ _ _ (taken_present _ gj) (taken_present _ gk) e) in
          let n = none in cc

  -- a path that is not listed is in both sides, and what is taken is in one
  side_apart : (p q : List ℕ) → bytes_eq p q ≡ false → is_listed (row_at b o t p) ≡ false → good p → good q → clashes p q ≡ false
  side_apart p q ne un gp gq =
      let both = unlisted_both (entry_at b p) (entry_at o p) (entry_at t p) un gp in
      at (is_some (entry_at o q)) refl (taken_side (entry_at b q) (entry_at o q) (entry_at t q) gq) both
    where
      at : (x : Bool) → is_some (entry_at o q) ≡ x → (x || is_some (entry_at t q)) ≡ true
          → (is_some (entry_at o p) ≡ true) × (is_some (entry_at t p) ≡ true) → clashes p q ≡ false
      at true e side both = apart_pair o p q maps.ours.apart both.0 e ne
      at false e side both = apart_pair t p q maps.theirs.apart both.1 side ne

  pub pair_apart : (j k : ℕ) (d : List ℕ) → j < length ps → k < length ps → bytes_eq (get_or ps j d) (get_or ps k d) ≡ false → good (get_or ps j d)
      → good (get_or ps k d) → clashes (get_or ps j d) (get_or ps k d) ≡ false
  pair_apart j k d lj lk ne gj gk = at (is_listed (row_at b o t (get_or ps j d))) refl (is_listed (row_at b o t (get_or ps k d))) refl
    where
      at : (x : Bool) → is_listed (row_at b o t (get_or ps j d)) ≡ x → (y : Bool) → is_listed (row_at b o t (get_or ps k d)) ≡ y
          → clashes (get_or ps j d) (get_or ps k d) ≡ false
      at true x true y = rw (not_folder j k d lj lk x y gj gk) (not_folder k j d lk lj y x gk gj)
      at true x false y =
          folder_self_none (get_or ps k d) (get_or ps j d) (side_apart (get_or ps k d) (get_or ps j d) (same_swap (get_or ps k d) (get_or ps j d) ∙ ne) y gk gj)
      at false x y z = side_apart (get_or ps j d) (get_or ps k d) ne x gj gk

module _ (T : List ℕ → Option Entry) where
  abbrev kept : List (List ℕ) → Entries
  kept ps = filter_map (λ p. option_map (λ e. (p, e)) (T p)) ps

  all_kept : (p : List ℕ) (ps : List (List ℕ))
      → ((k : ℕ) (d : List ℕ) → k < length ps → is_some (T (get_or ps k d)) ≡ true → clashes p (get_or ps k d) ≡ false)
      → AllByRecursion (λ d. clashes p d.0 ≡ false) (kept ps)
  all_kept p [] h = tt
  all_kept p (q ∷ ps) h = at (T q) refl (all_kept p ps (λ k d l g. h (suc k) d (omega arith) g))
    where
      at : (v : Option Entry) → T q ≡ v → AllByRecursion (λ d. clashes p d.0 ≡ false) (kept ps)
          → AllByRecursion (λ d. clashes p d.0 ≡ false) (cons_option (option_map (λ e. (q, e)) v) (kept ps))
      at None is rest = rest
      at (Some e) is rest = (h zero q (omega arith) (ap is_some is), rest)

  apart_kept : (ps : List (List ℕ)) → Ascends ps
      → ((j k : ℕ) (d : List ℕ) → j < length ps → k < length ps → bytes_eq (get_or ps j d) (get_or ps k d) ≡ false → is_some (T (get_or ps j d)) ≡ true → is_some (T (get_or ps k d)) ≡ true → clashes (get_or ps j d) (get_or ps k d) ≡ false)
      → AreApart (kept ps)
  apart_kept [] up h = tt
  apart_kept (p ∷ ps) up h = at (T p) refl (apart_kept ps up.1 (λ j k d l m. h (suc j) (suc k) d (omega arith) (omega arith)))
    where
      at : (v : Option Entry) → T p ≡ v → AreApart (kept ps) → AreApart (cons_option (option_map (λ e. (p, e)) v) (kept ps))
      at None is rest = rest
      at (Some e) is rest =
          (all_kept p ps (λ k d l g. h zero (suc k) d (omega arith) (omega arith) (less_apart p (get_or ps k d) (at_all (λ q. is_less p q ≡ true) ps up.0 k d l)) (ap is_some is) g), rest)

-- the result of a merge in which no path clashes has no path below a path
pub result_apart : (b o t : Entries) → IsPathMap b → IsPathMap o → IsPathMap t → HasNoClash (plan_of b o t) → AreApart (result_of b o t)
result_apart b o t base ours theirs calm =
    apart_kept (taken_at b o t) (paths_of (b ++ o ++ t)) (ascends_paths (b ++ o ++ t)) (pair_apart b o t (record { base = base; ours = ours; theirs = theirs }) calm)
