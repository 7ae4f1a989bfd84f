-- The rows of a merge stand in the order of their paths.
use Rattle.std.proofs.Common.{◌≡◌, ℕ, zero, suc, ◌<◌, Bool, true, false, cond, List, [], ◌∷◌, ◌++◌, length, get_or, refl, arith}
use Rattle.std.specs.Prelude.{filter, map}
use Rattle.std.specs.List.{AllByRecursion}
use Rattle.std.specs.Str.{bytes_eq}
use Rattle.seq_base.specs.PathMaps.{is_less}
use Rattle.tree_merge.specs.declared.plans.Planned.{Planned}
use Rattle.tree_merge.specs.Plans.{AreInOrder, Entries, all_rows, is_listed, listed, paths_of, row_at, with_path}
use Rattle.tree_merge.proofs.Order.{less_trans, otherwise_less}

abbrev pub Ascends : List (List ℕ) → Type 0
Ascends [] = Unit {0}
Ascends (p ∷ ps) = AllByRecursion (λ q. is_less p q ≡ true) ps × Ascends ps

all_less : (p a : List ℕ) (ps : List (List ℕ)) → is_less p a ≡ true → AllByRecursion (λ q. is_less a q ≡ true) ps
    → AllByRecursion (λ q. is_less p q ≡ true) ps
all_less p a [] l h = tt
all_less p a (q ∷ ps) l h = (less_trans p a q l h.0, all_less p a ps l h.1)

all_with : (a : List ℕ) (ps : List (List ℕ)) (p : List ℕ) → AllByRecursion (λ q. is_less a q ≡ true) ps → is_less a p ≡ true
    → AllByRecursion (λ q. is_less a q ≡ true) (with_path ps p)
all_with a [] p h here = (here, tt)
all_with a (q ∷ ps) p h here = at (all_with a ps p h.1 here) (bytes_eq q p) (is_less p q)
  where
    at : AllByRecursion (λ r. is_less a r ≡ true) (with_path ps p) → (t u : Bool)
        → AllByRecursion (λ r. is_less a r ≡ true) (cond t (q ∷ ps) (cond u (p ∷ q ∷ ps) (q ∷ with_path ps p)))
    at rest true u = h
    at rest false true = (here, h)
    at rest false false = (h.0, rest)

ascends_with : (ps : List (List ℕ)) (p : List ℕ) → Ascends ps → Ascends (with_path ps p)
ascends_with [] p h = (tt, tt)
ascends_with (q ∷ ps) p h = at (ascends_with ps p h.1) (bytes_eq q p) refl (is_less p q) refl
  where
    at : Ascends (with_path ps p) → (t : Bool) → bytes_eq q p ≡ t → (u : Bool) → is_less p q ≡ u
        → Ascends (cond t (q ∷ ps) (cond u (p ∷ q ∷ ps) (q ∷ with_path ps p)))
    at rest true e u f = h
    at rest false e true f = ((f, all_less p q ps f h.0), h)
    at rest false e false f = (all_with q ps p h.0 (otherwise_less q p e f), rest)

pub ascends_paths : (es : Entries) → Ascends (paths_of es)
ascends_paths [] = tt
ascends_paths (e ∷ es) = ascends_with (paths_of es) e.0 (ascends_paths es)

abbrev RowsAscend : List Planned → Type 0
RowsAscend [] = Unit {0}
RowsAscend (r ∷ rs) = AllByRecursion (λ s. is_less r.path s.path ≡ true) rs × RowsAscend rs

all_kept : (p : List ℕ) (b o t : Entries) (ps : List (List ℕ)) → AllByRecursion (λ q. is_less p q ≡ true) ps
    → AllByRecursion (λ s. is_less p s.path ≡ true) (filter is_listed (map (row_at b o t) ps))
all_kept p b o t [] h = tt
all_kept p b o t (q ∷ ps) h = at (all_kept p b o t ps h.1) (is_listed (row_at b o t q))
  where
    at : AllByRecursion (λ s. is_less p s.path ≡ true) (filter is_listed (map (row_at b o t) ps)) → (u : Bool)
        → AllByRecursion (λ s. is_less p s.path ≡ true) (cond u (row_at b o t q ∷ filter is_listed (map (row_at b o t) ps)) (filter is_listed (map (row_at b o t) ps)))
    at rest true = (h.0, rest)
    at rest false = rest

rows_kept : (b o t : Entries) (ps : List (List ℕ)) → Ascends ps → RowsAscend (filter is_listed (map (row_at b o t) ps))
rows_kept b o t [] h = tt
rows_kept b o t (q ∷ ps) h = at (rows_kept b o t ps h.1) (is_listed (row_at b o t q))
  where
    at : RowsAscend (filter is_listed (map (row_at b o t) ps)) → (u : Bool)
        → RowsAscend (cond u (row_at b o t q ∷ filter is_listed (map (row_at b o t) ps)) (filter is_listed (map (row_at b o t) ps)))
    at rest true = (all_kept q b o t ps h.0, rest)
    at rest false = rest

at_each : (r : Planned) (rs : List Planned) → AllByRecursion (λ s. is_less r.path s.path ≡ true) rs → (k : ℕ) (d : Planned) → k < length rs
    → is_less r.path (get_or rs k d).path ≡ true
at_each r [] h k d l = absurd (omega arith)
at_each r (s ∷ rs) h zero d l = h.0
at_each r (s ∷ rs) h (suc k) d l = at_each r rs h.1 k d (omega arith)

in_order : (rows : List Planned) → RowsAscend rows → AreInOrder rows
in_order [] h j k d l m = absurd (omega arith)
in_order (r ∷ rs) h j zero d l m = absurd (omega arith)
in_order (r ∷ rs) h zero (suc k) d l m = at_each r rs h.0 k d (omega arith)
in_order (r ∷ rs) h (suc j) (suc k) d l m = in_order rs h.1 j k d (omega arith) (omega arith)

-- the rows of three maps are in order
pub listed_in_order : (b o t : Entries) → AreInOrder (listed b o t)
listed_in_order b o t = in_order (listed b o t) (rows_kept b o t (paths_of (b ++ o ++ t)) (ascends_paths (b ++ o ++ t)))

all_mapped : (p : List ℕ) (b o t : Entries) (ps : List (List ℕ)) → AllByRecursion (λ q. is_less p q ≡ true) ps
    → AllByRecursion (λ s. is_less p s.path ≡ true) (map (row_at b o t) ps)
all_mapped p b o t [] h = tt
all_mapped p b o t (q ∷ ps) h = (h.0, all_mapped p b o t ps h.1)

rows_mapped : (b o t : Entries) (ps : List (List ℕ)) → Ascends ps → RowsAscend (map (row_at b o t) ps)
rows_mapped b o t [] h = tt
rows_mapped b o t (q ∷ ps) h = (all_mapped q b o t ps h.0, rows_mapped b o t ps h.1)

-- so are those of all paths
pub all_in_order : (b o t : Entries) → AreInOrder (all_rows b o t)
all_in_order b o t = in_order (all_rows b o t) (rows_mapped b o t (paths_of (b ++ o ++ t)) (ascends_paths (b ++ o ++ t)))
