-- An index and a map that are gone through side by side.
use Rattle.std.proofs.Common.{◌≡◌, ℕ, zero, suc, ◌+◌, ◌-◌, ◌<◌, ◌≤◌, Bool, true, false, not, ◌&&◌, ◌||◌, ◌==◌, nat_lt, cond, List, [], ◌∷◌, length, take, drop, get_or, Some, None, refl, sym, ap, subst, ◌∙◌, arith}
use Rattle.std.specs.Prelude.{slice_get, filter, map}
use Rattle.std.specs.List.{AllByRecursion}
use Rattle.std.specs.Str.{bytes_eq}
use Rattle.std.proofs.lemmas.Bool.{and_parts, eqb-true}
use Rattle.std.proofs.lemmas.Slice.Eq.{bytes_eq-Decides}
use Rattle.seq_base.specs.declared.map.Entry.{Entry}
use Rattle.seq_base.specs.PathMaps.{IsAscending, IsPathMap, is_less, same_entry}
use Rattle.index_file.specs.declared.entry.IndexEntry.{IndexEntry}
use Rattle.index_file.specs.Entries.{IsInOrder, comes_before, holds, may_precede}
use Rattle.seq_outside.proofs.Firsts.{first_and_others}
use Rattle.stage_index.specs.Stages.{Entries, is_merged, map_of, row_of}
use Rattle.stage_index.specs.Changes.{first_difference, staged}
use Rattle.stage_index.specs.Walks.{lesser_difference}
use Rattle.stage_index.proofs.Differences.{AllAfter, both_first, both_same, left_first, right_first}
use Rattle.stage_index.proofs.Orders.{less_chain, less_otherwise}

-- ---- rows

all_later : (p q : List ℕ) (es : Entries) → is_less p q ≡ true → AllAfter q es → AllAfter p es
all_later p q [] less h = tt
all_later p q (e ∷ es) less h = (less_chain p q e.0 less h.0, all_later p q es less h.1)

pub rows_differ : (m h : List ℕ × Entry) (ms hs : Entries) (p : List ℕ) → IsAscending (m ∷ ms) → IsAscending (h ∷ hs) → lesser_difference m h ≡ Some p
    → first_difference (m ∷ ms) (h ∷ hs) ≡ Some p
rows_differ m h ms hs p up also is = at (bytes_eq m.0 h.0) refl (same_entry (Some m.1) (Some h.1)) refl (is_less h.0 m.0) refl is
  where
    at : (t : Bool) → bytes_eq m.0 h.0 ≡ t → (u : Bool) → same_entry (Some m.1) (Some h.1) ≡ u → (v : Bool) → is_less h.0 m.0 ≡ v
        → cond t (cond u None (Some m.0)) (cond v (Some h.0) (Some m.0)) ≡ Some p → first_difference (m ∷ ms) (h ∷ hs) ≡ Some p
    at true same true entry v less e = absurd cc
    at true same false entry v less e =
        let path : m.0 ≡ h.0 = (bytes_eq-Decides m.0 h.0).0 same in
        subst (λ (q : List ℕ). first_difference (m ∷ ms) ((q, h.1) ∷ hs) ≡ Some m.0) path (both_first m.0 m.1 h.1 ms hs entry up.0 (subst (λ (q : List ℕ). AllAfter q hs) (sym path) also.0)) ∙ e
    at false apart u entry true less e = right_first h.0 h.1 (m ∷ ms) hs (less, all_later h.0 m.0 ms less up.0) also.0 ∙ e
    at false apart u entry false less e =
        let more : is_less m.0 h.0 ≡ true = less_otherwise m.0 h.0 apart less in
        left_first m.0 m.1 ms (h ∷ hs) up.0 (more, all_later m.0 h.0 hs more also.0) ∙ e

pub rows_same : (m h : List ℕ × Entry) (ms hs : Entries) → IsAscending (m ∷ ms) → IsAscending (h ∷ hs) → lesser_difference m h ≡ None
    → first_difference (m ∷ ms) (h ∷ hs) ≡ first_difference ms hs
rows_same m h ms hs up also is = at (bytes_eq m.0 h.0) refl (same_entry (Some m.1) (Some h.1)) refl (is_less h.0 m.0) refl is
  where
    at : (t : Bool) → bytes_eq m.0 h.0 ≡ t → (u : Bool) → same_entry (Some m.1) (Some h.1) ≡ u → (v : Bool) → is_less h.0 m.0 ≡ v
        → cond t (cond u None (Some m.0)) (cond v (Some h.0) (Some m.0)) ≡ None → first_difference (m ∷ ms) (h ∷ hs) ≡ first_difference ms hs
    at true same true entry v less e =
        let path : m.0 ≡ h.0 = (bytes_eq-Decides m.0 h.0).0 same in
        subst (λ (q : List ℕ). first_difference (m ∷ ms) ((q, h.1) ∷ hs) ≡ first_difference ms hs) path (both_same m.0 m.1 h.1 ms hs entry up.0 (subst (λ (q : List ℕ). AllAfter q hs) (sym path) also.0))
    at true same false entry v less e = absurd cc
    at false apart u entry true less e = absurd cc
    at false apart u entry false less e = absurd cc

-- ---- the map of an index in order

not_unmerged : (a b c : Bool) (n : ℕ) → (n == 0) ≡ true → a || (b && (nat_lt 0 n && c)) ≡ true → a ≡ true
not_unmerged true b c n is h = refl
not_unmerged false true c n is h =
    let e : n ≡ 0 = eqb-true n 0 is in absurd (let k : nat_lt 0 0 && c ≡ true = subst (λ (x : ℕ). nat_lt 0 x && c ≡ true) e h in cc)
not_unmerged false false c n is h = absurd cc

merged_first : (e d : IndexEntry) → is_merged e ≡ true → may_precede e d ≡ true → is_less e.path d.path ≡ true
merged_first e d is h =
    not_unmerged (is_less e.path d.path) (bytes_eq e.path d.path) (nat_lt e.stage d.stage) e.stage is (and_parts (comes_before e d) (not (holds e d)) h).0

pub rows_after : (e : IndexEntry) (es : List IndexEntry) → is_merged e ≡ true → AllByRecursion (λ d. may_precede e d ≡ true) es
    → AllAfter e.path (map_of es)
rows_after e [] is h = tt
rows_after e (d ∷ es) is h = at (is_merged d) (rows_after e es is h.1)
  where
    at : (t : Bool) → AllAfter e.path (map_of es) → AllAfter e.path (map row_of (cond t (d ∷ filter is_merged es) (filter is_merged es)))
    at true more = (merged_first e d is h.0, more)
    at false more = more

pub map_ascending : (es : List IndexEntry) → IsInOrder es → IsAscending (map_of es)
map_ascending [] h = tt
map_ascending (e ∷ es) h = at (is_merged e) refl (map_ascending es h.1)
  where
    at : (t : Bool) → is_merged e ≡ t → IsAscending (map_of es) → IsAscending (map row_of (cond t (e ∷ filter is_merged es) (filter is_merged es)))
    at true is more = (rows_after e es is h.0, more)
    at false is more = more

-- ---- both, from some place on

with_row : (e : IndexEntry) (es : List IndexEntry) → is_merged e ≡ true → map_of (e ∷ es) ≡ row_of e ∷ map_of es
with_row e es is = ap (λ (t : Bool). map row_of (cond t (e ∷ filter is_merged es) (filter is_merged es))) is

dropped : {X : Type 0} (xs : List X) (n : ℕ) (x : X) → slice_get xs n ≡ Some x → drop n xs ≡ x ∷ drop (n + 1) xs
dropped [] n x e = absurd cc
dropped (y ∷ xs) zero x e = let k : y ≡ x = cc in ap (λ (z : _). z ∷ xs) k
dropped (y ∷ xs) (suc n) x e = let k : suc n + 1 ≡ suc (n + 1) = omega arith in rw k (dropped xs n x e)

pub at_row : {X : Type 0} (xs : List X) (n : ℕ) (x : X) → slice_get xs n ≡ Some x → n < length xs
at_row [] n x e = absurd cc
at_row (y ∷ xs) zero x e = omega arith
at_row (y ∷ xs) (suc n) x e = let k = at_row xs n x e in omega (arith, k)

all_dropped : {X : Type 0} (xs : List X) (n : ℕ) → length xs ≤ n → drop n xs ≡ []
all_dropped [] zero h = refl
all_dropped [] (suc n) h = refl
all_dropped (y ∷ xs) zero h = absurd (omega arith)
all_dropped (y ∷ xs) (suc n) h = all_dropped xs n (omega arith)

-- what is left of both differs where the whole does
pub record Walk (index : List IndexEntry) (head : Entries) (rest : List IndexEntry) (n : ℕ) : Type 0 where
  pub order : IsInOrder rest
  pub up : IsAscending (drop n head)
  pub same : first_difference (map_of rest) (drop n head) ≡ staged index head

pub begins : (index : List IndexEntry) (head : Entries) → IsInOrder index → IsPathMap head → Walk index head index 0
begins index head order map = record { order = order; up = map.ascending; same = refl }

goes_on : (index : List IndexEntry) (head : Entries) (e : IndexEntry) (es : List IndexEntry) (n : ℕ) (h : List ℕ × Entry) → Walk index head (e ∷ es) n
    → is_merged e ≡ true → slice_get head n ≡ Some h → lesser_difference (row_of e) h ≡ None
    → Walk index head es (n + 1)
goes_on index head e es n h walk is here none =
    let rows : drop n head ≡ h ∷ drop (n + 1) head = dropped head n h here in
    let up : IsAscending (h ∷ drop (n + 1) head) = subst IsAscending rows walk.up in
    let mine : IsAscending (row_of e ∷ map_of es) = subst IsAscending (with_row e es is) (map_ascending (e ∷ es) walk.order) in
    record {
      order = walk.order.1;
      up = up.1;
      same =
          sym (rows_same (row_of e) h (map_of es) (drop (n + 1) head) mine up none)
          ∙ ap (λ (m : Entries). first_difference m (h ∷ drop (n + 1) head)) (sym (with_row e es is))
          ∙ ap (first_difference (map_of (e ∷ es))) (sym rows) ∙ walk.same;
    }

differs : (index : List IndexEntry) (head : Entries) (e : IndexEntry) (es : List IndexEntry) (n : ℕ) (h : List ℕ × Entry) (p : List ℕ)
    → Walk index head (e ∷ es) n → is_merged e ≡ true → slice_get head n ≡ Some h → lesser_difference (row_of e) h ≡ Some p
    → Some p ≡ staged index head
differs index head e es n h p walk is here some =
    let rows : drop n head ≡ h ∷ drop (n + 1) head = dropped head n h here in
    let up : IsAscending (h ∷ drop (n + 1) head) = subst IsAscending rows walk.up in
    let mine : IsAscending (row_of e ∷ map_of es) = subst IsAscending (with_row e es is) (map_ascending (e ∷ es) walk.order) in
    sym (rows_differ (row_of e) h (map_of es) (drop (n + 1) head) p mine up some) ∙ ap (λ (m : Entries). first_difference m (h ∷ drop (n + 1) head)) (sym (with_row e es is)) ∙ ap (first_difference (map_of (e ∷ es))) (sym rows) ∙ walk.same

ends : (index : List IndexEntry) (head : Entries) (e : IndexEntry) (es : List IndexEntry) (n : ℕ) → Walk index head (e ∷ es) n → is_merged e ≡ true
    → length head ≤ n → Some e.path ≡ staged index head
ends index head e es n walk is past =
    sym (left_first e.path (row_of e).1 (map_of es) [] (rows_after e es is walk.order.0) tt) ∙ ap (λ (m : Entries). first_difference m []) (sym (with_row e es is)) ∙ ap (first_difference (map_of (e ∷ es))) (sym (all_dropped head n past)) ∙ walk.same

-- ---- where the index is a list whose first entry was taken

pub goes_on_at : (index : List IndexEntry) (head : Entries) (rest : List IndexEntry) (e : IndexEntry) (n : ℕ) (h : List ℕ × Entry)
    → Walk index head rest n → 0 < length rest → e ≡ get_or rest 0 e → is_merged e ≡ true → slice_get head n ≡ Some h
    → lesser_difference (row_of e) h ≡ None → Walk index head (take (length rest - 1) (drop 1 rest)) (n + 1)
goes_on_at index head rest e n h walk some first is here none =
    goes_on index head e _ n h (subst (λ (es : List IndexEntry). Walk index head es n) (first_and_others rest e some first) walk) is here none

pub differs_at : (index : List IndexEntry) (head : Entries) (rest : List IndexEntry) (e : IndexEntry) (n : ℕ) (h : List ℕ × Entry) (p : List ℕ)
    → Walk index head rest n → 0 < length rest → e ≡ get_or rest 0 e → is_merged e ≡ true → slice_get head n ≡ Some h
    → lesser_difference (row_of e) h ≡ Some p → Some p ≡ staged index head
differs_at index head rest e n h p walk some first is here other =
    differs index head e _ n h p (subst (λ (es : List IndexEntry). Walk index head es n) (first_and_others rest e some first) walk) is here other

pub ends_at : (index : List IndexEntry) (head : Entries) (rest : List IndexEntry) (e : IndexEntry) (n : ℕ) → Walk index head rest n → 0 < length rest
    → e ≡ get_or rest 0 e → is_merged e ≡ true → length head ≤ n → Some e.path ≡ staged index head
ends_at index head rest e n walk some first is past =
    ends index head e _ n (subst (λ (es : List IndexEntry). Walk index head es n) (first_and_others rest e some first) walk) is past

no_entries : (rest : List IndexEntry) → length rest ≡ 0 → rest ≡ []
no_entries [] h = refl
no_entries (e ∷ es) h = absurd (omega arith)

pub left_at : (index : List IndexEntry) (head : Entries) (rest : List IndexEntry) (n : ℕ) (h : List ℕ × Entry) → Walk index head rest n
    → length rest ≡ 0 → slice_get head n ≡ Some h → Some h.0 ≡ staged index head
left_at index head rest n h walk none here =
    let rows : drop n head ≡ h ∷ drop (n + 1) head = dropped head n h here in
    let up : IsAscending (h ∷ drop (n + 1) head) = subst IsAscending rows walk.up in
    sym (right_first h.0 h.1 [] (drop (n + 1) head) tt up.0) ∙ ap (first_difference []) (sym rows) ∙ ap (λ (es : List IndexEntry). first_difference (map_of es) (drop n head)) (sym (no_entries rest none)) ∙ walk.same

empty : None ≡ first_difference [] []
unfolding first_difference
empty = refl

pub none_left : (index : List IndexEntry) (head : Entries) (rest : List IndexEntry) (n : ℕ) → Walk index head rest n → length rest ≡ 0
    → length head ≤ n → None ≡ staged index head
none_left index head rest n walk none past =
    empty ∙ ap (first_difference []) (sym (all_dropped head n past))
    ∙ ap (λ (es : List IndexEntry). first_difference (map_of es) (drop n head)) (sym (no_entries rest none)) ∙ walk.same
