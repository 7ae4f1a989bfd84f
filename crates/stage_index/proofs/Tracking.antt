-- The entry of a path, found by halving.
use Rattle.std.proofs.Common.{◌≡◌, ◌⊎◌, inl, inr, ℕ, zero, suc, ◌<◌, ◌≤◌, Bool, true, false, not, ◌&&◌, ◌||◌, ◌==◌, nat_lt, cond, List, [], ◌∷◌, length, get_or, Some, None, Ordering, refl, sym, ap, subst, ◌∙◌, arith}
use Rattle.std.specs.Prelude.{filter, map}
use Rattle.std.specs.Cmp.Lexicographic.{nat_list_cmp_total, slice_cmp}
use Rattle.std.specs.List.{AllByRecursion, HoldsAt}
use Rattle.std.specs.List.Sorted.{IsNonDecreasingBy, IsPartitionPoint}
use Rattle.std.specs.Ordering.{nat_cmp, is_eq, ordering_index}
use Rattle.std.specs.Str.{bytes_eq}
use Rattle.std.specs.declared.cmp.Ordering.TheVariants.{Less, Equal, Greater}
use Rattle.std.proofs.lemmas.Bool.{and_parts, both_ways, cases_lt, eqb-true, false_from_ne_true, or_from, or_parts}
use Rattle.std.proofs.lemmas.Bool.Decides.{nat_tests}
use Rattle.std.proofs.lemmas.List.Elements.{All-from_recursion}
use Rattle.std.proofs.lemmas.List.Folds.{list_any_at, list_any_none}
use Rattle.std.proofs.lemmas.Map.Lookups.{exact_bytes}
use Rattle.std.proofs.lemmas.Map.Text.{is_eq-slice_cmp}
use Rattle.std.proofs.lemmas.Slice.Eq.{bytes_eq-Decides}
use Rattle.seq_base.specs.PathMaps.{entry_at, is_less}
use Rattle.index_file.specs.declared.entry.IndexEntry.{IndexEntry}
use Rattle.index_file.specs.Entries.{IsInOrder, comes_before, holds, may_precede}
use Rattle.stage_index.specs.Stages.{is_merged, map_of, merged_entry, row_of}
use Rattle.seq_base.specs.declared.map.Entry.{Entry}
use Rattle.stage_index.specs.Changes.{is_gitlink}
use Rattle.stage_index.specs.Switching.{is_submodule_at, is_tracked}
use Rattle.stage_index.proofs.Orders.{less_apart, less_from, more_apart, same_path}

-- ---- the order of an index by a path

in_pairs : (from : List IndexEntry) → IsInOrder from → (i j : ℕ) (d : IndexEntry) → i < j → j < length from
    → may_precede (get_or from i d) (get_or from j d) ≡ true
in_pairs [] order i j d lt within = absurd (omega arith)
in_pairs (e ∷ es) order i zero d lt within = absurd (omega arith)
in_pairs (e ∷ es) order zero (suc j) d lt within = All-from_recursion (λ f. may_precede e f ≡ true) es order.0 j d (omega arith)
in_pairs (e ∷ es) order (suc i) (suc j) d lt within = in_pairs es order.1 i j d (omega arith) (omega arith)

-- how one may precede another
ways : (a b : Bool) (n : ℕ) (c : Bool) → a || (b && (nat_lt 0 n && c)) ≡ true → (a ≡ true) ⊎ ((b ≡ true) × (nat_lt 0 n && c ≡ true))
ways true b n c h = inl refl
ways false true n c h = inr (refl, h)
ways false false n c h = absurd cc

way : (e d : IndexEntry) → may_precede e d ≡ true
    → (is_less e.path d.path ≡ true) ⊎ ((bytes_eq e.path d.path ≡ true) × (nat_lt 0 e.stage && nat_lt e.stage d.stage ≡ true))
way e d h =
    ways (is_less e.path d.path) (bytes_eq e.path d.path) e.stage (nat_lt e.stage d.stage) (and_parts (comes_before e d) (not (holds e d)) h).0

at_most_two : (o : Ordering) → ordering_index o ≤ 2
at_most_two Less = omega arith
at_most_two Equal = omega arith
at_most_two Greater = omega arith

-- of a lesser path a path is no less
no_less : (a b path : List ℕ) → is_less a b ≡ true → ordering_index (slice_cmp nat_cmp a path) ≤ ordering_index (slice_cmp nat_cmp b path)
no_less a b path less = at (slice_cmp nat_cmp b path) refl
  where
    at : (o : Ordering) → slice_cmp nat_cmp b path ≡ o → ordering_index (slice_cmp nat_cmp a path) ≤ ordering_index o
    at Less e = rw (nat_list_cmp_total.trans a b path (less_from a b less) e) (omega arith)
    at Equal e = let same : b ≡ path = exact_bytes b path e in rw (ap (slice_cmp nat_cmp a) (sym same) ∙ less_from a b less) (omega arith)
    at Greater e = at_most_two (slice_cmp nat_cmp a path)

pub rises : (from : List IndexEntry) (path : List ℕ) → IsInOrder from → IsNonDecreasingBy (λ e. ordering_index (slice_cmp nat_cmp e.path path)) from
rises from path order i j d le within = elim (cases_lt i j) [
  | inl lt ↦ at (get_or from i d) (get_or from j d) (way (get_or from i d) (get_or from j d) (in_pairs from order i j d lt within))
  | inr ge ↦ let same : i ≡ j = omega arith in subst (λ (k : ℕ). ordering_index (slice_cmp nat_cmp (get_or from i d).path path) ≤ ordering_index (slice_cmp nat_cmp (get_or from k d).path path)) same (omega arith)
]
  where
    at : (e f : IndexEntry) → (is_less e.path f.path ≡ true) ⊎ ((bytes_eq e.path f.path ≡ true) × (nat_lt 0 e.stage && nat_lt e.stage f.stage ≡ true))
        → ordering_index (slice_cmp nat_cmp e.path path) ≤ ordering_index (slice_cmp nat_cmp f.path path)
    at e f (inl less) = no_less e.path f.path path less
    at e f (inr tied) =
        let same : e.path ≡ f.path = (bytes_eq-Decides e.path f.path).0 tied.0 in
        subst (λ (q : List ℕ). ordering_index (slice_cmp nat_cmp e.path path) ≤ ordering_index (slice_cmp nat_cmp q path)) same (omega arith)

-- ---- where it was found, and where not

abbrev pub order_by : List ℕ → IndexEntry → Ordering
order_by path e = slice_cmp nat_cmp e.path path

pub tracked_at : (from : List IndexEntry) (path : List ℕ) (n : ℕ) (e : IndexEntry) → n < length from → e ≡ get_or from n e
    → HoldsAt (λ d. order_by path d ≡ Equal) from n → true ≡ is_tracked from path
tracked_at from path n e lt is found =
    sym (list_any_at (λ (d : IndexEntry). bytes_eq d.path path) from n e lt (sym (is_eq-slice_cmp (get_or from n e).path path) ∙ ap is_eq (found e)))

not_there : (from : List IndexEntry) (path : List ℕ) (n : ℕ) → IsPartitionPoint (λ d. order_by path d ≡ Less) (λ d. order_by path d ≡ Greater) from n
    → is_tracked from path ≡ false
not_there from path n parted = list_any_none (λ (d : IndexEntry). bytes_eq d.path path) from (λ k d within. elim (cases_lt k n) [
  | inl lt ↦ sym (is_eq-slice_cmp (get_or from k d).path path) ∙ ap is_eq (parted.0 k d (omega arith) lt)
  | inr ge ↦ sym (is_eq-slice_cmp (get_or from k d).path path) ∙ ap is_eq (parted.1 k d ge within)
])

pub untracked_at : (from : List IndexEntry) (path : List ℕ) (n : ℕ)
    → IsPartitionPoint (λ d. order_by path d ≡ Less) (λ d. order_by path d ≡ Greater) from n → false ≡ is_tracked from path
untracked_at from path n parted = sym (not_there from path n parted)

-- ---- what the map has there

pub untracked_entry : (from : List IndexEntry) (path : List ℕ) → is_tracked from path ≡ false → entry_at (map_of from) path ≡ None
untracked_entry [] path h = refl
untracked_entry (e ∷ es) path h =
    let both = or_parts (bytes_eq e.path path) (is_tracked es path) h in
    at both.0 (is_merged e) (untracked_entry es path both.1)
  where
    at : bytes_eq e.path path ≡ false → (t : Bool) → entry_at (map_of es) path ≡ None
        → entry_at (map row_of (cond t (e ∷ filter is_merged es) (filter is_merged es))) path ≡ None
    at other true later = rw other later
    at other false later = later

-- behind an unmerged entry its path is not merged
none_merged : (e : IndexEntry) (es : List IndexEntry) → is_merged e ≡ false → AllByRecursion (λ d. may_precede e d ≡ true) es
    → entry_at (map_of es) e.path ≡ None
none_merged e [] unmerged h = refl
none_merged e (d ∷ es) unmerged h = at (is_merged d) refl (none_merged e es unmerged h.1)
  where
    positive : (a b : ℕ) → nat_lt 0 a && nat_lt a b ≡ true → (b == 0) ≡ true → ⊥
    positive a zero both zero_is = let k = and_parts (nat_lt 0 a) (nat_lt a 0) both in grind (arith, nat_tests)
    positive a (suc b) both zero_is = let k : suc b ≡ 0 = eqb-true (suc b) 0 zero_is in absurd (omega arith)

    other : is_merged d ≡ true → bytes_eq d.path e.path ≡ false
    other merged = elim (way e d h.0) [
      | inl less ↦ less_apart e.path d.path less
      | inr tied ↦ absurd (positive e.stage d.stage tied.1 merged)
    ]

    at : (t : Bool) → is_merged d ≡ t → entry_at (map_of es) e.path ≡ None
        → entry_at (map row_of (cond t (d ∷ filter is_merged es) (filter is_merged es))) e.path ≡ None
    at true merged later = rw (other merged) later
    at false merged later = later

-- a merged entry has a path of its own
other_path : (e d : IndexEntry) → is_merged e ≡ true → may_precede e d ≡ true → bytes_eq e.path d.path ≡ false
other_path e d merged h = elim (way e d h) [
  | inl less ↦ more_apart e.path d.path less
  | inr tied ↦ absurd (zero_stage e.stage (nat_lt e.stage d.stage) merged tied.1)
]
  where
    zero_stage : (n : ℕ) (c : Bool) → (n == 0) ≡ true → nat_lt 0 n && c ≡ true → ⊥
    zero_stage n c zero_is h =
        let e : n ≡ 0 = eqb-true n 0 zero_is in let k : nat_lt 0 0 && c ≡ true = subst (λ (x : ℕ). nat_lt 0 x && c ≡ true) e h in cc

pub found_entry : (from : List IndexEntry) (n : ℕ) (e : IndexEntry) → IsInOrder from → n < length from → e ≡ get_or from n e
    → merged_entry (Some e) ≡ entry_at (map_of from) e.path
found_entry [] n e order lt is = absurd (omega arith)
found_entry (d ∷ es) zero e order lt is =
    subst (λ (f : IndexEntry). merged_entry (Some f) ≡ entry_at (map_of (d ∷ es)) f.path) (sym is) (at (is_merged d) refl)
  where
    at : (t : Bool) → is_merged d ≡ t
        → cond t (Some (row_of d).1) None ≡ entry_at (map row_of (cond t (d ∷ filter is_merged es) (filter is_merged es))) d.path
    at true merged = rw (same_path d.path) refl
    at false merged = sym (none_merged d es merged order.0)
found_entry (d ∷ es) (suc n) e order lt is = found_entry es n e order.1 (omega arith) is ∙ at (is_merged d) refl
  where
    before : may_precede d e ≡ true
    before =
        subst (λ (f : IndexEntry). may_precede d f ≡ true) (sym is) (All-from_recursion (λ f. may_precede d f ≡ true) es order.0 n e (omega arith))

    at : (t : Bool) → is_merged d ≡ t
        → entry_at (map_of es) e.path ≡ entry_at (map row_of (cond t (d ∷ filter is_merged es) (filter is_merged es))) e.path
    at true merged = rw (other_path d e merged before) refl
    at false merged = refl

pub found_at : (from : List IndexEntry) (path : List ℕ) (n : ℕ) (e : IndexEntry) → IsInOrder from → n < length from → e ≡ get_or from n e
    → HoldsAt (λ d. order_by path d ≡ Equal) from n → merged_entry (Some e) ≡ entry_at (map_of from) path
found_at from path n e order lt is found =
    let same : e.path ≡ path = ap (λ (f : IndexEntry). f.path) is ∙ exact_bytes (get_or from n e).path path (found e) in
    found_entry from n e order lt is ∙ ap (entry_at (map_of from)) same

-- an entry that has the path

pub tracked_here : (from : List IndexEntry) (path : List ℕ) (n : ℕ) (e : IndexEntry) → n < length from → e ≡ get_or from n e
    → bytes_eq e.path path ≡ true → true ≡ is_tracked from path
tracked_here from path n e lt is same =
    sym (list_any_at (λ (d : IndexEntry). bytes_eq d.path path) from n e lt (subst (λ (d : IndexEntry). bytes_eq d.path path ≡ true) is same))

pub found_here : (from : List IndexEntry) (path : List ℕ) (n : ℕ) (e : IndexEntry) → IsInOrder from → n < length from → e ≡ get_or from n e
    → bytes_eq e.path path ≡ true → merged_entry (Some e) ≡ entry_at (map_of from) path
found_here from path n e order lt is same = found_entry from n e order lt is ∙ ap (entry_at (map_of from)) ((bytes_eq-Decides e.path path).0 same)

pub missing_at : (from : List IndexEntry) (path : List ℕ) (n : ℕ)
    → IsPartitionPoint (λ d. order_by path d ≡ Less) (λ d. order_by path d ≡ Greater) from n → None ≡ entry_at (map_of from) path
missing_at from path n parted = sym (untracked_entry from path (not_there from path n parted))

-- ---- submodules

or_none : (a b : Bool) → b ≡ false → a || b ≡ a
or_none true b none = refl
or_none false b none = none

and_none : (a b : Bool) → a ≡ false → a && b ≡ false
and_none true b none = absurd cc
and_none false b none = refl

-- behind a merged entry there is no submodule at its path
none_behind : (e : IndexEntry) (es : List IndexEntry) → is_merged e ≡ true → AllByRecursion (λ d. may_precede e d ≡ true) es
    → is_submodule_at es e.path ≡ false
none_behind e [] merged h = refl
none_behind e (d ∷ es) merged h =
    or_from (bytes_eq d.path e.path && is_gitlink d.mode) (is_submodule_at es e.path) (and_none (bytes_eq d.path e.path) (is_gitlink d.mode) apart) (none_behind e es merged h.1)
  where
    apart : bytes_eq d.path e.path ≡ false
    apart = false_from_ne_true (bytes_eq d.path e.path) (λ is.
        both_ways (bytes_eq e.path d.path) (other_path e d merged h.0) ((bytes_eq-Decides e.path d.path).1 (sym ((bytes_eq-Decides d.path e.path).0 is))))

-- a merged path has one entry
merged_alone : (from : List IndexEntry) (path : List ℕ) (x : Entry) → IsInOrder from → entry_at (map_of from) path ≡ Some x
    → is_submodule_at from path ≡ is_gitlink x.mode
merged_alone [] path x order is = absurd cc
merged_alone (e ∷ es) path x order is = at (is_merged e) refl (bytes_eq e.path path) refl is (merged_alone es path x order.1)
  where
    at : (m : Bool) → is_merged e ≡ m → (b : Bool) → bytes_eq e.path path ≡ b
        → entry_at (map row_of (cond m (e ∷ filter is_merged es) (filter is_merged es))) path ≡ Some x
        → (entry_at (map_of es) path ≡ Some x → is_submodule_at es path ≡ is_gitlink x.mode) → (b && is_gitlink e.mode) || is_submodule_at es path ≡ is_gitlink x.mode
    at true merged true same is later =
        let here : e.path ≡ path = (bytes_eq-Decides e.path path).0 same in
        let none : is_submodule_at es path ≡ false = ap (is_submodule_at es) (sym here) ∙ none_behind e es merged order.0 in
        let first : Some (row_of e).1 ≡ Some x = rw same at is in
        let entry : (row_of e).1 ≡ x = cc in
        or_none (is_gitlink e.mode) (is_submodule_at es path) none ∙ ap (λ (y : Entry). is_gitlink y.mode) entry
    at true merged false other is later = later (rw other at is)
    at false unmerged true same is later =
        let here : e.path ≡ path = (bytes_eq-Decides e.path path).0 same in
        let none : entry_at (map_of es) path ≡ None = ap (entry_at (map_of es)) (sym here) ∙ none_merged e es unmerged order.0 in
        absurd (let never : None ≡ Some x = sym none ∙ is in cc)
    at false unmerged false other is later = later is

pub submodule_merged : (from : List IndexEntry) (path : List ℕ) (e : IndexEntry) → IsInOrder from → (e.stage == 0) ≡ true
    → merged_entry (Some e) ≡ entry_at (map_of from) path → is_gitlink e.mode ≡ is_submodule_at from path
submodule_merged from path e order merged is =
    let entry : entry_at (map_of from) path ≡ Some (row_of e).1 = sym is ∙ ap (λ (m : Bool). cond m (Some (row_of e).1) None) merged in
    sym (merged_alone from path (row_of e).1 order entry)

pub no_submodule : (from : List IndexEntry) (path : List ℕ) → is_tracked from path ≡ false → is_submodule_at from path ≡ false
no_submodule [] path none = refl
no_submodule (e ∷ es) path none =
    let both = or_parts (bytes_eq e.path path) (is_tracked es path) none in
    or_from (bytes_eq e.path path && is_gitlink e.mode) (is_submodule_at es path) (and_none (bytes_eq e.path path) (is_gitlink e.mode) both.0) (no_submodule es path both.1)
