-- The entry of a path, found by halving.
use Rattle.std.proofs.Common.{◌≡◌, ℕ, suc, ◌<◌, ◌≤◌, true, false, List, [], ◌∷◌, length, get_or, Some, None, Ordering, inl, inr, refl, sym, ap, subst, ◌∙◌, arith}
use Rattle.std.specs.Cmp.Lexicographic.{nat_list_cmp_total, slice_cmp}
use Rattle.std.specs.List.{HoldsAt}
use Rattle.std.specs.List.Sorted.{IsNonDecreasingBy, IsPartitionPoint}
use Rattle.std.specs.Ordering.{nat_cmp, is_eq, ordering_index}
use Rattle.std.specs.Str.{bytes_eq}
use Rattle.std.specs.declared.cmp.Ordering.TheVariants.{Less, Equal, Greater}
use Rattle.std.proofs.lemmas.Bool.{cases_lt}
use Rattle.std.proofs.lemmas.Map.Lookups.{exact_bytes}
use Rattle.std.proofs.lemmas.Map.Text.{is_eq-slice_cmp}
use Rattle.seq_base.specs.declared.map.Entry.{Entry}
use Rattle.seq_base.specs.PathMaps.{IsPathMap, entry_at, is_less}
use Rattle.seq_base.proofs.Lookups.{held, in_order}
use Rattle.seq_base.proofs.Maps.{less_is}

at_most_two : (o : Ordering) → ordering_index o ≤ 2
at_most_two Less = omega arith
at_most_two Equal = omega arith
at_most_two Greater = omega arith

-- of a lesser path a path is no less
pub no_less : (a b path : List ℕ) → is_less a b ≡ true → ordering_index (slice_cmp nat_cmp a path) ≤ ordering_index (slice_cmp nat_cmp b path)
no_less a b path less = at (slice_cmp nat_cmp b path) refl
  where
    at : (o : Ordering) → slice_cmp nat_cmp b path ≡ o → ordering_index (slice_cmp nat_cmp a path) ≤ ordering_index o
    at Less e = rw (nat_list_cmp_total.trans a b path (less_is a b less) e) (omega arith)
    at Equal e = let same : b ≡ path = exact_bytes b path e in rw (ap (slice_cmp nat_cmp a) (sym same) ∙ less_is a b less) (omega arith)
    at Greater e = at_most_two (slice_cmp nat_cmp a path)

abbrev pub order_by : List ℕ → List ℕ × Entry → Ordering
order_by path e = slice_cmp nat_cmp e.0 path

pub rises : (es : List (List ℕ × Entry)) (path : List ℕ) → IsPathMap es → IsNonDecreasingBy (λ e. ordering_index (order_by path e)) es
rises es path map i j d le within = elim (cases_lt i j) [
  | inl lt ↦ no_less (get_or es i d).0 (get_or es j d).0 path (in_order es map i j d lt within).0
  | inr ge ↦ let same : i ≡ j = omega arith in subst (λ (k : ℕ). ordering_index (order_by path (get_or es i d)) ≤ ordering_index (order_by path (get_or es k d))) same (omega arith)
]

pub found_at : (es : List (List ℕ × Entry)) (path : List ℕ) (n : ℕ) (e : List ℕ × Entry) → IsPathMap es → n < length es → e ≡ get_or es n e
    → HoldsAt (λ d. order_by path d ≡ Equal) es n → Some e.1 ≡ entry_at es path
found_at es path n e map lt is found =
    let same : e.0 ≡ path = ap (λ (d : List ℕ × Entry). d.0) is ∙ exact_bytes (get_or es n e).0 path (found e) in
    sym ((held es map e.0 e.1).1 (n, lt, sym is)) ∙ ap (entry_at es) same

none_at : (es : List (List ℕ × Entry)) (path : List ℕ) → ((k : ℕ) (d : List ℕ × Entry) → k < length es → bytes_eq (get_or es k d).0 path ≡ false)
    → entry_at es path ≡ None
none_at [] path apart = refl
none_at (e ∷ es) path apart =
    let here : bytes_eq e.0 path ≡ false = apart 0 e (omega arith) in
    rw here (none_at es path (λ k d within. apart (suc k) d (omega arith)))

pub missing_at : (es : List (List ℕ × Entry)) (path : List ℕ) (n : ℕ)
    → IsPartitionPoint (λ d. order_by path d ≡ Less) (λ d. order_by path d ≡ Greater) es n → None ≡ entry_at es path
missing_at es path n parted = sym (none_at es path (λ k d within. elim (cases_lt k n) [
  | inl lt ↦ sym (is_eq-slice_cmp (get_or es k d).0 path) ∙ ap is_eq (parted.0 k d (omega arith) lt)
  | inr ge ↦ sym (is_eq-slice_cmp (get_or es k d).0 path) ∙ ap is_eq (parted.1 k d ge within)
]))
