-- Merge bases in byte order.
use Rattle.std.proofs.Common.{◌≡◌, ◌≢◌, ℕ, zero, suc, ◌+◌, ◌<◌, ◌≤◌, Bool, true, false, cond, not, ◌&&◌, List, [], ◌∷◌, ◌++◌, length, get_or, Some, Contains, IsPermutation, IsSorted, Ordering, Less, Equal, Greater, refl, sym, ap, subst, ◌∙◌, arith}
use Rattle.std.specs.Cmp.Lexicographic.{slice_cmp}
use Rattle.std.specs.List.{IsDistinct, list_any}
use Rattle.std.specs.Ordering.{is_eq, is_lt, nat_cmp, ordering_reverse}
use Rattle.std.specs.Str.{bytes_eq}
use Rattle.std.proofs.lemmas.Cmp.{nat_list_cmp_total, nat_list_eq_equiv}
use Rattle.std.proofs.lemmas.List.Sorted.{Contains-permutation, IsPermutation-sym}
use Rattle.std.proofs.lemmas.Map.Keys.{IsDistinct-IsPermutation, IsDistinct-push, Less-from_sorted, apart_from_distinct, sorted_from_all_adjacent}
use Rattle.std.proofs.lemmas.Map.Text.{is_eq-slice_cmp}
use Rattle.std.proofs.lemmas.Slice.Eq.{bytes_eq-Decides}
use Rattle.seq_base.specs.PathMaps.{is_less}
use Rattle.merge_base.specs.declared.graph.Node.{Node}
use Rattle.merge_base.specs.Graphs.{ParentsFirst, place_from}
use Rattle.merge_base.specs.Bases.{AreBases}
use Rattle.merge_base.specs.Marks.{are_both_marked, id_at, is_marked, left_of_both, parents_of_both}
use Rattle.merge_base.proofs.Marking.{place_at}
use Rattle.merge_base.proofs.Best.{AreSearched, left_are_bases, left_only}

none_passes : (p : List ℕ → Bool) (xs : List (List ℕ)) → ((x : List ℕ) → Contains xs x → p x ≡ false) → list_any p xs ≡ false
none_passes p [] each = refl
none_passes p (x ∷ xs) each =
    rw (each x (0, omega arith, refl)) (none_passes p xs (λ y c. let l : c.0 < length xs = c.1 in each y (suc c.0, omega arith, c.2)))

differ : (a b : List ℕ) → a ≢ b → bytes_eq a b ≡ false
differ a b ne = at (bytes_eq a b) refl
  where
    at : (t : Bool) → bytes_eq a b ≡ t → t ≡ false
    at true e = absurd (ne ((bytes_eq-Decides a b).0 e))
    at false e = refl

flips : (a b : List ℕ) → bytes_eq a b ≡ bytes_eq b a
flips a b = at (bytes_eq b a) refl
  where
    at : (t : Bool) → bytes_eq b a ≡ t → bytes_eq a b ≡ t
    at true e = (bytes_eq-Decides a b).1 (sym ((bytes_eq-Decides b a).0 e))
    at false e = differ a b (λ q. let o = (bytes_eq-Decides b a).1 (sym q) in cc)

none_distinct : IsDistinct bytes_eq []
unfolding IsDistinct
none_distinct = tt

left_distinct : (graph : List Node) (ones others without : List Bool) → ParentsFirst graph → (n : ℕ) → n ≤ length graph
    → IsDistinct bytes_eq (left_of_both graph ones others without n)
left_distinct graph ones others without first zero l = none_distinct
left_distinct graph ones others without first (suc n) l =
    at (left_distinct graph ones others without first n (omega arith)) (are_both_marked ones others n && not (is_marked without n))
  where
    new : (x : List ℕ) → Contains (left_of_both graph ones others without n) x → bytes_eq (id_at graph n) x ≡ false
    new x c =
        let was = left_only graph ones others without n x c in
        differ (id_at graph n) x
        (λ q.
        let twice : Some n ≡ Some was.at = sym (place_at graph n first (omega arith)) ∙ ap (place_from 0 graph) (q ∙ sym was.is) ∙ place_at graph was.at first (omega (arith, was.before)) in
        let e : n ≡ was.at = cc in
        omega (arith, e, was.before))

    at : IsDistinct bytes_eq (left_of_both graph ones others without n) → (t : Bool)
        → IsDistinct bytes_eq (cond t (left_of_both graph ones others without n ++ id_at graph n ∷ []) (left_of_both graph ones others without n))
    at rest true =
        IsDistinct-push nat_list_eq_equiv (left_of_both graph ones others without n) (id_at graph n) rest (none_passes (bytes_eq (id_at graph n)) (left_of_both graph ones others without n) new)
    at rest false = rest

rising : (xs : List (List ℕ)) → IsSorted (slice_cmp nat_cmp) xs → IsDistinct bytes_eq xs → (j k : ℕ) (d : List ℕ) → j < k → k < length xs
    → is_less (get_or xs j d) (get_or xs k d) ≡ true
rising xs sorted apart j k d l in' =
    ap is_lt (Less-from_sorted (slice_cmp nat_cmp) xs j k d (sorted_from_all_adjacent nat_list_cmp_total xs [] next) l in')
  where
    next : (k : ℕ) → k + 1 < length xs → slice_cmp nat_cmp (get_or xs k []) (get_or xs (k + 1) []) ≡ Less
    next k l = at (slice_cmp nat_cmp (get_or xs (k + 1) []) (get_or xs k [])) refl
      where
        at : (o : Ordering) → slice_cmp nat_cmp (get_or xs (k + 1) []) (get_or xs k []) ≡ o
            → slice_cmp nat_cmp (get_or xs k []) (get_or xs (k + 1) []) ≡ Less
        at Less e =
            let s = sorted k [] (omega arith) l in let t : is_lt (slice_cmp nat_cmp (get_or xs (k + 1) []) (get_or xs k [])) ≡ true = ap is_lt e in absurd cc
        at Equal e =
            let s : bytes_eq (get_or xs (k + 1) []) (get_or xs k []) ≡ true = sym (is_eq-slice_cmp (get_or xs (k + 1) []) (get_or xs k [])) ∙ ap is_eq e in
            let t = apart_from_distinct bytes_eq xs k (k + 1) [] apart (omega arith) l in
            let f = flips (get_or xs k []) (get_or xs (k + 1) []) in
            absurd cc
        at Greater e = nat_list_cmp_total.antisymm (get_or xs k []) (get_or xs (k + 1) []) ∙ ap ordering_reverse e

pub bases_are : (graph : List Node) (a b : List ℕ) (of_a of_b : List Bool) → AreSearched graph a b of_a of_b → (xs ys : List (List ℕ))
    → xs ≡ left_of_both graph of_a of_b (parents_of_both graph of_a of_b (length graph)) (length graph) → IsPermutation xs ys
    → IsSorted (slice_cmp nat_cmp) ys → AreBases graph a b ys
bases_are graph a b of_a of_b s xs ys is moved sorted = record {
  order =
      rising ys sorted (IsDistinct-IsPermutation bytes_eq flips xs ys moved (subst (IsDistinct bytes_eq) (sym is) (left_distinct graph of_a of_b _ s.first (length graph) (omega arith))));
  each = λ id.
      let base = left_are_bases graph a b of_a of_b s id in (
        λ c. base.0 (subst (λ (l : List (List ℕ)). Contains l id) is (Contains-permutation ys xs id (IsPermutation-sym xs ys moved) c)),
        λ h. Contains-permutation xs ys id moved (subst (λ (l : List (List ℕ)). Contains l id) (sym is) (base.1 h)),
      );
}
