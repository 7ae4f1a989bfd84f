-- A graph with one more commit.
use Rattle.std.proofs.Common.{◌≡◌, ◌≢◌, ℕ, zero, suc, ◌+◌, ◌<◌, ◌≤◌, Bool, true, false, cond, eqb, List, [], ◌∷◌, ◌++◌, length, take, get_or, Option, Some, None, is_some, refl, sym, ap, ◌∙◌, arith}
use Rattle.std.specs.Str.{bytes_eq}
use Rattle.std.specs.BTreeMap.{BTreeMap, get, is_at}
use Rattle.std.specs.Cmp.Lexicographic.{slice_cmp}
use Rattle.std.specs.Ordering.{nat_cmp}
use Rattle.std.proofs.lemmas.Bool.Decides.{Decides-eqb}
use Rattle.std.proofs.lemmas.Map.Text.{is_eq-slice_cmp}
use Rattle.std.proofs.lemmas.Slice.Eq.{bytes_eq-Decides}
use Rattle.merge_base.specs.declared.graph.Node.{Node}
use Rattle.merge_base.specs.Graphs.{ParentsFirst, first_missing, has, limit, place_from}
use Rattle.merge_base.specs.Shape.{IsGraph}
use Rattle.merge_base.proofs.Places.{place_has}

at_left : (xs : List Node) (y : Node) (k : ℕ) (d : Node) → k < length xs → get_or (xs ++ y ∷ []) k d ≡ get_or xs k d
at_left [] y k d l = absurd (omega arith)
at_left (x ∷ xs) y zero d l = refl
at_left (x ∷ xs) y (suc k) d l = at_left xs y k d (omega arith)

at_end : (xs : List Node) (y d : Node) → get_or (xs ++ y ∷ []) (length xs) d ≡ y
at_end [] y d = refl
at_end (x ∷ xs) y d = at_end xs y d

take_left : (xs : List Node) (y : Node) (k : ℕ) → k ≤ length xs → take k (xs ++ y ∷ []) ≡ take k xs
take_left xs y zero l = refl
take_left [] y (suc k) l = absurd (omega arith)
take_left (x ∷ xs) y (suc k) l = ap (λ (r : List Node). x ∷ r) (take_left xs y k (omega arith))

take_whole : (xs : List Node) → take (length xs) xs ≡ xs
take_whole [] = refl
take_whole (x ∷ xs) = ap (λ (r : List Node). x ∷ r) (take_whole xs)

length_more : (xs : List Node) (y : Node) → length (xs ++ y ∷ []) ≡ length xs + 1
length_more [] y = refl
length_more (x ∷ xs) y = let k = length_more xs y in omega (arith, k)

parents_first_more : (nodes : List Node) (node : Node) → ParentsFirst nodes → has nodes node.id ≡ false → first_missing nodes node.parents ≡ None
    → ParentsFirst (nodes ++ node ∷ [])
parents_first_more nodes node first new there k d l =
    elim (eqb k (length nodes)) as (λ t. eqb k (length nodes) ≡ t → (has (take k (nodes ++ node ∷ [])) (get_or (nodes ++ node ∷ []) k d).id ≡ false) × (first_missing (take k (nodes ++ node ∷ [])) (get_or (nodes ++ node ∷ []) k d).parents ≡ None)) [
      | true ↦ λ e.
          let same : k ≡ length nodes = (Decides-eqb k (length nodes)).0 e in
          let front : take k (nodes ++ node ∷ []) ≡ nodes = ap (λ (j : ℕ). take j (nodes ++ node ∷ [])) same ∙ take_left nodes node (length nodes) (omega arith) ∙ take_whole nodes in
          let here : get_or (nodes ++ node ∷ []) k d ≡ node = ap (λ (j : ℕ). get_or (nodes ++ node ∷ []) j d) same ∙ at_end nodes node d in
          ((λ i. has (front i) (here i).id) ∙ new, (λ i. first_missing (front i) (here i).parents) ∙ there)
      | false ↦ λ e.
          let ne : k ≢ length nodes = (λ q. let o = (Decides-eqb k (length nodes)).1 q in cc) in
          let before : k < length nodes = omega (arith, length_more nodes node, ne) in
          let front = take_left nodes node k (omega arith) in
          let here = at_left nodes node k d before in
          let was = first k d before in
          ((λ i. has (front i) (here i).id) ∙ was.0, (λ i. first_missing (front i) (here i).parents) ∙ was.1)
    ] refl

abbrev or_place : Option ℕ → Option ℕ → Option ℕ
or_place None other = other
or_place (Some place) other = Some place

or_none : (v : Option ℕ) → or_place v None ≡ v
or_none None = refl
or_none (Some p) = refl

not_there : (v : Option ℕ) → is_some v ≡ false → v ≡ None
not_there None e = refl
not_there (Some p) e = absurd cc

place_more : (n : ℕ) (nodes : List Node) (node : Node) (id : List ℕ)
    → place_from n (nodes ++ node ∷ []) id ≡ or_place (place_from n nodes id) (cond (bytes_eq node.id id) (Some (n + length nodes)) None)
place_more n [] node id = let k : n + 0 ≡ n = omega arith in rw k refl
place_more n (x ∷ nodes) node id = at (place_more (n + 1) nodes node id) (bytes_eq x.id id)
  where
    at : place_from (n + 1) (nodes ++ node ∷ []) id ≡ or_place (place_from (n + 1) nodes id) (cond (bytes_eq node.id id) (Some (n + 1 + length nodes)) None)
        → (t : Bool)
        → cond t (Some n) (place_from (n + 1) (nodes ++ node ∷ []) id) ≡ or_place (cond t (Some n) (place_from (n + 1) nodes id)) (cond (bytes_eq node.id id) (Some (n + suc (length nodes))) None)
    at rest true = refl
    at rest false =
        let k : n + 1 + length nodes ≡ n + suc (length nodes) = omega arith in rest
        ∙ ap (λ (m : ℕ). or_place (place_from (n + 1) nodes id) (cond (bytes_eq node.id id) (Some m) None)) k

pub graph_more : (nodes : List Node) (node : Node) (places after : BTreeMap (List ℕ) ℕ) (place : ℕ) → IsGraph nodes places → has nodes node.id ≡ false
    → first_missing nodes node.parents ≡ None → length nodes < limit → place ≡ length nodes
    → ((id : List ℕ) → get (slice_cmp nat_cmp) after id ≡ cond (is_at (slice_cmp nat_cmp node.id) id) (Some place) (get (slice_cmp nat_cmp) places id)) → IsGraph (nodes ++ node ∷ []) after
graph_more nodes node places after place was new there room is puts = record {
  parents_first = parents_first_more nodes node was.parents_first new there;
  small = omega (arith, length_more nodes node);
  placed =
      λ id. puts id ∙ ap (λ (b : Bool). cond b (Some place) (get (slice_cmp nat_cmp) places id)) (is_eq-slice_cmp node.id id)
      ∙ at id (bytes_eq node.id id) refl ∙ sym (place_more 0 nodes node id);
}
  where
    at : (id : List ℕ) (t : Bool) → bytes_eq node.id id ≡ t
        → cond (bytes_eq node.id id) (Some place) (get (slice_cmp nat_cmp) places id) ≡ or_place (place_from 0 nodes id) (cond (bytes_eq node.id id) (Some (0 + length nodes)) None)
    at id true e =
        let same : node.id ≡ id = (bytes_eq-Decides node.id id).0 e in
        let none : place_from 0 nodes id ≡ None = not_there (place_from 0 nodes id) (place_has 0 nodes id ∙ ap (has nodes) (sym same) ∙ new) in
        let k : place ≡ 0 + length nodes = omega (arith, is) in
        rw (e, none) (ap Some k)
    at id false e = rw e (was.placed id ∙ sym (or_none (place_from 0 nodes id)))
