-- Looking up what a map from paths holds.
use Rattle.std.proofs.Common.{◌≡◌, ℕ, zero, suc, ◌<◌, Bool, true, false, cond, List, [], ◌∷◌, length, Option, Some, Ordering, refl, sym, ap, subst, ◌∙◌, arith}
use Rattle.std.specs.Prelude.{Contains, ◌≢◌, ◌↔◌, slice_index_or}
use Rattle.std.specs.List.{AllPairs}
use Rattle.std.specs.Ordering.{nat_cmp, is_eq, is_lt}
use Rattle.std.specs.declared.cmp.Ordering.TheVariants.{Less, Equal, Greater}
use Rattle.std.proofs.lemmas.Map.Text.{is_eq-slice_cmp}
use Rattle.std.specs.Cmp.Lexicographic.{slice_cmp}
use Rattle.std.specs.Str.{bytes_eq}
use Rattle.std.proofs.lemmas.Bool.{false_from_ne_true}
use Rattle.std.proofs.lemmas.List.Elements.{All-from_recursion, All-contains}
use Rattle.std.proofs.lemmas.List.Kept.{AllPairs-cons}
use Rattle.std.proofs.lemmas.Slice.Eq.{bytes_eq-Decides}
use Rattle.seq_base.specs.declared.map.Entry.{Entry}
use Rattle.seq_base.specs.PathMaps.{AreApart, IsAscending, IsPathMap, clashes, entry_at, is_less, put}

is_equal : (o : Ordering) → is_eq o ≡ true → o ≡ Equal
is_equal Equal h = refl
is_equal Less h = absurd cc
is_equal Greater h = absurd cc

same : (a : List ℕ) → bytes_eq a a ≡ true
same a = (bytes_eq-Decides a a).1 refl

other : (a b : List ℕ) → (b ≡ a → ⊥) → bytes_eq a b ≡ false
other a b ne = false_from_ne_true (bytes_eq a b) (λ is. ne (sym ((bytes_eq-Decides a b).0 is)))

pub put_found : (es : List (List ℕ × Entry)) (path : List ℕ) (entry : Entry) → entry_at (put es path entry) path ≡ Some entry
put_found [] path entry = rw (same path) refl
put_found (e ∷ es) path entry = at (put_found es path entry) (bytes_eq e.0 path) refl (is_less path e.0)
  where
    at : entry_at (put es path entry) path ≡ Some entry → (t : Bool) → bytes_eq e.0 path ≡ t → (u : Bool)
        → entry_at (cond t ((path, entry) ∷ es) (cond u ((path, entry) ∷ e ∷ es) (e ∷ put es path entry))) path ≡ Some entry
    at later true is u = rw (same path) refl
    at later false is true = rw (same path) refl
    at later false is false = rw is later

pub put_others : (es : List (List ℕ × Entry)) (path : List ℕ) (entry : Entry) (q : List ℕ) → q ≢ path → entry_at (put es path entry) q ≡ entry_at es q
put_others [] path entry q ne = rw (other path q ne) refl
put_others (e ∷ es) path entry q ne = at (put_others es path entry q ne) (bytes_eq e.0 path) refl (is_less path e.0)
  where
    at : entry_at (put es path entry) q ≡ entry_at es q → (t : Bool) → bytes_eq e.0 path ≡ t → (u : Bool)
        → entry_at (cond t ((path, entry) ∷ es) (cond u ((path, entry) ∷ e ∷ es) (e ∷ put es path entry))) q ≡ cond (bytes_eq e.0 q) (Some e.1) (entry_at es q)
    at later true is u =
        let here : e.0 ≡ path = (bytes_eq-Decides e.0 path).0 is in
        rw (other path q ne, other e.0 q (λ k. ne (k ∙ here))) refl
    at later false is true = rw (other path q ne) refl
    at later false is false = ap (λ (o : Option Entry). cond (bytes_eq e.0 q) (Some e.1) o) later

itself : (a : List ℕ) → slice_cmp nat_cmp a a ≡ Equal
itself a = is_equal (slice_cmp nat_cmp a a) (is_eq-slice_cmp a a ∙ same a)

not_less_itself : (a : List ℕ) → is_less a a ≡ true → ⊥
not_less_itself a h = let k = ap is_lt (itself a) in cc

held_from : (es : List (List ℕ × Entry)) (path : List ℕ) (entry : Entry) → entry_at es path ≡ Some entry → Contains es (path, entry)
held_from [] path entry h = absurd cc
held_from (e ∷ es) path entry h =
    elim (bytes_eq e.0 path) as (λ t. bytes_eq e.0 path ≡ t → cond t (Some e.1) (entry_at es path) ≡ Some entry → Contains (e ∷ es) (path, entry)) [
      | true ↦ λ is now.
          let here : e.0 ≡ path = (bytes_eq-Decides e.0 path).0 is in
          let value : e.1 ≡ entry = cc in
          (0, omega arith, pair e path entry here value)
      | false ↦ λ is later. let k = held_from es path entry later in (suc k.0, omega (arith, k.1), k.2)
    ] refl h
  where
    pair : (e : List ℕ × Entry) (path : List ℕ) (entry : Entry) → e.0 ≡ path → e.1 ≡ entry → e ≡ (path, entry)
    pair e path entry p v = ap (λ (a : List ℕ). (a, e.1)) p ∙ ap (λ (b : Entry). (path, b)) v

held_at : (es : List (List ℕ × Entry)) → IsAscending es → (path : List ℕ) (entry : Entry) → Contains es (path, entry) → entry_at es path ≡ Some entry
held_at [] up path entry there = let no = there.1 in absurd (omega arith)
held_at (e ∷ es) up path entry there = at (held_at es up.1 path entry) there.0 there.1 there.2
  where
    at : (Contains es (path, entry) → entry_at es path ≡ Some entry) → (k : ℕ) → k < length (e ∷ es)
        → slice_index_or (e ∷ es) k (path, entry) ≡ (path, entry) → entry_at (e ∷ es) path ≡ Some entry
    at later zero lt is =
        let here : e.0 ≡ path = ap (λ (d : List ℕ × Entry). d.0) is in
        let value : e.1 ≡ entry = ap (λ (d : List ℕ × Entry). d.1) is in
        rw ((bytes_eq-Decides e.0 path).1 here) (ap Some value)
    at later (suc k) lt is =
        let there : Contains es (path, entry) = (k, omega arith, is) in
        let less : is_less e.0 path ≡ true = All-contains (λ d. is_less e.0 d.0 ≡ true) es (path, entry) (All-from_recursion (λ d. is_less e.0 d.0 ≡ true) es up.0) there in
        rw (other e.0 path (λ same. not_less_itself path (subst (λ (a : List ℕ). is_less a path ≡ true) (sym same) less))) (later there)

pub held : (es : List (List ℕ × Entry)) → IsPathMap es → (path : List ℕ) (entry : Entry) → (entry_at es path ≡ Some entry) ↔ Contains es (path, entry)
held es map path entry = (held_from es path entry, held_at es map.ascending path entry)

pairs : (es : List (List ℕ × Entry)) → IsAscending es → AreApart es → AllPairs (λ a b. (is_less a.0 b.0 ≡ true) × (clashes a.0 b.0 ≡ false)) es
pairs [] up apart = λ i j d lt within. absurd (omega arith)
pairs (e ∷ es) up apart =
    AllPairs-cons (λ a b. (is_less a.0 b.0 ≡ true) × (clashes a.0 b.0 ≡ false)) e es
    (λ k d within. (All-from_recursion (λ b. is_less e.0 b.0 ≡ true) es up.0 k d within, All-from_recursion (λ b. clashes e.0 b.0 ≡ false) es apart.0 k d within))
    (pairs es up.1 apart.1)

pub in_order : (es : List (List ℕ × Entry)) → IsPathMap es → AllPairs (λ a b. (is_less a.0 b.0 ≡ true) × (clashes a.0 b.0 ≡ false)) es
in_order es map = pairs es map.ascending map.apart
