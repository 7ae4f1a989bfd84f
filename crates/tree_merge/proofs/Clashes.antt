-- Paths below a path, among paths in order.
use Rattle.std.proofs.Common.{◌≡◌, ℕ, zero, suc, ◌+◌, ◌<◌, ◌≤◌, ◌≢◌, Bool, true, false, cond, ltb, eqb, ◌||◌, ◌&&◌, ◌==◌, slice_index, List, [], ◌∷◌, length, take, get_or, Ordering, refl, sym, ap, subst, ◌∙◌, arith}
use Rattle.std.specs.List.{list_any, starts_with}
use Rattle.std.specs.Ordering.{nat_cmp, is_lt, ordering_then}
use Rattle.std.specs.declared.cmp.Ordering.TheVariants.{Less, Equal, Greater}
use Rattle.std.specs.Cmp.Lexicographic.{slice_cmp}
use Rattle.std.proofs.lemmas.Bool.Decides.{Decides-eqb, Decides-ltb}
use Rattle.std.proofs.lemmas.List.{get_or_default, get_or-set_same, get_or-set_other}
use Rattle.std.proofs.Math.ListN.{set}
use Rattle.seq_base.specs.PathMaps.{is_less}
use Rattle.seq_base.specs.World.{is_below}
use Rattle.tree_merge.specs.declared.plans.Planned.{Planned}
use Rattle.tree_merge.specs.Plans.{AreInOrder, is_present, is_under}
use Rattle.tree_merge.proofs.Order.{not_both_less}
use Rattle.tree_merge.proofs.Steps.{not_less_self}

-- b begins with a
abbrev pub begins : List ℕ → List ℕ → Bool
begins b a = starts_with eqb b a

both : (a b : Bool) → a && b ≡ true → (a ≡ true) × (b ≡ true)
both true true e = (refl, refl)
both true false e = absurd cc
both false b e = absurd cc

ands : (a b : Bool) → a ≡ true → b ≡ true → a && b ≡ true
ands true b e f = f
ands false b e f = absurd cc

first_bytes : (x y : ℕ) (a b : List ℕ) → begins (y ∷ b) (x ∷ a) ≡ true → (x ≡ y) × (begins b a ≡ true)
first_bytes x y a b e = let p = both (eqb x y) (begins b a) e in ((Decides-eqb x y).0 p.0, p.1)

cmp_same : (x : ℕ) → nat_cmp x x ≡ Equal
cmp_same x = at (ltb x x) refl
  where
    at : (t : Bool) → ltb x x ≡ t → cond t Less (cond (eqb x x) Equal Greater) ≡ Equal
    at true e = let k : x < x = (Decides-ltb x x).0 e in absurd (omega arith)
    at false e = rw ((Decides-eqb x x).1 refl) refl

less_tail : (x : ℕ) (a b : List ℕ) → is_less (x ∷ a) (x ∷ b) ≡ is_less a b
less_tail x a b = ap (λ (o : Ordering). is_lt (ordering_then o (slice_cmp nat_cmp a b))) (cmp_same x)

-- what lies below a path comes behind it
pub folder_less : (a b : List ℕ) → is_below a b ≡ true → is_less a b ≡ true
folder_less [] [] e = absurd cc
folder_less [] (y ∷ b) e = refl
folder_less (x ∷ a) [] e = absurd cc
folder_less (x ∷ a) (y ∷ b) e =
    let p = both (begins (y ∷ b) (x ∷ a)) (slice_index b (length a) == 47) e in
    let q = first_bytes x y a b p.0 in
    let k = folder_less a b (ands (begins b a) _ q.1 p.1) in
    subst (λ (z : ℕ). is_less (x ∷ a) (z ∷ b) ≡ true) q.0 (less_tail x a b ∙ k)

head_le : (x y : ℕ) (a b : List ℕ) → is_less (x ∷ a) (y ∷ b) ≡ true → x ≤ y
head_le x y a b e = at (ltb x y) refl (eqb x y) refl e
  where
    at : (t : Bool) → ltb x y ≡ t → (u : Bool) → eqb x y ≡ u
        → is_lt (ordering_then (cond t Less (cond u Equal Greater)) (slice_cmp nat_cmp a b)) ≡ true → x ≤ y
    at true l u f e = let k : x < y = (Decides-ltb x y).0 l in omega arith
    at false l true f e = let k : x ≡ y = (Decides-eqb x y).0 f in omega arith
    at false l false f e = absurd cc

-- what stands between a path and one that begins with it begins with it too
pub begins_between : (a b c : List ℕ) → begins c a ≡ true → is_less a b ≡ true → is_less b c ≡ true → begins b a ≡ true
begins_between [] b c e l m = refl
begins_between (x ∷ a) b [] e l m = absurd cc
begins_between (x ∷ a) [] (z ∷ c) e l m = absurd cc
begins_between (x ∷ a) (y ∷ b) (z ∷ c) e l m =
    let p = first_bytes x z a c e in
    let same : x ≡ y = omega (arith, head_le x y a b l, head_le y z b c m, p.0) in
    let l' : is_less a b ≡ true = sym (less_tail x a b) ∙ subst (λ (w : ℕ). is_less (x ∷ a) (w ∷ b) ≡ true) (sym same) l in
    let m' : is_less b c ≡ true = sym (less_tail x b c) ∙ subst (λ (w : ℕ). is_less (x ∷ b) (w ∷ c) ≡ true) (sym p.0) (subst (λ (w : ℕ). is_less (w ∷ b) (z ∷ c) ≡ true) (sym same) m) in
    ands (eqb x y) (begins b a) ((Decides-eqb x y).1 same) (begins_between a b c p.1 l' m')

under_parts : (u r : Planned) → is_under u r ≡ true → is_below u.path r.path ≡ true
under_parts u r e = (both (is_present r.choice) (is_below u.path r.path) (both (is_present u.choice) _ e).1).1

-- nothing before a path lies below it
pub none_under_before : (rows : List Planned) (i k : ℕ) (u d : Planned) → AreInOrder rows → u ≡ get_or rows i u → i < length rows → k < i + 1
    → is_under u (get_or rows k d) ≡ false
none_under_before rows i k u d order at_i within le = at (is_under u (get_or rows k d)) refl
  where
    less : is_below u.path (get_or rows k d).path ≡ true → is_less (get_or rows i d).path (get_or rows k d).path ≡ true
    less e =
        subst (λ (w : Planned). is_less w.path (get_or rows k d).path ≡ true) (at_i ∙ get_or_default rows i u d within) (folder_less u.path (get_or rows k d).path e)

    at : (t : Bool) → is_under u (get_or rows k d) ≡ t → t ≡ false
    at false e = refl
    at true e = elim (eqb k i) as (λ t. eqb k i ≡ t → true ≡ false) [
      | true ↦ λ same. let m = less (under_parts u (get_or rows k d) e) in let n = subst (λ (j : ℕ). is_less (get_or rows i d).path (get_or rows j d).path ≡ true) ((Decides-eqb k i).0 same) m in let o = not_less_self (get_or rows i d).path in cc
      | false ↦ λ other. let ne : k ≢ i = λ q. let o = (Decides-eqb k i).1 q in cc in let m : is_less (get_or rows i d).path (get_or rows k d).path ≡ false = not_both_less (get_or rows k d).path (get_or rows i d).path (order k i d (omega (arith, ne)) within) in let n = less (under_parts u (get_or rows k d) e) in cc
    ] refl

-- where one behind a path does not begin with it, neither does any that follows
pub none_under_behind : (rows : List Planned) (i j k : ℕ) (u d : Planned) → AreInOrder rows → u ≡ get_or rows i u → i < j → j ≤ k → k < length rows
    → begins (get_or rows j d).path u.path ≡ false → is_under u (get_or rows k d) ≡ false
none_under_behind rows i j k u d order at_i lt le within none = at (is_under u (get_or rows k d)) refl
  where
    is_u : get_or rows i d ≡ u
    is_u = get_or_default rows i d u (omega arith) ∙ sym at_i

    begins_k : is_under u (get_or rows k d) ≡ true → begins (get_or rows k d).path u.path ≡ true
    begins_k e =
        (both (begins (get_or rows k d).path u.path) (slice_index (get_or rows k d).path (length u.path) == 47) (under_parts u (get_or rows k d) e)).0

    at : (t : Bool) → is_under u (get_or rows k d) ≡ t → t ≡ false
    at false e = refl
    at true e = elim (eqb j k) as (λ t. eqb j k ≡ t → true ≡ false) [
      | true ↦ λ same. let n = subst (λ (m : ℕ). begins (get_or rows m d).path u.path ≡ true) (sym ((Decides-eqb j k).0 same)) (begins_k e) in cc
      | false ↦ λ other.
          let ne : j ≢ k = λ q. let o = (Decides-eqb j k).1 q in cc in
          let l = subst (λ (w : Planned). is_less w.path (get_or rows j d).path ≡ true) is_u (order i j d lt (omega arith)) in
          let n = begins_between u.path (get_or rows j d).path (get_or rows k d).path (begins_k e) l (order j k d (omega (arith, ne)) within) in
          cc
    ] refl

pub any_none : {X : Type 0} (test : X → Bool) (xs : List X) (i : ℕ) → ((k : ℕ) (d : X) → k < i → k < length xs → test (get_or xs k d) ≡ false)
    → list_any test (take i xs) ≡ false
any_none test [] zero h = refl
any_none test [] (suc i) h = refl
any_none test (x ∷ xs) zero h = refl
any_none test (x ∷ xs) (suc i) h = rw (h zero x (omega arith) (omega arith)) (any_none test xs i (λ k d l m. h (suc k) d (omega arith) (omega arith)))

pub any_until : {X : Type 0} (test : X → Bool) (xs : List X) (j : ℕ) → ((k : ℕ) (d : X) → j ≤ k → k < length xs → test (get_or xs k d) ≡ false)
    → list_any test (take j xs) ≡ list_any test xs
any_until test [] zero h = refl
any_until test [] (suc j) h = refl
any_until test (x ∷ xs) zero h =
    rw (h zero x (omega arith) (omega arith)) (any_until test xs zero (λ k d l m. h (suc k) d (omega arith) (omega arith)))
any_until test (x ∷ xs) (suc j) h = ap (λ (b : Bool). test x || b) (any_until test xs j (λ k d l m. h (suc k) d (omega arith) (omega arith)))

pub or_false : (a : Bool) → a ≡ (a || false)
or_false true = refl
or_false false = refl

pub or_true : (a : Bool) → true ≡ (a || true)
or_true true = refl
or_true false = refl

below_test : (k j : ℕ) → k < j → ltb k j ≡ true
below_test k j l = (Decides-ltb k j).1 l

not_below_test : (k j : ℕ) → j ≤ k → ltb k j ≡ false
not_below_test k j l = at (ltb k j) refl
  where
    at : (t : Bool) → ltb k j ≡ t → t ≡ false
    at true e = let o : k < j = (Decides-ltb k j).0 e in absurd (omega arith)
    at false e = refl

-- marks before the first row that is looked at
pub marks_none : (a t : Bool) (k j : ℕ) → (k < j → t ≡ false) → a ≡ (a || (ltb k j && t))
marks_none a t k j h = at (ltb k j) refl
  where
    at : (b : Bool) → ltb k j ≡ b → a ≡ (a || (b && t))
    at true e = or_false a ∙ ap (λ (x : Bool). a || x) (sym (h ((Decides-ltb k j).0 e)))
    at false e = or_false a

-- one row more, which is not marked
pub marks_kept : (a b t : Bool) (k j : ℕ) → b ≡ (a || (ltb k j && t)) → (k ≡ j → t ≡ false) → b ≡ (a || (ltb k (j + 1) && t))
marks_kept a b t k j is h = elim (ltb k j) as (λ x. ltb k j ≡ x → b ≡ (a || (ltb k (j + 1) && t))) [
  | true ↦ λ e. let l : k < j = (Decides-ltb k j).0 e in is ∙ rw (e, below_test k (j + 1) (omega arith)) refl
  | false ↦ λ e. elim (eqb k j) as (λ y. eqb k j ≡ y → b ≡ (a || (ltb k (j + 1) && t))) [
    | true ↦ λ f. let same = (Decides-eqb k j).0 f in is ∙ rw (e, below_test k (j + 1) (omega arith), h same) refl
    | false ↦ λ f. let ne : k ≢ j = (λ q. let o = (Decides-eqb k j).1 q in cc) in let nl : j ≤ k = at_least e in is ∙ rw (e, not_below_test k (j + 1) (omega (arith, ne))) refl
  ] refl
] refl
  where
    at_least : ltb k j ≡ false → j ≤ k
    at_least e = grind (arith, Decides-ltb)

-- past the rows that can be marked, the test of place is not needed
pub marks_done : (a b t : Bool) (k j : ℕ) → b ≡ (a || (ltb k j && t)) → (j ≤ k → t ≡ false) → b ≡ (a || t)
marks_done a b t k j is h = elim (ltb k j) as (λ x. ltb k j ≡ x → b ≡ (a || t)) [
  | true ↦ λ e. is ∙ rw e refl
  | false ↦ λ e. is ∙ rw (e, h (at_least e)) refl
] refl
  where
    at_least : ltb k j ≡ false → j ≤ k
    at_least e = grind (arith, Decides-ltb)

-- one row more, which is marked
pub marks_set : (old marks : List Bool) (t : ℕ → Bool) (j n : ℕ) → length marks ≡ n → j < n → t j ≡ true
    → ((k : ℕ) → k < n → get_or marks k false ≡ (get_or old k false || (ltb k j && t k))) → (k : ℕ) → k < n
    → get_or (set marks j true) k false ≡ (get_or old k false || (ltb k (j + 1) && t k))
marks_set old marks t j n len within here is k l =
    elim (eqb k j) as (λ y. eqb k j ≡ y → get_or (set marks j true) k false ≡ (get_or old k false || (ltb k (j + 1) && t k))) [
      | true ↦ λ f.
          let same = (Decides-eqb k j).0 f in
          let k' : t k ≡ true = ap t same ∙ here in
          let m : get_or (set marks j true) k false ≡ true = ap (λ (i : ℕ). get_or (set marks j true) i false) same ∙ get_or-set_same marks j true false (omega arith) in
          m ∙ or_true (get_or old k false) ∙ rw (below_test k (j + 1) (omega arith), k') refl
      | false ↦ λ f.
          let ne : k ≢ j = (λ q. let o = (Decides-eqb k j).1 q in cc) in
          get_or-set_other marks j k true false ne ∙ marks_kept (get_or old k false) (get_or marks k false) (t k) k j (is k l) (λ q. absurd (ne q))
    ] refl
