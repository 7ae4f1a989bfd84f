-- What a change in a draft does to the world as it will be.
use Rattle.std.proofs.Common.{◌≡◌, ℕ, Bool, true, false, not, ◌&&◌, cond, List, [], ◌∷◌, ◌++◌, None, refl, sym, ap, ◌∙◌}
use Rattle.std.proofs.lemmas.Bool.{and_from, and_parts, not-true, not_from_false, or_from, or_parts}
use Rattle.std.specs.Cmp.Lexicographic.{nat_list_cmp_total}
use Rattle.std.specs.Cmp.{eq_by_cmp_equiv}
use Rattle.std.specs.FinMap as map
use Rattle.std.specs.FinMap.{get-insert, get-remove, same_map, slice_cmp-IsAntisymmetric, nat_cmp-IsAntisymmetric}
use Rattle.std.specs.List.{AllByRecursion}
use Rattle.std.specs.Ordering.{eq_by_cmp}
use Rattle.seq_base.specs.StorePaths.{is_store_path}
use Rattle.seq_base.specs.World.{World, path_cmp}
use Rattle.seq_base.proofs.Shape.{same_path}
use Rattle.seq_outside.specs.declared.write.Write.{Write}
use Rattle.seq_outside.specs.declared.write.Write.TheVariants.{Put, Remove}
use Rattle.seq_outside.specs.Drafts.{AreApart, is_draft, with_last, without}
use Rattle.seq_outside.specs.Writes.{HasStorePath, after, is_at, is_written, left_by, path_of, written}

-- ---- one write

pub apart_back : (x y : Write) → is_at (path_of x) y ≡ false → is_at (path_of y) x ≡ false
apart_back x y e = let laws = eq_by_cmp_equiv nat_list_cmp_total in laws.symm (path_of y) (path_of x) ∙ e

pub get_after : (w : World) (x : Write) (q : List ℕ) → map.get (after w x) q ≡ cond (is_at q x) (left_by x) (map.get w q)
get_after w (Put path bytes) q = get-insert nat_list_cmp_total w path bytes q
get_after w (Remove path) q = get-remove nat_list_cmp_total w path q

pub same_world : (v w : World) → ((q : List ℕ) → map.get v q ≡ map.get w q) → v ≡ w
same_world v w same = same_map nat_list_cmp_total (slice_cmp-IsAntisymmetric nat_cmp-IsAntisymmetric) v w same

-- ---- writes, one after another

pub written-append : (w : World) (xs ys : List Write) → written w (xs ++ ys) ≡ written (written w xs) ys
written-append w [] ys = refl
written-append w (x ∷ xs) ys = written-append (after w x) xs ys

pub written_elsewhere : (w : World) (xs : List Write) (q : List ℕ) → is_written xs q ≡ false → map.get (written w xs) q ≡ map.get w q
written_elsewhere w [] q none = refl
written_elsewhere w (x ∷ xs) q none =
    let both = or_parts (is_at q x) (is_written xs q) none in
    written_elsewhere (after w x) xs q both.1 ∙ get_after w x q ∙ ap (λ (b : Bool). cond b (left_by x) (map.get w q)) both.0

-- a write that no later one covers
pub first_stays : (w : World) (x : Write) (xs : List Write) (q : List ℕ) → is_at q x ≡ true → is_written xs (path_of x) ≡ false
    → map.get (written (after w x) xs) q ≡ left_by x
first_stays w x xs q here none =
    written_elsewhere (after w x) xs q (ap (is_written xs) (same_path q (path_of x) here) ∙ none) ∙ get_after w x q ∙ ap (λ (b : Bool). cond b (left_by x) (map.get w q)) here

-- worlds that agree at a path do so after the same writes
written_same : (v w : World) (xs : List Write) (q : List ℕ) → map.get v q ≡ map.get w q → map.get (written v xs) q ≡ map.get (written w xs) q
written_same v w [] q same = same
written_same v w (x ∷ xs) q same =
    written_same (after v x) (after w x) xs q (get_after v x q ∙ ap (cond (is_at q x) (left_by x)) same ∙ sym (get_after w x q))

-- a path that the write does not name, which names another
pub other_path : (path q : List ℕ) (x : Write) → is_at path x ≡ true → eq_by_cmp path_cmp q path ≡ false → is_at q x ≡ false
other_path path q x here other = ap (eq_by_cmp path_cmp q) (sym (same_path path (path_of x) here)) ∙ other

-- the writes but those of the path do the same elsewhere
pub without_elsewhere : (w : World) (path : List ℕ) (xs : List Write) (q : List ℕ) → eq_by_cmp path_cmp q path ≡ false
    → map.get (written w (without path xs)) q ≡ map.get (written w xs) q
without_elsewhere w path [] q other = refl
without_elsewhere w path (x ∷ xs) q other = at (λ v. without_elsewhere v path xs q other) (is_at path x) refl
  where
    at : ((v : World) → map.get (written v (without path xs)) q ≡ map.get (written v xs) q) → (b : Bool) → is_at path x ≡ b
        → map.get (written w (cond b (without path xs) (x ∷ without path xs))) q ≡ map.get (written (after w x) xs) q
    at later true here =
        later w
        ∙ written_same w (after w x) xs q (sym (get_after w x q ∙ ap (λ (b : Bool). cond b (left_by x) (map.get w q)) (other_path path q x here other)))
    at later false _ = later (after w x)

-- ---- a change in a draft

pub written_last : (w : World) (xs : List Write) (x : Write) → written w (with_last xs x) ≡ after (written w xs) x
written_last w xs x =
    written-append w (without (path_of x) xs) (x ∷ [])
    ∙ same_world (after (written w (without (path_of x) xs)) x) (after (written w xs) x) (λ q.
    get_after (written w (without (path_of x) xs)) x q ∙ at q (is_at q x) refl ∙ sym (get_after (written w xs) x q))
  where
    at : (q : List ℕ) (b : Bool) → is_at q x ≡ b
        → cond b (left_by x) (map.get (written w (without (path_of x) xs)) q) ≡ cond b (left_by x) (map.get (written w xs) q)
    at q true e = refl
    at q false e = without_elsewhere w (path_of x) xs q e

unwritten_without : (path : List ℕ) (xs : List Write) (q : List ℕ) → is_written xs q ≡ false → is_written (without path xs) q ≡ false
unwritten_without path [] q none = refl
unwritten_without path (x ∷ xs) q none =
    let both = or_parts (is_at q x) (is_written xs q) none in at both.0 (unwritten_without path xs q both.1) (is_at path x)
  where
    at : is_at q x ≡ false → is_written (without path xs) q ≡ false → (b : Bool)
        → is_written (cond b (without path xs) (x ∷ without path xs)) q ≡ false
    at here later true = later
    at here later false = or_from (is_at q x) (is_written (without path xs) q) here later

pub path_without : (path : List ℕ) (xs : List Write) → is_written (without path xs) path ≡ false
path_without path [] = refl
path_without path (x ∷ xs) = at (path_without path xs) (is_at path x) refl
  where
    at : is_written (without path xs) path ≡ false → (b : Bool) → is_at path x ≡ b
        → is_written (cond b (without path xs) (x ∷ without path xs)) path ≡ false
    at later true _ = later
    at later false e = or_from (is_at path x) (is_written (without path xs) path) e later

pub without_none : (path : List ℕ) (xs : List Write) → is_written xs path ≡ false → without path xs ≡ xs
without_none path [] none = refl
without_none path (x ∷ xs) none =
    let both = or_parts (is_at path x) (is_written xs path) none in rw both.0 (ap (λ (ys : List Write). x ∷ ys) (without_none path xs both.1))

pub apart_without : (path : List ℕ) (xs : List Write) → AreApart xs → AreApart (without path xs)
apart_without path [] apart = tt
apart_without path (x ∷ xs) apart = at (apart_without path xs apart.1) (is_at path x)
  where
    at : AreApart (without path xs) → (b : Bool) → AreApart (cond b (without path xs) (x ∷ without path xs))
    at later true = later
    at later false = (unwritten_without path xs (path_of x) apart.0, later)

unwritten_behind : (xs : List Write) (x : Write) (q : List ℕ) → is_written xs q ≡ false → is_at q x ≡ false → is_written (xs ++ x ∷ []) q ≡ false
unwritten_behind [] x q none other = or_from (is_at q x) false other refl
unwritten_behind (y ∷ ys) x q none other =
    let both = or_parts (is_at q y) (is_written ys q) none in or_from (is_at q y) (is_written (ys ++ x ∷ []) q) both.0 (unwritten_behind ys x q both.1 other)

apart_behind : (xs : List Write) (x : Write) → AreApart xs → is_written xs (path_of x) ≡ false → AreApart (xs ++ x ∷ [])
apart_behind [] x apart none = (refl, tt)
apart_behind (y ∷ ys) x apart none =
    let both = or_parts (is_at (path_of x) y) (is_written ys (path_of x)) none in
    (unwritten_behind ys x (path_of y) apart.0 (apart_back x y both.0), apart_behind ys x apart.1 both.1)

pub apart_last : (xs : List Write) (x : Write) → AreApart xs → AreApart (with_last xs x)
apart_last xs x apart = apart_behind (without (path_of x) xs) x (apart_without (path_of x) xs apart) (path_without (path_of x) xs)

module _ (P : Write → Type 0) where
  all_without : (path : List ℕ) (xs : List Write) → AllByRecursion P xs → AllByRecursion P (without path xs)
  all_without path [] all = tt
  all_without path (x ∷ xs) all = at (all_without path xs all.1) (is_at path x)
    where
      at : AllByRecursion P (without path xs) → (b : Bool) → AllByRecursion P (cond b (without path xs) (x ∷ without path xs))
      at later true = later
      at later false = (all.0, later)

  all_behind : (xs : List Write) (x : Write) → AllByRecursion P xs → P x → AllByRecursion P (xs ++ x ∷ [])
  all_behind [] x all one = (one, tt)
  all_behind (y ∷ ys) x all one = (all.0, all_behind ys x all.1 one)

  pub all_last : (xs : List Write) (x : Write) → AllByRecursion P xs → P x → AllByRecursion P (with_last xs x)
  all_last xs x all one = all_behind (without (path_of x) xs) x (all_without (path_of x) xs all) one

-- ---- the test

pub draft_from : (xs : List Write) → AreApart xs → AllByRecursion HasStorePath xs → is_draft xs ≡ true
draft_from [] apart paths = refl
draft_from (x ∷ xs) apart paths =
    and_from (not (is_written xs (path_of x)) && is_store_path (path_of x)) (is_draft xs)
    (and_from (not (is_written xs (path_of x))) (is_store_path (path_of x)) (not_from_false (is_written xs (path_of x)) apart.0) paths.0) (draft_from xs apart.1 paths.1)

pub draft_apart : (xs : List Write) → is_draft xs ≡ true → AreApart xs
draft_apart [] h = tt
draft_apart (x ∷ xs) h =
    let outer = and_parts (not (is_written xs (path_of x)) && is_store_path (path_of x)) (is_draft xs) h in
    let inner = and_parts (not (is_written xs (path_of x))) (is_store_path (path_of x)) outer.0 in
    (not-true (is_written xs (path_of x)) inner.0, draft_apart xs outer.1)

-- ---- what `Changes` needs of it, with the writes as they were

module _ (xs ys : List Write) (x : Write) (is : ys ≡ with_last xs x) where
  pub set_done : (w : World) → written w ys ≡ after (written w xs) x
  set_done w = rw is (written_last w xs x)

pub removed_absent : (w : World) (path : List ℕ) → None ≡ map.get w path → w ≡ map.remove w path
removed_absent w path absent =
    same_world w (map.remove w path) (λ q. at q (eq_by_cmp path_cmp q path) refl ∙ sym (get-remove nat_list_cmp_total w path q))
  where
    at : (q : List ℕ) (b : Bool) → eq_by_cmp path_cmp q path ≡ b → map.get w q ≡ cond (eq_by_cmp path_cmp q path) None (map.get w q)
    at q true same = rw same (ap (map.get w) (same_path q path same) ∙ sym absent)
    at q false other = rw other refl
