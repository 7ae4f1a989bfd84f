-- The changes of a draft, with those of objects before all others: they lead to the same world, and nothing blocks them.
use Rattle.std.proofs.Common.{◌≡◌, ◌⊎◌, inl, inr, ℕ, zero, suc, Bool, true, false, not, cond, List, [], ◌∷◌, ◌++◌, take, is_some, refl, sym, ap, ◌∙◌}
use Rattle.std.specs.Prelude.{codes, filter}
use Rattle.std.proofs.lemmas.Bool.{and_from, and_parts, both_ways, not-true, not_from_false, or_from, or_left, or_parts, or_right}
use Rattle.std.specs.FinMap as map
use Rattle.std.specs.Ordering.{eq_by_cmp}
use Rattle.seq_base.specs.World.{World, is_below, is_blocked, path_cmp}
use Rattle.seq_base.proofs.Below.{behind, below_at}
use Rattle.seq_base.proofs.Shape.{equal_to_itself, free_from, free_of, same_path, still_free, there_after_remove}
use Rattle.seq_outside.specs.declared.write.Write.{Write}
use Rattle.seq_outside.specs.declared.write.Write.TheVariants.{Put, Remove}
use Rattle.seq_outside.specs.Drafts.{AreApart}
use Rattle.seq_outside.specs.Writes.{AreObjectsFirst, IsFront, IsOnTheWay, after, are_free, is_about_objects, is_at, is_free, is_object_file, is_of_objects, is_of_others, is_written, left_by, objects_first, path_of, written}
use Rattle.seq_outside.proofs.Drafts.{apart_back, first_stays, get_after, same_world, written-append, written_elsewhere}

-- ---- paths below the folder of objects

-- of two fronts of a path, each with a slash behind it, one is the other, or lies below it
fronts : (p o r s : List ℕ) → p ++ 47 ∷ r ≡ o ++ 47 ∷ s → ((t : List ℕ) × (p ≡ o ++ 47 ∷ t)) ⊎ ((t : List ℕ) × (o ++ 47 ∷ [] ≡ p ++ 47 ∷ t))
fronts [] [] r s e = inr ([], refl)
fronts [] (c ∷ o) r s e = let is : 47 ≡ c = cc in inr (o ++ 47 ∷ [], ap (λ (b : ℕ). b ∷ o ++ 47 ∷ []) (sym is))
fronts (b ∷ p) [] r s e = let is : b ≡ 47 = cc in inl (p, ap (λ (c : ℕ). c ∷ p) is)
fronts (b ∷ p) (c ∷ o) r s e =
    let is : b ≡ c = cc in
    let others : p ++ 47 ∷ r ≡ o ++ 47 ∷ s = cc in
    elim (fronts p o r s others) as (λ _. ((t : List ℕ) × (b ∷ p ≡ (c ∷ o) ++ 47 ∷ t)) ⊎ ((t : List ℕ) × ((c ∷ o) ++ 47 ∷ [] ≡ (b ∷ p) ++ 47 ∷ t))) [
      | inl here ↦ inl (here.0, let h = here.1 in cc)
      | inr there ↦ inr (there.0, let h = there.1 in cc)
    ]

append_assoc_slash : (o s r : List ℕ) → (o ++ 47 ∷ s) ++ 47 ∷ r ≡ o ++ 47 ∷ (s ++ 47 ∷ r)
append_assoc_slash [] s r = refl
append_assoc_slash (c ∷ o) s r = ap (λ (xs : List ℕ). c ∷ xs) (append_assoc_slash o s r)

below_below : (o q p : List ℕ) → is_below o q ≡ true → is_below q p ≡ true → is_below o p ≡ true
below_below o q p first second =
    let a = behind o q first in
    let b = behind q p second in
    below_at o p (a.0 ++ 47 ∷ b.0, b.1 ∙ ap (λ (xs : List ℕ). xs ++ 47 ∷ b.0) a.1 ∙ append_assoc_slash o a.0 b.0)

-- what bars an object's file is about objects itself
bars_above : (q p : List ℕ) → is_object_file q ≡ true → is_below p q ≡ true → is_about_objects p ≡ true
bars_above q p object above =
    let a = behind p q above in
    let b = behind (codes ".git/objects") q object in
    elim (fronts p (codes ".git/objects") a.0 b.0 (sym a.1 ∙ b.1)) as (λ _. is_about_objects p ≡ true) [
      | inl here ↦ or_left (is_object_file p) (is_below p (codes ".git/objects/")) (below_at (codes ".git/objects") p here)
      | inr there ↦ or_right (is_object_file p) (is_below p (codes ".git/objects/")) (below_at p (codes ".git/objects/") there)
    ]

bars_below : (q p : List ℕ) → is_object_file q ≡ true → is_below q p ≡ true → is_about_objects p ≡ true
bars_below q p object below = or_left (is_object_file p) (is_below p (codes ".git/objects/")) (below_below (codes ".git/objects") q p object below)

clear_by : (b c : Bool) → c ≡ false → (b ≡ true → c ≡ true) → b ≡ false
clear_by true c is so = sym (so refl) ∙ is
clear_by false c is so = refl

-- ---- two changes, the other way round

-- a change of objects, and one of something else that stands before it
pub record MayPass (x y : Write) : Type 0 where
  pub apart : is_at (path_of x) y ≡ false
  pub other : is_of_objects x ≡ false
  pub object : is_of_objects y ≡ true

there_after_put : (w : World) (path bytes q : List ℕ) → map.contains_key w q ≡ true → map.contains_key (map.insert w path bytes) q ≡ true
there_after_put w path bytes q there = ap is_some (get_after w (Put path bytes) q) ∙ at (is_at q (Put path bytes))
  where
    at : (b : Bool) → is_some (cond b (left_by (Put path bytes)) (map.get w q)) ≡ true
    at true = refl
    at false = there

there_itself : (w : World) (path bytes : List ℕ) → map.contains_key (map.insert w path bytes) path ≡ true
there_itself w path bytes = ap is_some (first_stays w (Put path bytes) [] path (equal_to_itself path) refl)

-- a removal in front of a put that it does not free
freed : (w : World) (p q : List ℕ) → is_about_objects p ≡ false → is_object_file q ≡ true → is_blocked (map.remove w p) q ≡ false
    → is_blocked w q ≡ false
freed w p q other object free = free_from w q (λ file there. at file there (eq_by_cmp path_cmp file p) refl)
  where
    at : (file : List ℕ) → map.contains_key w file ≡ true → (b : Bool) → eq_by_cmp path_cmp file p ≡ b
        → (is_below q file ≡ false) × (is_below file q ≡ false)
    at file there true same =
        let is = same_path file p same in
        rw is (clear_by (is_below q p) (is_about_objects p) other (bars_below q p object), clear_by (is_below p q) (is_about_objects p) other (bars_above q p object))
    at file there false apart =
        free_of (map.remove w p) q file free
        (ap is_some (get_after w (Remove p) file ∙ ap (λ (b : Bool). cond b (left_by (Remove p)) (map.get w file)) apart) ∙ there)

pub passed_free : (w : World) (x y : Write) → MayPass x y → is_free w x ≡ true → is_free (after w x) y ≡ true
    → (is_free w y ≡ true) × (is_free (after w y) x ≡ true)
passed_free w (Remove p) (Remove q) pass first second = (refl, refl)
passed_free w (Put p bytes) (Remove q) pass first second =
    let free = not-true (is_blocked w p) first in
    (refl, not_from_false (is_blocked (map.remove w q) p) (free_from (map.remove w q) p (λ file there. free_of w p file free (there_after_remove w q file there))))
passed_free w (Remove p) (Put q bytes) pass first second =
    (not_from_false (is_blocked w q) (freed w p q pass.other pass.object (not-true (is_blocked (map.remove w p) q) second)), refl)
passed_free w (Put p content) (Put q bytes) pass first second =
    let free = not-true (is_blocked (map.insert w p content) q) second in
    let clear = free_of (map.insert w p content) q p free (there_itself w p content) in (
      not_from_false (is_blocked w q) (free_from w q (λ file there. free_of (map.insert w p content) q file free (there_after_put w p content file there))),
      not_from_false (is_blocked (map.insert w q bytes) p) (still_free w q bytes p (not-true (is_blocked w p) first) clear.1 clear.0),
    )

pub passed_world : (w : World) (x y : Write) → is_at (path_of x) y ≡ false → after (after w y) x ≡ after (after w x) y
passed_world w x y apart = same_world (after (after w y) x) (after (after w x) y) (λ q.
    get_after (after w y) x q ∙ ap (cond (is_at q x) (left_by x)) (get_after w y q) ∙ at q (is_at q x) (is_at q y) refl refl
    ∙ sym (get_after (after w x) y q ∙ ap (cond (is_at q y) (left_by y)) (get_after w x q)))
  where
    at : (q : List ℕ) (b c : Bool) → is_at q x ≡ b → is_at q y ≡ c
        → cond b (left_by x) (cond c (left_by y) (map.get w q)) ≡ cond c (left_by y) (cond b (left_by x) (map.get w q))
    at q true true here there =
        absurd (both_ways (is_at (path_of x) y) apart (ap (λ (p : List ℕ). is_at p y) (sym (same_path q (path_of x) here)) ∙ there))
    at q true false here there = refl
    at q false true here there = refl
    at q false false here there = refl

-- ---- a change behind several of objects

abbrev pub MayPassAll : Write → List Write → Type 0
MayPassAll x [] = Unit {0}
MayPassAll x (y ∷ ys) = MayPass x y × MayPassAll x ys

behind_free : (w : World) (x : Write) (ys zs : List Write) → MayPassAll x ys → are_free w (x ∷ ys ++ zs) ≡ true → are_free w (ys ++ x ∷ zs) ≡ true
behind_free w x [] zs pass free = free
behind_free w x (y ∷ ys) zs pass free =
    let outer = and_parts (is_free w x) (are_free (after w x) (y ∷ ys ++ zs)) free in
    let inner = and_parts (is_free (after w x) y) (are_free (after (after w x) y) (ys ++ zs)) outer.1 in
    let swapped = passed_free w x y pass.0 outer.0 inner.0 in
    let later = and_from (is_free (after w y) x) (are_free (after (after w y) x) (ys ++ zs)) swapped.1 (ap (λ (v : World). are_free v (ys ++ zs)) (passed_world w x y pass.0.apart) ∙ inner.1) in
    and_from (is_free w y) (are_free (after w y) (ys ++ x ∷ zs)) swapped.0 (behind_free (after w y) x ys zs pass.1 later)

behind_world : (w : World) (x : Write) (ys zs : List Write) → MayPassAll x ys → written w (ys ++ x ∷ zs) ≡ written w (x ∷ ys ++ zs)
behind_world w x [] zs pass = refl
behind_world w x (y ∷ ys) zs pass =
    behind_world (after w y) x ys zs pass.1 ∙ ap (λ (v : World). written v (ys ++ zs)) (passed_world w x y pass.0.apart)

-- ---- all changes

may_pass_all : (x : Write) (xs : List Write) → is_of_objects x ≡ false → is_written xs (path_of x) ≡ false → MayPassAll x (filter is_of_objects xs)
may_pass_all x [] other none = tt
may_pass_all x (y ∷ ys) other none =
    let both = or_parts (is_at (path_of x) y) (is_written ys (path_of x)) none in at both.0 (may_pass_all x ys other both.1) (is_of_objects y) refl
  where
    at : is_at (path_of x) y ≡ false → MayPassAll x (filter is_of_objects ys) → (b : Bool) → is_of_objects y ≡ b
        → MayPassAll x (cond b (y ∷ filter is_of_objects ys) (filter is_of_objects ys))
    at apart later true object = (record { apart = apart; other = other; object = object }, later)
    at apart later false _ = later

pub first_free : (w : World) (xs : List Write) → AreApart xs → are_free w xs ≡ true → are_free w (objects_first xs) ≡ true
first_free w [] apart free = refl
first_free w (x ∷ xs) apart free =
    let both = and_parts (is_free w x) (are_free (after w x) xs) free in
    at both.0 (first_free (after w x) xs apart.1 both.1) (is_of_objects x) refl
  where
    at : is_free w x ≡ true → are_free (after w x) (objects_first xs) ≡ true → (b : Bool) → is_of_objects x ≡ b
        → are_free w (cond b (x ∷ filter is_of_objects xs) (filter is_of_objects xs) ++ cond (not b) (x ∷ filter is_of_others xs) (filter is_of_others xs)) ≡ true
    at here later true _ = and_from (is_free w x) (are_free (after w x) (objects_first xs)) here later
    at here later false other =
        behind_free w x (filter is_of_objects xs) (filter is_of_others xs) (may_pass_all x xs other apart.0)
        (and_from (is_free w x) (are_free (after w x) (objects_first xs)) here later)

pub first_world : (w : World) (xs : List Write) → AreApart xs → written w (objects_first xs) ≡ written w xs
first_world w [] apart = refl
first_world w (x ∷ xs) apart = at (first_world (after w x) xs apart.1) (is_of_objects x) refl
  where
    at : written (after w x) (objects_first xs) ≡ written (after w x) xs → (b : Bool) → is_of_objects x ≡ b
        → written w (cond b (x ∷ filter is_of_objects xs) (filter is_of_objects xs) ++ cond (not b) (x ∷ filter is_of_others xs) (filter is_of_others xs)) ≡ written w (x ∷ xs)
    at later true _ = later
    at later false other = behind_world w x (filter is_of_objects xs) (filter is_of_others xs) (may_pass_all x xs other apart.0) ∙ later

-- ---- what stands on the way

-- the files that some changes name
unwritten_filtered : (p : Write → Bool) (xs : List Write) (q : List ℕ) → is_written xs q ≡ false → is_written (filter p xs) q ≡ false
unwritten_filtered p [] q none = refl
unwritten_filtered p (x ∷ xs) q none = let both = or_parts (is_at q x) (is_written xs q) none in at both.0 (unwritten_filtered p xs q both.1) (p x)
  where
    at : is_at q x ≡ false → is_written (filter p xs) q ≡ false → (b : Bool) → is_written (cond b (x ∷ filter p xs) (filter p xs)) q ≡ false
    at here later true = or_from (is_at q x) (is_written (filter p xs) q) here later
    at here later false = later

about : (q : List ℕ) (x : Write) → is_at q x ≡ true → is_of_objects x ≡ true → is_about_objects q ≡ true
about q (Put path bytes) here object =
    or_left (is_object_file q) (is_below q (codes ".git/objects/")) (ap is_object_file (same_path q path here) ∙ object)
about q (Remove path) here object = ap is_about_objects (same_path q path here) ∙ object

object_changed : (q : List ℕ) (x : Write) → is_at q x ≡ true → is_object_file q ≡ true → is_of_objects x ≡ true
object_changed q (Put path bytes) here object = ap is_object_file (sym (same_path q path here)) ∙ object
object_changed q (Remove path) here object =
    ap is_about_objects (sym (same_path q path here)) ∙ or_left (is_object_file q) (is_below q (codes ".git/objects/")) object

-- files that are not about objects are named by no change of objects, and objects by no other change
objects_named : (xs : List Write) (q : List ℕ) → is_about_objects q ≡ false → is_written (filter is_of_objects xs) q ≡ false
objects_named [] q other = refl
objects_named (x ∷ xs) q other = at (objects_named xs q other) (is_of_objects x) refl
  where
    at : is_written (filter is_of_objects xs) q ≡ false → (b : Bool) → is_of_objects x ≡ b
        → is_written (cond b (x ∷ filter is_of_objects xs) (filter is_of_objects xs)) q ≡ false
    at later true object =
        or_from (is_at q x) (is_written (filter is_of_objects xs) q) (clear_by (is_at q x) (is_about_objects q) other (λ here. about q x here object)) later
    at later false _ = later

others_named : (xs : List Write) (q : List ℕ) → is_object_file q ≡ true → is_written (filter is_of_others xs) q ≡ false
others_named [] q object = refl
others_named (x ∷ xs) q object = at (others_named xs q object) (is_of_objects x) refl
  where
    at : is_written (filter is_of_others xs) q ≡ false → (b : Bool) → is_of_objects x ≡ b
        → is_written (cond (not b) (x ∷ filter is_of_others xs) (filter is_of_others xs)) q ≡ false
    at later true _ = later
    at later false other =
        or_from (is_at q x) (is_written (filter is_of_others xs) q) (clear_by (is_at q x) (is_of_objects x) other (λ here. object_changed q x here object)) later

-- after the first of some changes of other files a file is as before, or as after all
pub unwritten_taken : (n : ℕ) (xs : List Write) (q : List ℕ) → is_written xs q ≡ false → is_written (take n xs) q ≡ false
unwritten_taken zero xs q none = refl
unwritten_taken (suc n) [] q none = refl
unwritten_taken (suc n) (x ∷ xs) q none =
    let both = or_parts (is_at q x) (is_written xs q) none in or_from (is_at q x) (is_written (take n xs) q) both.0 (unwritten_taken n xs q both.1)

pub front_between : (w : World) (n : ℕ) (xs : List Write) → AreApart xs → (q : List ℕ)
    → (map.get (written w (take n xs)) q ≡ map.get w q) ⊎ (map.get (written w (take n xs)) q ≡ map.get (written w xs) q)
front_between w zero xs apart q = inl refl
front_between w (suc n) [] apart q = inl refl
front_between w (suc n) (x ∷ xs) apart q = at (is_at q x) refl (front_between (after w x) n xs apart.1 q)
  where
    at : (b : Bool) → is_at q x ≡ b
        → (map.get (written (after w x) (take n xs)) q ≡ map.get (after w x) q) ⊎ (map.get (written (after w x) (take n xs)) q ≡ map.get (written (after w x) xs) q)
        → (map.get (written (after w x) (take n xs)) q ≡ map.get w q) ⊎ (map.get (written (after w x) (take n xs)) q ≡ map.get (written (after w x) xs) q)
    at b here (inr all) = inr all
    at true here (inl first) =
        inr (first_stays w x (take n xs) q here (unwritten_taken n xs (path_of x) apart.0) ∙ sym (first_stays w x xs q here apart.0))
    at false other (inl first) = inl (first ∙ get_after w x q ∙ ap (λ (b : Bool). cond b (left_by x) (map.get w q)) other)

pub named-append : (xs ys : List Write) (q : List ℕ) → is_written xs q ≡ false → is_written ys q ≡ false → is_written (xs ++ ys) q ≡ false
named-append [] ys q none others = others
named-append (x ∷ xs) ys q none others =
    let both = or_parts (is_at q x) (is_written xs q) none in or_from (is_at q x) (is_written (xs ++ ys) q) both.0 (named-append xs ys q both.1 others)

apart_between : (x : Write) (xs ys : List Write) → AreApart (xs ++ ys) → is_written (xs ++ ys) (path_of x) ≡ false → AreApart (xs ++ x ∷ ys)
apart_between x [] ys apart none = (none, apart)
apart_between x (y ∷ xs) ys apart none =
    let both = or_parts (is_at (path_of x) y) (is_written (xs ++ ys) (path_of x)) none in
    (between xs apart.0 (apart_back x y both.0), apart_between x xs ys apart.1 both.1)
  where
    between : (zs : List Write) → is_written (zs ++ ys) (path_of y) ≡ false → is_at (path_of y) x ≡ false
        → is_written (zs ++ x ∷ ys) (path_of y) ≡ false
    between [] none other = or_from (is_at (path_of y) x) (is_written ys (path_of y)) other none
    between (z ∷ zs) none other =
        let both = or_parts (is_at (path_of y) z) (is_written (zs ++ ys) (path_of y)) none in
        or_from (is_at (path_of y) z) (is_written (zs ++ x ∷ ys) (path_of y)) both.0 (between zs both.1 other)

first_apart : (xs : List Write) → AreApart xs → AreApart (objects_first xs)
first_apart [] apart = tt
first_apart (x ∷ xs) apart = at (first_apart xs apart.1) none (is_of_objects x)
  where
    none : is_written (objects_first xs) (path_of x) ≡ false
    none =
        named-append (filter is_of_objects xs) (filter is_of_others xs) (path_of x) (unwritten_filtered is_of_objects xs (path_of x) apart.0) (unwritten_filtered is_of_others xs (path_of x) apart.0)

    at : AreApart (objects_first xs) → is_written (objects_first xs) (path_of x) ≡ false → (b : Bool)
        → AreApart (cond b (x ∷ filter is_of_objects xs) (filter is_of_objects xs) ++ cond (not b) (x ∷ filter is_of_others xs) (filter is_of_others xs))
    at later none true = (none, later)
    at later none false = apart_between x (filter is_of_objects xs) (filter is_of_others xs) later none

take_front : (n : ℕ) (xs ys : List Write) → (m : ℕ) × (take n xs ≡ take m (xs ++ ys))
take_front zero xs ys = (0, refl)
take_front (suc n) [] ys = (0, refl)
take_front (suc n) (x ∷ xs) ys = let later = take_front n xs ys in (suc later.0, ap (λ (zs : List Write). x ∷ zs) later.1)

take_behind : (n : ℕ) (xs ys : List Write) → (m : ℕ) × (xs ++ take n ys ≡ take m (xs ++ ys))
take_behind n [] ys = (n, refl)
take_behind n (x ∷ xs) ys = let later = take_behind n xs ys in (suc later.0, ap (λ (zs : List Write). x ∷ zs) later.1)

free-append : (w : World) (xs ys : List Write) → are_free w (xs ++ ys) ≡ true → (are_free w xs ≡ true) × (are_free (written w xs) ys ≡ true)
free-append w [] ys free = (refl, free)
free-append w (x ∷ xs) ys free =
    let both = and_parts (is_free w x) (are_free (after w x) (xs ++ ys)) free in
    let later = free-append (after w x) xs ys both.1 in
    (and_from (is_free w x) (are_free (after w x) xs) both.0 later.0, later.1)

-- ---- the two parts, one after the other

module _ (old : World) (xs : List Write) (apart : AreApart xs) where
  abbrev object_writes : List Write
  object_writes = filter is_of_objects xs

  abbrev other_writes : List Write
  other_writes = filter is_of_others xs

  -- a front of all
  module _ (now : World) (front : IsFront old (objects_first xs) now) (objects : AreObjectsFirst old (written old xs) now) where
    way : IsOnTheWay old (written old xs) now
    way = record {
      writes = objects_first xs;
      leads = first_world old xs apart;
      front = front;
      between = λ q. at q (front_between old front.made (objects_first xs) (first_apart xs apart) q);
      objects = objects;
    }
      where
        at : (q : List ℕ)
            → (map.get (written old (take front.made (objects_first xs))) q ≡ map.get old q) ⊎ (map.get (written old (take front.made (objects_first xs))) q ≡ map.get (written old (objects_first xs)) q)
            → (map.get now q ≡ map.get old q) ⊎ (map.get now q ≡ map.get (written old xs) q)
        at q (inl same) = inl (ap (λ (w : World). map.get w q) front.is ∙ same)
        at q (inr aimed) = inr (ap (λ (w : World). map.get w q) front.is ∙ aimed ∙ ap (λ (w : World). map.get w q) (first_world old xs apart))

  pub objects_front : (now : World) → IsFront old object_writes now → IsFront old (objects_first xs) now
  objects_front now front =
      let all = take_front front.made object_writes other_writes in record { made = all.0; is = front.is ∙ ap (written old) all.1 }

  pub among_objects : (now : World) → IsFront old object_writes now → IsOnTheWay old (written old xs) now
  among_objects now front =
      way now (objects_front now front)
      (inl (λ q other. ap (λ (w : World). map.get w q) front.is ∙ written_elsewhere old (take front.made object_writes) q (unwritten_taken front.made object_writes q (objects_named xs q other))))

  module _ (mid now : World) (mid_is : mid ≡ written old object_writes) (front : IsFront mid other_writes now) where
    from : now ≡ written (written old object_writes) (take front.made other_writes)
    from = front.is ∙ ap (λ (w : World). written w (take front.made other_writes)) mid_is

    pub others_front : IsFront old (objects_first xs) now
    others_front =
        let all = take_behind front.made object_writes other_writes in
        record { made = all.0; is = from ∙ sym (written-append old object_writes (take front.made other_writes)) ∙ ap (written old) all.1 }

    pub among_others : IsOnTheWay old (written old xs) now
    among_others =
        way now others_front
        (inr (λ q object.
        ap (λ (w : World). map.get w q) from
        ∙ written_elsewhere (written old object_writes) (take front.made other_writes) q (unwritten_taken front.made other_writes q (others_named xs q object))
        ∙ sym (written_elsewhere (written old object_writes) other_writes q (others_named xs q object))
        ∙ ap (λ (w : World). map.get w q) (sym (written-append old object_writes other_writes) ∙ first_world old xs apart)))

  pub all_made : (mid now : World) → mid ≡ written old object_writes → now ≡ written mid other_writes → now ≡ written old xs
  all_made mid now mid_is is =
      is ∙ ap (λ (w : World). written w other_writes) mid_is ∙ sym (written-append old object_writes other_writes) ∙ first_world old xs apart

  pub objects_free : are_free old xs ≡ true → are_free old object_writes ≡ true
  objects_free free = (free-append old object_writes other_writes (first_free old xs apart free)).0

  pub others_free : (mid : World) → mid ≡ written old object_writes → are_free old xs ≡ true → are_free mid other_writes ≡ true
  others_free mid mid_is free =
      ap (λ (w : World). are_free w other_writes) mid_is ∙ (free-append old object_writes other_writes (first_free old xs apart free)).1
