-- The names of a tree's entries, and their order.
use Rattle.std.proofs.Common.{◌≡◌, ℕ, zero, suc, ◌+◌, ◌-◌, ◌<◌, ◌≤◌, Bool, true, false, cond, not, ◌&&◌, eqb, ltb, List, [], ◌∷◌, ◌++◌, length, take, get_or, map, reverse, Some, None, refl, sym, ap, subst, ◌∙◌, append_assoc, arith, inl, inr}
use Rattle.std.specs.Prelude.{codes}
use Rattle.std.specs.Char.{to_ascii_lowercase}
use Rattle.std.specs.List.{AllByRecursion, list_all, starts_with}
use Rattle.std.specs.Str.{bytes_eq}
use Rattle.std.specs.Ordering.{nat_cmp, is_lt}
use Rattle.std.specs.Cmp.Lexicographic.{slice_cmp}
use Rattle.std.proofs.lemmas.Cmp.{same_from_slice_cmp}
use Rattle.std.proofs.lemmas.List.{append-nil, length-append, length-map, reverse-append, take_more}
use Rattle.std.proofs.lemmas.List.Folds.{list_all-append}
use Rattle.std.proofs.lemmas.Bool.{eqb-true, eqb-false, eq-eqb, ne_eqb, ltb-true, lt-ltb}
use Rattle.std.proofs.lemmas.Bool.Decides.{nat_tests}
use Rattle.grammar.specs.Grammar.{AllBytes}
use Rattle.grammar.specs.Readers.{IsWord}
use Rattle.grammar.proofs.Keywords.{same_true, front_of}
use Rattle.grammar.proofs.Laws.{AllBytes-append, cuts}
use Rattle.grammar.proofs.Passing.{and_true}
use Rattle.seq_base.specs.declared.mode.Mode.{Mode}
use Rattle.seq_base.specs.declared.mode.Mode.TheVariants.{File, Exec, Link, Gitlink, Folder}
use Rattle.seq_base.specs.Paths.{is_special}
use Rattle.seq_base.specs.PathMaps.{is_less}
use Rattle.object_text.specs.declared.tree.TreeEntry.{TreeEntry}
use Rattle.object_text.specs.Trees.{key, is_name_byte, is_name, IsBefore}
use Rattle.object_text.specs.ReadTrees.{may_rise, may_name, last_key, is_new, may_follow, IsTreeSoFar, name_value}

both_true : (a b : Bool) → a ≡ true → b ≡ true → (a && b) ≡ true
both_true a b p q = rw (p, q) refl

all_front : {X : Type 0} (p : X → Bool) (xs ys : List X) → list_all p (xs ++ ys) ≡ true → (list_all p xs ≡ true) × (list_all p ys ≡ true)
all_front p xs ys e = and_true (list_all p xs) (list_all p ys) (sym (list_all-append p xs ys) ∙ e)

-- ---- the order of bytes, by its steps

-- b comes after a
abbrev pub is_after : List ℕ → List ℕ → Bool
is_after [] [] = false
is_after [] (b ∷ bs) = true
is_after (a ∷ as') [] = false
is_after (a ∷ as') (b ∷ bs) = cond (eqb a b) (is_after as' bs) (ltb a b)

pub less_is : (a b : List ℕ) → is_less a b ≡ is_after a b
less_is a b =
    same_from_slice_cmp nat_cmp is_lt is_after refl (λ _ _. refl) (λ _ _. refl) (λ x y xs ys o h. grind (arith, nat_tests)) a b (slice_cmp nat_cmp a b) refl

after_itself : (a : List ℕ) → is_after a a ≡ true → ⊥
after_itself [] e = absurd cc
after_itself (x ∷ a) e = at (after_itself a) (eqb x x) (eq-eqb x x refl) e
  where
    at : (is_after a a ≡ true → ⊥) → (t : Bool) → t ≡ true → cond t (is_after a a) (ltb x x) ≡ true → ⊥
    at later true is e = later e
    at later false is e = absurd cc

after_trans : (a b c : List ℕ) → is_after a b ≡ true → is_after b c ≡ true → is_after a c ≡ true
after_trans [] [] c p q = absurd cc
after_trans [] (y ∷ b) [] p q = absurd cc
after_trans [] (y ∷ b) (z ∷ c) p q = refl
after_trans (x ∷ a) [] c p q = absurd cc
after_trans (x ∷ a) (y ∷ b) [] p q = absurd cc
after_trans (x ∷ a) (y ∷ b) (z ∷ c) p q = at (after_trans a b c) (eqb x y) (eqb y z) (eqb x z) refl refl refl p q
  where
    at : (is_after a b ≡ true → is_after b c ≡ true → is_after a c ≡ true) → (t u v : Bool) → eqb x y ≡ t → eqb y z ≡ u → eqb x z ≡ v
        → cond t (is_after a b) (ltb x y) ≡ true → cond u (is_after b c) (ltb y z) ≡ true → cond v (is_after a c) (ltb x z) ≡ true
    at later true true true t-is u-is v-is p q = later p q
    at later true true false t-is u-is v-is p q = absurd (eqb-false x z v-is (eqb-true x y t-is ∙ eqb-true y z u-is))
    at later true false true t-is u-is v-is p q = absurd (eqb-false y z u-is (sym (eqb-true x y t-is) ∙ eqb-true x z v-is))
    at later true false false t-is u-is v-is p q = let k = eqb-true x y t-is in let m = ltb-true y z q in lt-ltb x z (omega arith)
    at later false true true t-is u-is v-is p q = absurd (eqb-false x y t-is (eqb-true x z v-is ∙ sym (eqb-true y z u-is)))
    at later false true false t-is u-is v-is p q = let k = eqb-true y z u-is in let m = ltb-true x y p in lt-ltb x z (omega arith)
    at later false false true t-is u-is v-is p q =
        let k = eqb-true x z v-is in let m = ltb-true x y p in let n = ltb-true y z q in absurd (omega arith)
    at later false false false t-is u-is v-is p q = let m = ltb-true x y p in let n = ltb-true y z q in lt-ltb x z (omega arith)

-- nothing that goes on with a text comes before it
front_after : (a b : List ℕ) → is_after (a ++ b) a ≡ true → ⊥
front_after [] [] e = absurd cc
front_after [] (y ∷ b) e = absurd cc
front_after (x ∷ a) b e = at (front_after a b) (eqb x x) (eq-eqb x x refl) e
  where
    at : (is_after (a ++ b) a ≡ true → ⊥) → (t : Bool) → t ≡ true → cond t (is_after (a ++ b) a) (ltb x x) ≡ true → ⊥
    at later true is e = later e
    at later false is e = absurd cc

-- between a text and the same with one byte more stand texts that go on with it
between : (w k : List ℕ) (c : ℕ) → is_after w k ≡ true → is_after k (w ++ c ∷ []) ≡ true → (b : ℕ) × (rest : List ℕ) × (k ≡ w ++ b ∷ rest)
between [] [] c p q = absurd cc
between [] (y ∷ k) c p q = (y, k, refl)
between (x ∷ w) [] c p q = absurd cc
between (x ∷ w) (y ∷ k) c p q = at (between w k c) (eqb x y) (eqb y x) refl refl p q
  where
    at : (is_after w k ≡ true → is_after k (w ++ c ∷ []) ≡ true → (b : ℕ) × (rest : List ℕ) × (k ≡ w ++ b ∷ rest)) → (t u : Bool) → eqb x y ≡ t
        → eqb y x ≡ u
        → cond t (is_after w k) (ltb x y) ≡ true → cond u (is_after k (w ++ c ∷ [])) (ltb y x) ≡ true → (b : ℕ) × (rest : List ℕ) × (y ∷ k ≡ (x ∷ w) ++ b ∷ rest)
    at later true true t-is u-is p q = let m = later p q in (m.0, m.1, let same = eqb-true y x u-is in let rest = m.2 in cc)
    at later true false t-is u-is p q = absurd (eqb-false y x u-is (sym (eqb-true x y t-is)))
    at later false true t-is u-is p q = absurd (eqb-false x y t-is (sym (eqb-true y x u-is)))
    at later false false t-is u-is p q = let m = ltb-true x y p in let n = ltb-true y x q in absurd (omega arith)

-- ---- what goes on

rise_front : (a p q : List ℕ) → may_rise a (p ++ q) ≡ true → may_rise a p ≡ true
rise_front a [] q e = refl
rise_front [] (b ∷ p) q e = refl
rise_front (a ∷ s) (b ∷ p) q e = at (rise_front s p q) (eqb a b) e
  where
    at : (may_rise s (p ++ q) ≡ true → may_rise s p ≡ true) → (t : Bool) → cond t (may_rise s (p ++ q)) (ltb a b) ≡ true
        → cond t (may_rise s p) (ltb a b) ≡ true
    at later true e = later e
    at later false e = e

-- what comes after goes on from each of its fronts
after_rises : (a b : List ℕ) → is_after a b ≡ true → may_rise a b ≡ true
after_rises [] [] e = refl
after_rises [] (b ∷ bs) e = refl
after_rises (a ∷ s) [] e = refl
after_rises (a ∷ s) (b ∷ bs) e = at (after_rises s bs) (eqb a b) e
  where
    at : (is_after s bs ≡ true → may_rise s bs ≡ true) → (t : Bool) → cond t (is_after s bs) (ltb a b) ≡ true
        → cond t (may_rise s bs) (ltb a b) ≡ true
    at later true e = later e
    at later false e = e

fill : ℕ → List ℕ
fill zero = []
fill (suc n) = 255 ∷ fill n

length-fill : (n : ℕ) → length (fill n) ≡ n
unfolding fill
length-fill zero = refl
length-fill (suc n) = ap suc (length-fill n)

bytes-fill : (n : ℕ) → AllBytes (fill n)
unfolding fill
bytes-fill zero = tt
bytes-fill (suc n) = (omega arith, bytes-fill n)

names-fill : (n : ℕ) → list_all is_name_byte (fill n) ≡ true
unfolding fill
names-fill zero = refl
names-fill (suc n) = names-fill n

-- the greatest bytes, and enough of them, come after
fill_after : (a : List ℕ) (m : ℕ) (tail : List ℕ) → AllBytes a → length a < m → is_after a (fill m ++ tail) ≡ true
unfolding fill
fill_after [] zero tail fits long = absurd (omega arith)
fill_after [] (suc m) tail fits long = refl
fill_after (a ∷ s) zero tail fits long = absurd (omega arith)
fill_after (a ∷ s) (suc m) tail fits long = at (fill_after s m tail fits.1 (omega arith)) (eqb a 255) refl
  where
    at : is_after s (fill m ++ tail) ≡ true → (t : Bool) → eqb a 255 ≡ t → cond t (is_after s (fill m ++ tail)) (ltb a 255) ≡ true
    at later true is = later
    at later false is = let ne = eqb-false a 255 is in let le = fits.0 in lt-ltb a 255 (omega arith)

rise_after : (a p : List ℕ) (m : ℕ) (tail : List ℕ) → AllBytes a → may_rise a p ≡ true → length a < m → is_after a (p ++ (fill m ++ tail)) ≡ true
rise_after a [] m tail fits e long = fill_after a m tail fits long
rise_after [] (b ∷ p) m tail fits e long = refl
rise_after (a ∷ s) (b ∷ p) m tail fits e long = at (λ e. rise_after s p m tail fits.1 e (omega arith)) (eqb a b) e
  where
    at : (may_rise s p ≡ true → is_after s (p ++ (fill m ++ tail)) ≡ true) → (t : Bool) → cond t (may_rise s p) (ltb a b) ≡ true
        → cond t (is_after s (p ++ (fill m ++ tail))) (ltb a b) ≡ true
    at later true e = later e
    at later false e = e

key_is : (mode : Mode) (w : List ℕ) → (tail : List ℕ) × (key mode w ≡ w ++ tail) × AllBytes tail × (length tail ≤ 1)
key_is Folder w = (47 ∷ [], refl, (omega arith, tt), omega arith)
key_is File w = ([], sym (append-nil w), tt, omega arith)
key_is Exec w = ([], sym (append-nil w), tt, omega arith)
key_is Link w = ([], sym (append-nil w), tt, omega arith)
key_is Gitlink w = ([], sym (append-nil w), tt, omega arith)

-- ---- a long name is none of those before, and is not special

total : List TreeEntry → ℕ
total [] = 0
total (d ∷ ds) = length d.name + total ds

other_length : (a b : List ℕ) → length a < length b → bytes_eq a b ≡ false
other_length a b lt = at (bytes_eq a b) refl
  where
    at : (t : Bool) → bytes_eq a b ≡ t → t ≡ false
    at true is = let e = ap length (same_true a b is) in absurd (omega arith)
    at false is = refl

new_long : (earlier : List TreeEntry) (w : List ℕ) → total earlier < length w → is_new earlier w ≡ true
unfolding total
new_long [] w lt = refl
new_long (d ∷ ds) w lt =
    both_true (not (bytes_eq d.name w)) (is_new ds w) (ap not (other_length d.name w (omega arith))) (new_long ds w (omega arith))

not_special : (w : List ℕ) → 4 < length w → is_special w ≡ false
not_special w lt =
    let one = other_length (codes ".") w (omega arith) in
    let two = other_length (codes "..") w (omega arith) in
    let git = other_length (codes ".git") (map to_ascii_lowercase w) (omega (arith, length-map w to_ascii_lowercase)) in
    rw (one, two, git) refl

-- ---- the words

guard : {X : Type 0} (t : Bool) (x y : X) → cond t (Some x) None ≡ Some y → (t ≡ true) × (x ≡ y)
guard true x y e = (refl, cc)
guard false x y e = absurd cc

-- what a name met
pub record IsName (earlier : List TreeEntry) (mode : Mode) (w : List ℕ) : Type 0 where
  pub part : is_name w ≡ true
  pub after : is_after (last_key earlier) (key mode w) ≡ true
  pub new : is_new earlier w ≡ true

pub follow_is : (earlier : List TreeEntry) (mode : Mode) (w : List ℕ) → may_follow earlier mode w ≡ true → IsName earlier mode w
follow_is earlier mode w e =
    let k = and_true (is_name w && is_less (last_key earlier) (key mode w)) (is_new earlier w) e in
    let j = and_true (is_name w) (is_less (last_key earlier) (key mode w)) k.0 in
    record { part = j.0; after = sym (less_is (last_key earlier) (key mode w)) ∙ j.1; new = k.1 }

pub name_is : (earlier : List TreeEntry) (mode : Mode) (w x : List ℕ) → name_value earlier mode w ≡ Some x → (w ≡ x) × IsName earlier mode w
name_is earlier mode w x v =
    let g = guard (may_follow earlier mode w) w x v in
    (g.1, follow_is earlier mode w g.0)

pub name_again : (earlier : List TreeEntry) (mode : Mode) (w : List ℕ) → IsName earlier mode w → name_value earlier mode w ≡ Some w
name_again earlier mode w h =
    let less = less_is (last_key earlier) (key mode w) ∙ h.after in
    rw (h.part, less, h.new) refl

name_bytes : (w : List ℕ) → is_name w ≡ true → list_all is_name_byte w ≡ true
name_bytes w e =
    let k = and_true (not (eqb (length w) 0) && list_all is_name_byte w) (not (is_special w)) e in
    (and_true (not (eqb (length w) 0)) (list_all is_name_byte w) k.0).1

bytes_of : (w : List ℕ) → list_all is_name_byte w ≡ true → AllBytes w
bytes_of [] e = tt
bytes_of (b ∷ w) e =
    let k = and_true (is_name_byte b) (list_all is_name_byte w) e in
    let j = and_true (not (eqb b 0) && not (eqb b 47)) (ltb b 256) k.0 in
    (ltb-true b 256 j.1, bytes_of w k.1)

-- the last key is bytes
last_bytes : (earlier : List TreeEntry) → IsTreeSoFar earlier → AllBytes (last_key earlier)
last_bytes [] good = tt
last_bytes (e ∷ es) good =
    let k = key_is e.mode e.name in
    subst AllBytes (sym k.1) (AllBytes-append e.name k.0 (bytes_of e.name (name_bytes e.name good.0)) k.2)

not_nul : (b : ℕ) → is_name_byte b ≡ true → b ≡ 0 → ⊥
not_nul zero h e = cc
not_nul (suc b) h e = absurd (omega arith)

name_fronts : (earlier : List TreeEntry) (mode : Mode) (front back : List ℕ) (b : ℕ) (x : List ℕ)
    → name_value earlier mode (front ++ b ∷ back) ≡ Some x
    → (may_name (last_key earlier) (front ++ b ∷ []) ≡ true) × (b ≡ 0 → ⊥)
name_fronts earlier mode front back b x v =
    let n = (name_is earlier mode (front ++ b ∷ back) x v).1 in
    let whole : front ++ b ∷ back ≡ (front ++ b ∷ []) ++ back = sym (append_assoc front (b ∷ []) back) in
    let all = all_front is_name_byte (front ++ b ∷ []) back (ap (list_all is_name_byte) (sym whole) ∙ name_bytes (front ++ b ∷ back) n.part) in
    let k = key_is mode (front ++ b ∷ back) in
    let long : key mode (front ++ b ∷ back) ≡ (front ++ b ∷ []) ++ (back ++ k.0) = k.1 ∙ ap (λ (t : List ℕ). t ++ k.0) whole ∙ append_assoc (front ++ b ∷ []) back k.0 in
    let rise = rise_front (last_key earlier) (front ++ b ∷ []) (back ++ k.0) (ap (may_rise (last_key earlier)) (sym long) ∙ after_rises (last_key earlier) (key mode (front ++ b ∷ back)) n.after) in
    let one = (all_front is_name_byte front (b ∷ []) all.0).1 in
    (both_true (list_all is_name_byte (front ++ b ∷ [])) (may_rise (last_key earlier) (front ++ b ∷ [])) all.0 rise, not_nul b (and_true (is_name_byte b) true one).0)

name_ends : (earlier : List TreeEntry) (mode : Mode) → IsTreeSoFar earlier → (front : List ℕ) → may_name (last_key earlier) front ≡ true
    → (x : List ℕ) × (rest : List ℕ) × AllBytes rest × (name_value earlier mode (front ++ rest) ≡ Some x)
name_ends earlier mode good front on =
    let m = 5 + total earlier + length (last_key earlier) in
    let k = and_true (list_all is_name_byte front) (may_rise (last_key earlier) front) on in
    let w = front ++ fill m in
    let len : length w ≡ length front + m = length-append front (fill m) ∙ ap (λ (n : ℕ). length front + n) (length-fill m) in
    let some : eqb (length w) 0 ≡ false = ne_eqb (length w) 0 (λ e. absurd (omega arith)) in
    let bytes : list_all is_name_byte w ≡ true = list_all-append is_name_byte front (fill m) ∙ both_true (list_all is_name_byte front) (list_all is_name_byte (fill m)) k.0 (names-fill m) in
    let plain = not_special w (omega arith) in
    let part : is_name w ≡ true = rw (some, bytes, plain) refl in
    let j = key_is mode w in
    let long : key mode w ≡ front ++ (fill m ++ j.0) = j.1 ∙ append_assoc front (fill m) j.0 in
    let after : is_after (last_key earlier) (key mode w) ≡ true = ap (is_after (last_key earlier)) long ∙ rise_after (last_key earlier) front m j.0 (last_bytes earlier good) k.1 (omega arith) in
    let new = new_long earlier w (omega arith) in
    (w, fill m, bytes-fill m, name_again earlier mode w (record { part = part; after = after; new = new }))

nothing_rises : (a : List ℕ) → may_rise a [] ≡ true
nothing_rises a = refl

pub is_name_word : (earlier : List TreeEntry) (mode : Mode) → IsTreeSoFar earlier → IsWord (may_name (last_key earlier)) (name_value earlier mode) 0
is_name_word earlier mode good = record {
  stop_fits = omega arith;
  starts = nothing_rises (last_key earlier);
  fronts = name_fronts earlier mode;
  ends = name_ends earlier mode good;
}

-- ---- what stands behind the last stands behind all

before_all : (earlier : List TreeEntry) (e : TreeEntry) → IsTreeSoFar earlier → is_after (last_key earlier) (key e.mode e.name) ≡ true
    → is_new earlier e.name ≡ true → AllByRecursion (λ d. IsBefore d e) earlier
before_all [] e good after new = tt
before_all (d ∷ ds) e good after new =
    let n = and_true (not (bytes_eq d.name e.name)) (is_new ds e.name) new in (
      record { less = less_is (key d.mode d.name) (key e.mode e.name) ∙ after; other = not_true (bytes_eq d.name e.name) n.0 },
      behind ds d e good.1 after n.1,
    )
  where
    not_true : (t : Bool) → not t ≡ true → t ≡ false
    not_true true h = absurd cc
    not_true false h = refl

    behind : (xs : List TreeEntry) (d e : TreeEntry) → AllByRecursion (λ x. IsBefore x d) xs → is_after (key d.mode d.name) (key e.mode e.name) ≡ true
        → is_new xs e.name ≡ true → AllByRecursion (λ x. IsBefore x e) xs
    behind [] d e all after new = tt
    behind (x ∷ xs) d e all after new =
        let n = and_true (not (bytes_eq x.name e.name)) (is_new xs e.name) new in
        let first = sym (less_is (key x.mode x.name) (key d.mode d.name)) ∙ all.0.less in (
          record {
            less =
                less_is (key x.mode x.name) (key e.mode e.name) ∙ after_trans (key x.mode x.name) (key d.mode d.name) (key e.mode e.name) first after;
            other = not_true (bytes_eq x.name e.name) n.0;
          },
          behind xs d e all.1 after n.1,
        )

pub stays_good : (earlier : List TreeEntry) (e : TreeEntry) → IsTreeSoFar earlier → IsName earlier e.mode e.name → IsTreeSoFar (e ∷ earlier)
stays_good earlier e good h = (h.part, before_all earlier e good h.after h.new, good)

-- ---- an entry of the same name

-- every key so far comes before what comes after the last
all_below : (earlier : List TreeEntry) (k : List ℕ) → IsTreeSoFar earlier → is_after (last_key earlier) k ≡ true
    → AllByRecursion (λ d. is_after (key d.mode d.name) k ≡ true) earlier
all_below [] k good after = tt
all_below (d ∷ ds) k good after = (after, behind ds good.1)
  where
    behind : (xs : List TreeEntry) → AllByRecursion (λ x. IsBefore x d) xs → AllByRecursion (λ x. is_after (key x.mode x.name) k ≡ true) xs
    behind [] all = tt
    behind (x ∷ xs) all =
        (after_trans (key x.mode x.name) (key d.mode d.name) k (sym (less_is (key x.mode x.name) (key d.mode d.name)) ∙ all.0.less) after, behind xs all.1)

-- what is no folder and stands behind the last has no name of those so far
pub new_leaf : (earlier : List TreeEntry) (w : List ℕ) → IsTreeSoFar earlier → is_less (last_key earlier) w ≡ true → true ≡ is_new earlier w
new_leaf earlier w good less = sym (none earlier (all_below earlier w good (sym (less_is (last_key earlier) w) ∙ less)))
  where
    none : (xs : List TreeEntry) → AllByRecursion (λ d. is_after (key d.mode d.name) w ≡ true) xs → is_new xs w ≡ true
    none [] all = refl
    none (x ∷ xs) all = both_true (not (bytes_eq x.name w)) (is_new xs w) (at (bytes_eq x.name w) refl) (none xs all.1)
      where
        at : (t : Bool) → bytes_eq x.name w ≡ t → not t ≡ true
        at false is = refl
        at true is =
            let k = key_is x.mode x.name in
            absurd (front_after w k.0 (ap (λ (t : List ℕ). is_after t w) (ap (λ (n : List ℕ). n ++ k.0) (sym (same_true x.name w is)) ∙ sym k.1) ∙ all.0))

-- looking back for a file of this name, from the newest entry on
pub record Looking (total : Bool) (w : List ℕ) (earlier : List TreeEntry) : Type 0 where
  pub same : is_new earlier w ≡ total
  pub good : IsTreeSoFar earlier
  pub below : AllByRecursion (λ d. is_after (key d.mode d.name) (w ++ 47 ∷ []) ≡ true) earlier

pub look_first : (earlier : List TreeEntry) (w : List ℕ) → IsTreeSoFar earlier → is_less (last_key earlier) (w ++ 47 ∷ []) ≡ true
    → Looking (is_new earlier w) w earlier
look_first earlier w good less =
    record { same = refl; good = good; below = all_below earlier (w ++ 47 ∷ []) good (sym (less_is (last_key earlier) (w ++ 47 ∷ [])) ∙ less) }

-- where a name does not begin with it, no earlier one is it
pub look_past : (total : Bool) (w : List ℕ) (e : TreeEntry) (es : List TreeEntry) → bytes_eq e.name w ≡ false → starts_with eqb e.name w ≡ false
    → Looking total w (e ∷ es) → true ≡ total
look_past total w e es off past l = sym (both_true (not (bytes_eq e.name w)) (is_new es w) (rw off refl) (none es l.good.1 l.below.1)) ∙ l.same
  where
    begins : (name tail rest : List ℕ) (b : ℕ) → AllBytes tail → length tail ≤ 1 → name ++ tail ≡ w ++ b ∷ rest → starts_with eqb name w ≡ true
    begins name tail rest b fits short eq =
        elim (cuts name tail w (b ∷ rest) eq) [
          | inl h ↦
              let len : length tail ≡ length h.0 + suc (length rest) = omega (arith, ap length eq, length-append name tail, length-append w (b ∷ rest), ap length h.1, length-append name h.0) in
              at h.0 h.1 (omega arith)
          | inr h ↦ ap (λ (t : List ℕ). starts_with eqb t w) h.2 ∙ front_of w (h.0 ∷ h.1)
        ]
      where
        at : (u : List ℕ) → w ≡ name ++ u → length u ≡ 0 → starts_with eqb name w ≡ true
        at [] w-is none = ap (λ (t : List ℕ). starts_with eqb t w) (sym (append-nil name) ∙ sym w-is ∙ sym (append-nil w)) ∙ front_of w []
        at (c ∷ u) w-is none = absurd (omega arith)

    -- an earlier one of this name would have one that begins with it behind it
    not_this : (d : TreeEntry) → IsBefore d e → is_after (key d.mode d.name) (w ++ 47 ∷ []) ≡ true → bytes_eq d.name w ≡ true → ⊥
    not_this d before below same = at d.mode refl
      where
        name : d.name ≡ w
        name = same_true d.name w same

        less : is_after (key d.mode d.name) (key e.mode e.name) ≡ true
        less = sym (less_is (key d.mode d.name) (key e.mode e.name)) ∙ before.less

        leaf : key d.mode d.name ≡ w → ⊥
        leaf is =
            let m = between w (key e.mode e.name) 47 (ap (λ (t : List ℕ). is_after t (key e.mode e.name)) (sym is) ∙ less) l.below.0 in
            let k = key_is e.mode e.name in
            let on = begins e.name k.0 m.1 m.0 k.2 k.3 (sym k.1 ∙ m.2) in
            absurd cc

        at : (mode : Mode) → d.mode ≡ mode → ⊥
        at Folder is =
            let k : key d.mode d.name ≡ w ++ 47 ∷ [] = ap (λ (m : Mode). key m d.name) is ∙ ap (λ (n : List ℕ). n ++ 47 ∷ []) name in
            after_itself (w ++ 47 ∷ []) (ap (λ (t : List ℕ). is_after t (w ++ 47 ∷ [])) (sym k) ∙ below)
        at File is = leaf (ap (λ (m : Mode). key m d.name) is ∙ name)
        at Exec is = leaf (ap (λ (m : Mode). key m d.name) is ∙ name)
        at Link is = leaf (ap (λ (m : Mode). key m d.name) is ∙ name)
        at Gitlink is = leaf (ap (λ (m : Mode). key m d.name) is ∙ name)

    none : (xs : List TreeEntry) → AllByRecursion (λ d. IsBefore d e) xs → AllByRecursion (λ d. is_after (key d.mode d.name) (w ++ 47 ∷ []) ≡ true) xs
        → is_new xs w ≡ true
    none [] before below = refl
    none (x ∷ xs) before below = both_true (not (bytes_eq x.name w)) (is_new xs w) (one (bytes_eq x.name w) refl) (none xs before.1 below.1)
      where
        one : (t : Bool) → bytes_eq x.name w ≡ t → not t ≡ true
        one false is = refl
        one true is = absurd (not_this x before.0 below.0 is)

-- a name's key is not empty
pub key_some : (mode : Mode) (w : List ℕ) → is_name w ≡ true → is_after [] (key mode w) ≡ true
key_some mode w part =
    let k = key_is mode w in
    ap (is_after []) k.1 ∙ at w (and_true (not (eqb (length w) 0)) (list_all is_name_byte w) (and_true (not (eqb (length w) 0) && list_all is_name_byte w) (not (is_special w)) part).0).0
  where
    at : (v : List ℕ) → not (eqb (length v) 0) ≡ true → is_after [] (v ++ (key_is mode w).0) ≡ true
    at [] some = absurd cc
    at (b ∷ v) some = refl

-- the entry at a place is the newest of those up to it
pub newest : (es : List TreeEntry) (n : ℕ) (d : TreeEntry) → 0 < n → n ≤ length es
    → reverse (take n es) ≡ get_or es (n - 1) d ∷ reverse (take (n - 1) es)
newest es n d some within =
    let m : n - 1 + 1 ≡ n = omega arith in
    let more = take_more es (n - 1) d (omega arith) in
    ap (λ (k : ℕ). reverse (take k es)) (sym m) ∙ ap reverse more ∙ reverse-append (take (n - 1) es) (get_or es (n - 1) d ∷ [])
