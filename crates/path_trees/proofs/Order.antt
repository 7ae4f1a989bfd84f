-- Paths below the entries of a tree stand in the entries' order, and none below another.
use Rattle.std.proofs.Common.{◌≡◌, ℕ, ◌==◌, Bool, true, false, not, ◌&&◌, List, [], ◌∷◌, ◌++◌, length, map, refl, sym, ap, subst, ◌∙◌, append_assoc, Ordering, eq-eqb, nat_lt, arith}
use Rattle.std.specs.declared.cmp.Ordering.TheVariants.{Less, Equal, Greater}
use Rattle.std.specs.Cmp.Lexicographic.{slice_cmp}
use Rattle.std.specs.List.{AllByRecursion, list_all}
use Rattle.std.specs.Ordering.{is_lt, nat_cmp, ordering_then}
use Rattle.std.specs.Str.{bytes_eq}
use Rattle.std.proofs.lemmas.Bool.Decides.{nat_tests}
use Rattle.std.proofs.lemmas.Bool.{and_parts, both_ways, eqb-true, false_from_ne_true, not-true}
use Rattle.std.proofs.lemmas.List.{append-nil}
use Rattle.std.proofs.lemmas.Map.Lookups.{exact_unsigned}
use Rattle.seq_base.specs.PathMaps.{clashes, is_less}
use Rattle.seq_base.specs.declared.map.Entry.{Entry}
use Rattle.seq_base.specs.declared.mode.Mode.{Mode}
use Rattle.seq_base.specs.declared.mode.Mode.TheVariants.{File, Exec, Link, Gitlink, Folder}
use Rattle.object_text.specs.declared.tree.TreeEntry.{TreeEntry}
use Rattle.object_text.specs.TreeMaps.{below, is_folder}
use Rattle.object_text.specs.Trees.{IsBefore, IsTreeOrder, is_name, is_name_byte, key}
use Rattle.path_trees.specs.Rows.{row_at}

-- p comes before q, and neither lies below the other
pub record IsApart (p q : List ℕ) : Type 0 where
  pub less : is_less p q ≡ true
  pub free : clashes p q ≡ false

-- what follows a name on the paths below its entry
abbrev pub tail : Bool → List ℕ → List ℕ
tail true rest = 47 ∷ rest
tail false rest = []

pub swapped : (x y : ℕ) → (x == y) ≡ false → (y == x) ≡ false
swapped x y other = false_from_ne_true (y == x) (λ is. both_ways (x == y) other (eq-eqb x y (sym (eqb-true y x is))))

-- ---- the first byte

heads_apart : (x y : ℕ) (p q : List ℕ) → (x == y) ≡ false → clashes (x ∷ p) (y ∷ q) ≡ false
heads_apart x y p q other = let back = swapped x y other in rw (other, back) refl

pub head_less : (x y : ℕ) (u v : Ordering) → (x == y) ≡ false → is_lt (ordering_then (nat_cmp x y) u) ≡ true
    → is_lt (ordering_then (nat_cmp x y) v) ≡ true
head_less x y u v other = at (nat_cmp x y) refl
  where
    at : (o : Ordering) → nat_cmp x y ≡ o → is_lt (ordering_then o u) ≡ true → is_lt (ordering_then o v) ≡ true
    at Less is less = refl
    at Equal is less = absurd (both_ways (x == y) other (eq-eqb x y (exact_unsigned x y is)))
    at Greater is less = absurd cc

heads : (x y : ℕ) (p q r s : List ℕ) → (x == y) ≡ false → is_less (x ∷ p) (y ∷ q) ≡ true → IsApart (x ∷ r) (y ∷ s)
heads x y p q r s other less =
    record { less = head_less x y (slice_cmp nat_cmp p q) (slice_cmp nat_cmp r s) other less; free = heads_apart x y r s other }

itself : (x : ℕ) → nat_cmp x x ≡ Equal
itself x =
    let low : nat_lt x x ≡ false = grind (arith, nat_tests) in
    let same : (x == x) ≡ true = eq-eqb x x refl in
    rw (low, same) refl

pub same_less : (x : ℕ) (p q : List ℕ) → is_less (x ∷ p) (x ∷ q) ≡ is_less p q
same_less x p q = ap (λ (o : Ordering). is_lt (ordering_then o (slice_cmp nat_cmp p q))) (itself x)

pub same_free : (x : ℕ) (p q : List ℕ) → clashes (x ∷ p) (x ∷ q) ≡ clashes p q
same_free x p q = let same : (x == x) ≡ true = eq-eqb x x refl in rw same refl

onto : (x : ℕ) (p q : List ℕ) → IsApart p q → IsApart (x ∷ p) (x ∷ q)
onto x p q h = record { less = same_less x p q ∙ h.less; free = same_free x p q ∙ h.free }

front_apart : (front p q : List ℕ) → IsApart p q → IsApart (front ++ p) (front ++ q)
front_apart [] p q h = h
front_apart (x ∷ front) p q h = onto x (front ++ p) (front ++ q) (front_apart front p q h)

-- ---- names

abbrev pub has_no_slash : List ℕ → Bool
has_no_slash name = list_all (λ b. not (b == 47)) name

pub no_slash : (b : ℕ) (name : List ℕ) → has_no_slash (b ∷ name) ≡ true → (b == 47) ≡ false
no_slash b name h = not-true (b == 47) (and_parts (not (b == 47)) (has_no_slash name) h).0

names : (s t : Bool) (ra rb a b : List ℕ) → has_no_slash a ≡ true → has_no_slash b ≡ true → bytes_eq a b ≡ false
    → is_less (a ++ tail s []) (b ++ tail t []) ≡ true → IsApart (a ++ tail s ra) (b ++ tail t rb)
names s t ra rb [] [] ha hb other less = absurd cc
names true t ra rb [] (y ∷ b) ha hb other less = heads 47 y [] (b ++ tail t []) ra (b ++ tail t rb) (swapped y 47 (no_slash y b hb)) less
names false t ra rb [] (y ∷ b) ha hb other less =
    let away : (y == 47) ≡ false = no_slash y b hb in
    record { less = refl; free = rw away refl }
names s true ra rb (x ∷ a) [] ha hb other less = heads x 47 (a ++ tail s []) [] (a ++ tail s ra) rb (no_slash x a ha) less
names s false ra rb (x ∷ a) [] ha hb other less = absurd cc
names s t ra rb (x ∷ a) (y ∷ b) ha hb other less = at (λ rest lower. names s t ra rb a b ha' hb' rest lower) (x == y) refl
  where
    ha' : has_no_slash a ≡ true
    ha' = (and_parts (not (x == 47)) (has_no_slash a) ha).1

    hb' : has_no_slash b ≡ true
    hb' = (and_parts (not (y == 47)) (has_no_slash b) hb).1

    at : (bytes_eq a b ≡ false → is_less (a ++ tail s []) (b ++ tail t []) ≡ true → IsApart (a ++ tail s ra) (b ++ tail t rb)) → (same : Bool)
        → (x == y) ≡ same → IsApart (x ∷ (a ++ tail s ra)) (y ∷ (b ++ tail t rb))
    at later true is =
        let one : x ≡ y = eqb-true x y is in
        let rest : bytes_eq a b ≡ false = rw is at other in
        let lower : is_less (a ++ tail s []) (b ++ tail t []) ≡ true = sym (same_less x (a ++ tail s []) (b ++ tail t [])) ∙ subst (λ (z : ℕ). is_less (x ∷ (a ++ tail s [])) (z ∷ (b ++ tail t [])) ≡ true) (sym one) less in
        subst (λ (z : ℕ). IsApart (x ∷ (a ++ tail s ra)) (z ∷ (b ++ tail t rb))) one (onto x (a ++ tail s ra) (b ++ tail t rb) (later rest lower))
    at later false is = heads x y (a ++ tail s []) (b ++ tail t []) (a ++ tail s ra) (b ++ tail t rb) is less

-- ---- entries

-- a path to which the row of an entry may come: its own, and for a folder those below it
pub record IsUnder (row : List ℕ × Entry) (p : List ℕ) : Type 0 where
  pub rest : List ℕ
  pub path_is : p ≡ row.0 ++ tail (is_folder row.1.mode) rest

-- every path below the one comes before every path below the other
pub record Precedes (d e : List ℕ × Entry) : Type 0 where
  pub apart : (p q : List ℕ) → IsUnder d p → IsUnder e q → IsApart p q

-- each row precedes those that follow
abbrev pub AreInOrder : List (List ℕ × Entry) → Type 0
AreInOrder [] = Unit {0}
AreInOrder (r ∷ rows) = AllByRecursion (Precedes r) rows × AreInOrder rows

pub key_is : (m : Mode) (name : List ℕ) → key m name ≡ name ++ tail (is_folder m) []
key_is Folder name = refl
key_is File name = sym (append-nil name)
key_is Exec name = sym (append-nil name)
key_is Link name = sym (append-nil name)
key_is Gitlink name = sym (append-nil name)

bytes_no_slash : (name : List ℕ) → list_all is_name_byte name ≡ true → has_no_slash name ≡ true
bytes_no_slash [] h = refl
bytes_no_slash (b ∷ name) h =
    let both = and_parts (is_name_byte b) (list_all is_name_byte name) h in
    let first = (and_parts (not (b == 0)) (not (b == 47)) (and_parts (not (b == 0) && not (b == 47)) _ both.0).0).1 in
    rw first (bytes_no_slash name both.1)

pub name_no_slash : (name : List ℕ) → is_name name ≡ true → has_no_slash name ≡ true
name_no_slash name h =
    bytes_no_slash name (and_parts (not (length name == 0)) (list_all is_name_byte name) (and_parts (not (length name == 0) && list_all is_name_byte name) _ h).0).1

below_apart : (folder a b s t : List ℕ) → IsApart (a ++ s) (b ++ t) → IsApart (below folder a ++ s) (below folder b ++ t)
below_apart [] a b s t h = h
below_apart (c ∷ folder) a b s t h =
    let front : List ℕ = (c ∷ folder) ++ 47 ∷ [] in
    rw (append_assoc front a s, append_assoc front b t) (front_apart front (a ++ s) (b ++ t) h)

precedes : (folder : List ℕ) (d e : TreeEntry) → is_name d.name ≡ true → is_name e.name ≡ true → IsBefore d e
    → Precedes (row_at folder d) (row_at folder e)
precedes folder d e hd he before = record {
  apart = λ p q up uq.
      let less : is_less (d.name ++ tail (is_folder d.mode) []) (e.name ++ tail (is_folder e.mode) []) ≡ true = rw (key_is d.mode d.name, key_is e.mode e.name) at before.less in
      let core = names (is_folder d.mode) (is_folder e.mode) up.rest uq.rest d.name e.name (name_no_slash d.name hd) (name_no_slash e.name he) before.other less in
      let both = below_apart folder d.name e.name (tail (is_folder d.mode) up.rest) (tail (is_folder e.mode) uq.rest) core in
      rw (up.path_is, uq.path_is) both;
}

precedes_all : (folder : List ℕ) (e : TreeEntry) (es : List TreeEntry) → is_name e.name ≡ true → AllByRecursion (IsBefore e) es → IsTreeOrder es
    → AllByRecursion (Precedes (row_at folder e)) (map (row_at folder) es)
precedes_all folder e [] he before order = tt
precedes_all folder e (d ∷ es) he before order = (precedes folder e d he order.0 before.0, precedes_all folder e es he before.1 order.2)

pub rows_in_order : (folder : List ℕ) (es : List TreeEntry) → IsTreeOrder es → AreInOrder (map (row_at folder) es)
rows_in_order folder [] order = tt
rows_in_order folder (e ∷ es) order = (precedes_all folder e es order.0 order.1 order.2, rows_in_order folder es order.2)
