-- The entries of a map's trees are in order.
use Rattle.std.proofs.Common.{◌≡◌, ℕ, ◌==◌, Bool, true, false, ◌&&◌, not, List, [], ◌∷◌, ◌++◌, map, refl, sym, ap, subst, ◌∙◌, eqb-true}
use Rattle.std.specs.Cmp.Lexicographic.{slice_cmp}
use Rattle.std.specs.List.{AllByRecursion}
use Rattle.std.specs.Ordering.{nat_cmp}
use Rattle.std.specs.Str.{bytes_eq}
use Rattle.std.proofs.lemmas.Bool.{and_parts}
use Rattle.std.proofs.lemmas.List.{append-nil}
use Rattle.std.proofs.lemmas.Slice.Eq.{bytes_eq-Decides}
use Rattle.seq_base.specs.PathMaps.{AreApart, HoldsFiles, IsAscending, IsPathMap, clashes, is_less, Entries}
use Rattle.seq_base.specs.declared.map.Entry.{Entry}
use Rattle.seq_base.specs.declared.mode.Mode.{Mode}
use Rattle.seq_base.specs.declared.mode.Mode.TheVariants.{Folder}
use Rattle.seq_base.proofs.Maps.{less_antisymmetric}
use Rattle.object_text.specs.declared.tree.TreeEntry.{TreeEntry}
use Rattle.object_text.specs.TreeMaps.{Listing, NoMore, OneFile, OneFolder, is_folder, tree_entries, tree_id}
use Rattle.object_text.specs.Trees.{IsBefore, IsTreeOrder, is_name, key}
use Rattle.path_trees.proofs.Listings.{IsOther, IsSome, IsWhole, in_front, rows_in}
use Rattle.path_trees.proofs.Order.{IsApart, has_no_slash, head_less, key_is, name_no_slash, no_slash, same_free, same_less, swapped, tail}

-- ---- the keys of entries are in the order of paths below them

-- as names of a tree, in which s and t say whether they are folders, the one comes before the other
record Before (s t : Bool) (a b : List ℕ) : Type 0 where
  less : is_less (a ++ tail s []) (b ++ tail t []) ≡ true
  other : bytes_eq a b ≡ false

off : (x : ℕ) (p q : List ℕ) → IsApart (x ∷ p) (x ∷ q) → IsApart p q
off x p q h = record { less = sym (same_less x p q) ∙ h.less; free = sym (same_free x p q) ∙ h.free }

pub front_off : (front p q : List ℕ) → IsApart (front ++ p) (front ++ q) → IsApart p q
front_off [] p q h = h
front_off (x ∷ front) p q h = front_off front p q (off x (front ++ p) (front ++ q) h)

keys : (s t : Bool) (ra rb a b : List ℕ) → has_no_slash a ≡ true → has_no_slash b ≡ true → (s ≡ true → t ≡ true → a ≡ b → ⊥)
    → IsApart (a ++ tail s ra) (b ++ tail t rb) → Before s t a b
keys true true ra rb [] [] ha hb other apart = absurd (other refl refl refl)
keys true false ra rb [] [] ha hb other apart = let less = apart.less in absurd cc
keys false true ra rb [] [] ha hb other apart = let free = apart.free in absurd cc
keys false false ra rb [] [] ha hb other apart = let less = apart.less in absurd cc
keys true t ra rb [] (y ∷ b) ha hb other apart =
    record { less = head_less 47 y (slice_cmp nat_cmp ra (b ++ tail t rb)) (slice_cmp nat_cmp [] (b ++ tail t [])) (swapped y 47 (no_slash y b hb)) apart.less; other = refl }
keys false t ra rb [] (y ∷ b) ha hb other apart = record { less = refl; other = refl }
keys s true ra rb (x ∷ a) [] ha hb other apart =
    record { less = head_less x 47 (slice_cmp nat_cmp (a ++ tail s ra) rb) (slice_cmp nat_cmp (a ++ tail s []) []) (no_slash x a ha) apart.less; other = refl }
keys s false ra rb (x ∷ a) [] ha hb other apart = let less = apart.less in absurd cc
keys s t ra rb (x ∷ a) (y ∷ b) ha hb other apart =
    at (λ differ rest. keys s t ra rb a b (and_parts (not (x == 47)) (has_no_slash a) ha).1 (and_parts (not (y == 47)) (has_no_slash b) hb).1 differ rest) (x == y) refl
  where
    at : ((s ≡ true → t ≡ true → a ≡ b → ⊥) → IsApart (a ++ tail s ra) (b ++ tail t rb) → Before s t a b) → (same : Bool) → (x == y) ≡ same
        → Before s t (x ∷ a) (y ∷ b)
    at later true is =
        let one : x ≡ y = eqb-true x y is in
        let rest = later (λ fs ft same. other fs ft (ap (λ (z : ℕ). z ∷ a) one ∙ ap (λ (zs : List ℕ). y ∷ zs) same)) (off x (a ++ tail s ra) (b ++ tail t rb) (subst (λ (z : ℕ). IsApart (x ∷ (a ++ tail s ra)) (z ∷ (b ++ tail t rb))) (sym one) apart)) in
        record {
          less =
              subst (λ (z : ℕ). is_less (x ∷ (a ++ tail s [])) (z ∷ (b ++ tail t [])) ≡ true) one (same_less x (a ++ tail s []) (b ++ tail t []) ∙ rest.less);
          other = ap (λ (e : Bool). e && bytes_eq a b) is ∙ rest.other;
        }
    at later false is = record {
      less = head_less x y (slice_cmp nat_cmp (a ++ tail s ra) (b ++ tail t rb)) (slice_cmp nat_cmp (a ++ tail s []) (b ++ tail t [])) is apart.less;
      other = ap (λ (e : Bool). e && bytes_eq a b) is;
    }

-- ---- rows that are all apart

-- each comes before those that follow, and none lies below another
abbrev pub AllApart : Entries → Type 0
AllApart [] = Unit {0}
AllApart (r ∷ rows) = AllByRecursion (λ d. IsApart r.0 d.0) rows × AllApart rows

both : (p : List ℕ) (rows : Entries) → AllByRecursion (λ d. is_less p d.0 ≡ true) rows → AllByRecursion (λ d. clashes p d.0 ≡ false) rows
    → AllByRecursion (λ d. IsApart p d.0) rows
both p [] less free = tt
both p (r ∷ rows) less free = (record { less = less.0; free = free.0 }, both p rows less.1 free.1)

all_apart : (rows : Entries) → IsAscending rows → AreApart rows → AllApart rows
all_apart [] ascending apart = tt
all_apart (r ∷ rows) ascending apart = (both r.0 rows ascending.0 apart.0, all_apart rows ascending.1 apart.1)

pub map_apart : (rows : Entries) → IsPathMap rows → AllApart rows
map_apart rows is = all_apart rows is.ascending is.apart

each_less : (p : List ℕ) (rows : Entries) → AllByRecursion (λ d. IsApart p d.0) rows → AllByRecursion (λ d. is_less p d.0 ≡ true) rows
each_less p [] apart = tt
each_less p (r ∷ rows) apart = (apart.0.less, each_less p rows apart.1)

each_free : (p : List ℕ) (rows : Entries) → AllByRecursion (λ d. IsApart p d.0) rows → AllByRecursion (λ d. clashes p d.0 ≡ false) rows
each_free p [] apart = tt
each_free p (r ∷ rows) apart = (apart.0.free, each_free p rows apart.1)

ascends : (rows : Entries) → AllApart rows → IsAscending rows
ascends [] apart = tt
ascends (r ∷ rows) apart = (each_less r.0 rows apart.0, ascends rows apart.1)

are_free : (rows : Entries) → AllApart rows → AreApart rows
are_free [] apart = tt
are_free (r ∷ rows) apart = (each_free r.0 rows apart.0, are_free rows apart.1)

pub apart_map : (rows : Entries) → AllApart rows → HoldsFiles rows → IsPathMap rows
apart_map rows apart files = record { ascending = ascends rows apart; apart = are_free rows apart; files = files }

pub all_front : (P : List ℕ × Entry → Type 0) (xs ys : Entries) → AllByRecursion P (xs ++ ys) → AllByRecursion P xs
all_front P [] ys all = tt
all_front P (x ∷ xs) ys all = (all.0, all_front P xs ys all.1)

pub all_back : (P : List ℕ × Entry → Type 0) (xs ys : Entries) → AllByRecursion P (xs ++ ys) → AllByRecursion P ys
all_back P [] ys all = all
all_back P (x ∷ xs) ys all = all_back P xs ys all.1

pub apart_front : (xs ys : Entries) → AllApart (xs ++ ys) → AllApart xs
apart_front [] ys apart = tt
apart_front (x ∷ xs) ys apart = (all_front (λ d. IsApart x.0 d.0) xs ys apart.0, apart_front xs ys apart.1)

pub apart_back : (xs ys : Entries) → AllApart (xs ++ ys) → AllApart ys
apart_back [] ys apart = apart
apart_back (x ∷ xs) ys apart = apart_back xs ys apart.1

one_inner : (name p : List ℕ) (rows : Entries) → AllByRecursion (λ d. IsApart (name ++ 47 ∷ p) d.0) (map (in_front name) rows)
    → AllByRecursion (λ d. IsApart p d.0) rows
one_inner name p [] apart = tt
one_inner name p (r ∷ rows) apart = (off 47 p r.0 (front_off name (47 ∷ p) (47 ∷ r.0) apart.0), one_inner name p rows apart.1)

pub apart_inner : (name : List ℕ) (rows : Entries) → AllApart (map (in_front name) rows) → AllApart rows
apart_inner name [] apart = tt
apart_inner name (r ∷ rows) apart = (one_inner name r.0 rows apart.0, apart_inner name rows apart.1)

-- ---- the entries of a listing

pub record HasFirst (rows : Entries) : Type 0 where
  pub row : List ℕ × Entry
  pub others : Entries
  pub rows_are : rows ≡ row ∷ others

pub first_row : (listing : Listing) → IsSome listing → IsWhole listing → HasFirst (rows_in listing)
unfolding rows_in
first_row NoMore some whole = absurd some
first_row (OneFile name entry others) some whole = record { row = (name, entry); others = rows_in others; rows_are = refl }
first_row (OneFolder name its others) some whole =
    let first = first_row its whole.1 whole.2 in
    record { row = in_front name first.row; others = map (in_front name) first.others ++ rows_in others; rows_are = ap (λ (rows : Entries). map (in_front name) rows ++ rows_in others) first.rows_are }

-- a path at or below the entry passes
record HasPath (P : List ℕ → Type 0) (e : TreeEntry) : Type 0 where
  rest : List ℕ
  passes : P (e.name ++ tail (is_folder e.mode) rest)
  named : is_name e.name ≡ true

file_path : (name : List ℕ) (mode : Mode) → is_folder mode ≡ false → name ++ tail (is_folder mode) [] ≡ name
file_path name mode file = ap (λ (t : Bool). name ++ tail t []) file ∙ append-nil name

have_paths : (P : List ℕ → Type 0) (listing : Listing) → IsWhole listing → AllByRecursion (λ d. P d.0) (rows_in listing)
    → AllByRecursion (HasPath P) (tree_entries listing)
unfolding rows_in tree_entries
have_paths P NoMore whole all = tt
have_paths P (OneFile name entry others) whole all =
    (record { rest = []; passes = subst P (sym (file_path name entry.mode whole.1)) all.0; named = whole.0 }, have_paths P others whole.2 all.1)
have_paths P (OneFolder name its others) whole all =
    let first = first_row its whole.1 whole.2 in
    let inner = subst (λ (rows : Entries). AllByRecursion (λ d. P d.0) (map (in_front name) rows)) first.rows_are (all_front (λ d. P d.0) (map (in_front name) (rows_in its)) (rows_in others) all) in
    (record { rest = first.row.0; passes = inner.0; named = whole.0 }, have_paths P others whole.4 (all_back (λ d. P d.0) (map (in_front name) (rows_in its)) (rows_in others) all))

-- not the same folder
abbrev AreOther : TreeEntry → TreeEntry → Type 0
AreOther d e = is_folder d.mode ≡ true → is_folder e.mode ≡ true → d.name ≡ e.name → ⊥

entry_before : (d e : TreeEntry) (rest : List ℕ) → is_name d.name ≡ true → HasPath (IsApart (d.name ++ tail (is_folder d.mode) rest)) e → AreOther d e
    → IsBefore d e
entry_before d e rest named at other =
    let before = keys (is_folder d.mode) (is_folder e.mode) rest at.rest d.name e.name (name_no_slash d.name named) (name_no_slash e.name at.named) other at.passes in
    record { less = rw (key_is d.mode d.name, key_is e.mode e.name) before.less; other = before.other }

folder_key : (m : Mode) (name : List ℕ) → is_folder m ≡ true → key m name ≡ name ++ 47 ∷ []
folder_key m name on = key_is m name ∙ ap (λ (t : Bool). name ++ tail t []) on

still_other : (d f e : TreeEntry) → IsBefore d f → IsBefore f e → AreOther d e
still_other d f e first then df ef same =
    let one : key e.mode e.name ≡ key d.mode d.name = folder_key e.mode e.name ef ∙ (ap (λ (n : List ℕ). n ++ 47 ∷ []) (sym same) ∙ sym (folder_key d.mode d.name df)) in
    less_antisymmetric (key d.mode d.name) (key f.mode f.name) first.less (subst (λ (k : List ℕ). is_less (key f.mode f.name) k ≡ true) one then.less)

abbrev IsFirstOther : TreeEntry → List TreeEntry → Type 0
IsFirstOther d [] = Unit {0}
IsFirstOther d (e ∷ es) = AreOther d e

later_before : (d f : TreeEntry) (rest : List ℕ) (es : List TreeEntry) → is_name d.name ≡ true → IsBefore d f → AllByRecursion (IsBefore f) es
    → AllByRecursion (HasPath (IsApart (d.name ++ tail (is_folder d.mode) rest))) es → AllByRecursion (IsBefore d) es
later_before d f rest [] named first order at = tt
later_before d f rest (e ∷ es) named first order at =
    (entry_before d e rest named at.0 (still_other d f e first order.0), later_before d f rest es named first order.1 at.1)

all_before : (d : TreeEntry) (rest : List ℕ) (es : List TreeEntry) → is_name d.name ≡ true → IsTreeOrder es
    → AllByRecursion (HasPath (IsApart (d.name ++ tail (is_folder d.mode) rest))) es → IsFirstOther d es → AllByRecursion (IsBefore d) es
all_before d rest [] named order at other = tt
all_before d rest (f ∷ es) named order at other =
    let first = entry_before d f rest named at.0 other in (first, later_before d f rest es named first order.1 at.1)

file_other : (d : TreeEntry) (es : List TreeEntry) → is_folder d.mode ≡ false → IsFirstOther d es
file_other d [] file = tt
file_other d (e ∷ es) file = λ df ef same. absurd cc

folder_other : (name id : List ℕ) (others : Listing) → IsOther name others → IsWhole others
    → IsFirstOther (record { mode = Folder; name = name; id = id }) (tree_entries others)
unfolding tree_entries
folder_other name id NoMore other whole = tt
folder_other name id (OneFile first entry others) other whole = λ df ef same. let file = whole.1 in absurd cc
folder_other name id (OneFolder first its others) other whole = λ df ef same. let one = (bytes_eq-Decides first name).1 (sym same) in absurd cc

pub tree_ordered : (listing : Listing) → IsWhole listing → AllApart (rows_in listing) → IsTreeOrder (tree_entries listing)
unfolding rows_in tree_entries
tree_ordered NoMore whole apart = tt
tree_ordered (OneFile name entry others) whole apart =
    let order = tree_ordered others whole.2 apart.1 in
    let at = have_paths (IsApart name) others whole.2 apart.0 in
    let d : TreeEntry = record { mode = entry.mode; name = name; id = entry.id } in
    (whole.0, all_before d [] (tree_entries others) whole.0 order (subst (λ (p : List ℕ). AllByRecursion (HasPath (IsApart p)) (tree_entries others)) (sym (file_path name entry.mode whole.1)) at) (file_other d (tree_entries others) whole.1), order)
tree_ordered (OneFolder name its others) whole apart =
    let first = first_row its whole.1 whole.2 in
    let order = tree_ordered others whole.4 (apart_back (map (in_front name) (rows_in its)) (rows_in others) apart) in
    let rest = subst (λ (rows : Entries). AllApart (map (in_front name) rows ++ rows_in others)) first.rows_are apart in
    let at = have_paths (IsApart (name ++ 47 ∷ first.row.0)) others whole.4 (all_back (λ d. IsApart (name ++ 47 ∷ first.row.0) d.0) (map (in_front name) first.others) (rows_in others) rest.0) in
    let d : TreeEntry = record { mode = Folder; name = name; id = tree_id (tree_entries its) } in
    (whole.0, all_before d first.row.0 (tree_entries others) whole.0 order at (folder_other name (tree_id (tree_entries its)) others whole.3 whole.4), order)
