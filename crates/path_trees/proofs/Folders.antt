-- The rows of a folder, one file or one subfolder after another.
use Rattle.std.proofs.Common.{◌≡◌, ℕ, suc, ◌+◌, ◌-◌, ◌<◌, ◌≤◌, ◌==◌, Bool, true, false, cond, ◌&&◌, not, List, [], ◌∷◌, ◌++◌, length, map, take, drop, get_or, nat_lt, Some, None, Result, Ok, Err, refl, sym, ap, subst, ◌∙◌, arith, append_assoc, length-append, eqb-true}
use Rattle.std.specs.List.{AllByRecursion, list_all, position, position_or_len, prefix_len}
use Rattle.std.specs.Result.{IfOk, OnOk}
use Rattle.std.proofs.lemmas.Bool.{and_from, and_parts, not-true}
use Rattle.std.proofs.lemmas.Bool.Decides.{Decides-eqb, nat_tests}
use Rattle.std.proofs.lemmas.List.{append-nil, drop-drop, drop-map, length-drop, length-take-le, length-map, map-append, take-append-drop, take-map, take_all, take_rest}
use Rattle.std.proofs.Math.Seq.{take-append_seam}
use Rattle.std.proofs.lemmas.List.Elements.{All-weaker}
use Rattle.std.proofs.lemmas.List.Splits.{slice_split_none}
use Rattle.std.proofs.lemmas.List.Sums.{AllPass-from_list_all, passes_at_first, split_at_first}
use Rattle.std.proofs.lemmas.Slice.Eq.{starts_is}
use Rattle.seq_base.specs.Paths.{IsPath, parts}
use Rattle.seq_base.specs.PathMaps.{HoldsFiles, IsPathMap, Entries}
use Rattle.seq_base.specs.Words.{Id}
use Rattle.seq_base.specs.World.{World}
use Rattle.seq_base.specs.declared.map.Entry.{Entry}
use Rattle.seq_base.specs.declared.mode.Mode.{Mode}
use Rattle.seq_base.specs.declared.mode.Mode.TheVariants.{File, Exec, Link, Gitlink, Folder}
use Rattle.seq_outside.specs.Turns.{gives, go_on}
use Rattle.seq_outside.specs.declared.lack.Lack.{Lack}
use Rattle.object_text.specs.declared.tree.TreeEntry.{TreeEntry}
use Rattle.object_text.specs.TreeMaps.{Listing, OneFile, OneFolder, folder_trees, is_folder, listing_of, root_of, tree_entries, tree_id, tree_object, trees_of}
use Rattle.object_text.specs.Trees.{HaveIds, IsTreeOrder, is_name}
use Rattle.objects.specs.Puts.{object_put}
use Rattle.seq_outside.specs.Store.{KeepsFiles, StaysOutside}
use Rattle.seq_outside.proofs.Turning.{same_answer, same_world}
use Rattle.objects.specs.Named.{is_object_place}
use Rattle.path_trees.specs.Puts.{GoesOnBehind, HasPut, count_inside, cut, each_put, folder_put, is_inside}
use Rattle.path_trees.specs.declared.fault.TreeFault.{TreeFault}
use Rattle.path_trees.specs.declared.fault.TreeFault.TheVariants.{BadObject, TooLarge, Depth, Blocked, Fault, Memory}
use Rattle.path_trees.proofs.Listings.{AreFiles, HaveNames, IsOther, file_listed, folder_listed, in_front, listing_whole, other_listed, parts_in_front, rows_listed}
use Rattle.path_trees.proofs.Order.{has_no_slash}
use Rattle.path_trees.proofs.Puts.{each_put-append, each_put-none, each_put-one, unit}
use Rattle.path_trees.proofs.TreeOrder.{AllApart, all_back, all_front, apart_back, apart_front, apart_inner, apart_map, map_apart, tree_ordered}

-- ---- lists

front_passes : {X : Type 0} (p : X → Bool) (xs : List X) → list_all p (take (prefix_len p xs) xs) ≡ true
front_passes p [] = refl
front_passes p (x ∷ xs) = by (front_passes p xs) (p x) refl
  where
    by : list_all p (take (prefix_len p xs) xs) ≡ true → (passes : Bool) → p x ≡ passes
        → list_all p (take (cond passes (1 + prefix_len p xs) 0) (x ∷ xs)) ≡ true
    by later true is =
        let one : 1 + prefix_len p xs ≡ suc (prefix_len p xs) = omega arith in
        rw one (and_from (p x) (list_all p (take (prefix_len p xs) xs)) is later)
    by later false is = refl

behind_fails : {X : Type 0} (p : X → Bool) (xs ys : List X) (y : X) → drop (prefix_len p xs) xs ≡ y ∷ ys → p y ≡ false
behind_fails p [] ys y is = absurd cc
behind_fails p (x ∷ xs) ys y is = by (behind_fails p xs ys y) (p x) refl is
  where
    by : (drop (prefix_len p xs) xs ≡ y ∷ ys → p y ≡ false) → (passes : Bool) → p x ≡ passes
        → drop (cond passes (1 + prefix_len p xs) 0) (x ∷ xs) ≡ y ∷ ys → p y ≡ false
    by later true at is =
        let one : 1 + prefix_len p xs ≡ suc (prefix_len p xs) = omega arith in
        later (rw one at is)
    by later false at is = let same : x ≡ y = cc in subst (λ z. p z ≡ false) same at

some_passes : {X : Type 0} (p : X → Bool) (xs ys : List X) (x : X) → xs ≡ x ∷ ys → p x ≡ true → 0 < length (take (prefix_len p xs) xs)
some_passes p xs ys x is passes =
    let count : prefix_len p xs ≡ suc (prefix_len p ys) = ap (prefix_len p) is ∙ (ap (λ (b : Bool). cond b (1 + prefix_len p ys) 0) passes ∙ omega arith) in
    let all : take (prefix_len p xs) xs ≡ x ∷ take (prefix_len p ys) ys = ap (λ (n : ℕ). take n xs) count ∙ ap (take (suc (prefix_len p ys))) is in
    let size = ap length all in
    omega (arith, size)

-- ---- the first part of a path

-- the path has its first slash there
pub record HasSlash (path : List ℕ) (at : ℕ) : Type 0 where
  pub within : at < length path
  pub none : has_no_slash (take at path) ≡ true
  pub split : path ≡ take at path ++ 47 ∷ drop (at + 1) path

is_some_at : (n size at : ℕ) (b : Bool) → nat_lt n size ≡ b → cond b (Some n) None ≡ Some at → (n < size) × (n ≡ at)
is_some_at n size at true lt is = (grind (arith, nat_tests), cc)
is_some_at n size at false lt is = absurd cc

pub slash_found : (path : List ℕ) (at : ℕ) → position (λ b. b == 47) path ≡ Some at → HasSlash path at
slash_found path at is =
    let n = position_or_len (λ b. b == 47) path in
    let here = is_some_at n (length path) at (nat_lt n (length path)) refl is in
    let slash : get_or path n 0 ≡ 47 = eqb-true (get_or path n 0) 47 (passes_at_first (λ b. b == 47) path 0 here.0) in
    let split : path ≡ take n path ++ 47 ∷ drop (n + 1) path = split_at_first (λ b. b == 47) path 0 here.0 ∙ ap (λ (b : ℕ). take n path ++ b ∷ drop (n + 1) path) slash in
    subst (HasSlash path) here.1 (record { within = here.0; none = front_passes (λ b. not (b == 47)) path; split = split })

none_at : (n size : ℕ) (b : Bool) → nat_lt n size ≡ b → cond b (Some n) None ≡ None → size ≤ n
none_at n size true lt is = absurd cc
none_at n size false lt is = grind (arith, nat_tests)

pub no_slash_found : (path : List ℕ) → position (λ b. b == 47) path ≡ None → parts path ≡ path ∷ []
no_slash_found path is =
    let n = position_or_len (λ b. b == 47) path in
    let far = none_at n (length path) (nat_lt n (length path)) refl is in
    let none : has_no_slash path ≡ true = subst (λ (p : List ℕ). has_no_slash p ≡ true) (take_all n path far) (front_passes (λ b. not (b == 47)) path) in
    slice_split_none (λ b. b == 47) path (All-weaker (λ b. not (b == 47) ≡ true) (λ b. (b == 47) ≡ false) (λ b is. not-true (b == 47) is) path (AllPass-from_list_all (λ b. not (b == 47)) path none))

-- ---- rows that are a map behind so many bytes

files_of : (mode : Mode) → (mode ≡ Folder → ⊥) → is_folder mode ≡ false
files_of File other = refl
files_of Exec other = refl
files_of Link other = refl
files_of Gitlink other = refl
files_of Folder other = absurd (other refl)

pub are_files : (rows : Entries) → HoldsFiles rows → AreFiles rows
are_files [] files = tt
are_files (e ∷ es) files = (files_of e.1.mode files.0, are_files es files.1)

pub map_ordered : (rows : Entries) → HaveNames rows → IsPathMap rows → IsTreeOrder (tree_entries (listing_of rows))
map_ordered rows names is =
    tree_ordered (listing_of rows) (listing_whole rows names (are_files rows is.files)) (subst AllApart (sym (rows_listed rows)) (map_apart rows is))

goes_front : (skip : ℕ) (xs ys : Entries) → GoesOnBehind skip (xs ++ ys) → GoesOnBehind skip xs
goes_front skip xs ys goes =
    let split : cut skip (xs ++ ys) ≡ cut skip xs ++ cut skip ys = map-append (λ (e : List ℕ × Entry). (drop skip e.0, e.1)) xs ys in
    let is_map = subst IsPathMap split goes.is_map in
    record {
      long = all_front (λ e. skip ≤ length e.0) xs ys goes.long;
      short = all_front (λ e. length e.0 ≤ 4095) xs ys goes.short;
      names = all_front (λ e. list_all is_name (parts e.0) ≡ true) (cut skip xs) (cut skip ys) (subst HaveNames split goes.names);
      is_map =
          apart_map (cut skip xs) (apart_front (cut skip xs) (cut skip ys) (map_apart (cut skip xs ++ cut skip ys) is_map)) (all_front (λ e. e.1.mode ≡ Folder → ⊥) (cut skip xs) (cut skip ys) is_map.files);
    }

goes_back : (skip : ℕ) (xs ys : Entries) → GoesOnBehind skip (xs ++ ys) → GoesOnBehind skip ys
goes_back skip xs ys goes =
    let split : cut skip (xs ++ ys) ≡ cut skip xs ++ cut skip ys = map-append (λ (e : List ℕ × Entry). (drop skip e.0, e.1)) xs ys in
    let is_map = subst IsPathMap split goes.is_map in
    record {
      long = all_back (λ e. skip ≤ length e.0) xs ys goes.long;
      short = all_back (λ e. length e.0 ≤ 4095) xs ys goes.short;
      names = all_back (λ e. list_all is_name (parts e.0) ≡ true) (cut skip xs) (cut skip ys) (subst HaveNames split goes.names);
      is_map =
          apart_map (cut skip ys) (apart_back (cut skip xs) (cut skip ys) (map_apart (cut skip xs ++ cut skip ys) is_map)) (all_back (λ e. e.1.mode ≡ Folder → ⊥) (cut skip xs) (cut skip ys) is_map.files);
    }

-- ---- the rows of one subfolder

abbrev AreInside : List ℕ → ℕ → Entries → Type 0
AreInside name skip rows = list_all (λ e. is_inside (name ++ 47 ∷ []) e.0) (cut skip rows) ≡ true

inside_is : (name path : List ℕ) → is_inside (name ++ 47 ∷ []) path ≡ true → path ≡ name ++ 47 ∷ drop (length name + 1) path
inside_is name path inside =
    (starts_is Decides-eqb path (name ++ 47 ∷ []) (is_inside (name ++ 47 ∷ []) path) refl).0 inside
    ∙ (append_assoc name (47 ∷ []) (drop (length (name ++ 47 ∷ [])) path) ∙ ap (λ (n : ℕ). name ++ 47 ∷ drop n path) (length-append name (47 ∷ [])))

deeper : (name path : List ℕ) (skip next : ℕ) → next ≡ skip + length name + 1 → is_inside (name ++ 47 ∷ []) (drop skip path) ≡ true
    → drop skip path ≡ name ++ 47 ∷ drop next path
deeper name path skip next is inside =
    let more : skip + (length name + 1) ≡ next = omega arith in
    inside_is name (drop skip path) inside ∙ ap (λ (p : List ℕ). name ++ 47 ∷ p) (drop-drop (length name + 1) skip path ∙ ap (λ (n : ℕ). drop n path) more)

all_deeper : (name : List ℕ) (skip next : ℕ) (rows : Entries) → next ≡ skip + length name + 1 → AreInside name skip rows
    → cut skip rows ≡ map (in_front name) (cut next rows)
all_deeper name skip next [] is inside = refl
all_deeper name skip next (e ∷ es) is inside =
    let both = and_parts (is_inside (name ++ 47 ∷ []) (drop skip e.0)) (list_all (λ d. is_inside (name ++ 47 ∷ []) d.0) (cut skip es)) inside in
    ap (λ (p : List ℕ). (p, e.1) ∷ cut skip es) (deeper name e.0 skip next is both.0) ∙ ap (λ (rows : Entries). (name ++ 47 ∷ drop next e.0, e.1) ∷ rows) (all_deeper name skip next es is both.1)

all_longer : (name : List ℕ) (skip next : ℕ) (rows : Entries) → next ≡ skip + length name + 1 → AreInside name skip rows
    → AllByRecursion (λ e. skip ≤ length e.0) rows → AllByRecursion (λ e. next ≤ length e.0) rows
all_longer name skip next [] is inside long = tt
all_longer name skip next (e ∷ es) is inside long =
    let both = and_parts (is_inside (name ++ 47 ∷ []) (drop skip e.0)) (list_all (λ d. is_inside (name ++ 47 ∷ []) d.0) (cut skip es)) inside in
    let size = ap length (deeper name e.0 skip next is both.0) in
    let first = long.0 in
    (omega (arith, size, first, length-drop skip e.0, length-append name (47 ∷ drop next e.0)), all_longer name skip next es is both.1 long.1)

inner_names : (name : List ℕ) (rows : Entries) → has_no_slash name ≡ true → HaveNames (map (in_front name) rows) → HaveNames rows
inner_names name [] none names = tt
inner_names name (e ∷ es) none names =
    ((and_parts (is_name name) (list_all is_name (parts e.0)) (sym (ap (list_all is_name) (parts_in_front name e.0 none)) ∙ names.0)).1, inner_names name es none names.1)

inner_files : (name : List ℕ) (rows : Entries) → HoldsFiles (map (in_front name) rows) → HoldsFiles rows
inner_files name [] files = tt
inner_files name (e ∷ es) files = (files.0, inner_files name es files.1)

goes_inside : (name : List ℕ) (skip next : ℕ) (rows : Entries) → next ≡ skip + length name + 1 → has_no_slash name ≡ true → AreInside name skip rows
    → GoesOnBehind skip rows → GoesOnBehind next rows
goes_inside name skip next rows is none inside goes =
    let all = all_deeper name skip next rows is inside in
    let is_map = subst IsPathMap all goes.is_map in
    record {
      long = all_longer name skip next rows is inside goes.long;
      short = goes.short;
      names = inner_names name (cut next rows) none (subst HaveNames all goes.names);
      is_map =
          apart_map (cut next rows) (apart_inner name (cut next rows) (map_apart (map (in_front name) (cut next rows)) is_map)) (inner_files name (cut next rows) is_map.files);
    }

-- the folder is listed first, by the rows that stand in it
pub record HasGroup (name : List ℕ) (skip next : ℕ) (rest inside others : Entries) : Type 0 where
  pub listed : listing_of (cut skip rest) ≡ OneFolder name (listing_of (cut next inside)) (listing_of (cut skip others))
  pub inner : GoesOnBehind next inside
  pub outer : GoesOnBehind skip others
  pub fewer : length others < length rest
  pub whole : rest ≡ inside ++ others

some_listed : (name : List ℕ) (rows others : Entries) → 0 < length rows → has_no_slash name ≡ true → IsOther name (listing_of others)
    → listing_of (map (in_front name) rows ++ others) ≡ OneFolder name (listing_of rows) (listing_of others)
some_listed name [] others some none other = absurd (omega arith)
some_listed name (e ∷ es) others some none other = folder_listed name e es others none other

inside_again : (name path : List ℕ) → is_inside (name ++ 47 ∷ []) (name ++ 47 ∷ path) ≡ true
inside_again name path =
    (starts_is Decides-eqb (name ++ 47 ∷ path) (name ++ 47 ∷ []) (is_inside (name ++ 47 ∷ []) (name ++ 47 ∷ path)) refl).1 path (sym (append_assoc name (47 ∷ []) path))

twice : (b : Bool) → not (not b) ≡ b
twice true = refl
twice false = refl

all_twice : (test : List ℕ × Entry → Bool) (rows : Entries) → list_all (λ e. not (not (test e))) rows ≡ list_all test rows
all_twice test [] = refl
all_twice test (e ∷ es) =
    ap (λ (b : Bool). b && list_all (λ d. not (not (test d))) es) (twice (test e)) ∙ ap (λ (b : Bool). test e && b) (all_twice test es)

folder_with_slash : (path : List ℕ) (at : ℕ) → HasSlash path at → take (at + 1) path ≡ take at path ++ 47 ∷ []
folder_with_slash path at slash =
    let name = take at path in
    let size : length name ≡ at = let within = slash.within in length-take-le at path (omega arith) in
    let whole : path ≡ (name ++ 47 ∷ []) ++ drop (at + 1) path = slash.split ∙ sym (append_assoc name (47 ∷ []) (drop (at + 1) path)) in
    let long : at + 1 ≡ length (name ++ 47 ∷ []) = sym (length-append name (47 ∷ []) ∙ ap (λ (k : ℕ). k + 1) size) in
    ap (λ (k : ℕ). take k path) long ∙ (ap (take (length (name ++ 47 ∷ []))) whole ∙ take-append_seam (name ++ 47 ∷ []) (drop (at + 1) path))

module _ (skip at next : ℕ) (path : List ℕ) (rest after : Entries) (x : List ℕ × Entry) (rest_is : rest ≡ x ∷ after) (path_is : path ≡ drop skip x.0) (slash : HasSlash path at) (next_is : next ≡ skip + at + 1) (goes : GoesOnBehind skip rest) where
  abbrev name : List ℕ
  name = take at path

  abbrev here : List ℕ × Entry → Bool
  here e = is_inside (name ++ 47 ∷ []) e.0

  size : length name ≡ at
  size = let within = slash.within in length-take-le at path (omega arith)

  abbrev many : ℕ
  many = prefix_len (λ e. not (not (here e))) (cut skip rest)

  inside : AreInside name skip (take many rest)
  inside =
      sym (all_twice here (cut skip (take many rest)))
      ∙ (ap (list_all (λ e. not (not (here e)))) (sym (take-map (λ (e : List ℕ × Entry). (drop skip e.0, e.1)) many rest)) ∙ front_passes (λ e. not (not (here e))) (cut skip rest))

  rest_cut : cut skip rest ≡ (drop skip x.0, x.1) ∷ cut skip after
  rest_cut = ap (cut skip) rest_is

  some : 0 < length (cut next (take many rest))
  some =
      let first : here (drop skip x.0, x.1) ≡ true = ap (is_inside (name ++ 47 ∷ [])) (sym path_is ∙ slash.split) ∙ inside_again name (drop (at + 1) path) in
      let all = some_passes (λ (e : List ℕ × Entry). not (not (here e))) (cut skip rest) (cut skip after) (drop skip x.0, x.1) rest_cut (twice (here (drop skip x.0, x.1)) ∙ first) in
      let same = ap (length {A = List ℕ × Entry}) (take-map (λ (e : List ℕ × Entry). (drop skip e.0, e.1)) many rest) in
      let one : length (cut skip (take many rest)) ≡ length (take many rest) = length-map (take many rest) (λ (e : List ℕ × Entry). (drop skip e.0, e.1)) in
      let two : length (cut next (take many rest)) ≡ length (take many rest) = length-map (take many rest) (λ (e : List ℕ × Entry). (drop next e.0, e.1)) in
      omega (arith, all, same, one, two)

  apart : IsOther name (listing_of (cut skip (drop many rest)))
  apart = other_listed name (cut skip (drop many rest)) (λ e es is under path_under.
      let out = behind_fails (λ d. not (not (here d))) (cut skip rest) es e (drop-map (λ (d : List ℕ × Entry). (drop skip d.0, d.1)) many rest ∙ is) in
      let on = twice (here e) ∙ (ap (is_inside (name ++ 47 ∷ [])) path_under ∙ inside_again name under) in
      absurd cc)

  pub grouped : HasGroup name skip next rest (take many rest) (drop many rest)
  grouped =
      let more : next ≡ skip + length name + 1 = omega (arith, size) in
      let split : rest ≡ take many rest ++ drop many rest = sym (take-append-drop many rest) in
      let both = subst (GoesOnBehind skip) split goes in
      record {
        listed =
            ap (λ (rows : Entries). listing_of (cut skip rows)) split
            ∙ (ap listing_of (map-append (λ (e : List ℕ × Entry). (drop skip e.0, e.1)) (take many rest) (drop many rest))
            ∙ (ap (λ (rows : Entries). listing_of (rows ++ cut skip (drop many rest))) (all_deeper name skip next (take many rest) more inside)
            ∙ some_listed name (cut next (take many rest)) (cut skip (drop many rest)) some slash.none apart));
        inner = goes_inside name skip next (take many rest) more slash.none inside (goes_front skip (take many rest) (drop many rest) both);
        outer = goes_back skip (take many rest) (drop many rest) both;
        fewer =
            let whole = ap (length {A = List ℕ × Entry}) split ∙ length-append (take many rest) (drop many rest) in
            let one : length (cut next (take many rest)) ≡ length (take many rest) = length-map (take many rest) (λ (e : List ℕ × Entry). (drop next e.0, e.1)) in
            omega (arith, whole, one, some);
        whole = split;
      }

pub group_at : (skip at next n : ℕ) (path folder : List ℕ) (rest after inside others : Entries) (x : List ℕ × Entry) → rest ≡ x ∷ after
    → path ≡ drop skip x.0 → position (λ b. b == 47) path ≡ Some at → next ≡ skip + at + 1 → GoesOnBehind skip rest
    → folder ≡ take (at + 1) path → n ≡ count_inside folder (cut skip rest) → inside ≡ take n rest → others ≡ drop n rest → HasGroup (take at path) skip next rest inside others
group_at skip at next n path folder rest after inside others x rest_is path_is found next_is goes folder_is n_is inside_is others_is =
    let slash = slash_found path at found in
    let long : n ≡ prefix_len (λ e. not (not (is_inside (take at path ++ 47 ∷ []) e.0))) (cut skip rest) = n_is ∙ ap (λ (f : List ℕ). count_inside f (cut skip rest)) (folder_is ∙ folder_with_slash path at slash) in
    let group = grouped skip at next path rest after x rest_is path_is slash next_is goes in
    subst (λ (rows : Entries). HasGroup (take at path) skip next rest rows others) (sym inside_is)
    (subst (λ (rows : Entries). HasGroup (take at path) skip next rest (take n rest) rows) (sym others_is)
    (subst (λ (k : ℕ). HasGroup (take at path) skip next rest (take k rest) (drop k rest)) (sym long) group))

-- ---- ids

-- each id has twenty bytes
abbrev pub HaveRowIds : Entries → Type 0
HaveRowIds = AllByRecursion (λ e. length e.1.id ≡ 20)

split_ids : (es later : List TreeEntry) → HaveIds (es ++ later) → HaveIds es × HaveIds later
split_ids [] later all = (tt, all)
split_ids (e ∷ es) later all = let both = split_ids es later all.1 in ((all.0, both.0), both.1)

join_ids : (rows later : Entries) → HaveRowIds rows → HaveRowIds later → HaveRowIds (rows ++ later)
join_ids [] later own more = more
join_ids (e ∷ es) later own more = (own.0, join_ids es later own.1 more)

-- ---- what was put so far

-- The entries so far and those of the rows left are the folder's; the trees so far were put, and then come those of the rows left.
pub record IsWay (told : Type 0) (skip : ℕ) (rows left : Entries) (entries : List TreeEntry) (old now : World) : Type 0 where
  pub goes : GoesOnBehind skip left
  pub entries_are : tree_entries (listing_of (cut skip rows)) ≡ entries ++ tree_entries (listing_of (cut skip left))
  pub trees_are : told → each_put (folder_trees (listing_of (cut skip rows))) old ≡ each_put (folder_trees (listing_of (cut skip left))) now
  pub stays : told → StaysOutside is_object_place old now
  pub keeps : told → KeepsFiles old now
  pub ids : HaveIds entries → HaveRowIds left → HaveRowIds rows

pub way_file : (told : Type 0) (skip : ℕ) (rows left after : Entries) (x : List ℕ × Entry) (path : List ℕ) (entries : List TreeEntry) (old now : World)
    → IsWay told skip rows left entries old now → left ≡ x ∷ after → path ≡ drop skip x.0 → position (λ b. b == 47) path ≡ None
    → IsWay told skip rows after (entries ++ record { mode = x.1.mode; name = path; id = x.1.id } ∷ []) old now
unfolding tree_entries folder_trees
way_file told skip rows left after x path entries old now way left_is path_is none =
    let listed : listing_of (cut skip left) ≡ OneFile path x.1 (listing_of (cut skip after)) =
    ap (λ (rs : Entries). listing_of (cut skip rs)) left_is ∙ (ap (λ (p : List ℕ). listing_of ((p, x.1) ∷ cut skip after)) (sym path_is) ∙ file_listed path x.1 (cut skip after) (no_slash_found path none)) in
    record {
      goes = goes_back skip (x ∷ []) after (subst (GoesOnBehind skip) left_is way.goes);
      entries_are =
          way.entries_are
          ∙ (ap (λ (l : Listing). entries ++ tree_entries l) listed ∙ sym (append_assoc entries (record { mode = x.1.mode; name = path; id = x.1.id } ∷ []) (tree_entries (listing_of (cut skip after)))));
      trees_are = λ t. way.trees_are t ∙ ap (λ (l : Listing). each_put (folder_trees l) now) listed;
      stays = way.stays;
      keeps = way.keeps;
      ids = λ own all.
          let both = split_ids entries (record { mode = x.1.mode; name = path; id = x.1.id } ∷ []) own in
          way.ids both.0 (subst HaveRowIds (sym left_is) (both.1.0, all));
    }

-- the subtree's trees come first
subtree_first : (w : World) (its others : Listing) (folder : List ℕ)
    → each_put (folder_trees (OneFolder folder its others)) w ≡ go_on (each_put (folder_trees its ++ tree_entries its ∷ []) w) (λ put. each_put (folder_trees others))
unfolding folder_trees
subtree_first w its others folder =
    ap (λ (trees : List (List TreeEntry)). each_put trees w) (sym (append_assoc (folder_trees its) (tree_entries its ∷ []) (folder_trees others))) ∙ each_put-append (folder_trees its ++ tree_entries its ∷ []) (folder_trees others) w

-- the trees of a folder that was put, and of one that was not
pub was_folder_put : (rows : Entries) (w : World) (id : Id) (now : World) → folder_put rows w ≡ (Ok id, now)
    → each_put (trees_of rows) w ≡ (Ok unit, now)
unfolding folder_put
was_folder_put rows w id now is = by (each_put (trees_of rows) w) is
  where
    by : (put : Result (Unit {0}) Lack × World) → go_on put (λ all. gives (root_of rows)) ≡ (Ok id, now) → put ≡ (Ok unit, now)
    by (Ok all, v) is = ap (λ (u : World). (Ok unit, u)) (same_world is)
    by (Err why, v) is = let never = same_answer is in absurd cc

was_not_put : (rows : Entries) (w : World) (why : Lack) (now : World) → folder_put rows w ≡ (Err why, now)
    → each_put (trees_of rows) w ≡ (Err why, now)
unfolding folder_put
was_not_put rows w why now is = by (each_put (trees_of rows) w) is
  where
    by : (put : Result (Unit {0}) Lack × World) → go_on put (λ all. gives (root_of rows)) ≡ (Err why, now) → put ≡ (Err why, now)
    by (Ok all, v) is = let never = same_answer is in absurd cc
    by (Err other, v) is =
        let reason = same_answer is in
        let other_is : other ≡ why = cc in
        let here = same_world is in
        rw (other_is, here) refl

pub way_folder : (told : Type 0) (skip next : ℕ) (rows left inside others : Entries) (name id : List ℕ) (entries : List TreeEntry) (old now new : World)
    → IsWay told skip rows left entries old now → HasGroup name skip next left inside others → id ≡ root_of (cut next inside) → (told → StaysOutside is_object_place now new) → (told → KeepsFiles now new) → HaveRowIds inside
    → (told → HasPut (Ok id) (folder_put (cut next inside) now) new) → IsWay told skip rows others (entries ++ record { mode = Folder; name = name; id = id } ∷ []) old new
unfolding tree_entries root_of trees_of
way_folder told skip next rows left inside others name id entries old now new way group root stays keeps inner_ids put = record {
  goes = group.outer;
  entries_are =
      way.entries_are
      ∙ (ap (λ (l : Listing). entries ++ tree_entries l) group.listed
      ∙ (ap (λ (i : List ℕ). entries ++ record { mode = Folder; name = name; id = i } ∷ tree_entries (listing_of (cut skip others))) (sym root)
      ∙ sym (append_assoc entries (record { mode = Folder; name = name; id = id } ∷ []) (tree_entries (listing_of (cut skip others))))));
  trees_are = λ t.
      way.trees_are t
      ∙ (ap (λ (l : Listing). each_put (folder_trees l) now) group.listed
      ∙ (subtree_first now (listing_of (cut next inside)) (listing_of (cut skip others)) name
      ∙ ap (λ (r : Result (Unit {0}) Lack × World). go_on r (λ all. each_put (folder_trees (listing_of (cut skip others))))) (was_folder_put (cut next inside) now id new (put t))));
  stays = λ t path other. stays t path other ∙ way.stays t path other;
  keeps = λ t path text there. keeps t path text (way.keeps t path text there);
  ids =
      λ own all. way.ids (split_ids entries (record { mode = Folder; name = name; id = id } ∷ []) own).0 (subst HaveRowIds (sym group.whole) (join_ids inside others inner_ids all));
}

-- what is answered of one step is answered of another, where they stop alike
stops_alike : (means later : Result Id Lack × World) (e : TreeFault) (new : World) → ((why : Lack) → means ≡ (Err why, new) → later ≡ (Err why, new))
    → HasPut (Err e) means new → HasPut (Err e) later new
stops_alike means later (BadObject id) new alike is = alike _ is
stops_alike means later (TooLarge count) new alike is = alike _ is
stops_alike means later Depth new alike is = alike _ is
stops_alike means later (Blocked path) new alike is = alike _ is
stops_alike means later Fault new alike is = tt
stops_alike means later Memory new alike is = tt

all_trees : (w : World) (listing : Listing)
    → each_put (folder_trees listing ++ tree_entries listing ∷ []) w ≡ go_on (each_put (folder_trees listing) w) (λ put. each_put (tree_entries listing ∷ []))
all_trees w listing = each_put-append (folder_trees listing) (tree_entries listing ∷ []) w

pub way_stops : (told : Type 0) (skip next : ℕ) (rows left inside others : Entries) (name : List ℕ) (entries : List TreeEntry) (old now : World) (e : TreeFault) (new : World)
    → IsWay told skip rows left entries old now → HasGroup name skip next left inside others → told → HasPut (Err e) (folder_put (cut next inside) now) new → HasPut (Err e) (folder_put (cut skip rows) old) new
unfolding trees_of folder_put
way_stops told skip next rows left inside others name entries old now e new way group t put =
    stops_alike (folder_put (cut next inside) now) (folder_put (cut skip rows) old) e new stops put
  where
    stops : (why : Lack) → folder_put (cut next inside) now ≡ (Err why, new) → folder_put (cut skip rows) old ≡ (Err why, new)
    stops why is =
        let folders : each_put (folder_trees (listing_of (cut skip rows))) old ≡ (Err why, new) =
        way.trees_are t
        ∙ (ap (λ (l : Listing). each_put (folder_trees l) now) group.listed
        ∙ (subtree_first now (listing_of (cut next inside)) (listing_of (cut skip others)) name
        ∙ ap (λ (r : Result (Unit {0}) Lack × World). go_on r (λ all. each_put (folder_trees (listing_of (cut skip others))))) (was_not_put (cut next inside) now why new is))) in
        ap (λ (r : Result (Unit {0}) Lack × World). go_on r (λ all. gives (root_of (cut skip rows))))
        (all_trees old (listing_of (cut skip rows)) ∙ ap (λ (r : Result (Unit {0}) Lack × World). go_on r (λ all. each_put (tree_entries (listing_of (cut skip rows)) ∷ []))) folders)

-- at the end the folder's own tree comes
ends_with_tree : (told : Type 0) (skip : ℕ) (rows : Entries) (entries : List TreeEntry) (old now : World) → IsWay told skip rows [] entries old now
    → told
    → folder_put (cut skip rows) old ≡ go_on (go_on (object_put (tree_object (tree_entries (listing_of (cut skip rows)))) now) (λ id. gives unit)) (λ all. gives (root_of (cut skip rows)))
unfolding trees_of folder_trees listing_of folder_put
ends_with_tree told skip rows entries old now way t =
    ap (λ (r : Result (Unit {0}) Lack × World). go_on r (λ all. gives (root_of (cut skip rows))))
    (all_trees old (listing_of (cut skip rows))
    ∙ (ap (λ (r : Result (Unit {0}) Lack × World). go_on r (λ all. each_put (tree_entries (listing_of (cut skip rows)) ∷ []))) (way.trees_are t ∙ each_put-none now)
    ∙ each_put-one (tree_entries (listing_of (cut skip rows))) now))

pub all_entries : (told : Type 0) (skip : ℕ) (rows : Entries) (entries : List TreeEntry) (old now : World) → IsWay told skip rows [] entries old now
    → tree_entries (listing_of (cut skip rows)) ≡ entries
unfolding tree_entries listing_of
all_entries told skip rows entries old now way = way.entries_are ∙ append-nil entries

pub way_ordered : (told : Type 0) (skip : ℕ) (rows : Entries) (entries : List TreeEntry) (old now : World) → GoesOnBehind skip rows
    → IsWay told skip rows [] entries old now → IsTreeOrder entries
way_ordered told skip rows entries old now goes way =
    subst IsTreeOrder (all_entries told skip rows entries old now way) (map_ordered (cut skip rows) goes.names goes.is_map)

root_is : (told : Type 0) (skip : ℕ) (rows : Entries) (entries : List TreeEntry) (old now : World) → IsWay told skip rows [] entries old now
    → tree_id entries ≡ root_of (cut skip rows)
unfolding root_of
root_is told skip rows entries old now way = ap tree_id (sym (all_entries told skip rows entries old now way))

pub way_root : (told : Type 0) (skip : ℕ) (rows : Entries) (entries : List TreeEntry) (old now : World) (r : Result Id TreeFault)
    → IsWay told skip rows [] entries old now → IfOk r (λ id. id ≡ tree_id entries) → IfOk r (λ id. id ≡ root_of (cut skip rows))
way_root told skip rows entries old now (Ok id) way is = is ∙ root_is told skip rows entries old now way
way_root told skip rows entries old now (Err e) way is = tt

-- what is answered of the last tree is answered of all
tree_ends : (root : Id) (means : Result Id Lack × World) (r : Result Id TreeFault) (new : World) → IfOk r (λ id. id ≡ root) → HasPut r means new
    → HasPut r (go_on (go_on means (λ id. gives unit)) (λ all. gives root)) new
tree_ends root means (Ok id) new root_is put = rw put (ap (λ (i : Id). (Ok i, new)) (sym root_is))
tree_ends root means (Err e) new root_is put =
    stops_alike means (go_on (go_on means (λ id. gives unit)) (λ all. gives root)) e new (λ why is. rw is refl) put

pub way_ends : (told : Type 0) (skip : ℕ) (rows : Entries) (entries : List TreeEntry) (old now : World) (r : Result Id TreeFault) (new : World)
    → IsWay told skip rows [] entries old now → told → IfOk r (λ id. id ≡ tree_id entries)
    → HasPut r (object_put (tree_object entries) now) new → HasPut r (folder_put (cut skip rows) old) new
way_ends told skip rows entries old now r new way t root put =
    let entries_are = all_entries told skip rows entries old now way in
    let last = subst (λ (es : List TreeEntry). HasPut r (object_put (tree_object es) now) new) (sym entries_are) put in
    subst (λ (m : Result Id Lack × World). HasPut r m new) (sym (ends_with_tree told skip rows entries old now way t))
    (tree_ends (root_of (cut skip rows)) (object_put (tree_object (tree_entries (listing_of (cut skip rows)))) now) r new (way_root told skip rows entries old now r way root) last)

pub nothing : (rows : Entries) → length rows ≡ 0 → rows ≡ []
nothing [] none = refl
nothing (e ∷ es) none = absurd (omega arith)

-- the measure: a folder's path is longer than its parent's, and no path is longer than 4095 bytes
pub falls : (bytes : List ℕ) (skip at : ℕ) → IsPath bytes → HasSlash (take (length bytes - skip) (drop skip bytes)) at
    → 4096 - (skip + at + 1) < 4096 - skip
falls bytes skip at path slash =
    let size = ap (length {A = ℕ}) (take_rest bytes skip) ∙ length-drop skip bytes in
    let short = path.short in
    let within = slash.within in
    omega (arith, size, short, within)

pub way_ids : (told : Type 0) (skip : ℕ) (rows : Entries) (entries : List TreeEntry) (old now : World) (r : Result Id TreeFault)
    → IsWay told skip rows [] entries old now → OnOk r (HaveIds entries) → OnOk r (HaveRowIds rows)
way_ids told skip rows entries old now (Ok id) way ids = way.ids ids tt
way_ids told skip rows entries old now (Err e) way ids = tt
