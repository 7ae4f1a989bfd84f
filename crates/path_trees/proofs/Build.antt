-- A map is built of the rows of trees, in order.
use Rattle.std.proofs.Common.{◌≡◌, ℕ, Bool, true, false, cond, List, [], ◌∷◌, ◌++◌, map, Result, Ok, Err, refl, sym, ap, ◌∙◌, append_assoc, arith, length, ◌<◌, ◌+◌, ◌-◌, take, Option, Some, None}
use Rattle.std.specs.Option.{option_to_list}
use Rattle.std.specs.Prelude.{MatchOption}
use Rattle.std.specs.List.{AllByRecursion}
use Rattle.std.proofs.lemmas.List.{append-nil}
use Rattle.seq_base.specs.World.{World}
use Rattle.seq_base.specs.Paths.{IsPath}
use Rattle.seq_base.specs.PathMaps.{AreApart, IsAscending, IsPathMap, clashes, is_less, Entries}
use Rattle.seq_base.specs.declared.map.Entry.{Entry}
use Rattle.seq_base.specs.declared.mode.Mode.TheVariants.{Folder}
use Rattle.object_text.specs.declared.tree.TreeEntry.{TreeEntry}
use Rattle.object_text.specs.TreeMaps.{MapFault, BadTree, TooDeep, ◌>>=◌, below, entries_map, is_folder}
use Rattle.object_text.specs.Trees.{IsTreeOrder}
use Rattle.path_trees.specs.Reads.{Blames}
use Rattle.path_trees.specs.Rows.{HasAdded, IsInside, row_at}
use Rattle.path_trees.specs.declared.fault.TreeFault.{TreeFault}
use Rattle.path_trees.specs.declared.fault.TreeFault.TheVariants.{BadObject, TooLarge, Depth, Blocked, Fault, Memory}
use Rattle.path_trees.proofs.Order.{AreInOrder, IsApart, IsUnder, Precedes, rows_in_order, tail}

-- ---- maps, one after the other

abbrev ComesBefore : List ℕ × Entry → Entries → Type 0
ComesBefore r rows = AllByRecursion (λ d. IsApart r.0 d.0) rows

less_all : (p : List ℕ) (xs ys : Entries) → AllByRecursion (λ d. is_less p d.0 ≡ true) xs → AllByRecursion (λ d. IsApart p d.0) ys
    → AllByRecursion (λ d. is_less p d.0 ≡ true) (xs ++ ys)
less_all p [] [] h k = tt
less_all p [] (y ∷ ys) h k = (k.0.less, less_all p [] ys tt k.1)
less_all p (x ∷ xs) ys h k = (h.0, less_all p xs ys h.1 k)

free_all : (p : List ℕ) (xs ys : Entries) → AllByRecursion (λ d. clashes p d.0 ≡ false) xs → AllByRecursion (λ d. IsApart p d.0) ys
    → AllByRecursion (λ d. clashes p d.0 ≡ false) (xs ++ ys)
free_all p [] [] h k = tt
free_all p [] (y ∷ ys) h k = (k.0.free, free_all p [] ys tt k.1)
free_all p (x ∷ xs) ys h k = (h.0, free_all p xs ys h.1 k)

ascending_both : (xs ys : Entries) → IsAscending xs → IsAscending ys → AllByRecursion (λ r. ComesBefore r ys) xs → IsAscending (xs ++ ys)
ascending_both [] ys h k before = k
ascending_both (x ∷ xs) ys h k before = (less_all x.0 xs ys h.0 before.0, ascending_both xs ys h.1 k before.1)

apart_both : (xs ys : Entries) → AreApart xs → AreApart ys → AllByRecursion (λ r. ComesBefore r ys) xs → AreApart (xs ++ ys)
apart_both [] ys h k before = k
apart_both (x ∷ xs) ys h k before = (free_all x.0 xs ys h.0 before.0, apart_both xs ys h.1 k before.1)

both_all : (P : List ℕ × Entry → Type 0) (xs ys : Entries) → AllByRecursion P xs → AllByRecursion P ys → AllByRecursion P (xs ++ ys)
both_all P [] ys h k = k
both_all P (x ∷ xs) ys h k = (h.0, both_all P xs ys h.1 k)

map_both : (xs ys : Entries) → IsPathMap xs → IsPathMap ys → AllByRecursion (λ r. ComesBefore r ys) xs → IsPathMap (xs ++ ys)
map_both xs ys h k before = record {
  ascending = ascending_both xs ys h.ascending k.ascending before;
  apart = apart_both xs ys h.apart k.apart before;
  files = both_all (λ e. e.1.mode ≡ Folder → ⊥) xs ys h.files k.files;
}

-- ---- what rows give

abbrev pub first_of : (List ℕ → List ℕ → Result Entries MapFault) → List ℕ × Entry → Result Entries MapFault
first_of sub x = cond (is_folder x.1.mode) (sub x.0 x.1.id) (Ok (x ∷ []))

pub rows_map : (List ℕ → List ℕ → Result Entries MapFault) → Entries → Result Entries MapFault
rows_map sub [] = Ok []
rows_map sub (x ∷ rows) = first_of sub x >>= λ first. rows_map sub rows >>= λ others. Ok (first ++ others)

pub entries_rows : (sub : List ℕ → List ℕ → Result Entries MapFault) (folder : List ℕ) (es : List TreeEntry)
    → entries_map sub folder es ≡ rows_map sub (map (row_at folder) es)
unfolding entries_map rows_map
entries_rows sub folder [] = refl
entries_rows sub folder (e ∷ es) =
    ap (λ (r : Result Entries MapFault). first_of sub (row_at folder e) >>= λ first. r >>= λ others. Ok (first ++ others)) (entries_rows sub folder es)

abbrev with_front : Entries → Result Entries MapFault → Result Entries MapFault
with_front front (Ok rest) = Ok (front ++ rest)
with_front front (Err f) = Err f

with_front-more : (front first : Entries) (read : Result Entries MapFault)
    → with_front front (read >>= λ others. Ok (first ++ others)) ≡ with_front (front ++ first) read
with_front-more front first (Ok rest) = ap Ok (sym (append_assoc front first rest))
with_front-more front first (Err f) = refl

-- ---- the loop

-- all that stands below a row to come comes after the path
record ComesFirst (r x : List ℕ × Entry) : Type 0 where
  apart : (q : List ℕ) → IsUnder x q → IsApart r.0 q

-- a row of the folder
abbrev IsIn : List ℕ → List ℕ × Entry → Type 0
IsIn folder x = (name : List ℕ) × (x.0 ≡ below folder name)

-- what was added so far, and what the rows left will add
pub record HasBuilt (told : Type 0) (folder : List ℕ) (sub : List ℕ → List ℕ → Result Entries MapFault) (total : Result Entries MapFault) (old now left : Entries) : Type 0 where
  rows : Entries
  added : now ≡ old ++ rows
  is_map : IsPathMap rows
  before : AllByRecursion (λ r. AllByRecursion (ComesFirst r) left) rows
  inside : AllByRecursion (λ r. IsInside folder r.0) rows
  order : AreInOrder left
  within : AllByRecursion (IsIn folder) left
  read : told → with_front rows (rows_map sub left) ≡ total

all_in : (folder : List ℕ) (es : List TreeEntry) → AllByRecursion (IsIn folder) (map (row_at folder) es)
all_in folder [] = tt
all_in folder (e ∷ es) = ((e.name, refl), all_in folder es)

front_none : (r : Result Entries MapFault) → with_front [] r ≡ r
front_none (Ok rows) = refl
front_none (Err f) = refl

pub build_starts : (told : Type 0) (folder : List ℕ) (sub : List ℕ → List ℕ → Result Entries MapFault) (total : Result Entries MapFault) (old : Entries) (es : List TreeEntry)
    → IsTreeOrder es → (told → entries_map sub folder es ≡ total)
    → HasBuilt told folder sub total old old (map (row_at folder) es)
build_starts told folder sub total old es order read = record {
  rows = [];
  added = sym (append-nil old);
  is_map = record { ascending = tt; apart = tt; files = tt };
  before = tt;
  inside = tt;
  order = rows_in_order folder es order;
  within = all_in folder es;
  read = λ t. front_none (rows_map sub (map (row_at folder) es)) ∙ (sym (entries_rows sub folder es) ∙ read t);
}

-- what is added of a row stands below it
under_inside : (folder : List ℕ) (x : List ℕ × Entry) (q : List ℕ) → IsIn folder x → IsUnder x q → IsInside folder q
under_inside [] x q is under = (q, refl)
under_inside (c ∷ folder) x q is under = (
  is.0 ++ tail (is_folder x.1.mode) under.rest,
  under.path_is ∙ (ap (λ (p : List ℕ). p ++ tail (is_folder x.1.mode) under.rest) is.1 ∙ append_assoc ((c ∷ folder) ++ 47 ∷ []) is.0 (tail (is_folder x.1.mode) under.rest)),
)

all_inside : (folder : List ℕ) (x : List ℕ × Entry) (first : Entries) → IsIn folder x → AllByRecursion (λ r. IsUnder x r.0) first
    → AllByRecursion (λ r. IsInside folder r.0) first
all_inside folder x [] is under = tt
all_inside folder x (r ∷ first) is under = (under_inside folder x r.0 is under.0, all_inside folder x first is under.1)

one_before : (r x : List ℕ × Entry) (first : Entries) → ComesFirst r x → AllByRecursion (λ d. IsUnder x d.0) first → ComesBefore r first
one_before r x [] comes under = tt
one_before r x (d ∷ first) comes under = (comes.apart d.0 under.0, one_before r x first comes under.1)

all_before : (x : List ℕ × Entry) (rows left first : Entries) → AllByRecursion (λ r. AllByRecursion (ComesFirst r) (x ∷ left)) rows
    → AllByRecursion (λ d. IsUnder x d.0) first → AllByRecursion (λ r. ComesBefore r first) rows
all_before x [] left first before under = tt
all_before x (r ∷ rows) left first before under = (one_before r x first before.0.0 under, all_before x rows left first before.1 under)

later_before : (x : List ℕ × Entry) (rows left : Entries) → AllByRecursion (λ r. AllByRecursion (ComesFirst r) (x ∷ left)) rows
    → AllByRecursion (λ r. AllByRecursion (ComesFirst r) left) rows
later_before x [] left before = tt
later_before x (r ∷ rows) left before = (before.0.1, later_before x rows left before.1)

first_comes : (x r : List ℕ × Entry) (left : Entries) → IsUnder x r.0 → AllByRecursion (Precedes x) left → AllByRecursion (ComesFirst r) left
first_comes x r [] under order = tt
first_comes x r (y ∷ left) under order = (record { apart = λ q below. order.0.apart r.0 q under below }, first_comes x r left under order.1)

all_first : (x : List ℕ × Entry) (left first : Entries) → AllByRecursion (λ r. IsUnder x r.0) first → AllByRecursion (Precedes x) left
    → AllByRecursion (λ r. AllByRecursion (ComesFirst r) left) first
all_first x left [] under order = tt
all_first x left (r ∷ first) under order = (first_comes x r left under.0 order, all_first x left first under.1 order)

pub build_more : (told : Type 0) (folder : List ℕ) (sub : List ℕ → List ℕ → Result Entries MapFault) (total : Result Entries MapFault) (old now then : Entries) (x : List ℕ × Entry) (left first : Entries)
    → HasBuilt told folder sub total old now (x ∷ left) → IsPathMap first → AllByRecursion (λ r. IsUnder x r.0) first → (told → first_of sub x ≡ Ok first) → then ≡ now ++ first
    → HasBuilt told folder sub total old then left
unfolding rows_map
build_more told folder sub total old now then x left first built is_map under reads is = record {
  rows = built.rows ++ first;
  added = is ∙ (ap (λ (rs : Entries). rs ++ first) built.added ∙ append_assoc old built.rows first);
  is_map = map_both built.rows first built.is_map is_map (all_before x built.rows left first built.before under);
  before =
      both_all (λ r. AllByRecursion (ComesFirst r) left) built.rows first (later_before x built.rows left built.before) (all_first x left first under built.order.0);
  inside = both_all (λ r. IsInside folder r.0) built.rows first built.inside (all_inside folder x first built.within.0 under);
  order = built.order.1;
  within = built.within.1;
  read = λ t.
      let step : rows_map sub (x ∷ left) ≡ (rows_map sub left >>= λ others. Ok (first ++ others)) = ap (λ (r : Result Entries MapFault). r >>= λ firsts. rows_map sub left >>= λ others. Ok (firsts ++ others)) (reads t) in
      sym (with_front-more built.rows first (rows_map sub left)) ∙ (sym (ap (with_front built.rows) step) ∙ built.read t);
}

pub build_fails : (told : Type 0) (folder : List ℕ) (sub : List ℕ → List ℕ → Result Entries MapFault) (total : Result Entries MapFault) (old now : Entries) (x : List ℕ × Entry) (left : Entries) (f : MapFault)
    → HasBuilt told folder sub total old now (x ∷ left) → told → first_of sub x ≡ Err f → total ≡ Err f
unfolding rows_map
build_fails told folder sub total old now x left f built t bad =
    let step : rows_map sub (x ∷ left) ≡ Err f = ap (λ (r : Result Entries MapFault). r >>= λ firsts. rows_map sub left >>= λ others. Ok (firsts ++ others)) bad in
    sym (built.read t) ∙ ap (with_front built.rows) step

-- the fault of a subtree is the tree's
pub build_blames : (w : World) (told : Type 0) (folder : List ℕ) (sub : List ℕ → List ℕ → Result Entries MapFault) (total : Result Entries MapFault) (old now : Entries) (x : List ℕ × Entry) (left : Entries) (e : TreeFault)
    → HasBuilt told folder sub total old now (x ∷ left) → told → Blames w e (first_of sub x) → Blames w e total
build_blames w told folder sub total old now x left (BadObject id) built t is =
    (build_fails told folder sub total old now x left (BadTree id) built t is.0, is.1)
build_blames w told folder sub total old now x left (TooLarge count) built t is =
    (is.0, build_fails told folder sub total old now x left (BadTree is.0) built t is.1, is.2)
build_blames w told folder sub total old now x left Depth built t is = build_fails told folder sub total old now x left TooDeep built t is
build_blames w told folder sub total old now x left (Blocked path) built t is = absurd is
build_blames w told folder sub total old now x left Fault built t is = tt
build_blames w told folder sub total old now x left Memory built t is = tt

pub build_ends : (told : Type 0) (folder : List ℕ) (sub : List ℕ → List ℕ → Result Entries MapFault) (total : Result Entries MapFault) (old now : Entries)
    → HasBuilt told folder sub total old now [] → HasAdded told folder old now total
unfolding rows_map
build_ends told folder sub total old now built = record {
  rows = built.rows;
  added = built.added;
  is_map = built.is_map;
  inside = built.inside;
  read = λ t. sym (built.read t) ∙ ap Ok (append-nil built.rows);
}

-- ---- what one row adds

pub file_map : (x : List ℕ × Entry) → is_folder x.1.mode ≡ false → IsPathMap (x ∷ [])
file_map x is =
    record { ascending = (tt, tt); apart = (tt, tt); files = (λ folder. let on : is_folder x.1.mode ≡ true = ap is_folder folder in cc, tt) }

pub file_under : (x : List ℕ × Entry) → is_folder x.1.mode ≡ false → AllByRecursion (λ r. IsUnder x r.0) (x ∷ [])
file_under x is = (record { rest = []; path_is = sym (ap (λ (t : Bool). x.0 ++ tail t []) is ∙ append-nil x.0) }, tt)

pub folder_under : (x : List ℕ × Entry) (first : Entries) → is_folder x.1.mode ≡ true → IsPath x.0 → AllByRecursion (λ r. IsInside x.0 r.0) first
    → AllByRecursion (λ r. IsUnder x r.0) first
folder_under x [] is path inside = tt
folder_under x (r ∷ first) is path inside = (
  record { rest = inside.0.0; path_is = inside.0.1 ∙ (some_below x.0 inside.0.0 path.some ∙ sym (ap (λ (t : Bool). x.0 ++ tail t inside.0.0) is)) },
  folder_under x first is path inside.1,
)
  where
    some_below : (folder rest : List ℕ) → 0 < length folder → below folder rest ≡ folder ++ 47 ∷ rest
    some_below [] rest some = absurd (omega arith)
    some_below (c ∷ folder) rest some = append_assoc (c ∷ folder) (47 ∷ []) rest

-- nothing is left where nothing was popped
pub nothing_left : (popped : Option (List ℕ × Entry)) (n m : ℕ) (rows left : Entries) → ((x : List ℕ × Entry) → popped ≡ Some x → ⊥)
    → MatchOption popped ((n ≡ 0) × (m ≡ 0)) (λ x. m + 1 ≡ n) → rows ≡ left ++ option_to_list popped → left ≡ take (n - 1) rows
    → rows ≡ []
nothing_left None n m rows left none is items rest =
    let zero : n - 1 ≡ 0 = let empty = is.0 in omega arith in
    items ∙ (append-nil left ∙ (rest ∙ ap (λ (i : ℕ). take i rows) zero))
nothing_left (Some x) n m rows left none is items rest = absurd (none x refl)
