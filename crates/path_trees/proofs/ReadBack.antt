-- The map of trees that were put is the map whose trees they are.
use Rattle.std.proofs.Common.{◌≡◌, ℕ, zero, suc, ◌<◌, ◌≤◌, ◌==◌, Bool, true, false, cond, nat_le, nat_lt, ◌||◌, List, [], ◌∷◌, ◌++◌, length, map, get_or, Some, None, Result, Ok, Err, refl, sym, ap, subst, ◌∙◌, append_assoc, arith, length-append, eq-eqb}
use Rattle.std.specs.FinMap as held
use Rattle.std.specs.List.{AllByRecursion, list_all, list_any}
use Rattle.std.specs.Result.{IfOk, OnOk}
use Rattle.std.specs.Str.{IsUtf8}
use Rattle.std.specs.Str.Lossy.{utf8_valid_len}
use Rattle.std.proofs.lemmas.Bool.{and_from}
use Rattle.std.proofs.lemmas.Bool.Decides.{nat_tests}
use Rattle.std.proofs.lemmas.List.{map-append}
use Rattle.std.proofs.lemmas.Str.{IsCharBoundary-before_ascii, IsUtf8-take, utf8_valid_len-IsUtf8}
use Rattle.std.proofs.Math.Seq.{get_or-append_seam, take-append_seam}
use Rattle.seq_base.specs.Paths.{IsPath, parts}
use Rattle.seq_base.specs.PathMaps.{IsPathMap, Entries}
use Rattle.seq_base.specs.Words.{Id}
use Rattle.seq_base.specs.World.{World}
use Rattle.seq_base.specs.declared.map.Entry.{Entry}
use Rattle.seq_base.specs.Repository.{object_path}
use Rattle.seq_base.proofs.Places.{some_part}
use Rattle.object_text.specs.declared.tree.TreeEntry.{TreeEntry}
use Rattle.object_text.specs.Objects.{object_text}
use Rattle.object_text.specs.Store.{content_limit, put_all, tree_at}
use Rattle.object_text.specs.TreeMaps.{Listing, NoMore, OneFile, OneFolder, MapFault, BadTree, ◌>>=◌, below, entries_map, folder_trees, is_path_text, is_too_deep, listing_of, map_at, map_below, opened, put_trees, root_of, tree_entries, tree_id, tree_object, trees_of}
use Rattle.object_text.specs.Trees.{HaveIds, IsTreeOrder, is_name, tree_text}
use Rattle.object_text.proofs.Lengths.{length-id}
use Rattle.seq_outside.specs.declared.lack.Lack.TheVariants.{Limit}
use Rattle.seq_outside.specs.declared.limit.LimitWhat.TheVariants.{TreeDepth}
use Rattle.objects.proofs.Writing.{file_stays, free_file, object_of_file}
use Rattle.path_trees.specs.Puts.{HasPut, folder_put, trees_put}
use Rattle.path_trees.specs.declared.fault.TreeFault.{TreeFault}
use Rattle.path_trees.proofs.Folders.{HaveRowIds, are_files, was_folder_put}
use Rattle.path_trees.proofs.Listings.{IsWhole, in_front, listing_whole, parts_in_front, rows_in, rows_listed}
use Rattle.path_trees.proofs.Order.{name_no_slash}
use Rattle.path_trees.proofs.PathNames.{all_names}
use Rattle.path_trees.proofs.Paths.{some_below}
use Rattle.path_trees.proofs.Puts.{all_put, each_was_put, was_put, were_put}
use Rattle.path_trees.proofs.TreeOrder.{AllApart, all_back, all_front, apart_back, apart_front, apart_inner, first_row, map_apart, tree_ordered}
use Rattle.path_trees.proofs.Trees.{tree_spelled}

-- ---- trees that were put stand in their files

-- the tree's text stands in its file, and is no larger than an object may be
record Stands (w : World) (tree : List TreeEntry) : Type 0 where
  within : length (tree_text tree) ≤ content_limit
  file : held.get w (object_path (tree_id tree)) ≡ Some (object_text (tree_object tree))

still_stands : (w now : World) (other : List TreeEntry) (trees : List (List TreeEntry)) → put_trees w trees ≡ Ok now → Stands w other
    → Stands now other
unfolding put_trees
still_stands w now other [] is stands = let same : w ≡ now = cc in subst (λ (v : World). Stands v other) same stands
still_stands w now other (tree ∷ trees) is stands =
    let put = were_put w tree trees now is in
    let first = was_put w tree put.next put.first in
    let file = subst (λ (v : World). held.get v (object_path (tree_id other)) ≡ Some (object_text (tree_object other))) first.world (file_stays w (tree_object tree) (object_path (tree_id other)) (object_text (tree_object other)) stands.file) in
    still_stands put.next now other trees put.others (record { within = stands.within; file = file })

all_stand : (w now : World) (trees : List (List TreeEntry)) → put_trees w trees ≡ Ok now → AllByRecursion (Stands now) trees
all_stand w now [] is = tt
all_stand w now (tree ∷ trees) is =
    let put = were_put w tree trees now is in
    let first = was_put w tree put.next put.first in
    let file = subst (λ (v : World). held.get v (object_path (tree_id tree)) ≡ Some (object_text (tree_object tree))) first.world (free_file w (tree_object tree) first.free) in
    (still_stands put.next now tree trees put.others (record { within = first.within; file = file }), all_stand put.next now trees put.others)

found : (w : World) (tree : List TreeEntry) → IsTreeOrder tree → HaveIds tree → Stands w tree → tree_at w (tree_id tree) ≡ Some tree
unfolding tree_at
found w tree order ids stands =
    let object = object_of_file w (tree_object tree) stands.within stands.file in
    rw object (tree_spelled tree (tree_text tree) (record { order = order; ids = ids; text_is = refl }))

-- ---- the trees of a listing can be read

pub inner_ids : (name : List ℕ) (rows : Entries) → HaveRowIds (map (in_front name) rows) → HaveRowIds rows
inner_ids name [] ids = tt
inner_ids name (e ∷ es) ids = (ids.0, inner_ids name es ids.1)

pub have_ids : (listing : Listing) → HaveRowIds (rows_in listing) → HaveIds (tree_entries listing)
unfolding rows_in tree_entries
have_ids NoMore ids = tt
have_ids (OneFile name entry others) ids = (ids.0, have_ids others ids.1)
have_ids (OneFolder name its others) ids =
    (length-id (tree_object (tree_entries its)), have_ids others (all_back (λ e. length e.1.id ≡ 20) (map (in_front name) (rows_in its)) (rows_in others) ids))

-- the trees of all folders below can be read
abbrev AreFound : World → Listing → Type 0
AreFound w NoMore = Unit {0}
AreFound w (OneFile name entry others) = AreFound w others
AreFound w (OneFolder name its others) = (tree_at w (tree_id (tree_entries its)) ≡ Some (tree_entries its)) × AreFound w its × AreFound w others

pub split_all : (P : List TreeEntry → Type 0) (xs ys : List (List TreeEntry)) → AllByRecursion P (xs ++ ys)
    → AllByRecursion P xs × AllByRecursion P ys
split_all P [] ys all = (tt, all)
split_all P (x ∷ xs) ys all = let both = split_all P xs ys all.1 in ((all.0, both.0), both.1)

all_found : (w : World) (listing : Listing) → IsWhole listing → AllApart (rows_in listing) → HaveRowIds (rows_in listing)
    → AllByRecursion (Stands w) (folder_trees listing) → AreFound w listing
unfolding rows_in folder_trees
all_found w NoMore whole apart ids stand = tt
all_found w (OneFile name entry others) whole apart ids stand = all_found w others whole.2 apart.1 ids.1 stand
all_found w (OneFolder name its others) whole apart ids stand =
    let inner = map (in_front name) (rows_in its) in
    let its_apart = apart_inner name (rows_in its) (apart_front inner (rows_in others) apart) in
    let its_ids = inner_ids name (rows_in its) (all_front (λ e. length e.1.id ≡ 20) inner (rows_in others) ids) in
    let both = split_all (Stands w) (folder_trees its) (tree_entries its ∷ folder_trees others) stand in (
      found w (tree_entries its) (tree_ordered its whole.2 its_apart) (have_ids its its_ids) both.1.0,
      all_found w its whole.2 its_apart its_ids both.0,
      all_found w others whole.4 (apart_back inner (rows_in others) apart) (all_back (λ e. length e.1.id ≡ 20) inner (rows_in others) ids) both.1.1,
    )

-- ---- how deep a listing is

-- at most so many folders lie in one another
abbrev Fits : ℕ → Listing → Type 0
Fits n NoMore = Unit {0}
Fits n (OneFile name entry others) = Fits n others
Fits zero (OneFolder name its others) = ⊥
Fits (suc n) (OneFolder name its others) = Fits n its × Fits (suc n) others

abbrev HaveDepth : ℕ → Entries → Type 0
HaveDepth n = AllByRecursion (λ e. length (parts e.0) ≤ n)

inner_depth : (name : List ℕ) (n : ℕ) (rows : Entries) → is_name name ≡ true → HaveDepth (suc n) (map (in_front name) rows) → HaveDepth n rows
inner_depth name n [] named deep = tt
inner_depth name n (e ∷ es) named deep =
    let size = ap (length {A = List ℕ}) (parts_in_front name e.0 (name_no_slash name named)) in
    let first = deep.0 in
    (omega (arith, size, first), inner_depth name n es named deep.1)

fits : (listing : Listing) (n : ℕ) → IsWhole listing → HaveDepth (suc n) (rows_in listing) → Fits n listing
unfolding rows_in
fits NoMore n whole deep = tt
fits (OneFile name entry others) n whole deep = fits others n whole.2 deep.1
fits (OneFolder name its others) zero whole deep =
    let first = first_row its whole.1 whole.2 in
    let inner = subst (λ (rows : Entries). HaveDepth 1 (map (in_front name) rows)) first.rows_are (all_front (λ e. length (parts e.0) ≤ 1) (map (in_front name) (rows_in its)) (rows_in others) deep) in
    let low = inner.0 in
    let size = ap (length {A = List ℕ}) (parts_in_front name first.row.0 (name_no_slash name whole.0)) in
    let some = some_part first.row.0 in
    absurd (omega arith)
fits (OneFolder name its others) (suc n) whole deep = (
  fits its n whole.2 (inner_depth name (suc n) (rows_in its) whole.0 (all_front (λ e. length (parts e.0) ≤ suc (suc n)) (map (in_front name) (rows_in its)) (rows_in others) deep)),
  fits others (suc n) whole.4 (all_back (λ e. length (parts e.0) ≤ suc (suc n)) (map (in_front name) (rows_in its)) (rows_in others) deep),
)

-- ---- the paths of a listing are text

-- a path that is text, and not too long
record IsText (path : List ℕ) : Type 0 where
  short : length path ≤ 4095
  text : IsUtf8 path

text_passes : (path : List ℕ) → IsText path → is_path_text path ≡ true
text_passes path is =
    let low = is.short in
    let short : nat_le (length path) 4095 ≡ true = grind (arith, nat_tests) in
    and_from (nat_le (length path) 4095) (utf8_valid_len path == length path) short (eq-eqb (utf8_valid_len path) (length path) (utf8_valid_len-IsUtf8 path is.text))

-- what stands before a slash is text
front_text : (front rest : List ℕ) → IsText (front ++ 47 ∷ rest) → IsText front
front_text front rest is =
    let size = length-append front (47 ∷ rest) in
    let whole = is.short in
    let within : length front < length (front ++ 47 ∷ rest) = omega (arith, size) in
    let slash : get_or (front ++ 47 ∷ rest) (length front) 0 ≡ 47 = get_or-append_seam front 47 rest 0 in
    record {
      short = omega (arith, size, whole);
      text =
          subst IsUtf8 (take-append_seam front (47 ∷ rest)) (IsUtf8-take (front ++ 47 ∷ rest) (length front) is.text (IsCharBoundary-before_ascii (front ++ 47 ∷ rest) (length front) within (omega (arith, slash))));
    }

-- ---- the rows of a folder, at their paths

abbrev at_folder : List ℕ → List ℕ × Entry → List ℕ × Entry
at_folder folder r = (below folder r.0, r.1)

abbrev AreText : List ℕ → Entries → Type 0
AreText folder = AllByRecursion (λ r. IsText (below folder r.0))

below_more : (folder name rest : List ℕ) → below folder (name ++ 47 ∷ rest) ≡ below folder name ++ 47 ∷ rest
below_more [] name rest = refl
below_more (c ∷ folder) name rest = sym (append_assoc ((c ∷ folder) ++ 47 ∷ []) name (47 ∷ rest))

below_some : (folder rest : List ℕ) → 0 < length folder → below folder rest ≡ folder ++ 47 ∷ rest
below_some [] rest some = absurd (omega arith)
below_some (c ∷ folder) rest some = append_assoc (c ∷ folder) (47 ∷ []) rest

below_folder : (folder name rest : List ℕ) → is_name name ≡ true → below folder (name ++ 47 ∷ rest) ≡ below (below folder name) rest
below_folder folder name rest named = below_more folder name rest ∙ sym (below_some (below folder name) rest (some_below folder name named))

inner_texts : (folder name : List ℕ) (rows : Entries) → is_name name ≡ true → AreText folder (map (in_front name) rows)
    → AreText (below folder name) rows
inner_texts folder name [] named text = tt
inner_texts folder name (e ∷ es) named text = (subst IsText (below_folder folder name e.0 named) text.0, inner_texts folder name es named text.1)

inner_rows : (folder name : List ℕ) (rows : Entries) → is_name name ≡ true
    → map (at_folder (below folder name)) rows ≡ map (at_folder folder) (map (in_front name) rows)
inner_rows folder name [] named = refl
inner_rows folder name (e ∷ es) named =
    ap (λ (p : List ℕ). (p, e.1) ∷ map (at_folder (below folder name)) es) (sym (below_folder folder name e.0 named))
    ∙ ap (λ (rows : Entries). at_folder folder (in_front name e) ∷ rows) (inner_rows folder name es named)

paths_pass : (folder : List ℕ) (listing : Listing) → IsWhole listing → AreText folder (rows_in listing)
    → list_all (λ e. is_path_text (below folder e.name)) (tree_entries listing) ≡ true
unfolding rows_in tree_entries
paths_pass folder NoMore whole text = refl
paths_pass folder (OneFile name entry others) whole text =
    and_from (is_path_text (below folder name)) (list_all (λ e. is_path_text (below folder e.name)) (tree_entries others)) (text_passes (below folder name) text.0) (paths_pass folder others whole.2 text.1)
paths_pass folder (OneFolder name its others) whole text =
    let first = first_row its whole.1 whole.2 in
    let inner = subst (λ (rows : Entries). AreText folder (map (in_front name) rows)) first.rows_are (all_front (λ r. IsText (below folder r.0)) (map (in_front name) (rows_in its)) (rows_in others) text) in
    let front = front_text (below folder name) first.row.0 (subst IsText (below_more folder name first.row.0) inner.0) in
    and_from (is_path_text (below folder name)) (list_all (λ e. is_path_text (below folder e.name)) (tree_entries others)) (text_passes (below folder name) front)
    (paths_pass folder others whole.4 (all_back (λ r. IsText (below folder r.0)) (map (in_front name) (rows_in its)) (rows_in others) text))

opens : (n : ℕ) (w : World) (folder id : List ℕ) (es : List TreeEntry) → tree_at w id ≡ Some es
    → list_all (λ e. is_path_text (below folder e.name)) es ≡ true → map_below (suc n) w folder id ≡ entries_map (map_below n w) folder es
unfolding map_below
opens n w folder id es some good =
    ap (opened (map_below n w) folder id) some ∙ ap (λ (t : Bool). cond t (entries_map (map_below n w) folder es) (Err (BadTree id))) good

-- ---- reading a listing

reads : (w : World) (listing : Listing) (n : ℕ) (folder : List ℕ) → IsWhole listing → AreFound w listing → Fits n listing
    → AreText folder (rows_in listing) → entries_map (map_below n w) folder (tree_entries listing) ≡ Ok (map (at_folder folder) (rows_in listing))
unfolding entries_map rows_in tree_entries
reads w NoMore n folder whole at fits text = refl
reads w (OneFile name entry others) n folder whole at fits text =
    ap (λ (t : Bool). cond t (map_below n w (below folder name) entry.id) (Ok ((below folder name, record { mode = entry.mode; id = entry.id }) ∷ [])) >>= λ first. entries_map (map_below n w) folder (tree_entries others) >>= λ later. Ok (first ++ later)) whole.1
    ∙ ap (λ (r : Result Entries MapFault). r >>= λ later. Ok ((below folder name, entry) ∷ later)) (reads w others n folder whole.2 at fits text.1)
reads w (OneFolder name its others) zero folder whole at fits text = absurd fits
reads w (OneFolder name its others) (suc n) folder whole at fits text =
    let inner = map (in_front name) (rows_in its) in
    let its_text = inner_texts folder name (rows_in its) whole.0 (all_front (λ r. IsText (below folder r.0)) inner (rows_in others) text) in
    let first : map_below (suc n) w (below folder name) (tree_id (tree_entries its)) ≡ Ok (map (at_folder folder) inner) =
    opens n w (below folder name) (tree_id (tree_entries its)) (tree_entries its) at.0 (paths_pass (below folder name) its whole.2 its_text)
    ∙ (reads w its n (below folder name) whole.2 at.1 fits.0 its_text ∙ ap Ok (inner_rows folder name (rows_in its) whole.0)) in
    let later = reads w others (suc n) folder whole.4 at.2 fits.1 (all_back (λ r. IsText (below folder r.0)) inner (rows_in others) text) in
    ap (λ (r : Result Entries MapFault). r >>= λ rows. entries_map (map_below (suc n) w) folder (tree_entries others) >>= λ more. Ok (rows ++ more)) first
    ∙ (ap (λ (r : Result Entries MapFault). r >>= λ more. Ok (map (at_folder folder) inner ++ more)) later ∙ ap Ok (sym (map-append (at_folder folder) inner (rows_in others))))

-- ---- the root

all_depth : (rows : Entries) → list_any (λ e. nat_lt 256 (length (parts e.0))) rows ≡ false → HaveDepth 256 rows
all_depth [] low = tt
all_depth (e ∷ es) low = by (nat_lt 256 (length (parts e.0))) refl (all_depth es) low
  where
    by : (t : Bool) → nat_lt 256 (length (parts e.0)) ≡ t → (list_any (λ d. nat_lt 256 (length (parts d.0))) es ≡ false → HaveDepth 256 es)
        → (t || list_any (λ d. nat_lt 256 (length (parts d.0))) es) ≡ false → HaveDepth 256 (e ∷ es)
    by true is later low = absurd cc
    by false is later low = (grind (arith, nat_tests), later low)

all_text : (rows : Entries) → AllByRecursion (λ e. IsPath e.0) rows → AreText [] rows
all_text [] paths = tt
all_text (e ∷ es) paths = (record { short = paths.0.short; text = paths.0.text }, all_text es paths.1)

at_root : (rows : Entries) → map (at_folder []) rows ≡ rows
at_root [] = refl
at_root (e ∷ es) = ap (λ (rows : Entries). e ∷ rows) (at_root es)

pub written_back : (w now : World) (rows : Entries) → IsPathMap rows → AllByRecursion (λ e. IsPath e.0) rows → HaveRowIds rows
    → is_too_deep rows ≡ false → put_trees w (trees_of rows) ≡ Ok now → map_at now (root_of rows) ≡ Ok rows
unfolding map_at root_of trees_of is_too_deep
written_back w now rows is paths ids low put =
    let listing = listing_of rows in
    let whole = listing_whole rows (all_names rows paths) (are_files rows is.files) in
    let same = rows_listed rows in
    let apart = subst AllApart (sym same) (map_apart rows is) in
    let listed_ids = subst HaveRowIds (sym same) ids in
    let text = subst (AreText []) (sym same) (all_text rows paths) in
    let stand = split_all (Stands now) (folder_trees listing) (tree_entries listing ∷ []) (all_stand w now (folder_trees listing ++ tree_entries listing ∷ []) put) in
    let root = found now (tree_entries listing) (tree_ordered listing whole apart) (have_ids listing listed_ids) stand.1.0 in
    opens 255 now [] (tree_id (tree_entries listing)) (tree_entries listing) root (paths_pass [] listing whole text)
    ∙ (reads now listing 255 [] whole (all_found now listing whole apart listed_ids stand.0) (fits listing 255 whole (subst (HaveDepth 256) (sym same) (all_depth rows low))) text
    ∙ ap Ok (ap (map (at_folder [])) same ∙ at_root rows))

-- ---- what was written

-- as if the objects of the trees were put
pub objects_put : (rows : Entries) (w now : World) (r : Result Id TreeFault) → HasPut r (folder_put rows w) now
    → OnOk r (put_all w (map tree_object (trees_of rows)) ≡ record { world = now; collision = None })
objects_put rows w now (Ok id) put = all_put w (trees_of rows) now (each_was_put (trees_of rows) w now (was_folder_put rows w id now put))
objects_put rows w now (Err e) put = tt

-- the map of the root is the map
pub reads_back : (rows : Entries) (w now : World) (r : Result Id TreeFault) → IsPathMap rows → AllByRecursion (λ e. IsPath e.0) rows
    → OnOk r (HaveRowIds rows) → is_too_deep rows ≡ false → IfOk r (λ root. root ≡ root_of rows)
    → HasPut r (folder_put rows w) now → IfOk r (λ root. map_at now root ≡ Ok rows)
reads_back rows w now (Ok id) is paths ids low root put =
    ap (map_at now) root ∙ written_back w now rows is paths ids low (each_was_put (trees_of rows) w now (was_folder_put rows w id now put))
reads_back rows w now (Err e) is paths ids low root put = tt

-- a map none of whose trees lies too deep, and another
pub shallow_put : (rows : Entries) (w : World) → is_too_deep rows ≡ false → trees_put rows w ≡ folder_put rows w
unfolding trees_put
shallow_put rows w low = rw low refl

pub too_deep : (rows : Entries) (w : World) → is_too_deep rows ≡ true → trees_put rows w ≡ (Err (Limit TreeDepth 257), w)
unfolding trees_put
too_deep rows w deep = rw deep refl
