-- A listing has the rows of its map, each once and in order.
use Rattle.std.proofs.Common.{◌≡◌, ◌==◌, ℕ, ◌<◌, Bool, true, false, cond, not, List, [], ◌∷◌, ◌++◌, length, map, refl, sym, ap, subst, ◌∙◌, arith}
use Rattle.std.specs.List.{AllByRecursion, join_with_byte, list_all}
use Rattle.std.specs.Str.{bytes_eq}
use Rattle.std.proofs.lemmas.Bool.{and_parts, false_from_ne_true, not-true}
use Rattle.std.proofs.lemmas.List.Elements.{All-weaker}
use Rattle.std.proofs.lemmas.List.Splits.{join_with_byte-slice_split, slice_split_at}
use Rattle.std.proofs.lemmas.List.Sums.{AllPass-from_list_all}
use Rattle.std.proofs.lemmas.Slice.Eq.{bytes_eq-Decides}
use Rattle.seq_base.specs.Paths.{parts}
use Rattle.seq_base.specs.declared.map.Entry.{Entry}
use Rattle.seq_base.proofs.Places.{some_part}
use Rattle.object_text.specs.TreeMaps.{Listing, NoMore, OneFile, OneFolder, in_folder, is_folder, listing_of, with_file}
use Rattle.object_text.specs.Trees.{is_name}
use Rattle.seq_base.specs.PathMaps.{Entries}
use Rattle.path_trees.proofs.Order.{has_no_slash}

-- a row of a folder, seen from the folder that lists that one
abbrev pub in_front : List ℕ → List ℕ × Entry → List ℕ × Entry
in_front name r = (name ++ 47 ∷ r.0, r.1)

-- what is listed, at its path
unfoldable pub rows_in : Listing → Entries
rows_in NoMore = []
rows_in (OneFile name entry others) = (name, entry) ∷ rows_in others
rows_in (OneFolder name its others) = map (in_front name) (rows_in its) ++ rows_in others

abbrev pub IsSome : Listing → Type 0
IsSome NoMore = ⊥
IsSome (OneFile name entry others) = Unit {0}
IsSome (OneFolder name its others) = Unit {0}

-- the folder of this name does not come first
abbrev pub IsOther : List ℕ → Listing → Type 0
IsOther name NoMore = Unit {0}
IsOther name (OneFile first entry others) = Unit {0}
IsOther name (OneFolder first its others) = bytes_eq first name ≡ false

-- all have names, a folder lists something, and no folder comes twice in a row
abbrev pub IsWhole : Listing → Type 0
IsWhole NoMore = Unit {0}
IsWhole (OneFile name entry others) = (is_name name ≡ true) × (is_folder entry.mode ≡ false) × IsWhole others
IsWhole (OneFolder name its others) = (is_name name ≡ true) × IsSome its × IsWhole its × IsOther name others × IsWhole others

-- ---- a file is listed first

pub into_folder : (name : List ℕ) (ps : List (List ℕ)) (entry : Entry) (listing : Listing) → 0 < length ps
    → with_file (name ∷ ps) entry listing ≡ in_folder name (with_file ps entry) listing
unfolding with_file
into_folder name [] entry listing some = absurd (omega arith)
into_folder name (next ∷ more) entry listing some = refl

bytes_same : (a b : List ℕ) → bytes_eq a b ≡ true → a ≡ b
bytes_same a b is = (bytes_eq-Decides a b).0 is

-- lists a file first, at this path
abbrev ListsAt : List ℕ → Entry → (Listing → Listing) → Type 0
ListsAt path entry change = (listing : Listing) → rows_in (change listing) ≡ (path, entry) ∷ rows_in listing

rows_in_folder : (name path : List ℕ) (entry : Entry) (change : Listing → Listing) → ListsAt path entry change
    → ListsAt (name ++ 47 ∷ path) entry (in_folder name change)
unfolding rows_in
rows_in_folder name path entry change lists NoMore = ap (λ (rows : Entries). map (in_front name) rows ++ []) (lists NoMore)
rows_in_folder name path entry change lists (OneFile first other others) =
    ap (λ (rows : Entries). map (in_front name) rows ++ (first, other) ∷ rows_in others) (lists NoMore)
rows_in_folder name path entry change lists (OneFolder first its others) = at (bytes_eq first name) refl
  where
    at : (same : Bool) → bytes_eq first name ≡ same
        → rows_in (cond same (OneFolder name (change its) others) (OneFolder name (change NoMore) (OneFolder first its others))) ≡ (name ++ 47 ∷ path, entry) ∷ rows_in (OneFolder first its others)
    at true is =
        ap (λ (rows : Entries). map (in_front name) rows ++ rows_in others) (lists its)
        ∙ ap (λ (n : List ℕ). (name ++ 47 ∷ path, entry) ∷ (map (in_front n) (rows_in its) ++ rows_in others)) (sym (bytes_same first name is))
    at false is = ap (λ (rows : Entries). map (in_front name) rows ++ rows_in (OneFolder first its others)) (lists NoMore)

rows_with : (name : List ℕ) (more : List (List ℕ)) (entry : Entry) → ListsAt (join_with_byte 47 (name ∷ more)) entry (with_file (name ∷ more) entry)
unfolding with_file rows_in
rows_with name [] entry listing = refl
rows_with name (next ∷ more) entry listing =
    rows_in_folder name (join_with_byte 47 (next ∷ more)) entry (with_file (next ∷ more) entry) (rows_with next more entry) listing

abbrev KeepsWhole : (Listing → Listing) → Type 0
KeepsWhole change = (listing : Listing) → IsWhole listing → IsSome (change listing) × IsWhole (change listing)

whole_in_folder : (name : List ℕ) (change : Listing → Listing) → is_name name ≡ true → KeepsWhole change → KeepsWhole (in_folder name change)
whole_in_folder name change good keeps NoMore whole = let one = keeps NoMore tt in (tt, (good, one.0, one.1, tt, tt))
whole_in_folder name change good keeps (OneFile first other others) whole = let one = keeps NoMore tt in (tt, (good, one.0, one.1, tt, whole))
whole_in_folder name change good keeps (OneFolder first its others) whole = at (bytes_eq first name) refl
  where
    at : (same : Bool) → bytes_eq first name ≡ same
        → IsSome (cond same (OneFolder name (change its) others) (OneFolder name (change NoMore) (OneFolder first its others))) × IsWhole (cond same (OneFolder name (change its) others) (OneFolder name (change NoMore) (OneFolder first its others)))
    at true is =
        let one = keeps its whole.2 in (tt, (good, one.0, one.1, subst (λ (n : List ℕ). IsOther n others) (bytes_same first name is) whole.3, whole.4))
    at false is = let one = keeps NoMore tt in (tt, (good, one.0, one.1, is, whole))

whole_with : (name : List ℕ) (more : List (List ℕ)) (entry : Entry) → list_all is_name (name ∷ more) ≡ true → is_folder entry.mode ≡ false
    → KeepsWhole (with_file (name ∷ more) entry)
unfolding with_file
whole_with name [] entry good file listing whole = (tt, ((and_parts (is_name name) true good).0, file, whole))
whole_with name (next ∷ more) entry good file listing whole =
    let both = and_parts (is_name name) (list_all is_name (next ∷ more)) good in
    whole_in_folder name (with_file (next ∷ more) entry) both.0 (whole_with next more entry both.1 file) listing whole

-- ---- a map is listed

-- the parts of a path, of which there is one at least
pub record HasParts (path : List ℕ) : Type 0 where
  pub first : List ℕ
  pub more : List (List ℕ)
  pub parts_are : parts path ≡ first ∷ more

pub path_parts : (path : List ℕ) → HasParts path
path_parts path = by (parts path) refl
  where
    by : (ps : List (List ℕ)) → parts path ≡ ps → HasParts path
    by [] is = let some = some_part path in let none = ap length is in absurd (omega arith)
    by (first ∷ more) is = record { first = first; more = more; parts_are = is }

pub joined : (path : List ℕ) (has : HasParts path) → join_with_byte 47 (has.first ∷ has.more) ≡ path
joined path has = ap (join_with_byte 47) (sym has.parts_are) ∙ join_with_byte-slice_split 47 path

pub rows_listed : (rows : Entries) → rows_in (listing_of rows) ≡ rows
unfolding listing_of rows_in
rows_listed [] = refl
rows_listed (e ∷ es) =
    let has = path_parts e.0 in
    ap (λ (ps : List (List ℕ)). rows_in (with_file ps e.1 (listing_of es))) has.parts_are
    ∙ (rows_with has.first has.more e.1 (listing_of es) ∙ (ap (λ (p : List ℕ). (p, e.1) ∷ rows_in (listing_of es)) (joined e.0 has) ∙ ap (λ (rs : Entries). e ∷ rs) (rows_listed es)))

-- the parts of all paths are names
abbrev pub HaveNames : Entries → Type 0
HaveNames = AllByRecursion (λ e. list_all is_name (parts e.0) ≡ true)

-- all are files
abbrev pub AreFiles : Entries → Type 0
AreFiles = AllByRecursion (λ e. is_folder e.1.mode ≡ false)

pub listing_whole : (rows : Entries) → HaveNames rows → AreFiles rows → IsWhole (listing_of rows)
unfolding listing_of
listing_whole [] names files = tt
listing_whole (e ∷ es) names files =
    let has = path_parts e.0 in
    let good : list_all is_name (has.first ∷ has.more) ≡ true = sym (ap (list_all is_name) has.parts_are) ∙ names.0 in
    subst (λ (ps : List (List ℕ)). IsWhole (with_file ps e.1 (listing_of es))) (sym has.parts_are) (whole_with has.first has.more e.1 good files.0 (listing_of es) (listing_whole es names.1 files.1)).1

-- ---- the rows of one folder come together

pub parts_in_front : (name path : List ℕ) → has_no_slash name ≡ true → parts (name ++ 47 ∷ path) ≡ name ∷ parts path
parts_in_front name path none =
    slice_split_at (λ b. b == 47) name 47 path (All-weaker (λ b. not (b == 47) ≡ true) (λ b. (b == 47) ≡ false) (λ b is. not-true (b == 47) is) name (AllPass-from_list_all (λ b. not (b == 47)) name none)) refl

pub file_listed : (path : List ℕ) (entry : Entry) (rows : Entries) → parts path ≡ path ∷ []
    → listing_of ((path, entry) ∷ rows) ≡ OneFile path entry (listing_of rows)
unfolding listing_of with_file
file_listed path entry rows one = ap (λ (ps : List (List ℕ)). with_file ps entry (listing_of rows)) one

new_folder : (name : List ℕ) (change : Listing → Listing) (listing : Listing) → IsOther name listing
    → in_folder name change listing ≡ OneFolder name (change NoMore) listing
new_folder name change NoMore other = refl
new_folder name change (OneFile first entry others) other = refl
new_folder name change (OneFolder first its others) other =
    ap (λ (same : Bool). cond same (OneFolder name (change its) others) (OneFolder name (change NoMore) (OneFolder first its others))) other

old_folder : (name : List ℕ) (change : Listing → Listing) (its others : Listing)
    → in_folder name change (OneFolder name its others) ≡ OneFolder name (change its) others
old_folder name change its others =
    ap (λ (same : Bool). cond same (OneFolder name (change its) others) (OneFolder name (change NoMore) (OneFolder name its others))) ((bytes_eq-Decides name name).1 refl)

pub folder_listed : (name : List ℕ) (e : List ℕ × Entry) (es others : Entries) → has_no_slash name ≡ true → IsOther name (listing_of others)
    → listing_of (map (in_front name) (e ∷ es) ++ others) ≡ OneFolder name (listing_of (e ∷ es)) (listing_of others)
unfolding listing_of
folder_listed name e [] others none other =
    ap (λ (ps : List (List ℕ)). with_file ps e.1 (listing_of others)) (parts_in_front name e.0 none)
    ∙ (into_folder name (parts e.0) e.1 (listing_of others) (some_part e.0) ∙ new_folder name (with_file (parts e.0) e.1) (listing_of others) other)
folder_listed name e (d ∷ es) others none other =
    ap (λ (ps : List (List ℕ)). with_file ps e.1 (listing_of (map (in_front name) (d ∷ es) ++ others))) (parts_in_front name e.0 none)
    ∙ (into_folder name (parts e.0) e.1 (listing_of (map (in_front name) (d ∷ es) ++ others)) (some_part e.0)
    ∙ (ap (in_folder name (with_file (parts e.0) e.1)) (folder_listed name d es others none other)
    ∙ old_folder name (with_file (parts e.0) e.1) (listing_of (d ∷ es)) (listing_of others)))

-- a map that does not begin below a folder does not list it first
pub other_listed : (name : List ℕ) (rows : Entries)
    → ((e : List ℕ × Entry) (es : Entries) → rows ≡ e ∷ es → (path : List ℕ) → e.0 ≡ name ++ 47 ∷ path → ⊥) → IsOther name (listing_of rows)
unfolding listing_of with_file
other_listed name [] outside = tt
other_listed name (e ∷ es) outside =
    let has = path_parts e.0 in
    subst (λ (ps : List (List ℕ)). IsOther name (with_file ps e.1 (listing_of es))) (sym has.parts_are) (by has.first has.more (joined e.0 has))
  where
    by : (first : List ℕ) (more : List (List ℕ)) → join_with_byte 47 (first ∷ more) ≡ e.0
        → IsOther name (with_file (first ∷ more) e.1 (listing_of es))
    by first [] joined = tt
    by first (next ∷ more) joined = at (listing_of es)
      where
        apart : bytes_eq first name ≡ false
        apart =
            false_from_ne_true (bytes_eq first name) (λ same. outside e es refl (join_with_byte 47 (next ∷ more)) (sym joined ∙ ap (λ (n : List ℕ). n ++ 47 ∷ join_with_byte 47 (next ∷ more)) (bytes_same first name same)))

        at : (listing : Listing) → IsOther name (in_folder first (with_file (next ∷ more) e.1) listing)
        at NoMore = apart
        at (OneFile f entry others) = apart
        at (OneFolder f its others) = each (bytes_eq f first)
          where
            each : (same : Bool)
                → IsOther name (cond same (OneFolder first (with_file (next ∷ more) e.1 its) others) (OneFolder first (with_file (next ∷ more) e.1 NoMore) (OneFolder f its others)))
            each true = apart
            each false = apart
