-- What is read of a tree is what chains of trees lead to.
use Rattle.std.proofs.Common.{◌≡◌, ℕ, zero, suc, ◌⊎◌, inl, inr, Bool, true, false, cond, List, [], ◌∷◌, ◌++◌, length, Option, Some, None, Result, Ok, Err, refl, sym, ap, subst, ◌∙◌, arith}
use Rattle.std.specs.Prelude.{Contains}
use Rattle.std.specs.List.{list_all}
use Rattle.std.proofs.lemmas.List.Elements.{Contains-append_cases, Contains-append_left, Contains-append_right}
use Rattle.seq_base.specs.World.{World}
use Rattle.seq_base.specs.declared.map.Entry.{Entry}
use Rattle.seq_base.specs.declared.mode.Mode.{Mode}
use Rattle.seq_base.specs.declared.mode.Mode.TheVariants.{File, Exec, Link, Gitlink, Folder}
use Rattle.object_text.specs.declared.tree.TreeEntry.{TreeEntry}
use Rattle.object_text.specs.Store.{tree_at}
use Rattle.object_text.specs.TreeMaps.{◌>>=◌, MapFault, BadTree, below, entries_map, is_folder, is_path_text, map_at, map_below, opened}
use Rattle.object_text.specs.Kept.{KeepsTree, ObjectsStay}
use Rattle.object_text.specs.Chains.{Leads, LeadsTo, path_below}
use Rattle.object_text.proofs.KeptLaws.{kept_tree, tree_kept, tree_stays}

abbrev Row : Type 0
Row = List ℕ × Entry

abbrev Inside : Type 0
Inside = List ℕ → List ℕ → Result (List Row) MapFault

first_of : {X : Type 0} (x z : X) (xs : List X) → Contains (x ∷ xs) z → (x ≡ z) ⊎ Contains xs z
first_of x z xs (zero, lt, is) = inl is
first_of x z xs (suc k, lt, is) = inr (k, omega arith, is)

at_first : {X : Type 0} (x : X) (xs : List X) → Contains (x ∷ xs) x
at_first x xs = (zero, omega arith, refl)

behind : {X : Type 0} (x z : X) (xs : List X) → Contains xs z → Contains (x ∷ xs) z
behind x z xs (k, lt, is) = (suc k, omega arith, is)

bound : {A B : Type 0} (r : Result A MapFault) (f : A → Result B MapFault) (y : B) → (r >>= f) ≡ Ok y → (x : A) × (r ≡ Ok x) × (f x ≡ Ok y)
bound (Ok x) f y e = (x, refl, e)
bound (Err fault) f y e = absurd cc

abbrev done : {A : Type 0} → A → Result A MapFault
done x = Ok x

ok_is : {A : Type 0} (x y : A) → done x ≡ done y → x ≡ y
ok_is x y e = cc

-- what one entry has
abbrev row_of : List ℕ → TreeEntry → Row
row_of folder e = (below folder e.name, record { mode = e.mode; id = e.id })

abbrev rows_of : Inside → List ℕ → TreeEntry → Result (List Row) MapFault
rows_of inside folder e = cond (is_folder e.mode) (inside (below folder e.name) e.id) (Ok (row_of folder e ∷ []))

-- each row is one entry's
record IsFound (inside : Inside) (folder : List ℕ) (es : List TreeEntry) (row : Row) : Type 0 where
  entry : TreeEntry
  among : Contains es entry
  rows : List Row
  rows_are : rows_of inside folder entry ≡ Ok rows
  has : Contains rows row

found : (inside : Inside) (folder : List ℕ) (es : List TreeEntry) (rows : List Row) (row : Row) → entries_map inside folder es ≡ Ok rows
    → Contains rows row → IsFound inside folder es row
unfolding entries_map
found inside folder [] rows row e (k, lt, is) = absurd (let none = ok_is [] rows e in omega (arith, ap length none))
found inside folder (d ∷ es) rows row e has =
    let a = bound (rows_of inside folder d) (λ first. entries_map inside folder es >>= λ others. Ok (first ++ others)) rows e in
    let b = bound (entries_map inside folder es) (λ others. Ok (a.0 ++ others)) rows a.2 in
    elim (Contains-append_cases a.0 b.0 row (subst (λ (rs : List Row). Contains rs row) (sym (ok_is (a.0 ++ b.0) rows b.2)) has)) [
      | inl here ↦ record { entry = d; among = at_first d es; rows = a.0; rows_are = a.1; has = here }
      | inr later ↦ let f = found inside folder es b.0 row b.1 later in record { entry = f.entry; among = behind d f.entry es f.among; rows = f.rows; rows_are = f.rows_are; has = f.has }
    ]

-- the rows of each entry are there
record AreKept (inside : Inside) (folder : List ℕ) (e : TreeEntry) (all : List Row) : Type 0 where
  rows : List Row
  rows_are : rows_of inside folder e ≡ Ok rows
  kept : (row : Row) → Contains rows row → Contains all row

kept : (inside : Inside) (folder : List ℕ) (es : List TreeEntry) (rows : List Row) (e : TreeEntry) → entries_map inside folder es ≡ Ok rows
    → Contains es e → AreKept inside folder e rows
unfolding entries_map
kept inside folder [] rows e is (k, lt, here) = absurd (omega arith)
kept inside folder (d ∷ es) rows e is has =
    let a = bound (rows_of inside folder d) (λ first. entries_map inside folder es >>= λ others. Ok (first ++ others)) rows is in
    let b = bound (entries_map inside folder es) (λ others. Ok (a.0 ++ others)) rows a.2 in
    let whole = ok_is (a.0 ++ b.0) rows b.2 in
    elim (first_of d e es has) [
      | inl same ↦ record { rows = a.0; rows_are = ap (rows_of inside folder) (sym same) ∙ a.1; kept = λ row h. subst (λ (rs : List Row). Contains rs row) whole (Contains-append_left a.0 b.0 row h) }
      | inr later ↦
          let k = kept inside folder es b.0 e b.1 later in
          record { rows = k.rows; rows_are = k.rows_are; kept = λ row h. subst (λ (rs : List Row). Contains rs row) whole (Contains-append_right a.0 b.0 row (k.kept row h)) }
    ]

-- the entries of a tree whose map was read
open_is : (inside : Inside) (folder id : List ℕ) (o : Option (List TreeEntry)) (rows : List Row) → opened inside folder id o ≡ Ok rows
    → (es : List TreeEntry) × (o ≡ Some es) × (entries_map inside folder es ≡ Ok rows)
open_is inside folder id None rows e = absurd cc
open_is inside folder id (Some es) rows e = at (list_all (λ (d : TreeEntry). is_path_text (below folder d.name)) es) e
  where
    at : (t : Bool) → cond t (entries_map inside folder es) (Err (BadTree id)) ≡ Ok rows
        → (others : List TreeEntry) × (Some es ≡ Some others) × (entries_map inside folder others ≡ Ok rows)
    at true e = (es, refl, e)
    at false e = absurd cc

folder_is : (mode : Mode) → is_folder mode ≡ true → mode ≡ Folder
folder_is Folder is = refl
folder_is File is = absurd cc
folder_is Exec is = absurd cc
folder_is Link is = absurd cc
folder_is Gitlink is = absurd cc

-- a chain that begins with a folder
longer : (w : World) (id : List ℕ) (es : List TreeEntry) (d : TreeEntry) (entry : Entry) (names : List (List ℕ)) → tree_at w id ≡ Some es
    → Contains es d → is_folder d.mode ≡ true → Leads w d.id names entry → Leads w id (d.name ∷ names) entry
longer w id es d entry [] is among on leads = absurd leads
longer w id es d entry (name ∷ names) is among on leads =
    let mode = folder_is d.mode on in
    let same : d ≡ record { mode = Folder; name = d.name; id = d.id } = ap (λ (m : Mode). record { mode = m; name = d.name; id = d.id }) mode in
    (es, d.id, tree_kept w id es is, subst (λ (x : TreeEntry). Contains es x) same among, leads)

-- each row that is read is led to
pub led_to : (n : ℕ) (w : World) (folder id : List ℕ) (rows : List Row) (row : Row) → map_below n w folder id ≡ Ok rows → Contains rows row
    → (names : List (List ℕ)) × Leads w id names row.1 × (row.0 ≡ path_below folder names)
unfolding map_below
led_to zero w folder id rows row e has = absurd cc
led_to (suc n) w folder id rows row e has =
    let o = open_is (map_below n w) folder id (tree_at w id) rows e in
    let f = found (map_below n w) folder o.0 rows row o.2 has in
    at o.0 o.1 f.entry f.among f.rows f.has (λ is. led_to n w (below folder f.entry.name) f.entry.id f.rows row is f.has) (is_folder f.entry.mode) refl f.rows_are
  where
    at : (es : List TreeEntry) → tree_at w id ≡ Some es → (d : TreeEntry) → Contains es d → (first : List Row) → Contains first row
        → (map_below n w (below folder d.name) d.id ≡ Ok first → (names : List (List ℕ)) × Leads w d.id names row.1 × (row.0 ≡ path_below (below folder d.name) names))
        → (t : Bool) → is_folder d.mode ≡ t → cond t (map_below n w (below folder d.name) d.id) (Ok (row_of folder d ∷ [])) ≡ Ok first
        → (names : List (List ℕ)) × Leads w id names row.1 × (row.0 ≡ path_below folder names)
    at es is d among first has later true on e = let l = later e in (d.name ∷ l.0, longer w id es d row.1 l.0 is among on l.1, l.2)
    at es is d among first has later false off e =
        let one = ok_is (row_of folder d ∷ []) first e in
        elim (first_of (row_of folder d) row [] (subst (λ (rs : List Row). Contains rs row) (sym one) has)) [
          | inl same ↦
              let leaf : Leads w id (d.name ∷ []) (row_of folder d).1 = (es, tree_kept w id es is, among, off) in
              (d.name ∷ [], subst (λ (r : Row). Leads w id (d.name ∷ []) r.1) same leaf, ap (λ (r : Row). r.0) (sym same))
          | inr none ↦ absurd (let lt = none.1 in omega arith)
        ]

-- a tree's entries are the only ones
only_tree : (w : World) (id : List ℕ) (es others : List TreeEntry) → KeepsTree w id es → tree_at w id ≡ Some others → es ≡ others
only_tree w id es others keeps is = some_is es others (sym (kept_tree w id es keeps) ∙ is)
  where
    some_is : (a b : List TreeEntry) → Some a ≡ Some b → a ≡ b
    some_is a b e = cc

-- and what is led to is read
pub is_read : (n : ℕ) (w : World) (folder id : List ℕ) (rows : List Row) (names : List (List ℕ)) (entry : Entry) → map_below n w folder id ≡ Ok rows
    → Leads w id names entry → Contains rows (path_below folder names, entry)
unfolding map_below
is_read zero w folder id rows names entry e leads = absurd cc
is_read (suc n) w folder id rows [] entry e leads = absurd leads
is_read (suc n) w folder id rows (name ∷ []) entry e (es, keeps, among, off) =
    let o = open_is (map_below n w) folder id (tree_at w id) rows e in
    let same = only_tree w id es o.0 keeps o.1 in
    let d : TreeEntry = record { mode = entry.mode; name = name; id = entry.id } in
    let k = kept (map_below n w) folder o.0 rows d o.2 (subst (λ (xs : List TreeEntry). Contains xs d) same among) in
    let one : row_of folder d ∷ [] ≡ k.rows = ok_is (row_of folder d ∷ []) k.rows (sym (ap (λ (t : Bool). cond t (map_below n w (below folder name) entry.id) (Ok (row_of folder d ∷ []))) off) ∙ k.rows_are) in
    k.kept (row_of folder d) (subst (λ (rs : List Row). Contains rs (row_of folder d)) one (at_first (row_of folder d) []))
is_read (suc n) w folder id rows (name ∷ next ∷ names) entry e (es, sub, keeps, among, leads) =
    let o = open_is (map_below n w) folder id (tree_at w id) rows e in
    let same = only_tree w id es o.0 keeps o.1 in
    let d : TreeEntry = record { mode = Folder; name = name; id = sub } in
    let k = kept (map_below n w) folder o.0 rows d o.2 (subst (λ (xs : List TreeEntry). Contains xs d) same among) in
    k.kept (path_below (below folder name) (next ∷ names), entry) (is_read n w (below folder name) sub k.rows (next ∷ names) entry k.rows_are leads)

-- the map of a tree has what chains lead to, and nothing else
pub row_led_to : (w : World) (id : List ℕ) (rows : List Row) (path : List ℕ) (entry : Entry) → map_at w id ≡ Ok rows → Contains rows (path, entry)
    → LeadsTo w id path entry
unfolding map_at
row_led_to w id rows path entry e has = led_to 256 w [] id rows (path, entry) e has

pub led_to_row : (w : World) (id : List ℕ) (rows : List Row) (path : List ℕ) (entry : Entry) → map_at w id ≡ Ok rows → LeadsTo w id path entry
    → Contains rows (path, entry)
unfolding map_at
led_to_row w id rows path entry e leads =
    subst (λ (p : List ℕ). Contains rows (p, entry)) (sym leads.2) (is_read 256 w [] id rows leads.0 entry e leads.1)

-- ---- the map stays where the files of objects stay

entries_stay : (inside other : Inside) → ((folder id : List ℕ) (rows : List Row) → inside folder id ≡ Ok rows → other folder id ≡ Ok rows)
    → (folder : List ℕ) (es : List TreeEntry) (rows : List Row) → entries_map inside folder es ≡ Ok rows → entries_map other folder es ≡ Ok rows
unfolding entries_map
entries_stay inside other on folder [] rows e = e
entries_stay inside other on folder (d ∷ es) rows e =
    let a = bound (rows_of inside folder d) (λ first. entries_map inside folder es >>= λ others. Ok (first ++ others)) rows e in
    let b = bound (entries_map inside folder es) (λ others. Ok (a.0 ++ others)) rows a.2 in
    ap (λ (r : Result (List Row) MapFault). r >>= λ first. entries_map other folder es >>= λ others. Ok (first ++ others)) (first (is_folder d.mode) a.0 a.1)
    ∙ ap (λ (r : Result (List Row) MapFault). r >>= λ others. Ok (a.0 ++ others)) (entries_stay inside other on folder es b.0 b.1)
    ∙ b.2
  where
    first : (t : Bool) (here : List Row) → cond t (inside (below folder d.name) d.id) (Ok (row_of folder d ∷ [])) ≡ Ok here
        → cond t (other (below folder d.name) d.id) (Ok (row_of folder d ∷ [])) ≡ Ok here
    first true here e = on (below folder d.name) d.id here e
    first false here e = e

opened_stays : (inside other : Inside) → ((folder id : List ℕ) (rows : List Row) → inside folder id ≡ Ok rows → other folder id ≡ Ok rows)
    → (folder id : List ℕ) (o p : Option (List TreeEntry)) (rows : List Row) → ((es : List TreeEntry) → o ≡ Some es → p ≡ Some es) → opened inside folder id o ≡ Ok rows → opened other folder id p ≡ Ok rows
opened_stays inside other on folder id None p rows same e = absurd cc
opened_stays inside other on folder id (Some es) p rows same e =
    ap (opened other folder id) (same es refl) ∙ at (list_all (λ (d : TreeEntry). is_path_text (below folder d.name)) es) e
  where
    at : (t : Bool) → cond t (entries_map inside folder es) (Err (BadTree id)) ≡ Ok rows
        → cond t (entries_map other folder es) (Err (BadTree id)) ≡ Ok rows
    at true e = entries_stay inside other on folder es rows e
    at false e = absurd cc

below_stays : (n : ℕ) (old new : World) → ObjectsStay old new → (folder id : List ℕ) (rows : List Row) → map_below n old folder id ≡ Ok rows
    → map_below n new folder id ≡ Ok rows
unfolding map_below
below_stays zero old new stay folder id rows e = absurd cc
below_stays (suc n) old new stay folder id rows e =
    opened_stays (map_below n old) (map_below n new) (below_stays n old new stay) folder id (tree_at old id) (tree_at new id) rows (λ es is. tree_stays old new id es stay is) e

pub map_stays : (old new : World) (id : List ℕ) (rows : List Row) → ObjectsStay old new → map_at old id ≡ Ok rows → map_at new id ≡ Ok rows
unfolding map_at
map_stays old new id rows stay e = below_stays 256 old new stay [] id rows e
