-- The paths of a tree's entries.
use Rattle.std.proofs.Common.{◌≡◌, ◌⊎◌, ℕ, ◌+◌, ◌<◌, ◌≤◌, ◌==◌, Bool, true, false, cond, not, ◌&&◌, List, [], ◌∷◌, ◌++◌, length, map, reverse, Some, None, Ok, Err, refl, sym, ap, subst, ◌∙◌, append_assoc, inl, inr, arith, length-append, eq-eqb}
use Rattle.std.specs.Prelude.{nat_le}
use Rattle.std.specs.List.{list_all}
use Rattle.std.specs.Str.Lossy.{utf8_valid_len}
use Rattle.std.proofs.lemmas.Bool.{and_from, and_parts, ne_eqb}
use Rattle.std.proofs.lemmas.Bool.Decides.{nat_tests}
use Rattle.std.proofs.lemmas.List.{append-nil, reverse-append}
use Rattle.std.proofs.lemmas.List.Folds.{list_all-append}
use Rattle.std.proofs.lemmas.List.Splits.{slice_split_none}
use Rattle.std.proofs.lemmas.List.Sums.{AllPass-from_list_all}
use Rattle.std.proofs.lemmas.Str.{utf8_valid_len-IsUtf8, utf8_valid_len-IsValidUpTo}
use Rattle.std.proofs.lemmas.List.Elements.{All-weaker}
use Rattle.std.specs.Global.{Vec}
use Rattle.std.proofs.lemmas.Bool.{not-true}
use Rattle.seq_base.specs.Paths.{IsPath, IsPathFaultOrMemory, first_bad, is_part, is_special, parts}
use Rattle.seq_base.specs.declared.map.Entry.{Entry}
use Rattle.seq_base.specs.declared.path.PathFault.{PathFault}
use Rattle.seq_base.specs.declared.path.PathFault.TheVariants as paths
use Rattle.seq_base.proofs.Places.{parts-behind}
use Rattle.object_text.specs.declared.tree.TreeEntry.{TreeEntry}
use Rattle.object_text.specs.TreeMaps.{below, is_path_text}
use Rattle.object_text.specs.Trees.{IsTreeOrder, is_name, is_name_byte}
use Rattle.path_trees.specs.Faults.{path_fault_at}
use Rattle.seq_base.specs.PathMaps.{Entries}
use Rattle.path_trees.specs.Rows.{GivesRows, IsFolder, has_path, row_at}
use Rattle.path_trees.specs.declared.fault.TreeFault.TheVariants.{BadObject, Memory}
use Rattle.path_trees.proofs.Order.{name_no_slash}

-- ---- a path of which only the text and the length are in question

bytes_no_nul : (name : List ℕ) → list_all is_name_byte name ≡ true → list_all (λ b. not (b == 0)) name ≡ true
bytes_no_nul [] h = refl
bytes_no_nul (b ∷ name) h =
    let both = and_parts (is_name_byte b) (list_all is_name_byte name) h in
    let first = (and_parts (not (b == 0)) (not (b == 47)) (and_parts (not (b == 0) && not (b == 47)) _ both.0).0).0 in
    rw first (bytes_no_nul name both.1)

part_of_name : (name : List ℕ) → is_name name ≡ true → is_part name ≡ true
part_of_name name h =
    let outer = and_parts (not (length name == 0) && list_all is_name_byte name) (not (is_special name)) h in
    let inner = and_parts (not (length name == 0)) (list_all is_name_byte name) outer.0 in
    and_from (not (length name == 0) && list_all (λ b. not (b == 0)) name) (not (is_special name)) (and_from (not (length name == 0)) (list_all (λ b. not (b == 0)) name) inner.0 (bytes_no_nul name inner.1)) outer.1

name_is_some : (name : List ℕ) → is_name name ≡ true → 0 < length name
name_is_some [] h = absurd cc
name_is_some (b ∷ name) h = omega arith

one_part : (name : List ℕ) → is_name name ≡ true → parts name ≡ name ∷ []
one_part name h =
    slice_split_none (λ b. b == 47) name (All-weaker (λ b. not (b == 47) ≡ true) (λ b. (b == 47) ≡ false) (λ b is. not-true (b == 47) is) name (AllPass-from_list_all (λ b. not (b == 47)) name (name_no_slash name h)))

good_name : (at : ℕ) (name : List ℕ) → is_name name ≡ true → first_bad at (name ∷ []) ≡ None
good_name at name h = let good = part_of_name name h in rw good refl

good_more : (at : ℕ) (ps : List (List ℕ)) (name : List ℕ) → is_name name ≡ true → first_bad at ps ≡ None → first_bad at (ps ++ name ∷ []) ≡ None
good_more at [] name h good = good_name at name h
good_more at (p ∷ ps) name h good = by (is_part p) (good_more (at + length p + 1) ps name h) good
  where
    by : (t : Bool) → (first_bad (at + length p + 1) ps ≡ None → first_bad (at + length p + 1) (ps ++ name ∷ []) ≡ None)
        → cond t (first_bad (at + length p + 1) ps) (Some at) ≡ None → cond t (first_bad (at + length p + 1) (ps ++ name ∷ [])) (Some at) ≡ None
    by true later h = later h
    by false later h = absurd cc

good_below : (folder name : List ℕ) → IsFolder folder → is_name name ≡ true → first_bad 0 (parts (below folder name)) ≡ None
good_below [] name is h = ap (first_bad 0) (one_part name h) ∙ good_name 0 name h
good_below (c ∷ folder) name (inl root) h = absurd cc
good_below (c ∷ folder) name (inr path) h =
    let split : parts (below (c ∷ folder) name) ≡ parts (c ∷ folder) ++ name ∷ [] =
    ap parts (append_assoc (c ∷ folder) (47 ∷ []) name) ∙ (parts-behind (c ∷ folder) name ∙ ap (λ (ps : List (List ℕ)). parts (c ∷ folder) ++ ps) (one_part name h)) in
    ap (first_bad 0) split ∙ good_more 0 (parts (c ∷ folder)) name h path.parts_are

pub some_below : (folder name : List ℕ) → is_name name ≡ true → 0 < length (below folder name)
some_below [] name h = name_is_some name h
some_below (c ∷ folder) name h = omega (arith, length-append (folder ++ 47 ∷ []) name)

-- ---- the test

has_length : (n : ℕ) → n ≤ 4095 → nat_le n 4095 ≡ true
has_length n low = grind (arith, nat_tests)

too_long : (n : ℕ) → 4095 < n → nat_le n 4095 ≡ false
too_long n high = grind (arith, nat_tests)

pub path_passes : (path : List ℕ) → IsPath path → is_path_text path ≡ true
path_passes path is =
    and_from (nat_le (length path) 4095) (utf8_valid_len path == length path) (has_length (length path) is.short) (eq-eqb (utf8_valid_len path) (length path) (utf8_valid_len-IsUtf8 path is.text))

so_false : (b : Bool) → b && false ≡ false
so_false true = refl
so_false false = refl

-- what is answered of a path that is none
pub fails_path : (folder name id : List ℕ) (fault : PathFault) → IsFolder folder → is_name name ≡ true → IsPathFaultOrMemory (below folder name) fault
    → (path_fault_at id fault ≡ Memory) ⊎ ((path_fault_at id fault ≡ BadObject id) × (is_path_text (below folder name) ≡ false))
fails_path folder name id paths.Empty is h fault = let some = some_below folder name h in absurd (omega arith)
fails_path folder name id (paths.TooLong n) is h fault =
    let long : nat_le (length (below folder name)) 4095 ≡ false = too_long (length (below folder name)) (let same = fault.0 in let high = fault.1 in omega arith) in inr (refl, rw long refl)
fails_path folder name id (paths.NotUtf8 at) is h fault =
    let valid = utf8_valid_len-IsValidUpTo (below folder name) at fault.3 in
    let short = fault.3.short in
    let other : (utf8_valid_len (below folder name) == length (below folder name)) ≡ false = ne_eqb (utf8_valid_len (below folder name)) (length (below folder name)) (λ e. absurd (omega arith)) in
    inr (refl, rw other (so_false (nat_le (length (below folder name)) 4095)))
fails_path folder name id (paths.BadPart at) is h fault = let good = good_below folder name is h in absurd cc
fails_path folder name id paths.Memory is h fault = inl refl

-- ---- the loop, which takes entries from the end

-- those behind what is left have been taken, their rows the last first
pub record HasTaken (folder : List ℕ) (es left : List TreeEntry) (rows : Entries) : Type 0 where
  pub done : List TreeEntry
  pub parts_are : es ≡ left ++ done
  pub rows_are : rows ≡ reverse (map (row_at folder) done)
  pub good : list_all (has_path folder) done ≡ true

pub none_taken : (folder : List ℕ) (es : List TreeEntry) → HasTaken folder es es []
none_taken folder es = record { done = []; parts_are = sym (append-nil es); rows_are = refl; good = refl }

pub one_taken : (folder : List ℕ) (es left : List TreeEntry) (e : TreeEntry) (rows now : Entries) → HasTaken folder es (left ++ e ∷ []) rows
    → has_path folder e ≡ true → now ≡ rows ++ row_at folder e ∷ [] → HasTaken folder es left now
one_taken folder es left e rows now taken good is = record {
  done = e ∷ taken.done;
  parts_are = taken.parts_are ∙ append_assoc left (e ∷ []) taken.done;
  rows_are =
      is
      ∙ (ap (λ (rs : Entries). rs ++ row_at folder e ∷ []) taken.rows_are ∙ sym (reverse-append (row_at folder e ∷ []) (map (row_at folder) taken.done)));
  good = and_from (has_path folder e) (list_all (has_path folder) taken.done) good taken.good;
}

pub all_taken : (folder id : List ℕ) (es : List TreeEntry) (rows : Vec (List ℕ × Entry)) → HasTaken folder es [] rows.items
    → GivesRows folder id es (Ok rows)
all_taken folder id es rows taken = rw taken.parts_are (taken.rows_are, taken.good)

tree_order_name : (left : List TreeEntry) (e : TreeEntry) (done : List TreeEntry) → IsTreeOrder (left ++ e ∷ done) → is_name e.name ≡ true
tree_order_name [] e done order = order.0
tree_order_name (d ∷ left) e done order = tree_order_name left e done order.2

pub taken_name : (folder : List ℕ) (es left : List TreeEntry) (e : TreeEntry) (rows : Entries) → HasTaken folder es (left ++ e ∷ []) rows
    → IsTreeOrder es → is_name e.name ≡ true
taken_name folder es left e rows taken order =
    tree_order_name left e taken.done (subst IsTreeOrder (taken.parts_are ∙ append_assoc left (e ∷ []) taken.done) order)

pub none_has_path : (folder : List ℕ) (es left : List TreeEntry) (e : TreeEntry) (rows : Entries) → HasTaken folder es (left ++ e ∷ []) rows
    → has_path folder e ≡ false → list_all (has_path folder) es ≡ false
none_has_path folder es left e rows taken bad =
    ap (list_all (has_path folder)) (taken.parts_are ∙ append_assoc left (e ∷ []) taken.done)
    ∙ (list_all-append (has_path folder) left (e ∷ taken.done) ∙ rw bad (so_false (list_all (has_path folder) left)))

-- what is answered where a path is none
pub rows_fail : (folder id : List ℕ) (es left : List TreeEntry) (e : TreeEntry) (rows : Entries) (fault : PathFault)
    → HasTaken folder es (left ++ e ∷ []) rows → IsTreeOrder es → IsFolder folder → IsPathFaultOrMemory (below folder e.name) fault
    → GivesRows folder id es (Err (path_fault_at id fault))
rows_fail folder id es left e rows fault taken order is bad =
    elim (fails_path folder e.name id fault is (taken_name folder es left e rows taken order) bad) [
      | inl memory ↦ rw memory tt
      | inr none ↦ rw none.0 (refl, none_has_path folder es left e rows taken none.1)
    ]
