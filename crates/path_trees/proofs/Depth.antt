-- What is at a depth.
use Rattle.std.proofs.Common.{◌≡◌, ℕ, zero, suc, ◌-◌, ◌<◌, Bool, true, false, cond, List, [], ◌∷◌, Some, None, Result, Ok, Err, refl, sym, ap, subst, ◌∙◌, arith}
use Rattle.std.specs.List.{list_all}
use Rattle.seq_base.specs.World.{World}
use Rattle.seq_base.specs.declared.map.Entry.{Entry}
use Rattle.object_text.specs.declared.tree.TreeEntry.{TreeEntry}
use Rattle.object_text.specs.Store.{tree_at}
use Rattle.object_text.specs.TreeMaps.{MapFault, BadTree, TooDeep, entries_map, is_folder, map_below, opened}
use Rattle.path_trees.specs.Reads.{Blames, GivesTree}
use Rattle.seq_base.specs.PathMaps.{Entries}
use Rattle.path_trees.specs.Rows.{GivesRows, has_path}
use Rattle.path_trees.specs.declared.fault.TreeFault.{TreeFault}
use Rattle.path_trees.specs.declared.fault.TreeFault.TheVariants.{BadObject, TooLarge, Depth, Blocked, Fault, Memory}
use Rattle.path_trees.proofs.Build.{first_of}
use Rattle.path_trees.proofs.Trees.{small_tree}

pub at_zero : (n : ℕ) (w : World) (folder id : List ℕ) → n ≡ 0 → map_below n w folder id ≡ Err TooDeep
unfolding map_below
at_zero n w folder id e = rw e refl

at_none : (n : ℕ) (w : World) (folder id : List ℕ) → 0 < n → tree_at w id ≡ None → map_below n w folder id ≡ Err (BadTree id)
unfolding map_below
at_none zero w folder id lt none = absurd (omega arith)
at_none (suc n) w folder id lt none = rw none refl

at_bad : (n : ℕ) (w : World) (folder id : List ℕ) (es : List TreeEntry) → 0 < n → tree_at w id ≡ Some es → list_all (has_path folder) es ≡ false
    → map_below n w folder id ≡ Err (BadTree id)
unfolding map_below
at_bad zero w folder id es lt some bad = absurd (omega arith)
at_bad (suc n) w folder id es lt some bad =
    ap (opened (map_below n w) folder id) some ∙ ap (λ (t : Bool). cond t (entries_map (map_below n w) folder es) (Err (BadTree id))) bad

pub at_some : (n : ℕ) (w : World) (folder id : List ℕ) (es : List TreeEntry) → 0 < n → tree_at w id ≡ Some es → list_all (has_path folder) es ≡ true
    → entries_map (map_below (n - 1) w) folder es ≡ map_below n w folder id
unfolding map_below
at_some zero w folder id es lt some good = absurd (omega arith)
at_some (suc n) w folder id es lt some good =
    let one : suc n - 1 ≡ n = omega arith in
    ap (λ (m : ℕ). entries_map (map_below m w) folder es) one
    ∙ sym (ap (opened (map_below n w) folder id) some ∙ ap (λ (t : Bool). cond t (entries_map (map_below n w) folder es) (Err (BadTree id))) good)

-- what is blamed of a tree that was not read
pub tree_blames : (n : ℕ) (w : World) (folder id : List ℕ) (e : TreeFault) → 0 < n → GivesTree w id (Err e) (tree_at w id)
    → Blames w e (map_below n w folder id)
tree_blames n w folder id (BadObject bad) lt is =
    subst (λ (i : List ℕ). Blames w (BadObject i) (map_below n w folder id)) (sym is.0) (at_none n w folder id lt is.1, is.2)
tree_blames n w folder id (TooLarge count) lt is = (id, at_none n w folder id lt is.0, is.1)
tree_blames n w folder id Depth lt is = absurd is
tree_blames n w folder id (Blocked path) lt is = absurd is
tree_blames n w folder id Fault lt is = tt
tree_blames n w folder id Memory lt is = tt

-- what is blamed of a tree with a path that is none
pub rows_blame : (n : ℕ) (w : World) (folder id : List ℕ) (es : List TreeEntry) (e : TreeFault) → 0 < n → tree_at w id ≡ Some es
    → GivesRows folder id es (Err e) → Blames w e (map_below n w folder id)
rows_blame n w folder id es (BadObject bad) lt some is =
    subst (λ (i : List ℕ). Blames w (BadObject i) (map_below n w folder id)) (sym is.0) (at_bad n w folder id es lt some is.1, small_tree w id es some)
rows_blame n w folder id es (TooLarge count) lt some is = absurd is
rows_blame n w folder id es Depth lt some is = absurd is
rows_blame n w folder id es (Blocked path) lt some is = absurd is
rows_blame n w folder id es Fault lt some is = absurd is
rows_blame n w folder id es Memory lt some is = tt

-- ---- a row

pub file_first : (sub : List ℕ → List ℕ → Result Entries MapFault) (x : List ℕ × Entry) → is_folder x.1.mode ≡ false → first_of sub x ≡ Ok (x ∷ [])
file_first sub x off = ap (λ (t : Bool). cond t (sub x.0 x.1.id) (Ok (x ∷ []))) off

pub folder_first : (n : ℕ) (w now : World) (path : List ℕ) (x : List ℕ × Entry) → now ≡ w → path ≡ x.0 → is_folder x.1.mode ≡ true
    → map_below n now path x.1.id ≡ first_of (map_below n w) x
folder_first n w now path x same is on =
    ap (λ (v : World). map_below n v path x.1.id) same
    ∙ (ap (λ (p : List ℕ). map_below n w p x.1.id) is ∙ sym (ap (λ (t : Bool). cond t (map_below n w x.0 x.1.id) (Ok (x ∷ []))) on))

pub folder_blames : (n : ℕ) (w now : World) (path : List ℕ) (x : List ℕ × Entry) (e : TreeFault) → now ≡ w → path ≡ x.0 → is_folder x.1.mode ≡ true
    → Blames now e (map_below n now path x.1.id) → Blames w e (first_of (map_below n w) x)
folder_blames n w now path x e same is on bad =
    subst (λ (v : World). Blames v e (first_of (map_below n w) x)) same (subst (Blames now e) (folder_first n w now path x same is on) bad)
