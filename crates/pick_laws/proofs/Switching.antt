-- The trees, the index and the files that a pick made.
use Rattle.std.proofs.Common.{◌≡◌, ◌≢◌, ◌<◌, ◌≤◌, ◌^◌, Bool, true, false, cond, List, [], ◌∷◌, ◌++◌, length, filter, Some, None, Result, Ok, Err, refl, sym, ap, subst, ◌∙◌, arith}
use Rattle.std.specs.FinMap as held
use Rattle.std.specs.FinMap.{get-remove}
use Rattle.std.specs.Cmp.Lexicographic.{nat_list_cmp_total}
use Rattle.std.specs.List.{AllByRecursion}
use Rattle.std.specs.Ordering.{eq_by_cmp}
use Rattle.std.specs.Prelude.{is_none, nat_lt}
use Rattle.std.proofs.lemmas.Bool.Decides.{nat_tests}
use Rattle.std.proofs.lemmas.Bool.{false_from_ne_true}
use Rattle.index_file.specs.Index.{indexed}
use Rattle.index_file.specs.declared.entry.IndexEntry.{IndexEntry}
use Rattle.object_text.specs.TreeMaps.{is_too_deep, put_trees, root_of, tree_object, trees_of}
use Rattle.object_text.specs.declared.tree.TreeEntry.{TreeEntry}
use Rattle.objects.specs.Puts.{object_put}
use Rattle.path_trees.specs.Puts.{each_put, folder_put, trees_put}
use Rattle.path_trees.proofs.Puts.{each_was_put}
use Rattle.seq_base.specs.Repository.{object_path}
use Rattle.seq_base.specs.Words.{Id, Path, Text}
use Rattle.seq_base.specs.World.{World, path_cmp}
use Rattle.seq_base.proofs.Shape.{same_path}
use Rattle.seq_model.specs.Basis.{index_limit}
use Rattle.seq_model.specs.Making.{can_have, message_path, switched_clear_to, switched_to}
use Rattle.seq_model.specs.Refusing.{denied_file, denied_git, refuse_found}
use Rattle.seq_model.specs.declared.denial.Denial.{Denial}
use Rattle.seq_model.specs.declared.denial.Denial.TheVariants.{Limit, Refused}
use Rattle.seq_model.specs.declared.refusal.Refusal.TheVariants.{NotBuilt, WouldOverwrite}
use Rattle.seq_outside.specs.Halts.{stop_if}
use Rattle.seq_outside.proofs.Turning.{same_answer, same_world}
use Rattle.seq_outside.specs.Turns.{◌>>=◌, gives, go_on, looked, looks, put_in, saying}
use Rattle.seq_outside.specs.declared.lack.Lack.{Lack}
use Rattle.seq_outside.specs.declared.lack.Lack.TheVariants as lack
use Rattle.seq_outside.specs.declared.limit.LimitWhat.TheVariants.{IndexEntries, TreeDepth}
use Rattle.seq_outside.specs.declared.write.Write.{Write}
use Rattle.seq_outside.specs.declared.write.Write.TheVariants.{Put, Remove}
use Rattle.stage_index.specs.Changes.{staged}
use Rattle.stage_index.specs.Stages.{Entries}
use Rattle.stage_index.specs.Switching.{first_obstructed, index_write, is_rewritten, removals}
use Rattle.worktree.specs.Switches.{switched_clear, write_made, writes_made}
use Rattle.worktree.specs.Writes.{blob_writes, clear_writes}
use Rattle.pick_laws.proofs.Turning.{both_are, bound, looked_at, put_here, put_there, said, was_put}
use Rattle.pick_laws.proofs.Putting.{stored}
use Rattle.pick_laws.proofs.Blobs.{clear_is}

-- ---- trees

-- the trees of the map stand, what stood stays, and only files of objects are new
pub record AreStored (u v : World) : Type 0 where
  pub stays : (path text : Text) → held.get u path ≡ Some text → held.get v path ≡ Some text
  pub elsewhere : (path : Path) → ((id : Id) → path ≢ object_path id) → held.get v path ≡ held.get u path

trees_stored : (trees : List (List TreeEntry)) (u v : World) → each_put trees u ≡ (Ok tt, v) → AreStored u v
unfolding each_put
trees_stored [] u v e = subst (AreStored u) (same_world e) (record { stays = λ path text there. there; elsewhere = λ path other. refl })
trees_stored (tree ∷ trees) u v e =
    let one = bound (object_put (tree_object tree)) (λ _. each_put trees) u tt v e in
    let s = stored (tree_object tree) u one.given one.between one.first in
    let more = trees_stored trees one.between v one.then in
    record { stays = λ path text there. more.stays path text (s.stays path text there); elsewhere = λ path other. more.elsewhere path other ∙ s.elsewhere path (other one.given) }

pub record HasTrees (m : Entries) (u : World) (tree : Id) (v : World) : Type 0 where
  pub deep : is_too_deep m ≡ false
  pub root : tree ≡ root_of m
  pub put : put_trees u (trees_of m) ≡ Ok v
  pub stored : AreStored u v

pub trees_put_is : (m : Entries) (u : World) (tree : Id) (v : World) → trees_put m u ≡ (Ok tree, v) → HasTrees m u tree v
unfolding trees_put folder_put
trees_put_is m u tree v e = at (is_too_deep m) refl e
  where
    folder : is_too_deep m ≡ false → (each_put (trees_of m) >>= λ _. gives (root_of m)) u ≡ (Ok tree, v) → HasTrees m u tree v
    folder shallow e =
        let one = bound (each_put (trees_of m)) (λ _. gives (root_of m)) u tree v e in
        let same = both_are {E = Lack} (root_of m) tree one.between v one.then in
        let put = each_was_put (trees_of m) u one.between one.first in
        subst (λ (t : Id × World). HasTrees m u t.0 t.1) same (record { deep = shallow; root = refl; put = put; stored = trees_stored (trees_of m) u one.between one.first })

    at : (b : Bool) → is_too_deep m ≡ b
        → go_on (looked (stop_if b (lack.Limit TreeDepth 257)) u) (λ _. each_put (trees_of m) >>= λ _. gives (root_of m)) ≡ (Ok tree, v)
        → HasTrees m u tree v
    at true is e = let never = same_answer e in absurd cc
    at false is e = folder is e

-- ---- writes

abbrev pub path_of : Write → Path
path_of (Put path bytes) = path
path_of (Remove path) = path

-- no write is at the path
abbrev pub AreAway : Path → List Write → Type 0
AreAway path = AllByRecursion (λ x. path ≢ path_of x)

remove_there : (w : World) (path q : Path) → q ≢ path → held.get (held.remove w path) q ≡ held.get w q
remove_there w path q other =
    get-remove nat_list_cmp_total w path q ∙ ap (λ (b : Bool). cond b None (held.get w q)) (false_from_ne_true (eq_by_cmp path_cmp q path) (λ is. other (same_path q path is)))

pub one_away : (x : Write) (u v : World) (q : Path) → write_made x u ≡ (Ok tt, v) → q ≢ path_of x → held.get v q ≡ held.get u q
unfolding write_made
one_away (Put path bytes) u v q e other = ap (λ (w : World). held.get w q) (was_put path bytes u v e) ∙ put_there u path bytes q other
one_away (Remove path) u v q e other = ap (λ (w : World). held.get w q) (sym (same_world e)) ∙ remove_there u path q other

pub writes_away : (xs : List Write) (u v : World) (q : Path) → writes_made xs u ≡ (Ok tt, v) → AreAway q xs → held.get v q ≡ held.get u q
unfolding writes_made
writes_away [] u v q e away = ap (λ (w : World). held.get w q) (sym (same_world e))
writes_away (x ∷ xs) u v q e away =
    let one = bound (write_made x) (λ _. writes_made xs) u tt v e in
    writes_away xs one.between v q one.then away.1 ∙ one_away x u one.between q one.first away.0

-- a file that is put, and no more written
pub writes_here : (front back : List Write) (path bytes : Text) (u v : World) → writes_made (front ++ Put path bytes ∷ back) u ≡ (Ok tt, v)
    → AreAway path back → held.get v path ≡ Some bytes
unfolding writes_made write_made
writes_here [] back path bytes u v e away =
    let one = bound (put_in path bytes) (λ _. writes_made back) u tt v e in
    writes_away back one.between v path one.then away ∙ ap (λ (w : World). held.get w path) (was_put path bytes u one.between one.first) ∙ put_here u path bytes
writes_here (x ∷ front) back path bytes u v e away =
    let one = bound (write_made x) (λ _. writes_made (front ++ Put path bytes ∷ back)) u tt v e in
    writes_here front back path bytes one.between v one.then away

-- ---- index and files

-- what the switch of index and files wrote
pub record HasSwitched (index : List IndexEntry) (m : Entries) (u v : World) : Type 0 where
  pub blobs : List Write
  pub are_blobs : blob_writes u (filter (is_rewritten index) m) ≡ Ok blobs
  pub made : writes_made (removals index m ++ index_write m ∷ blobs) u ≡ (Ok tt, v)

pub switched_is : (index : List IndexEntry) (m : Entries) (u v : World) → switched_clear index m u ≡ (Ok tt, v) → HasSwitched index m u v
unfolding switched_clear
switched_is index m u v e =
    let one = bound (looks (λ w. clear_writes w index m)) writes_made u tt v e in
    let read = looked_at (clear_writes u index m) u one.given one.between one.first in
    let clear = clear_is u index m one.given read.0 in
    let there : writes_made one.given u ≡ (Ok tt, v) = ap (writes_made one.given) read.1 ∙ one.then in
    record { blobs = clear.0; are_blobs = clear.1; made = subst (λ (xs : List Write). writes_made xs u ≡ (Ok tt, v)) clear.2 there }

-- trees, index, files and message, one after the other
pub record HasMade (index : List IndexEntry) (m : Entries) (message : Text) (u : World) (tree : Id) (v : World) : Type 0 where
  pub with_trees : World
  pub with_files : World
  pub trees : HasTrees m u tree with_trees
  pub switched : HasSwitched index m with_trees with_files
  pub message_is : v ≡ held.insert with_files message_path message

clear_to_is : (index : List IndexEntry) (m : Entries) (message : Text) (u : World) (tree : Id) (v : World)
    → switched_clear_to index m message u ≡ (Ok tree, v) → HasMade index m message u tree v
unfolding switched_clear_to
clear_to_is index m message u tree v e =
    let one = bound (saying denied_git (trees_put m)) (λ x. saying denied_file (switched_clear index m) >>= λ _. saying denied_git (put_in message_path message) >>= λ _. gives x) u tree v e in
    let two = bound (saying denied_file (switched_clear index m)) (λ _. saying denied_git (put_in message_path message) >>= λ _. gives one.given) one.between tree v one.then in
    let three = bound (saying denied_git (put_in message_path message)) (λ _. gives one.given) two.between tree v two.then in
    let trees = trees_put_is m u one.given one.between (said denied_git (trees_put m) u one.given one.between one.first) in
    let files = switched_is index m one.between two.between (said denied_file (switched_clear index m) one.between tt two.between two.first) in
    let text = was_put message_path message two.between three.between (said denied_git (put_in message_path message) two.between tt three.between three.first) in
    let same = both_are {E = Denial} one.given tree three.between v three.then in
    subst (λ (t : Id × World). HasMade index m message u t.0 t.1) same (record { with_trees = one.between; with_files = two.between; trees = trees; switched = files; message_is = text })

pub made_is : (index : List IndexEntry) (ours m : Entries) (message : Text) (u : World) (tree : Id) (v : World)
    → switched_to index ours m message u ≡ (Ok tree, v) → HasMade index m message u tree v
unfolding switched_to
made_is index ours m message u tree v e =
    let one = bound (looked (can_have ours m)) (λ _. looks (λ w. refuse_found (first_obstructed w index m) WouldOverwrite) >>= λ _. switched_clear_to index m message) u tree v e in
    let same = (looked_at (can_have ours m) u one.given one.between one.first).1 in
    let two = bound (looks (λ w. refuse_found (first_obstructed w index m) WouldOverwrite)) (λ _. switched_clear_to index m message) one.between tree v one.then in
    let again = (looked_at (refuse_found (first_obstructed one.between index m) WouldOverwrite) one.between two.given two.between two.first).1 in
    clear_to_is index m message u tree v (ap (switched_clear_to index m message) (same ∙ again) ∙ two.then)

-- a map that was made is not too large for an index
pub few_made : (index : List IndexEntry) (ours m : Entries) (message : Text) (u : World) (tree : Id) (v : World)
    → switched_to index ours m message u ≡ (Ok tree, v) → length m < 2 ^ 32
unfolding switched_to can_have
few_made index ours m message u tree v e =
    let one = bound (looked (can_have ours m)) (λ _. looks (λ w. refuse_found (first_obstructed w index m) WouldOverwrite) >>= λ _. switched_clear_to index m message) u tree v e in
    at (nat_lt index_limit (length m)) refl (looked_at (can_have ours m) u one.given one.between one.first).0
  where
    at : (b : Bool) → nat_lt index_limit (length m) ≡ b
        → cond {A = Result (Unit {0}) Denial} b (Err (Limit IndexEntries (length m))) (cond (is_none (staged (indexed m) ours)) (Err (Refused NotBuilt)) (Ok tt)) ≡ Ok tt
        → length m < 2 ^ 32
    at true is e = absurd cc
    at false is e = let low : length m ≤ index_limit = grind (arith, nat_tests) in omega arith
