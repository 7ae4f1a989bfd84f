-- Putting one tree, and putting trees one after another.
use Rattle.std.proofs.Common.{◌≡◌, ℕ, ◌≤◌, Bool, true, false, cond, nat_lt, List, [], ◌∷◌, ◌++◌, length, map, Option, Some, None, Result, Ok, Err, refl, ap, ◌∙◌, arith}
use Rattle.std.specs.Prelude.{if◌then◌else◌}
use Rattle.std.specs.FinMap as held
use Rattle.std.specs.Str.{bytes_eq}
use Rattle.std.proofs.lemmas.Bool.Decides.{nat_tests}
use Rattle.seq_base.specs.Words.{Id, Path, Text}
use Rattle.seq_base.specs.World.{World, is_blocked}
use Rattle.seq_outside.specs.Halts.{stop_if}
use Rattle.seq_outside.specs.Turns.{◌>>=◌, gives, go_on, looked, looks, put_in}
use Rattle.seq_outside.specs.declared.halt.Halt.TheVariants.{Stops}
use Rattle.seq_outside.specs.declared.lack.Lack.{Lack}
use Rattle.seq_outside.specs.declared.lack.Lack.TheVariants.{Limit, Place, Way}
use Rattle.seq_outside.specs.declared.limit.LimitWhat.TheVariants.{ObjectBytes}
use Rattle.object_text.specs.declared.object.Object.{Object}
use Rattle.object_text.specs.Objects.{object_text}
use Rattle.object_text.specs.declared.tree.TreeEntry.{TreeEntry}
use Rattle.object_text.specs.Store.{content_limit, object_id, or_ended, put_all, put_at, put_object}
use Rattle.seq_base.specs.Repository.{object_path}
use Rattle.object_text.specs.TreeMaps.{PutFault, IsLarge, IsTaken, and_then, put_tree, put_trees, tree_object, unless_taken}
use Rattle.object_text.specs.Trees.{tree_text}
use Rattle.objects.specs.Puts.{HasPut as HasObjectPut, object_over, object_put}
use Rattle.objects.specs.declared.fault.ObjectFault.{ObjectFault}
use Rattle.objects.specs.declared.fault.ObjectFault.TheVariants as objects
use Rattle.objects.proofs.Putting.{object_is_not_put}
use Rattle.seq_outside.proofs.Turning.{same_answer, same_world}
use Rattle.path_trees.specs.Puts.{HasPut, each_put}
use Rattle.path_trees.specs.Faults.{put_fault_at}

-- ---- one tree

-- a tree that was not put
pub tree_not_put : (w : World) (tree : List TreeEntry) (fault : ObjectFault) (now : World) → HasObjectPut w (tree_object tree) (Err fault) now
    → HasPut (Err (put_fault_at fault)) (object_put (tree_object tree) w) now
tree_not_put w tree objects.Missing now is = absurd is
tree_not_put w tree (objects.TooLarge count) now is =
    object_is_not_put w (tree_object tree) (objects.TooLarge count) (Stops (Limit ObjectBytes count)) now is refl
tree_not_put w tree (objects.WrongHash id found) now is =
    object_is_not_put w (tree_object tree) (objects.WrongHash id found) (Stops (Place id)) now is refl
tree_not_put w tree (objects.BadText at) now is = absurd is
tree_not_put w tree (objects.Collision id kept) now is =
    object_is_not_put w (tree_object tree) (objects.Collision id kept) (Stops (Place id)) now is refl
tree_not_put w tree (objects.Blocked path) now is = object_is_not_put w (tree_object tree) (objects.Blocked path) (Stops (Way path)) now is refl
tree_not_put w tree objects.Fault now is = tt
tree_not_put w tree objects.Memory now is = tt

-- ---- trees

abbrev pub unit : Unit {0}
unit = tt

pub each_put-append : (front back : List (List TreeEntry)) (w : World) → each_put (front ++ back) w ≡ go_on (each_put front w) (λ put. each_put back)
unfolding each_put
each_put-append [] back w = refl
each_put-append (tree ∷ front) back w = by (object_put (tree_object tree) w) (λ next. each_put-append front back next)
  where
    by : (put : Result Id Lack × World) → ((next : World) → each_put (front ++ back) next ≡ go_on (each_put front next) (λ all. each_put back))
        → go_on put (λ id. each_put (front ++ back)) ≡ go_on (go_on put (λ id. each_put front)) (λ all. each_put back)
    by (Ok id, v) more = more v
    by (Err why, v) more = refl

pub each_put-none : (w : World) → each_put [] w ≡ (Ok unit, w)
unfolding each_put
each_put-none w = refl

pub each_put-one : (tree : List TreeEntry) (w : World) → each_put (tree ∷ []) w ≡ go_on (object_put (tree_object tree) w) (λ id. gives unit)
unfolding each_put
each_put-one tree w = refl

-- ---- as objects that are put

module _ (w : World) (tree : List TreeEntry) (id : Id) (now : World) where
  abbrev o : Object
  o = tree_object tree

  abbrev path : Path
  path = object_path (object_id o)

  abbrev text : Text
  text = object_text o

  free : (b : Bool) → go_on (if b then (Err (Way path), w) else (Ok unit, held.insert w path text)) (λ put. gives (object_id o)) ≡ (Ok id, now)
      → unless_taken (record { world = held.insert w path text; collision = None }) ≡ Ok now
  free true put = let never = same_answer put in absurd cc
  free false put = ap Ok (same_world put)

  same_text : (b : Bool) → looked (if b then Ok (object_id o) else Err (Place (object_id o))) w ≡ (Ok id, now)
      → unless_taken (record { world = w; collision = cond b None (Some (object_id o)) }) ≡ Ok now
  same_text true put = ap Ok (same_world put)
  same_text false put = let never = same_answer put in absurd cc

  over : (file : Option Text) → object_over o file w ≡ (Ok id, now) → unless_taken (put_at w (object_id o) path text file) ≡ Ok now
  unfolding put_in
  over None put = free (is_blocked w path) put
  over (Some kept) put = same_text (bytes_eq kept text) put

  by_size : (above : Bool)
      → go_on (looked (stop_if above (Limit ObjectBytes (length (tree_text tree)))) w) (λ small. looks (λ v. Ok (held.get v path)) >>= object_over o) ≡ (Ok id, now)
      → cond above (Err (IsLarge (length (tree_text tree)))) (unless_taken (put_at w (object_id o) path text (held.get w path))) ≡ Ok now
  by_size true put = let never = same_answer put in absurd cc
  by_size false put = over (held.get w path) put

  -- a tree that is put is not too large, and no other text stands in its file
  one_put : object_put (tree_object tree) w ≡ (Ok id, now) → put_tree w tree ≡ Ok now
  unfolding put_tree object_put put_object
  one_put put = by_size (nat_lt content_limit (length (tree_text tree))) put

pub each_was_put : (trees : List (List TreeEntry)) (w now : World) → each_put trees w ≡ (Ok unit, now) → put_trees w trees ≡ Ok now
unfolding each_put put_trees
each_was_put [] w now is = ap Ok (same_world is)
each_was_put (tree ∷ trees) w now is = by (object_put (tree_object tree) w) refl (λ next. each_was_put trees next now) is
  where
    by : (put : Result Id Lack × World) → object_put (tree_object tree) w ≡ put
        → ((next : World) → each_put trees next ≡ (Ok unit, now) → put_trees next trees ≡ Ok now) → go_on put (λ id. each_put trees) ≡ (Ok unit, now)
        → and_then (put_tree w tree) (λ next. put_trees next trees) ≡ Ok now
    by (Ok id, v) is more put = ap (λ (r : Result World PutFault). and_then r (λ next. put_trees next trees)) (one_put w tree id v is) ∙ more v put
    by (Err why, v) is more put = let never = same_answer put in absurd cc

-- ---- what was put

-- the tree was not too large, and no other text stood in its file
pub record WasPut (w : World) (tree : List TreeEntry) (now : World) : Type 0 where
  pub within : length (tree_text tree) ≤ content_limit
  pub free : (put_object w (tree_object tree)).collision ≡ None
  pub world : (put_object w (tree_object tree)).world ≡ now

pub was_put : (w : World) (tree : List TreeEntry) (now : World) → put_tree w tree ≡ Ok now → WasPut w tree now
unfolding put_tree
was_put w tree now is = by (nat_lt content_limit (length (tree_text tree))) refl is
  where
    at : (found : Option (List ℕ)) → (put_object w (tree_object tree)).collision ≡ found → length (tree_text tree) ≤ content_limit
        → elim found as (λ o. Result World PutFault) [ None ↦ Ok (put_object w (tree_object tree)).world | Some id ↦ Err (IsTaken id) ] ≡ Ok now → WasPut w tree now
    at None free within put = record { within = within; free = free; world = cc }
    at (Some id) free within put = absurd cc

    by : (above : Bool) → nat_lt content_limit (length (tree_text tree)) ≡ above
        → cond above (Err (IsLarge (length (tree_text tree)))) (unless_taken (put_object w (tree_object tree))) ≡ Ok now → WasPut w tree now
    by true above put = absurd cc
    by false above put =
        let within : length (tree_text tree) ≤ content_limit = grind (arith, nat_tests) in
        at (put_object w (tree_object tree)).collision refl within put

pub record WerePut (w : World) (tree : List TreeEntry) (trees : List (List TreeEntry)) (now : World) : Type 0 where
  pub next : World
  pub first : put_tree w tree ≡ Ok next
  pub others : put_trees next trees ≡ Ok now

pub were_put : (w : World) (tree : List TreeEntry) (trees : List (List TreeEntry)) (now : World) → put_trees w (tree ∷ trees) ≡ Ok now
    → WerePut w tree trees now
unfolding put_trees
were_put w tree trees now is = by (put_tree w tree) refl is
  where
    by : (put : Result World PutFault) → put_tree w tree ≡ put → and_then put (λ next. put_trees next trees) ≡ Ok now → WerePut w tree trees now
    by (Ok next) first others = record { next = next; first = first; others = others }
    by (Err fault) first others = absurd cc

-- so it is as if the objects of the trees were put
pub all_put : (w : World) (trees : List (List TreeEntry)) (now : World) → put_trees w trees ≡ Ok now
    → put_all w (map tree_object trees) ≡ record { world = now; collision = None }
unfolding put_all put_trees
all_put w [] now is = let same : w ≡ now = cc in ap (λ (v : World). record { world = v; collision = None }) same
all_put w (tree ∷ trees) now is =
    let put = were_put w tree trees now is in
    let first = was_put w tree put.next put.first in
    ap (λ (found : Option (List ℕ)). or_ended (put_object w (tree_object tree)) found (put_all (put_object w (tree_object tree)).world (map tree_object trees))) first.free
    ∙ (ap (λ (v : World). put_all v (map tree_object trees)) first.world ∙ all_put put.next trees now put.others)
