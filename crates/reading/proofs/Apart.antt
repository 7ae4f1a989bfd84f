-- Steps that look at no file of a list, one after another; and what is read of objects and of the index.
use Rattle.std.proofs.Common.{◌≡◌, ℕ, zero, suc, List, [], ◌∷◌, codes, Option, Some, None, Result, Ok, Err, refl, sym}
use Rattle.std.proofs.Math.Path.{fun_ext}
use Rattle.object_text.specs.Store.{object_at, oversize_at, tree_at}
use Rattle.object_text.specs.TreeMaps.{BadTree, MapFault, TooDeep, map_at, map_below}
use Rattle.objects.specs.Named.{commit_named, object_named}
use Rattle.path_trees.specs.Named.{commit_map, map_named, no_map}
use Rattle.seq_base.specs.PathMaps.{Entries}
use Rattle.seq_base.specs.Repository.{object_path}
use Rattle.seq_base.specs.Words.{Id}
use Rattle.seq_base.specs.World.{World}
use Rattle.seq_outside.specs.Doing.{◌>>=◌, Does, End, Goes, Starves, Stops, child_ends, child_in, go_on, looked, looks}
use Rattle.seq_outside.specs.Tape.{Ask, Coming, Ended}
use Rattle.seq_outside.specs.declared.child.Job.{Job}
use Rattle.reading.specs.Apart.{Alike, AsksAlike, EndsAlike, GoesApart, ReadsApart}
use Rattle.line_steps.specs.Finding.{Picked, base_at, ours_at, sides_at, theirs_at}
use Rattle.line_steps.specs.Heads.{index_found}

-- ---- what is read

module _ (a b : World) (alike : Alike a b) where
  object-apart : (id : Id) → object_at a id ≡ object_at b id
  unfolding object_at
  object-apart id = rw (alike (object_path id) refl) refl

  oversize-apart : (id : Id) → oversize_at a id ≡ oversize_at b id
  unfolding oversize_at
  oversize-apart id = rw (alike (object_path id) refl) refl

  named-apart : (id : Id) → object_named a id ≡ object_named b id
  unfolding object_named
  named-apart id = rw (object-apart id, oversize-apart id) refl

  pub commit-apart : (id : Id) → commit_named a id ≡ commit_named b id
  unfolding commit_named
  commit-apart id = rw (named-apart id) refl

  tree-apart : (id : Id) → tree_at a id ≡ tree_at b id
  unfolding tree_at
  tree-apart id = rw (object-apart id) refl

  below-apart : (n : ℕ) (folder id : List ℕ) → map_below n a folder id ≡ map_below n b folder id
  unfolding map_below
  below-apart zero folder id = refl
  below-apart (suc n) folder id =
      let inside : map_below n a ≡ map_below n b = fun_ext (λ f. fun_ext (λ i. below-apart n f i)) in
      rw (inside, tree-apart id) refl

  map-apart : (id : Id) → map_at a id ≡ map_at b id
  unfolding map_at
  map-apart id = below-apart 256 [] id

  no_map-apart : (fault : MapFault) → no_map a fault ≡ no_map b fault
  no_map-apart (BadTree id) = rw (oversize-apart id) refl
  no_map-apart TooDeep = refl

  map_named-apart : (id : Id) → map_named a id ≡ map_named b id
  unfolding map_named
  map_named-apart id =
      let faults : no_map a ≡ no_map b = fun_ext no_map-apart in
      rw (faults, map-apart id) refl

  commit_map-apart : (id : Id) → commit_map a id ≡ commit_map b id
  unfolding commit_map
  commit_map-apart id =
      let maps : map_named a ≡ map_named b = fun_ext map_named-apart in
      rw (maps, commit-apart id) refl

  pub index-apart : index_found a ≡ index_found b
  unfolding index_found
  index-apart = rw (alike (codes ".git/index") refl) refl

  base-apart : (parent : Option Id) → base_at a parent ≡ base_at b parent
  base-apart None = refl
  base-apart (Some parent) = commit_map-apart parent

  theirs-apart : (pick : Picked) → theirs_at pick a ≡ theirs_at pick b
  unfolding theirs_at
  theirs-apart pick = rw (map_named-apart pick.commit.tree) refl

  sides-apart : (ours : Entries) (pick : Picked) → sides_at ours pick a ≡ sides_at ours pick b
  unfolding sides_at
  sides-apart ours pick = rw (base-apart pick.parent, theirs-apart pick) refl

  pub ours-apart : (tree : Id) → ours_at tree a ≡ ours_at tree b
  unfolding ours_at
  ours-apart tree = rw (map_named-apart tree) refl

-- commits, maps and the index are read without the files of a list
pub commits_apart : (id : Id) → ReadsApart (λ w. commit_named w id)
commits_apart id a b alike = commit-apart a b alike id

pub maps_apart : (id : Id) → ReadsApart (λ w. commit_map w id)
maps_apart id a b alike = commit_map-apart a b alike id

pub indices_apart : ReadsApart index_found
indices_apart a b alike = index-apart a b alike

pub all_sides_apart : (ours : Entries) (pick : Picked) → ReadsApart (sides_at ours pick)
all_sides_apart ours pick a b alike = sides-apart a b alike ours pick

-- ---- steps

module _ {P E X Y : Type 0} (next : X → Does P E Y) (nexts : (x : X) → GoesApart (next x))
    (a b : World) (alike : Alike a b) (place : P) (coming : Coming) where
  ends_apart : (end : End E X) (one other : List (List Ask) → List (List Ask)) → AsksAlike one other
      → EndsAlike (go_on end (record { world = a; place = place }) coming one next)
      (go_on end (record { world = b; place = place }) coming other next)
  ends_apart (Goes x) one other asked =
      let later = nexts x a b place coming alike in
      record {
        end = later.end;
        world = later.world;
        place = later.place;
        coming = later.coming;
        asked = λ more others are. asked _ _ (later.asked more others are);
      }
  ends_apart (Stops why) one other asked = record { end = refl; world = alike; place = refl; coming = refl; asked = asked }
  ends_apart Starves one other asked = record { end = refl; world = alike; place = refl; coming = refl; asked = asked }

-- one step behind another
pub then_apart : {P E X Y : Type 0} (first : Does P E X) (next : X → Does P E Y)
    → GoesApart first → ((x : X) → GoesApart (next x)) → GoesApart (first >>= next)
then_apart first next firsts nexts a b place coming alike =
    let one = first (record { world = a; place = place }) coming in
    let other = first (record { world = b; place = place }) coming in
    let here = firsts a b place coming alike in
    rw (sym here.end, sym here.place, sym here.coming)
    (ends_apart next nexts one.spot.world other.spot.world here.world one.spot.place one.coming one.end one.asked other.asked here.asked)

looked_apart : {P E X : Type 0} (found : Result X E) (a b : World) (place : P) (coming : Coming) → Alike a b
    → EndsAlike (looked {P = P} {E = E} {X = X} found (record { world = a; place = place }) coming)
    (looked {P = P} {E = E} {X = X} found (record { world = b; place = place }) coming)
looked_apart (Ok x) a b place coming alike = record { end = refl; world = alike; place = refl; coming = refl; asked = λ more others are. are }
looked_apart (Err why) a b place coming alike = record { end = refl; world = alike; place = refl; coming = refl; asked = λ more others are. are }

-- what is read apart
pub looks_apart : {P E X : Type 0} (read : World → Result X E) → ReadsApart read → GoesApart {P = P} (looks read)
looks_apart read reads a b place coming alike = rw (reads a b alike) (looked_apart (read b) a b place coming alike)

child_apart : {P E : Type 0} (job : Job) (children : List Ended) (a b : World) (place : P) (coming : Coming) → Alike a b
    → EndsAlike (child_in {P = P} {E = E} job children (record { world = a; place = place }) coming)
    (child_in {P = P} {E = E} job children (record { world = b; place = place }) coming)
child_apart job [] a b place coming alike =
    record { end = refl; world = alike; place = refl; coming = refl; asked = λ more others are. ((refl, alike, tt), are) }
child_apart job (e ∷ children) a b place coming alike =
    record { end = refl; world = λ path is. refl; place = refl; coming = refl; asked = λ more others are. ((refl, alike, tt), are) }

-- a child is handed in over the world, and leaves its own
pub children_apart : {P E : Type 0} (job : Job) → GoesApart {P = P} {E = E} (child_ends job)
children_apart job a b place coming alike = child_apart job coming.children a b place coming alike
