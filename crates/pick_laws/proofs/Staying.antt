-- What later steps of a pick leave of earlier ones.
use Rattle.std.proofs.Common.{◌≡◌, ◌<◌, ◌^◌, Bool, true, false, cond, List, [], ◌∷◌, ◌++◌, length, map, filter, Some, Ok, refl, sym, ap, subst, ◌∙◌, arith}
use Rattle.std.specs.Prelude.{codes, drop}
use Rattle.std.specs.FinMap as held
use Rattle.std.specs.List.{AllByRecursion}
use Rattle.hex.specs.Hex.{IsBytes}
use Rattle.index_file.specs.Index.{index_at, indexed}
use Rattle.index_file.specs.Spelling.{IsRow, index_text, no_stat}
use Rattle.index_file.specs.declared.entry.IndexEntry.{IndexEntry}
use Rattle.index_file.proofs.Whole.{index_again, text_spells}
use Rattle.object_text.specs.Kept.{ObjectsStay}
use Rattle.object_text.specs.TreeMaps.{map_at}
use Rattle.object_text.specs.declared.commit.Commit.{Commit as CommitFields}
use Rattle.object_text.proofs.ChainLaws.{map_stays}
use Rattle.path_trees.proofs.ReadBack.{written_back}
use Rattle.ref_text.specs.Refs.{head_name, log_path}
use Rattle.seq_base.specs.Ids.{HasIdWidth}
use Rattle.seq_base.specs.PathMaps.{IsPathMap}
use Rattle.seq_base.specs.Paths.{IsPath}
use Rattle.seq_base.specs.RefNames.{IsRefName}
use Rattle.ref_store.specs.Moves.{moved_name}
use Rattle.ref_text.specs.declared.head.Head.{Head}
use Rattle.seq_base.specs.Repository.{object_path}
use Rattle.seq_base.specs.Words.{Id, Path, Text}
use Rattle.seq_base.specs.World.{World}
use Rattle.seq_base.specs.declared.map.Entry.{Entry}
use Rattle.seq_base.specs.declared.mode.Mode.TheVariants.{Folder}
use Rattle.seq_model.specs.Making.{commit_object, message_path, pick_line}
use Rattle.seq_outside.specs.declared.write.Write.{Write}
use Rattle.seq_outside.specs.declared.write.Write.TheVariants.{Remove}
use Rattle.stage_index.specs.Stages.{Entries}
use Rattle.stage_index.specs.Switching.{index_write, is_dropped, is_rewritten, removals, removals_of}
use Rattle.stage_index.proofs.Indexing.{indexed_is_index}
use Rattle.worktree.specs.Writes.{blob_writes}
use Rattle.pick_laws.specs.Leaving.{ArePaths}
use Rattle.pick_laws.proofs.Turning.{put_there}
use Rattle.pick_laws.proofs.Putting.{IsMoved, IsStored, moved, stored}
use Rattle.pick_laws.proofs.Placing.{head_no_index, head_no_message, head_no_object, head_path, index_no_log, index_no_message, index_no_object, index_no_ref, index_path, message_no_object, object_no_log, object_no_ref, path_no_git}
use Rattle.pick_laws.proofs.Committing.{WithCommit}
use Rattle.pick_laws.proofs.Blobs.{no_blobs, one_blob}
use Rattle.pick_laws.proofs.Switching.{AreAway, HasMade, writes_away, writes_here}

-- ---- where the writes of a switch are

both_away : (q : Path) (xs ys : List Write) → AreAway q xs → AreAway q ys → AreAway q (xs ++ ys)
both_away q [] ys a b = b
both_away q (x ∷ xs) ys a b = (a.0, both_away q xs ys a.1 b)

removals_away : (rest : Path) (from : List IndexEntry) (m : Entries) (index : List IndexEntry) → AllByRecursion (λ e. IsPath e.path) index
    → AreAway (codes ".git/" ++ rest) (removals_of from m index)
removals_away rest from m [] paths = tt
removals_away rest from m (e ∷ index) paths = at (is_dropped from m e) (removals_away rest from m index paths.1)
  where
    at : (b : Bool) → AreAway (codes ".git/" ++ rest) (removals_of from m index)
        → AreAway (codes ".git/" ++ rest) (map (λ d. Remove d.path) (cond b (e ∷ filter (is_dropped from m) index) (filter (is_dropped from m) index)))
    at true others = (λ is. path_no_git e.path rest paths.0 (sym is), others)
    at false others = others

blobs_away : (rest : Path) (w : World) (rows : Entries) (blobs : List Write) → AllByRecursion (λ e. IsPath e.0) rows → blob_writes w rows ≡ Ok blobs
    → AreAway (codes ".git/" ++ rest) blobs
blobs_away rest w [] blobs paths is = subst (AreAway (codes ".git/" ++ rest)) (sym (no_blobs w blobs is)) tt
blobs_away rest w (e ∷ rows) blobs paths is =
    let one = one_blob w e rows blobs is in
    subst (AreAway (codes ".git/" ++ rest)) (sym one.all) (λ here. path_no_git e.0 rest paths.0 (sym here), blobs_away rest w rows one.others paths.1 one.more)

kept_paths : (test : Path × Entry → Bool) (m : Entries) → AllByRecursion (λ e. IsPath e.0) m → AllByRecursion (λ e. IsPath e.0) (filter test m)
kept_paths test [] paths = tt
kept_paths test (e ∷ m) paths = at (test e) (kept_paths test m paths.1)
  where
    at : (b : Bool) → AllByRecursion (λ d. IsPath d.0) (filter test m) → AllByRecursion (λ d. IsPath d.0) (cond b (e ∷ filter test m) (filter test m))
    at true others = (paths.0, others)
    at false others = others

-- ---- worlds of a pick, from its trees to its HEAD

module _ (on : Head) (head : Id) (c : CommitFields) (who : Text) (index : List IndexEntry) (m : Entries) (message : Text) (w : World) (tree id : Id) (u v : World)
    (name : IsRefName (moved_name on)) (paths : ArePaths index m) (made : HasMade index m message w tree u) (with : WithCommit on head c who u id v) where
  pub committed : IsStored (commit_object c) u id with.between
  committed = stored (commit_object c) u id with.between with.put

  pub at_head : IsMoved (moved_name on) id with.between v
  at_head = moved on id (pick_line head id who c.message) with.between v name with.move

  blobs_at : (rest : Path) → AreAway (codes ".git/" ++ rest) made.switched.blobs
  blobs_at rest =
      blobs_away rest made.with_trees (filter (is_rewritten index) m) made.switched.blobs (kept_paths (is_rewritten index) m paths.merged) made.switched.are_blobs

  object_switched : (i : Id) → held.get made.with_files (object_path i) ≡ held.get made.with_trees (object_path i)
  object_switched i =
      let rest : Path = drop 5 (object_path i) in
      let away : AreAway (object_path i) (removals index m ++ index_write m ∷ made.switched.blobs) = both_away (object_path i) (removals index m) (index_write m ∷ made.switched.blobs) (removals_away rest index m index paths.tracked) (λ is. index_no_object i (sym is), blobs_at rest) in
      writes_away (removals index m ++ index_write m ∷ made.switched.blobs) made.with_trees made.with_files (object_path i) made.switched.made away

  pub objects_stay : ObjectsStay made.with_trees v
  objects_stay i text there =
      let message : held.get u (object_path i) ≡ Some text = ap (λ (x : World). held.get x (object_path i)) made.message_is ∙ put_there made.with_files message_path message (object_path i) (λ is. message_no_object i (sym is)) ∙ object_switched i ∙ there in
      at_head.elsewhere (object_path i) (object_no_ref i (moved_name on) name) (object_no_log i (moved_name on)) (object_no_log i head_name) ∙ committed.stays (object_path i) text message

  pub head_stays : held.get with.between head_path ≡ held.get w head_path
  head_stays =
      let away : AreAway head_path (removals index m ++ index_write m ∷ made.switched.blobs) = both_away head_path (removals index m) (index_write m ∷ made.switched.blobs) (removals_away (codes "HEAD") index m index paths.tracked) (λ is. head_no_index is, blobs_at (codes "HEAD")) in
      committed.elsewhere head_path (head_no_object id) ∙ ap (λ (x : World). held.get x head_path) made.message_is ∙ put_there made.with_files message_path message head_path head_no_message
      ∙ writes_away (removals index m ++ index_write m ∷ made.switched.blobs) made.with_trees made.with_files head_path made.switched.made away
      ∙ made.trees.stored.elsewhere head_path (λ i. head_no_object i)

  pub tree_has : IsPathMap m → AllByRecursion (λ e. HasIdWidth e.1.id) m → map_at v tree ≡ Ok m
  tree_has is widths =
      let trees = made.trees in
      map_stays made.with_trees v tree m objects_stay (ap (map_at made.with_trees) trees.root ∙ written_back w made.with_trees m is paths.merged widths trees.deep trees.put)

  index_file : held.get v index_path ≡ Some (index_text (indexed m))
  index_file =
      at_head.elsewhere index_path (index_no_ref (moved_name on) name) (index_no_log (moved_name on)) (index_no_log head_name) ∙ committed.elsewhere index_path (index_no_object id)
      ∙ ap (λ (x : World). held.get x index_path) made.message_is ∙ put_there made.with_files message_path message index_path index_no_message
      ∙ writes_here (removals index m) made.switched.blobs index_path (index_text (indexed m)) made.with_trees made.with_files made.switched.made (blobs_at (codes "index"))

  pub index_has : IsPathMap m → length m < 2 ^ 32 → AllByRecursion (λ e. HasIdWidth e.1.id) m → AllByRecursion (λ e. IsBytes e.1.id) m
      → index_at v ≡ Ok (indexed m)
  index_has is few widths bytes =
      rw index_file (index_again (index_text (indexed m)) (indexed m) (text_spells (indexed m) (indexed_is_index m is few) (rows m is.files paths.merged widths bytes)))
    where
      rows : (es : Entries) → AllByRecursion (λ e. e.1.mode ≡ Folder → ⊥) es → AllByRecursion (λ e. IsPath e.0) es
          → AllByRecursion (λ e. HasIdWidth e.1.id) es → AllByRecursion (λ e. IsBytes e.1.id) es
          → AllByRecursion (λ e. IsRow (no_stat, e)) (indexed es)
      rows [] files paths widths bytes = tt
      rows (e ∷ es) files paths widths bytes = (
        record { stat = record { times = refl; owner = refl; assumed = omega arith }; staged = record { stage = omega arith; mode = files.0 }; path = paths.0; id = widths.0; bytes = bytes.0 },
        rows es files.1 paths.1 widths.1 bytes.1,
      )

  -- a path of the worktree is as the switch left it
  pub path_there : (q : Path) → IsPath q → held.get v q ≡ held.get made.with_files q
  path_there q is =
      at_head.elsewhere q (path_no_git q (moved_name on) is) (path_no_git q (drop 5 (log_path (moved_name on))) is) (path_no_git q (drop 5 (log_path head_name)) is) ∙ committed.elsewhere q (path_no_git q (drop 5 (object_path id)) is)
      ∙ ap (λ (x : World). held.get x q) made.message_is ∙ put_there made.with_files message_path message q (path_no_git q (codes "COMMIT_EDITMSG") is)
