-- The files stand as the index says.
use Rattle.std.proofs.Common.{◌≡◌, Bool, true, false, not, List, [], ◌∷◌, Option, None, refl, ap, ◌∙◌}
use Rattle.std.specs.Prelude.{codes, drop, is_none}
use Rattle.std.specs.FinMap as held
use Rattle.std.specs.List.{AllByRecursion}
use Rattle.std.proofs.lemmas.Slice.Eq.{bytes_eq-Decides}
use Rattle.index_file.specs.Entries.{IsInOrder}
use Rattle.index_file.specs.Index.{indexed}
use Rattle.index_file.specs.declared.entry.IndexEntry.{IndexEntry}
use Rattle.object_text.specs.declared.commit.Commit.{Commit as CommitFields}
use Rattle.seq_base.specs.PathMaps.{IsPathMap, entry_at}
use Rattle.seq_base.specs.Paths.{IsPath}
use Rattle.seq_base.specs.RefNames.{IsRefName}
use Rattle.ref_store.specs.Moves.{moved_name}
use Rattle.ref_text.specs.declared.head.Head.{Head}
use Rattle.seq_base.specs.Repository.{object_path}
use Rattle.seq_base.specs.Words.{Id, Path, Text}
use Rattle.seq_base.specs.World.{World}
use Rattle.seq_base.specs.declared.map.Entry.{Entry}
use Rattle.stage_index.specs.Changes.{blob_id, changed, has_blob, is_changed, is_gitlink}
use Rattle.stage_index.specs.Stages.{Entries}
use Rattle.stage_index.specs.Switching.{index_write, is_kept, is_rewritten, removals}
use Rattle.worktree.specs.Switches.{write_made, writes_made}
use Rattle.pick_laws.specs.Leaving.{ArePaths}
use Rattle.pick_laws.proofs.Turning.{Bound, bound}
use Rattle.pick_laws.proofs.Committing.{WithCommit}
use Rattle.pick_laws.proofs.Placing.{path_no_git}
use Rattle.pick_laws.proofs.Switching.{HasMade, one_away, writes_away}
use Rattle.pick_laws.proofs.Files.{FileIs, Halfway, files_are, halfway}
use Rattle.pick_laws.proofs.BlobIds.{blob_has_id}
use Rattle.pick_laws.proofs.Unstaged.{all_there, each_unchanged, first_fails, kept_blob, none_changed, not_false, not_removed, unchanged}
use Rattle.pick_laws.proofs.Staying.{path_there}

-- the file of a row that is no submodule has its blob
row_has : (w trees mid files v : World) (index : List IndexEntry) (e : Path × Entry) → AllByRecursion (λ d. is_changed w d ≡ false) index
    → held.get v e.0 ≡ held.get files e.0 → held.get mid e.0 ≡ held.get w e.0
    → FileIs trees mid files (is_rewritten index) e → is_gitlink e.1.mode ≡ false → has_blob (held.get v e.0) e.1.id ≡ true
row_has w trees mid files v index e clean end begin is file = at (is_rewritten index e) refl
  where
    at : (b : Bool) → is_rewritten index e ≡ b → has_blob (held.get v e.0) e.1.id ≡ true
    at true on =
        let put = is.written on in
        ap (λ (o : Option Text). has_blob o e.1.id) (end ∙ put.2) ∙ (bytes_eq-Decides (blob_id put.0) e.1.id).1 (blob_has_id trees e.1.id put.0 put.1)
    at false off =
        let same = end ∙ is.kept off ∙ begin in
        let kept : is_kept index e ≡ true = not_false (is_kept index e) (first_fails (not (is_kept index e)) (not (is_gitlink e.1.mode)) off (ap not file)) in
        ap (λ (o : Option Text). has_blob o e.1.id) same ∙ kept_blob w index e clean kept file

module _ (on : Head) (head : Id) (c : CommitFields) (who : Text) (index : List IndexEntry) (m : Entries) (message : Text) (w : World) (tree id : Id) (u v : World)
    (name : IsRefName (moved_name on)) (paths : ArePaths index m) (made : HasMade index m message w tree u) (with : WithCommit on head c who u id v) where
  half : Halfway (removals index m) (index_write m ∷ made.switched.blobs) made.with_trees made.with_files
  half = halfway (removals index m) (index_write m ∷ made.switched.blobs) made.with_trees made.with_files made.switched.made

  step : Bound (write_made (index_write m)) (λ _. writes_made made.switched.blobs) half.mid tt made.with_files
  unfolding writes_made
  step = bound (write_made (index_write m)) (λ _. writes_made made.switched.blobs) half.mid tt made.with_files half.then

  before : (q : Path) → IsPath q → is_none (entry_at m q) ≡ false → held.get step.between q ≡ held.get w q
  before q is there =
      one_away (index_write m) half.mid step.between q step.first (path_no_git q (codes "index") is) ∙ writes_away (removals index m) made.with_trees half.mid q half.first (not_removed q index m index there)
      ∙ made.trees.stored.elsewhere q (λ i. path_no_git q (drop 5 (object_path i)) is)

  rows_unchanged : AllByRecursion (λ d. is_changed w d ≡ false) index → (rows : Entries) → AllByRecursion (λ e. IsPath e.0) rows
      → AllByRecursion (λ e. is_none (entry_at m e.0) ≡ false) rows
      → AllByRecursion (FileIs made.with_trees step.between made.with_files (is_rewritten index)) rows → AllByRecursion (λ e. is_changed v e ≡ false) (indexed rows)
  rows_unchanged clean [] are there files = tt
  rows_unchanged clean (e ∷ rows) are there files = (
    unchanged v (record { path = e.0; stage = 0; mode = e.1.mode; id = e.1.id })
        (row_has w made.with_trees step.between made.with_files v index e clean (path_there on head c who index m message w tree id u v name paths made with e.0 are.0) (before e.0 are.0 there.0) files.0),
    rows_unchanged clean rows are.1 there.1 files.1,
  )

  pub nothing_unstaged : IsPathMap m → IsInOrder index → changed w index ≡ None → changed v (indexed m) ≡ None
  nothing_unstaged is order none =
      none_changed v (indexed m)
      (rows_unchanged (each_unchanged w index order none) m paths.merged (all_there m)
      (files_are made.with_trees step.between made.with_files (is_rewritten index) m made.switched.blobs is.ascending made.switched.are_blobs step.then))
