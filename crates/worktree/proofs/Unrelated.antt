-- Paths that neither an index nor a map has, when files are switched from the one to the other.
use Rattle.std.proofs.Common.{◌≡◌, inl, inr, Bool, true, false, cond, List, [], ◌∷◌, ◌++◌, take, Some, None, Result, Ok, Err, refl, sym, ap, ◌∙◌}
use Rattle.std.specs.Prelude.{codes, filter, map}
use Rattle.std.specs.FinMap as file
use Rattle.std.specs.Ordering.{eq_by_cmp}
use Rattle.std.specs.Str.{bytes_eq}
use Rattle.std.proofs.lemmas.Bool.{both_ways, false_from_ne_true, or_from, or_parts}
use Rattle.std.proofs.lemmas.Slice.Eq.{bytes_eq-Decides}
use Rattle.seq_base.specs.PathMaps.{entry_at}
use Rattle.seq_base.specs.Words.{Path, Text}
use Rattle.seq_base.specs.World.{World, path_cmp}
use Rattle.seq_base.specs.declared.map.Entry.{Entry}
use Rattle.seq_base.proofs.Shape.{same_path}
use Rattle.seq_outside.specs.Halts.{◌>>=◌}
use Rattle.seq_outside.specs.declared.lack.Lack.{Lack}
use Rattle.seq_outside.specs.declared.write.Write.{Write}
use Rattle.seq_outside.specs.declared.write.Write.TheVariants.{Put, Remove}
use Rattle.seq_outside.specs.Writes.{is_written}
use Rattle.seq_outside.proofs.Drafts.{written_elsewhere}
use Rattle.seq_outside.proofs.ObjectsFirst.{named-append, unwritten_taken}
use Rattle.index_file.specs.declared.entry.IndexEntry.{IndexEntry}
use Rattle.stage_index.specs.Stages.{Entries}
use Rattle.stage_index.specs.Switching.{index_write, is_dropped, is_rewritten, is_tracked, removals, removals_of}
use Rattle.worktree.specs.Blobs.{blob_named}
use Rattle.worktree.specs.Own.{IsUnrelated, UnrelatedStay}
use Rattle.worktree.specs.Switches.{IsSwitchFront}
use Rattle.worktree.specs.Writes.{blob_writes, clear_writes}

-- bytes that are not equal are not one path
apart : (path other : Path) → bytes_eq other path ≡ false → eq_by_cmp path_cmp path other ≡ false
apart path other is =
    false_from_ne_true (eq_by_cmp path_cmp path other) (λ same. both_ways (bytes_eq other path) is ((bytes_eq-Decides other path).1 (sym (same_path path other same))))

removals_none : (from : List IndexEntry) (to : Entries) (es : List IndexEntry) (path : Path) → is_tracked es path ≡ false
    → is_written (removals_of from to es) path ≡ false
removals_none from to [] path none = refl
removals_none from to (e ∷ es) path none =
    let both = or_parts (bytes_eq e.path path) (is_tracked es path) none in at both.0 (is_dropped from to e) (removals_none from to es path both.1)
  where
    at : bytes_eq e.path path ≡ false → (b : Bool) → is_written (removals_of from to es) path ≡ false
        → is_written (map (λ d. Remove d.path) (cond b (e ∷ filter (is_dropped from to) es) (filter (is_dropped from to) es))) path ≡ false
    at here true later = or_from (eq_by_cmp path_cmp path e.path) (is_written (removals_of from to es) path) (apart path e.path here) later
    at here false later = later

-- what is chosen of a map that lacks a path lacks it too
chosen_lacks : (test : Path × Entry → Bool) (to : Entries) (path : Path) → entry_at to path ≡ None → entry_at (filter test to) path ≡ None
chosen_lacks test [] path none = refl
chosen_lacks test (e ∷ to) path none = at (bytes_eq e.0 path) refl none (chosen_lacks test to path)
  where
    at : (b : Bool) → bytes_eq e.0 path ≡ b → cond b (Some e.1) (entry_at to path) ≡ None
        → (entry_at to path ≡ None → entry_at (filter test to) path ≡ None)
        → entry_at (cond (test e) (e ∷ filter test to) (filter test to)) path ≡ None
    at true same none later = absurd cc
    at false other none later = by (test e) (later none)
      where
        by : (t : Bool) → entry_at (filter test to) path ≡ None → entry_at (cond t (e ∷ filter test to) (filter test to)) path ≡ None
        by true rest = rw other rest
        by false rest = rest

blobs_none : (w : World) (rows : Entries) (blobs : List Write) (path : Path) → entry_at rows path ≡ None → blob_writes w rows ≡ Ok blobs
    → is_written blobs path ≡ false
unfolding blob_writes
blobs_none w [] blobs path none is = let same : [] ≡ blobs = cc in ap (λ (ws : List Write). is_written ws path) (sym same)
blobs_none w (e ∷ rows) blobs path none is =
    by (bytes_eq e.0 path) refl none (blob_named w e.1.id) (blob_writes w rows) is (λ others. blobs_none w rows others path)
  where
    by : (b : Bool) → bytes_eq e.0 path ≡ b → cond b (Some e.1) (entry_at rows path) ≡ None → (r : Result Text Lack) (s : Result (List Write) Lack)
        → (r >>= λ bytes. (s >>= λ others. Ok (Put e.0 bytes ∷ others))) ≡ Ok blobs
        → ((others : List Write) → entry_at rows path ≡ None → s ≡ Ok others → is_written others path ≡ false) → is_written blobs path ≡ false
    by true same none r s is later = absurd cc
    by false other none (Err why) s is later = absurd cc
    by false other none (Ok bytes) (Err why) is later = absurd cc
    by false other none (Ok bytes) (Ok others) is later =
        let all : Put e.0 bytes ∷ others ≡ blobs = cc in
        ap (λ (ws : List Write). is_written ws path) (sym all) ∙ or_from (eq_by_cmp path_cmp path e.0) (is_written others path) (apart path e.0 other) (later others none refl)

writes_none : (w : World) (from : List IndexEntry) (to : Entries) (writes : List Write) (path : Path) → IsUnrelated from to path
    → clear_writes w from to ≡ Ok writes → is_written writes path ≡ false
unfolding clear_writes
writes_none w from to writes path is made = at (blob_writes w (filter (is_rewritten from) to)) refl made
  where
    at : (r : Result (List Write) Lack) → blob_writes w (filter (is_rewritten from) to) ≡ r
        → (r >>= λ blobs. Ok (removals from to ++ index_write to ∷ blobs)) ≡ Ok writes → is_written writes path ≡ false
    at (Err why) read made = absurd cc
    at (Ok blobs) read made =
        let all : removals from to ++ index_write to ∷ blobs ≡ writes = cc in
        let index = false_from_ne_true (eq_by_cmp path_cmp path (codes ".git/index")) (λ same. is.index (same_path path (codes ".git/index") same)) in
        let blobs_lack = blobs_none w (filter (is_rewritten from) to) blobs path (chosen_lacks (is_rewritten from) to path is.mapped) read in
        ap (λ (ws : List Write). is_written ws path) (sym all)
        ∙ named-append (removals from to) (index_write to ∷ blobs) path (removals_none from to from path is.tracked)
        (or_from (eq_by_cmp path_cmp path (codes ".git/index")) (is_written blobs path) index blobs_lack)

-- whatever ends a switch
pub unrelated_stay : (from : List IndexEntry) (to : Entries) (old new : World) → IsSwitchFront from to old new → UnrelatedStay from to old new
unrelated_stay from to old new (inl same) path is = ap (λ (w : World). file.get w path) same
unrelated_stay from to old new (inr (writes, made, front)) path is =
    ap (λ (w : World). file.get w path) front.is ∙ written_elsewhere old (take front.made writes) path (unwritten_taken front.made writes path (writes_none old from to writes path is made))
