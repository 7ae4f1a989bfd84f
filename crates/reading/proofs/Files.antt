-- The files of a list in a world.
use Rattle.std.proofs.Common.{◌≡◌, Bool, true, false, cond, not, List, [], ◌∷◌, ◌++◌, Option, None, refl, sym, ap, ◌∙◌}
use Rattle.std.specs.Cmp.Lexicographic.{nat_list_cmp_total}
use Rattle.std.specs.FinMap as map
use Rattle.std.specs.FinMap.{get-insert, get-retain_keys, nat_cmp-IsAntisymmetric, slice_cmp-IsAntisymmetric}
use Rattle.ref_store.specs.Values.{packed_at}
use Rattle.seq_base.specs.StatePaths.{is_state_path}
use Rattle.seq_base.specs.Words.{Path, Text}
use Rattle.seq_base.specs.World.{World}
use Rattle.state_text.specs.States.{state_files}
use Rattle.state_text.specs.Stops.{said_by}
use Rattle.reading.specs.Laws.{FilesAreKept, NoneIsLeft}
use Rattle.reading.specs.State.{chain_files, chain_items, is_list_file, with_files, with_state, without_labels, without_state}

-- what a world has at a path, where only some paths are kept
kept_at : (w : World) (keeps : Path → Bool) (path : Path) → map.get (map.retain_keys w keeps) path ≡ cond (keeps path) (map.get w path) None
kept_at w keeps path =
    get-retain_keys w keeps path (λ other same. ap keeps (sym (slice_cmp-IsAntisymmetric nat_cmp-IsAntisymmetric path other same)))

-- files that are written, one after another
files_say : (fs : List (Path × Text)) (w : World) (path : Path) → map.get (with_files fs w) path ≡ said_by (map.get w path) fs path
files_say [] w path = refl
files_say (f ∷ fs) w path =
    files_say fs (map.insert w f.0 f.1) path ∙ ap (λ (before : Option Text). said_by before fs path) (get-insert nat_list_cmp_total w f.0 f.1 path)

-- what is not kept is none
unless : (test : Bool) (found : Option Text) → cond (not test) found None ≡ cond test None found
unless true found = refl
unless false found = refl

pub files_are_kept : FilesAreKept
unfolding with_state
files_are_kept k w path =
    let all = state_files k ++ chain_files (chain_items w k.chain) in
    let keeps : Path → Bool = λ other. not (is_list_file other) in
    files_say all (map.retain_keys w keeps) path
    ∙ ap (λ (before : Option Text). said_by before all path) (kept_at w keeps path ∙ unless (is_list_file path) (map.get w path))

pub none_is_left : NoneIsLeft
unfolding without_state
none_is_left w path is =
    let left = without_labels (packed_at w) w in
    kept_at left (λ other. not (is_state_path other)) path ∙ ap (λ (there : Bool). cond (not there) (map.get left path) None) is
