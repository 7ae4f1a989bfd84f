-- What a stopped rebase, cherry-pick or revert keeps in `.git` (git-rebase(1), git-cherry-pick(1), gitrevisions(7)).
use Rattle.std.specs.Prelude.{Bool, not, ◌||◌, List, [], ◌∷◌, codes}
use Rattle.std.specs.FinMap as map
use Rattle.std.specs.List.{list_any}
use Rattle.std.specs.Str.{bytes_eq}
use Rattle.seq_base.specs.Words.{Path}
use Rattle.seq_base.specs.World.{World, is_below}

-- the folders of the state files, and that of the labels, which a `label` line makes
abbrev pub state_folders : List Path
state_folders = codes ".git/rebase-merge" ∷ codes ".git/sequencer" ∷ codes ".git/refs/rewritten" ∷ []

-- the pending message, and the commits that a stop tells of
abbrev pub state_heads : List Path
state_heads =
    codes ".git/MERGE_MSG" ∷ codes ".git/MERGE_HEAD" ∷ codes ".git/REBASE_HEAD" ∷ codes ".git/CHERRY_PICK_HEAD"
    ∷ codes ".git/REVERT_HEAD" ∷ []

-- a file of a stopped command
abbrev pub is_state_path : Path → Bool
is_state_path path = list_any (λ folder. is_below folder path) state_folders || list_any (λ head. bytes_eq head path) state_heads

-- a file that a merge driver is handed (gitattributes(5), "Defining a custom merge driver")
abbrev pub is_driver_path : Path → Bool
is_driver_path path = is_below (codes ".git/merge-driver") path

-- a file that is neither
abbrev pub is_rest_path : Path → Bool
is_rest_path path = not (is_state_path path || is_driver_path path)

-- a world without the files of a stopped command and of merge drivers
abbrev pub rest : World → World
rest w = map.retain_keys w is_rest_path
