-- What a stop writes, and what is removed at the end of a list: writes as data (git-rebase(1), `--continue` and `--quit`).
use Rattle.std.specs.Prelude.{◌≡◌, ℕ, ◌<◌, Bool, not, ◌&&◌, if◌then◌else◌, List, [], ◌∷◌, ◌++◌, length, map, take, filter, Option, Some, None}
use Rattle.std.specs.FinMap as files
use Rattle.std.specs.List.{list_any}
use Rattle.std.specs.Ordering.{eq_by_cmp}
use Rattle.seq_base.specs.Words.{Path, Text}
use Rattle.seq_base.specs.World.{World, path_cmp}
use Rattle.seq_outside.specs.declared.write.Write.{Write}
use Rattle.seq_outside.specs.declared.write.Write.TheVariants.{Put, Remove}
use Rattle.seq_outside.specs.Writes.{written}
use Rattle.state_text.specs.declared.state_file.StateFile.TheVariants as file
use Rattle.state_text.specs.declared.verb.Verb.{Verb}
use Rattle.state_text.specs.declared.verb.Verb.TheVariants.{Rebase, CherryPick, Revert}
use Rattle.state_text.specs.Places.{in_step_path, state_path}

abbrev pub is_path : Path → Path → Bool
is_path a b = eq_by_cmp path_cmp a b

abbrev pub is_listed : List Path → Path → Bool
is_listed paths path = list_any (is_path path) paths

abbrev pub has_file : List (Path × Text) → Path → Bool
has_file all path = list_any (λ (f : Path × Text). is_path path f.0) all

abbrev pub put_all : List (Path × Text) → List Write
put_all all = map (λ (f : Path × Text). Put f.0 f.1) all

abbrev pub remove_all : List Path → List Write
remove_all paths = map (λ (path : Path). Remove path) paths

-- ---- a stop

-- a file that an earlier stop left, and this one has not
abbrev pub is_stale : Verb → List (Path × Text) → Path → Bool
is_stale verb all path = not (has_file all path) && not (is_path path (in_step_path verb))

-- the files of the stop, those that it has no longer, and `in-step` last
abbrev pub stop_writes : Verb → List (Path × Text) → List Path → List Write
stop_writes verb all found =
    put_all all ++ remove_all (filter (is_stale verb all) found) ++ Remove (in_step_path verb) ∷ []

-- what the files say of a path, the last one that has it; else what was there
abbrev pub said_by : Option Text → List (Path × Text) → Path → Option Text
said_by before [] path = before
said_by before (f ∷ all) path = said_by (if is_path path f.0 then Some f.1 else before) all path

-- what stands behind a stop: its files, of the others those that were not found, and no `in-step`
abbrev pub behind_stop : Verb → List (Path × Text) → List Path → World → Path → Option Text
behind_stop verb all found w path =
    if is_path path (in_step_path verb) then None
    else if is_listed (filter (is_stale verb all) found) path then None
    else said_by (files.get w path) all path

-- ---- the end

-- what tells where the branch was: it goes last, the name behind the place
abbrev pub last_paths : Verb → List Path
last_paths Rebase = state_path Rebase file.OrigHead ∷ state_path Rebase file.HeadName ∷ []
last_paths CherryPick = state_path CherryPick file.Head ∷ []
last_paths Revert = state_path Revert file.Head ∷ []

abbrev pub goes_early : Verb → Path → Bool
goes_early verb path = not (is_listed (last_paths verb) path) && not (is_path path (in_step_path verb))

-- all that was found is removed, and `in-step` last
abbrev pub end_writes : Verb → List Path → List Write
end_writes verb found = remove_all (filter (goes_early verb) found) ++ remove_all (last_paths verb) ++ Remove (in_step_path verb) ∷ []

abbrev pub behind_end : Verb → List Path → World → Path → Option Text
behind_end verb found w path =
    if is_path path (in_step_path verb) then None
    else if is_listed (last_paths verb) path then None
    else if is_listed found path then None
    else files.get w path

-- ---- what stands before all writes are made

-- `in-step` stands as it did until the last write
abbrev pub KeepsInStep : Verb → List Write → World → Type 0
KeepsInStep verb writes w =
    (n : ℕ) → n < length writes → files.get (written w (take n writes)) (in_step_path verb) ≡ files.get w (in_step_path verb)
