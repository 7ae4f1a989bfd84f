-- A repository: a world in which all that gitseq keeps in `.git` has its place (gitrepository-layout(5), git-rebase(1)).
use Rattle.std.specs.Prelude.{◌≡◌, ℕ, Bool, true, false, not, nat_lt, ◌||◌, ◌&&◌, ◌==◌, List, [], ◌∷◌, ◌++◌, length, take, drop, slice_index, codes}
use Rattle.std.specs.FinMap as map
use Rattle.std.specs.List.{list_all, list_any, before_first, after_first}
use Rattle.std.specs.Str.{bytes_eq}
use Rattle.hex.specs.Hex.{encode_lower, lower_digits}
use Rattle.seq_base.specs.Words.{Id, Name, Path, Text}
use Rattle.seq_base.specs.Paths.{parts}
use Rattle.seq_base.specs.World.{World, IsWorld, is_below}

abbrev pub is_among : List Name → Name → Bool
is_among names name = list_any (λ n. bytes_eq n name) names

-- the files of `.git` itself
abbrev pub git_files : List Name
git_files =
    codes "HEAD" ∷ codes "ORIG_HEAD" ∷ codes "index" ∷ codes "config" ∷ codes "packed-refs" ∷ codes "COMMIT_EDITMSG"
    ∷ codes "MERGE_MSG" ∷ codes "MERGE_HEAD" ∷ codes "REBASE_HEAD" ∷ codes "CHERRY_PICK_HEAD" ∷ codes "REVERT_HEAD" ∷ []

-- the state files of a rebase
abbrev pub rebase_files : List Name
rebase_files =
    codes "in-step" ∷ codes "head-name" ∷ codes "orig-head" ∷ codes "onto" ∷ codes "interactive" ∷ codes "git-rebase-todo"
    ∷ codes "git-rebase-todo.backup" ∷ codes "done" ∷ codes "msgnum" ∷ codes "end" ∷ codes "message" ∷ codes "author-script"
    ∷ codes "amend" ∷ codes "stopped-sha" ∷ codes "current-fixups" ∷ codes "message-squash" ∷ codes "message-fixup"
    ∷ codes "rewritten-list" ∷ codes "rewritten-pending" ∷ codes "refs-to-delete" ∷ codes "update-refs" ∷ codes "control" ∷ []

-- the state files of a cherry-pick or a revert
abbrev pub sequencer_files : List Name
sequencer_files =
    codes "in-step" ∷ codes "todo" ∷ codes "done" ∷ codes "head" ∷ codes "abort-safety" ∷ codes "opts" ∷ codes "message"
    ∷ codes "author-script" ∷ codes "stopped-sha" ∷ codes "control" ∷ []

-- one of the three files of a merge driver's job, which are numbered from 1, as `12.base`
abbrev pub is_job_file : Name → Bool
is_job_file name =
    list_any (λ d. d == slice_index name 0) (codes "123456789")
    && list_all (λ b. list_any (λ d. d == b) (codes "0123456789")) (before_first (λ b. b == 46) name)
    && is_among (codes "base" ∷ codes "ours" ∷ codes "theirs" ∷ []) (after_first (λ b. b == 46) name)

-- n digits of an id
abbrev pub are_digits : ℕ → Text → Bool
are_digits n name = length name == n && list_all (λ b. list_any (λ d. d == b) lower_digits) name

-- where a file is kept, by the parts of its path. Refs below `refs`, labels among them, and their logs are kept in no fixed place.
abbrev pub is_file_place : List Name → Bool
is_file_place (git ∷ name ∷ []) = bytes_eq git (codes ".git") && is_among git_files name
is_file_place (git ∷ folder ∷ name ∷ []) =
    bytes_eq git (codes ".git") && (
    (bytes_eq folder (codes "rebase-merge") && is_among rebase_files name)
    || (bytes_eq folder (codes "sequencer") && is_among sequencer_files name)
    || (bytes_eq folder (codes "merge-driver") && is_job_file name)
    || (bytes_eq folder (codes "logs") && bytes_eq name (codes "HEAD"))
    )
is_file_place (git ∷ folder ∷ front ∷ back ∷ []) =
    bytes_eq git (codes ".git") && bytes_eq folder (codes "objects") && are_digits 2 front && are_digits 38 back
is_file_place _ = false

-- the folders of `.git` itself
abbrev pub git_folders : List Name
git_folders = codes "objects" ∷ codes "refs" ∷ codes "logs" ∷ codes "rebase-merge" ∷ codes "sequencer" ∷ codes "merge-driver" ∷ []

-- where a folder is kept, by the parts of its path
abbrev pub is_folder_place : List Name → Bool
is_folder_place (git ∷ []) = bytes_eq git (codes ".git")
is_folder_place (git ∷ folder ∷ []) = bytes_eq git (codes ".git") && is_among git_folders folder
is_folder_place (git ∷ folder ∷ front ∷ []) = bytes_eq git (codes ".git") && bytes_eq folder (codes "objects") && are_digits 2 front
is_folder_place _ = false

-- where a file is kept no folder stands, and where a folder is kept no file
pub record IsRepository (w : World) : Type 0 where
  pub shape : IsWorld w
  pub files : (kept path : Path) → is_file_place (parts kept) ≡ true → map.contains_key w path ≡ true → is_below kept path ≡ false
  pub folders : (kept : Path) → is_folder_place (parts kept) ≡ true → map.contains_key w kept ≡ false

-- a file that may stand in a repository: not where a folder is kept, nor below a place of a file, which has two to four parts
abbrev pub is_in_place : Path → Bool
is_in_place path =
    not (is_folder_place (parts path))
    && list_all (λ n. not (nat_lt n (length (parts path)) && is_file_place (take n (parts path)))) (2 ∷ 3 ∷ 4 ∷ [])

-- the file of an object: `.git/objects/`, two digits of its id, `/`, and the others
abbrev pub object_path : Id → Path
object_path id = codes ".git/objects/" ++ take 2 (encode_lower id) ++ 47 ∷ drop 2 (encode_lower id)
