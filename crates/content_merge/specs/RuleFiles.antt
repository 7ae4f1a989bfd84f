-- The rule files of a path, the strongest first (gitattributes(5), "DESCRIPTION"): `.git/info/attributes`, then the file `.gitattributes`
-- of the folder of the path, and of each folder above. The latter are those of a map.
use Rattle.std.specs.Prelude.{ℕ, zero, suc, ◌==◌, if◌then◌else◌, List, [], ◌∷◌, ◌++◌, codes, length, take, slice_index, Option, Some, None, Result, Ok}
use Rattle.std.specs.FinMap as file
use Rattle.std.specs.Option.{option_map_or}
use Rattle.attr_rules.specs.Rules.{RuleFile, lines_of}
use Rattle.seq_base.specs.PathMaps.{Entries, entry_at}
use Rattle.seq_base.specs.Words.{Id, Path, Text}
use Rattle.seq_base.specs.World.{World}
use Rattle.seq_base.specs.declared.map.Entry.{Entry}
use Rattle.seq_outside.specs.Halts.{◌>>=◌}
use Rattle.seq_outside.specs.declared.lack.Lack.{Lack}
use Rattle.tree_merge.specs.Choices.{is_file_mode}
use Rattle.worktree.specs.Blobs.{blob_named}

-- of the first bytes of a path, each part before a slash, the longest first, and the root, which is empty
unfoldable pub folders_in : ℕ → Path → List Path
folders_in zero path = [] ∷ []
folders_in (suc n) path = if slice_index path n == 47 then take n path ∷ folders_in n path else folders_in n path

-- the folders that a path lies in, the nearest first
abbrev pub folders_of : Path → List Path
folders_of path = folders_in (length path) path

-- the rule file of a folder
abbrev pub rules_path : Path → Path
rules_path folder = if length folder == 0 then codes ".gitattributes" else folder ++ codes "/.gitattributes"

-- the blob of an entry that is a file
abbrev pub file_blob : Option Entry → Option Id
file_blob None = None
file_blob (Some entry) = if is_file_mode entry.mode then Some entry.id else None

abbrev pub rules_in : Path → Text → RuleFile
rules_in folder text = record { folder = folder; lines = lines_of text }

-- the files found so far, with that of a blob behind them
unfoldable pub with_blob : World → List RuleFile → Path → Option Id → Result (List RuleFile) Lack
with_blob w files folder None = Ok files
with_blob w files folder (Some id) = do
  text ← blob_named w id
  Ok (files ++ rules_in folder text ∷ [])

-- the files found so far, with those that a map has in these folders
unfoldable pub with_folders : World → Entries → List RuleFile → List Path → Result (List RuleFile) Lack
with_folders w head files [] = Ok files
with_folders w head files (folder ∷ folders) = do
  more ← with_blob w files folder (file_blob (entry_at head (rules_path folder)))
  with_folders w head more folders

-- the file of the repository itself, if it is there
abbrev pub own_rules : World → List RuleFile
own_rules w = option_map_or (λ text. rules_in [] text ∷ []) (file.get w (codes ".git/info/attributes")) []

-- it is read as it stands
abbrev pub own_rules_read : World → Result (List RuleFile) Lack
own_rules_read w = Ok (own_rules w)

-- the rule files of a path
abbrev pub rule_files : World → Entries → Path → Result (List RuleFile) Lack
rule_files w head path = with_folders w head (own_rules w) (folders_of path)
