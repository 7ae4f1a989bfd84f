-- Sameness of modes and ids, and the side that a merge of three takes (git-merge-file(1): "incorporates all
-- changes that lead from the base to either side").
use Rattle.std.specs.Prelude.{ℕ, Bool, true, false, ◌==◌, if◌then◌else◌, List, Option, Some, None}
use Rattle.std.specs.Str.{bytes_eq}
use Rattle.seq_base.specs.declared.mode.Mode.{Mode}
use Rattle.seq_base.specs.declared.mode.Mode.TheVariants.{File, Exec, Link, Gitlink, Folder}
use Rattle.seq_base.specs.Modes.{mode_number}

abbrev pub same_mode : Mode → Mode → Bool
same_mode a b = mode_number a == mode_number b

abbrev pub same_id : List ℕ → List ℕ → Bool
same_id a b = bytes_eq a b

-- a regular file, executable or not
abbrev pub is_file_mode : Mode → Bool
is_file_mode File = true
is_file_mode Exec = true
is_file_mode Link = false
is_file_mode Gitlink = false
is_file_mode Folder = false

-- what a merge of three takes: what both sides have, else the side that alone changed the base
abbrev pub agreed : {X : Type 0} → (X → X → Bool) → X → X → X → Option X
agreed same base ours theirs =
    if same ours theirs then Some ours
    else if same base ours then Some theirs
    else if same base theirs then Some ours else None
