-- Paths that a tree or an index may hold (git-fsck(1), "FSCK MESSAGES": emptyName, hasDot, hasDotdot, hasDotgit).
use Rattle.std.specs.Prelude.{◌≡◌, ◌≢◌, ℕ, ◌+◌, ◌<◌, ◌≤◌, Bool, not, ◌&&◌, ◌||◌, ◌==◌, if◌then◌else◌, List, [], ◌∷◌, ◌++◌, length, codes, map, Option, Some, None, All, Contains}
use Rattle.std.specs.Char.{to_ascii_lowercase}
use Rattle.std.specs.List.{list_all, flat_map, slice_split}
use Rattle.std.specs.Str.{bytes_eq, IsUtf8, IsValidUpTo}
use Rattle.seq_base.specs.Words.{Name, Path, Text}
use Rattle.seq_base.specs.declared.path.PathFault.{PathFault}
use Rattle.seq_base.specs.declared.path.PathFault.TheVariants.{Empty, TooLong, NotUtf8, BadPart, Memory}

-- a part of a path that leads to what it names, and neither outside nor into `.git`
pub record IsPlainPart (part : Name) : Type 0 where
  pub some : part ≢ []
  pub here : part ≢ codes "."
  pub above : part ≢ codes ".."
  pub git : map to_ascii_lowercase part ≢ codes ".git"
  pub no_nul : Contains part 0 → ⊥
  pub no_slash : Contains part 47 → ⊥

-- `.`, `..` and `.git` in any case lead elsewhere
abbrev pub is_special : Name → Bool
is_special part = bytes_eq (codes ".") part || bytes_eq (codes "..") part || bytes_eq (codes ".git") (map to_ascii_lowercase part)

abbrev pub is_part : Name → Bool
is_part part = not (length part == 0) && list_all (λ b. not (b == 0)) part && not (is_special part)

abbrev pub parts : Path → List Name
parts bytes = slice_split (λ b. b == 47) bytes

-- where the first part begins that is none, the first of these beginning at a place
abbrev pub first_bad : ℕ → List Name → Option ℕ
first_bad at [] = None
first_bad at (p ∷ ps) = if is_part p then first_bad (at + length p + 1) ps else Some at

-- at is where the first part begins that is not plain: behind the parts before it, each with its slash
pub record IsFirstBad (bytes : Path) (at : ℕ) : Type 0 where
  pub good : List Name
  pub bad : Name
  pub after : List Name
  pub split : parts bytes ≡ good ++ bad ∷ after
  pub plain : All IsPlainPart good
  pub not_plain : IsPlainPart bad → ⊥
  pub place : at ≡ length (flat_map (λ part. part ++ 47 ∷ []) good)

pub record IsPath (bytes : Path) : Type 0 where
  pub some : 0 < length bytes
  pub short : length bytes ≤ 4095
  pub text : IsUtf8 bytes
  pub parts_are : first_bad 0 (parts bytes) ≡ None

-- the first of the faults, in this order; a check needs no memory
abbrev pub IsPathFault : Text → PathFault → Type 0
IsPathFault bytes Empty = length bytes ≡ 0
IsPathFault bytes (TooLong n) = (n ≡ length bytes) × (4095 < n)
IsPathFault bytes (NotUtf8 at) = (0 < length bytes) × (length bytes ≤ 4095) × (IsUtf8 bytes → ⊥) × IsValidUpTo bytes at
IsPathFault bytes (BadPart at) = (0 < length bytes) × (length bytes ≤ 4095) × IsUtf8 bytes × (first_bad 0 (parts bytes) ≡ Some at)
IsPathFault bytes Memory = ⊥

-- a path that is made may want memory
abbrev pub IsPathFaultOrMemory : Text → PathFault → Type 0
IsPathFaultOrMemory bytes Empty = IsPathFault bytes Empty
IsPathFaultOrMemory bytes (TooLong n) = IsPathFault bytes (TooLong n)
IsPathFaultOrMemory bytes (NotUtf8 at) = IsPathFault bytes (NotUtf8 at)
IsPathFaultOrMemory bytes (BadPart at) = IsPathFault bytes (BadPart at)
IsPathFaultOrMemory bytes Memory = Unit {0}
