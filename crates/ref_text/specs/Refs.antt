-- The refs of a world (gitrepository-layout(5), "refs", "packed-refs" and "logs"; git-update-ref(1)).
use Rattle.std.specs.Prelude.{◌≡◌, ℕ, zero, suc, Bool, true, false, not, ◌⊎◌, ◌||◌, ◌==◌, if◌then◌else◌, List, [], ◌∷◌, ◌++◌, codes, unwrap_or, Option, Some, None, MatchBool}
use Rattle.std.specs.FinMap as map
use Rattle.std.specs.List.{filter, list_all, list_any, starts_with}
use Rattle.std.specs.Str.{bytes_eq}
use Rattle.seq_base.specs.Words.{Id, Name, Path, Text}
use Rattle.seq_base.specs.Blanks.{is_blank}
use Rattle.seq_base.specs.World.{World, is_blocked}
use Rattle.ref_text.specs.declared.head.Head.{Head}
use Rattle.ref_text.specs.declared.head.Head.TheVariants.{Branch, Detached}
use Rattle.ref_text.specs.declared.log.LogLine.{LogLine}
use Rattle.ref_text.specs.Heads.{SpellsHead, head_text}
use Rattle.ref_text.specs.Packed.{IsPacked, packed_text}
use Rattle.ref_text.specs.Logs.{log_text}

-- where a ref, its log and the packed refs are kept
abbrev pub ref_path : Name → Path
ref_path name = codes ".git/" ++ name

abbrev pub log_path : Name → Path
log_path name = codes ".git/logs/" ++ name

abbrev pub packed_path : Path
packed_path = codes ".git/packed-refs"

abbrev pub head_name : Name
head_name = codes "HEAD"

-- a loose ref: a head's text, where blanks may stand at the end, and the LF may be missing
pub record SpellsLoose (value : Head) (bytes : Text) : Type 0 where
  pub line : Text
  pub blanks : Text
  pub end : Text
  pub is_line : SpellsHead value (line ++ 10 ∷ [])
  pub are_blanks : list_all is_blank blanks ≡ true
  pub is_end : (end ≡ []) ⊎ (end ≡ 10 ∷ [])
  pub bytes_are : bytes ≡ line ++ blanks ++ end

-- HEAD has the strict text
abbrev pub SpellsFile : Name → Head → Text → Type 0
SpellsFile name value bytes = MatchBool (bytes_eq name head_name) (SpellsHead value bytes) (SpellsLoose value bytes)

-- the value of the first line of a name
abbrev pub packed_value : List (Name × Id) → Name → Option Id
packed_value [] name = None
packed_value (r ∷ refs) name = if bytes_eq r.0 name then Some r.1 else packed_value refs name

-- the packed refs, of which a missing file has none
abbrev pub PackedAt : World → List (Name × Id) → Type 0
PackedAt w refs = IsPacked refs (unwrap_or (map.get w packed_path) [])

-- the value that a loose ref gives, or that of the name to which it leads
abbrev pub Leads : (Name → Type 0) → Option Id → Head → Type 0
Leads on value (Detached id) = value ≡ Some id
Leads on value (Branch other) = on other

-- a loose file decides, else the packed refs
abbrev pub Decides : World → (Name → Type 0) → Name → Option Id → Option Text → Type 0
Decides w on name value (Some bytes) = (h : Head) × SpellsFile name h bytes × Leads on value h
Decides w on name value None = (refs : List (Name × Id)) × PackedAt w refs × (value ≡ packed_value refs name)

-- the value of a name, where fewer than so many names lead to it
abbrev pub RefWithin : ℕ → World → Name → Option Id → Type 0
RefWithin zero w name value = ⊥
RefWithin (suc n) w name value = Decides w (λ other. RefWithin n w other value) name value (map.get w (ref_path name))

-- The value of a name: the loose one, which may lead on five times; else the packed one.
abbrev pub RefAt : World → Name → Option Id → Type 0
RefAt w name value = RefWithin 6 w name value

-- logs are kept of HEAD and of branches
abbrev pub has_log : Name → Bool
has_log name = bytes_eq name head_name || starts_with (λ a b. a == b) name (codes "refs/heads/")

-- a line at the end of the log of a name
abbrev pub logged : World → Name → LogLine → World
logged w name line = if has_log name then map.insert w (log_path name) (unwrap_or (map.get w (log_path name)) [] ++ log_text line) else w

-- a ref that is given a value, and its log the line
abbrev pub set_ref : World → Name → Id → LogLine → World
set_ref w name id line = logged (map.insert w (ref_path name) (head_text (Detached id))) name line

-- HEAD that is moved: its branch, with both logs, or HEAD itself
abbrev pub move_head : World → Head → Id → LogLine → World
move_head w (Branch name) id line = logged (set_ref w name id line) head_name line
move_head w (Detached old) id line = set_ref w head_name id line

-- these packed refs have the name
abbrev pub is_packed : List (Name × Id) → Name → Bool
is_packed refs name = list_any (λ r. bytes_eq r.0 name) refs

-- the packed refs without a name
abbrev pub without : Name → List (Name × Id) → List (Name × Id)
without name refs = filter (λ r. not (bytes_eq r.0 name)) refs

-- the packed refs are written anew without the name, where they have it
abbrev pub unpacked : World → List (Name × Id) → Name → World
unpacked w refs name = if is_packed refs name then map.insert w packed_path (packed_text (without name refs)) else w

-- a ref that is deleted: packed where these packed refs have it, then loose, so that its packed value never stands alone
abbrev pub delete_ref : World → List (Name × Id) → Name → World
delete_ref w refs name = map.remove (unpacked w refs name) (ref_path name)

-- no file stands in the way of a ref or its log, nor a folder
pub record IsWritable (w : World) (name : Name) : Type 0 where
  pub ref : is_blocked w (ref_path name) ≡ false
  pub log : is_blocked w (log_path name) ≡ false
