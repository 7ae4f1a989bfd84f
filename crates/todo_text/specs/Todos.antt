-- A whole todo (git-rebase(1), "INTERACTIVE MODE"): its lines, in which comments and empty lines stand between.
use Rattle.std.specs.Prelude.{◌≡◌, ℕ, ◌+◌, Bool, true, false, not, ◌||◌, ◌==◌, List, [], ◌∷◌, ◌++◌, length, Some, Result, Ok, Err, MatchBool}
use Rattle.std.specs.List.{flat_map}
use Rattle.std.specs.Str.Lines.{lines}
use Rattle.todo_text.specs.declared.line.Line.{Line}
use Rattle.todo_text.specs.declared.line.Line.TheVariants.{Pick, Exec, Break, Noop, Label, Reset, Merge, UpdateRef}
use Rattle.todo_text.specs.declared.line.PickKind.{PickKind}
use Rattle.todo_text.specs.declared.line.PickKind.TheVariants as kind
use Rattle.todo_text.specs.declared.todo_kind.TodoKind.{TodoKind}
use Rattle.todo_text.specs.declared.fault.TodoFault.{TodoFault}
use Rattle.todo_text.specs.declared.fault.TodoFault.TheVariants.{Bad, Memory}
use Rattle.todo_text.specs.Words.{from_word}
use Rattle.todo_text.specs.Spells.{Spells, canonical}
use Rattle.todo_text.specs.Kinds.{is_squash, first_kind}

-- empty, or it begins with `#`
abbrev pub is_passed : List ℕ → Bool
is_passed [] = true
is_passed (b ∷ bs) = b == 35

-- a comment or an empty line
abbrev pub is_comment : List ℕ → Bool
is_comment text = is_passed (from_word text)

abbrev pub is_drop : PickKind → Bool
is_drop kind.Pick = false
is_drop kind.Reword = false
is_drop kind.Edit = false
is_drop kind.Squash = false
is_drop kind.Fixup = false
is_drop kind.FixupKeep = false
is_drop kind.FixupEdit = false
is_drop kind.Drop = true
is_drop kind.Revert = false

-- a later squash has it for an earlier line: it is neither noop nor drop
abbrev pub counts : Line → Bool
counts (Pick k rev note) = not (is_drop k)
counts (Exec command) = true
counts Break = true
counts Noop = false
counts (Label name) = true
counts (Reset name note) = true
counts (Merge how head note) = true
counts (UpdateRef name) = true

abbrev pub squashes : Line → Bool
squashes (Pick k rev note) = is_squash k
squashes (Exec command) = false
squashes Break = false
squashes Noop = false
squashes (Label name) = false
squashes (Reset name note) = false
squashes (Merge how head note) = false
squashes (UpdateRef name) = false

-- a squash or fixup has an earlier line
abbrev pub may_stand : Bool → Line → Bool
may_stand earlier line = earlier || not (squashes line)

-- The texts spell the lines, one after the other, but for comments, where there is an earlier line before them or not.
abbrev pub SpellAll : Bool → List (List ℕ) → List Line → Type 0
SpellAll earlier [] ls = ls ≡ []
SpellAll earlier (text ∷ texts) ls =
    MatchBool (is_comment text) (SpellAll earlier texts ls)
    ((line : Line) × (later : List Line) × (ls ≡ line ∷ later) × Spells line text × (may_stand earlier line ≡ true)
    × SpellAll (earlier || counts line) texts later)

-- some of the lines, or what was before them, are there to squash into
abbrev pub earlier_of : Bool → List Line → Bool
earlier_of earlier [] = earlier
earlier_of earlier (line ∷ ls) = earlier_of (earlier || counts line) ls

-- The first bad line: the texts before it spell lines, and it is told what is wrong with it.
pub record IsFirstBad (earlier : Bool) (first : ℕ) (texts : List (List ℕ)) (number : ℕ) (kind : TodoKind) : Type 0 where
  pub good : List (List ℕ)
  pub bad : List ℕ
  pub after : List (List ℕ)
  pub split : texts ≡ good ++ bad ∷ after
  pub before : List Line
  pub spelled : SpellAll earlier good before
  pub number_is : number ≡ first + length good
  pub no_comment : is_comment bad ≡ false
  pub kind_is : first_kind (earlier_of earlier before) bad ≡ Some kind

-- the bytes of a todo spell the lines, where there is an earlier line before it or not
abbrev pub SpellsTodo : Bool → List ℕ → List Line → Type 0
SpellsTodo earlier bytes ls = SpellAll earlier (lines bytes) ls

-- What is read of a todo: the lines that its bytes spell, and they spell no others; else no lines are spelled, and the first bad
-- line is told, counted from 1 with all lines before it.
abbrev pub IsTodoReading : Bool → List ℕ → Result (List Line) TodoFault → Type 0
IsTodoReading earlier bytes (Ok ls) = SpellsTodo earlier bytes ls × ((others : List Line) → SpellsTodo earlier bytes others → others ≡ ls)
IsTodoReading earlier bytes (Err (Bad number kind)) =
    IsFirstBad earlier 1 (lines bytes) number kind × ((others : List Line) → SpellsTodo earlier bytes others → ⊥)
IsTodoReading earlier bytes (Err Memory) = Unit {0}

-- the todo that is written of lines
abbrev pub todo_text : List Line → List ℕ
todo_text ls = flat_map canonical ls
