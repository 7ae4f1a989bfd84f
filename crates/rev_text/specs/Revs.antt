-- A word that names a commit (gitrevisions(7)): a base, maybe an entry of its reflog, and steps to parents.
use Rattle.std.specs.Prelude.{◌≡◌, Result, Ok, Err, ℕ, ◌+◌, ◌-◌, ◌*◌, ◌^◌, min, Bool, true, false, ◌&&◌, ◌||◌, ◌==◌, nat_le, nat_eq, if◌then◌else◌, List, [], ◌∷◌, ◌++◌, codes, take, drop, unwrap_or, Option, Some, None, option_and_then}
use Rattle.std.specs.List.{starts_with}
use Rattle.std.specs.Str.{bytes_eq}
use Rattle.seq_base.specs.RefNames.{is_ref_name}
use Rattle.seq_base.specs.Words.{Text}
use Rattle.rev_text.specs.declared.rev.Step.{Step}
use Rattle.rev_text.specs.declared.rev.Step.TheVariants.{Parent, Ancestor}
use Rattle.rev_text.specs.declared.rev.Begun.{Begun}
use Rattle.rev_text.specs.declared.rev.Rev.{Rev}
use Rattle.rev_text.specs.declared.rev.RevTextFault.{RevTextFault}
use Rattle.rev_text.specs.declared.rev.RevTextFault.TheVariants.{Form, Memory}

-- ---- numbers

abbrev pub is_digit : ℕ → Bool
is_digit b = nat_le 48 b && nat_le b 57

-- a number with a digit more, and never more than 64 bits
abbrev pub with_digit : ℕ → ℕ → ℕ
with_digit n b = min (min (n * 10) (2 ^ 64 - 1) + (b - 48)) (2 ^ 64 - 1)

-- the same, where no digit may have been read yet
abbrev pub more : Option ℕ → ℕ → ℕ
more number b = with_digit (unwrap_or number 0) b

-- ---- the base

abbrev pub is_mark : ℕ → Bool
is_mark b = b == 94 || b == 126

-- `^`, `~` or `@{` stands there
abbrev pub ends_base : ℕ → Text → Bool
ends_base b bytes = is_mark b || (b == 64 && starts_with nat_eq bytes (codes "{"))

-- how many bytes stand before the first of them
unfoldable pub base_length : Text → ℕ
base_length [] = 0
base_length (b ∷ bytes) = if ends_base b bytes then 0 else 1 + base_length bytes

-- HEAD, or what may be the end of a ref's name
abbrev pub is_base : Text → Bool
is_base base = bytes_eq base (codes "@") || is_ref_name (codes "refs/" ++ base)

-- ---- an entry of the reflog

-- the number up to `}`, and what stands behind that
unfoldable pub entry_from : Option ℕ → Text → Option (ℕ × Text)
entry_from number [] = None
entry_from number (b ∷ bytes) =
    if b == 125 then option_and_then (λ n. Some (n, bytes)) number
    else (if is_digit b then entry_from (Some (more number b)) bytes else None)

-- ---- steps

-- no number is 1
abbrev pub step_of : Bool → Option ℕ → Step
step_of true number = Ancestor (unwrap_or number 1)
step_of false number = Parent (unwrap_or number 1)

-- the steps before, and the one that was begun
abbrev pub with_step : List Step → Option Begun → List Step
with_step steps None = steps
with_step steps (Some begun) = steps ++ step_of begun.ancestors begun.number ∷ []

abbrev pub numbered : Begun → ℕ → Begun
numbered begun b = record { ancestors = begun.ancestors; number = Some (more begun.number b) }

abbrev pub digit_on : Option Begun → ℕ → Option Begun
digit_on None b = None
digit_on (Some begun) b = Some (numbered begun b)

-- the step that stands begun behind a byte, if the byte may stand there
abbrev pub begun_at : Option Begun → ℕ → Option Begun
begun_at begun b = if is_mark b then Some (record { ancestors = b == 126; number = None }) else (if is_digit b then digit_on begun b else None)

-- the steps that have ended there
abbrev pub ended_at : List Step → Option Begun → ℕ → List Step
ended_at steps begun b = if is_mark b then with_step steps begun else steps

-- steps to the end of the text
unfoldable pub steps_from : List Step → Option Begun → Text → Option (List Step)
steps_from steps begun [] = Some (with_step steps begun)
steps_from steps begun (b ∷ bytes) = option_and_then (λ next. steps_from (ended_at steps begun b) (Some next) bytes) (begun_at begun b)

-- ---- the word

-- what a word says
pub record Said : Type 0 where
  pub base : Text
  pub entry : Option ℕ
  pub steps : List Step

abbrev pub said : Rev → Said
said rev = record { base = rev.base; entry = rev.entry; steps = rev.steps.items }

abbrev pub with_base : Text → Option ℕ → Option (List Step) → Option Said
with_base base entry None = None
with_base base entry (Some steps) = Some (record { base = base; entry = entry; steps = steps })

abbrev pub behind_entry : Text → Option (ℕ × Text) → Option Said
behind_entry base None = None
behind_entry base (Some entry) = with_base base (Some entry.0) (steps_from [] None entry.1)

-- what stands behind a base
unfoldable pub rev_behind : Text → Text → Option Said
rev_behind base behind =
    if starts_with nat_eq behind (codes "@{") then behind_entry base (entry_from None (drop 2 behind))
    else with_base base None (steps_from [] None behind)

-- what a word says, or that it has no form of a name
unfoldable pub rev_of : Text → Option Said
rev_of word =
    if is_base (take (base_length word) word) then rev_behind (take (base_length word) word) (drop (base_length word) word)
    else None

-- What was read, unless memory ran out.
abbrev pub GivesRev : Result Rev RevTextFault → Option Said → Type 0
GivesRev (Ok rev) means = means ≡ Some (said rev)
GivesRev (Err Form) means = means ≡ None
GivesRev (Err Memory) means = Unit {0}

abbrev pub GivesSteps : {V : Type 0} → (V → List Step) → Result V RevTextFault → Option (List Step) → Type 0
GivesSteps view (Ok steps) means = means ≡ Some (view steps)
GivesSteps view (Err Form) means = means ≡ None
GivesSteps view (Err Memory) means = Unit {0}
