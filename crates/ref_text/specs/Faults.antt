-- What a reader answers where bytes spell nothing.
use Rattle.std.specs.Prelude.{◌≡◌, Option, Some, None, Result, Ok, Err}
use Rattle.grammar.specs.Lines.{IsFirstBadLine}
use Rattle.seq_base.specs.Words.{Text}
use Rattle.ref_text.specs.declared.head.Head.{Head}
use Rattle.ref_text.specs.declared.fault.HeadFault.{HeadFault}
use Rattle.ref_text.specs.declared.fault.HeadFault.TheVariants as head
use Rattle.ref_text.specs.declared.fault.LineFault.{LineFault}
use Rattle.ref_text.specs.declared.fault.LineFault.TheVariants as line
use Rattle.ref_text.specs.Heads.{SpellsHead}
use Rattle.ref_text.specs.Refs.{SpellsLoose}

-- no head, or want of memory
abbrev pub IsHeadFault : Text → HeadFault → Type 0
IsHeadFault bytes head.Bad = (h : Head) → SpellsHead h bytes → ⊥
IsHeadFault bytes head.Memory = Unit {0}

-- no loose ref, or want of memory
abbrev pub IsLooseFault : Text → HeadFault → Type 0
IsLooseFault bytes head.Bad = (h : Head) → SpellsLoose h bytes → ⊥
IsLooseFault bytes head.Memory = Unit {0}

-- the first bad line, or want of memory
abbrev pub IsLineFault : {X : Type 0} → (X → Text → Type 0) → Text → LineFault → Type 0
IsLineFault spells bytes (line.Bad n) = IsFirstBadLine spells bytes n
IsLineFault spells bytes line.Memory = Unit {0}

-- What a reader of HEAD answers, unless memory ran out.
abbrev pub GivesHead : Result Head HeadFault → Option Head → Type 0
GivesHead (Ok h) means = means ≡ Some h
GivesHead (Err head.Bad) means = means ≡ None
GivesHead (Err head.Memory) means = Unit {0}
