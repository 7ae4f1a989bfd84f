-- What a reader answers where bytes spell nothing.
use Rattle.grammar.specs.Grammar.{IsFirstBad}
use Rattle.seq_base.specs.Words.{Text}
use Rattle.ident_text.specs.declared.fault.IdentFault.{IdentFault}
use Rattle.ident_text.specs.declared.fault.IdentFault.TheVariants.{Bad, Memory}

-- the first bad byte, or want of memory
abbrev pub IsIdentFault : {X : Type 0} → (X → Text → Type 0) → Text → IdentFault → Type 0
IsIdentFault spells bytes (Bad at) = IsFirstBad spells bytes at
IsIdentFault spells bytes Memory = Unit {0}
