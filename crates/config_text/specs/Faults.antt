-- What is answered where a text is no configuration.
use Rattle.std.specs.Prelude.{ℕ, List}
use Rattle.grammar.specs.Lines.{IsFirstBadLine}
use Rattle.config_text.specs.declared.fault.LineFault.{LineFault}
use Rattle.config_text.specs.declared.fault.LineFault.TheVariants.{Bad, Memory}

-- the first bad line, or want of memory
abbrev pub IsLineFault : {X : Type 0} → (X → List ℕ → Type 0) → List ℕ → LineFault → Type 0
IsLineFault spells text (Bad line) = IsFirstBadLine spells text line
IsLineFault spells text Memory = Unit {0}
