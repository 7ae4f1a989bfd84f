-- What it is to read words, want of memory aside.
use Rattle.std.specs.Prelude.{◌≡◌, Result, Ok, Err}
use Rattle.seq_model.specs.declared.command.Command.{Command}
use Rattle.seq_model.specs.declared.usage.UsageFault.{UsageFault}
use Rattle.seq_words.specs.declared.fault.BadWords.{BadWords}
use Rattle.seq_words.specs.declared.fault.BadWords.TheVariants.{Usage, Memory}

-- the answer is what is asked for, or what is wrong
abbrev pub ReadsAs : Result Command BadWords → Result Command UsageFault → Type 0
ReadsAs (Ok command) asked = asked ≡ Ok command
ReadsAs (Err (Usage fault)) asked = asked ≡ Err fault
ReadsAs (Err Memory) asked = Unit {0}
