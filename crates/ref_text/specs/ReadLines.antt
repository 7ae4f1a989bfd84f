-- What packed refs and a reflog say, or their first bad line.
use Rattle.std.specs.Prelude.{◌≡◌, ℕ, ◌-◌, List, length, Result, Ok, Err}
use Rattle.grammar.specs.Lines.{line_of_place}
use Rattle.seq_base.specs.Words.{Text}
use Rattle.ref_text.specs.declared.fault.LineFault.{LineFault}
use Rattle.ref_text.specs.declared.fault.LineFault.TheVariants as line
use Rattle.ref_text.specs.declared.log.LogLine.{LogLine}
use Rattle.ref_text.specs.ReadLogs.{log_from}
use Rattle.ref_text.specs.ReadPacked.{Ref, packed_from}

-- what was read of a text, or the line at which so many bytes were left
abbrev pub or_bad_line : {X : Type 0} → Text → Result X ℕ → Result X ℕ
or_bad_line text (Ok x) = Ok x
or_bad_line text (Err left) = Err (line_of_place (length text - left) text)

unfoldable pub packed_of : Text → Result (List Ref) ℕ
packed_of text = or_bad_line text (packed_from text)

unfoldable pub log_of : Text → Result (List LogLine) ℕ
log_of text = or_bad_line text (log_from text)

-- What a reader answers, unless memory ran out.
abbrev pub GivesLines : {X Y : Type 0} → (X → Y) → Result X LineFault → Result Y ℕ → Type 0
GivesLines view (Ok x) means = means ≡ Ok (view x)
GivesLines view (Err (line.Bad n)) means = means ≡ Err n
GivesLines view (Err line.Memory) means = Unit {0}
