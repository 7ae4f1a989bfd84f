-- What is expected behind a word, whatever it gives.
use Rattle.std.specs.Prelude.{Option, Some, None, option_map, if◌then◌else◌}
use Rattle.seq_model.specs.Given.{Expected, Step, any, value_of}
use Rattle.seq_model.specs.Rows.{Row, is_flag}

abbrev pub next_of : Option Step → Option Expected
next_of = option_map (λ step. step.next)

-- behind an option with its value, and behind an option's name
abbrev pub attached_next : Option Row → Option Expected
attached_next None = None
attached_next (Some row) = if is_flag row.form then None else Some any

abbrev pub named_next : Row → Expected
named_next row = if is_flag row.form then any else value_of row
