-- What the code's rows stand for.
use Rattle.std.specs.Prelude.{List, map}
use Rattle.seq_model.specs.Given.{Expected, any, value_of, argument}
use Rattle.seq_model.specs.Rows as rows
use Rattle.seq_words.specs.declared.plain.Expected.{Expected as Awaited}
use Rattle.seq_words.specs.declared.plain.Expected.TheVariants.{Any, Value, Argument}
use Rattle.seq_words.specs.declared.row.Row.{Row}

abbrev pub row_of : Row → rows.Row
row_of row = record { name = row.name.now; form = row.form }

abbrev pub rows_of : List Row → List rows.Row
rows_of = map row_of

abbrev pub expected_of : Awaited → Expected
expected_of Any = any
expected_of (Value row) = value_of (row_of row)
expected_of Argument = argument
