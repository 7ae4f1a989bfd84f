-- What is wrong with the words of the command line.
use Rattle.std.specs.Prelude.{ℕ, List, codes, [], ◌++◌}
use Rattle.seq_model.specs.Fields.{bytes_field}
use Rattle.seq_model.specs.declared.usage.UsageFault.{UsageFault}
use Rattle.seq_model.specs.declared.usage.UsageFault.TheVariants.{NoVerb, UnknownVerb, Parse, Value, Missing, Pair}

abbrev pub usage_fault_name : UsageFault → List ℕ
usage_fault_name NoVerb = codes "no-verb"
usage_fault_name (UnknownVerb word) = codes "unknown-verb"
usage_fault_name Parse = codes "parse"
usage_fault_name (Value word) = codes "value"
usage_fault_name Missing = codes "missing"
usage_fault_name (Pair first second) = codes "pair"

-- the fields, in their order
abbrev pub usage_fault_fields : UsageFault → List ℕ
usage_fault_fields NoVerb = []
usage_fault_fields (UnknownVerb word) = bytes_field word
usage_fault_fields Parse = []
usage_fault_fields (Value word) = bytes_field word
usage_fault_fields Missing = []
usage_fault_fields (Pair first second) = bytes_field first ++ bytes_field second
