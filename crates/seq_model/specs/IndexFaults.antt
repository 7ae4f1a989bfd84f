-- What is wrong with an index.
use Rattle.std.specs.Prelude.{codes, ◌++◌}
use Rattle.seq_base.specs.Words.{Text}
use Rattle.index_file.specs.declared.fault.IndexFault.{IndexFault}
use Rattle.index_file.specs.declared.fault.IndexFault.TheVariants.{Magic, Version, Count, Name, Order, Extension, Hash, Memory}
use Rattle.seq_model.specs.Fields.{bytes_field, number_field}

-- the fault's name, and its field
abbrev pub index_fault_fields : IndexFault → Text
index_fault_fields Magic = codes " magic"
index_fault_fields (Version n) = codes " version" ++ number_field n
index_fault_fields Count = codes " count"
index_fault_fields (Name n) = codes " name" ++ number_field n
index_fault_fields (Order n) = codes " order" ++ number_field n
index_fault_fields (Extension tag) = codes " extension" ++ bytes_field tag
index_fault_fields Hash = codes " hash"
index_fault_fields Memory = codes " memory"
