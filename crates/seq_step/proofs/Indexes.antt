-- The index that has no entry.
use Rattle.std.proofs.Common.{[], arith}
use Rattle.index_file.specs.Entries.{IsIndex}

pub empty_index : IsIndex []
empty_index = record { in_order = tt; staged = tt; few = omega arith }
