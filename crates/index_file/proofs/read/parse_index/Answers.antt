use Rattle.std.proofs.Common.{Ok, Err, arith}
use Rattle.index_file.specs.Reading.{index_of}
use Rattle.index_file.proofs.Whole.{is_spelled, gives_along, index_again}
use Rattle.index_file.proofs.FaultsRead.{first_fault_is, index_fails}
use Rattle.index_file.proofs.read.parse_index.Goals as goal

pub returns-clause-spelled : goal.returns-clause-spelled
returns-clause-spelled c = is_spelled c.args.bytes.now c.read_index.result (λ i. omega (arith, c.type_inv.bytes i)) c.read_index.ensures

pub returns-clause-read : goal.returns-clause-read
returns-clause-read c =
    λ es s. gives_along (λ v. v.items) c.read_index.result (index_of c.args.bytes.now) (Ok es) (index_again c.args.bytes.now es s) c.read_index.ensures

pub returns-clause-fault : goal.returns-clause-fault
returns-clause-fault c = first_fault_is c.args.bytes.now c.read_index.result (λ i. omega (arith, c.type_inv.bytes i)) c.read_index.ensures

pub returns-clause-refused : goal.returns-clause-refused
returns-clause-refused c =
    λ f w. gives_along (λ v. v.items) c.read_index.result (index_of c.args.bytes.now) (Err f) (index_fails c.args.bytes.now f (λ i. omega (arith, c.type_inv.bytes i)) w) c.read_index.ensures
