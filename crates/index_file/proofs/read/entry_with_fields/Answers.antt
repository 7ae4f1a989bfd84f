use Rattle.std.proofs.Common.{◌/◌, ◌%◌, sym, eq-eqb}
use Rattle.index_file.proofs.PathTests.{path_passes, entry_good, entry_fails}
use Rattle.index_file.proofs.read.entry_with_fields.Goals as goal

pub returns-in-Ok : goal.returns-in-Ok
returns-in-Ok c =
    rw (c.in-Some.is, c.from_bytes.ensures, c.in-Ok.ensures.ok.0)
    (entry_good c.args.n c.in-Some.mode c.args.id c.args.flags c.args.path.now c.args.padding.now (eq-eqb (c.args.flags / 16384 % 2) 0 c.if-flags-ne0.false) (sym c.if-not-are_zero.ensures)
    (path_passes c.args.path.now c.in-Ok.ensures.ok.1))

pub returns-in-Err : goal.returns-in-Err
returns-in-Err c =
    rw c.in-Some.is
    (entry_fails c.args.n c.in-Some.mode c.args.id c.args.flags c.args.path.now c.args.padding.now c.in-Err.fault c.name_fault.result c.in-Err.ensures.fault c.name_fault.ensures.memory c.name_fault.ensures.other)
