use Rattle.std.proofs.Common.{subst}
use Rattle.grammar.specs.Gives.{Fails}
use Rattle.grammar.specs.declared.fault.ReadError.{ReadError}
use Rattle.grammar.proofs.Top.{left_within}
use Rattle.ref_text.specs.Packed.{IsPacked}
use Rattle.ref_text.specs.ReadPacked.{packed_from}
use Rattle.ref_text.proofs.PackedLaws.{packed_reads}
use Rattle.ref_text.proofs.read_packed.packed_in.Goals as goal

pub bad_line-requires : goal.bad_line-requires
bad_line-requires c =
    left_within IsPacked packed_from packed_reads c.args.text.now c.in-Err-Stopped.left
    (subst (λ (d : ReadError). Fails d (packed_from c.args.text.now)) c.in-Err-Stopped.field-0-is c.in-Err-Stopped.ensures)
