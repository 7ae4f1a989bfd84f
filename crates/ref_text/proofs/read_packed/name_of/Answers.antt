use Rattle.std.proofs.Common.{ap, sym, Some}
use Rattle.seq_base.specs.declared.ref_front.RefFront.{RefFront}
use Rattle.ref_text.specs.ReadPacked.{behind_all}
use Rattle.ref_text.proofs.read_packed.name_of.Goals as goal

pub span_of-requires : goal.span_of-requires
unfolding behind_all
span_of-requires c = ap (λ (s : RefFront). Some s) (sym c.new.ensures)
