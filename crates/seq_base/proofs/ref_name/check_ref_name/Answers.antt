use Rattle.std.proofs.Common.{◌≡◌, ℕ, ◌+◌, length, take, arith, subst, sym}
use Rattle.seq_base.proofs.RefFronts.{Stands}
use Rattle.seq_base.proofs.RefFrontLaws.{bad_byte, bad_end, steps_at, stops}
use Rattle.seq_base.proofs.ref_name.check_ref_name.Goals as goal

pub returns-in-None : goal.returns-in-None
returns-in-None c =
    bad_byte c.loop-i.front c.args.name.now c.loop-i.i c.loop-i.invariant (omega arith) (stops c.loop-i.front (take (c.loop-i.i + 1) c.args.name.now) (sym c.in-None.ensures))

pub loop-i-preserved : goal.loop-i-preserved
loop-i-preserved c = steps_at c.loop-i.front c.in-Some.next c.args.name.now c.loop-i.i (omega arith) (sym c.in-Some.ensures) c.loop-i.invariant

pub returns-then-not-is_ref_name : goal.returns-then-not-is_ref_name
returns-then-not-is_ref_name c =
    let all : c.loop-i.i ≡ length c.args.name.now = omega arith in
    bad_end c.loop-i.front c.args.name.now (subst (λ (n : ℕ). Stands c.loop-i.front (take n c.args.name.now)) all c.loop-i.invariant) (sym c.if-not-is_ref_name.ensures)
