use Rattle.std.proofs.Common.{◌≡◌, ℕ, ◌+◌, length, true, false, sym, ◌∙◌, subst, arith}
use Rattle.seq_base.proofs.Parts.{Met, met_none, met_more, met_slash, met_bad, met_last}
use Rattle.seq_base.proofs.path.bad_part.Goals as goal
use Rattle.seq_base.proofs.path.bad_part.Goals.{then-b-eq47+else-not-is_good_part, else-b-eq47}

pub loop-i-init : goal.loop-i-init
loop-i-init c = met_none c.args.bytes.now

pub returns-then-not-is_good_part : goal.returns-then-not-is_good_part
returns-then-not-is_good_part c =
    sym (met_bad c.args.bytes.now c.loop-i.start c.loop-i.i c.loop-i-test.true c.if-b-eq47.true (sym c.is_good_part.ensures ∙ c.if-not-is_good_part.true) c.loop-i.invariant)

pub loop-i-preserved : goal.loop-i-preserved
loop-i-preserved c =
    elim c.if-b-eq47.branch [
      | then-b-eq47+else-not-is_good_part w ↦
          subst (λ (s : ℕ). Met c.args.bytes.now s (c.loop-i.i + 1)) (sym w.start-is)
          (met_slash c.args.bytes.now c.loop-i.start c.loop-i.i c.loop-i-test.true w.if-b-eq47.true (sym w.is_good_part.ensures ∙ w.if-not-is_good_part.false) c.loop-i.invariant)
      | else-b-eq47 w ↦
          subst (λ (s : ℕ). Met c.args.bytes.now s (c.loop-i.i + 1)) (sym w.start-is)
          (met_more c.args.bytes.now c.loop-i.start c.loop-i.i c.loop-i-test.true w.if-b-eq47.false c.loop-i.invariant)
    ]

pub returns-then-is_good_part : goal.returns-then-is_good_part
returns-then-is_good_part c =
    let at_end : c.loop-i.i ≡ length c.args.bytes.now = omega arith in
    let m = subst (λ (i : ℕ). Met c.args.bytes.now c.loop-i.start i) at_end c.loop-i.invariant in
    sym (met_last c.args.bytes.now c.loop-i.start (length c.args.bytes.now) (omega arith) true (sym c.is_good_part-2.ensures ∙ c.if-is_good_part.true) m)

pub returns-else-is_good_part : goal.returns-else-is_good_part
returns-else-is_good_part c =
    let at_end : c.loop-i.i ≡ length c.args.bytes.now = omega arith in
    let m = subst (λ (i : ℕ). Met c.args.bytes.now c.loop-i.start i) at_end c.loop-i.invariant in
    sym (met_last c.args.bytes.now c.loop-i.start (length c.args.bytes.now) (omega arith) false (sym c.is_good_part-2.ensures ∙ c.if-is_good_part.false) m)
