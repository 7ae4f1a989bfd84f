use Rattle.std.proofs.Common.{◌≡◌, ℕ, List, Ok, drop, length, sym, ap, ◌∙◌, arith}
use Rattle.grammar.proofs.Scans.{literal_more, literal_off, literal_short, literal_done, slice_from}
use Rattle.grammar.proofs.fields.behind_literal.Goals as goal

pub returns-then-i-bytes : goal.returns-then-i-bytes
returns-then-i-bytes c =
    sym c.loop-i.invariant.same ∙ literal_short c.args.literal.now c.args.bytes.now c.loop-i.i c.loop-i-test.true c.if-i-bytes.true

pub returns-then-bytes-i : goal.returns-then-bytes-i
returns-then-bytes-i c =
    sym c.loop-i.invariant.same ∙ literal_off c.args.literal.now c.args.bytes.now c.loop-i.i c.loop-i-test.true c.if-i-bytes.false c.if-bytes-i.true

pub loop-i-preserved : goal.loop-i-preserved
loop-i-preserved c = record {
  within = omega arith;
  same =
      sym (literal_more c.args.literal.now c.args.bytes.now c.loop-i.i c.loop-i-test.true c.if-i-bytes.false c.if-bytes-i.false)
      ∙ c.loop-i.invariant.same;
}

pub returns : goal.returns
returns c =
    let at : c.loop-i.i ≡ length c.args.literal.now = omega arith in
    sym c.loop-i.invariant.same ∙ literal_done c.args.literal.now c.args.bytes.now c.loop-i.i c.loop-i-test.false
    ∙ ap (λ (i : ℕ). Ok (tt, drop i c.args.bytes.now)) at ∙ ap (λ (r : List ℕ). Ok (tt, r)) (sym (slice_from c.args.bytes.now (length c.args.literal.now)))
