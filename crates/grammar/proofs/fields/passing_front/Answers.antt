use Rattle.std.proofs.Common.{◌≡◌, ℕ, ◌+◌, ◌-◌, [], Ok, List, take, drop, get_or, sym, ◌∙◌, ap, arith}
use Rattle.std.proofs.lemmas.List.{append-nil, take_more}
use Rattle.grammar.specs.Readers.{passing_at}
use Rattle.grammar.proofs.Scans.{slice_from}
use Rattle.grammar.proofs.Passing.{with_bytes, with_bytes-none, with_bytes-byte, passing_more, passing_off, passing_short, passing_done}
use Rattle.grammar.proofs.fields.passing_front.Goals as goal

pub loop-i-init : goal.loop-i-init
loop-i-init g c = record {
  within = omega arith;
  same =
      let all : c.args.count - 0 ≡ c.args.count = omega arith in
      ap (λ (n : ℕ). with_bytes [] (passing_at (g.T.ByteTest.passes c.args.test.now) n c.args.bytes.now)) all ∙ with_bytes-none (passing_at (g.T.ByteTest.passes c.args.test.now) c.args.count c.args.bytes.now);
}

pub returns-then-i-bytes : goal.returns-then-i-bytes
returns-then-i-bytes g c =
    sym c.loop-i.invariant.same ∙ ap (with_bytes (take c.loop-i.i c.args.bytes.now)) (passing_short (g.T.ByteTest.passes c.args.test.now) c.args.count c.args.bytes.now c.loop-i.i c.loop-i-test.true c.if-i-bytes.true)

pub returns-then-not-is_met : goal.returns-then-not-is_met
returns-then-not-is_met g c =
    sym c.loop-i.invariant.same ∙ ap (with_bytes (take c.loop-i.i c.args.bytes.now)) (passing_off (g.T.ByteTest.passes c.args.test.now) c.args.count c.args.bytes.now c.loop-i.i c.loop-i-test.true c.if-i-bytes.false (sym c.is_met.ensures ∙ c.if-not-is_met.true))

pub loop-i-preserved : goal.loop-i-preserved
loop-i-preserved g c =
    let test = g.T.ByteTest.passes c.args.test.now in
    let i = c.loop-i.i in
    let more = take_more c.args.bytes.now i 0 (omega arith) in
    record {
      within = omega arith;
      same = ap (λ (front : List ℕ). with_bytes front (passing_at test (c.args.count - (i + 1)) (drop (i + 1) c.args.bytes.now))) more
          ∙ sym (with_bytes-byte (take i c.args.bytes.now) (get_or c.args.bytes.now i 0) (passing_at test (c.args.count - (i + 1)) (drop (i + 1) c.args.bytes.now)))
          ∙ ap (with_bytes (take i c.args.bytes.now)) (sym (passing_more test c.args.count c.args.bytes.now i c.loop-i-test.true (omega arith) (sym c.is_met.ensures ∙ c.if-not-is_met.false)))
          ∙ c.loop-i.invariant.same;
    }

pub returns : goal.returns
returns g c =
    let at : c.loop-i.i ≡ c.args.count = omega arith in
    sym c.loop-i.invariant.same ∙ ap (with_bytes (take c.loop-i.i c.args.bytes.now)) (passing_done (g.T.ByteTest.passes c.args.test.now) c.args.count c.args.bytes.now c.loop-i.i c.loop-i-test.false)
    ∙ ap (λ (t : List ℕ). Ok (t, drop c.loop-i.i c.args.bytes.now)) (append-nil (take c.loop-i.i c.args.bytes.now))
    ∙ ap (λ (i : ℕ). Ok (take i c.args.bytes.now, drop i c.args.bytes.now)) at ∙ ap (λ (r : List ℕ). Ok (take c.args.count c.args.bytes.now, r)) (sym (slice_from c.args.bytes.now c.args.count))
