use Rattle.std.proofs.Common.{ℕ, ◌+◌, Bool, List, Option, Some, Ok, take, get_or, sym, ◌∙◌, ap, refl}
use Rattle.std.proofs.lemmas.List.{take_more}
use Rattle.grammar.proofs.Scans.{scan_more, scan_off, scan_ended, scan_short, slice_from}
use Rattle.grammar.proofs.scan.span_of.Goals as goal

abbrev word : List ℕ → Option (List ℕ)
word w = Some w

pub returns-then-b-stop-clause-read : goal.returns-then-b-stop-clause-read
returns-then-b-stop-clause-read g c =
    sym c.loop-i.invariant.read ∙ scan_ended (g.S.Scan.may c.args.scan.now) word c.args.stop c.args.bytes.now c.loop-i.i (take c.loop-i.i c.args.bytes.now) c.loop-i-test.true c.if-b-stop.true refl
    ∙ ap (λ (r : List ℕ). Ok (take c.loop-i.i c.args.bytes.now, r)) (sym (slice_from c.args.bytes.now (c.loop-i.i + 1)))

pub returns-then-not-goes_on-clause-read : goal.returns-then-not-goes_on-clause-read
returns-then-not-goes_on-clause-read g c =
    let more = take_more c.args.bytes.now c.loop-i.i 0 c.loop-i-test.true in
    let test = c.goes_on.ensures.test (take c.loop-i.i c.args.bytes.now) (get_or c.args.bytes.now c.loop-i.i 0) c.loop-i.invariant.seen more in
    let may = ap (λ (m : List ℕ → Bool). m (take (c.loop-i.i + 1) c.args.bytes.now)) c.loop-i.invariant.same in
    sym c.loop-i.invariant.read ∙ scan_off (g.S.Scan.may c.args.scan.now) word c.args.stop c.args.bytes.now c.loop-i.i c.loop-i-test.true c.if-b-stop.false
    (sym may ∙ sym test ∙ c.if-not-goes_on.true)

pub loop-i-preserved : goal.loop-i-preserved
loop-i-preserved g c =
    let more = take_more c.args.bytes.now c.loop-i.i 0 c.loop-i-test.true in
    let test = c.goes_on.ensures.test (take c.loop-i.i c.args.bytes.now) (get_or c.args.bytes.now c.loop-i.i 0) c.loop-i.invariant.seen more in
    let may = ap (λ (m : List ℕ → Bool). m (take (c.loop-i.i + 1) c.args.bytes.now)) c.loop-i.invariant.same in
    record {
      same = c.goes_on.ensures.same ∙ c.loop-i.invariant.same;
      seen =
          c.goes_on.ensures.seen (take c.loop-i.i c.args.bytes.now) (get_or c.args.bytes.now c.loop-i.i 0) c.loop-i.invariant.seen more c.if-not-goes_on.false;
      read = sym (scan_more (g.S.Scan.may c.args.scan.now) word c.args.stop c.args.bytes.now c.loop-i.i c.loop-i-test.true c.if-b-stop.false
          (sym may ∙ sym test ∙ c.if-not-goes_on.false)) ∙ c.loop-i.invariant.read;
    }

pub returns-clause-read : goal.returns-clause-read
returns-clause-read g c =
    sym c.loop-i.invariant.read ∙ scan_short (g.S.Scan.may c.args.scan.now) word c.args.stop c.args.bytes.now c.loop-i.i c.loop-i-test.false
