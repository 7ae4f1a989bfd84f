use Rattle.std.proofs.Common.{ℕ, ◌+◌, sym, ap, ◌∙◌, []}
use Rattle.std.proofs.lemmas.Result.{err_from_is_err_and}
use Rattle.index_file.specs.Reading.{entry_at, entries_at}
use Rattle.index_file.proofs.EntryLoop.{goes_on, entry_fails, append_fails, appended_len, is_done}
use Rattle.index_file.proofs.read.entries_of.Goals as goal

pub returns-in_err-append-in-Ok : goal.returns-in_err-append-in-Ok
returns-in_err-append-in-Ok c =
    let p = err_from_is_err_and c.from_residual-in_err-append-in-Ok.result c.from_residual-in_err-append-in-Ok.ensures.1 in
    let read = ap (λ (n : ℕ). entry_at (n + 1) c.loop-i.rest.now) (sym c.from.ensures) ∙ c.in-Ok.ensures in
    rw (p.1, p.2)
    (append_fails c.in_err-append-in-Ok.field-0.0 c.args.count c.loop-i.i c.loop-i.entries.items c.in-Ok.found.0 c.loop-i.rest.now c.in-Ok.found.1.now (entries_at c.args.count [] c.args.bytes.now) c.loop-i-test.true c.loop-i.invariant.number
    read c.in_err-append-in-Ok.ensures.gives c.loop-i.invariant.rest)

pub returns-in-Err : goal.returns-in-Err
returns-in-Err c =
    let fails = rw c.from.ensures at c.in-Err.ensures in
    entry_fails c.in-Err.fault c.args.count c.loop-i.i c.loop-i.entries.items c.loop-i.rest.now (entries_at c.args.count [] c.args.bytes.now) c.loop-i-test.true c.loop-i.invariant.number fails c.loop-i.invariant.rest

pub loop-i-preserved : goal.loop-i-preserved
loop-i-preserved c =
    let read = ap (λ (n : ℕ). entry_at (n + 1) c.loop-i.rest.now) (sym c.from.ensures) ∙ c.in-Ok.ensures in
    record {
      rest =
          goes_on c.args.count c.loop-i.i c.loop-i.entries.items c.append.new.entries.items c.in-Ok.found.0 c.loop-i.rest.now c.in-Ok.found.1.now (entries_at c.args.count [] c.args.bytes.now) c.loop-i-test.true c.loop-i.invariant.number
          read c.in_ok-append-in-Ok.ensures.gives c.loop-i.invariant.rest;
      number =
          appended_len c.loop-i.entries.items c.in-Ok.found.0 c.append.new.entries.items c.loop-i.i c.in_ok-append-in-Ok.ensures.gives c.loop-i.invariant.number;
      fronts = c.in_ok-append-in-Ok.ensures.holds;
    }

pub returns : goal.returns
returns c =
    is_done c.args.count c.loop-i.i c.loop-i.entries.items c.loop-i.rest.now (entries_at c.args.count [] c.args.bytes.now) c.loop-i-test.false c.loop-i.invariant.rest
