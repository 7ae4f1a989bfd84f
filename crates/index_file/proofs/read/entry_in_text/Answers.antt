use Rattle.std.proofs.Common.{◌≡◌, ℕ, ◌+◌, ◌-◌, take, drop, ap, arith}
use Rattle.std.proofs.lemmas.List.{take_rest}
use Rattle.index_file.proofs.Rows.{given_fields}
use Rattle.index_file.proofs.read.entry_in_text.Goals as goal

pub returns : goal.returns
returns c =
    let len : 62 + c.from-end.result - 62 ≡ c.from-end.result = omega arith in
    given_fields c.entry_with_fields.result c.args.n c.args.text.now c.mode_numbered.result c.number_of-mode.result c.copy_from_slice.new.self c.flags_of-flags.result c.from-end.result _ _
    c.mode_numbered.ensures c.number_of-mode.ensures c.copy_from_slice.ensures.after c.flags_of-flags.ensures c.from-end.ensures (ap (λ (k : ℕ). take k (drop 62 c.args.text.now)) len) (take_rest c.args.text.now (62 + c.from-end.result)) c.entry_with_fields.ensures
