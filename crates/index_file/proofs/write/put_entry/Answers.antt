use Rattle.std.proofs.Common.{◌≡◌, ◌+◌, ◌*◌, ◌++◌, length, ap, ◌∙◌, arith}
use Rattle.std.specs.Int.{w16, w32, to_be_bytes}
use Rattle.index_file.specs.Spelling.{flags}
use Rattle.index_file.proofs.Written.{seven_pieces, row_by}
use Rattle.index_file.proofs.write.put_entry.Goals as goal

pub returns-clause-text : goal.returns-clause-text
returns-clause-text c =
    let bits : c.from.result * 4096 + length c.bytes-path.result.now ≡ flags 0 c.args.entry.now = omega (arith, c.from.ensures, ap length c.bytes-path.ensures.same) in
    seven_pieces c.put_zeros-3.result c.args.out.now.items c.put_zeros.new.out.items c.extend_from_slice.new.self.items c.put_zeros-2.new.out.items c.extend_from_slice-2.new.self.items c.extend_from_slice-3.new.self.items c.extend_from_slice-4.new.self.items c.put_zeros-3.new.out.items
    _ _ _ _ _ _ _
    c.in_ok-put_zeros.ensures
    (c.in_ok-extend_from_slice.ensures.items ∙ ap (λ bs. c.put_zeros.new.out.items ++ bs) (c.to_be_bytes.ensures ∙ ap (to_be_bytes w32) c.number.ensures))
    c.in_ok-put_zeros-2.ensures
    (c.in_ok-extend_from_slice-2.ensures.items ∙ ap (λ bs. c.put_zeros-2.new.out.items ++ bs) c.bytes.ensures.same)
    (c.in_ok-extend_from_slice-3.ensures.items ∙ ap (λ bs. c.extend_from_slice-2.new.self.items ++ bs) (c.to_be_bytes-2.ensures ∙ ap (to_be_bytes w16) bits))
    (c.in_ok-extend_from_slice-4.ensures.items ∙ ap (λ bs. c.extend_from_slice-3.new.self.items ++ bs) c.bytes-path.ensures.same)
    (rw c.bytes-path.ensures.same at c.put_zeros-3.ensures)

pub returns-clause-row : goal.returns-clause-row
returns-clause-row c = row_by c.put_zeros-3.result c.args.entry.now c.requires c.bytes-path.ensures.path c.bytes.ensures.width c.bytes.ensures.bytes
