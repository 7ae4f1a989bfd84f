use Rattle.std.proofs.Common.{◌<◌, ◌^◌, length, arith}
use Rattle.object_text.proofs.ObjectLaws.{object_written}
use Rattle.object_text.proofs.object.object_text.Goals as goal

pub returns-clause-object : goal.returns-clause-object
returns-clause-object c =
    let fits : length c.args.bytes.now < 2 ^ 64 = omega arith in
    object_written (record { kind = c.args.kind; bytes = c.args.bytes.now }) c.in_ok-text.text.items fits c.in_ok-text.ensures
