use Rattle.ref_text.proofs.LogLoops.{read_digits}
use Rattle.ref_text.proofs.read_log.digits_of.Goals as goal

pub returns-clause-digits : goal.returns-clause-digits
returns-clause-digits c = read_digits c.args.bytes.now c.in_ok-digits.digits.now c.in_ok-digits.rest.now c.in_ok-digits.ensures
