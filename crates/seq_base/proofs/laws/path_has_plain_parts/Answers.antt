use Rattle.seq_base.proofs.PlainParts.{path_parts, plain_parts}
use Rattle.seq_base.proofs.laws.path_has_plain_parts.Goals as goal

pub returns : goal.returns
returns c = (
  λ path. (path.some, path.short, path.text, path_parts c.args.bytes.now path),
  λ h. record { some = h.0; short = h.1; text = h.2; parts_are = plain_parts c.args.bytes.now h.3 },
)
