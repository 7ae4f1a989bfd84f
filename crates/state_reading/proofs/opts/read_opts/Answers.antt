use Rattle.std.proofs.lemmas.Result.{IfOk-weaker}
use Rattle.state_reading.proofs.OptLaws.{opts_recalled}
use Rattle.state_reading.proofs.opts.read_opts.Goals as goal

pub returns : goal.returns
returns c = IfOk-weaker c.opts_at.result _ _ (λ o e. opts_recalled c.args.bytes.now o e) c.opts_at.ensures
