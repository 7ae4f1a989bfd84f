use Rattle.std.proofs.Common.{not, rules}
use Rattle.std.proofs.lemmas.Fn.{filter_same}
use Rattle.std.specs.Str.{bytes_eq}
use Rattle.ref_store.proofs.removal.drop_name.Goals as goal

pub returns : goal.returns
returns c = filter_same _ (λ r. not (bytes_eq r.0 c.args.name.now)) _ (λ x r f' k. search rules) _ _ c.retain.ensures.filtered
