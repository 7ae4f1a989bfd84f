use Rattle.std.proofs.Common.{rules, not}
use Rattle.std.specs.Str.{bytes_eq}
use Rattle.std.proofs.lemmas.Fn.{filter_same}
use Rattle.stage_index.proofs.setting.drop_path.Goals as goal

pub returns-clause-others : goal.returns-clause-others
returns-clause-others c = filter_same _ (λ e. not (bytes_eq e.path c.args.path.now)) _ (λ x r f' k. search rules) _ _ c.retain.ensures.filtered
