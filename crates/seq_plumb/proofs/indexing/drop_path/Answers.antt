use Rattle.std.proofs.Common.{rules, not, subst, sym}
use Rattle.std.specs.List.{AllByRecursion}
use Rattle.std.specs.Str.{bytes_eq}
use Rattle.std.proofs.lemmas.Fn.{filter_same}
use Rattle.index_file.specs.Entries.{IsInOrder, IsStaged}
use Rattle.seq_plumb.proofs.Indexed.{others_in_order, others_staged}
use Rattle.seq_plumb.proofs.indexing.drop_path.Goals as goal

pub returns-clause-others : goal.returns-clause-others
returns-clause-others c = filter_same _ (λ e. not (bytes_eq e.path c.args.path.now)) _ (λ x r f' k. search rules) _ _ c.retain.ensures.filtered

pub returns-clause-order : goal.returns-clause-order
returns-clause-order c order = subst IsInOrder (sym (returns-clause-others c)) (others_in_order c.args.index.now.items c.args.path.now order)

pub returns-clause-staged : goal.returns-clause-staged
returns-clause-staged c staged =
    subst (AllByRecursion IsStaged) (sym (returns-clause-others c)) (others_staged c.args.index.now.items c.args.path.now staged)
