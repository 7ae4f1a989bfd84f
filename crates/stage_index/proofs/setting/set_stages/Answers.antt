use Rattle.std.proofs.Common.{rules, ◌≡◌, List, ap, ◌∙◌, subst, sym}
use Rattle.index_file.specs.declared.entry.IndexEntry.{IndexEntry}
use Rattle.stage_index.specs.Staged.{others_of, stages_at, with_stages}
use Rattle.index_file.specs.Entries.{IsInOrder}
use Rattle.stage_index.proofs.OrderedStages.{set_in_order}
use Rattle.stage_index.proofs.Stagings.{others_kept, stages_set}
use Rattle.stage_index.proofs.setting.set_stages.Goals as goal

pub returns-clause-stages : goal.returns-clause-stages
returns-clause-stages c =
    let set : c.insert_all.new.entries.items ≡ with_stages c.args.entries.now.items c.args.path.now c.args.stages = search rules in
    ap (λ (es : List IndexEntry). stages_at es c.args.path.now) set ∙ stages_set c.args.entries.now.items c.args.path.now c.args.stages

pub returns-clause-others : goal.returns-clause-others
returns-clause-others c =
    let set : c.insert_all.new.entries.items ≡ with_stages c.args.entries.now.items c.args.path.now c.args.stages = search rules in
    ap (λ (es : List IndexEntry). others_of es c.args.path.now) set ∙ others_kept c.args.entries.now.items c.args.path.now c.args.stages

pub returns-clause-in_order : goal.returns-clause-in_order
returns-clause-in_order c order first apart =
    let set : c.insert_all.new.entries.items ≡ with_stages c.args.entries.now.items c.args.path.now c.args.stages = search rules in
    subst IsInOrder (sym set) (set_in_order c.args.entries.now.items c.args.path.now c.args.stages order first apart)
