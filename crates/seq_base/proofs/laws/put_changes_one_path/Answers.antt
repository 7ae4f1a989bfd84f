use Rattle.seq_base.proofs.Lookups.{put_found, put_others}
use Rattle.seq_base.proofs.laws.put_changes_one_path.Goals as goal

pub returns-clause-found : goal.returns-clause-found
returns-clause-found c = put_found c.args.entries.now c.args.path.now c.args.entry

pub returns-clause-others : goal.returns-clause-others
returns-clause-others c = put_others c.args.entries.now c.args.path.now c.args.entry
