use Rattle.ref_store.proofs.Named.{one_value, value_from}
use Rattle.ref_store.proofs.laws.value_is_told.Goals as goal

pub returns-clause-found : goal.returns-clause-found
returns-clause-found g c value there is = value_from g.w c.args.name.now value there is

pub returns-clause-one : goal.returns-clause-one
returns-clause-one g c a b one two = one_value g.w c.args.name.now a b one two
