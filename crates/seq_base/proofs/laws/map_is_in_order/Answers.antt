use Rattle.std.proofs.lemmas.List.Elements.{All-from_recursion}
use Rattle.seq_base.specs.declared.map.Entry.{Entry}
use Rattle.seq_base.specs.declared.mode.Mode.TheVariants.{Folder}
use Rattle.seq_base.proofs.Lookups.{in_order}
use Rattle.std.specs.Prelude.{◌≢◌, ℕ, List}
use Rattle.seq_base.proofs.laws.map_is_in_order.Goals as goal

pub returns-clause-order : goal.returns-clause-order
returns-clause-order c = in_order c.args.entries.now

pub returns-clause-files : goal.returns-clause-files
returns-clause-files c = λ map. All-from_recursion (λ (e : List ℕ × Entry). e.1.mode ≢ Folder) c.args.entries.now map.files
