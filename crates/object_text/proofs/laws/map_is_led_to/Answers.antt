use Rattle.object_text.proofs.ChainLaws.{led_to_row, row_led_to}
use Rattle.object_text.proofs.laws.map_is_led_to.Goals as goal

pub returns-clause-led : goal.returns-clause-led
returns-clause-led g c = λ has. row_led_to g.w c.args.id.now c.args.rows.now c.args.path.now c.args.entry.now c.requires has

pub returns-clause-found : goal.returns-clause-found
returns-clause-found g c = λ leads. led_to_row g.w c.args.id.now c.args.rows.now c.args.path.now c.args.entry.now c.requires leads
