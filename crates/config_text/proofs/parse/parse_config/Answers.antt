use Rattle.std.proofs.Common.{◌≡◌, ℕ, ◌-◌, List, length, subst, sym, arith}
use Rattle.grammar.specs.declared.fault.ReadError.{ReadError}
use Rattle.grammar.specs.Gives.{Fails}
use Rattle.grammar.specs.Lines.{IsFirstBadLine}
use Rattle.grammar.proofs.Top.{read_whole, first_bad, left_within}
use Rattle.grammar.proofs.LineLaws.{first_bad_line}
use Rattle.config_text.specs.declared.config.Setting.{Setting}
use Rattle.config_text.specs.Configs.{IsConfig}
use Rattle.config_text.specs.Reading.{start}
use Rattle.config_text.specs.Returns.{fed, read_from}
use Rattle.config_text.proofs.ConfigLaws.{config_reads, bytes_fit}
use Rattle.config_text.proofs.parse.parse_config.Goals as goal

pub overflow_sub-text : goal.overflow_sub-text
overflow_sub-text c =
    left_within IsConfig (read_from (fed start)) config_reads c.args.text.now c.in-Err-Stopped.left
    (subst (λ (d : ReadError). Fails d (read_from (fed start) c.args.text.now)) c.in-Err-Stopped.field-0-is c.in-Err-Stopped.ensures)

pub returns-in-Ok-clause-reads : goal.returns-in-Ok-clause-reads
returns-in-Ok-clause-reads c =
    let k = read_whole IsConfig (read_from (fed start)) config_reads c.args.text.now c.in-Ok.settings.items c.in-Ok.ensures in
    subst (λ (x : List Setting). IsConfig x c.args.text.now × ((y : List Setting) → IsConfig y c.args.text.now → y ≡ x)) (sym c.from_settings.ensures) k

pub returns-in-Err-Stopped-clause-reads : goal.returns-in-Err-Stopped-clause-reads
returns-in-Err-Stopped-clause-reads c =
    let bad =
    first_bad IsConfig (read_from (fed start)) config_reads c.args.text.now c.in-Err-Stopped.left
    (subst (λ (d : ReadError). Fails d (read_from (fed start) c.args.text.now)) c.in-Err-Stopped.field-0-is c.in-Err-Stopped.ensures) in
    subst (λ (n : ℕ). IsFirstBadLine IsConfig c.args.text.now n) (sym c.line_of_place.ensures)
    (first_bad_line IsConfig c.args.text.now (length c.args.text.now - c.in-Err-Stopped.left) (bytes_fit c.args.text.now (λ i. omega (arith, c.type_inv.text i))) bad)
