use Rattle.std.proofs.Common.{Option, sym, ap, ◌∙◌}
use Rattle.std.specs.Prelude.{is_some}
use Rattle.ident_text.specs.declared.quotes.Quotes.{Quotes}
use Rattle.ident_text.proofs.ScriptLaws.{front_behind}
use Rattle.ident_text.proofs.quotes.QuotesScanScan.goes_on.Goals as goal

pub returns-in-Some-clause-test : goal.returns-in-Some-clause-test
returns-in-Some-clause-test c =
    λ seen b s e. ap (λ (o : Option Quotes). is_some o) (c.in-Some.ensures ∙ sym (front_behind c.args.self.now.quotes c.args.front.now seen b s e))

pub returns-in-Some-clause-seen : goal.returns-in-Some-clause-seen
returns-in-Some-clause-seen c = λ seen b s e on. front_behind c.args.self.now.quotes c.args.front.now seen b s e ∙ sym c.in-Some.ensures

pub returns-in-None-clause-test : goal.returns-in-None-clause-test
returns-in-None-clause-test c =
    λ seen b s e. ap (λ (o : Option Quotes). is_some o) (c.in-None.ensures ∙ sym (front_behind c.args.self.now.quotes c.args.front.now seen b s e))
