use Rattle.std.proofs.Common.{ℕ, ◌+◌, List, drop, sym, subst}
use Rattle.ident_text.specs.ReadScripts.{quoted_value}
use Rattle.ident_text.proofs.ScriptLaws.{Unquoting, unquoting_more}
use Rattle.ident_text.proofs.quotes.unquoted.Goals as goal

pub loop-b-preserved : goal.loop-b-preserved
loop-b-preserved c =
    subst (λ (t : List ℕ). Unquoting (quoted_value c.args.word.now) t c.in-Some.next (drop (c.loop-b.b-index + 1) c.args.word.now)) (sym c.in_ok-show.ensures)
    (unquoting_more (quoted_value c.args.word.now) c.loop-b.value.items c.args.word.now c.loop-b.quotes c.in-Some.next c.loop-b.b-index c.loop-b-test.true c.in-Some.ensures c.loop-b.invariant)
