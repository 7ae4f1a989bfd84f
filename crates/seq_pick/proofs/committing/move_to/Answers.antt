use Rattle.std.proofs.Common.{List, ℕ, ap, subst, sym, ◌∙◌}
use Rattle.ref_text.specs.Logs.{IsLogValue}
use Rattle.ref_text.specs.declared.log.LogLine.{LogLine}
use Rattle.ref_store.specs.Moves.{head_moved}
use Rattle.seq_model.specs.Making.{pick_line}
use Rattle.seq_model.specs.Refusing.{denied_git}
use Rattle.seq_outside.specs.Turns.{Turns, saying}
use Rattle.seq_pick.proofs.Lines.{line_is_value}
use Rattle.seq_pick.proofs.committing.move_to.Goals as goal

pub put_head-requires-clause-line : goal.put_head-requires-clause-line
put_head-requires-clause-line g c =
    subst IsLogValue (sym c.in_ok-line.ensures) (line_is_value c.args.head c.args.id c.args.ident.now _ c.requires.who)

pub returns-clause-turns : goal.returns-clause-turns
returns-clause-turns g c told =
    let line = c.in_ok-line.ensures ∙ ap (λ (message : List ℕ). pick_line c.args.head c.args.id c.args.ident.now message) c.as_slice.ensures in
    subst (λ (line : LogLine). Turns (λ x. x) c.put_head.result (saying denied_git (head_moved c.args.on.now c.args.id line) (g.S.Store.seen c.args.store.now).content) (g.S.Store.seen c.put_head.new.store).content)
    line (c.put_head.ensures.turns told)
