use Rattle.std.proofs.Common.{rules, ◌∙◌, [], subst}
use Rattle.std.specs.Prelude.{unwrap_or}
use Rattle.std.specs.FinMap as files
use Rattle.seq_base.specs.Words.{Text}
use Rattle.seq_base.specs.World.{World}
use Rattle.state_text.specs.declared.state_file.StateFile.TheVariants as file
use Rattle.state_text.specs.declared.verb.Verb.TheVariants.{Rebase}
use Rattle.state_text.specs.Places.{state_path}
use Rattle.state_found.specs.Judged.{IsRebaseJudged}
use Rattle.state_found.specs.Recalled.{Files}
use Rattle.state_found.proofs.read.rebase_at.Goals as goal

abbrev todo_at : World → Text
todo_at w = unwrap_or (files.get w (state_path Rebase file.RebaseTodo)) []

pub returns-clause-judged : goal.returns-clause-judged
returns-clause-judged g c = λ told.
    let w = (g.S.Store.seen c.args.store.now).content in
    let judged = c.in_ok-rebase_with_todo.field-0 in
    let is = subst (λ (v : World). IsRebaseJudged c.deref.result.now (todo_at v) judged) (c.in_ok-found.ensures.reads.0 told)
    (c.in_ok-rebase_with_todo.ensures.judged told) in
    subst (λ (fs : Files). IsRebaseJudged fs (todo_at w) judged) (c.deref.ensures.value ∙ c.in_ok-found.ensures.found told) is

pub returns-in_err-rebase_with_todo-clause-reads : goal.returns-in_err-rebase_with_todo-clause-reads
returns-in_err-rebase_with_todo-clause-reads g c =
    let first = c.in_ok-found.ensures.reads in
    let then = c.in_err-rebase_with_todo.ensures.reads in
    (λ told. then.0 told ∙ first.0 told, search rules)
