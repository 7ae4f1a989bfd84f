use Rattle.std.proofs.Common.{subst}
use Rattle.seq_base.specs.Words.{Text}
use Rattle.seq_model.specs.Commands.{command_of}
use Rattle.seq_top.proofs.Judged.{caused}
use Rattle.seq_top.proofs.Printed.{told_text}
use Rattle.seq_top.specs.Answers.{Prints, tells}
use Rattle.seq_top.proofs.invocation.invoke.Goals as goal

pub returns-clause-answers : goal.returns-clause-answers
returns-clause-answers g c = record {
  judged = c.judge-judged.result.outcome;
  own = c.judge-judged.result.own;
  judges = c.judge-judged.ensures.judges;
  keeps = c.judge-judged.ensures.keeps;
  fits_judged = c.print.ensures.fits;
  prints = λ sink_told.
      subst (λ (text : Text). Prints c.print.result text (g.O.Sink.bytes c.args.out.now) (g.O.Sink.bytes c.print.new.out))
      (told_text c.judge-judged.result.tells (tells (command_of c.args.words.now)) c.judge-judged.result.outcome c.judge-judged.result.own c.judge-judged.ensures.tells)
      (c.print.ensures.prints sink_told);
  cause =
      caused g.S.Store.told c.print.result c.judge-judged.result.outcome _ _ _ _ c.print.ensures.fits c.judge-judged.ensures.cause c.print.ensures.cause;
}
