use Rattle.seq_words.proofs.Kept.{counted_none, counted_some}
use Rattle.seq_words.proofs.read.stands_once.Goals as goal

pub returns-in-Some : goal.returns-in-Some
returns-in-Some c = λ all h. counted_some c.args.name.now all c.texts_given.result c.in-Some.texts c.in-Some.is (c.texts_given.ensures all h)

pub returns-in-None : goal.returns-in-None
returns-in-None c = λ all h. counted_none c.args.name.now all c.texts_given.result c.in-None.is (c.texts_given.ensures all h)
