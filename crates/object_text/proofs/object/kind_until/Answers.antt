use Rattle.std.proofs.Common.{None}
use Rattle.grammar.specs.Keywords.{may_of, value_of}
use Rattle.grammar.proofs.Words.{valued_of}
use Rattle.object_text.specs.ReadObjects.{kinds}
use Rattle.object_text.proofs.ObjectLaws.{kind_read}
use Rattle.object_text.proofs.object.kind_until.Goals as goal

pub returns-in-None : goal.returns-in-None
returns-in-None c =
    valued_of (may_of kinds) (value_of kinds) c.args.stop c.args.bytes.now c.in_ok-word.word.now c.in_ok-word.rest.now None c.in_ok-word.ensures.read (kind_read c.in_ok-word.word.now None c.in-None.ensures)
