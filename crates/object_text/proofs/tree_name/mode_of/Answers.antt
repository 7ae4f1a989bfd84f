use Rattle.std.proofs.Common.{None}
use Rattle.grammar.specs.Keywords.{may_of, value_of}
use Rattle.grammar.proofs.Words.{valued_of}
use Rattle.object_text.specs.ReadTrees.{modes, mode_from}
use Rattle.object_text.proofs.Modes.{mode_read}
use Rattle.object_text.proofs.tree_name.mode_of.Goals as goal

pub returns-in-None : goal.returns-in-None
unfolding mode_from
returns-in-None c =
    valued_of (may_of modes) (value_of modes) 32 c.args.bytes.now c.in_ok-word.word.now c.in_ok-word.rest.now None c.in_ok-word.ensures.read (mode_read c.in_ok-word.word.now None c.in-None.ensures)
