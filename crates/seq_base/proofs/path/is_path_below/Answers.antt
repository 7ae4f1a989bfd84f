use Rattle.std.proofs.Common.{sym, ◌∙◌, arith}
use Rattle.seq_base.proofs.PathsBelow.{path_below}
use Rattle.seq_base.proofs.path.is_path_below.Goals as goal

pub returns-in-None : goal.returns-in-None
returns-in-None c same =
    path_below c.args.folder.now c.args.name.now c.requires (omega arith) (sym c.is_text.ensures ∙ c.if-not-is_text.false) (sym c.in-None.ensures)
