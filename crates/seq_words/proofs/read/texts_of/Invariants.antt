use Rattle.std.proofs.Common.{◌≡◌, ◌++◌, length, map}
use Rattle.std.specs.List.{list_all}
use Rattle.seq_base.specs.StorePaths.{is_text}
use Rattle.seq_words.proofs.read.texts_of.Given as goal

abbrev pub invariant-loop-rest : goal.invariant-loop-rest
invariant-loop-rest l = (map (λ text. text.now) l.texts.items ++ l.rest ≡ l.words) × (list_all is_text l.rest ≡ list_all is_text l.words)

abbrev pub decreases-loop-rest : goal.decreases-loop-rest
decreases-loop-rest l = length l.rest
