use Rattle.std.proofs.Common.{◌≡◌, ℕ, ◌<◌, get_or, false}
use Rattle.ref_text.specs.ReadHeads.{ends_word}
use Rattle.ref_text.proofs.head.word_length.Given as goal

abbrev pub invariant-loop-place : goal.invariant-loop-place
invariant-loop-place l = (k : ℕ) → k < l.place → ends_word (get_or l.bytes k 0) ≡ false
