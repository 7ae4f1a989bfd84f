use Rattle.std.proofs.Common.{ℕ, List, length}
use Rattle.object_text.specs.ReadCommits.{Takes}
use Rattle.object_text.proofs.CommitLoops.{HeadersLoop}
use Rattle.object_text.proofs.headers.tail_of.Given as goal

abbrev pub invariant-loop-rest : goal.invariant-loop-rest
invariant-loop-rest l =
    (lines : List (List ℕ)) × HeadersLoop l.bytes lines l.behind l.rest × Takes l.taken.found l.taken.lasts l.taken.value.items lines

abbrev pub decreases-loop-rest : goal.decreases-loop-rest
decreases-loop-rest l = length l.rest
