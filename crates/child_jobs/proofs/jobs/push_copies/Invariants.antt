use Rattle.std.proofs.Common.{◌≡◌, ◌++◌, take}
use Rattle.child_jobs.proofs.jobs.push_copies.Given as goal

abbrev pub invariant-loop-argument : goal.invariant-loop-argument
invariant-loop-argument l = l.words.items ≡ l.fn.words.items ++ take l.argument-index l.arguments
