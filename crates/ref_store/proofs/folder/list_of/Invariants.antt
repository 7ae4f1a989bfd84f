use Rattle.std.proofs.Common.{◌≡◌, ◌++◌, length}
use Rattle.ref_store.proofs.folder.list_of.Given as goal

abbrev pub invariant-loop-named : goal.invariant-loop-named
invariant-loop-named l = l.list.items ++ l.refs.entries ≡ l.fn.refs.entries

abbrev pub decreases-loop-named : goal.decreases-loop-named
decreases-loop-named l = length l.refs.entries
