use Rattle.std.proofs.Common.{◌≡◌, ◌++◌, length, map}
use Rattle.std.specs.FinMap as files
use Rattle.std.specs.List.{filter}
use Rattle.seq_outside.specs.Seen.{HasReadCause}
use Rattle.seq_outside.specs.Seen.Cause.{ByNone}
use Rattle.state_text.specs.declared.state_file.StateFile.{StateFile}
use Rattle.state_text.specs.Places.{state_path}
use Rattle.state_found.specs.Found.{is_asked}
use Rattle.state_found.specs.Judged.{files_found}
use Rattle.state_found.proofs.read.found_files.Given as goal

-- the files that were read, and those that are left, over a store that is as before
abbrev pub invariant-loop-rest : goal.invariant-loop-rest
invariant-loop-rest g l = record {
  found : g.S.Store.told
      → l.found.items ++ map (λ (f : StateFile). (f, files.get (g.S.Store.seen l.fn.store).content (state_path l.verb f))) (filter is_asked l.rest)
      ≡ files_found (g.S.Store.seen l.fn.store).content l.verb;
  same : g.S.Store.told → (g.S.Store.seen l.store).content ≡ (g.S.Store.seen l.fn.store).content;
  cause : HasReadCause g.S.Store.told ByNone (g.S.Store.seen l.fn.store) (g.S.Store.seen l.store);
}

abbrev pub decreases-loop-rest : goal.decreases-loop-rest
decreases-loop-rest g l = length l.rest
