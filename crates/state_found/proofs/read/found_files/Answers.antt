use Rattle.std.proofs.Common.{rules, refl}
use Rattle.state_found.proofs.read.found_files.Goals as goal

pub loop-rest-init : goal.loop-rest-init
loop-rest-init g c = record {
  found = λ told. rw (c.new-found.ensures.items, c.files_of-rest.ensures) refl;
  same = λ told. refl;
  cause = search rules;
}
