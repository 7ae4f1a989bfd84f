-- What two steps that come to one answer and world have in common.
use Rattle.std.proofs.Common.{◌≡◌, ap, Result}
use Rattle.seq_base.specs.World.{World}

pub same_answer : {E X : Type 0} {r s : Result X E} {u v : World} → ◌≡◌ {A = Result X E × World} (r, u) (s, v) → r ≡ s
same_answer {E} {X} is = ap (λ (t : Result X E × World). t.0) is

pub same_world : {E X : Type 0} {r s : Result X E} {u v : World} → ◌≡◌ {A = Result X E × World} (r, u) (s, v) → u ≡ v
same_world {E} {X} is = ap (λ (t : Result X E × World). t.1) is
