-- Parents of parents.
use Rattle.std.proofs.Common.{◌≡◌, ◌≢◌, ℕ, ◌-◌, zero, suc, Ok, refl, ap, arith}
use Rattle.seq_base.specs.World.{World}
use Rattle.seq_outside.specs.Halts.{◌>>=◌}
use Rattle.rev_names.specs.Commits.{ancestor_at, parent_at}
use Rattle.rev_names.specs.declared.commit.FoundCommit.{FoundCommit}

pub none_before : (left : ℕ) (w : World) (found : FoundCommit) → left ≡ 0 → ancestor_at left w found ≡ Ok found
none_before zero w found e = unfold ancestor_at in refl
none_before (suc n) w found e = absurd (omega (arith, e))

pub one_before : (left : ℕ) (w : World) (found : FoundCommit) → left ≢ 0
    → ancestor_at left w found ≡ (parent_at w found.commit.parents 1 >>= λ parent. ancestor_at (left - 1) w parent)
one_before zero w found ne = absurd (ne refl)
one_before (suc n) w found ne =
    unfold ancestor_at in ap (λ (k : ℕ). parent_at w found.commit.parents 1 >>= λ parent. ancestor_at k w parent) (omega arith)

pub ruleset ancestor_steps = (none_before, one_before)
