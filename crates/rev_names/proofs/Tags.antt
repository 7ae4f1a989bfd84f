-- Tags that lead on.
use Rattle.std.proofs.Common.{◌≡◌, ◌≢◌, ℕ, ◌-◌, zero, suc, Err, refl, ap, arith}
use Rattle.seq_base.specs.Words.{Id}
use Rattle.seq_base.specs.World.{World}
use Rattle.seq_outside.specs.Halts.{◌>>=◌, for_reason}
use Rattle.objects.specs.Named.{object_named}
use Rattle.rev_names.specs.Commits.{commit_or_behind, found_within}
use Rattle.rev_names.specs.Faults.{bad_object}
use Rattle.rev_names.specs.declared.fault.RevFault.TheVariants.{NotACommit}

pub no_more : (left : ℕ) (w : World) (id : Id) → left ≡ 0
    → found_within left w id ≡ (for_reason bad_object (object_named w id) >>= λ o. commit_or_behind (λ _. Err NotACommit) id o.kind o.bytes)
no_more zero w id e = unfold found_within in refl
no_more (suc n) w id e = absurd (omega (arith, e))

pub one_more : (left : ℕ) (w : World) (id : Id) → left ≢ 0
    → found_within left w id ≡ (for_reason bad_object (object_named w id) >>= λ o. commit_or_behind (found_within (left - 1) w) id o.kind o.bytes)
one_more zero w id ne = absurd (ne refl)
one_more (suc n) w id ne =
    unfold found_within in ap (λ (k : ℕ). for_reason bad_object (object_named w id) >>= λ o. commit_or_behind (found_within k w) id o.kind o.bytes) (omega arith)

pub ruleset tag_steps = (no_more, one_more)
