use Rattle.std.proofs.Common.{◌≡◌, ℕ, ◌<◌, false, length, take, get_or}
use Rattle.std.specs.List.{list_any}
use Rattle.tree_merge.specs.declared.plans.Planned.{Planned}
use Rattle.tree_merge.specs.Plans.{is_under, is_upper}
use Rattle.tree_merge.proofs.clash.mark_all.Given as goal

abbrev pub invariant-loop-i : goal.invariant-loop-i
invariant-loop-i l = record {
  uppers_length : length l.uppers ≡ length l.rows;
  lowers_length : length l.lowers ≡ length l.rows;
  upper : (k : ℕ) (d : Planned) → k < l.i → get_or l.uppers k false ≡ is_upper l.rows (get_or l.rows k d);
  lower : (k : ℕ) (d : Planned) → k < length l.rows → get_or l.lowers k false ≡ list_any (λ s. is_under s (get_or l.rows k d)) (take l.i l.rows);
}
