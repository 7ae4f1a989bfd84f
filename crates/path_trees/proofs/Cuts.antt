-- Entries by what stands in their paths behind so many bytes, one row after another.
use Rattle.std.proofs.Common.{◌≡◌, ℕ, ◌+◌, ◌-◌, ◌<◌, Bool, true, false, cond, not, List, length, take, drop, get_or, sym, ap, subst, ◌∙◌, ◌==◌}
use Rattle.std.specs.List.{AllByRecursion, starts_with}
use Rattle.std.proofs.lemmas.List.{take_rest}
use Rattle.seq_base.specs.declared.map.Entry.{Entry}
use Rattle.seq_outside.proofs.Firsts.{first_and_others}
use Rattle.path_trees.specs.Puts.{count_inside, cut, is_inside}
use Rattle.seq_base.specs.PathMaps.{Entries}

module _ (folder : List ℕ) (skip : ℕ) (rest : Entries) (x : List ℕ × Entry) (some : 0 < length rest) (is : x ≡ get_or rest 0 x) where
  counted : (same : Bool) → starts_with (λ a b. a == b) (take (length x.0 - skip) (drop skip x.0)) folder ≡ same
      → count_inside folder (cut skip rest) ≡ cond (not (not same)) (1 + count_inside folder (cut skip (take (length rest - 1) (drop 1 rest)))) 0
  counted same inside =
      ap (λ (rows : Entries). count_inside folder (cut skip rows)) (first_and_others rest x some is)
      ∙ ap (λ (b : Bool). cond (not (not b)) (1 + count_inside folder (cut skip (take (length rest - 1) (drop 1 rest)))) 0) (ap (is_inside folder) (sym (take_rest x.0 skip)) ∙ inside)

  pub stops : starts_with (λ a b. a == b) (take (length x.0 - skip) (drop skip x.0)) folder ≡ false → count_inside folder (cut skip rest) ≡ 0
  stops outside = counted false outside

  pub counts : starts_with (λ a b. a == b) (take (length x.0 - skip) (drop skip x.0)) folder ≡ true
      → count_inside folder (cut skip rest) ≡ 1 + count_inside folder (cut skip (take (length rest - 1) (drop 1 rest)))
  counts inside = counted true inside

  pub all_behind : (P : List ℕ × Entry → Type 0) → AllByRecursion P rest → P x × AllByRecursion P (take (length rest - 1) (drop 1 rest))
  all_behind P all = let both = subst (AllByRecursion P) (first_and_others rest x some is) all in (both.0, both.1)
