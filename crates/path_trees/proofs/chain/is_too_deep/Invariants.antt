use Rattle.std.proofs.Common.{◌≡◌, length, nat_lt}
use Rattle.std.specs.List.{AllByRecursion, list_any}
use Rattle.seq_base.specs.Paths.{IsPath, parts}
use Rattle.path_trees.proofs.chain.is_too_deep.Given as goal

abbrev pub invariant-loop-rest : goal.invariant-loop-rest
invariant-loop-rest l = record {
  deep : list_any (λ e. nat_lt 256 (length (parts e.0))) l.fn.rows ≡ list_any (λ e. nat_lt 256 (length (parts e.0))) l.rest;
  paths : AllByRecursion (λ e. IsPath e.0) l.rest → AllByRecursion (λ e. IsPath e.0) l.fn.rows;
}

abbrev pub decreases-loop-rest : goal.decreases-loop-rest
decreases-loop-rest l = length l.rest
