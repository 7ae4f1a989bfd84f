-- What the test of store paths says of each path of a list.
use Rattle.std.proofs.Common.{◌≡◌, ℕ, true, false, ◌&&◌, List, [], ◌∷◌, refl}
use Rattle.std.specs.List.{AllByRecursion, list_all}
use Rattle.seq_base.specs.StorePaths.{IsStorePath, is_store_path}

-- where each path passes the test, each is a store path
pub each_is_store_path : (paths : List (List ℕ)) → list_all is_store_path paths ≡ true → AllByRecursion IsStorePath paths
each_is_store_path [] h = tt
each_is_store_path (path ∷ paths) h =
    elim (is_store_path path) as (λ t. is_store_path path ≡ t → t && list_all is_store_path paths ≡ true → IsStorePath path × AllByRecursion IsStorePath paths) [
      | true ↦ λ good rest. (good, each_is_store_path paths rest)
      | false ↦ λ bad rest. absurd cc
    ] refl h
