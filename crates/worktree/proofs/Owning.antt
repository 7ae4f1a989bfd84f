-- The paths of writes that are a switch's own.
use Rattle.std.proofs.Common.{◌≡◌, inl, inr, false, List, [], ◌∷◌, ◌++◌, refl, sym, subst}
use Rattle.std.specs.List.{AllByRecursion}
use Rattle.std.proofs.lemmas.Bool.{false_from_ne_true, or_from}
use Rattle.seq_base.specs.Words.{Path}
use Rattle.seq_base.specs.StorePaths.{IsStorePath}
use Rattle.seq_base.proofs.Shape.{same_path}
use Rattle.seq_base.proofs.StorePathLemmas.{path_is_store_path}
use Rattle.seq_outside.specs.declared.write.Write.{Write}
use Rattle.seq_outside.specs.Writes.{HasStorePath, is_at, is_written, path_of}
use Rattle.worktree.specs.Own.{AreOwn, HasOwnPath, IsOwn}

pushed : (ws : List Write) (x : Write) → HasOwnPath x → AreOwn ws → AreOwn (ws ++ x ∷ [])
pushed [] x here own = (here, tt)
pushed (w ∷ ws) x here own = (own.0, pushed ws x here own.1)

pub own_more : (old new : List Write) (x : Write) → new ≡ old ++ x ∷ [] → HasOwnPath x → AreOwn old → AreOwn new
own_more old new x is here own = subst AreOwn (sym is) (pushed old x here own)

store_path : (path : Path) → IsOwn path → IsStorePath path
store_path path (inl index) = subst IsStorePath (sym index) refl
store_path path (inr is) = path_is_store_path path is

pub own_store_paths : (ws : List Write) → AreOwn ws → AllByRecursion HasStorePath ws
own_store_paths [] own = tt
own_store_paths (w ∷ ws) own = (store_path (path_of w) own.0, own_store_paths ws own.1)

-- a path of others is not written
pub own_none : (ws : List Write) (path : Path) → AreOwn ws → (IsOwn path → ⊥) → is_written ws path ≡ false
own_none [] path own other = refl
own_none (w ∷ ws) path own other =
    or_from (is_at path w) (is_written ws path)
    (false_from_ne_true (is_at path w) (λ is. other (subst IsOwn (sym (same_path path (path_of w) is)) own.0)))
    (own_none ws path own.1 other)
