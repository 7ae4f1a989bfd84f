-- The id of an object is one: twenty bytes. So its file has its place.
use Rattle.std.proofs.Common.{◌≡◌, ℕ, zero, suc, ◌<◌, true, false, List, [], ◌∷◌, ◌++◌, take, drop, slice_index, codes, refl, ap, ◌∙◌, arith}
use Rattle.std.specs.Int.{byte_at, bytes_high_first}
use Rattle.std.specs.List.{AllByRecursion}
use Rattle.std.specs.Ordering.{eq_by_cmp}
use Rattle.std.proofs.lemmas.Bool.{and_from, both_ways, false_from_ne_true}
use Rattle.hex.specs.Hex.{IsBytes, encode_lower}
use Rattle.sha1.specs.Sha1.{digest_bytes, sha1}
use Rattle.object_text.specs.declared.object.Object.{Object}
use Rattle.object_text.specs.Objects.{object_text}
use Rattle.object_text.specs.Store.{object_id}
use Rattle.object_text.proofs.Lengths.{length-id}
use Rattle.seq_base.specs.Paths.{parts}
use Rattle.seq_base.specs.Repository.{is_file_place, object_path}
use Rattle.seq_base.specs.Words.{Path}
use Rattle.seq_base.specs.World.{is_below, path_cmp}
use Rattle.seq_base.proofs.Below.{below_at}
use Rattle.seq_base.proofs.Objects.{object_has_place}
use Rattle.seq_base.proofs.Shape.{same_path}
use Rattle.objects.specs.Named.{is_object_place}

bytes_of : (xs : List ℕ) → AllByRecursion (λ b. b < 256) xs → IsBytes xs
bytes_of [] all i = omega arith
bytes_of (x ∷ xs) all zero = all.0
bytes_of (x ∷ xs) all (suc i) = bytes_of xs all.1 i

byte_small : (k n : ℕ) → byte_at k n < 256
byte_small zero n = omega arith
byte_small (suc k) n = omega arith

high_first : (k n : ℕ) → AllByRecursion (λ b. b < 256) (bytes_high_first k n)
high_first zero n = tt
high_first (suc k) n = (byte_small k n, high_first k n)

both : (xs ys : List ℕ) → AllByRecursion (λ b. b < 256) xs → AllByRecursion (λ b. b < 256) ys → AllByRecursion (λ b. b < 256) (xs ++ ys)
both [] ys all others = others
both (x ∷ xs) ys all others = (all.0, both xs ys all.1 others)

digest : (h : List ℕ) (n : ℕ) → AllByRecursion (λ b. b < 256) (digest_bytes h n)
unfolding digest_bytes
digest h zero = tt
digest h (suc n) = both (digest_bytes h n) (bytes_high_first 4 (slice_index h n)) (digest h n) (high_first 4 (slice_index h n))

bytes-sha1 : (m : List ℕ) → IsBytes (sha1 m)
unfolding sha1
bytes-sha1 m = bytes_of _ (digest _ 5)

-- an object's file has its place
pub object_placed : (o : Object) → is_object_place (object_path (object_id o)) ≡ true
object_placed o =
    let id = object_id o in
    and_from (is_below (codes ".git/objects") (object_path id)) (is_file_place (parts (object_path id)))
    (below_at (codes ".git/objects") (object_path id) (take 2 (encode_lower id) ++ 47 ∷ drop 2 (encode_lower id), refl))
    (object_has_place id (bytes-sha1 (object_text o)) (length-id o))

-- a path that is no object's is not that of this one
pub away : (path : Path) (o : Object) → is_object_place path ≡ false → eq_by_cmp path_cmp path (object_path (object_id o)) ≡ false
away path o other = false_from_ne_true (eq_by_cmp path_cmp path (object_path (object_id o))) (λ same.
    both_ways (is_object_place path) other (ap is_object_place (same_path path (object_path (object_id o)) same) ∙ object_placed o))
