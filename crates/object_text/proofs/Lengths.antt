-- An id has twenty bytes.
use Rattle.std.proofs.Common.{◌≡◌, ℕ, zero, suc, ◌*◌, List, length, slice_index, refl, ◌∙◌, arith, length-append}
use Rattle.std.specs.Int.{to_be_bytes, w32}
use Rattle.sha1.specs.Sha1.{digest_bytes, sha1}
use Rattle.object_text.specs.declared.object.Object.{Object}
use Rattle.object_text.specs.Objects.{object_text}
use Rattle.object_text.specs.Store.{object_id}

length-digest : (h : List ℕ) (n : ℕ) → length (digest_bytes h n) ≡ 4 * n
unfolding digest_bytes
length-digest h zero = refl
length-digest h (suc n) = length-append (digest_bytes h n) (to_be_bytes w32 (slice_index h n)) ∙ omega (arith, length-digest h n)

length-sha1 : (m : List ℕ) → length (sha1 m) ≡ 20
unfolding sha1
length-sha1 m = length-digest _ 5

pub length-id : (o : Object) → length (object_id o) ≡ 20
length-id o = length-sha1 (object_text o)
