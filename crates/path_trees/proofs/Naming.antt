-- What is told of what was read of a tree, and of trees that were not put.
use Rattle.std.proofs.Common.{◌≡◌, ℕ, Bool, List, true, false, length, Option, Some, None, Result, Ok, Err, refl, subst, ◌∙◌, arith}
use Rattle.std.specs.Prelude.{nat_le, option_and_then}
use Rattle.std.specs.FinMap as held
use Rattle.std.proofs.lemmas.Bool.Decides.{nat_tests}
use Rattle.object_text.specs.declared.object.Object.{Object}
use Rattle.object_text.specs.Objects.{IsObject}
use Rattle.object_text.specs.ReadObjects.{object_from}
use Rattle.object_text.specs.Store.{content_limit, object_of, oversize, oversize_at, value_read}
use Rattle.seq_base.specs.Repository.{object_path}
use Rattle.object_text.specs.TreeMaps.{map_at}
use Rattle.object_text.proofs.ObjectLaws.{object_reads}
use Rattle.objects.proofs.Naming.{size_told}
use Rattle.seq_base.specs.Words.{Id, Text}
use Rattle.seq_base.specs.declared.map.Entry.{Entry}
use Rattle.seq_base.specs.World.{World}
use Rattle.seq_outside.specs.Halts.{Denies, halt_cause}
use Rattle.seq_outside.specs.Causes.{Rose}
use Rattle.seq_outside.specs.Seen.{Cause, HasCause, HasReadCause, NoneBlocked, Seen, Stays}
use Rattle.seq_outside.specs.Seen.Cause.{ByBlock, ByFault, ByNone}
use Rattle.seq_outside.specs.Turns.{Turns}
use Rattle.seq_outside.specs.declared.lack.Lack.{Lack}
use Rattle.path_trees.specs.Faults.{tree_cause}
use Rattle.path_trees.specs.Halts.{halt_of_put, halt_of_read}
use Rattle.path_trees.specs.Named.{map_named}
use Rattle.path_trees.specs.Puts.{HasPut}
use Rattle.path_trees.specs.Reads.{Blames, IsBadOnly}
use Rattle.seq_base.specs.PathMaps.{Entries}
use Rattle.path_trees.specs.declared.fault.TreeFault.{TreeFault}
use Rattle.path_trees.specs.declared.fault.TreeFault.TheVariants.{BadObject, TooLarge, Depth, Blocked, Fault, Memory}

-- an object that is bad, and not too large
bad_only : (w : World) (id : Id) → IsBadOnly w id → oversize_at w id ≡ None
unfolding oversize_at object_of
bad_only w id bad = file (held.get w (object_path id)) refl
  where
    sized : (text : Text) (o : Object) → held.get w (object_path id) ≡ Some text → IsObject o text → (t : Bool)
        → nat_le (length o.bytes) content_limit ≡ t → oversize (length o.bytes) ≡ None
    sized text o held is true fits = rw fits refl
    sized text o held is false over =
        absurd (bad.small (length o.bytes) (text, held, record { object = o; spelled = is; count_is = refl; above = grind (arith, nat_tests) }))

    object : (text : Text) → held.get w (object_path id) ≡ Some text → (read : Result Object ℕ) → object_from text ≡ read
        → option_and_then (λ o. oversize (length o.bytes)) (value_read read) ≡ None
    object text held (Ok o) is = sized text o held (object_reads.takes text o is) (nat_le (length o.bytes) content_limit) refl
    object text held (Err left) is = refl

    file : (found : Option Text) → held.get w (object_path id) ≡ found
        → option_and_then (λ text. option_and_then (λ o. oversize (length o.bytes)) (value_read (object_from text))) found ≡ None
    file None is = refl
    file (Some text) is = object text is (object_from text) refl

pub map_ok : (w : World) (id : Id) (m : Entries) → map_at w id ≡ Ok m → map_named w id ≡ Ok m
unfolding map_named
map_ok w id m is = rw is refl

-- what is told of a tree that has no map
pub map_err : (w : World) (id : Id) (fault : TreeFault) → Blames w fault (map_at w id)
    → Denies {Y = List (List ℕ × Entry)} (halt_of_read fault) (map_named w id)
unfolding map_named
map_err w id (BadObject bad) (is, only) = rw (is, bad_only w bad only) refl
map_err w id (TooLarge count) (bad, is, large) = rw (is, size_told w bad count large) refl
map_err w id Depth is = rw is refl
map_err w id (Blocked path) is = absurd is
map_err w id Fault is = tt
map_err w id Memory is = tt

-- what is told of trees that were not put
pub not_put : (fault : TreeFault) (means : Result Id Lack × World) (now : World) → HasPut (Err fault) means now
    → Turns {X = Id} {Y = Id} (λ id. id) (Err (halt_of_put fault)) means now
not_put (BadObject id) means now is = is
not_put (TooLarge count) means now is = is
not_put Depth means now is = is
not_put (Blocked path) means now is = is
not_put Fault means now is = tt
not_put Memory means now is = tt

-- what the answer says of the counts of the store
pub put_halts : (told : Type 0) (old new : Seen) (fault : TreeFault) → HasCause told (tree_cause fault) old new
    → HasCause told (halt_cause (halt_of_put fault)) old new
put_halts told old new (BadObject id) cause = cause
put_halts told old new (TooLarge count) cause = cause
put_halts told old new Depth cause = cause
put_halts told old new (Blocked path) cause = (cause.0, cause.2)
put_halts told old new Fault cause = cause
put_halts told old new Memory cause = cause

-- what no call changes, two do not
stays_after : (told : Type 0) (old now new : Seen) → Stays told old now → Stays told now new → Stays told old new
stays_after told old now new first then =
    let before = first.0 in
    let after = then.0 in
    let lent = first.2 in
    let lends = then.2 in
    (omega (arith, before, after), then.1 ∙ first.1, omega (arith, lent, lends), λ t. then.3 t ∙ first.3 t)

none_blocked : (old now new : Seen) → NoneBlocked old now → NoneBlocked now new → NoneBlocked old new
none_blocked old now new first then = (then.0 ∙ first.0, then.1 ∙ first.1)

-- a call that reads, after another that did
pub read_after : (told : Type 0) (old now new : Seen) (cause : Cause) → HasReadCause told ByNone old now → HasReadCause told cause now new
    → HasReadCause told cause old new
read_after told old now new ByNone first then =
    (then.0 ∙ first.0, none_blocked old now new first.1 then.1, stays_after told old now new first.2 then.2)
read_after told old now new ByFault first then =
    let least = then.0 in
    let same = first.0 in
    (omega (arith, least, same), subst (λ (n : ℕ). Rose n new.faults) same then.1, none_blocked old now new first.1 then.2, stays_after told old now new first.2 then.3)
read_after told old now new ByBlock first then = absurd then
