-- What is told of an object that was put, or was not.
use Rattle.std.proofs.Common.{◌≡◌, ℕ, ◌<◌, ◌≤◌, Bool, true, false, cond, length, Option, Some, None, Ok, Err, refl, sym, ap, ◌∙◌, arith}
use Rattle.std.specs.Prelude.{nat_lt}
use Rattle.std.specs.FinMap as map
use Rattle.std.specs.Str.{bytes_eq}
use Rattle.std.proofs.lemmas.Bool.{false_from_ne_true}
use Rattle.std.proofs.lemmas.Bool.Decides.{nat_tests}
use Rattle.std.proofs.lemmas.Slice.Eq.{bytes_eq-Decides}
use Rattle.object_text.specs.declared.object.Object.{Object}
use Rattle.object_text.specs.Objects.{object_text}
use Rattle.object_text.specs.Store.{Put, content_limit, object_id}
use Rattle.seq_base.specs.Repository.{object_path}
use Rattle.seq_base.specs.Words.{Id, Text}
use Rattle.seq_base.specs.World.{World, is_blocked}
use Rattle.seq_outside.specs.Halts.{halt_cause}
use Rattle.seq_outside.specs.Seen.{HasCause, Seen}
use Rattle.seq_outside.specs.Turns.{Turns, put_in}
use Rattle.seq_outside.specs.declared.halt.Halt.{Halt}
use Rattle.seq_outside.specs.declared.lack.Lack.{Lack}
use Rattle.seq_outside.specs.declared.lack.Lack.TheVariants.{Place}
use Rattle.objects.specs.Causes.{object_cause}
use Rattle.objects.specs.Halts.{HasPutHalt}
use Rattle.objects.specs.Puts.{HasPut, IsKept, IsPut, object_put}
use Rattle.objects.specs.declared.fault.ObjectFault.{ObjectFault}
use Rattle.objects.specs.declared.fault.ObjectFault.TheVariants.{Missing, TooLarge, WrongHash, BadText, Collision, Blocked, Fault, Memory}
use Rattle.objects.proofs.Writing.{put_is}

fits : (n : ℕ) → n ≤ content_limit → nat_lt content_limit n ≡ false
fits n low = grind (arith, nat_tests)

passes : (n : ℕ) → content_limit < n → nat_lt content_limit n ≡ true
passes n high = grind (arith, nat_tests)

is_same : (t : Bool) (id : Id) → cond t None (Some id) ≡ None → t ≡ true
is_same true id none = refl
is_same false id none = absurd cc

-- an object that was put
pub object_is_put : (w : World) (o : Object) (id : Id) (now : World) → IsPut w o id now → object_put o w ≡ (Ok id, now)
unfolding object_put put_in
object_is_put w o id now is = at (map.get w (object_path (object_id o))) refl
  where
    small : nat_lt content_limit (length o.bytes) ≡ false
    small = fits (length o.bytes) is.within

    at : (file : Option Text) → map.get w (object_path (object_id o)) ≡ file → object_put o w ≡ (Ok id, now)
    at None none =
        let clear : is_blocked w (object_path (object_id o)) ≡ false = ap (λ (i : Id). is_blocked w (object_path i)) (sym is.id_is) ∙ is.clear (ap (λ (i : Id). map.get w (object_path i)) is.id_is ∙ none) in
        let here = is.id_is in
        let left = is.world ∙ ap (λ (p : Put). p.world) (put_is w o None none) in
        rw (small, none, clear) cc
    at (Some kept) there =
        let put = put_is w o (Some kept) there in
        let same = is_same (bytes_eq kept (object_text o)) (object_id o) (sym (ap (λ (p : Put). p.collision) put) ∙ is.free) in
        let here = is.id_is in
        let left = is.world ∙ ap (λ (p : Put). p.world) put in
        rw (small, there, same) cc

-- another text stands in the object's file
taken : (w : World) (o : Object) (id : Id) (kept : Text) (now : World) → IsKept w o id kept now → object_put o w ≡ (Err (Place id), now)
unfolding object_put
taken w o id kept now is =
    let small = fits (length o.bytes) is.within in
    let held : map.get w (object_path (object_id o)) ≡ Some kept = ap (λ (i : Id). map.get w (object_path i)) (sym is.id_is) ∙ is.held in
    let other : bytes_eq kept (object_text o) ≡ false = false_from_ne_true (bytes_eq kept (object_text o)) (λ same. is.other ((bytes_eq-Decides kept (object_text o)).0 same)) in
    let here = is.id_is in
    let same = is.same in
    rw (small, held, other) cc

-- an object that was not put
pub object_is_not_put : (w : World) (o : Object) (fault : ObjectFault) (halt : Halt Lack) (now : World) → HasPut w o (Err fault) now
    → HasPutHalt fault halt → Turns {X = Id} {Y = Id} (λ id. id) (Err halt) (object_put o w) now
unfolding object_put put_in
object_is_not_put w o Missing halt now is told = absurd is
object_is_not_put w o (TooLarge count) halt now is told =
    let high = is.above in
    let same = is.count_is in
    rw (told, passes (length o.bytes) (omega arith), sym same, is.same) refl
object_is_not_put w o (WrongHash id found) halt now is told = rw told (taken w o id is.0 now is.1)
object_is_not_put w o (BadText at) halt now is told = absurd is
object_is_not_put w o (Collision id kept) halt now is told = rw told (taken w o id kept now is.0)
object_is_not_put w o (Blocked path) halt now is told =
    let none : map.get w (object_path (object_id o)) ≡ None = ap (map.get w) (sym is.path_is) ∙ is.absent in
    let blocked : is_blocked w (object_path (object_id o)) ≡ true = ap (is_blocked w) (sym is.path_is) ∙ is.blocked in
    let here = is.path_is in
    let same = is.same in
    rw (told, fits (length o.bytes) is.within, none, blocked) cc
object_is_not_put w o Fault halt now is told = rw told tt
object_is_not_put w o Memory halt now is told = rw told tt

-- what the answer says of the counts of the store
pub put_halts : (told : Type 0) (old new : Seen) (fault : ObjectFault) (halt : Halt Lack) → HasCause told (object_cause fault) old new
    → HasPutHalt fault halt → HasCause told (halt_cause halt) old new
put_halts told old new Missing halt cause is = absurd is
put_halts told old new (TooLarge count) halt cause is = rw is cause
put_halts told old new (WrongHash id found) halt cause is = rw is cause
put_halts told old new (BadText at) halt cause is = absurd is
put_halts told old new (Collision id kept) halt cause is = rw is cause
put_halts told old new (Blocked path) halt cause is = rw is (cause.0, cause.2)
put_halts told old new Fault halt cause is = rw is cause
put_halts told old new Memory halt cause is = rw is cause
