-- The blob of an id has that id.
use Rattle.std.proofs.Common.{◌≡◌, ℕ, ◌≤◌, ◌++◌, Bool, true, false, cond, not, ◌&&◌, List, [], ◌∷◌, length, ◌-◌, ◌^◌, Option, Some, None, Ok, refl, sym, ap, ◌∙◌, arith, pos}
use Rattle.std.specs.Prelude.{decimal, nat_le}
use Rattle.std.specs.Char.{is_ascii_digit}
use Rattle.std.specs.Str.Parse.{digits_value}
use Rattle.std.proofs.lemmas.Bool.{and_from, and_parts, ne_eqb}
use Rattle.std.proofs.lemmas.Bool.Decides.{nat_tests}
use Rattle.sha1.specs.Sha1.{sha1}
use Rattle.grammar.specs.Decimals.{decimal_value, is_decimal_front}
use Rattle.ident_text.specs.ReadIdents.{is_secs_front, is_zero_first, number_of}
use Rattle.ident_text.proofs.Secs.{not_this, secs_is}
use Rattle.object_text.specs.declared.object.Kind.{Kind}
use Rattle.object_text.specs.declared.object.Kind.TheVariants.{Blob, Tree, Commit, Tag}
use Rattle.object_text.specs.declared.object.Object.{Object}
use Rattle.object_text.specs.Kept.{KeepsObject}
use Rattle.object_text.specs.Objects.{kind_text}
use Rattle.object_text.specs.Store.{content_limit, object_at, object_id, oversize_at}
use Rattle.object_text.proofs.KeptLaws.{object_kept}
use Rattle.objects.specs.Named.{no_object, object_named}
use Rattle.seq_base.specs.Words.{Id, Text}
use Rattle.seq_base.specs.World.{World}
use Rattle.seq_outside.specs.Halts.{or_stop}
use Rattle.seq_outside.specs.declared.lack.Lack.TheVariants as lack
use Rattle.stage_index.specs.Changes.{blob_id}
use Rattle.worktree.specs.Blobs.{blob_in, blob_named, bytes_if_blob}
use Rattle.pick_laws.proofs.Blobs.{bound}

guard : {X : Type 0} (t : Bool) (x y : X) → cond t (Some x) None ≡ Some y → (t ≡ true) × (x ≡ y)
guard true x y e = (refl, cc)
guard false x y e = absurd cc

-- a length is written in one way
one_spelling : (ds : List ℕ) (n : ℕ) → decimal_value ds ≡ Some n → n ≤ content_limit → ds ≡ decimal n
one_spelling [] n e low = absurd cc
one_spelling (b ∷ bs) n e low =
    let g = guard (is_decimal_front (b ∷ bs)) (digits_value 10 (b ∷ bs)) n e in
    let value = g.1 in
    let digit = (and_parts (is_ascii_digit b) _ g.0).0 in
    let other = ne_eqb b 45 (not_this is_ascii_digit b 45 digit refl) in
    let fits : nat_le (digits_value 10 (b ∷ bs)) (2 ^ 63 - 1) ≡ true = grind (arith, nat_tests) in
    let on : is_secs_front (b ∷ bs) ≡ true =
    ap (λ (t : Bool). cond t (is_decimal_front bs && not (is_zero_first bs) && nat_le (digits_value 10 bs) (2 ^ 63)) (is_decimal_front (b ∷ bs) && nat_le (digits_value 10 (b ∷ bs)) (2 ^ 63 - 1))) other
    ∙ and_from (is_decimal_front (b ∷ bs)) (nat_le (digits_value 10 (b ∷ bs)) (2 ^ 63 - 1)) g.0 fits in
    let number : number_of (b ∷ bs) ≡ Some (pos (digits_value 10 (b ∷ bs))) = rw other refl in
    (secs_is (b ∷ bs) (pos n) (ap (λ (t : Bool). cond t (number_of (b ∷ bs)) None) on ∙ number ∙ ap (λ (k : ℕ). Some (pos k)) value)).1

or_is : {A E : Type 0} (o : Option A) (why : E) (x : A) → or_stop o why ≡ Ok x → o ≡ Some x
or_is (Some y) why x e = cc
or_is None why x e = absurd cc

-- an object that is kept has its id
object_has_id : (w : World) (id : Id) (o : Object) → KeepsObject w id o → object_id o ≡ id
object_has_id w id o kept =
    let digits = one_spelling kept.spelled.digits (length o.bytes) kept.spelled.length_is kept.within in
    ap sha1 (sym (kept.spelled.text_is ∙ ap (λ (d : List ℕ). kind_text o.kind ++ 32 ∷ d ++ 0 ∷ o.bytes) digits)) ∙ kept.hash

pub blob_has_id : (w : World) (id : Id) (bytes : Text) → blob_named w id ≡ Ok bytes → blob_id bytes ≡ id
unfolding blob_named object_named blob_in
blob_has_id w id bytes e =
    let one = bound (or_stop (object_at w id) (no_object id (oversize_at w id))) (λ o. or_stop (bytes_if_blob o.kind o.bytes) (lack.Object id)) bytes e in
    at one.0.kind one.0.bytes (or_is (object_at w id) (no_object id (oversize_at w id)) one.0 one.1) (or_is (bytes_if_blob one.0.kind one.0.bytes) (lack.Object id) bytes one.2)
  where
    at : (kind : Kind) (content : Text) → object_at w id ≡ Some (record { kind = kind; bytes = content }) → bytes_if_blob kind content ≡ Some bytes
        → blob_id bytes ≡ id
    at Blob content is e =
        let same : content ≡ bytes = cc in
        ap blob_id (sym same) ∙ object_has_id w id (record { kind = Blob; bytes = content }) (object_kept w id (record { kind = Blob; bytes = content }) is)
    at Tree content is e = absurd cc
    at Commit content is e = absurd cc
    at Tag content is e = absurd cc
