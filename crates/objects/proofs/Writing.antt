-- An object that is put.
use Rattle.std.proofs.Common.{◌≡◌, ◌⊎◌, ℕ, ◌<◌, ◌≤◌, ◌^◌, Bool, true, false, cond, ◌==◌, ◌&&◌, take, drop, List, [], ◌∷◌, ◌++◌, length, Option, Some, None, Result, Ok, Err, refl, sym, ap, subst, ◌∙◌, append_assoc, inl, inr, arith}
use Rattle.std.specs.Prelude.{IfOk, decimal}
use Rattle.std.specs.FinMap as map
use Rattle.std.specs.Cmp.Lexicographic.{nat_list_cmp_total}
use Rattle.std.specs.Ordering.{eq_by_cmp}
use Rattle.std.specs.Str.{bytes_eq}
use Rattle.std.proofs.lemmas.Bool.{both_ways}
use Rattle.std.proofs.lemmas.List.{length-take-le, take-append-drop}
use Rattle.std.proofs.lemmas.Slice.Eq.{bytes_eq-Decides}
use Rattle.sha1.specs.Sha1.{sha1}
use Rattle.seq_base.specs.Repository.{object_path}
use Rattle.seq_base.specs.Words.{Id, Path, Text}
use Rattle.seq_base.specs.World.{World, is_blocked, path_cmp}
use Rattle.seq_base.proofs.Shape.{equal_to_itself, same_path}
use Rattle.object_text.specs.declared.object.Object.{Object}
use Rattle.object_text.specs.Objects.{header_text, kind_text, object_text}
use Rattle.object_text.specs.Store.{Put, content_limit, object_at, object_id, put_at, put_object}
use Rattle.object_text.proofs.ObjectLaws.{object_written}
use Rattle.objects.specs.Puts.{HasOther, HasPut, HasTextPut, IsKept, IsPut}
use Rattle.objects.specs.declared.fault.ObjectFault.{ObjectFault}
use Rattle.objects.specs.declared.fault.ObjectFault.TheVariants.{Missing, TooLarge, WrongHash, BadText, Collision, Blocked, Fault, Memory}
use Rattle.objects.proofs.Reading.{object_read}
use Rattle.seq_base.specs.Steps.{world_steps}
use Rattle.seq_outside.specs.Store.{KeepsFiles}

-- the header, and the content behind it
pub pieces : (o : Object) → header_text o.kind (length o.bytes) ++ o.bytes ≡ object_text o
pieces o = append_assoc (kind_text o.kind ++ 32 ∷ decimal (length o.bytes)) (0 ∷ []) o.bytes

pub put_is : (w : World) (o : Object) (file : Option (List ℕ)) → map.get w (object_path (object_id o)) ≡ file
    → put_object w o ≡ put_at w (object_id o) (object_path (object_id o)) (object_text o) file
unfolding put_object
put_is w o file is = ap (put_at w (object_id o) (object_path (object_id o)) (object_text o)) is

insert_there : (w : World) (path text : List ℕ) (now : World) → now ≡ map.insert w path text → map.get now path ≡ Some text
insert_there w path text now is =
    ap (λ (v : World). map.get v path) is
    ∙ (map.get-insert nat_list_cmp_total w path text path ∙ ap (λ (t : Bool). cond t (Some text) (map.get w path)) (equal_to_itself path))

-- ---- what putting answers

pub put_new : (w : World) (o : Object) (r : Result Id ObjectFault) (now : World) → length o.bytes ≤ content_limit
    → map.get w (object_path (object_id o)) ≡ None
    → HasTextPut w (object_id o) (object_path (object_id o)) (object_text o) r now → HasPut w o r now
put_new w o (Ok id) now within absent is = record {
  id_is = is.0;
  within = within;
  world = is.2 ∙ sym (ap (λ (p : Put). p.world) (put_is w o None absent));
  free = ap (λ (p : Put). p.collision) (put_is w o None absent);
  clear = λ none. ap (λ (i : Id). is_blocked w (object_path i)) is.0 ∙ is.1;
  file = ap (λ (i : Id). map.get now (object_path i)) is.0 ∙ insert_there w (object_path (object_id o)) (object_text o) now is.2;
}
put_new w o (Err Missing) now within absent is = absurd is
put_new w o (Err (TooLarge count)) now within absent is = absurd is
put_new w o (Err (WrongHash id found)) now within absent is = absurd is
put_new w o (Err (BadText at)) now within absent is = absurd is
put_new w o (Err (Collision id kept)) now within absent is = absurd is
put_new w o (Err (Blocked path)) now within absent is = record {
  path_is = is.0;
  within = within;
  absent = ap (map.get w) is.0 ∙ absent;
  blocked = ap (is_blocked w) is.0 ∙ is.1;
  same = is.2;
}
put_new w o (Err Fault) now within absent (inl same) = inl same
put_new w o (Err Fault) now within absent (inr put) = inr (put ∙ sym (ap (λ (p : Put). p.world) (put_is w o None absent)))
put_new w o (Err Memory) now within absent is = is

pub put_same : (w : World) (o : Object) (id kept : List ℕ) (now : World) → id ≡ object_id o → length o.bytes ≤ content_limit
    → map.get w (object_path (object_id o)) ≡ Some kept → bytes_eq kept (object_text o) ≡ true → now ≡ w → IsPut w o id now
put_same w o id kept now id_is within held equal same =
    let is = put_is w o (Some kept) held in
    record {
      id_is = id_is;
      within = within;
      world = same ∙ sym (ap (λ (p : Put). p.world) is);
      free = ap (λ (p : Put). p.collision) is ∙ ap (λ (t : Bool). cond t None (Some (object_id o))) equal;
      clear = λ none. let there = ap (λ (i : Id). map.get w (object_path i)) id_is ∙ held in cc;
      file =
          ap (λ (i : List ℕ). map.get now (object_path i)) id_is
          ∙ (ap (λ (v : World). map.get v (object_path (object_id o))) same ∙ (held ∙ ap Some ((bytes_eq-Decides kept (object_text o)).0 equal)));
    }

pub put_kept : (w : World) (o : Object) (id kept : List ℕ) (now : World) → id ≡ object_id o → length o.bytes ≤ content_limit
    → map.get w (object_path (object_id o)) ≡ Some kept → bytes_eq kept (object_text o) ≡ false → now ≡ w → IsKept w o id kept now
put_kept w o id kept now id_is within held other same = record {
  id_is = id_is;
  within = within;
  held = ap (λ (i : List ℕ). map.get w (object_path i)) id_is ∙ held;
  other = λ e. both_ways (bytes_eq kept (object_text o)) other ((bytes_eq-Decides kept (object_text o)).1 e);
  collides =
      ap (λ (p : Put). p.collision) (put_is w o (Some kept) held) ∙ (ap (λ (t : Bool). cond t None (Some (object_id o))) other ∙ ap Some (sym id_is));
  same = same;
}

pub put_other : (w : World) (o : Object) (id kept : List ℕ) (now : World) (e : ObjectFault) → IsKept w o id kept now → HasOther id kept e
    → HasPut w o (Err e) now
put_other w o id kept now Missing is other = absurd other
put_other w o id kept now (TooLarge count) is other = absurd other
put_other w o id kept now (WrongHash wanted found) is other =
    (kept, subst (λ (i : List ℕ). IsKept w o i kept now) (sym other.0) is, other.1, λ e. other.2 (e ∙ other.0))
put_other w o id kept now (BadText at) is other = absurd other
put_other w o id kept now (Collision wanted found) is other =
    let same : IsKept w o wanted found now = subst (λ (k : List ℕ). IsKept w o wanted k now) (sym other.1) (subst (λ (i : List ℕ). IsKept w o i kept now) (sym other.0) is) in
    (same, ap sha1 other.1 ∙ (other.2 ∙ sym other.0))
put_other w o id kept now (Blocked path) is other = absurd other
put_other w o id kept now Fault is other = absurd other
put_other w o id kept now Memory is other = absurd other

-- ---- what follows of it

-- an object whose text stands in its file is there
pub object_of_file : (w : World) (o : Object) → length o.bytes ≤ content_limit → map.get w (object_path (object_id o)) ≡ Some (object_text o)
    → object_at w (object_id o) ≡ Some o
unfolding object_at
object_of_file w o within file =
    let fits : length o.bytes < 2 ^ 64 = omega arith in
    rw file (object_read (object_id o) (object_text o) o (record { spelled = object_written o (object_text o) fits refl; within = within; hash = refl }))

pub put_object_at : (w : World) (o : Object) (id : List ℕ) (now : World) → IsPut w o id now → object_at now id ≡ Some o
put_object_at w o id now is =
    ap (object_at now) is.id_is ∙ object_of_file now o is.within (ap (λ (i : List ℕ). map.get now (object_path i)) (sym is.id_is) ∙ is.file)

pub new_object : (w : World) (o : Object) (r : Result Id ObjectFault) (now : World) → HasPut w o r now → IfOk r (λ id. object_at now id ≡ Some o)
new_object w o (Ok id) now is = put_object_at w o id now is
new_object w o (Err fault) now is = tt

-- where no other text stands in its file, the object's does then
pub free_file : (w : World) (o : Object) → (put_object w o).collision ≡ None
    → map.get (put_object w o).world (object_path (object_id o)) ≡ Some (object_text o)
free_file w o free = at (map.get w (object_path (object_id o))) refl
  where
    same : (kept : List ℕ) (t : Bool) → bytes_eq kept (object_text o) ≡ t → cond t None (Some (object_id o)) ≡ None → kept ≡ object_text o
    same kept true is none = (bytes_eq-Decides kept (object_text o)).0 is
    same kept false is none = absurd cc

    at : (file : Option (List ℕ)) → map.get w (object_path (object_id o)) ≡ file
        → map.get (put_object w o).world (object_path (object_id o)) ≡ Some (object_text o)
    at None is = insert_there w (object_path (object_id o)) (object_text o) (put_object w o).world (ap (λ (p : Put). p.world) (put_is w o None is))
    at (Some kept) is =
        let put = put_is w o (Some kept) is in
        let none = sym (ap (λ (p : Put). p.collision) put) ∙ free in
        ap (λ (p : Put). map.get p.world (object_path (object_id o))) put ∙ (is ∙ ap Some (same kept (bytes_eq kept (object_text o)) refl none))

-- a put changes no file that stands
pub file_stays : (w : World) (o : Object) (path text : List ℕ) → map.get w path ≡ Some text → map.get (put_object w o).world path ≡ Some text
file_stays w o path text stands = at (map.get w (object_path (object_id o))) refl
  where
    other : (t : Bool) → eq_by_cmp path_cmp path (object_path (object_id o)) ≡ t → map.get w (object_path (object_id o)) ≡ None
        → cond t (Some (object_text o)) (map.get w path) ≡ Some text
    other true same none = let here = ap (map.get w) (same_path path (object_path (object_id o)) same) in absurd cc
    other false apart none = stands

    at : (file : Option (List ℕ)) → map.get w (object_path (object_id o)) ≡ file → map.get (put_object w o).world path ≡ Some text
    at None is =
        ap (λ (p : Put). map.get p.world path) (put_is w o None is)
        ∙ (map.get-insert nat_list_cmp_total w (object_path (object_id o)) (object_text o) path ∙ other (eq_by_cmp path_cmp path (object_path (object_id o))) refl is)
    at (Some kept) is = ap (λ (p : Put). map.get p.world path) (put_is w o (Some kept) is) ∙ stands

put_world : (w : World) (o : Object)
    → ((put_object w o).world ≡ w) ⊎ ((put_object w o).world ≡ map.insert w (object_path (object_id o)) (object_text o))
put_world w o = at (map.get w (object_path (object_id o))) refl
  where
    at : (file : Option (List ℕ)) → map.get w (object_path (object_id o)) ≡ file
        → ((put_object w o).world ≡ w) ⊎ ((put_object w o).world ≡ map.insert w (object_path (object_id o)) (object_text o))
    at None is = inr (ap (λ (p : Put). p.world) (put_is w o None is))
    at (Some kept) is = inl (ap (λ (p : Put). p.world) (put_is w o (Some kept) is))

old_or_put : (w : World) (o : Object) (now : World) → now ≡ (put_object w o).world
    → (now ≡ w) ⊎ (now ≡ map.insert w (object_path (object_id o)) (object_text o))
old_or_put w o now is = elim (put_world w o) [ inl same ↦ inl (is ∙ same) | inr put ↦ inr (is ∙ put) ]

old_or_new : (w : World) (o : Object) (r : Result (List ℕ) ObjectFault) (now : World) → HasPut w o r now
    → (now ≡ w) ⊎ (now ≡ map.insert w (object_path (object_id o)) (object_text o))
old_or_new w o (Ok id) now is = old_or_put w o now is.world
old_or_new w o (Err Missing) now is = absurd is
old_or_new w o (Err (TooLarge count)) now is = inl is.same
old_or_new w o (Err (WrongHash id found)) now is = inl is.1.same
old_or_new w o (Err (BadText at)) now is = absurd is
old_or_new w o (Err (Collision id kept)) now is = inl is.0.same
old_or_new w o (Err (Blocked path)) now is = inl is.same
old_or_new w o (Err Fault) now (inl same) = inl same
old_or_new w o (Err Fault) now (inr put) = old_or_put w o now put
old_or_new w o (Err Memory) now is = inl is

-- whatever ends it
pub put_keeps : (w : World) (o : Object) (r : Result (List ℕ) ObjectFault) (now : World) → HasPut w o r now → KeepsFiles w now
put_keeps w o r now is path text stands = at r is
  where
    same : now ≡ w → map.get now path ≡ Some text
    same is = ap (λ (v : World). map.get v path) is ∙ stands

    put : now ≡ (put_object w o).world → map.get now path ≡ Some text
    put is = ap (λ (v : World). map.get v path) is ∙ file_stays w o path text stands

    at : (r : Result (List ℕ) ObjectFault) → HasPut w o r now → map.get now path ≡ Some text
    at (Ok id) is = put is.world
    at (Err Missing) is = absurd is
    at (Err (TooLarge count)) is = same is.same
    at (Err (WrongHash id found)) is = same is.1.same
    at (Err (BadText _)) is = absurd is
    at (Err (Collision id kept)) is = same is.0.same
    at (Err (Blocked path)) is = same is.same
    at (Err Fault) (inl is) = same is
    at (Err Fault) (inr is) = put is
    at (Err Memory) is = same is

pub put_elsewhere : (w : World) (o : Object) (r : Result (List ℕ) ObjectFault) (now : World) → HasPut w o r now → (other : List ℕ)
    → eq_by_cmp path_cmp other (object_path (object_id o)) ≡ false → map.get now other ≡ map.get w other
put_elsewhere w o r now is other apart = elim (old_or_new w o r now is) [
  | inl same ↦ ap (λ (v : World). map.get v other) same
  | inr put ↦ ap (λ (v : World). map.get v other) put ∙ grind (arith, world_steps)
]

-- ---- the file that is put

-- what putting a text answers, by the names of the definition
pub text_moved : (w old : World) (id at : Id) (path to : Path) (text written : Text) (r : Result Id ObjectFault) (now : World) → old ≡ w → at ≡ id
    → to ≡ path → written ≡ text
    → HasTextPut old at to written r now → HasTextPut w id path text r now
text_moved w old id at path to text written r now same is here whole put =
    subst (λ (t : Text). HasTextPut w id path t r now) whole (subst (λ (p : Path). HasTextPut w id p written r now) here
    (subst (λ (i : Id). HasTextPut w i to written r now) is (subst (λ (v : World). HasTextPut v at to written r now) same put)))

-- ---- two pieces

same_pieces : (a b c d : List ℕ) → length a ≡ length c → bytes_eq (a ++ b) (c ++ d) ≡ (bytes_eq a c && bytes_eq b d)
same_pieces [] b [] d same = refl
same_pieces [] b (y ∷ c) d same = absurd (omega arith)
same_pieces (x ∷ a) b [] d same = absurd (omega arith)
same_pieces (x ∷ a) b (y ∷ c) d same =
    ap (λ (t : Bool). (x == y) && t) (same_pieces a b c d (omega arith)) ∙ grouped (x == y) (bytes_eq a c) (bytes_eq b d)
  where
    grouped : (p q r : Bool) → (p && (q && r)) ≡ (p && q && r)
    grouped true q r = refl
    grouped false q r = refl

-- a text of two pieces against one that is cut where the first ends
pub same_cut : (kept header bytes front back : List ℕ) → length header ≤ length kept → front ≡ take (length header) kept
    → back ≡ drop (length header) kept → bytes_eq kept (header ++ bytes) ≡ (bytes_eq front header && bytes_eq back bytes)
same_cut kept header bytes front back fits front_is back_is =
    let whole : front ++ back ≡ kept = rw (front_is, back_is) (take-append-drop (length header) kept) in
    let long : length front ≡ length header = ap length front_is ∙ length-take-le (length header) kept fits in
    ap (λ (k : List ℕ). bytes_eq k (header ++ bytes)) (sym whole) ∙ same_pieces front back header bytes long
