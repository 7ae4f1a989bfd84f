-- The refs to update are recalled.
use Rattle.std.proofs.Common.{◌≡◌, ◌∙◌, ℕ, Bool, true, false, cond, List, [], ◌∷◌, ◌++◌, Option, Some, None, refl, sym, ap, subst, append_assoc}
use Rattle.std.specs.List.{AllByRecursion, cons_option, flat_map}
use Rattle.std.specs.Ordering.{is_lt}
use Rattle.std.specs.Str.{bytes_eq}
use Rattle.std.proofs.lemmas.Bool.{and_parts}
use Rattle.std.proofs.lemmas.Cmp.{nat_list_cmp_total}
use Rattle.object_text.specs.Commits.{line}
use Rattle.seq_base.specs.Ids.{IsId}
use Rattle.seq_base.specs.PathMaps.{is_less}
use Rattle.seq_base.specs.RefNames.{is_ref_name}
use Rattle.seq_base.proofs.Maps.{less_is}
use Rattle.state_text.specs.declared.control.RefUpdate.{RefUpdate}
use Rattle.state_text.specs.Controls.{AreOrdered, IfThere, IsTypedUpdate, IsUpdate, IsValue}
use Rattle.state_text.specs.Texts.{value_digits, zeros}
use Rattle.todo_text.specs.Spells.{HasNoFeed}
use Rattle.state_reading.specs.Lines.{AreUpdates, are_ordered, id_at, is_before_first, lines_of, ordered_of, update_at, update_of, updates_at, updates_text, value_of}
use Rattle.state_reading.specs.Recalls.{Recalls}
use Rattle.state_reading.proofs.KeyLaws.{id_again, id_fits, zeros_digits, zeros_id}
use Rattle.state_reading.proofs.LineLaws.{id_plain, lines_back, ref_plain}

-- ---- the three lines of each

parts_of : List RefUpdate → List (List ℕ)
parts_of [] = []
parts_of (u ∷ us) = u.name ∷ value_digits u.expected ∷ value_digits u.new ∷ parts_of us

joined : (us : List RefUpdate) → updates_text us ≡ flat_map line (parts_of us)
unfolding parts_of
joined [] = refl
joined (u ∷ us) =
    let name = line u.name in
    let expected = line (value_digits u.expected) in
    let new = line (value_digits u.new) in
    append_assoc (name ++ expected) new (updates_text us)
    ∙ append_assoc name expected (new ++ updates_text us)
    ∙ ap (λ (t : List ℕ). name ++ (expected ++ (new ++ t))) (joined us)

value_plain : (o : Option (List ℕ)) → IfThere IsId o → HasNoFeed (value_digits o)
value_plain None is = refl
value_plain (Some id) is = id_plain id is

parts_plain : (us : List RefUpdate) → AllByRecursion IsUpdate us → AllByRecursion IsTypedUpdate us → AllByRecursion HasNoFeed (parts_of us)
unfolding parts_of
parts_plain [] are typed = tt
parts_plain (u ∷ us) are typed =
    (ref_plain u.name are.0.name, (value_plain u.expected typed.0.0, (value_plain u.new typed.0.1, parts_plain us are.1 typed.1)))

-- ---- one is read as it was written

value_again : (o : Option (List ℕ)) → IfThere IsId o → IfThere IsValue o → (id : List ℕ) × (id_at (value_digits o) ≡ Some id) × (value_of id ≡ o)
value_again None is value = (zeros, ap (λ (t : List ℕ). id_at t) (sym zeros_digits) ∙ id_again zeros zeros_id, refl)
value_again (Some id) is value = (id, id_again id is, rw value refl)

update_again : (u : RefUpdate) → IsUpdate u → IsTypedUpdate u → update_at u.name (value_digits u.expected) (value_digits u.new) ≡ Some u
update_again u is typed =
    let expected = value_again u.expected typed.0 is.expected in
    let new = value_again u.new typed.1 is.new in
    let named : is_ref_name u.name ≡ true = is.name in
    let one = expected.1 in
    let two = new.1 in
    let one_is = expected.2 in
    let two_is = new.2 in
    rw (named, one, two, one_is, two_is) refl

all_again : (us : List RefUpdate) → AllByRecursion IsUpdate us → AllByRecursion IsTypedUpdate us → updates_at (parts_of us) ≡ us
unfolding parts_of
all_again [] are typed = refl
all_again (u ∷ us) are typed =
    ap (λ (o : Option RefUpdate). cons_option o (updates_at (parts_of us))) (update_again u are.0 typed.0) ∙ ap (λ (rest : List RefUpdate). u ∷ rest) (all_again us are.1 typed.1)

-- ---- what is read fits

value_fits : (id : List ℕ) → IsId id → IfThere IsId (value_of id) × IfThere IsValue (value_of id)
value_fits id is = at (bytes_eq id zeros) refl
  where
    at : (b : Bool) → bytes_eq id zeros ≡ b → IfThere IsId (cond b None (Some id)) × IfThere IsValue (cond b None (Some id))
    at true same = (tt, tt)
    at false same = (is, same)

update_fits : (a b c : List ℕ) (u : RefUpdate) → update_at a b c ≡ Some u → IsUpdate u × IsTypedUpdate u
update_fits a b c u e = at (is_ref_name a) refl e
  where
    ids : is_ref_name a ≡ true → (x y : Option (List ℕ)) → id_at b ≡ x → id_at c ≡ y → update_of a x y ≡ Some u → IsUpdate u × IsTypedUpdate u
    ids named None y one two e = absurd cc
    ids named (Some x) None one two e = absurd cc
    ids named (Some x) (Some y) one two e =
        let expected = value_fits x (id_fits b x one) in
        let new = value_fits y (id_fits c y two) in
        let made : RefUpdate = record { name = a; expected = value_of x; new = value_of y } in
        let is : made ≡ u = cc in
        let P : RefUpdate → Type 0 = λ v. IsUpdate v × IsTypedUpdate v in
        subst P is (record { name = named; expected = expected.1; new = new.1 }, (expected.0, new.0))

    at : (t : Bool) → is_ref_name a ≡ t → cond t (update_of a (id_at b) (id_at c)) None ≡ Some u → IsUpdate u × IsTypedUpdate u
    at true named e = ids named (id_at b) (id_at c) refl refl e
    at false named e = absurd cc

all_fit : (ls : List (List ℕ)) → AllByRecursion IsUpdate (updates_at ls) × AllByRecursion IsTypedUpdate (updates_at ls)
all_fit [] = (tt, tt)
all_fit (a ∷ []) = (tt, tt)
all_fit (a ∷ b ∷ []) = (tt, tt)
all_fit (a ∷ b ∷ c ∷ ls) = at (update_at a b c) refl (all_fit ls)
  where
    at : (o : Option RefUpdate) → update_at a b c ≡ o → AllByRecursion IsUpdate (updates_at ls) × AllByRecursion IsTypedUpdate (updates_at ls)
        → AllByRecursion IsUpdate (cons_option o (updates_at ls)) × AllByRecursion IsTypedUpdate (cons_option o (updates_at ls))
    at None e later = later
    at (Some u) e later = let k = update_fits a b c u e in ((k.0, later.0), (k.1, later.1))

-- ---- their order

less_through : (a b c : List ℕ) → is_less a b ≡ true → is_less b c ≡ true → is_less a c ≡ true
less_through a b c p q = ap is_lt (nat_list_cmp_total.trans a b c (less_is a b p) (less_is b c q))

all_behind : (a b : List ℕ) (us : List RefUpdate) → is_less a b ≡ true → AllByRecursion (λ v. is_less b v.name ≡ true) us
    → AllByRecursion (λ v. is_less a v.name ≡ true) us
all_behind a b [] less all = tt
all_behind a b (u ∷ us) less all = (less_through a b u.name less all.0, all_behind a b us less all.1)

first_behind : (a : List ℕ) (us : List RefUpdate) → is_before_first a us ≡ true → AreOrdered us → AllByRecursion (λ v. is_less a v.name ≡ true) us
first_behind a [] first ordered = tt
first_behind a (u ∷ us) first ordered = (first, all_behind a u.name us first ordered.0)

order_is : (us : List RefUpdate) → are_ordered us ≡ true → AreOrdered us
order_is [] e = tt
order_is (u ∷ us) e =
    let k = and_parts (is_before_first u.name us) (are_ordered us) e in
    let later = order_is us k.1 in
    (first_behind u.name us k.0 later, later)

order_tested : (us : List RefUpdate) → AreOrdered us → are_ordered us ≡ true
order_tested [] is = refl
order_tested (u ∷ us) is =
    let first = at us is.0 in
    rw first (order_tested us is.1)
  where
    at : (us : List RefUpdate) → AllByRecursion (λ v. is_less u.name v.name ≡ true) us → is_before_first u.name us ≡ true
    at [] all = refl
    at (v ∷ us) all = all.0

order_fits : (us : List RefUpdate) → AllByRecursion IsUpdate us × AllByRecursion IsTypedUpdate us → AreUpdates (ordered_of us)
order_fits us fits = at (are_ordered us) refl
  where
    at : (b : Bool) → are_ordered us ≡ b → AreUpdates (cond b us [])
    at true is = record { updates = fits.0; typed = fits.1; ordered = order_is us is }
    at false is = record { updates = tt; typed = tt; ordered = tt }

pub updates_recalled : (bytes : List ℕ) (read updates : List RefUpdate) → updates ≡ read → read ≡ ordered_of (updates_at (lines_of bytes))
    → Recalls AreUpdates updates_text bytes updates
updates_recalled bytes read updates same is = let e = same ∙ is in record {
  fits = subst AreUpdates (sym e) (order_fits (updates_at (lines_of bytes)) (all_fit (lines_of bytes)));
  again = λ ys fits text.
      let back : lines_of bytes ≡ parts_of ys = ap (λ (t : List ℕ). lines_of t) (text ∙ joined ys) ∙ lines_back [] (parts_of ys) (parts_plain ys fits.updates fits.typed) in
      let again : updates_at (lines_of bytes) ≡ ys = ap updates_at back ∙ all_again ys fits.updates fits.typed in
      let tested = order_tested ys fits.ordered in
      e ∙ ap ordered_of again ∙ ap (λ (b : Bool). cond b ys []) tested;
}
