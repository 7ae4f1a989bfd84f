-- The first of some names that has a value.
use Rattle.std.proofs.Common.{◌≡◌, inl, inr, ℕ, Bool, true, false, cond, List, [], ◌∷◌, Option, Some, None, Result, Ok, Err, refl, sym, ap}
use Rattle.seq_base.specs.RefNames.{is_ref_name}
use Rattle.seq_base.specs.World.{World}
use Rattle.seq_outside.specs.Halts.{◌>>=◌, for_reason}
use Rattle.ref_store.proofs.Named.{value_to}
use Rattle.ref_store.specs.Values.{value_at}
use Rattle.ref_store.specs.declared.fault.RefFault.{RefFault}
use Rattle.ref_text.specs.Refs.{RefAt}
use Rattle.rev_names.proofs.Behind.{ok_inj}
use Rattle.rev_names.specs.Bases.{first_ref, or_later, value_of}
use Rattle.rev_names.specs.Faults.{bad_ref}
use Rattle.rev_names.specs.Laws.{HasNone, IsFirstOf}
use Rattle.rev_names.specs.declared.fault.RevFault.{RevFault}
use Rattle.rev_names.specs.declared.refs.FoundRef.{FoundRef}

abbrev Value : Type 0
Value = Option (List ℕ)

reason_ok : (r : Result Value RefFault) (value : Value) → for_reason bad_ref r ≡ Ok value → r ≡ Ok value
reason_ok (Ok found) value e = ap Ok (ok_inj e)
reason_ok (Err why) value e = absurd cc

some_inj : {X : Type 0} {a b : X} → Some a ≡ Some b → a ≡ b
some_inj e = cc

abbrev HasFound : World → List ℕ → Value → Type 0
HasFound w name (Some id) = RefAt w name (Some id)
HasFound w name None = HasNone w name

found_at : (w : World) (name : List ℕ) (is : Bool) (value : Value) → is_ref_name name ≡ is
    → cond is (for_reason bad_ref (value_at w name)) (Ok None) ≡ Ok value → HasFound w name value
found_at w name true (Some id) is e = value_to w name (Some id) (reason_ok (value_at w name) (Some id) e)
found_at w name true None is e = inr (value_to w name None (reason_ok (value_at w name) None e))
found_at w name false (Some id) is e = absurd cc
found_at w name false None is e = inl is

value_found : (w : World) (name : List ℕ) (value : Value) → value_of w name ≡ Ok value → HasFound w name value
value_found w name value e = found_at w name (is_ref_name name) value refl (unfold value_of in e)

after : (w : World) (name : List ℕ) (names : List (List ℕ)) (found : Option FoundRef) → HasNone w name → IsFirstOf w names found
    → IsFirstOf w (name ∷ names) found
after w name names None none rest = (none, rest)
after w name names (Some ref) none rest = record {
  before = name ∷ rest.before;
  behind = rest.behind;
  names_are = ap (λ (ns : List (List ℕ)). name ∷ ns) rest.names_are;
  none_before = (none, rest.none_before);
  value = rest.value;
}

here : (w : World) (name : List ℕ) (names : List (List ℕ)) (id : List ℕ) (found : Option FoundRef) → RefAt w name (Some id)
    → ◌≡◌ {A = Result (Option FoundRef) RevFault} (Ok (Some (record { name = name; id = id }))) (Ok found) → IsFirstOf w (name ∷ names) found
here w name names id (Some ref) value e =
    let same = some_inj (ok_inj e) in
    let n : name ≡ ref.name = ap (λ (r : FoundRef). r.name) same in
    let i : id ≡ ref.id = ap (λ (r : FoundRef). r.id) same in
    record { before = []; behind = names; names_are = ap (λ (m : List ℕ). m ∷ names) n; none_before = tt; value = rw (sym n, sym i) value }
here w name names id None value e = absurd cc

first_at : (w : World) (name : List ℕ) (names : List (List ℕ)) (later : Result (Option FoundRef) RevFault) (r : Result Value RevFault) (found : Option FoundRef)
    → value_of w name ≡ r
    → ((f : Option FoundRef) → later ≡ Ok f → IsFirstOf w names f) → (r >>= or_later name later) ≡ Ok found → IsFirstOf w (name ∷ names) found
first_at w name names later (Ok (Some id)) found is each e = here w name names id found (value_found w name (Some id) is) e
first_at w name names later (Ok None) found is each e = after w name names found (value_found w name None is) (each found e)
first_at w name names later (Err why) found is each e = absurd cc

none_first : (w : World) → first_ref w [] ≡ Ok None
none_first w = unfold first_ref in refl

pub first_is : (w : World) (names : List (List ℕ)) (found : Option FoundRef) → first_ref w names ≡ Ok found → IsFirstOf w names found
first_is w [] None e = tt
first_is w [] (Some ref) e = let k = none_first w in absurd cc
first_is w (name ∷ names) found e =
    first_at w name names (first_ref w names) (value_of w name) found refl (λ f k. first_is w names f k) (unfold first_ref in e)

pub ruleset first_laws = (first_is)
