-- The value of a name is what the relation on worlds says.
use Rattle.std.proofs.Common.{◌≡◌, ℕ, zero, suc, Bool, true, false, cond, List, [], Option, Some, None, Result, Ok, Err, refl, sym, ap, ◌∙◌}
use Rattle.std.specs.FinMap as map
use Rattle.std.specs.Prelude.{MatchBool, unwrap_or}
use Rattle.std.specs.Str.{bytes_eq}
use Rattle.seq_base.specs.World.{World}
use Rattle.seq_outside.specs.Halts.{◌>>=◌, or_stop}
use Rattle.ref_text.specs.declared.head.Head.{Head}
use Rattle.ref_text.specs.declared.head.Head.TheVariants.{Branch, Detached}
use Rattle.ref_text.specs.Heads.{SpellsHead}
use Rattle.ref_text.specs.ReadHeads.{file_of, head_of, loose_of}
use Rattle.ref_text.specs.ReadLines.{packed_of}
use Rattle.ref_text.specs.ReadPacked.{Ref}
use Rattle.ref_text.specs.Refs.{Decides, Leads, PackedAt, RefWithin, SpellsFile, SpellsLoose, head_name, packed_path, packed_value, ref_path}
use Rattle.ref_text.proofs.LineLaws.{packed_again, packed_to}
use Rattle.ref_text.proofs.LooseLaws.{head_from, head_to, loose_from, loose_to}
use Rattle.ref_store.specs.declared.fault.RefFault.{RefFault}
use Rattle.ref_store.specs.declared.fault.RefFault.TheVariants.{BadPacked, BadRef}
use Rattle.ref_store.specs.Values.{file_head, or_bad, packed_at, packed_value_at}
use Rattle.ref_store.proofs.Chains.{decided, ended, led, opened, value_within}

-- ---- files

pub ok_inj : {X E : Type 0} {a b : X} → ◌≡◌ {A = Result X E} (Ok a) (Ok b) → a ≡ b
ok_inj e = cc

file_to_at : (t : Bool) (text : List ℕ) (h : Head) → cond t (head_of text) (loose_of text) ≡ Some h
    → MatchBool t (SpellsHead h text) (SpellsLoose h text)
file_to_at true text h e = head_to text h e
file_to_at false text h e = loose_to text h e

file_from_at : (t : Bool) (text : List ℕ) (h : Head) → MatchBool t (SpellsHead h text) (SpellsLoose h text)
    → cond t (head_of text) (loose_of text) ≡ Some h
file_from_at true text h is = head_from text h is
file_from_at false text h is = loose_from text h is

pub file_to : (name text : List ℕ) (h : Head) → file_of name text ≡ Some h → SpellsFile name h text
file_to name text h e = file_to_at (bytes_eq name head_name) text h e

pub file_from : (name text : List ℕ) (h : Head) → SpellsFile name h text → file_of name text ≡ Some h
file_from name text h is = file_from_at (bytes_eq name head_name) text h is

-- ---- packed refs

abbrev Value : Type 0
Value = Option (List ℕ)

packed_ok : (text : List ℕ) (r : Result (List Ref) ℕ) (refs : List Ref) → or_bad BadPacked r ≡ Ok refs → r ≡ Ok refs
packed_ok text (Ok found) refs e = ap Ok (ok_inj e)
packed_ok text (Err line) refs e = absurd cc

pub packed_at_to : (w : World) (refs : List Ref) → packed_at w ≡ Ok refs → PackedAt w refs
packed_at_to w refs e =
    let text = unwrap_or (map.get w packed_path) [] in packed_to text refs (packed_ok text (packed_of text) refs (unfold packed_at in e))

pub packed_at_from : (w : World) (refs : List Ref) → PackedAt w refs → packed_at w ≡ Ok refs
packed_at_from w refs is = unfold packed_at in ap (or_bad BadPacked) (packed_again (unwrap_or (map.get w packed_path) []) refs is)

none_to_at : (w : World) (name : List ℕ) (value : Value) (r : Result (List Ref) RefFault) → packed_at w ≡ r
    → (r >>= λ refs. Ok (packed_value refs name)) ≡ Ok value → (refs : List Ref) × PackedAt w refs × (value ≡ packed_value refs name)
none_to_at w name value (Ok refs) is e = (refs, packed_at_to w refs is, sym (ok_inj e))
none_to_at w name value (Err why) is e = absurd cc

none_to : (w : World) (name : List ℕ) (value : Value) → packed_value_at w name ≡ Ok value
    → (refs : List Ref) × PackedAt w refs × (value ≡ packed_value refs name)
none_to w name value e = none_to_at w name value (packed_at w) refl (unfold packed_value_at in e)

none_from : (w : World) (name : List ℕ) (value : Value) (refs : List Ref) → PackedAt w refs → value ≡ packed_value refs name
    → packed_value_at w name ≡ Ok value
none_from w name value refs is e = unfold packed_value_at in rw (packed_at_from w refs is) (ap Ok (sym e))

-- ---- chains

some_to_at : (w : World) (on : List ℕ → Result Value RefFault) (On : List ℕ → Type 0) (name text : List ℕ) (value : Value)
    → ((other : List ℕ) → on other ≡ Ok value → On other) → (o : Option Head) → file_of name text ≡ o
    → (or_stop o (BadRef name) >>= led on) ≡ Ok value → (h : Head) × SpellsFile name h text × Leads On value h
some_to_at w on On name text value each (Some (Detached id)) is e = (Detached id, file_to name text (Detached id) is, sym (ok_inj e))
some_to_at w on On name text value each (Some (Branch other)) is e = (Branch other, file_to name text (Branch other) is, each other e)
some_to_at w on On name text value each None is e = absurd cc

decided_to : (w : World) (on : List ℕ → Result Value RefFault) (On : List ℕ → Type 0) (name : List ℕ) (value : Value)
    → ((other : List ℕ) → on other ≡ Ok value → On other) → (o : Option (List ℕ)) → decided w on name o ≡ Ok value → Decides w On name value o
decided_to w on On name value each (Some text) e = some_to_at w on On name text value each (file_of name text) refl (unfold file_head in e)
decided_to w on On name value each None e = none_to w name value e

some_from_at : (on : List ℕ → Result Value RefFault) (On : List ℕ → Type 0) (value : Value) → ((other : List ℕ) → On other → on other ≡ Ok value)
    → (h : Head) → Leads On value h → led on h ≡ Ok value
some_from_at on On value each (Detached id) e = ap Ok (sym e)
some_from_at on On value each (Branch other) is = each other is

decided_from : (w : World) (on : List ℕ → Result Value RefFault) (On : List ℕ → Type 0) (name : List ℕ) (value : Value)
    → ((other : List ℕ) → On other → on other ≡ Ok value) → (o : Option (List ℕ)) → Decides w On name value o → decided w on name o ≡ Ok value
decided_from w on On name value each (Some text) is = unfold file_head in rw (file_from name text is.0 is.1) (some_from_at on On value each is.0 is.2)
decided_from w on On name value each None is = none_from w name value is.0 is.1 is.2

pub within_to : (n : ℕ) (w : World) (from name : List ℕ) (value : Value) → value_within n w from name ≡ Ok value → RefWithin n w name value
within_to zero w from name value e = let k = ended w from name in absurd cc
within_to (suc n) w from name value e =
    decided_to w (value_within n w name) (λ other. RefWithin n w other value) name value (λ other k. within_to n w name other value k) (map.get w (ref_path name)) (sym (opened n w from name) ∙ e)

pub within_from : (n : ℕ) (w : World) (from name : List ℕ) (value : Value) → RefWithin n w name value → value_within n w from name ≡ Ok value
within_from zero w from name value is = absurd is
within_from (suc n) w from name value is =
    opened n w from name
    ∙ decided_from w (value_within n w name) (λ other. RefWithin n w other value) name value (λ other k. within_from n w name other value k) (map.get w (ref_path name)) is
