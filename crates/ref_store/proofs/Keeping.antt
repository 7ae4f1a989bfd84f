-- Names whose files are not changed keep their values, and their faults.
use Rattle.std.proofs.Common.{◌≡◌, ◌≢◌, ℕ, zero, suc, true, false, List, [], drop, Option, Some, None, Result, Ok, Err, inl, inr, refl, sym, ap, subst, ◌∙◌}
use Rattle.std.specs.FinMap as map
use Rattle.std.specs.Prelude.{unwrap_or}
use Rattle.std.specs.List.{list_any}
use Rattle.std.specs.Str.{bytes_eq}
use Rattle.std.proofs.lemmas.Bool.{both_ways, cases_Bool, or_parts}
use Rattle.std.proofs.lemmas.Slice.Eq.{bytes_eq-Decides}
use Rattle.seq_base.specs.RefNames.{IsRefName}
use Rattle.seq_base.specs.World.{World}
use Rattle.seq_outside.specs.Halts.{◌>>=◌, or_stop}
use Rattle.ref_text.specs.declared.head.Head.{Head}
use Rattle.ref_text.specs.declared.head.Head.TheVariants.{Branch, Detached}
use Rattle.ref_text.specs.declared.log.LogLine.{LogLine}
use Rattle.ref_text.specs.ReadHeads.{file_of, head_of}
use Rattle.ref_text.specs.ReadLines.{packed_of}
use Rattle.ref_text.specs.ReadPacked.{Ref}
use Rattle.ref_text.specs.Refs.{PackedAt, delete_ref, head_name, logged, packed_path, packed_value, ref_path, set_ref, without}
use Rattle.ref_text.proofs.RefLaws.{delete_packed, delete_there, led_name, log_no_packed, logged_there, ref_no_log, ref_no_packed, set_there}
use Rattle.ref_text.proofs.PackedTexts.{value_kept}
use Rattle.ref_store.specs.declared.fault.RefFault.{RefFault}
use Rattle.ref_store.specs.declared.fault.RefFault.TheVariants.{BadHead, BadPacked, BadRef}
use Rattle.ref_store.specs.Paths.{behind, behind_file, chain_of, leads_through}
use Rattle.ref_store.specs.Values.{end_at, file_head, head_at, head_file, head_text, or_bad, packed_at, packed_value_at, value_at}
use Rattle.ref_store.proofs.Chains.{decided, ended, head_value, head_value_is, led, opened, value_within}
use Rattle.ref_store.proofs.ValueLaws.{file_to, ok_inj, packed_at_from}

abbrev Value : Type 0
Value = Result (Option (List ℕ)) RefFault

-- two worlds have the same file of a name, and the same packed value
pub record IsSame (w after : World) (name : List ℕ) : Type 0 where
  pub file : map.get after (ref_path name) ≡ map.get w (ref_path name)
  pub packed : packed_value_at after name ≡ packed_value_at w name

-- where it leads on, the name behind has the same value
led_kept : (on then_on : List ℕ → Value) (o : Option Head) (why : RefFault) → ((other : List ℕ) → o ≡ Some (Branch other) → then_on other ≡ on other)
    → (or_stop o why >>= led then_on) ≡ (or_stop o why >>= led on)
led_kept on then_on (Some (Detached id)) why each = refl
led_kept on then_on (Some (Branch other)) why each = each other refl
led_kept on then_on None why each = refl

decided_kept : (w after : World) (on then_on : List ℕ → Value) (name : List ℕ) (o : Option (List ℕ))
    → packed_value_at after name ≡ packed_value_at w name
    → ((text : List ℕ) (other : List ℕ) → o ≡ Some text → file_of name text ≡ Some (Branch other) → then_on other ≡ on other) → decided after then_on name o ≡ decided w on name o
decided_kept w after on then_on name (Some text) packed each =
    unfold file_head in led_kept on then_on (file_of name text) (BadRef name) (λ other is. each text other refl is)
decided_kept w after on then_on name None packed each = packed

-- the chain behind a file that leads on
chain_behind : (on : List ℕ → List (List ℕ)) (name text other : List ℕ) (o : Option (List ℕ)) → o ≡ Some text
    → file_of name text ≡ Some (Branch other) → behind_file on name o ≡ on other
chain_behind on name text other o is leads = ap (behind_file on name) is ∙ ap (behind on) leads

pub kept : (n : ℕ) (w after : World) (name from other : List ℕ) → ((m : List ℕ) → IsRefName m → bytes_eq m name ≡ false → IsSame w after m)
    → IsRefName other → list_any (λ m. bytes_eq m name) (chain_of n w other) ≡ false
    → value_within n after from other ≡ value_within n w from other
kept zero w after name from other same is off = ended after from other ∙ sym (ended w from other)
kept (suc n) w after name from other same is off =
    let both = or_parts (bytes_eq other name) (list_any (λ m. bytes_eq m name) (behind_file (chain_of n w) other (map.get w (ref_path other)))) off in
    let here = same other is both.0 in
    opened n after from other ∙ ap (decided after (value_within n after other) other) here.file
    ∙ decided_kept w after (value_within n w other) (value_within n after other) other (map.get w (ref_path other)) here.packed
    (λ text next there leads. kept n w after name other next same (led_name other next text (file_to other text (Branch next) leads))
    (sym (ap (list_any (λ m. bytes_eq m name)) (chain_behind (chain_of n w) other text next (map.get w (ref_path other)) there leads)) ∙ both.1))
    ∙ sym (opened n w from other)

-- HEAD
head_kept_at : (w after : World) (name : List ℕ) (r : Result Head RefFault) → head_at w ≡ r
    → ((other : List ℕ) → r ≡ Ok (Branch other) → value_within 5 after head_name other ≡ value_within 5 w head_name other)
    → (r >>= led (value_within 5 after head_name)) ≡ (r >>= led (value_within 5 w head_name))
head_kept_at w after name (Ok (Detached id)) is each = refl
head_kept_at w after name (Ok (Branch other)) is each = each other refl
head_kept_at w after name (Err why) is each = refl

-- the text of HEAD that was read
pub head_there : (o : Option (List ℕ)) (h : Head) → head_file o ≡ Ok h → (text : List ℕ) × (o ≡ Some text) × (head_of text ≡ Some h)
head_there (Some text) h e = (text, refl, stopped (head_of text) h (unfold head_text in e))
  where
    stopped : (o : Option Head) (h : Head) → ◌≡◌ {A = Result Head RefFault} (or_stop o BadHead) (Ok h) → o ≡ Some h
    stopped (Some x) h e = ap Some (ok_inj e)
    stopped None h e = absurd cc
head_there None h e = absurd cc

pub head_same : (w after : World) → map.get after (ref_path head_name) ≡ map.get w (ref_path head_name) → head_at after ≡ head_at w
head_same w after e = unfold head_at in ap head_file e

pub head_opened : (w : World) (h : Head) → head_at w ≡ Ok h → head_file (map.get w (ref_path head_name)) ≡ Ok h
head_opened w h e = unfold head_at in e

head_kept : (w after : World) (name : List ℕ) → ((m : List ℕ) → IsRefName m → bytes_eq m name ≡ false → IsSame w after m)
    → leads_through w head_name name ≡ false → head_value after ≡ head_value w
head_kept w after name same off =
    let both = or_parts (bytes_eq head_name name) (list_any (λ m. bytes_eq m name) (behind_file (chain_of 5 w) head_name (map.get w (ref_path head_name)))) off in
    let here = same head_name refl both.0 in
    head_value_is after
    ∙ ap (λ (r : Result Head RefFault). r >>= led (value_within 5 after head_name)) (head_same w after here.file)
    ∙ head_kept_at w after name (head_at w) refl
    (λ other is.
    let there = head_there (map.get w (ref_path head_name)) (Branch other) (head_opened w (Branch other) is) in
    kept 5 w after name head_name other same (led_name head_name other there.0 (file_to head_name there.0 (Branch other) there.2))
    (sym (ap (list_any (λ m. bytes_eq m name)) (chain_behind (chain_of 5 w) head_name there.0 other (map.get w (ref_path head_name)) there.1 there.2)) ∙ both.1))
    ∙ sym (head_value_is w)

pub at_head : (w : World) (name : List ℕ) → bytes_eq name head_name ≡ true → value_at w name ≡ head_value w
at_head w name is = unfold value_at in unfold end_at in rw is refl

pub at_other : (w : World) (name : List ℕ) → bytes_eq name head_name ≡ false → value_at w name ≡ value_within 6 w name name
at_other w name is = unfold value_at in unfold end_at in rw is refl

-- a name keeps its value where no file through which it leads is changed
pub all_kept : (w after : World) (name other : List ℕ) → ((m : List ℕ) → IsRefName m → bytes_eq m name ≡ false → IsSame w after m) → IsRefName other
    → leads_through w other name ≡ false → value_at after other ≡ value_at w other
all_kept w after name other same is off = elim (cases_Bool (bytes_eq other head_name)) [
  | inl head ↦
      at_head after other head
      ∙ head_kept w after name same (subst (λ (o : List ℕ). leads_through w o name ≡ false) ((bytes_eq-Decides other head_name).0 head) off)
      ∙ sym (at_head w other head)
  | inr ne ↦ at_other after other ne ∙ kept 6 w after name other other same is off ∙ sym (at_other w other ne)
]

-- ---- what is changed

packed_at_same : (w after : World) → map.get after packed_path ≡ map.get w packed_path → packed_at after ≡ packed_at w
packed_at_same w after e = unfold packed_at in ap (λ (o : Option (List ℕ)). or_bad BadPacked (packed_of (unwrap_or o []))) e

packed_same : (w after : World) (name : List ℕ) → map.get after packed_path ≡ map.get w packed_path
    → packed_value_at after name ≡ packed_value_at w name
packed_same w after name e =
    unfold packed_value_at in ap (λ (r : Result (List Ref) RefFault). r >>= λ refs. Ok (packed_value refs name)) (packed_at_same w after e)

other_path : (name m : List ℕ) → bytes_eq m name ≡ false → ref_path m ≢ ref_path name
other_path name m ne e = both_ways (bytes_eq m name) ne ((bytes_eq-Decides m name).1 (ap (drop 5) e))

pub same_set : (w : World) (name id m : List ℕ) (line : LogLine) → IsRefName name → IsRefName m → bytes_eq m name ≡ false
    → IsSame w (set_ref w name id line) m
same_set w name id m line is told ne = record {
  file = set_there w name id (ref_path m) line (other_path name m ne) (ref_no_log m name told);
  packed = packed_same w (set_ref w name id line) m (set_there w name id packed_path line (ref_no_packed name is) (log_no_packed name));
}

pub same_logged : (w : World) (name m : List ℕ) (line : LogLine) → IsRefName m → IsSame w (logged w name line) m
same_logged w name m line told = record {
  file = logged_there w name (ref_path m) line (ref_no_log m name told);
  packed = packed_same w (logged w name line) m (logged_there w name packed_path line (log_no_packed name));
}

pub same_then : (u w after : World) (m : List ℕ) → IsSame u w m → IsSame w after m → IsSame u after m
same_then u w after m one two = record { file = two.file ∙ one.file; packed = two.packed ∙ one.packed }

kept_packed : (w : World) (name : List ℕ) (refs : List Ref) → PackedAt w refs → packed_value_at w name ≡ Ok (packed_value refs name)
kept_packed w name refs is = unfold packed_value_at in rw (packed_at_from w refs is) refl

pub same_delete : (w : World) (name m : List ℕ) (refs : List Ref) → IsRefName name → PackedAt w refs → IsRefName m → bytes_eq m name ≡ false
    → IsSame w (delete_ref w refs name) m
same_delete w name m refs is packed told ne = record {
  file = delete_there w name (ref_path m) refs (other_path name m ne) (λ e. ref_no_packed m told (sym e));
  packed =
      kept_packed (delete_ref w refs name) m (without name refs) (delete_packed w name refs is packed) ∙ ap Ok (value_kept name m refs ne)
      ∙ sym (kept_packed w m refs packed);
}
