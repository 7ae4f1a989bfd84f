-- What the steps come to.
use Rattle.std.proofs.Common.{suc, ◌≡◌, ◌≢◌, ℕ, false, List, Option, Some, None, Result, Ok, Err, inl, inr, refl, sym, ap, subst, ◌∙◌, ◌||◌, cond, Bool, true}
use Rattle.std.specs.FinMap as map
use Rattle.std.specs.Str.{bytes_eq}
use Rattle.std.proofs.lemmas.Bool.{both_ways, cases_Bool, false_from_ne_true}
use Rattle.std.proofs.lemmas.Slice.Eq.{bytes_eq-Decides}
use Rattle.seq_base.specs.Ids.{IsId}
use Rattle.seq_base.specs.RefNames.{IsRefName}
use Rattle.seq_base.specs.World.{World, is_blocked}
use Rattle.seq_outside.specs.Halts.{◌>>=◌}
use Rattle.ref_text.specs.declared.head.Head.{Head}
use Rattle.ref_text.specs.declared.head.Head.TheVariants.{Branch, Detached}
use Rattle.ref_text.specs.declared.log.LogLine.{LogLine}
use Rattle.ref_text.specs.Heads.{SpellsHead, head_text as head_text_of}
use Rattle.ref_text.specs.ReadPacked.{Ref}
use Rattle.ref_text.specs.Refs.{Decides, Leads, RefAt, RefWithin, delete_ref, head_name, move_head, ref_path, set_ref, is_packed, packed_path, unpacked, without}
use Rattle.ref_text.proofs.LooseLaws.{head_from, head_to}
use Rattle.std.specs.Prelude.{is_some}
use Rattle.seq_outside.specs.Turns.{gives, turn_for}
use Rattle.ref_text.specs.Packed.{packed_text}
use Rattle.ref_text.proofs.RefLaws.{ref_no_packed, unpacked_there, set_here, logged_there, delete_value, id_file, ref_no_log, set_value}
use Rattle.ref_store.proofs.Moving.{put_free}
use Rattle.ref_store.specs.Changes.{deleted, deleted_from, in_way_of, loose_removed, removed_from, repacked, unpacked_from}
use Rattle.ref_store.specs.declared.fault.RefFault.{RefFault}
use Rattle.ref_store.specs.declared.fault.RefFault.TheVariants.{BadHead}
use Rattle.ref_store.specs.Paths.{leads_through}
use Rattle.ref_store.specs.Values.{head_at, head_file, head_text, packed_at, value_at}
use Rattle.ref_store.proofs.Chains.{head_value, head_value_is, led, value_within}
use Rattle.ref_store.proofs.Keeping.{head_same, all_kept, at_head, at_other, head_opened, head_there, same_delete, same_logged, same_set, same_then}
use Rattle.ref_store.proofs.ValueLaws.{ok_inj, packed_at_to, within_from, within_to}

-- ---- HEAD

missing_head : (o : Option (List ℕ)) → o ≡ None → head_file o ≡ Err BadHead
missing_head None e = refl
missing_head (Some text) e = absurd cc

no_head : (w : World) → map.get w (ref_path head_name) ≡ None → head_at w ≡ Err BadHead
no_head w e = unfold head_at in missing_head (map.get w (ref_path head_name)) e

-- a missing HEAD is bad, whatever is packed
pub head_is_bad : (w : World) → map.get w (ref_path head_name) ≡ None → value_at w head_name ≡ Err BadHead
head_is_bad w e = at_head w head_name refl ∙ head_value_is w ∙ ap (λ (r : Result Head RefFault). r >>= led (value_within 5 w head_name)) (no_head w e)

head_read_at : (w : World) (r : Result Head RefFault) (value : Option (List ℕ)) → head_at w ≡ r → (r >>= led (value_within 5 w head_name)) ≡ Ok value
    → (h : Head) × (head_at w ≡ Ok h) × (led (value_within 5 w head_name) h ≡ Ok value)
head_read_at w (Ok h) value is e = (h, is, e)
head_read_at w (Err why) value is e = absurd cc

head_leads : (w : World) (text : List ℕ) (h : Head) (value : Option (List ℕ)) → SpellsHead h text → map.get w (ref_path head_name) ≡ Some text
    → led (value_within 5 w head_name) h ≡ Ok value → RefAt w head_name value
head_leads w text (Detached id) value is there e =
    subst (Decides w (λ other. RefWithin 5 w other value) head_name value) (sym there) (Detached id, is, sym (ok_inj e))
head_leads w text (Branch other) value is there e =
    subst (Decides w (λ other. RefWithin 5 w other value) head_name value) (sym there) (Branch other, is, within_to 5 w head_name other value e)

head_value_to : (w : World) (value : Option (List ℕ)) → head_value w ≡ Ok value → RefAt w head_name value
head_value_to w value e =
    let read = head_read_at w (head_at w) value refl (sym (head_value_is w) ∙ e) in
    let there = head_there (map.get w (ref_path head_name)) read.0 (head_opened w read.0 read.1) in
    head_leads w there.0 read.0 value (head_to there.0 read.0 there.2) there.1 read.2

head_found : (w : World) (text : List ℕ) (h : Head) → map.get w (ref_path head_name) ≡ Some text → SpellsHead h text → head_at w ≡ Ok h
head_found w text h there is = unfold head_at in rw there (unfold head_text in rw (head_from text h is) refl)

head_led : (w : World) (h : Head) (value : Option (List ℕ)) → Leads (λ other. RefWithin 5 w other value) value h
    → led (value_within 5 w head_name) h ≡ Ok value
head_led w (Detached id) value e = ap Ok (sym e)
head_led w (Branch other) value is = within_from 5 w head_name other value is

head_value_from : (w : World) (value : Option (List ℕ)) (o : Option (List ℕ)) → map.get w (ref_path head_name) ≡ o → o ≢ None
    → Decides w (λ other. RefWithin 5 w other value) head_name value o → head_value w ≡ Ok value
head_value_from w value (Some text) there some is =
    head_value_is w ∙ ap (λ (r : Result Head RefFault). r >>= led (value_within 5 w head_name)) (head_found w text is.0 there is.1) ∙ head_led w is.0 value is.2
head_value_from w value None there some is = absurd (some refl)

-- ---- the value of a name

pub value_to : (w : World) (name : List ℕ) (value : Option (List ℕ)) → value_at w name ≡ Ok value → RefAt w name value
value_to w name value e = elim (cases_Bool (bytes_eq name head_name)) [
  | inl head ↦ subst (λ (n : List ℕ). RefAt w n value) (sym ((bytes_eq-Decides name head_name).0 head)) (head_value_to w value (sym (at_head w name head) ∙ e))
  | inr ne ↦ within_to 6 w name name value (sym (at_other w name ne) ∙ e)
]

pub value_from : (w : World) (name : List ℕ) (value : Option (List ℕ)) → (name ≡ head_name → map.get w (ref_path head_name) ≢ None)
    → RefAt w name value → value_at w name ≡ Ok value
value_from w name value there is = elim (cases_Bool (bytes_eq name head_name)) [
  | inl head ↦
      let same = (bytes_eq-Decides name head_name).0 head in
      at_head w name head ∙ head_value_from w value (map.get w (ref_path head_name)) refl (there same) (subst (λ (n : List ℕ). RefAt w n value) same is)
  | inr ne ↦ at_other w name ne ∙ within_from 6 w name name value is
]

pub one_value : (w : World) (name : List ℕ) (a b : Option (List ℕ)) → RefAt w name a → RefAt w name b → a ≡ b
one_value w name a b one two = ok_inj (sym (within_from 6 w name name a one) ∙ within_from 6 w name name b two)

pub ruleset value_laws = (value_to, value_from, one_value, head_is_bad)

-- ---- other names

pub set_keeps : (w : World) (name id : List ℕ) (line : LogLine) (other : List ℕ) → IsRefName name → IsRefName other
    → leads_through w other name ≡ false → value_at (set_ref w name id line) other ≡ value_at w other
set_keeps w name id line other is told off = all_kept w (set_ref w name id line) name other (λ m t ne. same_set w name id m line is t ne) told off

pub delete_keeps : (w : World) (name : List ℕ) (refs : List Ref) (other : List ℕ) → IsRefName name → IsRefName other → packed_at w ≡ Ok refs
    → leads_through w other name ≡ false → value_at (delete_ref w refs name) other ≡ value_at w other
delete_keeps w name refs other is told packed off =
    all_kept w (delete_ref w refs name) name other (λ m t ne. same_delete w name m refs is (packed_at_to w refs packed) t ne) told off

pub branch_keeps : (w : World) (name id : List ℕ) (line : LogLine) (other : List ℕ) → IsRefName name → IsRefName other
    → leads_through w other name ≡ false → value_at (move_head w (Branch name) id line) other ≡ value_at w other
branch_keeps w name id line other is told off =
    all_kept w (move_head w (Branch name) id line) name other
    (λ m t ne. same_then w (set_ref w name id line) (move_head w (Branch name) id line) m (same_set w name id m line is t ne) (same_logged (set_ref w name id line) head_name m line t)) told off

-- ---- the name itself

some_there : (o : Option (List ℕ)) (text : List ℕ) → o ≡ Some text → o ≢ None
some_there o text e n = absurd cc

-- a name that was set
pub set_gives : (w : World) (name id : List ℕ) (line : LogLine) → IsRefName name → IsId id → value_at (set_ref w name id line) name ≡ Ok (Some id)
set_gives w name id line is bytes =
    value_from (set_ref w name id line) name (Some id)
    (λ e. subst (λ (n : List ℕ). map.get (set_ref w name id line) (ref_path n) ≢ None) e (some_there _ _ (set_here w name id line is)))
    (set_value w name id line is bytes)

apart_head : (name : List ℕ) → bytes_eq name head_name ≡ false → bytes_eq head_name name ≡ false
apart_head name ne =
    false_from_ne_true (bytes_eq head_name name) (λ is. both_ways (bytes_eq name head_name) ne ((bytes_eq-Decides name head_name).1 (sym ((bytes_eq-Decides head_name name).0 is))))

-- the file of the branch decides
same_chain : (w : World) (name id : List ℕ) (line : LogLine) (from : List ℕ) → IsRefName name → IsId id → (n : ℕ)
    → value_within (suc n) (move_head w (Branch name) id line) from name ≡ Ok (Some id)
same_chain w name id line from is bytes n =
    let set = set_ref w name id line in
    let after = move_head w (Branch name) id line in
    let file : map.get after (ref_path name) ≡ Some (head_text_of (Detached id)) = logged_there set head_name (ref_path name) line (ref_no_log name head_name is) ∙ set_here w name id line is in
    within_from (suc n) after from name (Some id) (subst (Decides after (λ other. RefWithin n after other (Some id)) name (Some id)) (sym file) (Detached id, id_file name id bytes, refl))

-- a branch that HEAD is on, and HEAD
pub branch_gives : (w : World) (name id : List ℕ) (line : LogLine) → IsRefName name → bytes_eq name head_name ≡ false → IsId id
    → value_at (move_head w (Branch name) id line) name ≡ Ok (Some id)
branch_gives w name id line is ne bytes =
    at_other (move_head w (Branch name) id line) name ne ∙ same_chain w name id line name is bytes 5

pub head_gives : (w : World) (name id : List ℕ) (line : LogLine) → IsRefName name → bytes_eq name head_name ≡ false → IsId id
    → head_at w ≡ Ok (Branch name) → value_at (move_head w (Branch name) id line) head_name ≡ Ok (Some id)
head_gives w name id line is ne bytes on =
    let after = move_head w (Branch name) id line in
    let same = same_then w (set_ref w name id line) after head_name (same_set w name id head_name line is refl (apart_head name ne)) (same_logged (set_ref w name id line) head_name head_name line refl) in
    at_head after head_name refl ∙ head_value_is after ∙ ap (λ (r : Result Head RefFault). r >>= led (value_within 5 after head_name)) (head_same w after same.file ∙ on) ∙ same_chain w name id line head_name is bytes 4

-- a detached HEAD
pub detached_gives : (w : World) (old id : List ℕ) (line : LogLine) → IsId id → value_at (move_head w (Detached old) id line) head_name ≡ Ok (Some id)
detached_gives w old id line bytes = set_gives w head_name id line refl bytes

pub ruleset set_steps = (set_keeps, branch_keeps, set_gives, branch_gives, head_gives, detached_gives)

-- ---- a ref that is deleted

unpack_free : (w : World) (name : List ℕ) (refs : List Ref) → is_blocked w packed_path ≡ false
    → unpacked_from name refs w ≡ (Ok tt, unpacked w refs name)
unpack_free w name refs free = unfold unpacked_from in at (is_packed refs name)
  where
    again : repacked name refs w ≡ (Ok tt, map.insert w packed_path (packed_text (without name refs)))
    again = unfold repacked in ap (turn_for (in_way_of name)) (put_free w packed_path (packed_text (without name refs)) free)

    at : (t : Bool) → cond t (repacked name refs w) (gives tt w) ≡ (Ok tt, cond t (map.insert w packed_path (packed_text (without name refs))) w)
    at true = again
    at false = refl

loose_same : (w : World) (name : List ℕ) (refs : List Ref) → IsRefName name
    → map.get (unpacked w refs name) (ref_path name) ≡ map.get w (ref_path name)
loose_same w name refs is = unpacked_there w refs name (ref_path name) (λ e. ref_no_packed name is (sym e))

removed_is : (w : World) (name : List ℕ) (refs : List Ref) → IsRefName name → is_blocked w packed_path ≡ false
    → removed_from name refs w ≡ (Ok (is_some (map.get w (ref_path name))), delete_ref w refs name)
removed_is w name refs is free =
    unfold removed_from in rw (unpack_free w name refs free) (unfold loose_removed in rw (loose_same w name refs is) refl)

deleted_is : (w : World) (name : List ℕ) (refs : List Ref) → IsRefName name → is_blocked w packed_path ≡ false
    → deleted_from name refs w ≡ (Ok (is_packed refs name || is_some (map.get w (ref_path name))), delete_ref w refs name)
deleted_is w name refs is free = unfold deleted_from in rw (removed_is w name refs is free) refl

pub deletes : (w : World) (name : List ℕ) (refs : List Ref) → IsRefName name → packed_at w ≡ Ok refs → is_blocked w packed_path ≡ false
    → deleted name w ≡ (Ok (is_packed refs name || is_some (map.get w (ref_path name))), delete_ref w refs name)
deletes w name refs is packed free = unfold deleted in rw packed (deleted_is w name refs is free)

-- a deleted name has no value
pub delete_gives : (w : World) (name : List ℕ) (refs : List Ref) → IsRefName name → bytes_eq name head_name ≡ false → packed_at w ≡ Ok refs
    → value_at (delete_ref w refs name) name ≡ Ok None
delete_gives w name refs is ne packed =
    at_other (delete_ref w refs name) name ne
    ∙ within_from 6 (delete_ref w refs name) name name None (delete_value w name refs is (packed_at_to w refs packed))

pub ruleset delete_steps = (deletes, delete_gives, delete_keeps)
