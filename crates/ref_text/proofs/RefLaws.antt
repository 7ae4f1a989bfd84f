-- What a ref is after one was set or deleted.
use Rattle.std.proofs.Common.{◌≡◌, ◌≢◌, ◌⊎◌, ℕ, zero, suc, Bool, true, false, cond, List, [], ◌∷◌, ◌++◌, drop, get_or, Option, Some, None, inl, inr, refl, sym, ap, subst, ◌∙◌, arith}
use Rattle.std.specs.Prelude.{MatchBool, codes, unwrap_or}
use Rattle.std.specs.FinMap as map
use Rattle.std.specs.FinMap.{get-insert, get-remove}
use Rattle.std.specs.Cmp.Lexicographic.{nat_list_cmp_total}
use Rattle.std.specs.Ordering.{eq_by_cmp}
use Rattle.std.specs.Str.{bytes_eq}
use Rattle.std.proofs.lemmas.Bool.{cases_Bool, both_ways, false_from_ne_true}
use Rattle.std.proofs.lemmas.List.{append-nil}
use Rattle.std.proofs.lemmas.Slice.Eq.{bytes_eq-Decides}
use Rattle.hex.specs.Hex.{encode_lower}
use Rattle.seq_base.specs.Ids.{IsId}
use Rattle.seq_base.specs.RefNames.{IsRefName}
use Rattle.seq_base.specs.World.{World, path_cmp}
use Rattle.seq_base.proofs.RefPaths.{behind_front, below_refs, each_name}
use Rattle.seq_base.proofs.Shape.{equal_to_itself, same_path}
use Rattle.ref_text.specs.declared.head.Head.{Head}
use Rattle.ref_text.specs.declared.head.Head.TheVariants.{Branch, Detached}
use Rattle.ref_text.specs.declared.log.LogLine.{LogLine}
use Rattle.ref_text.specs.Heads.{SpellsHead, head_text}
use Rattle.ref_text.specs.Logs.{log_text}
use Rattle.ref_text.specs.Packed.{IsPacked, packed_text}
use Rattle.ref_text.specs.Refs.{unpacked, without, Decides, Leads, PackedAt, RefAt, RefWithin, SpellsFile, SpellsLoose, delete_ref, has_log, head_name, is_packed, log_path, logged, packed_path, ref_path, set_ref}
use Rattle.ref_text.proofs.PackedTexts.{Refs, packed_refs, packed_spells, packed_without, value_without, without_none}
use Rattle.ref_text.proofs.Written.{id_spells}

-- ---- a world that is written

put_here : (w : World) (path bytes : List ℕ) → map.get (map.insert w path bytes) path ≡ Some bytes
put_here w path bytes =
    get-insert nat_list_cmp_total w path bytes path ∙ ap (λ (b : Bool). cond b (Some bytes) (map.get w path)) (equal_to_itself path)

apart : (p q : List ℕ) → q ≢ p → eq_by_cmp path_cmp q p ≡ false
apart p q ne = false_from_ne_true (eq_by_cmp path_cmp q p) (λ is. ne (same_path q p is))

put_there : (w : World) (path bytes q : List ℕ) → q ≢ path → map.get (map.insert w path bytes) q ≡ map.get w q
put_there w path bytes q ne = get-insert nat_list_cmp_total w path bytes q ∙ ap (λ (b : Bool). cond b (Some bytes) (map.get w q)) (apart path q ne)

gone_here : (w : World) (path : List ℕ) → map.get (map.remove w path) path ≡ None
gone_here w path = get-remove nat_list_cmp_total w path path ∙ ap (λ (b : Bool). cond b None (map.get w path)) (equal_to_itself path)

gone_there : (w : World) (path q : List ℕ) → q ≢ path → map.get (map.remove w path) q ≡ map.get w q
gone_there w path q ne = get-remove nat_list_cmp_total w path q ∙ ap (λ (b : Bool). cond b None (map.get w q)) (apart path q ne)

-- ---- the places of refs, of logs and of the packed refs are apart

differs : (n : ℕ) (a b : List ℕ) → (get_or a n 0 ≡ get_or b n 0 → ⊥) → a ≢ b
differs n a b ne e = ne (ap (λ (l : List ℕ). get_or l n 0) e)

first_of : (P : ℕ → Type 0) → P 72 → P 114 → (name : List ℕ) → IsRefName name → P (get_or name 0 0)
first_of P head below name is =
    each_name (λ n. P (get_or n 0 0)) name head (λ h. subst (λ (n : List ℕ). P (get_or n 0 0)) (sym (behind_front (codes "refs/") name (below_refs name h).begins)) below) is

pub ref_no_log : (name other : List ℕ) → IsRefName name → ref_path name ≢ log_path other
ref_no_log name other is e =
    first_of (λ b. b ≡ 108 → ⊥) (λ k. absurd (omega arith)) (λ k. absurd (omega arith)) name is (ap (λ (l : List ℕ). get_or l 5 0) e)

pub ref_no_packed : (name : List ℕ) → IsRefName name → packed_path ≢ ref_path name
ref_no_packed name is e =
    first_of (λ b. b ≡ 112 → ⊥) (λ k. absurd (omega arith)) (λ k. absurd (omega arith)) name is (sym (ap (λ (l : List ℕ). get_or l 5 0) e))

pub log_no_packed : (name : List ℕ) → packed_path ≢ log_path name
log_no_packed name = differs 5 packed_path (log_path name) (λ k. absurd (omega arith))

-- ---- a ref that is set

pub logged_there : (w : World) (name q : List ℕ) (line : LogLine) → q ≢ log_path name → map.get (logged w name line) q ≡ map.get w q
logged_there w name q line ne = at (has_log name) (unwrap_or (map.get w (log_path name)) [] ++ log_text line)
  where
    at : (t : Bool) (bytes : List ℕ) → map.get (cond t (map.insert w (log_path name) bytes) w) q ≡ map.get w q
    at true bytes = put_there w (log_path name) bytes q ne
    at false bytes = refl

pub set_there : (w : World) (name id q : List ℕ) (line : LogLine) → q ≢ ref_path name → q ≢ log_path name
    → map.get (set_ref w name id line) q ≡ map.get w q
set_there w name id q line ref log =
    logged_there (map.insert w (ref_path name) (head_text (Detached id))) name q line log
    ∙ put_there w (ref_path name) (head_text (Detached id)) q ref

pub set_here : (w : World) (name id : List ℕ) (line : LogLine) → IsRefName name
    → map.get (set_ref w name id line) (ref_path name) ≡ Some (head_text (Detached id))
set_here w name id line is =
    logged_there (map.insert w (ref_path name) (head_text (Detached id))) name (ref_path name) line (ref_no_log name name is)
    ∙ put_here w (ref_path name) (head_text (Detached id))

either : (b : Bool) (P Q : Type 0) → P → Q → MatchBool b P Q
either true P Q p q = p
either false P Q p q = q

pub id_file : (name id : List ℕ) → IsId id → SpellsFile name (Detached id) (head_text (Detached id))
id_file name id is =
    either (bytes_eq name head_name) (SpellsHead (Detached id) (head_text (Detached id))) (SpellsLoose (Detached id) (head_text (Detached id))) (id_spells id is)
    (record { line = encode_lower id; blanks = []; end = 10 ∷ []; is_line = id_spells id is; are_blanks = refl; is_end = inr refl; bytes_are = ap (λ (l : List ℕ). l ++ 10 ∷ []) (sym (append-nil (encode_lower id))) })

pub set_within : (n : ℕ) (w : World) (name id : List ℕ) (line : LogLine) → IsRefName name → IsId id
    → RefWithin (suc n) (set_ref w name id line) name (Some id)
set_within n w name id line is bytes =
    let after = set_ref w name id line in
    subst (Decides after (λ other. RefWithin n after other (Some id)) name (Some id)) (sym (set_here w name id line is)) (Detached id, id_file name id bytes, refl)

pub set_value : (w : World) (name id : List ℕ) (line : LogLine) → IsRefName name → IsId id → RefAt (set_ref w name id line) name (Some id)
set_value w name id line is bytes = set_within 5 w name id line is bytes

-- a name to which a file leads
pub led_name : (name other bytes : List ℕ) → SpellsFile name (Branch other) bytes → IsRefName other
led_name name other bytes h = at (bytes_eq name head_name) h
  where
    at : (t : Bool) → MatchBool t (SpellsHead (Branch other) bytes) (SpellsLoose (Branch other) bytes) → IsRefName other
    at true g = g.0
    at false g = g.is_line.0

-- how a value is found with one more name that leads on
step_set : (n : ℕ) (w after : World) (other id : List ℕ) (value o : Option (List ℕ)) → map.get after (ref_path other) ≡ o
    → map.get after packed_path ≡ map.get w packed_path
    → ((next : List ℕ) → IsRefName next → RefWithin n w next value → RefWithin n after next value ⊎ RefWithin n after next (Some id))
    → Decides w (λ next. RefWithin n w next value) other value o → RefWithin (suc n) after other value ⊎ RefWithin (suc n) after other (Some id)
step_set n w after other id value (Some bytes) here packed later h = lead h.0 h.1 h.2
  where
    found : (v : Option (List ℕ)) (x : Head) → SpellsFile other x bytes → Leads (λ next. RefWithin n after next v) v x
        → RefWithin (suc n) after other v
    found v x file leads = subst (Decides after (λ next. RefWithin n after next v) other v) (sym here) (x, file, leads)

    lead : (x : Head) → SpellsFile other x bytes → Leads (λ next. RefWithin n w next value) value x
        → RefWithin (suc n) after other value ⊎ RefWithin (suc n) after other (Some id)
    lead (Detached i) file leads = inl (found value (Detached i) file leads)
    lead (Branch next) file leads = elim (later next (led_name other next bytes file) leads) [
      | inl same ↦ inl (found value (Branch next) file same)
      | inr new ↦ inr (found (Some id) (Branch next) file new)
    ]
step_set n w after other id value None here packed later h =
    inl (subst (Decides after (λ next. RefWithin n after next value) other value) (sym here)
    (h.0, subst (λ (b : Option (List ℕ)). IsPacked h.0 (unwrap_or b [])) (sym packed) h.1, h.2))

after_set : (n : ℕ) (w : World) (name id : List ℕ) (line : LogLine) → IsRefName name → IsId id → (other : List ℕ) (value : Option (List ℕ))
    → IsRefName other → RefWithin n w other value
    → RefWithin n (set_ref w name id line) other value ⊎ RefWithin n (set_ref w name id line) other (Some id)
after_set zero w name id line is bytes other value told h = absurd h
after_set (suc n) w name id line is bytes other value told h = elim (cases_Bool (bytes_eq other name)) [
  | inl same ↦ inr (subst (λ (o : List ℕ). RefWithin (suc n) (set_ref w name id line) o (Some id)) (sym ((bytes_eq-Decides other name).0 same)) (set_within n w name id line is bytes))
  | inr ne ↦
      step_set n w (set_ref w name id line) other id value (map.get w (ref_path other))
      (set_there w name id (ref_path other) line (λ e. both_ways (bytes_eq other name) ne ((bytes_eq-Decides other name).1 (ap (drop 5) e))) (ref_no_log other name told))
      (set_there w name id packed_path line (ref_no_packed name is) (log_no_packed name))
      (λ next led k. after_set n w name id line is bytes next value led k) h
]

-- what any name had it has, or it leads to the one that was set
pub set_others : (w : World) (name id : List ℕ) (line : LogLine) → IsRefName name → IsId id → (other : List ℕ) (value : Option (List ℕ))
    → IsRefName other → RefAt w other value
    → RefAt (set_ref w name id line) other value ⊎ RefAt (set_ref w name id line) other (Some id)
set_others w name id line is bytes other value told h = after_set 6 w name id line is bytes other value told h

-- ---- a ref that is deleted

pub unpacked_there : (w : World) (refs : Refs) (name q : List ℕ) → q ≢ packed_path → map.get (unpacked w refs name) q ≡ map.get w q
unpacked_there w refs name q ne = at (is_packed refs name)
  where
    at : (t : Bool) → map.get (cond t (map.insert w packed_path (packed_text (without name refs))) w) q ≡ map.get w q
    at true = put_there w packed_path (packed_text (without name refs)) q ne
    at false = refl

pub delete_there : (w : World) (name q : List ℕ) (refs : Refs) → q ≢ ref_path name → q ≢ packed_path
    → map.get (delete_ref w refs name) q ≡ map.get w q
delete_there w name q refs ref packed = gone_there (unpacked w refs name) (ref_path name) q ref ∙ unpacked_there w refs name q packed

pub delete_here : (w : World) (name : List ℕ) (refs : Refs) → map.get (delete_ref w refs name) (ref_path name) ≡ None
delete_here w name refs = gone_here (unpacked w refs name) (ref_path name)

unpacked_at : (t : Bool) (w : World) (name : List ℕ) (refs : Refs) → is_packed refs name ≡ t → PackedAt w refs
    → PackedAt (cond t (map.insert w packed_path (packed_text (without name refs))) w) (without name refs)
unpacked_at true w name refs there packed =
    subst (λ (b : Option (List ℕ)). IsPacked (without name refs) (unwrap_or b [])) (sym (put_here w packed_path (packed_text (without name refs))))
    (packed_spells (without name refs) (packed_without name refs (packed_refs false refs packed.lines packed.are_lines)))
unpacked_at false w name refs none packed = subst (PackedAt w) (sym (without_none name refs none)) packed

-- the packed refs are those without the name
pub delete_packed : (w : World) (name : List ℕ) (refs : Refs) → IsRefName name → PackedAt w refs
    → PackedAt (delete_ref w refs name) (without name refs)
delete_packed w name refs is packed =
    subst (λ (b : Option (List ℕ)). IsPacked (without name refs) (unwrap_or b [])) (sym (gone_there (unpacked w refs name) (ref_path name) packed_path (ref_no_packed name is)))
    (unpacked_at _ w name refs refl packed)

pub delete_value : (w : World) (name : List ℕ) (refs : Refs) → IsRefName name → PackedAt w refs → RefAt (delete_ref w refs name) name None
delete_value w name refs is packed =
    let after = delete_ref w refs name in
    subst (Decides after (λ other. RefWithin 5 after other None) name None) (sym (delete_here w name refs)) (without name refs, delete_packed w name refs is packed, sym (value_without name refs))

pub ruleset set_laws = (set_value, set_there, set_others)

pub ruleset delete_laws = (delete_value, delete_there)
