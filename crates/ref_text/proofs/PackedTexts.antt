-- The packed refs that are written spell the refs.
use Rattle.std.proofs.Common.{◌≡◌, ℕ, ◌+◌, ◌<◌, ◌≤◌, Bool, true, false, not, cond, List, [], ◌∷◌, ◌++◌, length, take, get_or, Some, None, refl, sym, ap, subst, ◌∙◌, append_assoc, arith}
use Rattle.std.specs.List.{flat_map, list_any}
use Rattle.std.specs.Prelude.{map}
use Rattle.std.specs.Str.{bytes_eq}
use Rattle.std.proofs.lemmas.List.{append-nil, take_all, take_more}
use Rattle.std.proofs.lemmas.Bool.{both_ways, or_parts}
use Rattle.std.proofs.lemmas.Slice.Eq.{bytes_eq-Decides}
use Rattle.hex.specs.Hex.{IsBytes, encode_lower}
use Rattle.hex.proofs.HexLemmas.{decode_of-ok}
use Rattle.seq_base.specs.Ids.{HasIdWidth, IsId, SpellsId}
use Rattle.seq_base.specs.RefNames.{IsRefName}
use Rattle.seq_base.proofs.HexCases.{spells_lower}
use Rattle.ref_text.specs.Packed.{AreLines, ArePackedNames, IsPacked, PackedLine, comment, named, peeled, line_text, packed_text}
use Rattle.ref_text.specs.Refs.{without, is_packed, packed_value}

abbrev pub Refs : Type 0
Refs = List (List ℕ × List ℕ)

-- each has the name of a ref and an id
abbrev pub ArePacked : Refs → Type 0
ArePacked [] = Unit {0}
ArePacked (r ∷ refs) = IsRefName r.0 × IsBytes r.1 × HasIdWidth r.1 × ArePacked refs

id_size : (id digits : List ℕ) → SpellsId id digits → IsId id
id_size id digits h = let d = decode_of-ok digits id h.bytes in (d.3, let size = d.2 in let all = h.forty in omega arith)

-- what lines spell
pub packed_refs : (after : Bool) (refs : Refs) (lines : List PackedLine) → AreLines after refs lines → ArePacked refs
packed_refs after [] lines h = tt
packed_refs after (r ∷ refs) [] h = absurd h
packed_refs after (r ∷ refs) (comment text ∷ lines) h = packed_refs false (r ∷ refs) lines h.1
packed_refs after (r ∷ refs) (peeled digits ∷ lines) h = packed_refs false (r ∷ refs) lines h.2
packed_refs after (r ∷ refs) (named digits name ∷ lines) h =
    let id = id_size r.1 digits h.2 in (subst IsRefName (sym h.0) h.1, id.0, id.1, packed_refs true refs lines h.3)

names_of : (refs : Refs) → ArePacked refs → ArePackedNames refs
names_of [] h = tt
names_of (r ∷ refs) h = (h.0, names_of refs h.3)

pub names_told : (refs : Refs) (text : List ℕ) → IsPacked refs text → ArePackedNames refs
names_told refs text h = names_of refs (packed_refs false refs h.lines h.are_lines)

-- a line for each
abbrev lines_of : Refs → List PackedLine
lines_of refs = map (λ r. named (encode_lower r.1) r.0) refs

are_lines : (after : Bool) (refs : Refs) → ArePacked refs → AreLines after refs (lines_of refs)
are_lines after [] h = tt
are_lines after (r ∷ refs) h = (refl, h.0, spells_lower r.1 h.1 h.2, are_lines true refs h.3)

lines_text : (refs : Refs) → packed_text refs ≡ flat_map line_text (lines_of refs)
lines_text [] = refl
lines_text (r ∷ refs) = ap (λ (t : List ℕ). (encode_lower r.1 ++ 32 ∷ r.0 ++ 10 ∷ []) ++ t) (lines_text refs)

pub packed_spells : (refs : Refs) → ArePacked refs → IsPacked refs (packed_text refs)
packed_spells refs h = record { lines = lines_of refs; are_lines = are_lines false refs h; text_is = lines_text refs }

-- the refs of other names
pub packed_without : (name : List ℕ) (refs : Refs) → ArePacked refs → ArePacked (without name refs)
packed_without name [] h = tt
packed_without name (r ∷ refs) h = at (bytes_eq r.0 name) (packed_without name refs h.3)
  where
    at : (t : Bool) → ArePacked (without name refs) → ArePacked (cond (not t) (r ∷ without name refs) (without name refs))
    at true later = later
    at false later = (h.0, h.1, h.2, later)

pub value_without : (name : List ℕ) (refs : Refs) → packed_value (without name refs) name ≡ None
value_without name [] = refl
value_without name (r ∷ refs) = at (bytes_eq r.0 name) refl (value_without name refs)
  where
    at : (t : Bool) → bytes_eq r.0 name ≡ t → packed_value (without name refs) name ≡ None
        → packed_value (cond (not t) (r ∷ without name refs) (without name refs)) name ≡ None
    at true e later = later
    at false e later = rw e later

pub without_none : (name : List ℕ) (refs : Refs) → is_packed refs name ≡ false → without name refs ≡ refs
without_none name [] h = refl
without_none name (r ∷ refs) h =
    let both = or_parts (bytes_eq r.0 name) (list_any (λ q. bytes_eq q.0 name) refs) h in rw (both.0, without_none name refs both.1) refl

value_kept_at : (t u : Bool) (name other : List ℕ) (r : List ℕ × List ℕ) (refs : Refs) → bytes_eq r.0 name ≡ t → bytes_eq r.0 other ≡ u
    → bytes_eq other name ≡ false
    → packed_value (without name refs) other ≡ packed_value refs other → packed_value (cond (not t) (r ∷ without name refs) (without name refs)) other ≡ cond u (Some r.1) (packed_value refs other)
value_kept_at true true name other r refs is also ne later =
    absurd (both_ways (bytes_eq other name) ne ((bytes_eq-Decides other name).1 (sym ((bytes_eq-Decides r.0 other).0 also) ∙ (bytes_eq-Decides r.0 name).0 is)))
value_kept_at true false name other r refs is also ne later = later
value_kept_at false true name other r refs is also ne later = rw also refl
value_kept_at false false name other r refs is also ne later = rw also later

-- another name keeps its packed value
pub value_kept : (name other : List ℕ) (refs : Refs) → bytes_eq other name ≡ false → packed_value (without name refs) other ≡ packed_value refs other
value_kept name other [] ne = refl
value_kept name other (r ∷ refs) ne =
    value_kept_at (bytes_eq r.0 name) (bytes_eq r.0 other) name other r refs refl refl ne (value_kept name other refs ne)

pub value_none : (name : List ℕ) (refs : Refs) → is_packed refs name ≡ false → packed_value refs name ≡ None
value_none name [] h = refl
value_none name (r ∷ refs) h =
    let both = or_parts (bytes_eq r.0 name) (list_any (λ q. bytes_eq q.0 name) refs) h in rw both.0 (value_none name refs both.1)

-- each has an id
abbrev pub HaveIds : Refs → Type 0
HaveIds [] = Unit {0}
HaveIds (r ∷ refs) = IsBytes r.1 × HasIdWidth r.1 × HaveIds refs

pub ids-push : (refs : Refs) (r : List ℕ × List ℕ) → HaveIds refs → IsId r.1 → HaveIds (refs ++ r ∷ [])
ids-push [] r h is = (is.0, is.1, tt)
ids-push (q ∷ refs) r h is = (h.0, h.1, ids-push refs r h.2 is)

with_names : (refs : Refs) → ArePackedNames refs → HaveIds refs → ArePacked refs
with_names [] names ids = tt
with_names (r ∷ refs) names ids = (names.0, ids.0, ids.1, with_names refs names.1 ids.2)

pub written_spells : (refs : Refs) → ArePackedNames refs → HaveIds refs → IsPacked refs (packed_text refs)
written_spells refs names ids = packed_spells refs (with_names refs names ids)

pub text-push : (refs : Refs) (r : List ℕ × List ℕ) → packed_text (refs ++ r ∷ []) ≡ packed_text refs ++ (encode_lower r.1 ++ 32 ∷ r.0 ++ 10 ∷ [])
text-push [] r = append-nil _
text-push (q ∷ refs) r =
    ap (λ (t : List ℕ). (encode_lower q.1 ++ 32 ∷ q.0 ++ 10 ∷ []) ++ t) (text-push refs r)
    ∙ sym (append_assoc (encode_lower q.1 ++ 32 ∷ q.0 ++ 10 ∷ []) (packed_text refs) (encode_lower r.1 ++ 32 ∷ r.0 ++ 10 ∷ []))

-- one ref more
pub text_more : (refs : Refs) (i : ℕ) (r : List ℕ × List ℕ) (out after name : List ℕ) → i < length refs → r ≡ get_or refs i r
    → out ≡ packed_text (take i refs) → name ≡ r.0 → after ≡ out ++ (encode_lower r.1 ++ 32 ∷ name ++ 10 ∷ [])
    → after ≡ packed_text (take (i + 1) refs)
text_more refs i r out after name lt is out_is name_is after_is =
    let more : take (i + 1) refs ≡ take i refs ++ r ∷ [] = take_more refs i r lt ∙ ap (λ (q : List ℕ × List ℕ). take i refs ++ q ∷ []) (sym is) in
    after_is ∙ ap (λ (t : List ℕ). t ++ (encode_lower r.1 ++ 32 ∷ name ++ 10 ∷ [])) out_is ∙ ap (λ (t : List ℕ). packed_text (take i refs) ++ (encode_lower r.1 ++ 32 ∷ t ++ 10 ∷ [])) name_is
    ∙ sym (text-push (take i refs) r) ∙ ap packed_text (sym more)

pub ids_more : (refs : Refs) (i : ℕ) (r : List ℕ × List ℕ) → i < length refs → r ≡ get_or refs i r → HaveIds (take i refs) → IsId r.1
    → HaveIds (take (i + 1) refs)
ids_more refs i r lt is ids id =
    let more : take (i + 1) refs ≡ take i refs ++ r ∷ [] = take_more refs i r lt ∙ ap (λ (q : List ℕ × List ℕ). take i refs ++ q ∷ []) (sym is) in
    subst HaveIds (sym more) (ids-push (take i refs) r ids id)

pub all_spelled : (refs : Refs) (i : ℕ) (out : List ℕ) → length refs ≤ i → ArePackedNames refs → out ≡ packed_text (take i refs)
    → HaveIds (take i refs) → IsPacked refs out
all_spelled refs i out le names out_is ids =
    let all : take i refs ≡ refs = take_all i refs le in
    subst (IsPacked refs) (sym (out_is ∙ ap packed_text all)) (written_spells refs names (subst HaveIds all ids))
