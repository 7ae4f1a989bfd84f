-- The file of a ref and that of its log are store paths, and stand in no other file's place.
use Rattle.std.proofs.Common.{◌≡◌, ℕ, ◌==◌, ◌&&◌, not, nat_eq, Bool, true, false, cond, codes, List, [], ◌∷◌, ◌++◌, length, inl, inr, refl, sym, ap, subst, ◌∙◌, append_assoc}
use Rattle.std.specs.List.{list_all, starts_with, ends_with, onto_first}
use Rattle.std.specs.Prelude.{drop, slice_index, take}
use Rattle.std.specs.Str.{IsUtf8, bytes_eq}
use Rattle.std.proofs.lemmas.Bool.{and_parts, and_from, or_cases, not_from_false, false_from_ne_true, eqb-true}
use Rattle.std.proofs.lemmas.List.{take-append-drop}
use Rattle.std.proofs.lemmas.List.Folds.{list_all-append}
use Rattle.std.proofs.lemmas.Slice.Eq.{bytes_eq-Decides}
use Rattle.std.proofs.lemmas.Str.{IsUtf8-append}
use Rattle.seq_base.specs.Paths.{parts}
use Rattle.seq_base.specs.RefNames.{IsRefName, has_pair, is_below_refs, is_ref_byte, is_ref_part}
use Rattle.seq_base.specs.Repository.{is_in_place}
use Rattle.seq_base.specs.StorePaths.{IsStorePath, is_store_part, is_text}
use Rattle.seq_base.proofs.Places.{log_in_place, parts-behind, place_in_place, ref_in_place}
use Rattle.seq_base.proofs.Texts.{is_text-utf8, utf8-is_text}

-- what each byte meets, each byte of each part meets
pub all_in_parts : (p : ℕ → Bool) (bytes : List ℕ) → list_all p bytes ≡ true → list_all (list_all p) (parts bytes) ≡ true
all_in_parts p [] h = refl
all_in_parts p (b ∷ bytes) h = at (all_in_parts p bytes both.1) (b == 47)
  where
    both : (p b ≡ true) × (list_all p bytes ≡ true)
    both = and_parts (p b) (list_all p bytes) h

    onto : (ps : List (List ℕ)) → list_all (list_all p) ps ≡ true → list_all (list_all p) (onto_first b ps) ≡ true
    onto [] later = rw both.0 refl
    onto (part ∷ ps) later =
        let split = and_parts (list_all p part) (list_all (list_all p) ps) later in
        and_from (list_all p (b ∷ part)) (list_all (list_all p) ps) (and_from (p b) (list_all p part) both.0 split.0) split.1

    at : list_all (list_all p) (parts bytes) ≡ true → (t : Bool)
        → list_all (list_all p) (cond t ([] ∷ parts bytes) (onto_first b (parts bytes))) ≡ true
    at later true = later
    at later false = onto (parts bytes) later

-- a byte that may stand in the name of a ref is no NUL
no_nul : (bytes : List ℕ) → list_all is_ref_byte bytes ≡ true → list_all (λ b. not (b == 0)) bytes ≡ true
no_nul [] h = refl
no_nul (b ∷ bytes) h =
    let both = and_parts (is_ref_byte b) (list_all is_ref_byte bytes) h in
    and_from (not (b == 0)) (list_all (λ c. not (c == 0)) bytes)
    (not_from_false (b == 0) (false_from_ne_true (b == 0) (λ is. let nul : is_ref_byte 0 ≡ true = subst (λ (c : ℕ). is_ref_byte c ≡ true) (eqb-true b 0 is) both.0 in cc)))
    (no_nul bytes both.1)

-- no part is what a part of a ref is not
differs : (other part : List ℕ) → is_ref_part other ≡ false → is_ref_part part ≡ true → not (bytes_eq other part) ≡ true
differs other part bad good = not_from_false (bytes_eq other part) (false_from_ne_true (bytes_eq other part) (λ is.
    let same : is_ref_part other ≡ true = subst (λ (q : List ℕ). is_ref_part q ≡ true) (sym ((bytes_eq-Decides other part).0 is)) good in
    cc))

store_part : (part : List ℕ) → is_ref_part part ≡ true → list_all is_ref_byte part ≡ true → is_store_part part ≡ true
store_part part good free =
    let one = and_parts (not (length part == 0) && not (slice_index part 0 == 46)) (not (ends_with nat_eq part (codes ".lock"))) good in
    let two = and_parts (not (length part == 0)) (not (slice_index part 0 == 46)) one.0 in
    and_from (not (length part == 0) && not (bytes_eq (codes ".") part) && not (bytes_eq (codes "..") part)) (list_all (λ b. not (b == 0)) part)
    (and_from (not (length part == 0) && not (bytes_eq (codes ".") part)) (not (bytes_eq (codes "..") part))
    (and_from (not (length part == 0)) (not (bytes_eq (codes ".") part)) two.0 (differs (codes ".") part refl good))
    (differs (codes "..") part refl good))
    (no_nul part free)

store_parts : (ps : List (List ℕ)) → list_all is_ref_part ps ≡ true → list_all (list_all is_ref_byte) ps ≡ true → list_all is_store_part ps ≡ true
store_parts [] good free = refl
store_parts (part ∷ ps) good free =
    let goods = and_parts (is_ref_part part) (list_all is_ref_part ps) good in
    let frees = and_parts (list_all is_ref_byte part) (list_all (list_all is_ref_byte) ps) free in
    and_from (is_store_part part) (list_all is_store_part ps) (store_part part goods.0 frees.0) (store_parts ps goods.1 frees.1)

-- what holds of a name below `refs/`
pub record BelowRefs (name : List ℕ) : Type 0 where
  pub begins : starts_with nat_eq name (codes "refs/") ≡ true
  pub text : is_text name ≡ true
  pub bytes : list_all is_ref_byte name ≡ true
  pub parts_are : list_all is_ref_part (parts name) ≡ true
  pub no_dots : not (has_pair 46 46 name) ≡ true
  pub no_log : not (has_pair 64 123 name) ≡ true
  pub no_dot : not (ends_with nat_eq name (codes ".")) ≡ true

pub below_refs : (name : List ℕ) → is_below_refs name ≡ true → BelowRefs name
below_refs name h =
    let six = and_parts _ (not (ends_with nat_eq name (codes "."))) h in
    let five = and_parts _ (not (has_pair 64 123 name)) six.0 in
    let four = and_parts _ (not (has_pair 46 46 name)) five.0 in
    let three = and_parts _ (list_all is_ref_part (parts name)) four.0 in
    let two = and_parts _ (list_all is_ref_byte name) three.0 in
    let one = and_parts (starts_with nat_eq name (codes "refs/")) (is_text name) two.0 in
    record { begins = one.0; text = one.1; bytes = two.1; parts_are = three.1; no_dots = four.1; no_log = five.1; no_dot = six.1 }

-- what begins so goes on behind it
pub behind_front : (front bytes : List ℕ) → starts_with nat_eq bytes front ≡ true → bytes ≡ front ++ drop (length front) bytes
behind_front front bytes h =
    sym (take-append-drop (length front) bytes) ∙ ap (λ (f : List ℕ). f ++ drop (length front) bytes) (sym ((bytes_eq-Decides front (take (length front) bytes)).0 h))

-- below a folder that a store may hold
below_folder : (folder name : List ℕ) → is_text (folder ++ 47 ∷ []) ≡ true → list_all is_store_part (parts folder) ≡ true → is_below_refs name ≡ true
    → IsStorePath (folder ++ 47 ∷ name)
below_folder folder name front good h =
    let is = below_refs name h in
    let text : is_text (folder ++ 47 ∷ name) ≡ true = is_text-utf8 _ (subst IsUtf8 (append_assoc folder (47 ∷ []) name) (IsUtf8-append (folder ++ 47 ∷ []) name (utf8-is_text (folder ++ 47 ∷ []) front) (utf8-is_text name is.text))) in
    let split : list_all is_store_part (parts (folder ++ 47 ∷ name)) ≡ (list_all is_store_part (parts folder) && list_all is_store_part (parts name)) = ap (list_all is_store_part) (parts-behind folder name) ∙ list_all-append is_store_part (parts folder) (parts name) in
    and_from (is_text (folder ++ 47 ∷ name)) (list_all is_store_part (parts (folder ++ 47 ∷ name))) text
    (split ∙ and_from _ _ good (store_parts (parts name) is.parts_are (all_in_parts is_ref_byte name is.bytes)))

-- what holds at HEAD and of each name below `refs/`
pub each_name : (P : List ℕ → Type 0) (name : List ℕ) → P (codes "HEAD") → (is_below_refs name ≡ true → P name) → IsRefName name → P name
each_name P name head below h = elim (or_cases (bytes_eq name (codes "HEAD")) (is_below_refs name) h) [
  | inl is ↦ subst P (sym ((bytes_eq-Decides name (codes "HEAD")).0 is)) head
  | inr is ↦ below is
]

pub ref_stored : (name : List ℕ) → IsRefName name → IsStorePath (codes ".git/" ++ name)
ref_stored name h = each_name (λ n. IsStorePath (codes ".git/" ++ n)) name refl (below_folder (codes ".git") name refl refl) h

pub ref_log_stored : (name : List ℕ) → IsRefName name → IsStorePath (codes ".git/logs/" ++ name)
ref_log_stored name h = each_name (λ n. IsStorePath (codes ".git/logs/" ++ n)) name refl (below_folder (codes ".git/logs") name refl refl) h

rest_of : (name : List ℕ) → is_below_refs name ≡ true → name ≡ codes "refs/" ++ drop 5 name
rest_of name h = behind_front (codes "refs/") name (below_refs name h).begins

pub ref_placed : (name : List ℕ) → IsRefName name → is_in_place (codes ".git/" ++ name) ≡ true
ref_placed name h =
    each_name (λ n. is_in_place (codes ".git/" ++ n) ≡ true) name (place_in_place (codes ".git/HEAD") refl)
    (λ below. subst (λ (n : List ℕ). is_in_place (codes ".git/" ++ n) ≡ true) (sym (rest_of name below)) (ref_in_place (drop 5 name))) h

pub ref_log_placed : (name : List ℕ) → IsRefName name → is_in_place (codes ".git/logs/" ++ name) ≡ true
ref_log_placed name h =
    each_name (λ n. is_in_place (codes ".git/logs/" ++ n) ≡ true) name (place_in_place (codes ".git/logs/HEAD") refl)
    (λ below. subst (λ (n : List ℕ). is_in_place (codes ".git/logs/" ++ n) ≡ true) (sym (rest_of name below)) (log_in_place (drop 5 name))) h

pub ruleset ref_paths = (ref_stored, ref_log_stored, ref_placed, ref_log_placed)
