-- Files in the way of a path: at it, in the place of one of its folders, and below it.
use Rattle.std.proofs.Common.{◌≡◌, ◌⊎◌, inl, inr, ℕ, zero, suc, ◌+◌, ◌<◌, ◌≤◌, Bool, true, false, ◌||◌, ◌&&◌, ◌==◌, List, [], ◌∷◌, ◌++◌, length, take, drop, get_or, refl, sym, ap, subst, arith}
use Rattle.std.specs.Cmp.{both_ways as same_tests}
use Rattle.std.specs.FinMap as map
use Rattle.std.specs.List.{list_any}
use Rattle.std.specs.Str.{bytes_eq}
use Rattle.std.proofs.lemmas.Bool.{and_from, and_parts, both_ways, cases_lt, eq-eqb, eqb-true, false_from_ne_true, or_left, or_right}
use Rattle.std.proofs.lemmas.Slice.Eq.{bytes_eq-Decides}
use Rattle.seq_base.specs.Paths.{IsPath}
use Rattle.seq_base.specs.World.{World, is_below}
use Rattle.seq_base.proofs.Below.{below}
use Rattle.seq_outside.specs.Store.{files_below}
use Rattle.index_file.specs.declared.entry.IndexEntry.{IndexEntry}
use Rattle.stage_index.specs.Switching.{is_in_way, is_untracked}
use Rattle.worktree.specs.Folders.{is_file_before}
use Rattle.seq_outside.proofs.Blocking.{front}
use Rattle.seq_outside.proofs.Keys.{any-filter, any_of, one_of}

-- ---- the folders of a path

front_and_rest : (path : List ℕ) (n : ℕ) → n < length path → get_or path n 0 ≡ 47 → path ≡ take n path ++ 47 ∷ drop (n + 1) path
front_and_rest [] n lt is = absurd (omega arith)
front_and_rest (b ∷ path) zero lt is = ap (λ (c : ℕ). c ∷ path) is
front_and_rest (b ∷ path) (suc n) lt is =
    let k : suc n + 1 ≡ suc (n + 1) = omega arith in rw k (ap (λ (xs : List ℕ). b ∷ xs) (front_and_rest path n (omega arith) is))

front_above : (path : List ℕ) (n : ℕ) → n < length path → get_or path n 0 ≡ 47 → is_below (take n path) path ≡ true
front_above path n lt slash =
    subst (λ (p : List ℕ). is_below (take n path) p ≡ true) (sym (front_and_rest path n lt slash)) (below (take n path) (drop (n + 1) path))

-- ---- a file stands in the place of a folder

abbrev stands : World → List IndexEntry → List ℕ → Bool
stands w from file = is_untracked from file && map.contains_key w file

-- no folder before this place is a file
abbrev pub NoneAbove : World → List IndexEntry → List ℕ → ℕ → Type 0
NoneAbove w from path n = (j : ℕ) → j < n → is_file_before w from path j ≡ false

pub above_found : (w : World) (from : List IndexEntry) (path : List ℕ) (n : ℕ) → n < length path → is_file_before w from path n ≡ true
    → true ≡ list_any (λ file. is_untracked from file && is_below file path) (map.keys w)
above_found w from path n lt is =
    let slash = and_parts (get_or path n 0 == 47) (stands w from (take n path)) is in
    let both = and_parts (is_untracked from (take n path)) (map.contains_key w (take n path)) slash.1 in
    sym (any_of w (λ file. is_untracked from file && is_below file path) (take n path) both.1 (and_from (is_untracked from (take n path)) (is_below (take n path) path) both.0 (front_above path n lt (eqb-true (get_or path n 0) 47 slash.0))))

pub above_none : (w : World) (from : List IndexEntry) (path : List ℕ) (n : ℕ) → length path ≤ n → NoneAbove w from path n
    → false ≡ list_any (λ file. is_untracked from file && is_below file path) (map.keys w)
above_none w from path n all none = sym (false_from_ne_true _ (λ is.
    let found = one_of w (λ file. is_untracked from file && is_below file path) is in
    let both = and_parts (is_untracked from found.file) (is_below found.file path) found.passes in
    let f = front found.file path both.1 in
    let lt = f.within in
    both_ways (is_file_before w from path f.place)
    (none f.place (omega arith))
    (and_from (get_or path f.place 0 == 47) (stands w from (take f.place path)) (eq-eqb (get_or path f.place 0) 47 f.slash)
    (subst (λ (file : List ℕ). stands w from file ≡ true) f.is (and_from (is_untracked from found.file) (map.contains_key w found.file) both.0 found.there)))))

pub above_more : (w : World) (from : List IndexEntry) (path : List ℕ) (n : ℕ) → is_file_before w from path n ≡ false → NoneAbove w from path n
    → NoneAbove w from path (n + 1)
above_more w from path n here none j lt = elim (cases_lt j n) [
  | inl before ↦ none j before
  | inr same ↦ let k : n ≡ j = omega arith in subst (λ (i : ℕ). is_file_before w from path i ≡ false) k here
]

-- ---- files below

pub below_any : (w : World) (from : List IndexEntry) (path : List ℕ) → IsPath path
    → list_any (is_untracked from) (files_below w path) ≡ list_any (λ file. is_untracked from file && is_below path file) (map.keys w)
below_any w from [] is = let some = is.some in absurd (omega arith)
below_any w from (b ∷ path) is = any-filter (is_untracked from) (is_below (b ∷ path)) (map.keys w)

-- ---- all three

abbrev in_way_of : List IndexEntry → List ℕ → List ℕ → Bool
in_way_of from path file = is_untracked from file && is_in_way path file

pub way_at : (w : World) (from : List IndexEntry) (path : List ℕ) → is_untracked from path && map.contains_key w path ≡ true
    → true ≡ list_any (λ file. is_untracked from file && is_in_way path file) (map.keys w)
way_at w from path is =
    let both = and_parts (is_untracked from path) (map.contains_key w path) is in
    sym (any_of w (in_way_of from path) path both.1 (and_from (is_untracked from path) (is_in_way path path) both.0 (or_left (bytes_eq path path) _ ((bytes_eq-Decides path path).1 refl))))

pub way_above : (w : World) (from : List IndexEntry) (path : List ℕ)
    → list_any (λ file. is_untracked from file && is_below file path) (map.keys w) ≡ true
    → true ≡ list_any (λ file. is_untracked from file && is_in_way path file) (map.keys w)
way_above w from path is =
    let found = one_of w (λ file. is_untracked from file && is_below file path) is in
    let both = and_parts (is_untracked from found.file) (is_below found.file path) found.passes in
    sym (any_of w (in_way_of from path) found.file found.there (and_from (is_untracked from found.file) (is_in_way path found.file) both.0 (or_right (bytes_eq found.file path) _ (or_left (is_below found.file path) _ both.1))))

pub way_below : (w : World) (from : List IndexEntry) (path : List ℕ) → is_untracked from path && map.contains_key w path ≡ false
    → list_any (λ file. is_untracked from file && is_below file path) (map.keys w) ≡ false
    → list_any (λ file. is_untracked from file && is_below path file) (map.keys w) ≡ list_any (λ file. is_untracked from file && is_in_way path file) (map.keys w)
way_below w from path not_at not_above = same_tests _ _ to back
  where
    to : list_any (λ file. is_untracked from file && is_below path file) (map.keys w) ≡ true → list_any (in_way_of from path) (map.keys w) ≡ true
    to is =
        let found = one_of w (λ file. is_untracked from file && is_below path file) is in
        let both = and_parts (is_untracked from found.file) (is_below path found.file) found.passes in
        any_of w (in_way_of from path) found.file found.there (and_from (is_untracked from found.file) (is_in_way path found.file) both.0 (or_right (bytes_eq found.file path) _ (or_right (is_below found.file path) _ both.1)))

    one : (file : List ℕ) → map.contains_key w file ≡ true → is_untracked from file ≡ true
        → (bytes_eq file path ≡ true) ⊎ ((is_below file path ≡ true) ⊎ (is_below path file ≡ true))
        → list_any (λ file. is_untracked from file && is_below path file) (map.keys w) ≡ true
    one file there free (inl same) =
        let e : file ≡ path = (bytes_eq-Decides file path).0 same in
        absurd (both_ways (stands w from path) not_at (subst (λ (p : List ℕ). stands w from p ≡ true) e (and_from (is_untracked from file) (map.contains_key w file) free there)))
    one file there free (inr (inl above)) =
        absurd (both_ways _ not_above (any_of w (λ file. is_untracked from file && is_below file path) file there (and_from (is_untracked from file) (is_below file path) free above)))
    one file there free (inr (inr under)) =
        any_of w (λ file. is_untracked from file && is_below path file) file there (and_from (is_untracked from file) (is_below path file) free under)

    either : (a b c : Bool) → a || (b || c) ≡ true → (a ≡ true) ⊎ ((b ≡ true) ⊎ (c ≡ true))
    either true b c h = inl refl
    either false true c h = inr (inl refl)
    either false false c h = inr (inr h)

    back : list_any (in_way_of from path) (map.keys w) ≡ true → list_any (λ file. is_untracked from file && is_below path file) (map.keys w) ≡ true
    back is =
        let found = one_of w (in_way_of from path) is in
        let both = and_parts (is_untracked from found.file) (is_in_way path found.file) found.passes in
        one found.file found.there both.0 (either (bytes_eq found.file path) (is_below found.file path) (is_below path found.file) both.1)
