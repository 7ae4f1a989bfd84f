-- The parts of paths are names.
use Rattle.std.proofs.Common.{◌≡◌, ℕ, ◌+◌, ◌≤◌, ◌==◌, Bool, true, false, cond, ◌&&◌, ◌||◌, not, nat_lt, List, [], ◌∷◌, length, Some, None, refl, sym, ap, subst, arith}
use Rattle.std.specs.List.{AllByRecursion, list_all, onto_first}
use Rattle.std.proofs.lemmas.Bool.{and_from, and_parts}
use Rattle.seq_base.specs.Paths.{IsPath, first_bad, is_part, is_special, parts}
use Rattle.seq_base.specs.PathMaps.{IsPathMap, Entries}
use Rattle.seq_base.proofs.CharFronts.{text_fits}
use Rattle.object_text.specs.Trees.{is_name, is_name_byte}
use Rattle.path_trees.specs.Puts.{GoesOnBehind, cut}
use Rattle.path_trees.proofs.Listings.{HaveNames}

all_parts : (at : ℕ) (ps : List (List ℕ)) → first_bad at ps ≡ None → list_all is_part ps ≡ true
all_parts at [] good = refl
all_parts at (p ∷ ps) good = by (is_part p) refl (all_parts (at + length p + 1) ps) good
  where
    by : (t : Bool) → is_part p ≡ t → (first_bad (at + length p + 1) ps ≡ None → list_all is_part ps ≡ true)
        → cond t (first_bad (at + length p + 1) ps) (Some at) ≡ None → list_all is_part (p ∷ ps) ≡ true
    by true is later good = and_from (is_part p) (list_all is_part ps) is (later good)
    by false is later good = absurd cc

-- what passes everywhere but at slashes passes in all parts
parts_pass : (test : ℕ → Bool) (bytes : List ℕ) → list_all (λ b. test b || b == 47) bytes ≡ true → list_all (list_all test) (parts bytes) ≡ true
parts_pass test [] all = refl
parts_pass test (b ∷ bytes) all =
    let both = and_parts (test b || b == 47) (list_all (λ c. test c || c == 47) bytes) all in
    at (parts_pass test bytes both.1) (b == 47) refl both.0
  where
    passes : (t s : Bool) → s ≡ false → (t || s) ≡ true → t ≡ true
    passes true s is one = refl
    passes false s is one = absurd cc

    onto : (ps : List (List ℕ)) → test b ≡ true → list_all (list_all test) ps ≡ true → list_all (list_all test) (onto_first b ps) ≡ true
    onto [] here later = and_from (list_all test (b ∷ [])) true (and_from (test b) true here refl) refl
    onto (p ∷ ps) here later =
        let both = and_parts (list_all test p) (list_all (list_all test) ps) later in
        and_from (list_all test (b ∷ p)) (list_all (list_all test) ps) (and_from (test b) (list_all test p) here both.0) both.1

    at : list_all (list_all test) (parts bytes) ≡ true → (slash : Bool) → (b == 47) ≡ slash → (test b || b == 47) ≡ true
        → list_all (list_all test) (cond slash ([] ∷ parts bytes) (onto_first b (parts bytes))) ≡ true
    at later true is one = later
    at later false is one = onto (parts bytes) (passes (test b) (b == 47) is one) later

-- no slash, and a byte
abbrev is_plain : ℕ → Bool
is_plain b = not (b == 47) && nat_lt b 256

plain_or_slash : (bytes : List ℕ) → list_all (λ b. nat_lt b 256) bytes ≡ true → list_all (λ b. is_plain b || b == 47) bytes ≡ true
plain_or_slash [] fits = refl
plain_or_slash (b ∷ bytes) fits =
    let both = and_parts (nat_lt b 256) (list_all (λ c. nat_lt c 256) bytes) fits in
    and_from (is_plain b || b == 47) (list_all (λ c. is_plain c || c == 47) bytes) (by (b == 47) (nat_lt b 256) both.0) (plain_or_slash bytes both.1)
  where
    by : (slash fits : Bool) → fits ≡ true → ((not slash && fits) || slash) ≡ true
    by true true is = refl
    by false true is = refl
    by slash false is = absurd cc

bytes_named : (bytes : List ℕ) → list_all (λ b. not (b == 0)) bytes ≡ true → list_all is_plain bytes ≡ true → list_all is_name_byte bytes ≡ true
bytes_named [] some plain = refl
bytes_named (b ∷ bytes) some plain =
    let one = and_parts (not (b == 0)) (list_all (λ c. not (c == 0)) bytes) some in
    let two = and_parts (is_plain b) (list_all is_plain bytes) plain in
    let both = and_parts (not (b == 47)) (nat_lt b 256) two.0 in
    and_from (is_name_byte b) (list_all is_name_byte bytes) (and_from (not (b == 0) && not (b == 47)) (nat_lt b 256) (and_from (not (b == 0)) (not (b == 47)) one.0 both.0) both.1) (bytes_named bytes one.1 two.1)

part_named : (p : List ℕ) → is_part p ≡ true → list_all is_plain p ≡ true → is_name p ≡ true
part_named p part plain =
    let outer = and_parts (not (length p == 0) && list_all (λ b. not (b == 0)) p) (not (is_special p)) part in
    let inner = and_parts (not (length p == 0)) (list_all (λ b. not (b == 0)) p) outer.0 in
    and_from (not (length p == 0) && list_all is_name_byte p) (not (is_special p)) (and_from (not (length p == 0)) (list_all is_name_byte p) inner.0 (bytes_named p inner.1 plain)) outer.1

parts_named : (ps : List (List ℕ)) → list_all is_part ps ≡ true → list_all (list_all is_plain) ps ≡ true → list_all is_name ps ≡ true
parts_named [] good plain = refl
parts_named (p ∷ ps) good plain =
    let one = and_parts (is_part p) (list_all is_part ps) good in
    let two = and_parts (list_all is_plain p) (list_all (list_all is_plain) ps) plain in
    and_from (is_name p) (list_all is_name ps) (part_named p one.0 two.0) (parts_named ps one.1 two.1)

pub path_names : (path : List ℕ) → IsPath path → list_all is_name (parts path) ≡ true
path_names path is =
    parts_named (parts path) (all_parts 0 (parts path) is.parts_are) (parts_pass is_plain path (plain_or_slash path (text_fits path is.text)))

pub all_names : (rows : Entries) → AllByRecursion (λ e. IsPath e.0) rows → HaveNames rows
all_names [] paths = tt
all_names (e ∷ es) paths = (path_names e.0 paths.0, all_names es paths.1)

-- ---- the root, behind no bytes

pub cut_none : (rows : Entries) → cut 0 rows ≡ rows
cut_none [] = refl
cut_none (e ∷ es) = ap (λ (rows : Entries). e ∷ rows) (cut_none es)

all_short : (rows : Entries) → AllByRecursion (λ e. IsPath e.0) rows → AllByRecursion (λ e. length e.0 ≤ 4095) rows
all_short [] paths = tt
all_short (e ∷ es) paths = (paths.0.short, all_short es paths.1)

all_long : (rows : Entries) → AllByRecursion (λ e. 0 ≤ length e.0) rows
all_long [] = tt
all_long (e ∷ es) = (omega arith, all_long es)

pub goes_at_root : (rows : Entries) → AllByRecursion (λ e. IsPath e.0) rows → IsPathMap rows → GoesOnBehind 0 rows
goes_at_root rows paths is = record {
  long = all_long rows;
  short = all_short rows paths;
  names = subst HaveNames (sym (cut_none rows)) (all_names rows paths);
  is_map = subst IsPathMap (sym (cut_none rows)) is;
}
