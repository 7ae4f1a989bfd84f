-- The parts of a path, and where the first begins that is not plain.
use Rattle.std.proofs.Common.{◌≡◌, ℕ, ◌+◌, ◌==◌, ◌&&◌, ◌||◌, not, Bool, true, false, cond, List, [], ◌∷◌, ◌++◌, length, Some, None, refl, sym, ap, subst, suc, arith, eq-eqb, length-append}
use Rattle.std.specs.Prelude.{All, Contains, codes, map}
use Rattle.std.specs.Char.{to_ascii_lowercase}
use Rattle.std.specs.List.{list_all, flat_map, onto_first}
use Rattle.std.specs.Str.{bytes_eq}
use Rattle.std.proofs.lemmas.Bool.{and_parts, and_from, or_parts, or_from, not-true, not_from_false, eqb-true, false_from_ne_true, both_ways, ne_eqb}
use Rattle.std.proofs.lemmas.List.Elements.{All-nil, All-cons, All-head, All-tail, All-contains}
use Rattle.std.proofs.lemmas.List.Sums.{AllPass-from_list_all}
use Rattle.std.proofs.lemmas.Slice.Eq.{bytes_eq-Decides}
use Rattle.seq_base.specs.Paths.{IsPath, IsPlainPart, IsFirstBad, first_bad, is_part, is_special, parts}

abbrev has_no : ℕ → List ℕ → Bool
has_no c part = list_all (λ b. not (b == c)) part

-- a byte that no element is
has_no-free : (c : ℕ) (part : List ℕ) → has_no c part ≡ true → Contains part c → ⊥
has_no-free c part h there =
    let fails : not (c == c) ≡ true = All-contains (λ b. not (b == c) ≡ true) part c (AllPass-from_list_all (λ b. not (b == c)) part h) there in
    both_ways (c == c) (not-true (c == c) fails) (eq-eqb c c refl)

free-has_no : (c : ℕ) (part : List ℕ) → (Contains part c → ⊥) → has_no c part ≡ true
free-has_no c [] h = refl
free-has_no c (b ∷ part) h =
    and_from (not (b == c)) (has_no c part)
    (not_from_false (b == c) (false_from_ne_true (b == c) (λ is. h (0, omega arith, eqb-true b c is))))
    (free-has_no c part (λ there. h (suc there.0, omega (arith, there.1), there.2)))

plain_from : (part : List ℕ) → is_part part ≡ true → has_no 47 part ≡ true → IsPlainPart part
plain_from part h slash =
    let good = and_parts (not (length part == 0) && has_no 0 part) (not (is_special part)) h in
    let full = and_parts (not (length part == 0)) (has_no 0 part) good.0 in
    let special = or_parts (bytes_eq (codes ".") part || bytes_eq (codes "..") part) (bytes_eq (codes ".git") (map to_ascii_lowercase part)) (not-true (is_special part) good.1) in
    let dots = or_parts (bytes_eq (codes ".") part) (bytes_eq (codes "..") part) special.0 in
    record {
      some = λ e. let k : is_part [] ≡ true = subst (λ (p : List ℕ). is_part p ≡ true) e h in cc;
      here = λ e. both_ways (bytes_eq (codes ".") part) dots.0 ((bytes_eq-Decides (codes ".") part).1 (sym e));
      above = λ e. both_ways (bytes_eq (codes "..") part) dots.1 ((bytes_eq-Decides (codes "..") part).1 (sym e));
      git =
          λ e. both_ways (bytes_eq (codes ".git") (map to_ascii_lowercase part)) special.1 ((bytes_eq-Decides (codes ".git") (map to_ascii_lowercase part)).1 (sym e));
      no_nul = has_no-free 0 part full.1;
      no_slash = has_no-free 47 part slash;
    }

not_equal : (a b : List ℕ) → (b ≡ a → ⊥) → bytes_eq a b ≡ false
not_equal a b ne = false_from_ne_true (bytes_eq a b) (λ is. ne (sym ((bytes_eq-Decides a b).0 is)))

part_from : (part : List ℕ) → IsPlainPart part → is_part part ≡ true
part_from part h =
    and_from (not (length part == 0) && has_no 0 part) (not (is_special part))
    (and_from (not (length part == 0)) (has_no 0 part) (full part h.some) (free-has_no 0 part h.no_nul))
    (not_from_false (is_special part) (or_from (bytes_eq (codes ".") part || bytes_eq (codes "..") part) (bytes_eq (codes ".git") (map to_ascii_lowercase part))
    (or_from (bytes_eq (codes ".") part) (bytes_eq (codes "..") part) (not_equal (codes ".") part h.here) (not_equal (codes "..") part h.above))
    (not_equal (codes ".git") (map to_ascii_lowercase part) h.git)))
  where
    full : (p : List ℕ) → (p ≡ [] → ⊥) → not (length p == 0) ≡ true
    full [] ne = absurd (ne refl)
    full (b ∷ p) ne = not_from_false (length (b ∷ p) == 0) (ne_eqb (length (b ∷ p)) 0 (λ e. absurd (omega arith)))

-- no part has a slash
no_slash : (bytes : List ℕ) → All (λ part. has_no 47 part ≡ true) (parts bytes)
no_slash [] = All-cons (λ part. has_no 47 part ≡ true) [] [] refl (All-nil (λ part. has_no 47 part ≡ true))
no_slash (b ∷ bytes) = at (no_slash bytes) (b == 47) refl
  where
    onto : (ps : List (List ℕ)) → (b == 47) ≡ false → All (λ part. has_no 47 part ≡ true) ps → All (λ part. has_no 47 part ≡ true) (onto_first b ps)
    onto [] is h = All-cons (λ part. has_no 47 part ≡ true) (b ∷ []) [] (rw is refl) (All-nil (λ part. has_no 47 part ≡ true))
    onto (p ∷ ps) is h =
        All-cons (λ part. has_no 47 part ≡ true) (b ∷ p) ps (rw is (All-head (λ part. has_no 47 part ≡ true) p ps h)) (All-tail (λ part. has_no 47 part ≡ true) p ps h)

    at : All (λ part. has_no 47 part ≡ true) (parts bytes) → (t : Bool) → (b == 47) ≡ t
        → All (λ part. has_no 47 part ≡ true) (cond t ([] ∷ parts bytes) (onto_first b (parts bytes)))
    at later true is = All-cons (λ part. has_no 47 part ≡ true) [] (parts bytes) refl later
    at later false is = onto (parts bytes) is later

none_bad : (at : ℕ) (ps : List (List ℕ)) → All (λ part. has_no 47 part ≡ true) ps → first_bad at ps ≡ None → All IsPlainPart ps
none_bad at [] free h = All-nil IsPlainPart
none_bad at (p ∷ ps) free h =
    elim (is_part p) as (λ t. is_part p ≡ t → cond t (first_bad (at + length p + 1) ps) (Some at) ≡ None → All IsPlainPart (p ∷ ps)) [
      | true ↦ λ is later.
          All-cons IsPlainPart p ps (plain_from p is (All-head (λ part. has_no 47 part ≡ true) p ps free))
          (none_bad (at + length p + 1) ps (All-tail (λ part. has_no 47 part ≡ true) p ps free) later)
      | false ↦ λ is later. absurd cc
    ] refl h

all_plain : (at : ℕ) (ps : List (List ℕ)) → All IsPlainPart ps → first_bad at ps ≡ None
all_plain at [] h = refl
all_plain at (p ∷ ps) h = rw (part_from p (All-head IsPlainPart p ps h)) (all_plain (at + length p + 1) ps (All-tail IsPlainPart p ps h))

pub path_parts : (bytes : List ℕ) → IsPath bytes → All IsPlainPart (parts bytes)
path_parts bytes path = none_bad 0 (parts bytes) (no_slash bytes) path.parts_are

pub plain_parts : (bytes : List ℕ) → All IsPlainPart (parts bytes) → first_bad 0 (parts bytes) ≡ None
plain_parts bytes h = all_plain 0 (parts bytes) h

-- the parts before the first bad one, it, and those behind it
record Cut (start at : ℕ) (ps : List (List ℕ)) : Type 0 where
  good : List (List ℕ)
  bad : List ℕ
  after : List (List ℕ)
  split : ps ≡ good ++ bad ∷ after
  plain : All IsPlainPart good
  not_plain : IsPlainPart bad → ⊥
  place : at ≡ start + length (flat_map (λ part. part ++ 47 ∷ []) good)

cut : (start at : ℕ) (ps : List (List ℕ)) → All (λ part. has_no 47 part ≡ true) ps → first_bad start ps ≡ Some at → Cut start at ps
cut start at [] free h = absurd cc
cut start at (p ∷ ps) free h =
    elim (is_part p) as (λ t. is_part p ≡ t → cond t (first_bad (start + length p + 1) ps) (Some start) ≡ Some at → Cut start at (p ∷ ps)) [
      | true ↦ λ is later.
          let c = cut (start + length p + 1) at ps (All-tail (λ part. has_no 47 part ≡ true) p ps free) later in
          record {
            good = p ∷ c.good;
            bad = c.bad;
            after = c.after;
            split = ap (λ (qs : List (List ℕ)). p ∷ qs) c.split;
            plain = All-cons IsPlainPart p c.good (plain_from p is (All-head (λ part. has_no 47 part ≡ true) p ps free)) c.plain;
            not_plain = c.not_plain;
            place =
                let far = c.place in omega (arith, length-append p (47 ∷ []), length-append (p ++ 47 ∷ []) (flat_map (λ (part : List ℕ). part ++ 47 ∷ []) c.good));
          }
      | false ↦ λ is now.
          record {
            good = [];
            bad = p;
            after = ps;
            split = refl;
            plain = All-nil IsPlainPart;
            not_plain = λ plain. both_ways (is_part p) is (part_from p plain);
            place = let same : start ≡ at = cc in omega arith;
          }
    ] refl h

pub first_bad_is : (bytes : List ℕ) (at : ℕ) → first_bad 0 (parts bytes) ≡ Some at → IsFirstBad bytes at
first_bad_is bytes at h =
    let c = cut 0 at (parts bytes) (no_slash bytes) h in
    record { good = c.good; bad = c.bad; after = c.after; split = c.split; plain = c.plain; not_plain = c.not_plain; place = let far = c.place in omega arith }
