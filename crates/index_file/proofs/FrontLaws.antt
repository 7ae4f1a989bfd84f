-- What is known of the fronts of a path answers whether it lies below a file, and is carried from one path to the next.
use Rattle.std.proofs.Common.{◌≡◌, ℕ, suc, ◌+◌, ◌-◌, ◌≤◌, Bool, true, false, ◌&&◌, ◌||◌, ◌==◌, nat_lt, cond, List, [], ◌∷◌, ◌++◌, length, take, set, replicate, refl, sym, ap, ◌∙◌, arith}
use Rattle.std.specs.Prelude.{take_while}
use Rattle.std.specs.List.{list_any, list_all, zip, prefix_len}
use Rattle.std.proofs.lemmas.Bool.Decides.{nat_tests}
use Rattle.std.proofs.lemmas.Bool.{eqb-true}
use Rattle.seq_base.specs.World.{is_below}
use Rattle.index_file.specs.Fronts.{behind, has_empty, is_empty, fronts, is_below_front, common}

-- ---- how many bytes two lists share

both_below : (t : Bool) (k m n : ℕ) → k ≤ m → k ≤ n → (cond t (k + 1) 0 ≤ suc m) × (cond t (k + 1) 0 ≤ suc n)
both_below true k m n p q = (omega arith, omega arith)
both_below false k m n p q = (omega arith, omega arith)

pub common_le : (xs ys : List ℕ) → (common xs ys ≤ length xs) × (common xs ys ≤ length ys)
common_le [] ys = (omega arith, omega arith)
common_le (x ∷ xs) [] = (omega arith, omega arith)
common_le (x ∷ xs) (y ∷ ys) = both_below (x == y) (common xs ys) (length xs) (length ys) (common_le xs ys).0 (common_le xs ys).1

one_up : (k : ℕ) → k + 1 ≡ suc k
one_up k = omega arith

counted_by : (t : Bool) (x : ℕ × ℕ) (pairs : List (ℕ × ℕ)) (n k : ℕ) → length (take n pairs) ≡ k
    → length (take (cond t (1 + n) 0) (x ∷ pairs)) ≡ cond t (k + 1) 0
counted_by true x pairs n k e = rw (one_more n) (ap suc e ∙ sym (one_up k))
  where
    one_more : (n : ℕ) → 1 + n ≡ suc n
    one_more n = omega arith
counted_by false x pairs n k e = refl

pub common_is : (xs ys : List ℕ) → length (take_while (λ p. p.0 == p.1) (zip xs ys)) ≡ common xs ys
common_is [] ys = refl
common_is (x ∷ xs) [] = refl
common_is (x ∷ xs) (y ∷ ys) = counted_by (x == y) (x, y) (zip xs ys) (prefix_len (λ p. p.0 == p.1) (zip xs ys)) (common xs ys) (common_is xs ys)

-- ---- what lies below

empty_first : (k h r : Bool) → k || ((h && k) || r) ≡ k || r
empty_first true h r = refl
empty_first false true r = refl
empty_first false false r = refl

past : (x h k r : Bool) → x || ((h && k) || r) ≡ (h && k) || (x || r)
past true true true r = refl
past true true false r = refl
past true false k r = refl
past false h k r = refl

either_way : (t s u l h k : Bool) (test : List ℕ → Bool) (file : List ℕ) (files : List (List ℕ)) → s && u ≡ test file
    → l ≡ (h && k) || list_any test files
    → ((t && s) && u) || l ≡ (h && k) || list_any test (cond t (file ∷ files) files)
either_way true s u l h k test file files e f = rw (e, f) (past (test file) h k (list_any test files))
either_way false s u l h k test file files e f = f

any_step : (b : ℕ) (path : List ℕ) (files : List (List ℕ))
    → list_any (λ file. is_below file (b ∷ path)) files ≡ (has_empty files && (b == 47)) || list_any (λ file. is_below file path) (behind b files)
any_step b path [] = refl
any_step b path ([] ∷ files) =
    ap (λ (l : Bool). (b == 47) || l) (any_step b path files)
    ∙ empty_first (b == 47) (has_empty files) (list_any (λ file. is_below file path) (behind b files))
any_step b path ((c ∷ file) ∷ files) =
    either_way (c == b) _ _ (list_any (λ file. is_below file (b ∷ path)) files) (has_empty files) (b == 47) (λ file. is_below file path) file (behind b files) refl (any_step b path files)

none_below : (files : List (List ℕ)) → list_any (λ file. is_below file []) files ≡ false
none_below [] = refl
none_below ([] ∷ files) = none_below files
none_below ((c ∷ file) ∷ files) = none_below files

swapped : (h k : Bool) → h && k ≡ k && h
swapped true true = refl
swapped true false = refl
swapped false true = refl
swapped false false = refl

pub below_is : (files : List (List ℕ)) (path : List ℕ) → list_any (λ file. is_below file path) files ≡ is_below_front (fronts files path) path
below_is files [] = none_below files
below_is files (b ∷ path) =
    any_step b path files ∙ rw (below_is (behind b files) path) (ap (λ (x : Bool). x || is_below_front (fronts (behind b files) path) path) (swapped (has_empty files) (b == 47)))

-- ---- from one path to the next

-- a path is no greater than another
abbrev pub at_most : List ℕ → List ℕ → Bool
at_most [] ys = true
at_most (x ∷ xs) [] = false
at_most (x ∷ xs) (y ∷ ys) = cond (x == y) (at_most xs ys) (nat_lt x y)

abbrev pub AllAtMost : List (List ℕ) → List ℕ → Type 0
AllAtMost files last = list_all (λ file. at_most file last) files ≡ true

both : (a b : Bool) → a && b ≡ true → (a ≡ true) × (b ≡ true)
both true b e = (refl, e)
both false b e = cc

also : (a b : Bool) → a ≡ true → b ≡ true → a && b ≡ true
also true b p q = q
also false b p q = cc

behind_nil : (b : ℕ) (files : List (List ℕ)) → AllAtMost files [] → behind b files ≡ []
behind_nil b [] h = refl
behind_nil b ([] ∷ files) h = behind_nil b files h
behind_nil b ((c ∷ file) ∷ files) h = cc

most_by : (t : Bool) (file last : List ℕ) (below : Bool) (files : List (List ℕ)) → cond t (at_most file last) below ≡ true → AllAtMost files last
    → AllAtMost (cond t (file ∷ files) files) last
most_by true file last below files p q = also (at_most file last) (list_all (λ file. at_most file last) files) p q
most_by false file last below files p q = q

behind_most : (c : ℕ) (last : List ℕ) (files : List (List ℕ)) → AllAtMost files (c ∷ last) → AllAtMost (behind c files) last
behind_most c last [] h = refl
behind_most c last ([] ∷ files) h = behind_most c last files h
behind_most c last ((d ∷ file) ∷ files) h =
    let s = both (at_most (d ∷ file) (c ∷ last)) (list_all (λ file. at_most file (c ∷ last)) files) h in
    most_by (d == c) file last (nat_lt d c) (behind c files) s.0 (behind_most c last files s.1)

too_great : (b c d : ℕ) (x : Bool) → nat_lt c b ≡ true → (d == b) ≡ true → cond (d == c) x (nat_lt d c) ≡ true → ⊥
too_great b c d x lt e h = grind (arith, nat_tests)

none_by : (t : Bool) (file : List ℕ) (files : List (List ℕ)) → (t ≡ true → ⊥) → files ≡ [] → cond t (file ∷ files) files ≡ []
none_by true file files p e = absurd (p refl)
none_by false file files p e = e

behind_none : (b c : ℕ) (last : List ℕ) (files : List (List ℕ)) → nat_lt c b ≡ true → AllAtMost files (c ∷ last) → behind b files ≡ []
behind_none b c last [] lt h = refl
behind_none b c last ([] ∷ files) lt h = behind_none b c last files lt h
behind_none b c last ((d ∷ file) ∷ files) lt h =
    let s = both (at_most (d ∷ file) (c ∷ last)) (list_all (λ file. at_most file (c ∷ last)) files) h in
    none_by (d == b) file (behind b files) (λ e. too_great b c d (at_most file last) lt e s.0) (behind_none b c last files lt s.1)

fronts_none : (path : List ℕ) → fronts [] path ≡ replicate (suc (length path)) false
fronts_none [] = refl
fronts_none (b ∷ path) = ap (λ (ms : List Bool). false ∷ ms) (fronts_none path)

-- what is left of the marks of last at path
abbrev pub carried : List ℕ → List Bool → List ℕ → List Bool
carried last marks path = take (common last path + 1) marks ++ replicate (length path - common last path) false

suc_sub : (m n : ℕ) → suc m - (n + 1) ≡ m - n
suc_sub m n = omega arith

sub_zero : (m : ℕ) → m - 0 ≡ m
sub_zero m = omega arith

-- the step, by whether the first bytes are the same
step_by : (t : Bool) (k : ℕ) (h : Bool) (marks new : List Bool) (n : ℕ)
    → (t ≡ true → take (k + 1) marks ++ replicate (n - k) false ≡ new) → (t ≡ false → replicate (suc n) false ≡ new)
    → take (cond t (k + 1) 0 + 1) (h ∷ marks) ++ replicate (suc n - cond t (k + 1) 0) false ≡ h ∷ new
step_by true k h marks new n p q = rw (one_up (k + 1), suc_sub n k) (ap (λ (ms : List Bool). h ∷ ms) (p refl))
step_by false k h marks new n p q = rw (sub_zero (suc n)) (ap (λ (ms : List Bool). h ∷ ms) (q refl))

when_same : (c b : ℕ) (x y : Bool) → (c == b) ≡ true → cond (c == b) x y ≡ true → x ≡ true
when_same c b x y e h = sym (ap (λ (t : Bool). cond t x y) e) ∙ h

when_other : (c b : ℕ) (x y : Bool) → (c == b) ≡ false → cond (c == b) x y ≡ true → y ≡ true
when_other c b x y e h = sym (ap (λ (t : Bool). cond t x y) e) ∙ h

pub carried_is : (files : List (List ℕ)) (last path : List ℕ) → AllAtMost files last → at_most last path ≡ true
    → carried last (fronts files last) path ≡ fronts files path
carried_is files [] [] all le = refl
carried_is files [] (b ∷ path) all le =
    rw (behind_nil b files all, sub_zero (suc (length path))) (ap (λ (ms : List Bool). has_empty files ∷ ms) (sym (fronts_none path)))
carried_is files (c ∷ last) [] all le = cc
carried_is files (c ∷ last) (b ∷ path) all le =
    step_by (c == b) (common last path) (has_empty files) (fronts (behind c files) last) (fronts (behind b files) path) (length path)
    (λ e. carried_is (behind c files) last path (behind_most c last files all) (when_same c b (at_most last path) (nat_lt c b) e le)
    ∙ ap (λ (n : ℕ). fronts (behind n files) path) (eqb-true c b e))
    (λ e. sym (ap (λ (fs : List (List ℕ)). fronts fs path) (behind_none b c last files (when_other c b (at_most last path) (nat_lt c b) e le) all) ∙ fronts_none path))

-- ---- one file more

has_more : (files : List (List ℕ)) (b : ℕ) (path : List ℕ) → has_empty (files ++ (b ∷ path) ∷ []) ≡ has_empty files
has_more [] b path = refl
has_more (file ∷ files) b path = ap (λ (x : Bool). is_empty file || x) (has_more files b path)

has_itself : (files : List (List ℕ)) → has_empty (files ++ [] ∷ []) ≡ true
has_itself [] = refl
has_itself (file ∷ files) = rw (has_itself files) (or_true (is_empty file))
  where
    or_true : (b : Bool) → b || true ≡ true
    or_true true = refl
    or_true false = refl

same_byte : (b : ℕ) → (b == b) ≡ true
same_byte b = grind (arith, nat_tests)

behind_more : (files : List (List ℕ)) (b : ℕ) (path : List ℕ) → behind b (files ++ (b ∷ path) ∷ []) ≡ behind b files ++ path ∷ []
behind_more [] b path = rw (same_byte b) refl
behind_more ([] ∷ files) b path = behind_more files b path
behind_more ((c ∷ file) ∷ files) b path = rw (behind_more files b path) (by_test (c == b))
  where
    by_test : (t : Bool)
        → cond t (file ∷ (behind b files ++ path ∷ [])) (behind b files ++ path ∷ []) ≡ cond t (file ∷ behind b files) (behind b files) ++ path ∷ []
    by_test true = refl
    by_test false = refl

pub fronts_more : (files : List (List ℕ)) (path : List ℕ) → fronts (files ++ path ∷ []) path ≡ set (fronts files path) (length path) true
fronts_more files [] = ap (λ (b : Bool). b ∷ []) (has_itself files)
fronts_more files (b ∷ path) = rw (has_more files b path, behind_more files b path, fronts_more (behind b files) path) refl

pub length-fronts : (files : List (List ℕ)) (path : List ℕ) → length (fronts files path) ≡ length path + 1
length-fronts files [] = refl
length-fronts files (b ∷ path) = omega (arith, length-fronts (behind b files) path)
