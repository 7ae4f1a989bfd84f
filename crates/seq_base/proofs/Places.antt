-- The places of a repository's files and folders, and which paths stand in none of them.
use Rattle.std.proofs.Common.{◌≡◌, ◌⊎◌, ℕ, suc, ◌<◌, ◌==◌, ◌&&◌, ◌||◌, not, nat_lt, Bool, true, false, cond, List, [], ◌∷◌, ◌++◌, length, take, drop, refl, sym, ap, subst, ◌∙◌, arith, inl, inr, length-append, length-take, length-drop}
use Rattle.std.specs.Prelude.{All, codes, map}
use Rattle.std.specs.Char.{to_ascii_lowercase}
use Rattle.std.specs.List.{list_all, onto_first}
use Rattle.std.specs.Str.{bytes_eq}
use Rattle.std.proofs.lemmas.Bool.{and_parts, and_from, and_left, and_right, or_cases, not-true, not_from_false, both_ways, false_from_ne_true, lt-ltb, ltb-true}
use Rattle.std.proofs.lemmas.List.{take-append-drop}
use Rattle.std.proofs.lemmas.List.Elements.{All-head}
use Rattle.std.proofs.lemmas.List.Splits.{length-slice_split}
use Rattle.std.proofs.lemmas.Slice.Eq.{bytes_eq-Decides}
use Rattle.std.proofs.Math.Seq.{take-append_seam}
use Rattle.seq_base.specs.Paths.{IsPath, IsPlainPart, parts}
use Rattle.seq_base.specs.Repository.{are_digits, is_among, is_file_place, is_folder_place, is_in_place, git_files, git_folders, rebase_files, sequencer_files, is_job_file}
use Rattle.seq_base.specs.World.{is_below}
use Rattle.seq_base.proofs.Below.{behind}
use Rattle.seq_base.proofs.PlainParts.{path_parts}

pub some_part : (bytes : List ℕ) → 0 < length (parts bytes)
some_part bytes = omega (arith, length-slice_split (λ (b : ℕ). b == 47) bytes)

-- the parts of a path that goes on behind a slash
pub parts-behind : (f rest : List ℕ) → parts (f ++ 47 ∷ rest) ≡ parts f ++ parts rest
parts-behind [] rest = refl
parts-behind (b ∷ f) rest = at (parts-behind f rest) (b == 47)
  where
    onto : (ps qs : List (List ℕ)) → 0 < length ps → onto_first b (ps ++ qs) ≡ onto_first b ps ++ qs
    onto [] qs some = absurd (omega arith)
    onto (p ∷ ps) qs some = refl

    at : parts (f ++ 47 ∷ rest) ≡ parts f ++ parts rest → (t : Bool)
        → cond t ([] ∷ parts (f ++ 47 ∷ rest)) (onto_first b (parts (f ++ 47 ∷ rest))) ≡ cond t ([] ∷ parts f) (onto_first b (parts f)) ++ parts rest
    at later true = ap (λ (ps : List (List ℕ)). [] ∷ ps) later
    at later false = ap (onto_first b) later ∙ onto (parts f) (parts rest) (some_part f)

-- what a name that is told says of it
told : (test : List ℕ → Bool) (name found : List ℕ) → test name ≡ true → bytes_eq found name ≡ true → test found ≡ true
told test name found holds is = subst (λ (n : List ℕ). test n ≡ true) (sym ((bytes_eq-Decides found name).0 is)) holds

-- the folder of a file's place is a folder's place
pub folder_of_place : (ps qs : List (List ℕ)) → 0 < length ps → 0 < length qs → is_file_place (ps ++ qs) ≡ true → is_folder_place ps ≡ true
folder_of_place [] qs some more h = absurd (omega arith)
folder_of_place (a ∷ []) [] some more h = absurd (omega arith)
folder_of_place (a ∷ []) (q ∷ []) some more h = (and_parts (bytes_eq a (codes ".git")) (is_among git_files q) h).0
folder_of_place (a ∷ []) (q ∷ r ∷ []) some more h = (and_parts (bytes_eq a (codes ".git")) _ h).0
folder_of_place (a ∷ []) (q ∷ r ∷ s ∷ []) some more h =
    (and_parts (bytes_eq a (codes ".git")) (bytes_eq q (codes "objects")) (and_parts (bytes_eq a (codes ".git") && bytes_eq q (codes "objects")) (are_digits 2 r) (and_parts (bytes_eq a (codes ".git") && bytes_eq q (codes "objects") && are_digits 2 r) (are_digits 38 s) h).0).0).0
folder_of_place (a ∷ []) (q ∷ r ∷ s ∷ t ∷ qs) some more h = absurd cc
folder_of_place (a ∷ b ∷ []) [] some more h = absurd (omega arith)
folder_of_place (a ∷ b ∷ []) (q ∷ []) some more h =
    let git = and_parts (bytes_eq a (codes ".git")) _ h in
    and_from (bytes_eq a (codes ".git")) (is_among git_folders b) git.0
    (elim (or_cases ((bytes_eq b (codes "rebase-merge") && is_among rebase_files q) || (bytes_eq b (codes "sequencer") && is_among sequencer_files q) || (bytes_eq b (codes "merge-driver") && is_job_file q)) (bytes_eq b (codes "logs") && bytes_eq q (codes "HEAD")) git.1) [
      | inr logs ↦ told (is_among git_folders) (codes "logs") b refl (and_parts (bytes_eq b (codes "logs")) _ logs).0
      | inl others ↦ elim (or_cases ((bytes_eq b (codes "rebase-merge") && is_among rebase_files q) || (bytes_eq b (codes "sequencer") && is_among sequencer_files q)) (bytes_eq b (codes "merge-driver") && is_job_file q) others) [
        | inr driver ↦ told (is_among git_folders) (codes "merge-driver") b refl (and_parts (bytes_eq b (codes "merge-driver")) _ driver).0
        | inl states ↦ elim (or_cases (bytes_eq b (codes "rebase-merge") && is_among rebase_files q) (bytes_eq b (codes "sequencer") && is_among sequencer_files q) states) [
          | inl rebase ↦ told (is_among git_folders) (codes "rebase-merge") b refl (and_parts (bytes_eq b (codes "rebase-merge")) _ rebase).0
          | inr sequencer ↦ told (is_among git_folders) (codes "sequencer") b refl (and_parts (bytes_eq b (codes "sequencer")) _ sequencer).0
        ]
      ]
    ])
folder_of_place (a ∷ b ∷ []) (q ∷ r ∷ []) some more h =
    let git = and_parts (bytes_eq a (codes ".git")) (bytes_eq b (codes "objects")) (and_parts (bytes_eq a (codes ".git") && bytes_eq b (codes "objects")) (are_digits 2 q) (and_parts (bytes_eq a (codes ".git") && bytes_eq b (codes "objects") && are_digits 2 q) (are_digits 38 r) h).0).0 in
    and_from (bytes_eq a (codes ".git")) (is_among git_folders b) git.0 (told (is_among git_folders) (codes "objects") b refl git.1)
folder_of_place (a ∷ b ∷ []) (q ∷ r ∷ s ∷ qs) some more h = absurd cc
folder_of_place (a ∷ b ∷ c ∷ []) [] some more h = absurd (omega arith)
folder_of_place (a ∷ b ∷ c ∷ []) (q ∷ []) some more h =
    (and_parts (bytes_eq a (codes ".git") && bytes_eq b (codes "objects") && are_digits 2 c) (are_digits 38 q) h).0
folder_of_place (a ∷ b ∷ c ∷ []) (q ∷ r ∷ qs) some more h = absurd cc
folder_of_place (a ∷ b ∷ c ∷ d ∷ ps) [] some more h = absurd (omega arith)
folder_of_place (a ∷ b ∷ c ∷ d ∷ []) (q ∷ qs) some more h = absurd cc
folder_of_place (a ∷ b ∷ c ∷ d ∷ e ∷ ps) (q ∷ qs) some more h = absurd cc

-- one of some names is none of others
among_apart : (xs ys : List (List ℕ)) (name : List ℕ) → list_all (λ n. not (is_among ys n)) xs ≡ true → is_among xs name ≡ true
    → is_among ys name ≡ false
among_apart [] ys name apart h = absurd cc
among_apart (x ∷ xs) ys name apart h =
    let both = and_parts (not (is_among ys x)) (list_all (λ n. not (is_among ys n)) xs) apart in
    elim (or_cases (bytes_eq x name) (is_among xs name) h) [
      | inl here ↦ subst (λ (n : List ℕ). is_among ys n ≡ false) ((bytes_eq-Decides x name).0 here) (not-true (is_among ys x) both.0)
      | inr later ↦ among_apart xs ys name both.1 later
    ]

-- a folder's place is none of a file
pub folder_no_file : (ps : List (List ℕ)) → is_folder_place ps ≡ true → is_file_place ps ≡ false
folder_no_file [] h = refl
folder_no_file (a ∷ []) h = refl
folder_no_file (a ∷ b ∷ []) h =
    and_right (bytes_eq a (codes ".git")) (is_among git_files b) (among_apart git_folders git_files b refl (and_parts (bytes_eq a (codes ".git")) (is_among git_folders b) h).1)
folder_no_file (a ∷ b ∷ c ∷ []) h =
    let objects = (and_parts (bytes_eq a (codes ".git")) (bytes_eq b (codes "objects")) (and_parts (bytes_eq a (codes ".git") && bytes_eq b (codes "objects")) (are_digits 2 c) h).0).1 in
    subst (λ (n : List ℕ). is_file_place (a ∷ n ∷ c ∷ []) ≡ false) (sym ((bytes_eq-Decides b (codes "objects")).0 objects)) (and_right (bytes_eq a (codes ".git")) false refl)
folder_no_file (a ∷ b ∷ c ∷ d ∷ ps) h = absurd cc

-- a place of a file has two to four parts
place_size : (ps : List (List ℕ)) → is_file_place ps ≡ true → (length ps ≡ 2) ⊎ (length ps ≡ 3) ⊎ (length ps ≡ 4)
place_size [] h = absurd cc
place_size (a ∷ []) h = absurd cc
place_size (a ∷ b ∷ []) h = inl refl
place_size (a ∷ b ∷ c ∷ []) h = inr (inl refl)
place_size (a ∷ b ∷ c ∷ d ∷ []) h = inr (inr refl)
place_size (a ∷ b ∷ c ∷ d ∷ e ∷ ps) h = absurd cc

-- at n parts no file is kept above a path
abbrev is_clear : List (List ℕ) → ℕ → Bool
is_clear ps n = not (nat_lt n (length ps) && is_file_place (take n ps))

in_place_parts : (path : List ℕ) → is_in_place path ≡ true
    → (is_folder_place (parts path) ≡ false) × (is_clear (parts path) 2 ≡ true) × (is_clear (parts path) 3 ≡ true) × (is_clear (parts path) 4 ≡ true)
in_place_parts path h =
    let one = and_parts (not (is_folder_place (parts path))) (list_all (is_clear (parts path)) (2 ∷ 3 ∷ 4 ∷ [])) h in
    let two = and_parts (is_clear (parts path) 2) (list_all (is_clear (parts path)) (3 ∷ 4 ∷ [])) one.1 in
    let three = and_parts (is_clear (parts path) 3) (list_all (is_clear (parts path)) (4 ∷ [])) two.1 in
    let four = and_parts (is_clear (parts path) 4) true three.1 in
    (not-true (is_folder_place (parts path)) one.0, two.0, three.0, four.0)

in_place_from : (path : List ℕ) → is_folder_place (parts path) ≡ false → is_clear (parts path) 2 ≡ true → is_clear (parts path) 3 ≡ true
    → is_clear (parts path) 4 ≡ true → is_in_place path ≡ true
in_place_from path folder two three four = rw (folder, two, three, four) refl

clear_no_place : (ps qs : List (List ℕ)) → 0 < length qs → is_clear (ps ++ qs) (length ps) ≡ true → is_file_place ps ≡ true → ⊥
clear_no_place ps qs more clear place =
    let kept : is_file_place (take (length ps) (ps ++ qs)) ≡ true = ap is_file_place (take-append_seam ps qs) ∙ place in
    let within : nat_lt (length ps) (length (ps ++ qs)) ≡ true = lt-ltb (length ps) (length (ps ++ qs)) (omega (arith, length-append ps qs)) in
    both_ways (nat_lt (length ps) (length (ps ++ qs)) && is_file_place (take (length ps) (ps ++ qs))) (not-true _ clear) (and_from _ _ within kept)

-- a path that stands in place lies below no place of a file
pub in_place_below : (kept path : List ℕ) → is_in_place path ≡ true → is_file_place (parts kept) ≡ true → is_below kept path ≡ false
in_place_below kept path h place = false_from_ne_true (is_below kept path) (λ is.
    let at = behind kept path is in
    let split : parts path ≡ parts kept ++ parts at.0 = ap parts at.1 ∙ parts-behind kept at.0 in
    let clear = in_place_parts path h in
    let at_size : (n : ℕ) → length (parts kept) ≡ n → is_clear (parts path) n ≡ true → ⊥ = λ n size free.
    clear_no_place (parts kept) (parts at.0) (some_part at.0) (subst (λ (k : ℕ). is_clear (parts kept ++ parts at.0) k ≡ true) (sym size) (subst (λ (ps : List (List ℕ)). is_clear ps n ≡ true) split free)) place in
    elim (place_size (parts kept) place) [
      | inl two ↦ at_size 2 two clear.1
      | inr others ↦ elim others [ inl three ↦ at_size 3 three clear.2 | inr four ↦ at_size 4 four clear.3 ]
    ])

-- a place of a file stands in place
pub place_in_place : (path : List ℕ) → is_file_place (parts path) ≡ true → is_in_place path ≡ true
place_in_place path place = in_place_from path no_folder (clear 2 (omega arith)) (clear 3 (omega arith)) (clear 4 (omega arith))
  where
    no_folder : is_folder_place (parts path) ≡ false
    no_folder =
        false_from_ne_true (is_folder_place (parts path)) (λ folder. both_ways (is_file_place (parts path)) (folder_no_file (parts path) folder) place)

    clear : (n : ℕ) → 0 < n → is_clear (parts path) n ≡ true
    clear n some = not_from_false _ (false_from_ne_true _ (λ is.
        let both = and_parts (nat_lt n (length (parts path))) (is_file_place (take n (parts path))) is in
        let within : n < length (parts path) = ltb-true n (length (parts path)) both.0 in
        let whole = subst (λ (ps : List (List ℕ)). is_file_place ps ≡ true) (sym (take-append-drop n (parts path))) place in
        both_ways (is_file_place (take n (parts path)))
        (folder_no_file (take n (parts path)) (folder_of_place (take n (parts path)) (drop n (parts path)) (omega (arith, length-take n (parts path))) (omega (arith, length-drop n (parts path))) whole))
        both.1))

-- what does not begin with `.git` is no place
away : (ps : List (List ℕ)) (a : List ℕ) → bytes_eq a (codes ".git") ≡ false → (is_file_place (a ∷ ps) ≡ false) × (is_folder_place (a ∷ ps) ≡ false)
away [] a h = (refl, h)
away (b ∷ []) a h = (and_left (bytes_eq a (codes ".git")) (is_among git_files b) h, and_left (bytes_eq a (codes ".git")) (is_among git_folders b) h)
away (b ∷ c ∷ []) a h = (rw h refl, rw h refl)
away (b ∷ c ∷ d ∷ []) a h = (rw h refl, refl)
away (b ∷ c ∷ d ∷ e ∷ ps) a h = (refl, refl)

-- a path that a tree may hold stands in place
pub path_in_place : (path : List ℕ) → IsPath path → is_in_place path ≡ true
path_in_place path is = at (parts path) refl (path_parts path is)
  where
    clear : (a : List ℕ) (ps : List (List ℕ)) (n : ℕ) → bytes_eq a (codes ".git") ≡ false → is_clear (a ∷ ps) (suc n) ≡ true
    clear a ps n h = not_from_false _ (and_right (nat_lt (suc n) (length (a ∷ ps))) (is_file_place (a ∷ take n ps)) (away (take n ps) a h).0)

    at : (ps : List (List ℕ)) → parts path ≡ ps → All IsPlainPart ps → is_in_place path ≡ true
    at [] e plain = absurd (omega (arith, some_part path, ap length e))
    at (a ∷ ps) e plain =
        let first = All-head IsPlainPart a ps plain in
        let other : bytes_eq a (codes ".git") ≡ false = false_from_ne_true (bytes_eq a (codes ".git")) (λ h. first.git (subst (λ (n : List ℕ). map to_ascii_lowercase n ≡ codes ".git") (sym ((bytes_eq-Decides a (codes ".git")).0 h)) refl)) in
        in_place_from path (ap is_folder_place e ∙ (away ps a other).1) (ap (λ (qs : List (List ℕ)). is_clear qs 2) e ∙ clear a ps 1 other) (ap (λ (qs : List (List ℕ)). is_clear qs 3) e ∙ clear a ps 2 other) (ap (λ (qs : List (List ℕ)). is_clear qs 4) e ∙ clear a ps 3 other)

-- parts below `.git/refs` and `.git/logs/refs` are no places
refs_parts : (p : List ℕ) (ps : List (List ℕ))
    → (is_file_place (codes ".git" ∷ codes "refs" ∷ p ∷ ps) ≡ false) × (is_folder_place (codes ".git" ∷ codes "refs" ∷ p ∷ ps) ≡ false)
refs_parts p [] = (refl, refl)
refs_parts p (q ∷ []) = (refl, refl)
refs_parts p (q ∷ r ∷ ps) = (refl, refl)

logs_parts : (p : List ℕ) (ps : List (List ℕ))
    → (is_file_place (codes ".git" ∷ codes "logs" ∷ codes "refs" ∷ p ∷ ps) ≡ false) × (is_folder_place (codes ".git" ∷ codes "logs" ∷ codes "refs" ∷ p ∷ ps) ≡ false)
logs_parts p [] = (refl, refl)
logs_parts p (q ∷ ps) = (refl, refl)

clear_of : (ps : List (List ℕ)) (n : ℕ) → is_file_place (take n ps) ≡ false → is_clear ps n ≡ true
clear_of ps n h = not_from_false _ (and_right (nat_lt n (length ps)) (is_file_place (take n ps)) h)

-- refs stand in place
pub ref_in_place : (rest : List ℕ) → is_in_place (codes ".git/refs/" ++ rest) ≡ true
ref_in_place rest = at (parts rest) refl
  where
    split : parts (codes ".git/refs/" ++ rest) ≡ codes ".git" ∷ codes "refs" ∷ parts rest
    split = parts-behind (codes ".git/refs") rest

    at : (ps : List (List ℕ)) → parts rest ≡ ps → is_in_place (codes ".git/refs/" ++ rest) ≡ true
    at [] e = absurd (omega (arith, some_part rest, ap length e))
    at (p ∷ ps) e =
        let whole : parts (codes ".git/refs/" ++ rest) ≡ codes ".git" ∷ codes "refs" ∷ p ∷ ps = split ∙ ap (λ (qs : List (List ℕ)). codes ".git" ∷ codes "refs" ∷ qs) e in
        in_place_from (codes ".git/refs/" ++ rest) (ap is_folder_place whole ∙ (refs_parts p ps).1)
        (ap (λ (qs : List (List ℕ)). is_clear qs 2) whole ∙ clear_of (codes ".git" ∷ codes "refs" ∷ p ∷ ps) 2 refl)
        (ap (λ (qs : List (List ℕ)). is_clear qs 3) whole ∙ clear_of (codes ".git" ∷ codes "refs" ∷ p ∷ ps) 3 (refs_parts p []).0)
        (ap (λ (qs : List (List ℕ)). is_clear qs 4) whole ∙ clear_of (codes ".git" ∷ codes "refs" ∷ p ∷ ps) 4 (refs_parts p (take 1 ps)).0)

-- the logs of refs stand in place
pub log_in_place : (rest : List ℕ) → is_in_place (codes ".git/logs/refs/" ++ rest) ≡ true
log_in_place rest = at (parts rest) refl
  where
    split : parts (codes ".git/logs/refs/" ++ rest) ≡ codes ".git" ∷ codes "logs" ∷ codes "refs" ∷ parts rest
    split = parts-behind (codes ".git/logs/refs") rest

    at : (ps : List (List ℕ)) → parts rest ≡ ps → is_in_place (codes ".git/logs/refs/" ++ rest) ≡ true
    at [] e = absurd (omega (arith, some_part rest, ap length e))
    at (p ∷ ps) e =
        let whole : parts (codes ".git/logs/refs/" ++ rest) ≡ codes ".git" ∷ codes "logs" ∷ codes "refs" ∷ p ∷ ps = split ∙ ap (λ (qs : List (List ℕ)). codes ".git" ∷ codes "logs" ∷ codes "refs" ∷ qs) e in
        in_place_from (codes ".git/logs/refs/" ++ rest) (ap is_folder_place whole ∙ (logs_parts p ps).1)
        (ap (λ (qs : List (List ℕ)). is_clear qs 2) whole ∙ clear_of (codes ".git" ∷ codes "logs" ∷ codes "refs" ∷ p ∷ ps) 2 refl)
        (ap (λ (qs : List (List ℕ)). is_clear qs 3) whole ∙ clear_of (codes ".git" ∷ codes "logs" ∷ codes "refs" ∷ p ∷ ps) 3 refl)
        (ap (λ (qs : List (List ℕ)). is_clear qs 4) whole ∙ clear_of (codes ".git" ∷ codes "logs" ∷ codes "refs" ∷ p ∷ ps) 4 (logs_parts p []).0)
