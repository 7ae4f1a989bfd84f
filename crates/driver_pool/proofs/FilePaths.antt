-- The files of a driver's job are where a store may hold files.
use Rattle.std.proofs.Common.{◌≡◌, ℕ, ◌+◌, ◌<◌, ◌%◌, ◌^◌, ◌==◌, ◌&&◌, not, nat_lt, Bool, true, false, codes, List, [], ◌∷◌, ◌++◌, length, refl, sym, ap, subst, ◌∙◌, arith}
use Rattle.std.specs.Prelude.{All, decimal}
use Rattle.std.specs.Char.{is_ascii}
use Rattle.std.specs.List.{list_all}
use Rattle.std.specs.Str.{bytes_eq}
use Rattle.std.proofs.lemmas.Bool.{and_parts, and_from, false_from_ne_true, ne_eqb, not-true, not_from_false}
use Rattle.std.proofs.lemmas.Fmt.{decimal_by_steps}
use Rattle.std.proofs.lemmas.List.Elements.{All-nil, All-cons}
use Rattle.std.proofs.lemmas.List.Folds.{list_all-append}
use Rattle.std.proofs.lemmas.Slice.Eq.{bytes_eq-Decides}
use Rattle.std.proofs.lemmas.List.Splits.{slice_split_none}
use Rattle.seq_base.specs.Paths.{parts}
use Rattle.seq_base.specs.StorePaths.{IsStorePath, is_store_part, is_text}
use Rattle.seq_base.proofs.Places.{parts-behind}
use Rattle.driver_pool.specs.Files.{ending, file_of}
use Rattle.driver_pool.specs.declared.files.Version.{Version}
use Rattle.driver_pool.specs.declared.files.Version.TheVariants.{Base, Ours, Theirs}

-- `.`, digits and letters, and some between
abbrev is_name_byte : ℕ → Bool
is_name_byte b = nat_lt 45 b && not (b == 47) && nat_lt b 128

-- it begins with a digit or a letter
abbrev is_name : List ℕ → Bool
is_name [] = false
is_name (b ∷ bs) = nat_lt 47 b && list_all is_name_byte (b ∷ bs)

longer : (front back : List ℕ) → is_name front ≡ true → list_all is_name_byte back ≡ true → is_name (front ++ back) ≡ true
longer [] back h k = absurd cc
longer (b ∷ bs) back h k =
    let both = and_parts (nat_lt 47 b) (list_all is_name_byte (b ∷ bs)) h in
    and_from (nat_lt 47 b) (list_all is_name_byte (b ∷ (bs ++ back))) both.0
    (list_all-append is_name_byte (b ∷ bs) back ∙ and_from (list_all is_name_byte (b ∷ bs)) (list_all is_name_byte back) both.1 k)

digit : (d : ℕ) → d < 10 → is_name_byte (48 + d) ≡ true
digit d h = grind (arith, h)

above : (n : ℕ) → nat_lt 47 (48 + n) ≡ true
above n = grind arith

number_is_name : (n : ℕ) → n < 2 ^ 64 → is_name (decimal n) ≡ true
number_is_name = decimal_by_steps (λ n ds. is_name ds ≡ true)
    (λ n h. and_from (nat_lt 47 (48 + n)) (list_all is_name_byte ((48 + n) ∷ [])) (above n) (and_from (is_name_byte (48 + n)) true (digit n h) refl))
    (λ n ds h is. longer ds ((48 + n % 10) ∷ []) is (and_from (is_name_byte (48 + n % 10)) true (digit (n % 10) (omega arith)) refl))

each_ascii : (bs : List ℕ) → list_all is_name_byte bs ≡ true → list_all is_ascii bs ≡ true
each_ascii [] h = refl
each_ascii (b ∷ bs) h =
    let both = and_parts (is_name_byte b) (list_all is_name_byte bs) h in
    and_from (is_ascii b) (list_all is_ascii bs) (and_parts (nat_lt 45 b && not (b == 47)) (nat_lt b 128) both.0).1 (each_ascii bs both.1)

not_zero : (b : ℕ) → nat_lt 45 b ≡ true → not (b == 0) ≡ true
not_zero b h = grind (arith, h)

no_nul : (bs : List ℕ) → list_all is_name_byte bs ≡ true → list_all (λ b. not (b == 0)) bs ≡ true
no_nul [] h = refl
no_nul (b ∷ bs) h =
    let both = and_parts (is_name_byte b) (list_all is_name_byte bs) h in
    let low = and_parts (nat_lt 45 b) (not (b == 47)) (and_parts (nat_lt 45 b && not (b == 47)) (nat_lt b 128) both.0).0 in
    and_from (not (b == 0)) (list_all (λ c. not (c == 0)) bs) (not_zero b low.0) (no_nul bs both.1)

no_slash : (bs : List ℕ) → list_all is_name_byte bs ≡ true → All (λ b. (b == 47) ≡ false) bs
no_slash [] h = All-nil (λ b. (b == 47) ≡ false)
no_slash (b ∷ bs) h =
    let both = and_parts (is_name_byte b) (list_all is_name_byte bs) h in
    let low = and_parts (nat_lt 45 b) (not (b == 47)) (and_parts (nat_lt 45 b && not (b == 47)) (nat_lt b 128) both.0).0 in
    All-cons (λ c. (c == 47) ≡ false) b bs (not-true (b == 47) low.1) (no_slash bs both.1)

bytes_of : (name : List ℕ) → is_name name ≡ true → list_all is_name_byte name ≡ true
bytes_of [] h = absurd cc
bytes_of (b ∷ bs) h = (and_parts (nat_lt 47 b) (list_all is_name_byte (b ∷ bs)) h).1

differs : (other name : List ℕ) → is_name other ≡ false → is_name name ≡ true → not (bytes_eq other name) ≡ true
differs other name bad good = not_from_false (bytes_eq other name) (false_from_ne_true (bytes_eq other name) (λ is.
    let same : is_name other ≡ true = subst (λ (q : List ℕ). is_name q ≡ true) (sym ((bytes_eq-Decides other name).0 is)) good in
    cc))

not_empty : (name : List ℕ) → is_name name ≡ true → not (length name == 0) ≡ true
not_empty [] h = absurd cc
not_empty (b ∷ bs) h = not_from_false (length (b ∷ bs) == 0) (ne_eqb (length (b ∷ bs)) 0 (λ e. absurd (omega arith)))

name_is_part : (name : List ℕ) → is_name name ≡ true → is_store_part name ≡ true
name_is_part name h =
    and_from (not (length name == 0) && not (bytes_eq (codes ".") name) && not (bytes_eq (codes "..") name)) (list_all (λ b. not (b == 0)) name)
    (and_from (not (length name == 0) && not (bytes_eq (codes ".") name)) (not (bytes_eq (codes "..") name))
    (and_from (not (length name == 0)) (not (bytes_eq (codes ".") name)) (not_empty name h) (differs (codes ".") name refl h))
    (differs (codes "..") name refl h))
    (no_nul name (bytes_of name h))

below_folder : (name : List ℕ) → is_name name ≡ true → IsStorePath (codes ".git/merge-driver/" ++ name)
below_folder name h =
    let bytes = bytes_of name h in
    let text : list_all is_ascii (codes ".git/merge-driver/" ++ name) ≡ true = list_all-append is_ascii (codes ".git/merge-driver/") name ∙ and_from (list_all is_ascii (codes ".git/merge-driver/")) (list_all is_ascii name) refl (each_ascii name bytes) in
    let whole : parts name ≡ name ∷ [] = slice_split_none (λ b. b == 47) name (no_slash name bytes) in
    let split : parts (codes ".git/merge-driver/" ++ name) ≡ codes ".git" ∷ codes "merge-driver" ∷ name ∷ [] =
    parts-behind (codes ".git") (codes "merge-driver/" ++ name)
    ∙ ap (λ (ps : List (List ℕ)). codes ".git" ∷ ps) (parts-behind (codes "merge-driver") name ∙ ap (λ (ps : List (List ℕ)). codes "merge-driver" ∷ ps) whole) in
    and_from (is_text (codes ".git/merge-driver/" ++ name)) (list_all is_store_part (parts (codes ".git/merge-driver/" ++ name)))
    (rw text refl)
    (ap (list_all is_store_part) split ∙ and_from (is_store_part name) true (name_is_part name h) refl)

plain_ending : (version : Version) → list_all is_name_byte (ending version) ≡ true
plain_ending Base = refl
plain_ending Ours = refl
plain_ending Theirs = refl

-- the path of a job's file may be handed to a store
pub file_stored : (n : ℕ) (version : Version) → n < 2 ^ 64 → IsStorePath (file_of n version)
unfolding file_of
file_stored n version h = below_folder (decimal n ++ ending version) (longer (decimal n) (ending version) (number_is_name n h) (plain_ending version))
