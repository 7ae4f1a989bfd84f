-- What the logs are told of a rebase holds no line feed, so a line of a log may have it.
use Rattle.std.proofs.Common.{◌≡◌, ℕ, ◌/◌, ◌%◌, ◌<◌, ◌==◌, Bool, true, false, not, cond, List, [], ◌∷◌, ◌++◌, codes, suc, inl, inr, refl, ap, arith}
use Rattle.std.specs.Prelude.{Option, None, Some, option_and_then, replicate, slice_index}
use Rattle.std.specs.List.{list_all}
use Rattle.std.specs.Str.{bytes_eq}
use Rattle.std.proofs.lemmas.Bool.{agree_below_at, and_from, and_parts, both_ways, or_cases}
use Rattle.std.proofs.lemmas.List.Folds.{list_all-append}
use Rattle.std.proofs.lemmas.Slice.Eq.{bytes_eq-Decides}
use Rattle.hex.specs.Hex.{IsBytes, encode_lower, encode_with, lower_digits}
use Rattle.ident_text.specs.Idents.{IsIdentText}
use Rattle.ref_text.specs.Logs.{IsLogValue, IsMessage, IsOldValue}
use Rattle.seq_base.specs.RefNames.{IsRefName, is_below_refs, is_ref_byte}
use Rattle.seq_base.proofs.RefPaths.{below_refs}
use Rattle.seq_model.specs.Making.{value_of}
use Rattle.state_text.specs.Controls.{IfThere}
use Rattle.reading.specs.Aborting.{name_before}

abbrev in_line : ℕ → Bool
in_line b = not (b == 10)

-- ---- names and digits

all_in_line : (p : ℕ → Bool) → ((b : ℕ) → p b ≡ true → in_line b ≡ true) → (text : List ℕ) → list_all p text ≡ true → IsMessage text
all_in_line p each [] h = refl
all_in_line p each (b ∷ text) h =
    let both = and_parts (p b) (list_all p text) h in and_from (in_line b) (list_all in_line text) (each b both.0) (all_in_line p each text both.1)

ref_byte : (b : ℕ) → is_ref_byte b ≡ true → in_line b ≡ true
ref_byte b h = grind arith

pub name_is_message : (name : List ℕ) → IsRefName name → IsMessage name
name_is_message name is = elim (or_cases (bytes_eq name (codes "HEAD")) (is_below_refs name) is) [
  | inl head ↦ ap (list_all in_line) ((bytes_eq-Decides name (codes "HEAD")).0 head)
  | inr refs ↦ all_in_line is_ref_byte ref_byte name (below_refs name refs).bytes
]

-- a digit of the table
abbrev digit_in_line : ℕ → Bool
digit_in_line d = in_line (slice_index lower_digits d)

abbrev always : ℕ → Bool
always d = true

pub hex_is_message : (id : List ℕ) → IsBytes id → IsMessage (encode_lower id)
unfolding encode_with
hex_is_message [] small = refl
hex_is_message (b ∷ id) small =
    let fits : b < 256 = small 0 in
    let high : b / 16 < 16 = omega arith in
    let low : b % 16 < 16 = omega arith in
    and_from (digit_in_line (b / 16)) _ (agree_below_at digit_in_line always 16 (b / 16) refl high)
    (and_from (digit_in_line (b % 16)) _ (agree_below_at digit_in_line always 16 (b % 16) refl low) (hex_is_message id (λ k. small (suc k))))

-- ---- one behind the other

together : (a b : List ℕ) → IsMessage a → IsMessage b → IsMessage (a ++ b)
together a b is are = rw (list_all-append in_line a b, is, are) refl

pub finish_is_message : (name onto : List ℕ) → IsRefName name → IsBytes onto
    → IsMessage (codes "rebase (finish): " ++ name ++ codes " onto " ++ encode_lower onto)
finish_is_message name onto is small =
    together (codes "rebase (finish): " ++ name ++ codes " onto ") (encode_lower onto)
    (together (codes "rebase (finish): " ++ name) (codes " onto ") (together (codes "rebase (finish): ") name refl (name_is_message name is)) refl)
    (hex_is_message onto small)

pub returning_is_message : (name : List ℕ) → IsRefName name → IsMessage (codes "rebase (finish): returning to " ++ name)
returning_is_message name is = together (codes "rebase (finish): returning to ") name refl (name_is_message name is)

pub start_is_message : (word : List ℕ) → IsMessage word → IsMessage (codes "rebase (start): checkout " ++ word)
start_is_message word is = together (codes "rebase (start): checkout ") word refl is

pub continue_is_message : (subject : List ℕ) → IsMessage subject → IsMessage (codes "rebase (" ++ codes "continue" ++ codes "): " ++ subject)
continue_is_message subject is = together (codes "rebase (" ++ codes "continue" ++ codes "): ") subject refl is

pub abort_is_message : (name : List ℕ) → IsRefName name → IsMessage (codes "rebase (abort): " ++ name)
abort_is_message name is = together (codes "rebase (abort): ") name refl (name_is_message name is)

before_is_message : (name : Option (List ℕ)) (orig : List ℕ) → IfThere IsRefName name → IsBytes orig → IsMessage (name_before name orig)
before_is_message None orig is small = hex_is_message orig small
before_is_message (Some name) orig is small = name_is_message name is

pub back_is_message : (name : Option (List ℕ)) (orig : List ℕ) → IfThere IsRefName name → IsBytes orig
    → IsMessage (codes "rebase (abort): returning to " ++ name_before name orig)
back_is_message name orig is small =
    together (codes "rebase (abort): returning to ") (name_before name orig) refl (before_is_message name orig is small)

-- ---- a line

old_value : (id : List ℕ) → IsOldValue (value_of id)
old_value id = at (bytes_eq id (replicate 20 0)) refl
  where
    at : (t : Bool) → bytes_eq id (replicate 20 0) ≡ t → IsOldValue (cond t None (Some id))
    at true is = tt
    at false is = λ same. both_ways (bytes_eq id (replicate 20 0)) is ((bytes_eq-Decides id (replicate 20 0)).1 same)

pub any_old_value : (id : Option (List ℕ)) → IsOldValue (option_and_then value_of id)
any_old_value None = tt
any_old_value (Some id) = old_value id

-- some text is the line of this value before
pub line_is_value : (id : List ℕ) (new ident message : List ℕ) → IsIdentText ident → IsMessage message
    → IsLogValue (record { old = value_of id; new = new; ident = ident; message = message })
line_is_value id new ident message who is = record { who = who.0; is_old = old_value id; is_ident = who.1; is_message = is }

pub any_line_is_value : (id : Option (List ℕ)) (new ident message : List ℕ) → IsIdentText ident → IsMessage message
    → IsLogValue (record { old = option_and_then value_of id; new = new; ident = ident; message = message })
any_line_is_value id new ident message who is = record { who = who.0; is_old = any_old_value id; is_ident = who.1; is_message = is }
