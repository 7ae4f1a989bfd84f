-- What `clap`'s walk makes of plain words.
use Rattle.std.proofs.Common.{◌≡◌, ◌∙◌, ◌<◌, ◌==◌, ◌&&◌, ℕ, Bool, true, false, refl, ap, arith, List, [], ◌∷◌, ◌++◌, get_or, zero, suc, Option, Some, None}
use Rattle.std.specs.Str.{bytes_eq, chars}
use Rattle.std.specs.Prelude.{slice_get}
use Rattle.seq_model.specs.Given.{is_dashed}
use Rattle.clap.specs.Walk as clap
use Rattle.clap.specs.Lexer.{long_of, short_of}
use Rattle.clap.specs.Walk.{Held, Text, Waiting, Walk, idle, positional, option, walked, bundle_met, arg_by_id, arg_by_index, arg_by_long, arg_by_short, settled_rows, with_values}
use Rattle.clap.specs.Takes.{turn_passes, settle_passes, flags_pass}
use Rattle.clap.specs.declared.builder.value_parser.Reading.TheVariants.{AsWritten}
use Rattle.clap.specs.declared.parser.matches.ValueSource.TheVariants.{CommandLine}
use Rattle.std.specs.Str.{IsAscii}
use Rattle.std.proofs.lemmas.Str.{chars-append, chars-IsAscii, IsUtf8-from_ascii, encode_ascii}
use Rattle.std.proofs.lemmas.Slice.Eq.{bytes_eq-Decides}
use Rattle.clap.specs.Simple.{Shape}
use Rattle.seq_words.specs.Told.{told_as}

abbrev pub held_at : List clap.Row → Option (Text × List Text) → Held
held_at rows pending = record { rows = rows; pending = pending; skip = 0 }

abbrev pub walk_at : List clap.Row → Option (Text × List Text) → Waiting → Bool → Walk
walk_at rows pending waiting trailing = record {
  held = held_at rows pending;
  waiting = waiting;
  position = 1;
  is_trailing = trailing;
  stopped = None;
}

abbrev pub waiting_at : Bool → Waiting
waiting_at true = positional
waiting_at false = idle

-- the walk goes on at `after`, and the word passes
abbrev pub Goes : Shape → Walk → Text → Walk → Type 0
Goes s w word after = (walked s.rules [] w word ≡ after) × (turn_passes s [] w word ≡ true)

pub dashes : (s : Shape) (rows : List clap.Row) (pending : Option (Text × List Text)) (busy : Bool)
    → Goes s (walk_at rows pending (waiting_at busy) false) (45 ∷ 45 ∷ []) (walk_at rows pending (waiting_at busy) true)
unfolding walked
dashes s rows pending true = (refl, refl)
dashes s rows pending false = (refl, refl)

pub and_no : (b : Bool) → (b && false) ≡ false
and_no true = refl
and_no false = refl

-- a word behind `--` is an argument
pub behind_dashes : (s : Shape) (rows : List clap.Row) (pending : Option (Text × List Text)) (waiting : Waiting) (word name : Text) (long : Option Text) (short index : Option ℕ)
    → arg_by_index s.rules 1 ≡ Some (told_as name long short index false) → settle_passes s.rules s.args_override_self (held_at rows pending) ≡ true
    → Goes s (walk_at rows pending waiting true) word (walk_at (settled_rows s.rules pending rows) (Some (name, word ∷ [])) positional true)
unfolding walked
behind_dashes s rows pending waiting word name long short index found ok = (rw (found, and_no) refl, rw (found, and_no, ok) refl)

-- ---- a long option

module _ (s : Shape) (rows : List clap.Row) (pending : Option (Text × List Text)) (busy : Bool) (word stem name : Text) (long : Option Text) (short index : Option ℕ)
    (ok : settle_passes s.rules s.args_override_self (held_at rows pending) ≡ true) (longer : bytes_eq word (45 ∷ 45 ∷ []) ≡ false) where
  pub long_flag : long_of word ≡ Some (stem, None) → arg_by_long s.rules stem ≡ Some (told_as name long short index true)
      → Goes s (walk_at rows pending (waiting_at busy) false) word (walk_at (with_values name AsWritten CommandLine ([] ∷ []) (settled_rows s.rules pending rows)) None idle false)
  unfolding walked
  long_flag parts found = go busy
    where
      go : (b : Bool)
          → Goes s (walk_at rows pending (waiting_at b) false) word (walk_at (with_values name AsWritten CommandLine ([] ∷ []) (settled_rows s.rules pending rows)) None idle false)
      go true = (rw (longer, parts, found) refl, rw (longer, parts, found, ok) refl)
      go false = (rw (longer, parts, found) refl, rw (longer, parts, found, ok) refl)

  pub long_awaits : long_of word ≡ Some (stem, None) → arg_by_long s.rules stem ≡ Some (told_as name long short index false)
      → Goes s (walk_at rows pending (waiting_at busy) false) word (walk_at (settled_rows s.rules pending rows) (Some (name, [])) (option name) false)
  unfolding walked
  long_awaits parts found = go busy
    where
      go : (b : Bool)
          → Goes s (walk_at rows pending (waiting_at b) false) word (walk_at (settled_rows s.rules pending rows) (Some (name, [])) (option name) false)
      go true = (rw (longer, parts, found) refl, rw (longer, parts, found, ok) refl)
      go false = (rw (longer, parts, found) refl, rw (longer, parts, found, ok) refl)

  pub long_value : (value : Text) → long_of word ≡ Some (stem, Some value) → arg_by_long s.rules stem ≡ Some (told_as name long short index false)
      → Goes s (walk_at rows pending (waiting_at busy) false) word (walk_at (with_values name AsWritten CommandLine (value ∷ []) (settled_rows s.rules pending rows)) None idle false)
  unfolding walked
  long_value value parts found = go busy
    where
      go : (b : Bool)
          → Goes s (walk_at rows pending (waiting_at b) false) word (walk_at (with_values name AsWritten CommandLine (value ∷ []) (settled_rows s.rules pending rows)) None idle false)
      go true = (rw (longer, parts, found) refl, rw (longer, parts, found, ok) refl)
      go false = (rw (longer, parts, found) refl, rw (longer, parts, found, ok) refl)

-- ---- an option of one letter

first_char : (letter : ℕ) (rest : Text) → letter < 128 → slice_get (chars (letter ∷ rest)) 0 ≡ Some letter
first_char letter rest ascii =
    let one : IsAscii (letter ∷ []) = λ i. elim i as (λ (k : ℕ). get_or (letter ∷ []) k 0 < 128) [ zero ↦ ascii | suc k ↦ omega arith ] in
    ap (λ cs. slice_get cs 0) (chars-append (letter ∷ []) rest (IsUtf8-from_ascii (letter ∷ []) one) ∙ ap (λ cs. cs ++ chars rest) (chars-IsAscii (letter ∷ []) one))

module _ (s : Shape) (rows : List clap.Row) (pending : Option (Text × List Text)) (busy : Bool) (letter : ℕ) (name : Text) (long : Option Text) (short index : Option ℕ)
    (ok : settle_passes s.rules s.args_override_self (held_at rows pending) ≡ true) (ascii : letter < 128) (other : (letter == 45) ≡ false) where
  pub short_flag : arg_by_short s.rules letter ≡ Some (told_as name long short index true)
      → Goes s (walk_at rows pending (waiting_at busy) false) (45 ∷ letter ∷ []) (walk_at (with_values name AsWritten CommandLine ([] ∷ []) (settled_rows s.rules pending rows)) None idle false)
  unfolding walked bundle_met flags_pass
  short_flag found = go busy
    where
      go : (b : Bool)
          → Goes s (walk_at rows pending (waiting_at b) false) (45 ∷ letter ∷ []) (walk_at (with_values name AsWritten CommandLine ([] ∷ []) (settled_rows s.rules pending rows)) None idle false)
      go true =
          (rw (other, other, first_char letter [] ascii, encode_ascii letter ascii, found) refl, rw (other, other, first_char letter [] ascii, encode_ascii letter ascii, found, ok) refl)
      go false =
          (rw (other, other, first_char letter [] ascii, encode_ascii letter ascii, found) refl, rw (other, other, first_char letter [] ascii, encode_ascii letter ascii, found, ok) refl)

  pub short_awaits : arg_by_short s.rules letter ≡ Some (told_as name long short index false)
      → Goes s (walk_at rows pending (waiting_at busy) false) (45 ∷ letter ∷ []) (walk_at (settled_rows s.rules pending rows) (Some (name, [])) (option name) false)
  unfolding walked bundle_met flags_pass
  short_awaits found = go busy
    where
      go : (b : Bool)
          → Goes s (walk_at rows pending (waiting_at b) false) (45 ∷ letter ∷ []) (walk_at (settled_rows s.rules pending rows) (Some (name, [])) (option name) false)
      go true =
          (rw (other, other, first_char letter [] ascii, encode_ascii letter ascii, found) refl, rw (other, other, first_char letter [] ascii, encode_ascii letter ascii, found, ok) refl)
      go false =
          (rw (other, other, first_char letter [] ascii, encode_ascii letter ascii, found) refl, rw (other, other, first_char letter [] ascii, encode_ascii letter ascii, found, ok) refl)

  pub short_value : (v : ℕ) (vs : Text) → (v == 61) ≡ false → arg_by_short s.rules letter ≡ Some (told_as name long short index false)
      → Goes s (walk_at rows pending (waiting_at busy) false) (45 ∷ letter ∷ v ∷ vs) (walk_at (with_values name AsWritten CommandLine ((v ∷ vs) ∷ []) (settled_rows s.rules pending rows)) None idle false)
  unfolding walked bundle_met flags_pass
  short_value v vs bare found = go busy
    where
      go : (b : Bool)
          → Goes s (walk_at rows pending (waiting_at b) false) (45 ∷ letter ∷ v ∷ vs) (walk_at (with_values name AsWritten CommandLine ((v ∷ vs) ∷ []) (settled_rows s.rules pending rows)) None idle false)
      go true =
          (rw (other, other, first_char letter (v ∷ vs) ascii, encode_ascii letter ascii, found, bare) refl, rw (other, other, first_char letter (v ∷ vs) ascii, encode_ascii letter ascii, found, bare, ok) refl)
      go false =
          (rw (other, other, first_char letter (v ∷ vs) ascii, encode_ascii letter ascii, found, bare) refl, rw (other, other, first_char letter (v ∷ vs) ascii, encode_ascii letter ascii, found, bare, ok) refl)

-- ---- a word with no dash

undashed : (word : Text) → is_dashed word ≡ false → (bytes_eq word (45 ∷ 45 ∷ []) ≡ false) × (long_of word ≡ None) × (short_of word ≡ None)
undashed [] e = (refl, refl, refl)
undashed (b ∷ bs) e = rw e (refl, refl, refl)

pub plain_argument : (s : Shape) (rows : List clap.Row) (pending : Option (Text × List Text)) (busy : Bool) (word name : Text) (long : Option Text) (short index : Option ℕ)
    → settle_passes s.rules s.args_override_self (held_at rows pending) ≡ true → is_dashed word ≡ false
    → arg_by_index s.rules 1 ≡ Some (told_as name long short index false)
    → Goes s (walk_at rows pending (waiting_at busy) false) word (walk_at (settled_rows s.rules pending rows) (Some (name, word ∷ [])) positional false)
unfolding walked
plain_argument s rows pending busy word name long short index ok e found = go busy
  where
    go : (b : Bool)
        → Goes s (walk_at rows pending (waiting_at b) false) word (walk_at (settled_rows s.rules pending rows) (Some (name, word ∷ [])) positional false)
    go true = let u = undashed word e in (rw (u.0, u.1, u.2, found, and_no) refl, rw (u.0, u.1, u.2, found, and_no, ok) refl)
    go false = let u = undashed word e in (rw (u.0, u.1, u.2, found, and_no) refl, rw (u.0, u.1, u.2, found, and_no, ok) refl)

pub option_value : (s : Shape) (rows : List clap.Row) (word name : Text) (long : Option Text) (short index : Option ℕ) → is_dashed word ≡ false
    → arg_by_id s.rules name ≡ Some (told_as name long short index false)
    → Goes s (walk_at rows (Some (name, [])) (option name) false) word (walk_at rows (Some (name, word ∷ [])) idle false)
unfolding walked
option_value s rows word name long short index e found =
    let u = undashed word e in (rw (u.0, u.1, u.2, found, same name) refl, rw (u.0, u.1, u.2) refl)
  where
    same : (name : Text) → bytes_eq name name ≡ true
    same name = (bytes_eq-Decides name name).1 refl
