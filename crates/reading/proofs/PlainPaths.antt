-- The paths of an index are none of a list's files.
use Rattle.std.proofs.Common.{◌≡◌, ◌∙◌, ℕ, zero, suc, ◌+◌, ◌-◌, cond, Bool, true, false, List, [], ◌∷◌, ◌++◌, length, take, drop, codes, Option, Some, None, Result, Ok, Err, refl, sym, subst}
use Rattle.std.specs.Prelude.{◌/◌, ◌%◌, ◌==◌, ◌&&◌, not, nat_le, is_none}
use Rattle.std.specs.Int.{w32, from_be_bytes}
use Rattle.std.specs.List.{AllByRecursion}
use Rattle.std.specs.Str.{bytes_eq, is_utf8}
use Rattle.std.proofs.lemmas.Bool.{and_parts}
use Rattle.std.proofs.lemmas.Slice.Eq.{bytes_eq-Decides}
use Rattle.index_file.specs.Fronts.{may_follow}
use Rattle.index_file.specs.Reading.{◌>>=◌, appended, are_zero, entries_at, entry_at, entry_in, entry_of, header_at, index_of, is_path, is_trailer, mode_of, trailer_at, whole_at}
use Rattle.index_file.specs.Spelling.{flags_in}
use Rattle.index_file.specs.declared.entry.IndexEntry.{IndexEntry}
use Rattle.index_file.specs.declared.fault.IndexFault.{IndexFault}
use Rattle.index_file.specs.declared.fault.IndexFault.TheVariants.{Hash, Name, Order}
use Rattle.seq_base.proofs.Below.{behind}
use Rattle.seq_base.specs.Paths.{first_bad, parts}
use Rattle.seq_base.specs.Words.{Path, Text}
use Rattle.seq_base.specs.World.{is_below}
use Rattle.seq_base.specs.declared.mode.Mode.{Mode}
use Rattle.reading.specs.State.{is_list_file}

-- ---- a path

abbrev has_no_bad : Path → Bool
has_no_bad path = is_none (first_bad 0 (parts path))

no_folder : (folder path : Path) → ((rest : List ℕ) → has_no_bad (folder ++ 47 ∷ rest) ≡ false) → has_no_bad path ≡ true
    → is_below folder path ≡ false
no_folder folder path bad plain = at (is_below folder path) refl
  where
    at : (b : Bool) → is_below folder path ≡ b → b ≡ false
    at true below =
        let there = behind folder path below in
        let wrong = subst (λ (p : Path). has_no_bad p ≡ true) there.1 plain in
        let both : true ≡ false = sym wrong ∙ bad there.0 in
        absurd cc
    at false below = refl

no_head : (head path : Path) → has_no_bad head ≡ false → has_no_bad path ≡ true → bytes_eq head path ≡ false
no_head head path bad plain = at (bytes_eq head path) refl
  where
    at : (b : Bool) → bytes_eq head path ≡ b → b ≡ false
    at true same =
        let here : head ≡ path = (bytes_eq-Decides head path).0 same in
        let wrong = subst (λ (p : Path). has_no_bad p ≡ true) (sym here) plain in
        let both : true ≡ false = sym wrong ∙ bad in
        absurd cc
    at false same = refl

in_rebase : (rest : List ℕ) → has_no_bad (codes ".git/rebase-merge" ++ 47 ∷ rest) ≡ false
in_rebase rest = refl

in_sequencer : (rest : List ℕ) → has_no_bad (codes ".git/sequencer" ++ 47 ∷ rest) ≡ false
in_sequencer rest = refl

plain_is_none : (path : Path) → has_no_bad path ≡ true → is_list_file path ≡ false
plain_is_none path plain =
    rw (
      no_folder (codes ".git/rebase-merge") path in_rebase plain,
      no_folder (codes ".git/sequencer") path in_sequencer plain,
      no_head (codes ".git/MERGE_MSG") path refl plain,
      no_head (codes ".git/MERGE_HEAD") path refl plain,
      no_head (codes ".git/REBASE_HEAD") path refl plain,
      no_head (codes ".git/CHERRY_PICK_HEAD") path refl plain,
      no_head (codes ".git/REVERT_HEAD") path refl plain,
    ) refl

-- a path that an index may hold is none of a list's files
pub path_is_none : (path : Path) → is_path path ≡ true → is_list_file path ≡ false
path_is_none path is =
    let some = and_parts (not (length path == 0)) (nat_le (length path) 4095 && (is_utf8 path && has_no_bad path)) is in
    let short = and_parts (nat_le (length path) 4095) (is_utf8 path && has_no_bad path) some.1 in
    let text = and_parts (is_utf8 path) (has_no_bad path) short.1 in
    plain_is_none path text.1

-- ---- the entries of an index

abbrev pub ArePlain : List IndexEntry → Type 0
ArePlain es = AllByRecursion (λ (e : IndexEntry). is_path e.path ≡ true) es

-- where some are read, they have such paths
abbrev pub IsPlain : {E : Type 0} → Result (List IndexEntry) E → Type 0
IsPlain (Ok es) = ArePlain es
IsPlain (Err fault) = Unit {0}

abbrev IsPlainEntry : Result IndexEntry IndexFault → Type 0
IsPlainEntry (Ok e) = is_path e.path ≡ true
IsPlainEntry (Err fault) = Unit {0}

abbrev IsPlainFirst : Result (IndexEntry × Text) IndexFault → Type 0
IsPlainFirst (Ok x) = is_path x.0.path ≡ true
IsPlainFirst (Err fault) = Unit {0}

abbrev ArePlainFirst : Result (List IndexEntry × Text) IndexFault → Type 0
ArePlainFirst (Ok x) = ArePlain x.0
ArePlainFirst (Err fault) = Unit {0}

of_plain : (number : ℕ) (mode : Option Mode) (id : List ℕ) (flags : ℕ) (path nuls : List ℕ) → IsPlainEntry (entry_of number mode id flags path nuls)
unfolding entry_of
of_plain number None id flags path nuls = tt
of_plain number (Some mode) id flags path nuls = at (flags / 16384 % 2 == 0) (are_zero nuls) (is_path path) refl
  where
    at : (x y z : Bool) → is_path path ≡ z
        → IsPlainEntry (cond (x && (y && z)) (Ok (record { path = path; stage = flags / 4096 % 4; mode = mode; id = id })) (Err (Name number)))
    at true true true is = is
    at true true false is = tt
    at true false z is = tt
    at false y z is = tt

in_plain : (number : ℕ) (text : Text) → IsPlainEntry (entry_in number text)
unfolding entry_in
in_plain number text =
    of_plain number (mode_of (from_be_bytes w32 (take 4 (drop 24 text)))) (take 20 (drop 40 text)) (flags_in text)
    (take (flags_in text % 4096) (drop 62 text))
    (drop (62 + flags_in text % 4096) text)

beside_plain : (rest : Text) (r : Result IndexEntry IndexFault) → IsPlainEntry r → IsPlainFirst (r >>= λ entry. Ok (entry, rest))
beside_plain rest (Ok e) plain = plain
beside_plain rest (Err fault) plain = tt

whole_plain : (number : ℕ) (r : Result (Text × Text) IndexFault)
    → IsPlainFirst (r >>= λ whole. (entry_in number whole.0 >>= λ entry. Ok (entry, whole.1)))
whole_plain number (Ok whole) = beside_plain whole.1 (entry_in number whole.0) (in_plain number whole.0)
whole_plain number (Err fault) = tt

first_plain : (number : ℕ) (bytes : Text) → IsPlainFirst (entry_at number bytes)
unfolding entry_at
first_plain number bytes = whole_plain number (whole_at bytes)

behind_plain : (es : List IndexEntry) (e : IndexEntry) → ArePlain es → is_path e.path ≡ true → ArePlain (es ++ e ∷ [])
behind_plain [] e plain is = (is, tt)
behind_plain (d ∷ es) e plain is = (plain.0, behind_plain es e plain.1 is)

appended_plain : (es : List IndexEntry) (e : IndexEntry) → ArePlain es → is_path e.path ≡ true → IsPlain (appended es e)
unfolding appended
appended_plain es e plain is = at (may_follow es e)
  where
    at : (b : Bool) → IsPlain {E = IndexFault} (cond b (Ok (es ++ e ∷ [])) (Err (Order (length es + 1))))
    at true = behind_plain es e plain is
    at false = tt

abbrev LaterPlain : ℕ → Type 0
LaterPlain n = (es : List IndexEntry) (bytes : Text) → ArePlain es → ArePlainFirst (entries_at n es bytes)

more_plain : (n : ℕ) → LaterPlain n → (rest : Text) (r : Result (List IndexEntry) IndexFault) → IsPlain r
    → ArePlainFirst (r >>= λ more. entries_at n more rest)
more_plain n later rest (Ok more) plain = later more rest plain
more_plain n later rest (Err fault) plain = tt

one_plain : (n : ℕ) → LaterPlain n → (es : List IndexEntry) → ArePlain es → (r : Result (IndexEntry × Text) IndexFault) → IsPlainFirst r
    → ArePlainFirst (r >>= λ entry. (appended es entry.0 >>= λ more. entries_at n more entry.1))
one_plain n later es plain (Ok x) first = more_plain n later x.1 (appended es x.0) (appended_plain es x.0 plain first)
one_plain n later es plain (Err fault) first = tt

entries_plain : (n : ℕ) → LaterPlain n
unfolding entries_at
entries_plain zero es bytes plain = plain
entries_plain (suc n) es bytes plain = one_plain n (entries_plain n) es plain (entry_at (length es + 1) bytes) (first_plain (length es + 1) bytes)

module _ (bytes : Text) where
  abbrev ends : Text → List IndexEntry → Result (List IndexEntry) IndexFault
  ends trailer es = cond (is_trailer (take (length bytes - 20) bytes) trailer) (Ok es) (Err Hash)

  if_plain : (b : Bool) (es : List IndexEntry) → ArePlain es → IsPlain {E = IndexFault} (cond b (Ok es) (Err Hash))
  if_plain true es plain = plain
  if_plain false es plain = tt

  trailer_plain : (es : List IndexEntry) → ArePlain es → (r : Result Text IndexFault) → IsPlain (r >>= λ trailer. ends trailer es)
  trailer_plain es plain (Ok trailer) = if_plain (is_trailer (take (length bytes - 20) bytes) trailer) es plain
  trailer_plain es plain (Err fault) = tt

  body_plain : (r : Result (List IndexEntry × Text) IndexFault) → ArePlainFirst r
      → IsPlain (r >>= λ entries. (trailer_at (length entries.1) entries.1 >>= λ trailer. ends trailer entries.0))
  body_plain (Ok x) plain = trailer_plain x.0 plain (trailer_at (length x.1) x.1)
  body_plain (Err fault) plain = tt

  count_plain : (r : Result (ℕ × Text) IndexFault)
      → IsPlain (r >>= λ count. (entries_at count.0 [] count.1 >>= λ entries. (trailer_at (length entries.1) entries.1 >>= λ trailer. ends trailer entries.0)))
  count_plain (Ok count) = body_plain (entries_at count.0 [] count.1) (entries_plain count.0 [] count.1 tt)
  count_plain (Err fault) = tt

  -- the entries that are read of bytes have such paths
  pub index_plain : IsPlain (index_of bytes)
  unfolding index_of
  index_plain = count_plain (header_at bytes)
