-- Reading an index from the left (gitformat-index(5)).
use Rattle.std.specs.Prelude.{◌≡◌, ℕ, zero, suc, ◌+◌, ◌-◌, ◌/◌, ◌%◌, Bool, not, ◌&&◌, ◌||◌, ◌==◌, nat_lt, nat_le, if◌then◌else◌, List, [], ◌∷◌, ◌++◌, length, take, drop, slice_index, Option, Some, None, Result, Ok, Err, codes, is_none}
use Rattle.std.specs.List.{list_all}
use Rattle.std.specs.Int.{w32, from_be_bytes}
use Rattle.std.specs.Str.{bytes_eq, is_utf8}
use Rattle.seq_base.specs.Words.{Id, Path, Text}
use Rattle.sha1.specs.Sha1.{sha1}
use Rattle.seq_base.specs.Paths.{parts, first_bad}
use Rattle.seq_base.specs.declared.mode.Mode.{Mode}
use Rattle.seq_base.specs.declared.mode.Mode.TheVariants.{File, Exec, Link, Gitlink}
use Rattle.index_file.specs.declared.entry.IndexEntry.{IndexEntry}
use Rattle.index_file.specs.declared.fault.IndexFault.{IndexFault}
use Rattle.index_file.specs.declared.fault.IndexFault.TheVariants.{Magic, Version, Count, Name, Order, Extension, Hash, Memory}
use Rattle.index_file.specs.Spelling.{flags_in, size_of}
use Rattle.index_file.specs.Fronts.{may_follow}

infixl 10 ◌>>=◌
abbrev pub ◌>>=◌ : {A B : Type 0} → Result A IndexFault → (A → Result B IndexFault) → Result B IndexFault
(Ok x) >>= f = f x
(Err e) >>= f = Err e

-- what a function answered, seen by view, is what reading gives, unless memory ran out
abbrev pub Fails : {Y : Type 0} → IndexFault → Result Y IndexFault → Type 0
Fails Memory read = Unit {0}
Fails e read = read ≡ Err e

abbrev pub Gives : {X Y : Type 0} → (X → Y) → Result X IndexFault → Result Y IndexFault → Type 0
Gives view (Ok x) read = read ≡ Ok (view x)
Gives view (Err e) read = Fails e read

-- ---- fields

-- so many bytes, and those behind them
abbrev pub front_at : ℕ → Text → Result (Text × Text) IndexFault
front_at n bytes = if nat_lt (length bytes) n then Err Count else Ok (take n bytes, drop n bytes)

abbrev pub number_at : Text → Result (ℕ × Text) IndexFault
number_at bytes = if nat_lt (length bytes) 4 then Err Count else Ok (from_be_bytes w32 (take 4 bytes), drop 4 bytes)

abbrev pub mode_of : ℕ → Option Mode
mode_of n =
    if n == 33188 then Some File
    else if n == 33261 then Some Exec
    else if n == 40960 then Some Link
    else if n == 57344 then Some Gitlink
    else None

-- `IsPath` as a test
abbrev pub is_path : Path → Bool
is_path bytes = not (length bytes == 0) && (nat_le (length bytes) 4095 && (is_utf8 bytes && is_none (first_bad 0 (parts bytes))))

abbrev pub are_zero : Text → Bool
are_zero bytes = list_all (λ b. b == 0) bytes

-- ---- entries

-- the entry that has these fields, if each is as it should be
unfoldable pub entry_of : ℕ → Option Mode → Id → ℕ → Path → Text → Result IndexEntry IndexFault
entry_of number None id flags path nuls = Err (Name number)
entry_of number (Some mode) id flags path nuls =
    if flags / 16384 % 2 == 0 && (are_zero nuls && is_path path)
    then Ok (record { path = path; stage = flags / 4096 % 4; mode = mode; id = id })
    else Err (Name number)

-- the bytes of an entry, and those behind them
unfoldable pub whole_at : Text → Result (Text × Text) IndexFault
whole_at bytes = if nat_lt (length bytes) 62 then Err Count else front_at (size_of (flags_in bytes)) bytes

-- the entry that bytes of the right number spell
unfoldable pub entry_in : ℕ → Text → Result IndexEntry IndexFault
entry_in number text =
    entry_of number (mode_of (from_be_bytes w32 (take 4 (drop 24 text)))) (take 20 (drop 40 text)) (flags_in text)
    (take (flags_in text % 4096) (drop 62 text))
    (drop (62 + flags_in text % 4096) text)

-- entry of a number
unfoldable pub entry_at : ℕ → Text → Result (IndexEntry × Text) IndexFault
entry_at number bytes = do
  whole ← whole_at bytes
  entry ← entry_in number whole.0
  Ok (entry, whole.1)

-- the entries with one more, if it may stand behind them
unfoldable pub appended : List IndexEntry → IndexEntry → Result (List IndexEntry) IndexFault
appended es e = if may_follow es e then Ok (es ++ e ∷ []) else Err (Order (length es + 1))

-- so many more entries behind those that were read
unfoldable pub entries_at : ℕ → List IndexEntry → Text → Result (List IndexEntry × Text) IndexFault
entries_at zero es bytes = Ok (es, bytes)
entries_at (suc n) es bytes = do
  entry ← entry_at (length es + 1) bytes
  more ← appended es entry.0
  entries_at n more entry.1

-- ---- the whole

-- how many entries follow
unfoldable pub header_at : Text → Result (ℕ × Text) IndexFault
header_at bytes =
    if bytes_eq (take 4 bytes) (codes "DIRC")
    then (number_at (drop 4 bytes) >>= λ version. if version.0 == 2 then number_at version.1 else Err (Version version.0))
    else Err Magic

abbrev pub is_capital : ℕ → Bool
is_capital b = nat_le 65 b && nat_le b 90

-- what stands behind an extension: at least a trailer
unfoldable pub extension_at : Text → Result Text IndexFault
extension_at bytes =
    if nat_lt (length bytes) 28 then Err Count
    else if not (is_capital (slice_index bytes 0)) then Err (Extension (take 4 bytes))
    else if nat_lt (length bytes) (28 + from_be_bytes w32 (take 4 (drop 4 bytes))) then Err Count
    else Ok (drop (8 + from_be_bytes w32 (take 4 (drop 4 bytes))) bytes)

-- what stands behind all extensions, of which there are at most n
unfoldable pub trailer_at : ℕ → Text → Result Text IndexFault
trailer_at zero bytes = if length bytes == 20 then Ok bytes else Err Count
trailer_at (suc n) bytes = if length bytes == 20 then Ok bytes else (extension_at bytes >>= λ rest. trailer_at n rest)

-- the trailer is zero or the SHA-1 of all before it
abbrev pub is_trailer : Text → Text → Bool
is_trailer body trailer = bytes_eq trailer (sha1 body) || are_zero trailer

-- the entries that the bytes spell, or the first fault
unfoldable pub index_of : Text → Result (List IndexEntry) IndexFault
index_of bytes = do
  count ← header_at bytes
  entries ← entries_at count.0 [] count.1
  trailer ← trailer_at (length entries.1) entries.1
  if is_trailer (take (length bytes - 20) bytes) trailer then Ok entries.0 else Err Hash
