-- The bytes of an index file, version 2 (gitformat-index(5)).
use Rattle.std.specs.Prelude.{◌≡◌, ℕ, ◌+◌, ◌-◌, ◌*◌, ◌%◌, ◌<◌, ◌≤◌, ◌⊎◌, ◌^◌, List, ◌++◌, length, take, drop, slice_index, replicate, map, codes}
use Rattle.std.specs.List.{AllByRecursion, flat_map}
use Rattle.std.specs.Int.{w16, w32, to_be_bytes, from_be_bytes}
use Rattle.hex.specs.Hex.{IsBytes}
use Rattle.seq_base.specs.Words.{Text}
use Rattle.sha1.specs.Sha1.{sha1}
use Rattle.seq_base.specs.Modes.{mode_number}
use Rattle.seq_base.specs.Paths.{IsPath}
use Rattle.seq_base.specs.Ids.{HasIdWidth}
use Rattle.index_file.specs.declared.entry.IndexEntry.{IndexEntry}
use Rattle.index_file.specs.Entries.{IsStaged, IsIndex}

-- what a file says of an entry and a reader does not look at: ctime, mtime, dev and ino; uid, gid and size; the assume-valid bit
pub record Stat : Type 0 where
  pub times : Text
  pub owner : Text
  pub assumed : ℕ

-- as many bytes as the words take, and one bit
pub record IsStat (s : Stat) : Type 0 where
  pub times : length s.times ≡ 24
  pub owner : length s.owner ≡ 12
  pub assumed : s.assumed < 2

-- a path and an id besides what `IsStaged` says
pub record IsRow (r : Stat × IndexEntry) : Type 0 where
  pub stat : IsStat r.0
  pub staged : IsStaged r.1
  pub path : IsPath r.1.path
  pub id : HasIdWidth r.1.id
  pub bytes : IsBytes r.1.id

-- how many NULs follow so many bytes, up to a multiple of 8
abbrev pub padding : ℕ → ℕ
padding n = 8 - n % 8

-- the assume-valid bit, the extended flag, which is 0, two bits of stage, and twelve of the length of the name
abbrev pub flags : ℕ → IndexEntry → ℕ
flags assumed e = assumed * 32768 + e.stage * 4096 + length e.path

abbrev pub row_text : Stat × IndexEntry → Text
row_text r =
    r.0.times ++ (to_be_bytes w32 (mode_number r.1.mode) ++ (r.0.owner ++ (r.1.id ++ (
    to_be_bytes w16 (flags r.0.assumed r.1) ++ (r.1.path ++ replicate (padding (62 + length r.1.path)) 0)))))

-- the flags in the bytes of an entry, which stand behind its stat words and its id
abbrev pub flags_in : Text → ℕ
flags_in bytes = from_be_bytes w16 (take 2 (drop 60 bytes))

-- how many bytes an entry with these flags takes
abbrev pub size_of : ℕ → ℕ
size_of flags = 62 + flags % 4096 + padding (62 + flags % 4096)

-- as many bytes as an entry with the flags in them takes
pub record IsWhole (text : Text) : Type 0 where
  pub long : 62 ≤ length text
  pub size : length text ≡ size_of (flags_in text)

-- an extension that a reader may skip
pub record Extension : Type 0 where
  pub tag : Text
  pub content : Text

-- a letter from A to Z
abbrev pub IsCapital : ℕ → Type 0
IsCapital b = (65 ≤ b) × (b ≤ 90)

-- its tag begins with a capital letter
pub record IsExtension (x : Extension) : Type 0 where
  pub tag : length x.tag ≡ 4
  pub capital : IsCapital (slice_index x.tag 0)
  pub content : length x.content < 2 ^ 32

abbrev pub extension_text : Extension → Text
extension_text x = x.tag ++ (to_be_bytes w32 (length x.content) ++ x.content)

-- the signature, the version and how many entries follow
abbrev pub header_text : ℕ → Text
header_text count = codes "DIRC" ++ (to_be_bytes w32 2 ++ to_be_bytes w32 count)

-- all but the trailer
abbrev pub body_text : List (Stat × IndexEntry) → List Extension → Text
body_text rows extensions = header_text (length rows) ++ (flat_map row_text rows ++ flat_map extension_text extensions)

-- the SHA-1 of what stands before, or zero, where git was told to write none (index.skipHash)
abbrev pub IsTrailer : Text → Text → Type 0
IsTrailer body trailer = (trailer ≡ sha1 body) ⊎ (trailer ≡ replicate 20 0)

-- these bytes spell the entries
pub record Spells (es : List IndexEntry) (bytes : Text) : Type 0 where
  pub index : IsIndex es
  pub rows : List (Stat × IndexEntry)
  pub entries : map (λ r. r.1) rows ≡ es
  pub are_rows : AllByRecursion IsRow rows
  pub extensions : List Extension
  pub are_extensions : AllByRecursion IsExtension extensions
  pub trailer : Text
  pub is_trailer : IsTrailer (body_text rows extensions) trailer
  pub text : bytes ≡ body_text rows extensions ++ trailer

-- ---- the one spelling that is written

-- stat words that are 0, and no assume-valid bit
abbrev pub no_stat : Stat
no_stat = record { times = replicate 24 0; owner = replicate 12 0; assumed = 0 }

abbrev pub entry_text : IndexEntry → Text
entry_text e = row_text (no_stat, e)

-- no stat words but the mode, no extension, and the SHA-1 of all before it
abbrev pub index_text : List IndexEntry → Text
index_text es = (header_text (length es) ++ flat_map entry_text es) ++ sha1 (header_text (length es) ++ flat_map entry_text es)
