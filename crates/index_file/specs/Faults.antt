-- Where the bytes of an index go wrong first, read from the left (gitformat-index(5)).
use Rattle.std.specs.Prelude.{◌≡◌, ℕ, ◌+◌, ◌<◌, ◌≤◌, ◌⊎◌, ◌^◌, List, [], ◌∷◌, ◌++◌, length, take, drop, slice_index, map, codes}
use Rattle.std.specs.List.{AllByRecursion, flat_map}
use Rattle.std.specs.Int.{w32, to_be_bytes, from_be_bytes}
use Rattle.seq_base.specs.Words.{Text}
use Rattle.index_file.specs.declared.entry.IndexEntry.{IndexEntry}
use Rattle.index_file.specs.declared.fault.IndexFault.{IndexFault}
use Rattle.index_file.specs.declared.fault.IndexFault.TheVariants.{Magic, Version, Count, Name, Order, Extension, Hash, Memory}
use Rattle.index_file.specs.Entries.{IsInOrder}
use Rattle.index_file.specs.Spelling.{Stat, IsRow, row_text, IsWhole, IsExtension, IsCapital, extension_text, header_text, body_text, IsTrailer}
use Rattle.index_file.specs.Spelling.{Extension as Extra}

-- behind a header with this count there are rows in order, and then what is left
pub record Stands (bytes : Text) (count : ℕ) (rows : List (Stat × IndexEntry)) (left : Text) : Type 0 where
  pub text : bytes ≡ header_text count ++ (flat_map row_text rows ++ left)
  pub few : count < 2 ^ 32
  pub are_rows : AllByRecursion IsRow rows
  pub in_order : IsInOrder (map (λ r. r.1) rows)

-- a row is still to come
pub record StandsAtRow (bytes : Text) (n : ℕ) (rows : List (Stat × IndexEntry)) (left : Text) : Type 0 where
  pub count : ℕ
  pub stands : Stands bytes count rows left
  pub more : length rows < count
  pub number : n ≡ length rows + 1

-- behind all rows there are extensions, and then what is left
pub record StandsBehind (bytes : Text) (rows : List (Stat × IndexEntry)) (extensions : List Extra) (left : Text) : Type 0 where
  pub stands : Stands bytes (length rows) rows (flat_map extension_text extensions ++ left)
  pub are_extensions : AllByRecursion IsExtension extensions
  pub long : 20 ≤ length left

-- the version or the count is not whole
abbrev pub IsCutHeader : Text → Type 0
IsCutHeader bytes = (left : Text) × (bytes ≡ codes "DIRC" ++ left) × ((length left < 4) ⊎ ((take 4 left ≡ to_be_bytes w32 2) × (length left < 8)))

-- an entry is not whole
abbrev pub IsCutEntry : Text → Type 0
IsCutEntry bytes =
    (n : ℕ) × (rows : List (Stat × IndexEntry)) × (left : Text) × StandsAtRow bytes n rows left
    × ((text rest : Text) → left ≡ text ++ rest → IsWhole text → ⊥)

-- an extension is not whole, before the last twenty bytes
abbrev pub IsCutExtension : Text → Type 0
IsCutExtension bytes =
    (rows : List (Stat × IndexEntry)) × (extensions : List Extra) × (left : Text) × StandsBehind bytes rows extensions left
    × (20 < length left)
    × ((length left < 28) ⊎ (IsCapital (slice_index left 0) × (length left < 28 + from_be_bytes w32 (take 4 (drop 4 left)))))

-- fewer than twenty bytes are left behind the entries
abbrev pub IsCutTrailer : Text → Type 0
IsCutTrailer bytes = (rows : List (Stat × IndexEntry)) × (left : Text) × Stands bytes (length rows) rows left × (length left < 20)

-- the first fault: what stands before it is as it should be
abbrev pub IsFirstFault : Text → IndexFault → Type 0
IsFirstFault bytes Magic = take 4 bytes ≡ codes "DIRC" → ⊥
IsFirstFault bytes (Version n) = (left : Text) × (bytes ≡ codes "DIRC" ++ (to_be_bytes w32 n ++ left)) × (n < 2 ^ 32) × (n ≡ 2 → ⊥)
IsFirstFault bytes Count = IsCutHeader bytes ⊎ (IsCutEntry bytes ⊎ (IsCutTrailer bytes ⊎ IsCutExtension bytes))
IsFirstFault bytes (Name n) =
    (rows : List (Stat × IndexEntry)) × (text left : Text) × StandsAtRow bytes n rows (text ++ left) × IsWhole text
    × ((r : Stat × IndexEntry) → IsRow r → text ≡ row_text r → ⊥)
IsFirstFault bytes (Order n) =
    (rows : List (Stat × IndexEntry)) × (r : Stat × IndexEntry) × (left : Text) × StandsAtRow bytes n rows (row_text r ++ left)
    × IsRow r × (IsInOrder (map (λ r. r.1) (rows ++ r ∷ [])) → ⊥)
IsFirstFault bytes (Extension tag) =
    (rows : List (Stat × IndexEntry)) × (extensions : List Extra) × (left : Text) × StandsBehind bytes rows extensions (tag ++ left)
    × (length tag ≡ 4) × (24 ≤ length left) × (IsCapital (slice_index tag 0) → ⊥)
IsFirstFault bytes Hash =
    (rows : List (Stat × IndexEntry)) × (extensions : List Extra) × (trailer : Text) × StandsBehind bytes rows extensions trailer
    × (length trailer ≡ 20) × (IsTrailer (body_text rows extensions) trailer → ⊥)
IsFirstFault bytes Memory = ⊥

-- the first fault, or want of memory
abbrev pub IsFirstFaultOrMemory : Text → IndexFault → Type 0
IsFirstFaultOrMemory bytes Memory = Unit {0}
IsFirstFaultOrMemory bytes f = IsFirstFault bytes f
