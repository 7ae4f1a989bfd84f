-- Fronts of names of refs, byte by byte: what a name may go on with.
use Rattle.std.specs.Prelude.{ℕ, ◌+◌, ◌-◌, Bool, false, not, nat_lt, nat_eq, ◌&&◌, ◌||◌, ◌==◌, if◌then◌else◌, [], ◌∷◌, length, take, drop, slice_index, codes, Option, Some, None}
use Rattle.std.specs.Int.{is_in_range}
use Rattle.std.specs.List.{starts_with}
use Rattle.std.specs.Str.{bytes_eq}
use Rattle.std.specs.Str.Lossy.{second_byte_min, second_byte_max}
use Rattle.seq_base.specs.Words.{Text}
use Rattle.seq_base.specs.declared.ref_front.RefFront.{RefFront}
use Rattle.seq_base.specs.RefNames.{is_ref_byte, is_ref_part}

-- a byte that goes on with a character
abbrev pub follows : ℕ → Bool
follows b = is_in_range 0x80 0xBF b

-- the first byte of a character of more than one
abbrev pub is_lead : ℕ → Bool
is_lead x = is_in_range 0xC2 0xF4 x

-- the second byte of one that begins with x
abbrev pub is_second : ℕ → ℕ → Bool
is_second x y = is_in_range (second_byte_min x) (second_byte_max x) y

-- some character begins so (Unicode, table 3-7)
abbrev pub begins_char : Text → Bool
begins_char (x ∷ []) = nat_lt x 128 || is_lead x
begins_char (x ∷ y ∷ []) = is_lead x && is_second x y
begins_char (x ∷ y ∷ z ∷ []) = is_in_range 0xE0 0xF4 x && is_second x y && follows z
begins_char (x ∷ y ∷ z ∷ w ∷ []) = is_in_range 0xF0 0xF4 x && is_second x y && follows z && follows w
begins_char _ = false

-- how many bytes a character has that begins with x
abbrev pub char_size : ℕ → ℕ
char_size x = if nat_lt x 0x80 then 1 else (if nat_lt x 0xE0 then 2 else (if nat_lt x 0xF0 then 3 else 4))

-- bytes that begin a character are a whole one
abbrev pub is_char : Text → Bool
is_char bytes = length bytes == char_size (slice_index bytes 0)

-- the byte may stand behind the last one
abbrev pub may_follow : ℕ → ℕ → Bool
may_follow last b = is_ref_byte b && not (last == 46 && b == 46) && not (last == 64 && b == 123)

-- HEAD or `refs/` begins so
abbrev pub begins_name : Text → Bool
begins_name front = starts_with nat_eq (codes "refs/") front || starts_with nat_eq (codes "HEAD") front

-- the last byte of the front ends a part that is good, or is no dot that would begin one
abbrev pub keeps_parts : RefFront → Text → Bool
keeps_parts s front =
    if slice_index front (length front - 1) == 47 then is_ref_part (drop s.part (take (length front - 1) front))
    else not (s.part + 1 == length front && slice_index front (length front - 1) == 46)

-- below `refs/`, some name goes on with the last byte of the front
abbrev pub goes_on_below : RefFront → Text → Bool
goes_on_below s front =
    nat_lt s.part (length front) && may_follow (slice_index front (length front - 2)) (slice_index front (length front - 1))
    && begins_char (drop s.text front) && keeps_parts s front

-- some name goes on with the last byte of the front
abbrev pub goes_on : RefFront → Text → Bool
goes_on s front = nat_lt s.text (length front) && (if s.part == 0 then begins_name front else goes_on_below s front)

-- where one stands behind that byte
abbrev pub next_part : RefFront → Text → ℕ
next_part s front =
    if s.part == 0 then (if bytes_eq front (codes "refs/") then 5 else 0)
    else (if slice_index front (length front - 1) == 47 then length front else s.part)

abbrev pub next_text : RefFront → Text → ℕ
next_text s front = if s.part == 0 || is_char (drop s.text front) then length front else s.text

abbrev pub behind : RefFront → Text → Option RefFront
behind s front = if goes_on s front then Some (record { part = next_part s front; text = next_text s front }) else None
