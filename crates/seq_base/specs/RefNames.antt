-- Names of refs (git-check-ref-format(1); that a name is UTF-8, and begins with `refs/` or is HEAD, is asked besides).
use Rattle.std.specs.Prelude.{◌≡◌, ℕ, ◌+◌, ◌<◌, ◌≤◌, Bool, true, not, ◌&&◌, ◌||◌, ◌==◌, nat_eq, nat_lt, ◌++◌, length, take, drop, slice_index, codes}
use Rattle.std.specs.List.{list_all, list_any, starts_with, ends_with, zip}
use Rattle.std.specs.Str.{bytes_eq}
use Rattle.seq_base.specs.Words.{Name, Text}
use Rattle.seq_base.specs.Paths.{parts}
use Rattle.seq_base.specs.StorePaths.{is_text}
use Rattle.seq_base.specs.declared.ref_name.RefNameFault.{RefNameFault}
use Rattle.seq_base.specs.declared.ref_name.RefNameFault.TheVariants.{Bad}

-- no control byte, no SP, and none that git has a use for
abbrev pub is_ref_byte : ℕ → Bool
is_ref_byte b = not (nat_lt b 33) && not (b == 127) && not (list_any (λ c. c == b) (codes "~^:?*[\\"))

-- not empty, not hidden, and not the name of a lock
abbrev pub is_ref_part : Name → Bool
is_ref_part part = not (length part == 0) && not (slice_index part 0 == 46) && not (ends_with nat_eq part (codes ".lock"))

-- the one byte stands right before the other
abbrev pub has_pair : ℕ → ℕ → Text → Bool
has_pair a b bytes = list_any (λ p. p.0 == a && p.1 == b) (zip bytes (drop 1 bytes))

-- below `refs/`
abbrev pub is_below_refs : Name → Bool
is_below_refs name =
    starts_with nat_eq name (codes "refs/") && is_text name && list_all is_ref_byte name && list_all is_ref_part (parts name)
    && not (has_pair 46 46 name) && not (has_pair 64 123 name) && not (ends_with nat_eq name (codes "."))

-- a name below `refs/`, or HEAD
abbrev pub is_ref_name : Name → Bool
is_ref_name name = bytes_eq name (codes "HEAD") || is_below_refs name

abbrev pub IsRefName : Name → Type 0
IsRefName name = is_ref_name name ≡ true

-- some name begins so
abbrev pub BeginsRefName : Text → Type 0
BeginsRefName front = (rest : Text) × IsRefName (front ++ rest)

-- Bytes that are no name: the place of the first with which no name goes on, or their length where they end too early.
pub record IsBadInRefName (name : Text) (at : ℕ) : Type 0 where
  pub within : at ≤ length name
  pub goes_on : BeginsRefName (take at name)
  pub no_further : at < length name → BeginsRefName (take (at + 1) name) → ⊥
  pub no_name : IsRefName name → ⊥

abbrev pub IsRefNameFault : Text → RefNameFault → Type 0
IsRefNameFault name (Bad at) = IsBadInRefName name at
