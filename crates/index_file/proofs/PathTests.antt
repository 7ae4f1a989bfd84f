-- The test for a path says what `IsPath` says.
use Rattle.std.proofs.Common.{◌≡◌, ◌⊎◌, inl, inr, ℕ, ◌<◌, ◌≤◌, Bool, true, false, not, ◌&&◌, ◌==◌, nat_le, ◌/◌, ◌%◌, cond, List, length, Option, Some, None, Ok, Err, refl, ap, arith}
use Rattle.std.specs.Prelude.{is_none}
use Rattle.std.specs.Str.{IsUtf8, is_utf8}
use Rattle.std.proofs.lemmas.Bool.Decides.{nat_tests}
use Rattle.std.proofs.lemmas.Str.{IsUtf8-from_is_utf8, is_utf8-from_IsUtf8}
use Rattle.seq_base.specs.Paths.{IsPath, IsPathFaultOrMemory, first_bad, parts}
use Rattle.seq_base.specs.declared.path.PathFault.{PathFault}
use Rattle.seq_base.specs.declared.path.PathFault.TheVariants.{Empty, TooLong, NotUtf8, BadPart, Memory}
use Rattle.seq_base.specs.declared.mode.Mode.{Mode}
use Rattle.index_file.specs.declared.fault.IndexFault.{IndexFault}
use Rattle.index_file.specs.declared.fault.IndexFault.TheVariants.{Name, Memory as out_of_memory}
use Rattle.index_file.specs.Reading.{is_path, are_zero, entry_of, Fails}

is_some_length : (n : ℕ) → 0 < n → not (n == 0) ≡ true
is_some_length n lt = grind (arith, nat_tests)

is_short : (n : ℕ) → n ≤ 4095 → nat_le n 4095 ≡ true
is_short n le = grind (arith, nat_tests)

is_long : (n : ℕ) → 4095 < n → nat_le n 4095 ≡ false
is_long n lt = grind (arith, nat_tests)

all_four : (a b c d : Bool) → a ≡ true → b ≡ true → c ≡ true → d ≡ true → a && (b && (c && d)) ≡ true
all_four true true true true p q r s = refl
all_four false b c d p q r s = cc
all_four true false c d p q r s = cc
all_four true true false d p q r s = cc
all_four true true true false p q r s = cc

first_fails : (a b c d : Bool) → a ≡ false → a && (b && (c && d)) ≡ false
first_fails false b c d p = refl
first_fails true b c d p = cc

second_fails : (a b c d : Bool) → b ≡ false → a && (b && (c && d)) ≡ false
second_fails false b c d p = refl
second_fails true false c d p = refl
second_fails true true c d p = cc

third_fails : (a b c d : Bool) → c ≡ false → a && (b && (c && d)) ≡ false
third_fails false b c d p = refl
third_fails true false c d p = refl
third_fails true true false d p = refl
third_fails true true true d p = cc

fourth_fails : (a b c d : Bool) → d ≡ false → a && (b && (c && d)) ≡ false
fourth_fails false b c d p = refl
fourth_fails true false c d p = refl
fourth_fails true true false d p = refl
fourth_fails true true true false p = refl
fourth_fails true true true true p = cc

not_text : (bytes : List ℕ) (b : Bool) → is_utf8 bytes ≡ b → (IsUtf8 bytes → ⊥) → b ≡ false
not_text bytes false e none = refl
not_text bytes true e none = absurd (none (IsUtf8-from_is_utf8 bytes e))

pub path_passes : (bytes : List ℕ) → IsPath bytes → is_path bytes ≡ true
path_passes bytes p =
    all_four (not (length bytes == 0)) (nat_le (length bytes) 4095) (is_utf8 bytes) (is_none (first_bad 0 (parts bytes)))
    (is_some_length (length bytes) p.some) (is_short (length bytes) p.short) (is_utf8-from_IsUtf8 bytes p.text) (ap is_none p.parts_are)

pub fault_fails : (bytes : List ℕ) (f : PathFault) → IsPathFaultOrMemory bytes f → (f ≡ Memory → ⊥) → is_path bytes ≡ false
fault_fails bytes Empty h other =
    first_fails (not (length bytes == 0)) (nat_le (length bytes) 4095) (is_utf8 bytes) (is_none (first_bad 0 (parts bytes))) (ap (λ (n : ℕ). not (n == 0)) h)
fault_fails bytes (TooLong n) h other =
    second_fails (not (length bytes == 0)) (nat_le (length bytes) 4095) (is_utf8 bytes) (is_none (first_bad 0 (parts bytes))) (is_long (length bytes) (omega (arith, h.0, h.1)))
fault_fails bytes (NotUtf8 at) h other =
    third_fails (not (length bytes == 0)) (nat_le (length bytes) 4095) (is_utf8 bytes) (is_none (first_bad 0 (parts bytes))) (not_text bytes (is_utf8 bytes) refl h.2)
fault_fails bytes (BadPart at) h other =
    fourth_fails (not (length bytes == 0)) (nat_le (length bytes) 4095) (is_utf8 bytes) (is_none (first_bad 0 (parts bytes))) (ap is_none h.3)
fault_fails bytes Memory h other = absurd (other refl)

is_nothing : (o : Option ℕ) → is_none o ≡ true → o ≡ None
is_nothing None e = refl
is_nothing (Some n) e = cc

split_four : (a b c d : Bool) → a && (b && (c && d)) ≡ true → (a ≡ true) × (b ≡ true) × (c ≡ true) × (d ≡ true)
split_four true true true true e = (refl, refl, refl, refl)
split_four false b c d e = cc
split_four true false c d e = cc
split_four true true false d e = cc
split_four true true true false e = cc

is_some_from : (n : ℕ) → not (n == 0) ≡ true → 0 < n
is_some_from n e = grind (arith, nat_tests)

is_short_from : (n : ℕ) → nat_le n 4095 ≡ true → n ≤ 4095
is_short_from n e = grind (arith, nat_tests)

pub path_from : (bytes : List ℕ) → is_path bytes ≡ true → IsPath bytes
path_from bytes e =
    let s = split_four (not (length bytes == 0)) (nat_le (length bytes) 4095) (is_utf8 bytes) (is_none (first_bad 0 (parts bytes))) e in
    record { some = is_some_from (length bytes) s.0; short = is_short_from (length bytes) s.1; text = IsUtf8-from_is_utf8 bytes s.2; parts_are = is_nothing (first_bad 0 (parts bytes)) s.3 }

-- ---- the entry that fields make

pub entry_good : (n : ℕ) (mode : Mode) (id : List ℕ) (flags : ℕ) (path nuls : List ℕ) → (flags / 16384 % 2 == 0) ≡ true → are_zero nuls ≡ true
    → is_path path ≡ true
    → entry_of n (Some mode) id flags path nuls ≡ Ok (record { path = path; stage = flags / 4096 % 4; mode = mode; id = id })
unfolding entry_of
entry_good n mode id flags path nuls p q r = rw (p, q, r) refl

pub entry_bad : (n : ℕ) (mode : Mode) (id : List ℕ) (flags : ℕ) (path nuls : List ℕ) → is_path path ≡ false
    → entry_of n (Some mode) id flags path nuls ≡ Err (Name n)
unfolding entry_of
entry_bad n mode id flags path nuls p =
    ap (λ (b : Bool). cond b (Ok (record { path = path; stage = flags / 4096 % 4; mode = mode; id = id })) (Err (Name n))) (no_path (flags / 16384 % 2 == 0) (are_zero nuls) (is_path path) p)
  where
    no_path : (a b c : Bool) → c ≡ false → a && (b && c) ≡ false
    no_path false b c e = refl
    no_path true false c e = refl
    no_path true true c e = e

no_memory : (f : PathFault) → (f ≡ Memory) ⊎ (f ≡ Memory → ⊥)
no_memory Empty = inr (λ e. cc)
no_memory (TooLong n) = inr (λ e. cc)
no_memory (NotUtf8 at) = inr (λ e. cc)
no_memory (BadPart at) = inr (λ e. cc)
no_memory Memory = inl refl

pub entry_fails : (n : ℕ) (mode : Mode) (id : List ℕ) (flags : ℕ) (path nuls : List ℕ) (f : PathFault) (r : IndexFault) → IsPathFaultOrMemory path f
    → (f ≡ Memory → r ≡ out_of_memory) → ((f ≡ Memory → ⊥) → r ≡ Name n)
    → Fails r (entry_of n (Some mode) id flags path nuls)
entry_fails n mode id flags path nuls f r h p q = elim (no_memory f) [
  | inl e ↦ rw (p e) tt
  | inr e ↦ rw (q e) (entry_bad n mode id flags path nuls (fault_fails path f h e))
]
