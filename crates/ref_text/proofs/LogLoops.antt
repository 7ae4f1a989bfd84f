-- The loop that reads the lines of a reflog.
use Rattle.std.proofs.Common.{◌≡◌, ℕ, suc, ◌-◌, ◌<◌, ◌≤◌, true, false, eqb, get_or, List, [], ◌∷◌, ◌++◌, length, Result, Ok, Err, refl, ap, ◌∙◌, length-append, arith}
use Rattle.std.proofs.lemmas.Bool.{eqb-true}
use Rattle.std.proofs.lemmas.List.{append-nil}
use Rattle.hex.specs.Hex.{is_hex_digit}
use Rattle.grammar.specs.Gives.{Fails}
use Rattle.grammar.specs.declared.fault.ReadError.{ReadError}
use Rattle.grammar.specs.declared.fault.ReadError.TheVariants as errors
use Rattle.grammar.specs.Readers.{◌>>=◌, End, end_at, passing_at, star_at, begins}
use Rattle.grammar.specs.Grammar.{AllBytes}
use Rattle.grammar.specs.Lines.{IsFirstBadLine, line_of_place}
use Rattle.grammar.proofs.LineLaws.{first_bad_line}
use Rattle.grammar.proofs.Passing.{passing_reads}
use Rattle.grammar.proofs.Top.{first_bad}
use Rattle.grammar.proofs.StarLoops.{Loop, loop_more, loop_err, loop_last}
use Rattle.ident_text.specs.declared.ident.Ident.{Ident}
use Rattle.ident_text.specs.ReadIdents.{ident_from}
use Rattle.ident_text.proofs.IdentLaws.{ident_reads}
use Rattle.ref_text.specs.declared.log.LogLine.{LogLine}
use Rattle.ref_text.specs.ReadLogs.{AreDigits, any_byte, kept, line_from, log_from}
use Rattle.ref_text.specs.Logs.{IsLog}
use Rattle.ref_text.proofs.LogLaws.{Each, Good, is_star, log_reads}

pub read_digits : (bytes x rest : List ℕ) → passing_at is_hex_digit 40 bytes ≡ Ok (x, rest) → AreDigits x
read_digits bytes x rest e =
    let k = (passing_reads is_hex_digit 48 (omega arith) refl 40).takes bytes x rest e in record { forty = k.1.0; hex = k.1.1 }

pub ident_within : (bytes : List ℕ) (ident : Ident) (rest : List ℕ) → ident_from bytes ≡ Ok (ident, rest) → length rest ≤ length bytes
ident_within bytes ident rest e = let k = ident_reads.takes bytes ident rest e in omega (arith, ap length k.2, length-append k.0 rest)

abbrev total : List ℕ → Result (List LogLine × Unit {0}) ℕ
total bytes = star_at any_byte kept (λ s. line_from) (λ s rest. end_at rest) (length bytes) tt bytes

-- these lines are read, and that is left
abbrev pub LogLoop : List ℕ → List LogLine → List ℕ → Type 0
LogLoop bytes lines rest =
    Loop Good any_byte kept Each (λ s. End) (λ s. line_from) (λ s rest. end_at rest) is_star (star_at any_byte kept (λ s. line_from) (λ s rest. end_at rest) (length bytes) tt bytes) lines tt rest

pub begins_rest : (rest : List ℕ) → eqb (length rest) 0 ≡ false → begins any_byte rest ≡ true
begins_rest [] some = absurd cc
begins_rest (b ∷ rest) some = refl

pub log_more : (bytes : List ℕ) (lines : List LogLine) (rest : List ℕ) (line : LogLine) (after : List ℕ) → eqb (length rest) 0 ≡ false
    → line_from rest ≡ Ok (line, after)
    → LogLoop bytes lines rest → LogLoop bytes (lines ++ line ∷ []) after × (length after < length rest)
log_more bytes lines rest line after some read l =
    loop_more Good any_byte kept Each (λ s. End) (λ s. line_from) (λ s rest. end_at rest) is_star (total bytes) lines tt rest line after (begins_rest rest some) read l

pub log_err : (bytes : List ℕ) (lines : List LogLine) (rest : List ℕ) (d : ReadError) → eqb (length rest) 0 ≡ false → Fails d (line_from rest)
    → LogLoop bytes lines rest → Fails d (log_from bytes)
unfolding log_from
log_err bytes lines rest errors.Memory some read l = tt
log_err bytes lines rest (errors.Stopped n) some read l =
    ap (λ (r : Result (List LogLine × Unit {0}) ℕ). r >>= λ p. Ok p.0) (loop_err Good any_byte kept Each (λ s. End) (λ s. line_from) (λ s rest. end_at rest) is_star (total bytes) lines tt rest (errors.Stopped n) (begins_rest rest some) read l)

pub log_done : (bytes : List ℕ) (lines : List LogLine) (rest : List ℕ) → eqb (length rest) 0 ≡ true → LogLoop bytes lines rest
    → log_from bytes ≡ Ok lines
unfolding log_from
log_done bytes lines [] none l =
    ap (λ (r : Result (List LogLine × Unit {0}) ℕ). r >>= λ p. Ok p.0) (loop_last Good any_byte kept Each (λ s. End) (λ s. line_from) (λ s rest. end_at rest) is_star (total bytes) lines tt [] refl l) ∙ ap (λ (xs : List LogLine). Ok xs) (append-nil lines)
log_done bytes lines (b ∷ rest) none l = let k = eqb-true (suc (length rest)) 0 none in absurd (omega arith)

-- ---- the line of a fault

pub all_bytes : (bytes : List ℕ) → ((k : ℕ) → get_or bytes k 0 < 256) → AllBytes bytes
all_bytes [] h = tt
all_bytes (b ∷ bytes) h = (h 0, all_bytes bytes (λ k. h (suc k)))

pub bad_line : (text : List ℕ) (left : ℕ) → ((k : ℕ) → get_or text k 0 < 256) → log_from text ≡ Err left
    → IsFirstBadLine IsLog text (line_of_place (length text - left) text)
bad_line text left fits e = first_bad_line IsLog text (length text - left) (all_bytes text fits) (first_bad IsLog log_from log_reads text left e)
