-- Lines of a log, counted from the last.
use Rattle.std.proofs.Common.{◌≡◌, ℕ, zero, suc, ◌-◌, ◌<◌, ◌≤◌, List, [], ◌∷◌, length, get_or, Some, None, refl, sym, ap, ◌∙◌, arith}
use Rattle.std.specs.Prelude.{reverse, slice_get}
use Rattle.std.specs.Option.{option_map}
use Rattle.std.proofs.lemmas.List.{get_or-reverse, length-reverse}
use Rattle.ref_text.specs.declared.log.LogLine.{LogLine}
use Rattle.rev_names.specs.Bases.{new_before}

there : (lines : List LogLine) (n : ℕ) (line : LogLine) → n < length lines → slice_get lines n ≡ Some (get_or lines n line)
there [] n line h = absurd (omega (arith, h))
there (x ∷ lines) zero line h = refl
there (x ∷ lines) (suc n) line h = there lines n line (omega (arith, h))

past : (lines : List LogLine) (n : ℕ) → length lines ≤ n → slice_get lines n ≡ None
past [] n h = refl
past (x ∷ lines) zero h = absurd (omega (arith, h))
past (x ∷ lines) (suc n) h = past lines n (omega (arith, h))

pub entry_there : (lines : List LogLine) (n : ℕ) (line : LogLine) → n < length lines → line ≡ get_or lines (length lines - 1 - n) line
    → new_before n lines ≡ Some line.new
entry_there lines n line h is =
    ap (option_map (λ (l : LogLine). l.new)) (there (reverse lines) n line (omega (arith, h, length-reverse lines)) ∙ ap Some (get_or-reverse lines n line h ∙ sym is))

pub no_entry : (lines : List LogLine) (n : ℕ) → length lines ≤ n → new_before n lines ≡ None
no_entry lines n h = ap (option_map (λ (l : LogLine). l.new)) (past (reverse lines) n (omega (arith, h, length-reverse lines)))

pub ruleset entry_steps = (entry_there, no_entry)
