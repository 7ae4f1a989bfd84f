-- The shell reads a quoted path as the path.
use Rattle.std.proofs.Common.{◌≡◌, ℕ, ◌==◌, Bool, true, false, List, [], ◌∷◌, ◌++◌, Some, refl, sym, ap, subst, eqb-true, ◌∙◌}
use Rattle.std.specs.List.{flat_map}
use Rattle.std.specs.Option.{option_map}
use Rattle.driver_pool.specs.Commands.{quoted, quoted_byte}
use Rattle.driver_pool.specs.ShellWords.{word_of}
use Rattle.driver_pool.specs.ShellWords.Mode.{plain, in_quotes}

plain_byte : (b : ℕ) → (b == 39) ≡ false → (b == 33) ≡ false → quoted_byte b ≡ b ∷ []
plain_byte b inside other = rw (inside, other) refl

step : (b : ℕ) (rest : List ℕ) → (b == 39) ≡ false → word_of in_quotes (b ∷ rest) ≡ option_map (λ (r : List ℕ). b ∷ r) (word_of in_quotes rest)
step b rest inside = rw inside refl

between : (path : List ℕ) → word_of in_quotes (flat_map quoted_byte path ++ 39 ∷ []) ≡ Some path
between [] = refl
between (b ∷ path) = at (b == 39) (b == 33) refl refl (between path)
  where
    at : (quote mark : Bool) → (b == 39) ≡ quote → (b == 33) ≡ mark
        → word_of in_quotes (flat_map quoted_byte path ++ 39 ∷ []) ≡ Some path → word_of in_quotes (flat_map quoted_byte (b ∷ path) ++ 39 ∷ []) ≡ Some (b ∷ path)
    at true mark is other later =
        subst (λ (c : ℕ). word_of in_quotes (flat_map quoted_byte (c ∷ path) ++ 39 ∷ []) ≡ Some (c ∷ path)) (sym (eqb-true b 39 is))
        (ap (option_map (λ (rest : List ℕ). 39 ∷ rest)) later)
    at false true inside is later =
        subst (λ (c : ℕ). word_of in_quotes (flat_map quoted_byte (c ∷ path) ++ 39 ∷ []) ≡ Some (c ∷ path)) (sym (eqb-true b 33 is))
        (ap (option_map (λ (rest : List ℕ). 33 ∷ rest)) later)
    at false false inside other later =
        ap (λ (front : List ℕ). word_of in_quotes ((front ++ flat_map quoted_byte path) ++ 39 ∷ [])) (plain_byte b inside other)
        ∙ step b (flat_map quoted_byte path ++ 39 ∷ []) inside
        ∙ ap (option_map (λ (rest : List ℕ). b ∷ rest)) later

pub read_quoted : (path : List ℕ) → word_of plain (quoted path) ≡ Some path
read_quoted path = between path
