-- Blanks, which part the words of a line.
use Rattle.std.specs.Prelude.{ℕ, Bool, ◌||◌, ◌==◌}

-- SP or TAB
abbrev pub is_blank : ℕ → Bool
is_blank b = b == 32 || b == 9
