-- What a sink in memory tells.
use Rattle.std.specs.Prelude.{List, ℕ}

-- the bytes that were written, and how often a write has failed
pub record Printed : Type 0 where
  pub bytes : List ℕ
  pub faults : ℕ
