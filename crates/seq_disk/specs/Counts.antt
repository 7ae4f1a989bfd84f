-- What is seen of a store on disk, which does not tell what it holds.
use Rattle.std.specs.Prelude.{ℕ}
use Rattle.std.specs.FinMap as map
use Rattle.seq_outside.specs.Seen.{Seen}

-- how often it failed, and how many of its puts were blocked
abbrev pub counts : ℕ → ℕ → Seen
counts faults blocked = record { content = map.empty; faults = faults; blocked = blocked; lender = 0; beneath = map.empty; beneath_blocked = 0 }
