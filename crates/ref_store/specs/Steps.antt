-- What a call that changes refs did to a store, said of what is seen of it.
use Rattle.std.specs.Prelude.{◌≡◌, false, Result}
use Rattle.std.specs.FinMap as map
use Rattle.std.specs.Ordering.{eq_by_cmp}
use Rattle.seq_base.specs.Words.{Path}
use Rattle.seq_base.specs.World.{path_cmp}
use Rattle.seq_outside.specs.Seen.{Seen}
use Rattle.seq_outside.specs.Turns.{Turn, Turns}
use Rattle.seq_outside.specs.declared.halt.Halt.{Halt}

-- it answered and left what the step is to
abbrev pub Does : {E X : Type 0} → Result X (Halt E) → Turn E X → Seen → Seen → Type 0
Does result step old new = Turns (λ x. x) result (step old.content) new.content

-- such files stay
abbrev pub StaysWhere : (Path → Type 0) → Seen → Seen → Type 0
StaysWhere those old new = (path : Path) → those path → map.get new.content path ≡ map.get old.content path

-- all files but one stay
abbrev pub StaysBut : Path → Seen → Seen → Type 0
StaysBut changed old new = (path : Path) → eq_by_cmp path_cmp path changed ≡ false → map.get new.content path ≡ map.get old.content path
