-- Refs that are chosen keep their names.
use Rattle.std.proofs.Common.{Bool, true, false, cond, List, [], ◌∷◌}
use Rattle.std.specs.Prelude.{filter}
use Rattle.ref_text.specs.Packed.{ArePackedNames}
use Rattle.seq_base.specs.Words.{Id, Name}

pub filtered_names : (test : Name × Id → Bool) (refs : List (Name × Id)) → ArePackedNames refs → ArePackedNames (filter test refs)
filtered_names test [] names = tt
filtered_names test (ref ∷ refs) names = at (test ref) (filtered_names test refs names.1)
  where
    at : (b : Bool) → ArePackedNames (filter test refs) → ArePackedNames (cond b (ref ∷ filter test refs) (filter test refs))
    at true later = (names.0, later)
    at false later = later
