-- A ref that is deleted.
use Rattle.std.proofs.Common.{ℕ, Bool, true, false, cond, not, List, [], ◌∷◌}
use Rattle.std.specs.Str.{bytes_eq}
use Rattle.ref_text.specs.Packed.{ArePackedNames}
use Rattle.ref_text.specs.Refs.{without}

pub names_without : (name : List ℕ) (refs : List (List ℕ × List ℕ)) → ArePackedNames refs → ArePackedNames (without name refs)
names_without name [] h = tt
names_without name (r ∷ refs) h = at (bytes_eq r.0 name) (names_without name refs h.1)
  where
    at : (t : Bool) → ArePackedNames (without name refs) → ArePackedNames (cond (not t) (r ∷ without name refs) (without name refs))
    at true later = later
    at false later = (h.0, later)
