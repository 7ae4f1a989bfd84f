-- Lines in segments: a line that stays, and behind it what was moved there.
use Rattle.std.specs.Prelude.{◌≡◌, ℕ, zero, suc, ◌<◌, ◌≤◌, true, false, List, [], ◌∷◌, ◌++◌, length, slice_index_or}
use Rattle.std.specs.List.{list_any}
use Rattle.todo_plan.specs.declared.segments.Placed.{Placed}
use Rattle.todo_plan.specs.declared.segments.Places.{Places}
use Rattle.todo_plan.specs.Autosquash.{belongs}

-- the lines of all segments
abbrev pub joined : List (List Placed) → List Placed
joined [] = []
joined (segment ∷ segments) = segment ++ joined segments

-- the last segment with a line that belongs to a pick
abbrev pub IsHome : ℕ → List (List Placed) → ℕ → Type 0
IsHome n [] home = ⊥
IsHome n (segment ∷ segments) zero = (list_any (belongs n) segment ≡ true) × (list_any (belongs n) (joined segments) ≡ false)
IsHome n (segment ∷ segments) (suc home) = IsHome n segments home

-- the home of each pick so far; no line belongs to a later one
pub record AreSegments (segments : List (List Placed)) (homes : List ℕ) : Type 0 where
  pub home : (n d : ℕ) → n < length homes → IsHome n segments (slice_index_or homes n d)
  pub later : (n : ℕ) → length homes ≤ n → list_any (belongs n) (joined segments) ≡ false

-- ---- the lines so far

abbrev pub all_of : Places → List Placed
all_of places = joined places.segments.items

-- how many of them are picks of the range
abbrev pub picks_of : Places → ℕ
picks_of places = length places.homes.items

abbrev pub InSegments : Places → Type 0
InSegments places = AreSegments places.segments.items places.homes.items
