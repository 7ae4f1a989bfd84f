-- Update-ref lines (git-rebase(1), "--update-refs": "Automatically force-update any branches that point to commits that are being rebased").
use Rattle.std.specs.Prelude.{◌≡◌, ℕ, Bool, true, false, not, ◌&&◌, ◌||◌, if◌then◌else◌, List, [], ◌∷◌, ◌++◌, filter, map}
use Rattle.std.specs.List.Sorted.{IsPermutation, IsSorted}
use Rattle.std.specs.Cmp.Lexicographic.{slice_cmp}
use Rattle.std.specs.Ordering.{nat_cmp, ordering_then}
use Rattle.std.specs.declared.cmp.Ordering.{Ordering}
use Rattle.hex.specs.Hex.{encode_lower}
use Rattle.merge_base.specs.Graphs.{is_among}
use Rattle.todo_text.specs.declared.line.Line.{Line}
use Rattle.todo_text.specs.declared.line.Line.TheVariants.{Pick, Exec, Break, Noop, Label, Reset, Merge, UpdateRef}
use Rattle.todo_plan.specs.Groups.{begins, goes_on, if_any}
use Rattle.todo_plan.specs.Told.{rev_of}

-- a branch and the hex digits of its commit
abbrev pub Branch : Type 0
Branch = List ℕ × List ℕ

-- the update-ref lines of a group with these commits
abbrev pub update_lines : List Branch → List (List ℕ) → List Line
update_lines branches revs = map (λ b. UpdateRef b.0) (filter (λ b. is_among revs b.1) branches)

abbrev pub group_revs : Bool → List (List ℕ) → List (List ℕ) → List (List ℕ)
group_revs more revs these = if more then revs ++ these else these

-- Lines with update-ref lines behind each group. The flag says whether the line before them is in a group, and beside it stand the commits
-- of that group so far.
abbrev pub behind_each : List Branch → Bool → List (List ℕ) → List Line → List Line
behind_each branches inside revs [] = if_any inside (update_lines branches revs)
behind_each branches inside revs (line ∷ lines) =
    if_any (inside && not (goes_on line)) (update_lines branches revs)
    ++ line ∷ behind_each branches (begins line || inside && goes_on line) (group_revs (goes_on line) revs (rev_of line)) lines

-- each branch with the digits of its commit
abbrev pub branch_at : List ℕ × List ℕ → Branch
branch_at named = (named.0, encode_lower named.1)

-- by the bytes of their names
abbrev pub by_name : Branch → Branch → Ordering
by_name a b = ordering_then (slice_cmp nat_cmp a.0 b.0) (slice_cmp nat_cmp a.1 b.1)

-- the lines with update-ref lines, those of a group in byte order
pub record HasUpdateRefs (refs : List (List ℕ × List ℕ)) (lines all : List Line) : Type 0 where
  pub branches : List Branch
  pub same : IsPermutation (map branch_at refs) branches
  pub order : IsSorted by_name branches
  pub is : all ≡ behind_each branches false [] lines

abbrev pub is_update : Line → Bool
is_update (Pick k rev note) = false
is_update (Exec command) = false
is_update Break = false
is_update Noop = false
is_update (Label name) = false
is_update (Reset name note) = false
is_update (Merge how head note) = false
is_update (UpdateRef name) = true

abbrev pub without_updates : List Line → List Line
without_updates lines = filter (λ line. not (is_update line)) lines
