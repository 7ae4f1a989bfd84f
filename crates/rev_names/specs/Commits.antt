-- The commit that an object leads to, and those before it (gitrevisions(7), "<rev>^<n>", "<rev>~<n>" and "<rev>^{<type>}").
use Rattle.std.specs.Prelude.{ℕ, zero, suc, ◌-◌, ◌==◌, if◌then◌else◌, List, [], ◌∷◌, slice_get, Result, Ok, Err}
use Rattle.object_text.specs.Store.{named_of}
use Rattle.object_text.specs.declared.object.Kind.{Kind}
use Rattle.object_text.specs.declared.object.Kind.TheVariants.{Blob, Tree, Commit, Tag}
use Rattle.objects.specs.Named.{commit_named, commit_spelled, object_named}
use Rattle.rev_text.specs.declared.rev.Step.{Step}
use Rattle.rev_text.specs.declared.rev.Step.TheVariants.{Parent, Ancestor}
use Rattle.seq_base.specs.Words.{Id, Text}
use Rattle.seq_base.specs.World.{World}
use Rattle.seq_outside.specs.Halts.{◌>>=◌, for_reason, or_stop}
use Rattle.rev_names.specs.Faults.{bad_object}
use Rattle.rev_names.specs.declared.commit.FoundCommit.{FoundCommit}
use Rattle.rev_names.specs.declared.fault.RevFault.{RevFault}
use Rattle.rev_names.specs.declared.fault.RevFault.TheVariants.{NotACommit, NoParent, BadObject}

-- ---- tags

-- a commit by its id
unfoldable pub spelled_at : Id → Text → Result FoundCommit RevFault
spelled_at id content = do
  commit ← for_reason bad_object (commit_spelled id content)
  Ok (record { id = id; commit = commit })

-- the object that a tag names
unfoldable pub tagged : Id → Text → Result Id RevFault
tagged id content = or_stop (named_of content) (BadObject id)

-- the commit that an object is, or the one behind the object that it tags
abbrev pub commit_or_behind : (Id → Result FoundCommit RevFault) → Id → Kind → Text → Result FoundCommit RevFault
commit_or_behind behind id Commit content = spelled_at id content
commit_or_behind behind id Tag content = tagged id content >>= behind
commit_or_behind behind id Blob content = Err NotACommit
commit_or_behind behind id Tree content = Err NotACommit

-- the commit that an object leads to through at most so many tags
unfoldable pub found_within : ℕ → World → Id → Result FoundCommit RevFault
found_within zero w id = do
  object ← for_reason bad_object (object_named w id)
  commit_or_behind (λ _. Err NotACommit) id object.kind object.bytes
found_within (suc n) w id = do
  object ← for_reason bad_object (object_named w id)
  commit_or_behind (found_within n w) id object.kind object.bytes

-- ---- steps

-- a commit that is no tag's
unfoldable pub found_at : World → Id → Result FoundCommit RevFault
found_at w id = do
  commit ← for_reason bad_object (commit_named w id)
  Ok (record { id = id; commit = commit })

-- a parent, counted from 1
unfoldable pub parent_at : World → List Id → ℕ → Result FoundCommit RevFault
parent_at w parents n = do
  id ← or_stop (slice_get parents (n - 1)) NoParent
  found_at w id

-- so many times the first parent
unfoldable pub ancestor_at : ℕ → World → FoundCommit → Result FoundCommit RevFault
ancestor_at zero w found = Ok found
ancestor_at (suc n) w found = do
  parent ← parent_at w found.commit.parents 1
  ancestor_at n w parent

-- the parent of number 0 is the commit itself
unfoldable pub step_to : World → FoundCommit → Step → Result FoundCommit RevFault
step_to w found (Parent n) = if n == 0 then Ok found else parent_at w found.commit.parents n
step_to w found (Ancestor n) = ancestor_at n w found

unfoldable pub steps_to : World → FoundCommit → List Step → Result FoundCommit RevFault
steps_to w found [] = Ok found
steps_to w found (step ∷ steps) = do
  next ← step_to w found step
  steps_to w next steps

-- the commit that an object leads to, and steps from there
unfoldable pub commit_behind : World → Id → List Step → Result Id RevFault
commit_behind w id steps = do
  found ← found_within 16 w id
  last ← steps_to w found steps
  Ok last.id
