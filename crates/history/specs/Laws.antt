-- What it is that a graph holds the history of some commits, and a list the commits between some tips (git-rev-list(1), "Commit Limiting").
use Rattle.std.specs.Prelude.{◌≡◌, ◌↔◌, true, false, Contains, List, [], ◌∷◌, Ok}
use Rattle.object_text.specs.declared.commit.Commit.{Commit as CommitFields}
use Rattle.objects.specs.Named.{commit_named}
use Rattle.merge_base.specs.declared.graph.Node.{Node}
use Rattle.merge_base.specs.Graphs.{has, is_among, parents_of}
use Rattle.merge_base.specs.Ranges.{Reached}
use Rattle.seq_base.specs.Words.{Id}
use Rattle.seq_base.specs.World.{World}
use Rattle.history.specs.Loads.{node_of}

-- the graph tells of a commit what a store has of it
abbrev pub IsCommitIn : World → Node → Type 0
IsCommitIn w node = (commit : CommitFields) × (commit_named w node.id ≡ Ok commit) × (node ≡ node_of node.id commit)

-- exactly the tips and their ancestors, each as a store has it
pub record IsHistory (w : World) (tips : List Id) (graph : List Node) : Type 0 where
  pub commits : (node : Node) → Contains graph node → IsCommitIn w node
  pub reached : (id : Id) → (has graph id ≡ true) ↔ Reached graph tips id

-- no commit stands twice, and none of its parents stands behind it
abbrev pub AreParentsFirst : List Node → List Id → Type 0
AreParentsFirst graph [] = Unit {0}
AreParentsFirst graph (id ∷ ids) =
    (is_among ids id ≡ false) × ((parent : Id) → Contains (parents_of graph id) parent → is_among (id ∷ ids) parent ≡ false) × AreParentsFirst graph ids

-- exactly the commits that some tips reach and the excluded ones do not, each once and behind its parents
pub record IsRange (graph : List Node) (excluded tips ids : List Id) : Type 0 where
  pub each : (id : Id) → (is_among ids id ≡ true) ↔ (Reached graph tips id × (Reached graph excluded id → ⊥))
  pub order : AreParentsFirst graph ids
