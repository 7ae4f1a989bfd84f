-- The history of some commits, as a walk reads it: a commit, then all that its parents come from, in their order, each commit once
-- (git-rev-list(1), "reachable").
use Rattle.std.specs.Prelude.{ℕ, zero, suc, ◌+◌, nat_le, if◌then◌else◌, List, [], ◌∷◌, ◌++◌, length, Result, Ok, Err}
use Rattle.object_text.specs.declared.commit.Commit.{Commit as CommitFields}
use Rattle.objects.specs.Named.{commit_named}
use Rattle.merge_base.specs.declared.graph.Node.{Node}
use Rattle.merge_base.specs.Graphs.{has, limit}
use Rattle.message_text.specs.Paragraphs.{subject}
use Rattle.seq_base.specs.Words.{Id}
use Rattle.seq_base.specs.World.{World}
use Rattle.seq_outside.specs.Halts.{◌>>=◌, stop_if}
use Rattle.seq_outside.specs.declared.lack.Lack.{Lack}
use Rattle.seq_outside.specs.declared.lack.Lack.TheVariants as lack
use Rattle.seq_outside.specs.declared.limit.LimitWhat.TheVariants.{Commits}

-- what a graph keeps of a commit
abbrev pub node_of : Id → CommitFields → Node
node_of id commit = record { id = id; parents = commit.parents; tree = commit.tree; subject = subject commit.message }

-- A commit that is read. A graph may have so many commits beside those that wait for their parents.
unfoldable pub entered : World → ℕ → List Node → Id → Result Node Lack
entered w room graph id = do
  commit ← commit_named w id
  fits ← stop_if (nat_le room (length graph)) (lack.Limit Commits (limit + 1))
  Ok (node_of id commit)

-- A commit behind all others. One that is there already came behind itself, and is bad.
unfoldable pub joined : List Node → Node → Result (List Node) Lack
joined graph node = if has graph node.id then Err (lack.Object node.id) else Ok (graph ++ node ∷ [])

-- a walk from some commits, one after another
unfoldable pub each : (List Node → Id → Result (List Node) Lack) → List Node → List Id → Result (List Node) Lack
each walk graph [] = Ok graph
each walk graph (id ∷ ids) = do
  more ← walk graph id
  each walk more ids

-- a graph with the history of one more commit, which stands behind its parents
unfoldable pub walked : World → ℕ → List Node → Id → Result (List Node) Lack
walked w zero graph id = if has graph id then Ok graph else (entered w zero graph id >>= λ node. joined graph node)
walked w (suc room) graph id =
    if has graph id then Ok graph
    else (entered w (suc room) graph id >>= λ node. each (walked w room) graph node.parents >>= λ more. joined more node)

-- the history of some commits
unfoldable pub loaded : World → List Id → Result (List Node) Lack
loaded w tips = each (walked w limit) [] tips
