-- The first paths of maps that are gone through side by side.
use Rattle.std.specs.Prelude.{ℕ, if◌then◌else◌, List, [], ◌∷◌, Option, Some, None}
use Rattle.std.specs.Str.{bytes_eq}
use Rattle.seq_base.specs.declared.map.Entry.{Entry}
use Rattle.seq_base.specs.PathMaps.{is_less}
use Rattle.tree_merge.specs.Plans.{Entries}

-- the first path
abbrev pub head_path : Entries → Option (List ℕ)
head_path [] = None
head_path (e ∷ es) = Some e.0

-- the lesser of two paths, either of which may be missing
abbrev pub lesser : Option (List ℕ) → Option (List ℕ) → Option (List ℕ)
lesser None b = b
lesser (Some a) None = Some a
lesser (Some a) (Some b) = if is_less b a then Some b else Some a

-- the entry of the first path, where that is this one
abbrev pub head_entry : Entries → List ℕ → Option Entry
head_entry [] path = None
head_entry (e ∷ es) path = if bytes_eq e.0 path then Some e.1 else None

-- what is left behind a path that may stand first
abbrev pub after : Entries → List ℕ → Entries
after [] path = []
after (e ∷ es) path = if bytes_eq e.0 path then es else e ∷ es
