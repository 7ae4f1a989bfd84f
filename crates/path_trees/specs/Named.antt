-- The map of a tree and of a commit's tree, or what is lacked.
use Rattle.std.specs.Prelude.{Result}
use Rattle.object_text.specs.Store.{oversize_at}
use Rattle.object_text.specs.TreeMaps.{MapFault, BadTree, TooDeep, map_at}
use Rattle.objects.specs.Named.{commit_named, no_object}
use Rattle.seq_base.specs.PathMaps.{Entries}
use Rattle.seq_base.specs.Words.{Id}
use Rattle.seq_base.specs.World.{World}
use Rattle.seq_outside.specs.Halts.{◌>>=◌, for_reason}
use Rattle.seq_outside.specs.declared.lack.Lack.{Lack}
use Rattle.seq_outside.specs.declared.lack.Lack.TheVariants.{Limit}
use Rattle.seq_outside.specs.declared.limit.LimitWhat.TheVariants.{TreeDepth}

-- a tree that cannot be read, or lies too deep
abbrev pub no_map : World → MapFault → Lack
no_map w (BadTree id) = no_object id (oversize_at w id)
no_map w TooDeep = Limit TreeDepth 257

-- the map of a tree
unfoldable pub map_named : World → Id → Result Entries Lack
map_named w id = for_reason (no_map w) (map_at w id)

-- the map of a commit's tree
unfoldable pub commit_map : World → Id → Result Entries Lack
commit_map w id = do
  commit ← commit_named w id
  map_named w commit.tree
