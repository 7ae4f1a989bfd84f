-- HEAD's commit, and index and files beside it, as a line finds them.
use Rattle.std.specs.Prelude.{nat_lt, if◌then◌else◌, List, length, Result, Ok, Err}
use Rattle.index_file.specs.Index.{index_at}
use Rattle.index_file.specs.declared.entry.IndexEntry.{IndexEntry}
use Rattle.index_file.specs.declared.fault.IndexFault.{IndexFault}
use Rattle.path_trees.specs.Named.{commit_map}
use Rattle.ref_store.specs.Values.{value_at}
use Rattle.ref_store.specs.declared.fault.RefFault.{RefFault}
use Rattle.ref_text.specs.Refs.{head_name}
use Rattle.seq_base.specs.PathMaps.{Entries}
use Rattle.seq_base.specs.Words.{Id}
use Rattle.seq_base.specs.World.{World}
use Rattle.seq_model.specs.Basis.{index_limit, unmerged}
use Rattle.seq_model.specs.declared.reason.Reason.{Reason}
use Rattle.seq_model.specs.declared.reason.Reason.TheVariants.{BadHead, BadIndex, Limit}
use Rattle.seq_outside.specs.Halts.{◌>>=◌, for_reason, or_stop, stop_found}
use Rattle.seq_outside.specs.declared.limit.LimitWhat.TheVariants.{IndexEntries}
use Rattle.stage_index.specs.Changes.{dirty}
use Rattle.line_steps.specs.Places.{reason_of}
pub use Rattle.line_steps.specs.declared.unclean.Unclean.{Unclean}
pub use Rattle.line_steps.specs.declared.unclean.Unclean.TheVariants.{IsUnread, IsChanged}

-- ---- HEAD

-- whatever is at fault, HEAD is bad
abbrev pub bad_head : RefFault → Reason
bad_head fault = BadHead

-- the commit that HEAD is at
unfoldable pub head_found : World → Result Id Reason
head_found w = do
  value ← for_reason bad_head (value_at w head_name)
  or_stop value BadHead

-- ---- index and files

abbrev pub or_bad_index : Result (List IndexEntry) IndexFault → Result (List IndexEntry) Reason
or_bad_index (Ok entries) = Ok entries
or_bad_index (Err fault) = Err BadIndex

-- the entries of the index
unfoldable pub index_found : World → Result (List IndexEntry) Reason
index_found w = do
  entries ← or_bad_index (index_at w)
  if nat_lt index_limit (length entries) then Err (Limit IndexEntries (length entries)) else Ok entries

-- the map of a commit
unfoldable pub map_found : World → Id → Result Entries Reason
map_found w id = for_reason reason_of (commit_map w id)

-- files are those of the index, and that is a commit's
unfoldable pub unchanged_at : World → List IndexEntry → Id → Result (Unit {0}) Unclean
unchanged_at w index head = do
  ours ← for_reason IsUnread (map_found w head)
  stop_found (dirty w index ours) IsChanged

-- index and files are those of a commit
unfoldable pub clean_at : World → Id → Result (Unit {0}) Unclean
clean_at w head = do
  index ← for_reason IsUnread (index_found w)
  _ ← stop_found (unmerged index) IsChanged
  unchanged_at w index head
