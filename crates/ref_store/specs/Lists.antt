-- The refs below a folder, by their names in byte order (git-for-each-ref(1)).
use Rattle.std.specs.Prelude.{Bool, not, is_some, ◌&&◌, if◌then◌else◌, List, [], ◌∷◌, drop, filter, map, Option, Some, None, Result, Ok}
use Rattle.std.specs.BTreeMap.{insert_entry, is_at}
use Rattle.std.specs.Map.{lookup, remove_entry}
use Rattle.seq_base.specs.RefNames.{is_ref_name}
use Rattle.seq_base.specs.Words.{Id, Name}
use Rattle.seq_base.specs.World.{World, is_below, path_cmp}
use Rattle.seq_outside.specs.Halts.{◌>>=◌}
use Rattle.seq_outside.specs.Store.{files_below}
use Rattle.ref_text.specs.ReadPacked.{Ref}
use Rattle.ref_text.specs.Refs.{ref_path}
use Rattle.ref_store.specs.Values.{end_at, packed_at, value_by}
use Rattle.ref_store.specs.declared.fault.RefFault.{RefFault}

-- the value that a name has among these
abbrev pub value_among : List Ref → Name → Option Id
value_among refs name = lookup (is_at (path_cmp name)) refs

-- a packed ref is added, if it is below the folder, and none of its name was before
abbrev pub with_line : Name → List Ref → Ref → List Ref
with_line folder refs r = if is_below folder r.0 && not (is_some (value_among refs r.0)) then insert_entry path_cmp refs r.0 r.1 else refs

-- the packed refs below the folder are added
abbrev pub with_packed : Name → List Ref → List Ref → List Ref
with_packed folder refs [] = refs
with_packed folder refs (r ∷ lines) = with_packed folder (with_line folder refs r) lines

-- a name has this value, or none, whatever it had before
abbrev pub with_value : List Ref → Name → Option Id → List Ref
with_value refs name (Some id) = insert_entry path_cmp refs name id
with_value refs name None = remove_entry (is_at (path_cmp name)) refs

unfoldable pub is_named : Name → Bool
is_named name = is_ref_name name

-- the names of refs whose files are below the folder
abbrev pub loose_names : World → Name → List Name
loose_names w folder = filter is_named (map (drop 5) (files_below w (ref_path folder)))

-- each of these names has its value, by these packed refs
unfoldable pub with_values : World → List Ref → List Ref → List Name → Result (List Ref) RefFault
with_values w packed refs [] = Ok refs
with_values w packed refs (name ∷ names) = do
  end ← end_at w name
  with_values w packed (with_value refs name (value_by packed end)) names

-- the refs below a folder: the packed ones, over which the loose ones go
unfoldable pub list_at : World → Name → Result (List Ref) RefFault
list_at w folder = do
  packed ← packed_at w
  with_values w packed (with_packed folder [] packed) (loose_names w folder)
