-- What the lines of state files say (git-rebase(1)).
use Rattle.std.specs.Prelude.{ℕ, ◌-◌, Bool, true, not, ◌&&◌, ◌==◌, if◌then◌else◌, List, [], ◌∷◌, ◌++◌, codes, Option, Some, None, Result, Ok, Err}
use Rattle.std.specs.List.{AllByRecursion, cons_option, flat_map, list_all}
use Rattle.std.specs.Option.{option_map}
use Rattle.std.specs.Str.{bytes_eq}
use Rattle.grammar.specs.Readers.{literal_at}
use Rattle.ident_text.specs.Ids.{id_from}
use Rattle.message_text.specs.declared.chain.ChainKind.{ChainKind}
use Rattle.message_text.specs.declared.chain.ChainKind.TheVariants as chain
use Rattle.message_text.specs.Kinds.{is_first}
use Rattle.seq_base.specs.Ids.{IsId}
use Rattle.seq_base.specs.PathMaps.{is_less}
use Rattle.seq_base.specs.RefNames.{is_ref_name}
use Rattle.seq_base.specs.Words.{Id, Name, Text}
use Rattle.state_text.specs.declared.control.RefUpdate.{RefUpdate}
use Rattle.state_text.specs.Controls.{AreOrdered, IsChain, IsTypedUpdate, IsUpdate}
use Rattle.state_text.specs.Texts.{chain_line, id_line, label_line, pair_line, update_lines, zeros}

-- ---- the lines that a text ends, each without its line feed

abbrev pub lines_from : List Text → Text → Text → List Text
lines_from ls l [] = ls
lines_from ls l (b ∷ bytes) = if b == 10 then lines_from (ls ++ l ∷ []) [] bytes else lines_from ls (l ++ b ∷ []) bytes

abbrev pub lines_of : Text → List Text
lines_of bytes = lines_from [] [] bytes

-- ---- ids

abbrev pub read_id : Result (Id × Text) ℕ → Option Id
read_id (Ok x) = Some x.0
read_id (Err left) = None

-- the id whose digits stand at the front
abbrev pub id_at : Text → Option Id
id_at l = read_id (id_from l)

abbrev pub ids_text : List Id → Text
ids_text ids = flat_map id_line ids

-- ---- pairs of ids

abbrev pub IsIdPair : Id × Id → Type 0
IsIdPair pair = IsId pair.0 × IsId pair.1

-- the second id stands behind one byte
abbrev pub pair_behind : Id → Text → Option (Id × Id)
pair_behind old [] = None
pair_behind old (b ∷ new) = option_map (λ (id : Id). (old, id)) (id_at new)

abbrev pub read_pair : Result (Id × Text) ℕ → Option (Id × Id)
read_pair (Ok x) = pair_behind x.0 x.1
read_pair (Err left) = None

abbrev pub pair_at : Text → Option (Id × Id)
pair_at l = read_pair (id_from l)

abbrev pub pairs_text : List (Id × Id) → Text
pairs_text pairs = flat_map pair_line pairs

-- ---- what stands behind a key

abbrev pub read_behind : Result (Unit {0} × Text) ℕ → Option Text
read_behind (Ok x) = Some x.1
read_behind (Err left) = None

abbrev pub behind : Text → Text → Option Text
behind key l = read_behind (literal_at key l)

-- ---- labels

abbrev pub label_at : Text → Option Name
label_at l = if is_ref_name l then behind (codes "refs/rewritten/") l else None

abbrev pub labels_text : List Name → Text
labels_text labels = flat_map label_line labels

-- ---- the chain

abbrev pub IsItem : ChainKind × Id → Type 0
IsItem item = IsId item.1

abbrev pub item_of : ChainKind → Option Id → Option (ChainKind × Id)
item_of kind None = None
item_of kind (Some id) = Some (kind, id)

abbrev pub id_behind : Option Text → Option Id
id_behind None = None
id_behind (Some l) = id_at l

abbrev pub item_behind : ChainKind → Text → Text → Option (ChainKind × Id)
item_behind kind key l = item_of kind (id_behind (behind key l))

abbrev pub or_item : Option (ChainKind × Id) → Option (ChainKind × Id) → Option (ChainKind × Id)
or_item None other = other
or_item (Some item) other = Some item

abbrev pub fixup_at : Text → Option (ChainKind × Id)
fixup_at l =
    or_item (item_behind chain.Fixup (codes "fixup ") l)
    (or_item (item_behind chain.Keep (codes "fixup -C ") l) (item_behind chain.KeepEdit (codes "fixup -c ") l))

abbrev pub item_at : Text → Option (ChainKind × Id)
item_at l = or_item (item_behind chain.First (codes "pick ") l) (or_item (item_behind chain.Squash (codes "squash ") l) (fixup_at l))

abbrev pub goes_on : ChainKind × Id → Bool
goes_on item = not (is_first item.0)

-- the first commit stands first, and only there
abbrev pub is_chain : List (ChainKind × Id) → Bool
is_chain [] = true
is_chain (item ∷ items) = is_first item.0 && list_all goes_on items

abbrev pub AreItems : List (ChainKind × Id) → Type 0
AreItems items = AllByRecursion IsItem items × IsChain items

abbrev pub chain_of : List (ChainKind × Id) → List (ChainKind × Id)
chain_of items = if is_chain items then items else []

abbrev pub items_text : List (ChainKind × Id) → Text
items_text items = flat_map chain_line items

-- ---- refs to update

-- an id of zeros alone is no value
abbrev pub value_of : Id → Option Id
value_of id = if bytes_eq id zeros then None else Some id

abbrev pub update_of : Name → Option Id → Option Id → Option RefUpdate
update_of name None new = None
update_of name (Some expected) None = None
update_of name (Some expected) (Some new) = Some (record { name = name; expected = value_of expected; new = value_of new })

-- three lines: a name, and two ids
abbrev pub update_at : Text → Text → Text → Option RefUpdate
update_at name expected new = if is_ref_name name then update_of name (id_at expected) (id_at new) else None

abbrev pub updates_at : List Text → List RefUpdate
updates_at [] = []
updates_at (a ∷ []) = []
updates_at (a ∷ b ∷ []) = []
updates_at (a ∷ b ∷ c ∷ ls) = cons_option (update_at a b c) (updates_at ls)

-- each name stands before the next
abbrev pub is_before_first : Name → List RefUpdate → Bool
is_before_first name [] = true
is_before_first name (u ∷ updates) = is_less name u.name

abbrev pub are_ordered : List RefUpdate → Bool
are_ordered [] = true
are_ordered (u ∷ updates) = is_before_first u.name updates && are_ordered updates

abbrev pub ordered_of : List RefUpdate → List RefUpdate
ordered_of updates = if are_ordered updates then updates else []

pub record AreUpdates (us : List RefUpdate) : Type 0 where
  pub updates : AllByRecursion IsUpdate us
  pub typed : AllByRecursion IsTypedUpdate us
  pub ordered : AreOrdered us

abbrev pub updates_text : List RefUpdate → Text
updates_text updates = flat_map update_lines updates
