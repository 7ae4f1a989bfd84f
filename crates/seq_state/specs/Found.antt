-- The files of a list that are found.
use Rattle.std.specs.Prelude.{◌≡◌, ◌⊎◌, ◌++◌, ◌-◌, true, [], ◌∷◌, length, map as list_map, take, List, None, Result, Ok}
use Rattle.std.specs.FinMap as map
use Rattle.message_text.specs.Chain.{IsChain}
use Rattle.message_text.specs.declared.chain.ChainItem.{ChainItem}
use Rattle.message_text.specs.declared.chain.ChainKind.{ChainKind}
use Rattle.objects.specs.Named.{commit_named}
use Rattle.seq_base.specs.StatePaths.{is_state_path}
use Rattle.seq_base.specs.Words.{Id, Path}
use Rattle.seq_base.specs.World.{World}
use Rattle.state_text.specs.States.{state_files}
use Rattle.state_text.specs.Stops.{is_listed, stop_writes}
use Rattle.state_text.specs.declared.control.Control.{Control}
use Rattle.seq_outside.specs.Halts.{◌>>=◌}
use Rattle.seq_outside.specs.declared.lack.Lack.{Lack}
use Rattle.seq_outside.specs.declared.write.Write.{Write}
use Rattle.seq_outside.specs.declared.write.Write.TheVariants.{Put, Remove}
use Rattle.reading.specs.State.{chain_files, chain_items, is_list_file}

-- each file of a list is among the paths, and each of them is that of such a file
pub record HoldsListFiles (w : World) (paths : List Path) : Type 0 where
  pub holds : (path : Path) → is_list_file path ≡ true → (is_listed paths path ≡ true) ⊎ (map.get w path ≡ None)
  pub only : (path : Path) → is_listed paths path ≡ true → is_list_file path ≡ true

-- the same of the labels beside them
pub record HoldsStateFiles (w : World) (paths : List Path) : Type 0 where
  pub holds : (path : Path) → is_state_path path ≡ true → (is_listed paths path ≡ true) ⊎ (map.get w path ≡ None)
  pub only : (path : Path) → is_listed paths path ≡ true → is_state_path path ≡ true

-- the writes of a stop with this control, over such paths
pub record AreStopWrites (k : Control) (w : World) (writes : List Write) : Type 0 where
  pub paths : List Path
  pub found : HoldsListFiles w paths
  pub are : writes ≡ stop_writes k.verb (state_files k ++ chain_files (chain_items w k.chain)) paths

-- nothing is put
abbrev pub IsRemoval : Write → Type 0
IsRemoval (Put path bytes) = ⊥
IsRemoval (Remove path) = Unit {0}

-- the message of a commit of a chain
unfoldable pub item_named : World → ChainKind × Id → Result ChainItem Lack
item_named w named = do
  commit ← commit_named w named.1
  Ok (record { kind = named.0; message = commit.message })

-- each message is of its commit's kind
abbrev pub HasKinds : List ChainItem → List (ChainKind × Id) → Type 0
HasKinds items chain = list_map (λ item. item.kind) items ≡ list_map (λ commit. commit.0) chain

-- the messages of a chain, if there are any
abbrev pub IsChainIfAny : List ChainItem → Type 0
IsChainIfAny [] = Unit {0}
IsChainIfAny (item ∷ items) = IsChain (item ∷ items)

-- all but the last of a list
abbrev pub without_last : {A : Type 0} → List A → List A
without_last xs = take (length xs - 1) xs
