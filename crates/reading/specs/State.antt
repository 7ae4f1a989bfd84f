-- The files of a list in a world (git-rebase(1); gitrepository-layout(5)).
use Rattle.std.specs.Prelude.{Bool, true, false, not, ◌||◌, if◌then◌else◌, List, [], ◌∷◌, ◌++◌, codes, filter, Result, Ok, Err}
use Rattle.std.specs.FinMap as map
use Rattle.std.specs.List.{list_any}
use Rattle.std.specs.Str.{bytes_eq}
use Rattle.message_text.specs.Chain.{chain_text, kept_text}
use Rattle.message_text.specs.declared.chain.ChainItem.{ChainItem}
use Rattle.message_text.specs.declared.chain.ChainKind.{ChainKind}
use Rattle.message_text.specs.declared.chain.ChainKind.TheVariants as chain
use Rattle.object_text.specs.Commits.{line as line_text}
use Rattle.objects.specs.Named.{commit_named}
use Rattle.ref_store.specs.Values.{packed_at}
use Rattle.ref_store.specs.declared.fault.RefFault.{RefFault}
use Rattle.ref_text.specs.Packed.{packed_text}
use Rattle.ref_text.specs.ReadPacked.{Ref}
use Rattle.ref_text.specs.Refs.{packed_path}
use Rattle.seq_base.specs.StatePaths.{is_state_path, state_heads}
use Rattle.seq_base.specs.Words.{Id, Path, Text}
use Rattle.seq_base.specs.World.{World, is_below}
use Rattle.seq_outside.specs.Halts.{◌>>=◌}
use Rattle.seq_outside.specs.declared.lack.Lack.{Lack}
use Rattle.state_text.specs.Places.{in_step_path, state_path}
use Rattle.state_text.specs.States.{state_files}
use Rattle.state_text.specs.Words.{verb_word}
use Rattle.state_text.specs.declared.control.Control.{Control}
use Rattle.state_text.specs.declared.state_file.StateFile.TheVariants.{RebaseTodo}
use Rattle.state_text.specs.declared.verb.Verb.TheVariants.{Rebase}

-- ---- at a stop

-- a file of a list; a label is none
abbrev pub is_list_file : Path → Bool
is_list_file path =
    is_below (codes ".git/rebase-merge") path || is_below (codes ".git/sequencer") path || list_any (λ head. bytes_eq head path) state_heads

-- the messages of a squash chain
unfoldable pub chain_items : World → List (ChainKind × Id) → Result (List ChainItem) Lack
chain_items w [] = Ok []
chain_items w (item ∷ items) = do
  commit ← commit_named w item.1
  others ← chain_items w items
  Ok (record { kind = item.0; message = commit.message } ∷ others)

-- its text is edited when it is closed
abbrev pub is_edited : ChainKind → Bool
is_edited chain.First = false
is_edited chain.Squash = true
is_edited chain.Fixup = false
is_edited chain.Keep = false
is_edited chain.KeepEdit = true

abbrev pub kept_files : List ChainItem → List (Path × Text)
kept_files items =
    if list_any (λ (item : ChainItem). is_edited item.kind) items then [] else (codes ".git/rebase-merge/message-fixup", kept_text items) ∷ []

-- the texts of a chain, which are not there where one of its commits cannot be read
abbrev pub chain_files : Result (List ChainItem) Lack → List (Path × Text)
chain_files (Err lack) = []
chain_files (Ok []) = []
chain_files (Ok (item ∷ items)) = (codes ".git/rebase-merge/message-squash", chain_text (item ∷ items)) ∷ kept_files (item ∷ items)

abbrev pub with_files : List (Path × Text) → World → World
with_files [] w = w
with_files (f ∷ fs) w = with_files fs (map.insert w f.0 f.1)

-- the files of a list are those of the control, and no others
unfoldable pub with_state : Control → World → World
with_state k w = with_files (state_files k ++ chain_files (chain_items w k.chain)) (map.retain_keys w (λ path. not (is_list_file path)))

-- ---- at the end

abbrev pub is_label : Ref → Bool
is_label ref = is_below (codes "refs/rewritten") ref.0

abbrev pub repacked : List Ref → World → World
repacked refs w = if list_any is_label refs then map.insert w packed_path (packed_text (filter (λ ref. not (is_label ref)) refs)) else w

-- packed labels are gone; packed refs that cannot be read are left alone
abbrev pub without_labels : Result (List Ref) RefFault → World → World
without_labels (Ok refs) w = repacked refs w
without_labels (Err fault) w = w

-- no file of a list is there, and no loose label
abbrev pub without_files : World → World
without_files w = map.retain_keys w (λ path. not (is_state_path path))

-- nothing is left of a list, nor any label
unfoldable pub without_state : World → World
without_state w = without_files (without_labels (packed_at w) w)

-- ---- while an invocation runs

-- an invocation is at work
unfoldable pub begun : Control → World → World
begun k w = map.insert w (in_step_path k.verb) (line_text (verb_word k.verb))

abbrev pub todo_path : Path
todo_path = state_path Rebase RebaseTodo

-- the todo, in its file, as its editor is to find it
unfoldable pub todo_shown : Text → World → World
todo_shown todo w = map.insert (map.insert w (in_step_path Rebase) (line_text (verb_word Rebase))) todo_path todo

-- that file, taken away again
unfoldable pub todo_hidden : World → World
todo_hidden w = map.remove (map.remove w todo_path) (in_step_path Rebase)
