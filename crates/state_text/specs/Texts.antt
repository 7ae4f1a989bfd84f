-- What each file of a stopped list holds (git-rebase(1); its files are Git's own, but for `control` and `in-step`).
use Rattle.std.specs.Prelude.{ℕ, ◌+◌, ◌==◌, Bool, true, false, if◌then◌else◌, [], ◌∷◌, ◌++◌, length, replicate, codes, decimal, Option, Some, None}
use Rattle.std.specs.List.{flat_map}
use Rattle.std.specs.Option.{option_map}
use Rattle.hex.specs.Hex.{encode_lower}
use Rattle.seq_base.specs.Words.{Id, Name, Text}
use Rattle.ident_text.specs.declared.ident.Ident.{Ident}
use Rattle.ident_text.specs.AuthorScripts.{script_text}
use Rattle.object_text.specs.Commits.{encoding_text, line}
use Rattle.message_text.specs.declared.chain.ChainKind.{ChainKind}
use Rattle.message_text.specs.declared.chain.ChainKind.TheVariants as chain
use Rattle.todo_text.specs.Todos.{todo_text}
use Rattle.state_text.specs.declared.control.Control.{Control}
use Rattle.state_text.specs.declared.control.Form.{Form}
use Rattle.state_text.specs.declared.control.Form.TheVariants.{New, Amend, Merge}
use Rattle.state_text.specs.declared.control.Left.{Left}
use Rattle.state_text.specs.declared.control.Left.TheVariants.{Lines, Raw}
use Rattle.state_text.specs.declared.control.Pending.{Pending}
use Rattle.state_text.specs.declared.control.RefUpdate.{RefUpdate}
use Rattle.state_text.specs.declared.options.Options.{Options}
use Rattle.state_text.specs.declared.state_file.StateFile.{StateFile}
use Rattle.state_text.specs.declared.state_file.StateFile.TheVariants as file
use Rattle.state_text.specs.declared.verb.Verb.{Verb}
use Rattle.state_text.specs.declared.verb.Verb.TheVariants.{Rebase, CherryPick, Revert}
use Rattle.state_text.specs.Words.{empty_word, stop_word, verb_word, yes_or_no}

-- a file without a byte is none
abbrev pub kept : Text → Option Text
kept bytes = if length bytes == 0 then None else Some bytes

-- ---- lines

-- an id in lower case
abbrev pub id_line : Id → Text
id_line id = line (encode_lower id)

abbrev pub number_line : ℕ → Text
number_line n = line (decimal n)

-- the branch that is rebased
abbrev pub head_name_text : Option Name → Text
head_name_text None = line (codes "detached HEAD")
head_name_text (Some name) = line name

abbrev pub pair_text : Id × Id → Text
pair_text pair = encode_lower pair.0 ++ 32 ∷ encode_lower pair.1

abbrev pub pair_line : Id × Id → Text
pair_line pair = line (pair_text pair)

-- the ref of a label
abbrev pub label_text : Name → Text
label_text name = codes "refs/rewritten/" ++ name

abbrev pub label_line : Name → Text
label_line name = line (label_text name)

abbrev pub chain_word : ChainKind → Text
chain_word chain.First = codes "pick "
chain_word chain.Squash = codes "squash "
chain_word chain.Fixup = codes "fixup "
chain_word chain.Keep = codes "fixup -C "
chain_word chain.KeepEdit = codes "fixup -c "

abbrev pub chain_text : ChainKind × Id → Text
chain_text item = chain_word item.0 ++ encode_lower item.1

abbrev pub chain_line : ChainKind × Id → Text
chain_line item = line (chain_text item)

-- no id is forty zeros
abbrev pub zeros : Id
zeros = replicate 20 0

abbrev pub value_digits : Option Id → Text
value_digits None = codes "0000000000000000000000000000000000000000"
value_digits (Some id) = encode_lower id

abbrev pub value_line : Option Id → Text
value_line id = line (value_digits id)

-- a ref that is to be updated: its name, the value that it has to have, and the one that it gets
abbrev pub update_lines : RefUpdate → Text
update_lines update = line update.name ++ value_line update.expected ++ value_line update.new

-- ---- the todo

abbrev pub left_text : Left → Text
left_text (Lines ls) = todo_text ls
left_text (Raw bytes) = bytes

-- how many lines are left; bytes that are none count for none
abbrev pub left_count : Left → ℕ
left_count (Lines ls) = length ls
left_count (Raw bytes) = 0

-- ---- the pending commit

abbrev pub message_of : Option Pending → Text
message_of None = []
message_of (Some p) = p.message

abbrev pub author_of : Option Pending → Option Ident
author_of None = None
author_of (Some p) = p.author

abbrev pub encoding_of : Option Pending → Option Text
encoding_of None = None
encoding_of (Some p) = p.encoding

abbrev pub amended : Form → Id → Option Id
amended New head = None
amended Amend head = Some head
amended (Merge other) head = None

abbrev pub other_head : Form → Option Id
other_head New = None
other_head Amend = None
other_head (Merge other) = Some other

abbrev pub amend_of : Option Pending → Id → Option Id
amend_of None head = None
amend_of (Some p) head = amended p.form head

abbrev pub other_head_of : Option Pending → Option Id
other_head_of None = None
other_head_of (Some p) = other_head p.form

abbrev pub form_word : Form → Text
form_word New = codes "new"
form_word Amend = codes "amend"
form_word (Merge other) = codes "merge " ++ encode_lower other

abbrev pub edit_word : Bool → Text
edit_word edit = if edit then codes " edit" else codes " plain"

abbrev pub pending_word : Option Pending → Text
pending_word None = codes "none"
pending_word (Some p) = form_word p.form ++ edit_word p.edit

-- a commit that is told of while a commit is pending
abbrev pub while_pending : Option Pending → Option Id → Option Id
while_pending None id = None
while_pending (Some p) id = id

-- ---- options

abbrev pub set_option : Bool → Text → Text
set_option set key = if set then 9 ∷ line (key ++ codes " = true") else []

abbrev pub mainline_option : Option ℕ → Text
mainline_option None = []
mainline_option (Some n) = 9 ∷ line (codes "mainline = " ++ decimal n)

abbrev pub opts_text : Options → Text
opts_text options =
    line (codes "[options]")
    ++ mainline_option options.mainline
    ++ set_option options.edit (codes "edit")
    ++ set_option options.record_origin (codes "record-origin")
    ++ set_option options.allow_empty (codes "allow-empty")

-- the verb, and the options that it keeps
abbrev pub settings_text : Control → Text
settings_text k =
    line (codes "gitseq 1")
    ++ line (codes "verb " ++ verb_word k.verb)
    ++ line (codes "empty " ++ empty_word k.options.empty)
    ++ line (codes "ff " ++ yes_or_no k.options.ff)
    ++ line (codes "reschedule " ++ yes_or_no k.options.reschedule)

-- why it stopped, and where
abbrev pub stop_text : Control → Text
stop_text k = line (codes "stop " ++ stop_word k.stop) ++ codes "head " ++ id_line k.stopped_head

-- the commit that is still to be made
abbrev pub pending_text : Option Pending → Text
pending_text pending = codes "pending " ++ pending_word pending ++ 10 ∷ encoding_text (encoding_of pending)

abbrev pub control_text : Control → Text
control_text k = settings_text k ++ stop_text k ++ pending_text k.pending

-- ---- each file

abbrev pub is_rebase : Verb → Bool
is_rebase Rebase = true
is_rebase CherryPick = false
is_rebase Revert = false

abbrev pub is_cherry_pick : Verb → Bool
is_cherry_pick Rebase = false
is_cherry_pick CherryPick = true
is_cherry_pick Revert = false

abbrev pub is_revert : Verb → Bool
is_revert Rebase = false
is_revert CherryPick = false
is_revert Revert = true

-- the commit at which the list stopped, for the one verb whose head this is
abbrev pub stopped_line : Bool → Control → Option Text
stopped_line told k = if told then option_map id_line (while_pending k.pending k.stopped_commit) else None

-- what a control has in one of its files, where it has it
unfoldable pub text_in : StateFile → Control → Option Text
text_in file.HeadName k = Some (head_name_text k.head_name)
text_in file.OrigHead k = Some (id_line k.orig)
text_in file.Onto k = Some (id_line k.onto)
text_in file.Interactive k = Some []
text_in file.RebaseTodo k = kept (left_text k.left)
text_in file.Backup k = kept k.backup
text_in file.Done k = kept (todo_text k.done)
text_in file.Msgnum k = Some (number_line (length k.done))
text_in file.End k = Some (number_line (length k.done + left_count k.left))
text_in file.Message k = kept (message_of k.pending)
text_in file.AuthorScript k = option_map script_text (author_of k.pending)
text_in file.Amend k = option_map id_line (amend_of k.pending k.stopped_head)
text_in file.StoppedSha k = option_map id_line k.stopped_commit
text_in file.CurrentFixups k = kept (flat_map chain_line k.chain)
text_in file.RewrittenList k = kept (flat_map pair_line k.rewritten)
text_in file.RewrittenPending k = kept (flat_map id_line k.waiting)
text_in file.RefsToDelete k = kept (flat_map label_line k.labels)
text_in file.UpdateRefs k = kept (flat_map update_lines k.updates)
text_in file.Control k = Some (control_text k)
text_in file.Todo k = kept (left_text k.left)
text_in file.Head k = Some (id_line k.orig)
text_in file.AbortSafety k = Some (id_line k.stopped_head)
text_in file.Opts k = Some (opts_text k.options)
text_in file.MergeMsg k = kept (message_of k.pending)
text_in file.MergeHead k = option_map id_line (other_head_of k.pending)
text_in file.RebaseHead k = stopped_line (is_rebase k.verb) k
text_in file.CherryPickHead k = stopped_line (is_cherry_pick k.verb) k
text_in file.RevertHead k = stopped_line (is_revert k.verb) k
