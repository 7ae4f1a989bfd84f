-- What a control may be: a value that its files tell.
use Rattle.std.specs.Prelude.{◌≡◌, ℕ, ◌<◌, ◌^◌, true, false, List, [], ◌∷◌, ◌++◌, codes, All, FitsSigned, Option, Some, None}
use Rattle.std.specs.Int.{w64}
use Rattle.std.specs.List.{AllByRecursion}
use Rattle.std.specs.Str.{bytes_eq}
use Rattle.ident_text.specs.declared.ident.Ident.{Ident}
use Rattle.ident_text.specs.Idents.{IsIdentValue}
use Rattle.message_text.specs.declared.chain.ChainKind.{ChainKind}
use Rattle.message_text.specs.Kinds.{is_first}
use Rattle.object_text.specs.Commits.{IsEncoding}
use Rattle.seq_base.specs.Ids.{IsId}
use Rattle.seq_base.specs.PathMaps.{is_less}
use Rattle.seq_base.specs.RefNames.{IsRefName}
use Rattle.seq_base.specs.Words.{Id, Name}
use Rattle.todo_text.specs.Spells.{IsSpelled}
use Rattle.state_text.specs.declared.control.Control.{Control}
use Rattle.state_text.specs.declared.control.Form.{Form}
use Rattle.state_text.specs.declared.control.Form.TheVariants.{New, Amend, Merge}
use Rattle.state_text.specs.declared.control.Left.{Left}
use Rattle.state_text.specs.declared.control.Left.TheVariants.{Lines, Raw}
use Rattle.state_text.specs.declared.control.Pending.{Pending}
use Rattle.state_text.specs.declared.control.RefUpdate.{RefUpdate}
use Rattle.state_text.specs.declared.options.Empty.TheVariants as empty
use Rattle.state_text.specs.declared.verb.Verb.{Verb}
use Rattle.state_text.specs.declared.verb.Verb.TheVariants.{Rebase, CherryPick, Revert}
use Rattle.state_text.specs.Texts.{author_of, zeros}

abbrev pub IfThere : {X : Type 0} → (X → Type 0) → Option X → Type 0
IfThere P None = Unit {0}
IfThere P (Some x) = P x

abbrev pub IsLabel : Name → Type 0
IsLabel name = IsRefName (codes "refs/rewritten/" ++ name)

-- an id of zeros alone is no value
abbrev pub IsValue : Id → Type 0
IsValue id = bytes_eq id zeros ≡ false

pub record IsUpdate (update : RefUpdate) : Type 0 where
  pub name : IsRefName update.name
  pub expected : IfThere IsValue update.expected
  pub new : IfThere IsValue update.new

-- no name stands twice, and they are in byte order
abbrev pub AreOrdered : List RefUpdate → Type 0
AreOrdered [] = Unit {0}
AreOrdered (u ∷ updates) = AllByRecursion (λ v. is_less u.name v.name ≡ true) updates × AreOrdered updates

-- the first commit stands first, and only there
abbrev pub IsChain : List (ChainKind × Id) → Type 0
IsChain [] = Unit {0}
IsChain (item ∷ items) = (is_first item.0 ≡ true) × AllByRecursion (λ other. is_first other.0 ≡ false) items

abbrev pub IsLeft : Left → Type 0
IsLeft (Lines ls) = All IsSpelled ls
IsLeft (Raw bytes) = Unit {0}

abbrev pub AreLines : Left → Type 0
AreLines (Lines ls) = Unit {0}
AreLines (Raw bytes) = ⊥

abbrev pub IsPending : Pending → Type 0
IsPending p = IfThere IsIdentValue p.author × IsEncoding p.encoding

-- each line of its todo, and its author, is one that some text spells
pub record IsTold (k : Control) : Type 0 where
  pub done : All IsSpelled k.done
  pub left : IsLeft k.left
  pub author : IfThere IsIdentValue (author_of k.pending)

-- ---- by verb: what it has no option or file for is not there

pub record IsRebase (k : Control) : Type 0 where
  pub mainline : k.options.mainline ≡ None
  pub edit : k.options.edit ≡ false
  pub record_origin : k.options.record_origin ≡ false
  pub allow_empty : k.options.allow_empty ≡ false

pub record IsSequence (k : Control) : Type 0 where
  pub ff : k.options.ff ≡ false
  pub reschedule : k.options.reschedule ≡ false
  pub head_name : k.head_name ≡ None
  pub onto : k.onto ≡ k.orig
  pub left : AreLines k.left
  pub backup : k.backup ≡ []
  pub labels : k.labels ≡ []
  pub updates : k.updates ≡ []
  pub rewritten : k.rewritten ≡ []
  pub waiting : k.waiting ≡ []
  pub chain : k.chain ≡ []

pub record IsRevert (k : Control) : Type 0 where
  pub sequence : IsSequence k
  pub empty : k.options.empty ≡ empty.Stop
  pub record_origin : k.options.record_origin ≡ false
  pub allow_empty : k.options.allow_empty ≡ false

abbrev pub IsOfVerb : Verb → Control → Type 0
IsOfVerb Rebase k = IsRebase k
IsOfVerb CherryPick k = IsSequence k
IsOfVerb Revert k = IsRevert k

-- what its files can tell
pub record IsControl (k : Control) : Type 0 where
  pub head_name : IfThere IsRefName k.head_name
  pub done : All IsSpelled k.done
  pub left : IsLeft k.left
  pub labels : AllByRecursion IsLabel k.labels
  pub updates : AllByRecursion IsUpdate k.updates
  pub ordered : AreOrdered k.updates
  pub chain : IsChain k.chain
  pub pending : IfThere IsPending k.pending
  pub of_verb : IsOfVerb k.verb k

-- ---- what its type says: ids are ids, and numbers fit

abbrev pub IsForm : Form → Type 0
IsForm New = Unit {0}
IsForm Amend = Unit {0}
IsForm (Merge other) = IsId other

abbrev pub IsTypedPending : Pending → Type 0
IsTypedPending p = IsForm p.form × IfThere (λ (ident : Ident). FitsSigned w64 ident.secs) p.author

abbrev pub IsTypedUpdate : RefUpdate → Type 0
IsTypedUpdate update = IfThere IsId update.expected × IfThere IsId update.new

pub record IsTyped (k : Control) : Type 0 where
  pub orig : IsId k.orig
  pub onto : IsId k.onto
  pub stopped_head : IsId k.stopped_head
  pub stopped_commit : IfThere IsId k.stopped_commit
  pub updates : AllByRecursion IsTypedUpdate k.updates
  pub rewritten : AllByRecursion (λ (pair : Id × Id). IsId pair.0 × IsId pair.1) k.rewritten
  pub waiting : AllByRecursion IsId k.waiting
  pub chain : AllByRecursion (λ (item : ChainKind × Id). IsId item.1) k.chain
  pub pending : IfThere IsTypedPending k.pending
  pub mainline : IfThere (λ (n : ℕ). n < 2 ^ 32) k.options.mainline
