-- The messages of a chain are of the kinds of its commits.
use Rattle.std.proofs.Common.{◌≡◌, ◌<◌, Bool, true, false, cond, List, [], ◌∷◌, ◌++◌, append_assoc, length, Ok, refl, sym, ap, ◌∙◌, arith}
use Rattle.std.specs.List.{AllByRecursion, list_any}
use Rattle.std.specs.Prelude.{All, codes}
use Rattle.std.proofs.lemmas.List.Elements.{All-cons, All-nil}
use Rattle.message_text.specs.Chain.{IsChain as IsChainOfItems, chain_text, kept_text}
use Rattle.message_text.specs.declared.chain.ChainItem.{ChainItem}
use Rattle.message_text.specs.declared.chain.ChainKind.{ChainKind}
use Rattle.message_text.specs.Kinds.{is_first}
use Rattle.seq_base.specs.Words.{Id, Path, Text}
use Rattle.state_text.specs.Controls.{IsChain}
use Rattle.reading.specs.State.{chain_files, is_edited, kept_files}
use Rattle.seq_state.specs.Found.{HasKinds, IsChainIfAny}

later_ones : (items : List ChainItem) (chain : List (ChainKind × Id)) → HasKinds items chain
    → AllByRecursion (λ other. is_first other.0 ≡ false) chain
    → All (λ later. is_first later.kind ≡ false) items
later_ones [] chain kinds all = All-nil (λ later. is_first later.kind ≡ false)
later_ones (item ∷ items) [] kinds all = absurd cc
later_ones (item ∷ items) (other ∷ chain) kinds all =
    let first : item.kind ≡ other.0 = cc in
    let later : HasKinds items chain = cc in
    All-cons (λ later. is_first later.kind ≡ false) item items (ap is_first first ∙ all.0) (later_ones items chain later all.1)

pub items_chain : (items : List ChainItem) (chain : List (ChainKind × Id)) → HasKinds items chain → IsChain chain → IsChainIfAny items
items_chain [] chain kinds is = tt
items_chain (item ∷ items) [] kinds is = absurd cc
items_chain (item ∷ items) (other ∷ chain) kinds is =
    let first : item.kind ≡ other.0 = cc in
    let later : HasKinds items chain = cc in
    (ap is_first first ∙ is.0, later_ones items chain later is.1)

pub chain_if_some : (items : List ChainItem) → IsChainIfAny items → 0 < length items → IsChainOfItems items
chain_if_some [] is some = absurd (omega (arith, some))
chain_if_some (item ∷ items) is some = is

pub no_files : (items : List ChainItem) → length items ≡ 0 → chain_files (Ok items) ≡ []
no_files [] none = refl
no_files (item ∷ items) none = absurd (omega (arith, none))

some_files : (items : List ChainItem) → IsChainOfItems items
    → chain_files (Ok items) ≡ (codes ".git/rebase-merge/message-squash", chain_text items) ∷ kept_files items
some_files [] is = absurd is
some_files (item ∷ items) is = refl

pub texts_pushed : (files one all : List (Path × Text)) (items : List ChainItem) (text : Text) → IsChainOfItems items → text ≡ chain_text items
    → one ≡ files ++ (codes ".git/rebase-merge/message-squash", text) ∷ [] → all ≡ one ++ kept_files items → all ≡ files ++ chain_files (Ok items)
texts_pushed files one all items text is told first then =
    then ∙ ap (λ (fs : List (Path × Text)). fs ++ kept_files items) first
    ∙ append_assoc files ((codes ".git/rebase-merge/message-squash", text) ∷ []) (kept_files items)
    ∙ ap (λ (t : Text). files ++ (codes ".git/rebase-merge/message-squash", t) ∷ kept_files items) told
    ∙ ap (λ (fs : List (Path × Text)). files ++ fs) (sym (some_files items is))

pub edited : (items : List ChainItem) → list_any (λ (item : ChainItem). is_edited item.kind) items ≡ true → kept_files items ≡ []
edited items some = ap (λ (b : Bool). cond b [] ((codes ".git/rebase-merge/message-fixup", kept_text items) ∷ [])) some

pub kept_pushed : (files all : List (Path × Text)) (items : List ChainItem) (text : Text)
    → list_any (λ (item : ChainItem). is_edited item.kind) items ≡ false → text ≡ kept_text items
    → all ≡ files ++ (codes ".git/rebase-merge/message-fixup", text) ∷ [] → all ≡ files ++ kept_files items
kept_pushed files all items text never told is =
    is ∙ ap (λ (t : Text). files ++ (codes ".git/rebase-merge/message-fixup", t) ∷ []) told
    ∙ ap (λ (b : Bool). files ++ cond b [] ((codes ".git/rebase-merge/message-fixup", kept_text items) ∷ [])) (sym never)
