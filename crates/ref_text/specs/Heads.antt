-- HEAD: the branch that is checked out, or a commit (gitrepository-layout(5), "HEAD"; git-symbolic-ref(1)).
use Rattle.std.specs.Prelude.{◌≡◌, [], ◌∷◌, ◌++◌, codes}
use Rattle.hex.specs.Hex.{encode_lower}
use Rattle.seq_base.specs.Words.{Text}
use Rattle.seq_base.specs.Ids.{SpellsId}
use Rattle.seq_base.specs.RefNames.{IsRefName}
use Rattle.ref_text.specs.declared.head.Head.{Head}
use Rattle.ref_text.specs.declared.head.Head.TheVariants.{Branch, Detached}

-- `ref: <name>` or the digits of an id, and LF
abbrev pub SpellsHead : Head → Text → Type 0
SpellsHead (Branch name) text = IsRefName name × (text ≡ codes "ref: " ++ name ++ 10 ∷ [])
SpellsHead (Detached id) text = (digits : Text) × SpellsId id digits × (text ≡ digits ++ 10 ∷ [])

-- some text is the head's
abbrev pub IsHeadValue : Head → Type 0
IsHeadValue (Branch name) = IsRefName name
IsHeadValue (Detached id) = Unit {0}

-- the text that is written, with digits in lower case
abbrev pub head_text : Head → Text
head_text (Branch name) = codes "ref: " ++ name ++ 10 ∷ []
head_text (Detached id) = encode_lower id ++ 10 ∷ []
