-- The text of an object, `<kind> SP <length> NUL <content>` (Pro Git 10.2, "Object Storage"; git-cat-file(1) names the kinds).
use Rattle.std.specs.Prelude.{◌≡◌, ℕ, [], ◌∷◌, ◌++◌, length, codes, decimal, Some}
use Rattle.grammar.specs.Decimals.{decimal_value}
use Rattle.seq_base.specs.Words.{Text}
use Rattle.object_text.specs.declared.object.Kind.{Kind}
use Rattle.object_text.specs.declared.object.Kind.TheVariants.{Blob, Tree, Commit, Tag}
use Rattle.object_text.specs.declared.object.Object.{Object}

-- the word of a kind
abbrev pub kind_text : Kind → Text
kind_text Blob = codes "blob"
kind_text Tree = codes "tree"
kind_text Commit = codes "commit"
kind_text Tag = codes "tag"

-- what stands before the content of so many bytes
abbrev pub header_text : Kind → ℕ → Text
header_text kind count = kind_text kind ++ 32 ∷ decimal count ++ 0 ∷ []

-- the text of an object, whose length a computer can count
abbrev pub object_text : Object → Text
object_text o = kind_text o.kind ++ 32 ∷ decimal (length o.bytes) ++ 0 ∷ o.bytes

-- the text is the object's: the length is written in digits, with no 0 before others
pub record IsObject (o : Object) (text : Text) : Type 0 where
  pub digits : Text
  pub length_is : decimal_value digits ≡ Some (length o.bytes)
  pub text_is : text ≡ kind_text o.kind ++ 32 ∷ digits ++ 0 ∷ o.bytes
