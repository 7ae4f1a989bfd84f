-- Reading an object from left to right.
use Rattle.std.specs.Prelude.{ℕ, ◌-◌, nat_lt, if◌then◌else◌, List, [], ◌∷◌, length, Result, Ok, Err}
use Rattle.grammar.specs.Decimals.{decimal_at}
use Rattle.grammar.specs.Keywords.{may_of, value_of}
use Rattle.grammar.specs.Readers.{◌>>=◌, valued_at}
use Rattle.seq_base.specs.Words.{Text}
use Rattle.object_text.specs.declared.object.Kind.{Kind}
use Rattle.object_text.specs.declared.object.Kind.TheVariants.{Blob, Tree, Commit, Tag}
use Rattle.object_text.specs.declared.object.Object.{Object}
use Rattle.object_text.specs.Objects.{kind_text}

-- the words of the kinds
abbrev pub kinds : List (Text × Kind)
kinds = (kind_text Blob, Blob) ∷ (kind_text Tree, Tree) ∷ (kind_text Commit, Commit) ∷ (kind_text Tag, Tag) ∷ []

unfoldable pub kind_from : Text → Result (Kind × Text) ℕ
kind_from bytes = valued_at (may_of kinds) (value_of kinds) 32 bytes

-- so many bytes, and no more
unfoldable pub content_from : ℕ → Text → Result Text ℕ
content_from n bytes = if nat_lt (length bytes) n then Err 0 else if nat_lt n (length bytes) then Err (length bytes - n) else Ok bytes

unfoldable pub sized_from : Text → Result Text ℕ
sized_from bytes = do
  size ← decimal_at 0 bytes
  content_from size.0 size.1

unfoldable pub object_from : Text → Result Object ℕ
object_from bytes = do
  kind ← kind_from bytes
  content ← sized_from kind.1
  Ok (record { kind = kind.0; bytes = content })
