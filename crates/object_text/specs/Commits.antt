-- The content of a commit (git-commit-tree(1); Pro Git 10.2, "Commit Objects"; `encoding` is that of git-commit(1), DISCUSSION;
-- a header that goes on in lines that begin with SP is that of gitformat-signature(5)).
use Rattle.std.specs.Prelude.{◌≡◌, ℕ, Bool, true, false, not, ◌&&◌, ◌||◌, ◌==◌, if◌then◌else◌, List, [], ◌∷◌, ◌++◌, length, drop, codes, Option, Some, None}
use Rattle.std.specs.List.{list_all, flat_map, starts_with}
use Rattle.hex.specs.Hex.{encode_lower}
use Rattle.seq_base.specs.Words.{Id, Text}
use Rattle.seq_base.specs.Ids.{SpellsId}
use Rattle.ident_text.specs.Idents.{IsIdentText}
use Rattle.object_text.specs.declared.commit.Commit.{Commit}

-- a line, with its line feed
abbrev pub line : Text → Text
line text = text ++ 10 ∷ []

-- no line feed
abbrev pub is_in_line : ℕ → Bool
is_in_line b = not (b == 10)

-- it begins with SP, and so continues the line before
abbrev pub is_continuation : Text → Bool
is_continuation [] = false
is_continuation (b ∷ bs) = b == 32

-- one line, and not an empty one
abbrev pub is_header_line : Text → Bool
is_header_line text = list_all is_in_line text && not (length text == 0)

-- lines of headers, the first of which continues none
abbrev pub AreHeaders : List Text → Type 0
AreHeaders [] = Unit {0}
AreHeaders (h ∷ hs) = (is_continuation h ≡ false) × (list_all is_header_line (h ∷ hs) ≡ true)

-- the lines that continue a header, each behind a line feed
abbrev pub continued : List Text → Text
continued [] = []
continued (h ∷ hs) = if is_continuation h then 10 ∷ (h ++ continued hs) else []

-- the value of the first header `encoding`
abbrev pub encoding_of : List Text → Option Text
encoding_of [] = None
encoding_of (h ∷ hs) = if starts_with (λ a b. a == b) h (codes "encoding ") then Some (drop 9 h ++ continued hs) else encoding_of hs

-- each text is the hex digits of an id
abbrev pub SpellIds : List Id → List Text → Type 0
SpellIds [] [] = Unit {0}
SpellIds [] (t ∷ texts) = ⊥
SpellIds (id ∷ ids) [] = ⊥
SpellIds (id ∷ ids) (t ∷ texts) = SpellsId id t × SpellIds ids texts

-- The bytes are the commit's: its tree and its parents in hex digits, its author and committer, further headers of which `encoding` is
-- kept, an empty line, and the message.
pub record IsCommit (c : Commit) (bytes : Text) : Type 0 where
  pub tree : Text
  pub parents : List Text
  pub headers : List Text
  pub is_tree : SpellsId c.tree tree
  pub are_parents : SpellIds c.parents parents
  pub is_author : IsIdentText c.author
  pub is_committer : IsIdentText c.committer
  pub are_headers : AreHeaders headers
  pub encoding_is : c.encoding ≡ encoding_of headers
  pub text_is : bytes
      ≡ line (codes "tree " ++ tree) ++ flat_map (λ parent. line (codes "parent " ++ parent)) parents
      ++ line (codes "author " ++ c.author) ++ line (codes "committer " ++ c.committer) ++ flat_map line headers ++ 10 ∷ c.message

-- a header's value: each line feed in it is followed by SP, so that it goes on
abbrev pub is_header_value : Text → Bool
is_header_value [] = true
is_header_value (b ∷ []) = not (b == 10)
is_header_value (b ∷ c ∷ bs) = (not (b == 10) || c == 32) && is_header_value (c ∷ bs)

abbrev pub IsEncoding : Option Text → Type 0
IsEncoding None = Unit {0}
IsEncoding (Some v) = is_header_value v ≡ true

-- some text is the commit's
pub record IsCommitValue (c : Commit) : Type 0 where
  pub author : IsIdentText c.author
  pub committer : IsIdentText c.committer
  pub encoding : IsEncoding c.encoding

-- a commit by another author
abbrev pub with_author : Text → Commit → Commit
with_author author c = record {
  tree = c.tree;
  parents = c.parents;
  author = author;
  committer = c.committer;
  encoding = c.encoding;
  message = c.message;
}

abbrev pub encoding_text : Option Text → Text
encoding_text None = []
encoding_text (Some v) = line (codes "encoding " ++ v)

-- the text that is written, with lower case digits and no header but `encoding`
abbrev pub commit_text : Commit → Text
commit_text c =
    line (codes "tree " ++ encode_lower c.tree) ++ flat_map (λ parent. line (codes "parent " ++ encode_lower parent)) c.parents
    ++ line (codes "author " ++ c.author) ++ line (codes "committer " ++ c.committer) ++ encoding_text c.encoding ++ 10 ∷ c.message
