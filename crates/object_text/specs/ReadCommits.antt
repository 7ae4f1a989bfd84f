-- Reading a commit from left to right.
use Rattle.std.specs.Prelude.{◌≡◌, ℕ, Bool, true, false, not, ◌&&◌, ◌||◌, ◌==◌, if◌then◌else◌, List, [], ◌∷◌, ◌++◌, length, codes, Option, Some, None, Result, Ok}
use Rattle.std.specs.List.{list_all}
use Rattle.grammar.specs.Readers.{◌>>=◌, valued_at, literal_at, star_at}
use Rattle.seq_base.specs.Words.{Id, Text}
use Rattle.ident_text.specs.Ids.{id_from}
use Rattle.ident_text.specs.ReadIdents.{ident_text_from}
use Rattle.object_text.specs.declared.commit.Commit.{Commit}
use Rattle.object_text.specs.Commits.{is_in_line, is_continuation, is_header_line, continued, encoding_of}

-- a line that begins with a key
abbrev pub keyed_from : {X : Type 0} → Text → (Text → Result (X × Text) ℕ) → Text → Result (X × Text) ℕ
keyed_from key value bytes = do
  behind ← literal_at key bytes
  x ← value behind.1
  end ← literal_at (10 ∷ []) x.1
  Ok (x.0, end.1)

unfoldable pub tree_line_from : Text → Result (Id × Text) ℕ
tree_line_from bytes = keyed_from (codes "tree ") id_from bytes

unfoldable pub parent_line_from : Text → Result (Id × Text) ℕ
parent_line_from bytes = keyed_from (codes "parent ") id_from bytes

unfoldable pub author_line_from : Text → Result (Text × Text) ℕ
author_line_from bytes = keyed_from (codes "author ") ident_text_from bytes

unfoldable pub committer_line_from : Text → Result (Text × Text) ℕ
committer_line_from bytes = keyed_from (codes "committer ") ident_text_from bytes

-- behind is whether a header stands before: only then may a line continue one
abbrev pub may_header : Bool → Text → Bool
may_header behind w = list_all is_in_line w && (behind || not (is_continuation w))

abbrev pub header_value : Bool → Text → Option Text
header_value behind w = if is_header_line w && (behind || not (is_continuation w)) then Some w else None

unfoldable pub header_from : Bool → Text → Result (Text × Text) ℕ
header_from behind bytes = valued_at (may_header behind) (header_value behind) 10 bytes

unfoldable pub message_from : Text → Result Text ℕ
message_from bytes = do
  empty ← literal_at (10 ∷ []) bytes
  Ok empty.1

abbrev pub has_header : Bool → Text → Bool
has_header behind line = true

-- the lines of headers, and the message
unfoldable pub headers_from : Text → Result (List Text × Text) ℕ
headers_from bytes = star_at is_in_line has_header header_from (λ behind rest. message_from rest) (length bytes) false bytes

-- the encoding, and the message
unfoldable pub tail_from : Text → Result (Option Text × Text) ℕ
tail_from bytes = do
  rest ← headers_from bytes
  Ok (encoding_of rest.0, rest.1)

abbrev pub is_p : ℕ → Bool
is_p b = b == 112

abbrev pub added : List Id → Id → List Id
added ids id = ids ++ id ∷ []

abbrev pub made : Id → List Id → Text → Text → Option Text × Text → Commit
made tree parents author committer tail = record {
  tree = tree;
  parents = parents;
  author = author;
  committer = committer;
  encoding = tail.0;
  message = tail.1;
}

-- what stands behind the parents
unfoldable pub people_from : Id → List Id → Text → Result Commit ℕ
people_from tree parents bytes = do
  author ← author_line_from bytes
  committer ← committer_line_from author.1
  tail ← tail_from committer.1
  Ok (made tree parents author.0 committer.0 tail)

unfoldable pub parents_from : Id → Text → Result Commit ℕ
parents_from tree bytes = do
  rest ← star_at is_p added (λ ids. parent_line_from) (people_from tree) (length bytes) [] bytes
  Ok rest.1

unfoldable pub commit_from : Text → Result Commit ℕ
commit_from bytes = do
  tree ← tree_line_from bytes
  parents_from tree.0 tree.1

-- What a reader of the first header `encoding` knows behind some lines: whether it was found, whether it may go on, and its value so far.
-- Whatever lines follow, the encoding of all is what these make of it.
pub record Takes (found lasts : Bool) (value : Text) (lines : List Text) : Type 0 where
  pub empty : found ≡ false → value ≡ []
  pub whole : (more : List Text)
      → encoding_of (lines ++ more) ≡ (if found then Some (value ++ (if lasts then continued more else [])) else encoding_of more)
