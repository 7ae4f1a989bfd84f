-- The objects of a store (gitrepository-layout(5), "objects/[0-9a-f][0-9a-f]"; the text stands in the file as it is; git-hash-object(1)).
use Rattle.std.specs.Prelude.{ℕ, zero, suc, ◌&&◌, nat_le, if◌then◌else◌, List, [], ◌∷◌, length, codes, Option, Some, None, Result, Ok, Err, option_and_then, option_map}
use Rattle.std.specs.FinMap as map
use Rattle.std.specs.Str.{bytes_eq}
use Rattle.sha1.specs.Sha1.{sha1}
use Rattle.grammar.specs.Readers.{◌>>=◌, valued_at, literal_at, run_at}
use Rattle.grammar.specs.Keywords.{may_of, value_of}
use Rattle.seq_base.specs.Words.{Id, Path, Text}
use Rattle.ident_text.specs.Ids.{id_from}
use Rattle.seq_base.specs.World.{World}
use Rattle.seq_base.specs.Repository.{object_path}
use Rattle.object_text.specs.declared.object.Kind.{Kind}
use Rattle.object_text.specs.declared.object.Kind.TheVariants.{Blob, Tree, Commit, Tag}
use Rattle.object_text.specs.declared.object.Object.{Object}
use Rattle.object_text.specs.declared.tree.TreeEntry.{TreeEntry}
use Rattle.object_text.specs.declared.commit.Commit.{Commit as CommitFields}
use Rattle.object_text.specs.Objects.{object_text}
use Rattle.object_text.specs.Commits.{is_in_line}
use Rattle.object_text.specs.ReadObjects.{kinds, object_from}
use Rattle.object_text.specs.ReadTrees.{tree_from}
use Rattle.object_text.specs.ReadCommits.{keyed_from, commit_from}

-- the value that was read, if there is one
abbrev pub value_read : {X : Type 0} → Result X ℕ → Option X
value_read (Ok x) = Some x
value_read (Err left) = None

-- the object, the entries and the commit that bytes spell
unfoldable pub object_of : Text → Option Object
object_of text = value_read (object_from text)

unfoldable pub entries_of : Text → Option (List TreeEntry)
entries_of content = value_read (tree_from content)

unfoldable pub commit_of : Text → Option CommitFields
commit_of content = value_read (commit_from content)

-- the id of an object
abbrev pub object_id : Object → Id
object_id o = sha1 (object_text o)

-- the most bytes that the content of an object may have
abbrev pub content_limit : ℕ
content_limit = 67108864

-- the object that a file spells, where it is not too large and its id is this one
unfoldable pub object_in : Id → Text → Option Object
object_in id text = option_and_then (λ o. if nat_le (length o.bytes) content_limit && bytes_eq (sha1 text) id then Some o else None) (object_of text)

-- the object of an id
unfoldable pub object_at : World → Id → Option Object
object_at w id = option_and_then (object_in id) (map.get w (object_path id))

-- how large the content of an id's object is, where that passes the limit
abbrev pub oversize : ℕ → Option ℕ
oversize size = if nat_le size content_limit then None else Some size

unfoldable pub oversize_at : World → Id → Option ℕ
oversize_at w id = option_and_then (λ text. option_and_then (λ o. oversize (length o.bytes)) (object_of text)) (map.get w (object_path id))

-- what a world is after objects were put, and the id of the first in whose file another text stood, at which it ended
pub record Put : Type 0 where
  pub world : World
  pub collision : Option Id

-- the world with an object's text in its file, where no other stands there
abbrev pub put_at : World → Id → Path → Text → Option Text → Put
put_at w id path text None = record { world = map.insert w path text; collision = None }
put_at w id path text (Some kept) = record { world = w; collision = (if bytes_eq kept text then None else Some id) }

unfoldable pub put_object : World → Object → Put
put_object w o = put_at w (object_id o) (object_path (object_id o)) (object_text o) (map.get w (object_path (object_id o)))

-- those before a collision are there
abbrev pub or_ended : Put → Option Id → Put → Put
or_ended put None later = later
or_ended put (Some id) later = put

unfoldable pub put_all : World → List Object → Put
put_all w [] = record { world = w; collision = None }
put_all w (o ∷ os) = or_ended (put_object w o) (put_object w o).collision (put_all (put_object w o).world os)

-- the entries of a tree
abbrev pub entries_if_tree : Kind → Text → Option (List TreeEntry)
entries_if_tree Tree content = entries_of content
entries_if_tree Blob content = None
entries_if_tree Commit content = None
entries_if_tree Tag content = None

unfoldable pub tree_at : World → Id → Option (List TreeEntry)
tree_at w id = option_and_then (λ o. entries_if_tree o.kind o.bytes) (object_at w id)

-- the id, and what stands behind the tag's kind and name
abbrev pub tag_lines_from : Id → Text → Result (Id × Text) ℕ
tag_lines_from id bytes = do
  type ← literal_at (codes "type ") bytes
  kind ← valued_at (may_of kinds) (value_of kinds) 10 type.1
  tag ← literal_at (codes "tag ") kind.1
  name ← run_at is_in_line 10 tag.1
  Ok (id, name.1)

-- the id that a tag names, and what stands behind its first lines
unfoldable pub tagged_from : Text → Result (Id × Text) ℕ
tagged_from bytes = do
  object ← keyed_from (codes "object ") id_from bytes
  tag_lines_from object.0 object.1

-- the object that a tag names
unfoldable pub named_of : Text → Option Id
named_of content = option_map (λ t. t.0) (value_read (tagged_from content))

abbrev pub named_if_tag : Kind → Text → Option Id
named_if_tag Tag content = named_of content
named_if_tag Blob content = None
named_if_tag Tree content = None
named_if_tag Commit content = None

unfoldable pub tag_at : World → Id → Option Id
tag_at w id = option_and_then (λ o. named_if_tag o.kind o.bytes) (object_at w id)

-- the commit that a content of a kind is, where behind gives the one behind a tag's object
abbrev pub commit_if : (Id → Option CommitFields) → Kind → Text → Option CommitFields
commit_if behind Commit content = commit_of content
commit_if behind Tag content = option_and_then behind (named_of content)
commit_if behind Blob content = None
commit_if behind Tree content = None

-- the commit of an id, through at most so many tags
unfoldable pub commit_within : ℕ → World → Id → Option CommitFields
commit_within zero w id = option_and_then (λ o. commit_if (λ _. None) o.kind o.bytes) (object_at w id)
commit_within (suc n) w id = option_and_then (λ o. commit_if (commit_within n w) o.kind o.bytes) (object_at w id)

-- the commit of an id, through at most sixteen tags (gitrevisions(7), "a tag object is dereferenced")
unfoldable pub commit_at : World → Id → Option CommitFields
commit_at w id = commit_within 16 w id
