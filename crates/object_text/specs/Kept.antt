-- What a store keeps, in the words of the formats (gitrepository-layout(5), "objects/[0-9a-f][0-9a-f]"; git-hash-object(1)).
use Rattle.std.specs.Prelude.{◌≡◌, ◌≤◌, ◌⊎◌, ℕ, zero, suc, List, length, Some}
use Rattle.std.specs.FinMap as map
use Rattle.seq_base.specs.Words.{Id, Text}
use Rattle.sha1.specs.Sha1.{sha1}
use Rattle.seq_base.specs.World.{World}
use Rattle.seq_base.specs.Repository.{object_path}
use Rattle.object_text.specs.declared.object.Kind.{Kind}
use Rattle.object_text.specs.declared.object.Kind.TheVariants.{Tree, Commit, Tag}
use Rattle.object_text.specs.declared.object.Object.{Object}
use Rattle.object_text.specs.declared.tree.TreeEntry.{TreeEntry}
use Rattle.object_text.specs.declared.commit.Commit.{Commit as CommitFields}
use Rattle.object_text.specs.Objects.{IsObject}
use Rattle.object_text.specs.Trees.{IsTree}
use Rattle.object_text.specs.Commits.{IsCommit}
use Rattle.object_text.specs.Tags.{IsTag}
use Rattle.object_text.specs.Store.{content_limit}

-- the file of an id has the text of this object, which is not too large, and whose SHA-1 is the id
pub record KeepsObject (w : World) (id : Id) (o : Object) : Type 0 where
  pub text : Text
  pub file : map.get w (object_path id) ≡ Some text
  pub spelled : IsObject o text
  pub within : length o.bytes ≤ content_limit
  pub hash : sha1 text ≡ id

-- an object of this kind, whose content spells x
pub record Keeps {X : Type 0} (kind : Kind) (spells : X → Text → Type 0) (w : World) (id : Id) (x : X) : Type 0 where
  pub content : Text
  pub object : KeepsObject w id (record { kind = kind; bytes = content })
  pub spelled : spells x content

abbrev pub KeepsTree : World → Id → List TreeEntry → Type 0
KeepsTree = Keeps Tree IsTree

abbrev pub KeepsCommit : World → Id → CommitFields → Type 0
KeepsCommit = Keeps Commit IsCommit

-- a tag that names the object of the other id
abbrev pub KeepsTag : World → Id → Id → Type 0
KeepsTag = Keeps Tag IsTag

-- a commit, or a tag that leads to it, through at most so many tags
unfoldable pub LeadsToCommit : ℕ → World → Id → CommitFields → Type 0
LeadsToCommit zero w id c = KeepsCommit w id c
LeadsToCommit (suc n) w id c = KeepsCommit w id c ⊎ ((named : Id) × KeepsTag w id named × LeadsToCommit n w named c)

-- each file of an object stays as it is
abbrev pub ObjectsStay : World → World → Type 0
ObjectsStay old new = (id : Id) (text : Text) → map.get old (object_path id) ≡ Some text → map.get new (object_path id) ≡ Some text
