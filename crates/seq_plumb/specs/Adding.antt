-- Files that are added to the index (git-add(1)).
use Rattle.std.specs.Prelude.{List, [], ◌∷◌, Option, Some, None, Ok}
use Rattle.std.specs.FinMap as file
use Rattle.object_text.specs.declared.object.Kind.TheVariants.{Blob}
use Rattle.objects.specs.Puts.{object_of, object_put}
use Rattle.seq_base.specs.Words.{Id, Path, Text}
use Rattle.seq_outside.specs.Turns.{Turn, ◌>>=◌, gives, looked, looks, saying}
use Rattle.index_file.specs.declared.entry.IndexEntry.{IndexEntry}
use Rattle.seq_model.specs.Basis.{Basis}
use Rattle.seq_model.specs.Refusing.{denied_put}
use Rattle.seq_model.specs.declared.denial.Denial.{Denial}
use Rattle.seq_plumb.specs.Begun.{begun}
use Rattle.seq_plumb.specs.Indexing.{index_put, with_file}
use Rattle.seq_plumb.specs.Named.{are_known, paths_named}

-- the blob of a file that is there, and its id
abbrev pub blob_put : Option Text → Turn Denial (Option Id)
blob_put None = gives None
blob_put (Some bytes) = do
  id ← saying denied_put (object_put (object_of Blob bytes))
  gives (Some id)

-- the blob of the file at a path
unfoldable pub file_put : Path → Turn Denial (Option Id)
file_put path = do
  bytes ← looks (λ w. Ok (file.get w path))
  blob_put bytes

-- the index with what is at a path now
unfoldable pub file_added : List IndexEntry → Path → Turn Denial (List IndexEntry)
file_added index path = do
  id ← file_put path
  gives (with_file index path id)

-- the same of paths, one after another
unfoldable pub files_added : List IndexEntry → List Path → Turn Denial (List IndexEntry)
files_added index [] = gives index
files_added index (path ∷ paths) = do
  more ← file_added index path
  files_added more paths

-- all of them, and then the index
unfoldable pub added_to : List IndexEntry → List Path → Turn Denial (Unit {0})
added_to index paths = do
  more ← files_added index paths
  index_put more

-- paths at each of which there is a file, or an entry of the index
unfoldable pub added_on : Basis → List Path → Turn Denial (Option Id)
added_on basis paths = do
  known ← looks (λ w. are_known w basis.index paths)
  added ← added_to basis.index paths
  gives basis.place.tip

-- the files that the words name; answers the commit that HEAD is at
unfoldable pub added : List Text → Turn Denial (Option Id)
added words = do
  basis ← looks begun
  paths ← looked (paths_named words)
  added_on basis paths
