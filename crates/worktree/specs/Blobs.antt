-- The blob of an id, or what is lacked (git-cat-file(1), "blob").
use Rattle.std.specs.Prelude.{Option, Some, None, Result}
use Rattle.object_text.specs.declared.object.Kind.{Kind}
use Rattle.object_text.specs.declared.object.Kind.TheVariants.{Blob, Tree, Commit, Tag}
use Rattle.object_text.specs.declared.object.Object.{Object}
use Rattle.objects.specs.Named.{object_named}
use Rattle.seq_base.specs.Words.{Id, Text}
use Rattle.seq_base.specs.World.{World}
use Rattle.seq_outside.specs.Halts.{◌>>=◌, or_stop}
use Rattle.seq_outside.specs.declared.lack.Lack.{Lack}
use Rattle.seq_outside.specs.declared.lack.Lack.TheVariants as lack

abbrev pub bytes_if_blob : Kind → Text → Option Text
bytes_if_blob Blob bytes = Some bytes
bytes_if_blob Tree bytes = None
bytes_if_blob Commit bytes = None
bytes_if_blob Tag bytes = None

-- the bytes of an object that is a blob
unfoldable pub blob_in : Id → Object → Result Text Lack
blob_in id object = or_stop (bytes_if_blob object.kind object.bytes) (lack.Object id)

-- the bytes of the blob of an id
unfoldable pub blob_named : World → Id → Result Text Lack
blob_named w id = do
  object ← object_named w id
  blob_in id object
