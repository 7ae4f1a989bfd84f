-- An object that is printed (git-cat-file(1)).
use Rattle.std.specs.Prelude.{Result, Ok}
use Rattle.objects.specs.Named.{object_named}
use Rattle.ref_text.specs.ReadHeads.{id_in}
use Rattle.seq_base.specs.Words.{Id, Text}
use Rattle.seq_base.specs.World.{World}
use Rattle.seq_outside.specs.Halts.{◌>>=◌, for_reason}
use Rattle.seq_model.specs.Refusing.{denied_file, or_refuse}
use Rattle.seq_model.specs.declared.denial.Denial.{Denial}
use Rattle.seq_model.specs.declared.refusal.Refusal.TheVariants.{BadRevForm}
use Rattle.seq_model.specs.declared.reply.Reply.{Reply}
use Rattle.seq_plumb.specs.Begun.{begun}

-- forty hex digits, in either case
unfoldable pub id_named : Text → Result Id Denial
id_named word = or_refuse (id_in word) (BadRevForm word)

-- the content of the object whose id the word is
unfoldable pub printed_object : Text → World → Result Reply Denial
printed_object word w = do
  basis ← begun w
  id ← id_named word
  object ← for_reason denied_file (object_named w id)
  Ok (record { head = basis.place.tip; own = object.bytes })
