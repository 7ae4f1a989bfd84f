-- Why a line is blocked.
use Rattle.std.specs.Prelude.{codes, [], ◌++◌}
use Rattle.seq_base.specs.Words.{Text}
use Rattle.seq_model.specs.Fields.{bytes_field, id_field, found_field, limit_fields}
use Rattle.seq_model.specs.declared.reason.Reason.{Reason}
use Rattle.seq_model.specs.declared.reason.Reason.TheVariants.{WouldOverwrite, BadName, NoBase, SeveralBases, BadObject, BadHead, BadIndex, HeadMoved, Dirty, Limit}

abbrev pub reason_name : Reason → Text
reason_name (WouldOverwrite path) = codes "would-overwrite"
reason_name (BadName word) = codes "bad-name"
reason_name NoBase = codes "no-base"
reason_name (SeveralBases first second) = codes "several-bases"
reason_name (BadObject id) = codes "bad-object"
reason_name BadHead = codes "bad-head"
reason_name BadIndex = codes "bad-index"
reason_name (HeadMoved found) = codes "head-moved"
reason_name (Dirty path) = codes "dirty"
reason_name (Limit what number) = codes "limit"

-- the fields, in their order
abbrev pub reason_fields : Reason → Text
reason_fields (WouldOverwrite path) = bytes_field path
reason_fields (BadName word) = bytes_field word
reason_fields NoBase = []
reason_fields (SeveralBases first second) = id_field first ++ id_field second
reason_fields (BadObject id) = id_field id
reason_fields BadHead = []
reason_fields BadIndex = []
reason_fields (HeadMoved found) = found_field found
reason_fields (Dirty path) = bytes_field path
reason_fields (Limit what number) = limit_fields what number
