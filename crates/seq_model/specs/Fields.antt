-- How a report spells its fields: one space before each.
use Rattle.std.specs.Prelude.{ℕ, ◌==◌, if◌then◌else◌, [], ◌∷◌, ◌++◌, Option, Some, None, codes}
use Rattle.std.specs.Fmt.{decimal}
use Rattle.seq_base.specs.Words.{Id, Text}
use Rattle.hex.specs.Hex.{encode_lower}
use Rattle.seq_model.specs.LimitWhats.{limit_what_name}
use Rattle.seq_model.specs.TodoKinds.{todo_kind_name}
use Rattle.seq_outside.specs.declared.limit.LimitWhat.{LimitWhat}
use Rattle.todo_text.specs.declared.todo_kind.TodoKind.{TodoKind}
use Rattle.seq_outside.specs.declared.child.Exit.{Exit}
use Rattle.seq_outside.specs.declared.child.Exit.TheVariants.{Code, Killed}

-- a backslash and a line feed are escaped, as `\\` and `\n`; every other byte stands as it is
abbrev pub escaped : Text → Text
escaped [] = []
escaped (b ∷ bytes) = (if b == 92 then 92 ∷ 92 ∷ [] else if b == 10 then 92 ∷ 110 ∷ [] else b ∷ []) ++ escaped bytes

abbrev pub bytes_field : Text → Text
bytes_field bytes = 32 ∷ escaped bytes

abbrev pub number_field : ℕ → Text
number_field n = 32 ∷ decimal n

abbrev pub id_field : Id → Text
id_field id = 32 ∷ encode_lower id

-- an absent id is `none`
abbrev pub found_field : Option Id → Text
found_field None = codes " none"
found_field (Some id) = id_field id

abbrev pub exit_field : Exit → Text
exit_field (Code n) = codes " exit" ++ number_field n
exit_field Killed = codes " killed"

-- what has the limit, and the quantity that passes it
abbrev pub limit_fields : LimitWhat → ℕ → Text
limit_fields what number = 32 ∷ limit_what_name what ++ number_field number

-- a line's number, and what is wrong with it
abbrev pub todo_bad_fields : ℕ → TodoKind → Text
todo_bad_fields line kind = number_field line ++ 32 ∷ todo_kind_name kind
