-- What a text is recalled as: the value of which it was written, if it was written of any.
use Rattle.std.specs.Prelude.{◌≡◌, Bool, if◌then◌else◌, List, [], ◌∷◌, Option, None, unwrap_or}
use Rattle.std.specs.Str.{bytes_eq}
use Rattle.seq_base.specs.Words.{Text}
use Rattle.state_text.specs.declared.state_file.StateFile.{StateFile}
use Rattle.state_text.specs.Places.{file_name}

-- It fits, and where a text was written of something that fits, it is that.
pub record Recalls {X : Type 0} (IsFit : X → Type 0) (text : X → Text) (bytes : Text) (x : X) : Type 0 where
  pub fits : IsFit x
  pub again : (y : X) → IsFit y → bytes ≡ text y → x ≡ y

-- ---- the files that were found

abbrev pub is_file : StateFile → StateFile → Bool
is_file f g = bytes_eq (file_name f) (file_name g)

-- what one of them holds
abbrev pub text_at : List (StateFile × Option Text) → StateFile → Option Text
text_at [] f = None
text_at (x ∷ found) f = if is_file x.0 f then x.1 else text_at found f

-- its bytes: a file that is missing has none
abbrev pub bytes_at : List (StateFile × Option Text) → StateFile → Text
bytes_at found f = unwrap_or (text_at found f) []
