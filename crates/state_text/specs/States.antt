-- The files of a stopped list, and what they are found to be.
use Rattle.std.specs.Prelude.{List, [], ◌∷◌, Option, Some, None}
use Rattle.seq_base.specs.Words.{Path, Text}
use Rattle.state_text.specs.declared.control.Control.{Control}
use Rattle.state_text.specs.declared.state_file.StateFile.{StateFile}
use Rattle.state_text.specs.Places.{files_of, state_path}
use Rattle.state_text.specs.Texts.{text_in}

abbrev pub with_file : Path → Option Text → List (Path × Text) → List (Path × Text)
with_file path None files = files
with_file path (Some text) files = (path, text) ∷ files

-- the files that the control has of these
abbrev pub files_among : List StateFile → Control → List (Path × Text)
files_among [] k = []
files_among (f ∷ fs) k = with_file (state_path k.verb f) (text_in f k) (files_among fs k)

-- the files of a control, by their paths and what they hold, but for the texts of its squash chain, which stand in other commits
unfoldable pub state_files : Control → List (Path × Text)
state_files k = files_among (files_of k.verb) k
