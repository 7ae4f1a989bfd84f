-- The configuration of a repository, in its file `.git/config` (gitrepository-layout(5); git-config(1), "Files").
use Rattle.std.specs.Prelude.{◌≡◌, ℕ, ◌-◌, List, [], length, codes, unwrap_or, Result, Ok, Err}
use Rattle.std.specs.FinMap as file
use Rattle.grammar.specs.Lines.{line_of_place}
use Rattle.seq_base.specs.Words.{Text}
use Rattle.seq_base.specs.World.{World}
use Rattle.config_text.specs.Reading.{start}
use Rattle.config_text.specs.Returns.{fed, read_from}
use Rattle.config_text.specs.declared.config.Setting.{Setting}
use Rattle.config_text.specs.declared.fault.LineFault.{LineFault}
use Rattle.config_text.specs.declared.fault.LineFault.TheVariants.{Bad, Memory}

-- the settings, or the line at which so many bytes were left
abbrev pub or_line : Text → Result (List Setting) ℕ → Result (List Setting) ℕ
or_line text (Ok settings) = Ok settings
or_line text (Err left) = Err (line_of_place (length text - left) text)

-- the settings of a text, in its order, or its first bad line
unfoldable pub config_of : Text → Result (List Setting) ℕ
config_of text = or_line text (read_from (fed start) text)

-- those of a world; a missing file has none
abbrev pub config_at : World → Result (List Setting) ℕ
config_at w = config_of (unwrap_or (file.get w (codes ".git/config")) [])

-- what a reader answers, unless memory ran out
abbrev pub GivesConfig : Result (List Setting) LineFault → Result (List Setting) ℕ → Type 0
GivesConfig (Ok settings) means = means ≡ Ok settings
GivesConfig (Err (Bad line)) means = means ≡ Err line
GivesConfig (Err Memory) means = Unit {0}
