-- git-config(1), "Syntax": sections and keys compare without ASCII case, subsections byte by byte; the last value counts.
use Rattle.std.specs.Prelude.{ℕ, Bool, ◌&&◌, if◌then◌else◌, List, Option, Some, None}
use Rattle.std.specs.Option.{option_or}
use Rattle.std.specs.Str.{bytes_eq}
use Rattle.std.specs.Prelude.{[], ◌∷◌}
use Rattle.config_text.specs.declared.config.Setting.{Setting}
use Rattle.config_text.specs.Bytes.{lower}

-- the setting has this section, subsection and key
abbrev pub is_named : Setting → List ℕ → List ℕ → List ℕ → Bool
is_named setting section sub key =
    bytes_eq (lower setting.section) (lower section) && bytes_eq setting.sub sub && bytes_eq (lower setting.key) (lower key)

-- the value of the last setting of that name
abbrev pub last_value : List ℕ → List ℕ → List ℕ → List Setting → Option (List ℕ)
last_value section sub key [] = None
last_value section sub key (setting ∷ settings) =
    option_or (last_value section sub key settings) (if is_named setting section sub key then Some setting.value else None)
