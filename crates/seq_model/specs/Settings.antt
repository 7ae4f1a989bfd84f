-- What a configuration may ask for (gitrepository-layout(5) and repository-version: "core.repositoryformatversion", "extensions"), and how
-- many merge drivers run at once.
use Rattle.std.specs.Prelude.{ℕ, Bool, not, ◌==◌, ◌&&◌, ◌||◌, nat_lt, if◌then◌else◌, List, [], ◌∷◌, ◌++◌, length, codes}
use Rattle.std.specs.Prelude.{Option, Some, None, Result, Ok, Err}
use Rattle.std.specs.Char.{is_ascii_digit}
use Rattle.std.specs.List.{list_all, list_any}
use Rattle.std.specs.Str.{bytes_eq}
use Rattle.std.specs.Str.Parse.{digits_value}
use Rattle.config_text.specs.Files.{config_at}
use Rattle.config_text.specs.Lookups.{last_value}
use Rattle.config_text.specs.declared.config.Setting.{Setting}
use Rattle.seq_base.specs.Words.{Text}
use Rattle.seq_base.specs.World.{World}
use Rattle.seq_outside.specs.Halts.{◌>>=◌}
use Rattle.seq_outside.specs.declared.limit.LimitWhat.TheVariants.{Jobs}
use Rattle.seq_model.specs.Refusing.{or_refuse, refuse_found}
use Rattle.seq_model.specs.declared.denial.Denial.{Denial}
use Rattle.seq_model.specs.declared.denial.Denial.TheVariants.{Refused, Limit}
use Rattle.seq_model.specs.declared.refusal.Refusal.TheVariants.{BadConfig, Unsupported}

-- ---- what is not supported

-- the whole name of a key: its section, its subsection where it has one, and the key
abbrev pub section_name : Setting → Text
section_name setting = if length setting.sub == 0 then setting.section else setting.section ++ 46 ∷ setting.sub

abbrev pub key_name : Setting → Text
key_name setting = section_name setting ++ 46 ∷ setting.key

abbrev pub is_extension : Setting → Bool
is_extension setting = bytes_eq setting.section (codes "extensions")

abbrev pub is_version : Setting → Bool
is_version setting =
    bytes_eq setting.section (codes "core") && (length setting.sub == 0) && bytes_eq setting.key (codes "repositoryformatversion")

abbrev pub is_known_version : Text → Bool
is_known_version value = bytes_eq value (codes "0") || bytes_eq value (codes "1")

-- the setting asks for what is not there, before these others; the last version counts
abbrev pub is_unsupported : Setting → List Setting → Bool
is_unsupported setting later =
    is_extension setting || (is_version setting && not (list_any is_version later) && not (is_known_version setting.value))

-- the first setting that does
unfoldable pub unsupported : List Setting → Option Setting
unsupported [] = None
unsupported (setting ∷ later) = if is_unsupported setting later then Some setting else unsupported later

-- none does
unfoldable pub are_supported : List Setting → Result (Unit {0}) Denial
are_supported settings = refuse_found (unsupported settings) (λ setting. Unsupported (key_name setting))

-- ---- how many merge drivers run at once

-- 1 to 9 decimal digits
abbrev pub is_short : Text → Bool
is_short text = not (length text == 0) && nat_lt (length text) 10

abbrev pub is_count : Text → Bool
is_count text = is_short text && list_all is_ascii_digit text

-- the number that they write
abbrev pub count_in : Text → Option ℕ
count_in text = if is_count text then Some (digits_value 10 text) else None

-- 1 to 16
unfoldable pub within_jobs : ℕ → Result ℕ Denial
within_jobs jobs = if (jobs == 0) || nat_lt 16 jobs then Err (Limit Jobs jobs) else Ok jobs

unfoldable pub jobs_in : Text → Result ℕ Denial
jobs_in text = do
  count ← or_refuse (count_in text) (Unsupported (codes "gitseq.jobs"))
  within_jobs count

abbrev pub jobs_or_one : Option Text → Result ℕ Denial
jobs_or_one None = Ok 1
jobs_or_one (Some text) = jobs_in text

-- what `gitseq.jobs` says: the last value counts, and without one it is 1
unfoldable pub jobs_of : List Setting → Result ℕ Denial
jobs_of settings = jobs_or_one (last_value (codes "gitseq") [] (codes "jobs") settings)

-- ---- all of it

abbrev pub or_bad_config : Result (List Setting) ℕ → Result (List Setting) Denial
or_bad_config (Ok settings) = Ok settings
or_bad_config (Err line) = Err (Refused (BadConfig line))

-- the settings of a configuration that can be read
unfoldable pub settings_at : World → Result (List Setting) Denial
settings_at w = or_bad_config (config_at w)

-- the same, of one that asks for nothing that is not there
unfoldable pub settings_in : World → Result (List Setting) Denial
settings_in w = do
  settings ← settings_at w
  supported ← are_supported settings
  jobs ← jobs_of settings
  Ok settings
