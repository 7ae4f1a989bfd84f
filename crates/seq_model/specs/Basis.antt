-- What every command looks at once there is a repository: HEAD and the packed refs, the configuration, and the index
-- (gitrepository-layout(5); gitformat-index(5)).
use Rattle.std.specs.Prelude.{ℕ, not, nat_lt, List, length, if◌then◌else◌, Option, Result, Ok, Err}
use Rattle.std.specs.List.{find}
use Rattle.std.specs.Option.{option_map}
use Rattle.config_text.specs.declared.config.Setting.{Setting}
use Rattle.index_file.specs.Index.{index_at}
use Rattle.index_file.specs.declared.entry.IndexEntry.{IndexEntry}
use Rattle.index_file.specs.declared.fault.IndexFault.{IndexFault}
use Rattle.seq_base.specs.Words.{Path}
use Rattle.seq_base.specs.World.{World}
use Rattle.seq_outside.specs.Halts.{◌>>=◌}
use Rattle.seq_outside.specs.declared.limit.LimitWhat.TheVariants.{IndexEntries}
use Rattle.stage_index.specs.Stages.{is_merged}
use Rattle.seq_model.specs.Checks.{place_in}
use Rattle.seq_model.specs.Settings.{settings_in}
use Rattle.seq_model.specs.declared.denial.Denial.{Denial}
use Rattle.seq_model.specs.declared.denial.Denial.TheVariants.{Refused, Limit}
use Rattle.seq_model.specs.declared.place.Place.{Place}
use Rattle.seq_model.specs.declared.refusal.Refusal.TheVariants.{BadIndex}

-- the most entries that an index may have
abbrev pub index_limit : ℕ
index_limit = 1048576

abbrev pub or_bad_index : Result (List IndexEntry) IndexFault → Result (List IndexEntry) Denial
or_bad_index (Ok entries) = Ok entries
or_bad_index (Err fault) = Err (Refused (BadIndex fault))

-- the entries of the index
unfoldable pub index_named : World → Result (List IndexEntry) Denial
index_named w = do
  entries ← or_bad_index (index_at w)
  if nat_lt index_limit (length entries) then Err (Limit IndexEntries (length entries)) else Ok entries

-- the first path that is not merged, which is the least
unfoldable pub unmerged : List IndexEntry → Option Path
unmerged index = option_map (λ e. e.path) (find (λ e. not (is_merged e)) index)

-- what a command stands on
pub record Basis : Type 0 where
  pub place : Place
  pub settings : List Setting
  pub index : List IndexEntry

unfoldable pub basis_at : World → Result Basis Denial
basis_at w = do
  place ← place_in w
  settings ← settings_in w
  index ← index_named w
  Ok (record { place = place; settings = settings; index = index })
