-- Why an entry is not put.
use Rattle.std.specs.Prelude.{◌≡◌, Some}
use Rattle.seq_base.specs.Words.{Path}
use Rattle.seq_base.specs.PathMaps.{Entries, first_clash}
use Rattle.seq_base.specs.declared.map.InsertFault.{InsertFault}
use Rattle.seq_base.specs.declared.map.InsertFault.TheVariants.{Clash, Memory}

-- the first path that clashes, or want of memory
abbrev pub IsInsertFault : Entries → Path → InsertFault → Type 0
IsInsertFault es path (Clash other) = first_clash es path ≡ Some other
IsInsertFault es path Memory = Unit {0}
