-- The index of a repository, in its file `.git/index` (gitrepository-layout(5)).
use Rattle.std.specs.Prelude.{List, [], map, codes, Option, Some, None, Result, Ok}
use Rattle.std.specs.FinMap as file
use Rattle.seq_base.specs.Words.{Path, Text}
use Rattle.seq_base.specs.World.{World}
use Rattle.seq_base.specs.declared.map.Entry.{Entry}
use Rattle.index_file.specs.declared.entry.IndexEntry.{IndexEntry}
use Rattle.index_file.specs.declared.fault.IndexFault.{IndexFault}
use Rattle.index_file.specs.Reading.{index_of}

-- a missing file is the empty index
abbrev pub index_in : Option Text → Result (List IndexEntry) IndexFault
index_in None = Ok []
index_in (Some bytes) = index_of bytes

-- the entries that the index file of a world spells, or its first fault
abbrev pub index_at : World → Result (List IndexEntry) IndexFault
index_at w = index_in (file.get w (codes ".git/index"))

-- a map's entries, each merged
abbrev pub indexed : List (Path × Entry) → List IndexEntry
indexed m = map (λ e. record { path = e.0; stage = 0; mode = e.1.mode; id = e.1.id }) m
