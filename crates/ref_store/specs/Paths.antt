-- Which files a name leads through.
use Rattle.std.specs.Prelude.{◌≡◌, false, ℕ, zero, suc, Bool, List, [], ◌∷◌, Option, Some, None}
use Rattle.std.specs.FinMap as map
use Rattle.std.specs.List.{list_any}
use Rattle.std.specs.Str.{bytes_eq}
use Rattle.seq_base.specs.RefNames.{IsRefName}
use Rattle.seq_base.specs.Words.{Name, Text}
use Rattle.seq_base.specs.World.{World}
use Rattle.ref_text.specs.declared.head.Head.{Head}
use Rattle.ref_text.specs.declared.head.Head.TheVariants.{Branch, Detached}
use Rattle.ref_text.specs.ReadHeads.{file_of}
use Rattle.ref_text.specs.Refs.{ref_path}
use Rattle.ref_store.specs.Values.{value_at}

abbrev pub behind : (Name → List Name) → Option Head → List Name
behind on (Some (Branch other)) = on other
behind on (Some (Detached id)) = []
behind on None = []

abbrev pub behind_file : (Name → List Name) → Name → Option Text → List Name
behind_file on name (Some text) = behind on (file_of name text)
behind_file on name None = []

-- the names whose files are read for the value of a name, so many at most
abbrev pub chain_of : ℕ → World → Name → List Name
chain_of zero w name = []
chain_of (suc n) w name = name ∷ behind_file (chain_of n w) name (map.get w (ref_path name))

-- the value of the one name is found through the file of the other
abbrev pub leads_through : World → Name → Name → Bool
leads_through w name other = list_any (λ m. bytes_eq m other) (chain_of 6 w name)

-- every name that does not lead through the one keeps its value, or its fault
abbrev pub KeepsOthers : World → World → Name → Type 0
KeepsOthers w after name = (other : Name) → IsRefName other → leads_through w other name ≡ false → value_at after other ≡ value_at w other
