-- The file `packed-refs` (git-pack-refs(1); gitrepository-layout(5), "packed-refs").
use Rattle.std.specs.Prelude.{◌≡◌, Bool, true, false, not, ◌==◌, List, [], ◌∷◌, ◌++◌}
use Rattle.std.specs.List.{list_all, flat_map}
use Rattle.hex.specs.Hex.{encode_lower}
use Rattle.seq_base.specs.Words.{Id, Name, Text}
use Rattle.seq_base.specs.Ids.{SpellsId}
use Rattle.seq_base.specs.RefNames.{IsRefName}

-- a comment, behind its `#`; a name and its digits; the digits of what the tag of the line before points to
pub data PackedLine : Type 0 where
  comment : Text → PackedLine
  named : Text → Name → PackedLine
  peeled : Text → PackedLine

-- a line, with its line feed
abbrev pub line_text : PackedLine → Text
line_text (comment text) = 35 ∷ text ++ 10 ∷ []
line_text (named digits name) = digits ++ 32 ∷ name ++ 10 ∷ []
line_text (peeled digits) = 94 ∷ digits ++ 10 ∷ []

-- The lines are those of these refs, in their order; after is whether a name stands right before, so that it may be peeled.
abbrev pub AreLines : Bool → List (Name × Id) → List PackedLine → Type 0
AreLines after [] [] = Unit {0}
AreLines after (r ∷ refs) [] = ⊥
AreLines after refs (comment text ∷ lines) = (list_all (λ b. not (b == 10)) text ≡ true) × AreLines false refs lines
AreLines after refs (peeled digits ∷ lines) = (after ≡ true) × ((id : Id) × SpellsId id digits) × AreLines false refs lines
AreLines after [] (named digits name ∷ lines) = ⊥
AreLines after (r ∷ refs) (named digits name ∷ lines) = (r.0 ≡ name) × IsRefName name × SpellsId r.1 digits × AreLines true refs lines

-- the text is that of these refs
pub record IsPacked (refs : List (Name × Id)) (text : Text) : Type 0 where
  pub lines : List PackedLine
  pub are_lines : AreLines false refs lines
  pub text_is : text ≡ flat_map line_text lines

-- each is the name of a ref
abbrev pub ArePackedNames : List (Name × Id) → Type 0
ArePackedNames [] = Unit {0}
ArePackedNames (r ∷ refs) = IsRefName r.0 × ArePackedNames refs

-- the text that is written: a line for each, without comments and without what tags point to
abbrev pub packed_text : List (Name × Id) → Text
packed_text refs = flat_map (λ r. encode_lower r.1 ++ 32 ∷ r.0 ++ 10 ∷ []) refs
