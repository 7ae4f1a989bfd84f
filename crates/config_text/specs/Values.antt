-- git-config(1), "Syntax" and "Values": the value of a setting. It is a row of parts: bytes, escapes, line ends that join two
-- lines, and double quotes, which have no byte of their own.
use Rattle.std.specs.Prelude.{ℕ, ◌==◌, Bool, false, not, ◌&&◌, ◌||◌, if◌then◌else◌, List, [], ◌∷◌, map, is_some, unwrap_or}
use Rattle.std.specs.List.{list_all}
use Rattle.config_text.specs.Bytes.{is_comment_mark, escaped}
use Rattle.seq_base.specs.Blanks.{is_blank}

pub data Part : Type 0 where
  Byte : ℕ → Part
  Escape : ℕ → Part
  Join : Part
  Quote : Part

abbrev pub part_text : Part → List ℕ
part_text (Byte b) = b ∷ []
part_text (Escape b) = 92 ∷ b ∷ []
part_text Join = 92 ∷ 10 ∷ []
part_text Quote = 34 ∷ []

-- a byte stands for itself: inside quotes also one that else begins a comment
abbrev pub is_itself : Bool → ℕ → Bool
is_itself quoted b = not (b == 10) && not (b == 34) && not (b == 92) && (quoted || not (is_comment_mark b))

-- parts of a value, from inside quotes or from outside; each quote is closed
abbrev pub is_value : Bool → List Part → Bool
is_value quoted [] = not quoted
is_value quoted (Byte b ∷ parts) = is_itself quoted b && is_value quoted parts
is_value quoted (Escape b ∷ parts) = is_some (escaped b) && is_value quoted parts
is_value quoted (Join ∷ parts) = is_value quoted parts
is_value quoted (Quote ∷ parts) = is_value (not quoted) parts

-- a byte of a value, and whether it is a blank outside quotes
pub record Mark : Type 0 where
  pub byte : ℕ
  pub is_loose : Bool

abbrev pub marks : Bool → List Part → List Mark
marks quoted [] = []
marks quoted (Byte b ∷ parts) = record { byte = b; is_loose = not quoted && is_blank b } ∷ marks quoted parts
marks quoted (Escape b ∷ parts) = record { byte = unwrap_or (escaped b) b; is_loose = false } ∷ marks quoted parts
marks quoted (Join ∷ parts) = marks quoted parts
marks quoted (Quote ∷ parts) = marks (not quoted) parts

-- without the blanks outside quotes at the front
abbrev pub without_front : List Mark → List Mark
without_front [] = []
without_front (m ∷ ms) = if m.is_loose then without_front ms else m ∷ ms

-- without those at the end
abbrev pub without_end : List Mark → List Mark
without_end [] = []
without_end (m ∷ ms) = if list_all (λ n. n.is_loose) (m ∷ ms) then [] else m ∷ without_end ms

-- the value that the parts spell
abbrev pub value_of : List Part → List ℕ
value_of parts = map (λ m. m.byte) (without_end (without_front (marks false parts)))
