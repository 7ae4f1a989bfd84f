-- What the pieces of the program stand for.
use Rattle.std.specs.Prelude.{List}
use Rattle.std.specs.Borrow.{Bor}
use Rattle.attr_rules.specs.declared.letter.Letter.{Letter}
use Rattle.attr_rules.specs.declared.piece.Piece as coded
use Rattle.attr_rules.specs.declared.piece.Piece.TheVariants as variants
use Rattle.attr_rules.specs.Pieces.{Piece, Byte, AnyByte, OneOf, Star, Folders, Everything}

-- the piece
abbrev pub piece_of : coded.Piece → Piece
piece_of (variants.Byte c) = Byte c
piece_of variants.AnyByte = AnyByte
piece_of (variants.OneOf negated members) = OneOf negated members.now
piece_of variants.Star = Star
piece_of variants.Folders = Folders
piece_of variants.Everything = Everything

-- the piece and the letters behind it
abbrev pub cut_of : coded.Piece × Bor (List Letter) → Piece × List Letter
cut_of found = (piece_of found.0, found.1.now)
