-- Which patterns fit a path, as a test, and the attribute `merge` of a path, as a function of the rule files: what `Matches` and
-- `IsMergeAttr` say, computed (gitignore(5), "PATTERN FORMAT"; gitattributes(5), "DESCRIPTION").
use Rattle.std.specs.Prelude.{ℕ, zero, suc, Bool, true, false, if◌then◌else◌, List, [], ◌∷◌, length, Option, Some, None, unwrap_or}
use Rattle.std.specs.Option.{option_and_then, option_map, option_map_or, option_or}
use Rattle.attr_rules.specs.declared.attribute.MergeAttr.{MergeAttr}
use Rattle.attr_rules.specs.declared.attribute.MergeAttr.TheVariants.{Unspecified}
use Rattle.attr_rules.specs.declared.letter.Letter.{Letter}
use Rattle.attr_rules.specs.declared.rules.Line.{Line}
use Rattle.attr_rules.specs.Attributes.{defines, last_said, macros_of, said}
use Rattle.attr_rules.specs.Letters.{letters_from}
use Rattle.attr_rules.specs.Matches.{ends_in_slash, looked_at, without_slash}
use Rattle.attr_rules.specs.MergeAttrs.{below}
use Rattle.attr_rules.specs.Pieces.{Piece, ends_part, piece_at}
use Rattle.attr_rules.specs.Reach.{followed}
use Rattle.attr_rules.specs.Rules.{RuleFile}

-- the pieces take the text
abbrev pub are_taken : List Piece → List ℕ → Bool
are_taken [] [] = true
are_taken [] (b ∷ text) = false
are_taken (p ∷ ps) text = followed p (are_taken ps) text

-- the pieces of letters, of which there are at most so many
unfoldable pub pieces_in : ℕ → Bool → List Letter → Option (List Piece)
pieces_in n begins [] = Some []
pieces_in zero begins (a ∷ rest) = None
pieces_in (suc n) begins (a ∷ rest) =
    option_and_then (λ found. option_map (λ ps. found.0 ∷ ps) (pieces_in n (ends_part found.0) found.1)) (piece_at begins (a ∷ rest))

abbrev pub are_fit : List Letter → List ℕ → Bool
are_fit letters text = option_map_or (λ ps. are_taken ps text) (pieces_in (length letters) true letters) false

-- the path fits the pattern
unfoldable pub is_match : List ℕ → List ℕ → Bool
is_match pattern path =
    if ends_in_slash pattern then false
    else option_map_or (λ letters. are_fit letters (looked_at pattern path)) (letters_from false (without_slash pattern)) false

-- what a line says of a path, by what its words say
abbrev pub line_says : (List ℕ → Option MergeAttr) → List ℕ → Line → Option MergeAttr
line_says says path line = if defines line.pattern then None else if is_match line.pattern path then last_said says line.attributes else None

-- the last line that says anything decides
abbrev pub lines_say : (List ℕ → Option MergeAttr) → List ℕ → List Line → Option MergeAttr
lines_say says path [] = None
lines_say says path (line ∷ lines) = option_or (lines_say says path lines) (line_says says path line)

-- what a file says of a path, if that lies below the file's folder
abbrev pub file_says : (List ℕ → Option MergeAttr) → List ℕ → RuleFile → Option MergeAttr
file_says says path file = option_and_then (λ rest. lines_say says rest file.lines) (below file.folder path)

-- the first file that says anything decides
abbrev pub files_say : (List ℕ → Option MergeAttr) → List ℕ → List RuleFile → Option MergeAttr
files_say says path [] = None
files_say says path (file ∷ weaker) = option_or (file_says says path file) (files_say says path weaker)

-- the attribute `merge` of a path under the files; unspecified where none says anything
unfoldable pub attribute_of : List RuleFile → List ℕ → MergeAttr
attribute_of files path = unwrap_or (files_say (said (macros_of files)) path files) Unspecified
