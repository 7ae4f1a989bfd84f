-- gitattributes(5), "DESCRIPTION": the attribute `merge` of a path under rule files, the strongest first.
use Rattle.std.specs.Prelude.{◌≡◌, ℕ, ◌+◌, ◌==◌, false, if◌then◌else◌, List, [], ◌∷◌, Option, Some, None, length, drop, unwrap_or}
use Rattle.std.specs.Option.{option_or}
use Rattle.seq_base.specs.World.{is_below}
use Rattle.attr_rules.specs.declared.attribute.MergeAttr.{MergeAttr}
use Rattle.attr_rules.specs.declared.attribute.MergeAttr.TheVariants.{Unspecified}
use Rattle.attr_rules.specs.declared.rules.Line.{Line}
use Rattle.attr_rules.specs.Rules.{RuleFile}
use Rattle.attr_rules.specs.Attributes.{defines, last_said, said, macros_of}
use Rattle.attr_rules.specs.Matches.{Matches}

-- the path as it is counted from a folder, if it lies below
abbrev pub below : List ℕ → List ℕ → Option (List ℕ)
below folder path =
    if length folder == 0 then Some path
    else if is_below folder path then Some (drop (length folder + 1) path)
    else None

-- a rule for the path, and no definition of a macro
pub record IsFor (line : Line) (path : List ℕ) : Type 0 where
  pub rule : defines line.pattern ≡ false
  pub fits : Matches line.pattern path

-- what a line says of a path, by what its words say
pub record LineSays (says : List ℕ → Option MergeAttr) (path : List ℕ) (line : Line) (found : Option MergeAttr) : Type 0 where
  pub applies : IsFor line path → found ≡ last_said says line.attributes
  pub passed : (IsFor line path → ⊥) → found ≡ None

-- the last line that says anything decides
abbrev pub LinesSay : (List ℕ → Option MergeAttr) → List ℕ → List Line → Option MergeAttr → Type 0
LinesSay says path [] found = found ≡ None
LinesSay says path (line ∷ lines) found =
    (here : Option MergeAttr) × (later : Option MergeAttr) × LineSays says path line here × LinesSay says path lines later
    × (found ≡ option_or later here)

-- what a file says of a path, if that lies below the file's folder
abbrev pub FileSaysAt : (List ℕ → Option MergeAttr) → Option (List ℕ) → List Line → Option MergeAttr → Type 0
FileSaysAt says None lines found = found ≡ None
FileSaysAt says (Some path) lines found = LinesSay says path lines found

abbrev pub FileSays : (List ℕ → Option MergeAttr) → List ℕ → RuleFile → Option MergeAttr → Type 0
FileSays says path file found = FileSaysAt says (below file.folder path) file.lines found

-- the first file that says anything decides
abbrev pub FilesSay : (List ℕ → Option MergeAttr) → List ℕ → List RuleFile → Option MergeAttr → Type 0
FilesSay says path [] found = found ≡ None
FilesSay says path (file ∷ weaker) found =
    (here : Option MergeAttr) × (others : Option MergeAttr) × FileSays says path file here × FilesSay says path weaker others
    × (found ≡ option_or here others)

-- the attribute `merge` of a path under the files; unspecified where none says anything
pub record IsMergeAttr (files : List RuleFile) (path : List ℕ) (attribute : MergeAttr) : Type 0 where
  pub found : Option MergeAttr
  pub say : FilesSay (said (macros_of files)) path files found
  pub is : attribute ≡ unwrap_or found Unspecified
