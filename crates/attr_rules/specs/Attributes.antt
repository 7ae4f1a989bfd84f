-- gitattributes(5), "DESCRIPTION" and "DEFINING MACRO ATTRIBUTES": what the attributes of a rule say of `merge`.
use Rattle.std.specs.Prelude.{ℕ, ◌==◌, nat_lt, Bool, false, not, ◌&&◌, if◌then◌else◌, List, [], ◌∷◌, ◌++◌, Option, Some, None, length, drop, codes, reverse}
use Rattle.std.specs.Option.{option_or}
use Rattle.std.specs.List.{list_any, slice_split, filter_map, before_first, after_first, starts_with}
use Rattle.std.specs.Str.{bytes_eq}
use Rattle.attr_rules.specs.declared.attribute.MergeAttr.{MergeAttr}
use Rattle.attr_rules.specs.declared.attribute.MergeAttr.TheVariants.{Unspecified, Set, Unset, Named}
use Rattle.attr_rules.specs.declared.rules.Line.{Line}
use Rattle.attr_rules.specs.declared.macros.Macro.{Macro}
use Rattle.attr_rules.specs.Names.{is_equals}
use Rattle.attr_rules.specs.Rules.{RuleFile}
use Rattle.seq_base.specs.Blanks.{is_blank}

abbrev pub has_equals : List ℕ → Bool
has_equals word = list_any is_equals word

-- a word with no sign and no value
abbrev pub is_set : List ℕ → Bool
is_set [] = false
is_set (b ∷ name) = not (b == 45) && not (b == 33) && not (has_equals (b ∷ name))

abbrev pub if_merge : MergeAttr → List ℕ → Option MergeAttr
if_merge attribute name = if bytes_eq name (codes "merge") then Some attribute else None

-- `name=value`, or `name`
abbrev pub valued : List ℕ → Option MergeAttr
valued word =
    if has_equals word then if_merge (Named (after_first is_equals word)) (before_first is_equals word)
    else if_merge Set word

-- what a word says by itself
abbrev pub own : List ℕ → Option MergeAttr
own [] = None
own (b ∷ name) =
    if b == 45 then if_merge Unset name
    else if b == 33 then if_merge Unspecified name
    else valued (b ∷ name)

abbrev pub last_in : {Y : Type 0} → List Y → Option Y
last_in [] = None
last_in (y ∷ ys) = option_or (last_in ys) (Some y)

-- what the last of the words says that says anything
abbrev pub last_said : (List ℕ → Option MergeAttr) → List ℕ → Option MergeAttr
last_said says text = last_in (filter_map says (slice_split is_blank text))

-- What a word says where these macros are defined, the latest first. A word that sets a macro says what the macro's list
-- says, in which the macros defined earlier stand for their lists.
unfoldable pub said : List Macro → List ℕ → Option MergeAttr
said [] word = own word
said (m ∷ earlier) word =
    if is_set word && bytes_eq m.name word then option_or (last_said (said earlier) m.attributes) (own word)
    else said earlier word

-- ---- which macros are defined

-- `[attr]` and a name in place of a pattern
abbrev pub defines : List ℕ → Bool
defines pattern = starts_with (λ a b. a == b) pattern (codes "[attr]") && nat_lt 6 (length pattern)

abbrev pub macro_of : Line → Option Macro
macro_of line =
    if defines line.pattern then Some (record { name = drop 6 line.pattern; attributes = line.attributes }) else None

-- the macro that needs no definition
abbrev pub binary : Macro
binary = record { name = codes "binary"; attributes = codes "-diff -merge -text" }

-- the definitions of the files without a folder, the latest first
abbrev pub definitions : List RuleFile → List Macro
definitions [] = binary ∷ []
definitions (file ∷ weaker) =
    if length file.folder == 0 then filter_map macro_of (reverse file.lines) ++ definitions weaker
    else definitions weaker

abbrev pub is_named_in : List Macro → List ℕ → Bool
is_named_in macros name = list_any (λ m. bytes_eq m.name name) macros

-- the definitions that count, the last of each name alone
abbrev pub counting : List Macro → List Macro → List Macro
counting later [] = []
counting later (m ∷ earlier) =
    if is_named_in later m.name then counting later earlier
    else m ∷ counting (later ++ m ∷ []) earlier

abbrev pub macros_of : List RuleFile → List Macro
macros_of files = counting [] (definitions files)
