-- Macros as the program knows them: what setting each says by its list.
use Rattle.std.specs.Prelude.{◌≡◌, ℕ, ◌&&◌, if◌then◌else◌, List, [], ◌∷◌, ◌++◌, Option}
use Rattle.std.specs.Option.{option_or}
use Rattle.std.specs.Str.{bytes_eq}
use Rattle.attr_rules.specs.declared.attribute.MergeAttr.{MergeAttr}
use Rattle.attr_rules.specs.declared.macros.Macro.{Macro}
use Rattle.attr_rules.specs.declared.macros.Known.{Known}
use Rattle.attr_rules.specs.Attributes.{own, is_set, last_said, said, counting}

-- what a word says where these macros are known
abbrev pub told : List Known → List ℕ → Option MergeAttr
told [] word = own word
told (k ∷ ks) word = if is_set word && bytes_eq k.name word then option_or k.says (own word) else told ks word

-- what setting each says, the latest first
abbrev pub known_of : List Macro → List Known
known_of [] = []
known_of (m ∷ earlier) = record { name = m.name; says = last_said (said earlier) m.attributes } ∷ known_of earlier

-- Earlier definitions are added to later ones: what counts with any more is as if all had been read.
pub record AddsAll (old added new : List Macro) : Type 0 where
  pub same : (more : List Macro) → new ++ counting new more ≡ old ++ counting old (added ++ more)
