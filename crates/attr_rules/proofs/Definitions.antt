-- The definitions of all files.
use Rattle.std.proofs.Common.{◌≡◌, ◌<◌, List, [], ◌∷◌, ◌++◌, length, sym, ap, ◌∙◌, arith}
use Rattle.std.proofs.lemmas.List.{append-nil}
use Rattle.attr_rules.specs.declared.macros.Macro.{Macro}
use Rattle.attr_rules.specs.Rules.{RuleFile}
use Rattle.attr_rules.specs.Attributes.{binary, counting, definitions, macros_of}
use Rattle.attr_rules.specs.Known.{AddsAll}

pub all_read : (old new : List Macro) (m : Macro) (rest files : List RuleFile) → length rest < 1
    → old ++ counting old (definitions rest) ≡ macros_of files
    → AddsAll old (m ∷ []) new → m ≡ binary → new ≡ macros_of files
all_read old new m [] files none e adds is =
    sym (append-nil new) ∙ adds.same [] ∙ ap (λ (x : Macro). old ++ counting old (x ∷ [])) is ∙ e
all_read old new m (f ∷ rest) files none e adds is = absurd (omega arith)
