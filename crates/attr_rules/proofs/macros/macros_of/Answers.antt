use Rattle.std.proofs.Common.{◌≡◌, ◌∙◌, List, ℕ, ap}
use Rattle.attr_rules.specs.declared.macros.Macro.{Macro}
use Rattle.attr_rules.specs.Attributes.{binary}
use Rattle.attr_rules.proofs.Definitions.{all_read}
use Rattle.attr_rules.proofs.macros.macros_of.Goals as goal

pub returns : goal.returns
returns c =
    let m : Macro = record { name = c.in_ok-bytes_of.field-0; attributes = c.in_ok-bytes_of-2.field-0 } in
    let named : m ≡ record m { name = binary.name } = ap (λ (n : List ℕ). let k : Macro = record m { name = n } in k) c.in_ok-bytes_of.ensures in
    let is : m ≡ binary = named ∙ ap (λ (a : List ℕ). let k : Macro = record { name = binary.name; attributes = a } in k) c.in_ok-bytes_of-2.ensures in
    all_read c.loop-rest.macros.items c.add_macro.new.macros.items m c.loop-rest.rest.now c.args.files.now c.in_default.len_below c.loop-rest.invariant c.in_ok-add_macro.ensures is
