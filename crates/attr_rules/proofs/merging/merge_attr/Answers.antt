use Rattle.std.proofs.Common.{◌≡◌, ◌∙◌, List, ℕ, Option, ap, subst}
use Rattle.attr_rules.specs.declared.attribute.MergeAttr.{MergeAttr}
use Rattle.attr_rules.specs.Attributes.{said, macros_of}
use Rattle.attr_rules.specs.Known.{told}
use Rattle.attr_rules.specs.MergeAttrs.{FilesSay, IsMergeAttr}
use Rattle.attr_rules.proofs.Deciding.{attribute_is}
use Rattle.attr_rules.proofs.Words.{tells}
use Rattle.attr_rules.proofs.merging.merge_attr.Goals as goal

pub returns : goal.returns
returns c =
    let same : told c.as_slice.result.now ≡ said (macros_of c.args.files.now) = ap told (c.as_slice.ensures.value ∙ c.in_ok-known.ensures) ∙ tells (macros_of c.args.files.now) in
    let at_path : FilesSay (told c.as_slice.result.now) c.args.path.now c.args.files.now c.in_ok-found.found =
    subst (λ (path : List ℕ). FilesSay (told c.as_slice.result.now) path c.args.files.now c.in_ok-found.found) c.bytes.ensures.same c.in_ok-found.ensures in
    let all : IsMergeAttr c.args.files.now c.args.path.now c.unwrap_or.result = record {
      found = c.in_ok-found.found;
      say = subst (λ (says : List ℕ → Option MergeAttr). FilesSay says c.args.path.now c.args.files.now c.in_ok-found.found) same at_path;
      is = c.unwrap_or.ensures;
    } in
    record { said = all; is = attribute_is c.args.files.now c.args.path.now c.unwrap_or.result all }
