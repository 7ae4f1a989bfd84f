use Rattle.std.proofs.Common.{◌≡◌, ◌∙◌, List, ℕ, ◌∷◌, ap, arith}
use Rattle.attr_rules.specs.declared.macros.Known.{Known}
use Rattle.attr_rules.specs.Attributes.{last_said}
use Rattle.attr_rules.specs.Known.{told}
use Rattle.attr_rules.proofs.Words.{known_more, last_of_all}
use Rattle.attr_rules.proofs.macros.known_macros.Goals as goal

pub loop-rest-preserved : goal.loop-rest-preserved
loop-rest-preserved c = (
  c.earliest-item.result ∷ c.loop-rest.invariant.0,
  last_of_all c.loop-rest.rest.now c.loop-rest.invariant.0 _ c.earliest-item.result (omega arith) c.earliest-item.is c.loop-rest.invariant.1,
  (let says_is : c.in_ok-says.says ≡ last_said (told c.loop-rest.known.items) c.earliest-item.result.attributes =
      c.in_ok-says.ensures
      ∙ ap (λ (ks : List Known). last_said (told ks) c.as_slice-in-len1-up.result.now) c.as_slice.ensures.value
      ∙ ap (λ (text : List ℕ). last_said (told c.loop-rest.known.items) text) c.as_slice-in-len1-up.ensures in
      let name_is : c.in_ok-name.name ≡ c.earliest-item.result.name = c.in_ok-name.ensures ∙ c.as_slice-in-len1-up-2.ensures in
      c.in_ok-insert.ensures.items
      ∙ ap (λ (n : List ℕ). let k : Known = record { name = n; says = c.in_ok-says.says } in k ∷ c.loop-rest.known.items) name_is
      ∙ known_more c.loop-rest.invariant.0 c.loop-rest.known.items c.earliest-item.result c.in_ok-says.says c.loop-rest.invariant.2 says_is),
)
