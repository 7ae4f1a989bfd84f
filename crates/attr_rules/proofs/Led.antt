-- Lists that stand in front of others.
use Rattle.std.proofs.Common.{◌≡◌, List, ◌++◌, Option, Some, None, refl, ap, append_assoc}
use Rattle.attr_rules.specs.Letters.{led_by}

pub led_by_more : {X : Type 0} (xs ys : List X) (rest : Option (List X)) → led_by (xs ++ ys) rest ≡ led_by xs (led_by ys rest)
led_by_more xs ys None = refl
led_by_more xs ys (Some zs) = ap Some (append_assoc xs ys zs)
