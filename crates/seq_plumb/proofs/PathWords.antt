-- Which words are paths, as a test.
use Rattle.std.proofs.Common.{◌≡◌, ℕ, ◌<◌, ◌≤◌, ◌==◌, ◌&&◌, nat_lt, Bool, true, false, not, List, length, refl, ap, subst, arith}
use Rattle.std.specs.Prelude.{is_none}
use Rattle.std.proofs.lemmas.Bool.Decides.{nat_tests}
use Rattle.seq_base.specs.Paths.{IsPath, IsPathFault}
use Rattle.seq_base.specs.StorePaths.{is_text}
use Rattle.seq_base.specs.declared.path.PathFault.{PathFault}
use Rattle.seq_base.specs.declared.path.PathFault.TheVariants.{Empty, TooLong, NotUtf8, BadPart, Memory}
use Rattle.seq_base.proofs.Texts.{is_text-other, is_text-utf8}
use Rattle.seq_plumb.specs.Named.{is_path}

some : (n : ℕ) → 0 < n → not (n == 0) ≡ true
some n h = grind (arith, h)

short : (n : ℕ) → n ≤ 4095 → not (nat_lt 4095 n) ≡ true
short n h = grind (arith, nat_tests)

long : (n : ℕ) → 4095 < n → nat_lt 4095 n ≡ true
long n h = grind (arith, nat_tests)

pub path_is : (word : List ℕ) → IsPath word → is_path word ≡ true
path_is word path = rw (some (length word) path.some, short (length word) path.short, is_text-utf8 word path.text, path.parts_are) refl

-- a test that fails last
last_false : (a b : Bool) → b ≡ false → (a && b) ≡ false
last_false true b h = h
last_false false b h = refl

-- one that fails before
front_false : (a b : Bool) → a ≡ false → (a && b) ≡ false
front_false true b h = absurd cc
front_false false b h = refl

pub fault_is : (word : List ℕ) (fault : PathFault) → IsPathFault word fault → is_path word ≡ false
fault_is word Empty is =
    front_false (not (length word == 0) && not (nat_lt 4095 (length word)) && is_text word) _ (front_false (not (length word == 0) && not (nat_lt 4095 (length word))) _ (front_false (not (length word == 0)) _ (rw is refl)))
fault_is word (TooLong n) is =
    front_false (not (length word == 0) && not (nat_lt 4095 (length word)) && is_text word) _ (front_false (not (length word == 0) && not (nat_lt 4095 (length word))) _ (last_false (not (length word == 0)) _ (ap not (long (length word) (subst (λ (m : ℕ). 4095 < m) is.0 is.1)))))
fault_is word (NotUtf8 at) is =
    front_false (not (length word == 0) && not (nat_lt 4095 (length word)) && is_text word) _ (last_false (not (length word == 0) && not (nat_lt 4095 (length word))) _ (is_text-other word is.2))
fault_is word (BadPart at) is = last_false (not (length word == 0) && not (nat_lt 4095 (length word)) && is_text word) _ (ap is_none is.3)
fault_is word Memory is = absurd is

pub ruleset path_tests = (path_is, fault_is)
