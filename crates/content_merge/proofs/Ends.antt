-- A list that stands backwards, taken from its end; and the ends of drivers, path by path.
use Rattle.std.proofs.Common.{◌≡◌, ℕ, ◌-◌, ◌<◌, List, [], ◌∷◌, ◌++◌, Option, Some, None, refl, sym, ap, ◌∙◌, append_assoc, arith, drop, get_or, length, reverse, take}
use Rattle.std.specs.Prelude.{IsSome}
use Rattle.std.specs.List.{cons_option, filter_map, flat_map}
use Rattle.std.specs.Option.{option_to_list}
use Rattle.std.proofs.Math.Seq.{take-length}
use Rattle.std.proofs.lemmas.List.{append-nil, reverse-append}
use Rattle.driver_pool.specs.declared.end.DriverEnd.{DriverEnd}
use Rattle.tree_merge.specs.declared.plans.Planned.{Planned}
use Rattle.content_merge.specs.Fates.{all_settled, ends_by_path, first_end, first_of, later_ends, settled}
use Rattle.content_merge.specs.declared.fates.Settled.{Settled}

-- what is taken from the end stands first
pub pops : {X : Type 0} (old new : List X) (x : X) → old ≡ new ++ x ∷ [] → reverse old ≡ x ∷ reverse new
pops old new x is = ap reverse is ∙ reverse-append new (x ∷ [])

pub settles_next : {Driver : Type 0} (row : Planned) (rows : List Planned) (drivers : List (Option Driver)) (ends : List DriverEnd)
    → all_settled (row ∷ rows) (ends_by_path drivers ends) ≡ settled row (first_end drivers ends) ∷ all_settled rows (ends_by_path (drop 1 drivers) (later_ends drivers ends))
settles_next row rows [] ends = refl
settles_next row rows (None ∷ drivers) ends = refl
settles_next row rows (Some template ∷ drivers) [] = refl
settles_next row rows (Some template ∷ drivers) (end ∷ ends) = refl

-- a list is its first and what follows
pub first_and_others : {X : Type 0} (whole : List X) (x : X) → 0 < length whole → x ≡ get_or whole 0 x → whole ≡ x ∷ drop 1 whole
first_and_others [] x some is = absurd (omega (arith, some))
first_and_others {X = X} (y ∷ rest) x some is = ap (λ (z : X). z ∷ rest) (sym is)

pub others_are : {X : Type 0} (whole : List X) → take (length whole - 1) (drop 1 whole) ≡ drop 1 whole
others_are [] = refl
others_are {X = X} (y ∷ rest) =
    let one : length (y ∷ rest) - 1 ≡ length rest = omega arith in
    ap (λ (k : ℕ). take k rest) one ∙ take-length rest

-- one row more is settled, of those that are left
module _ {Driver : Type 0} (row : Planned) (whole rest : List Planned) (driven driven' : List (Option Driver)) (left left' : List DriverEnd) where
  pub settles_on : (now front all : List Settled) (one : Settled) → whole ≡ row ∷ drop 1 whole → rest ≡ drop 1 whole
      → one ≡ settled row (first_end driven (reverse left)) → now ≡ front ++ one ∷ [] → driven' ≡ drop 1 driven
      → reverse left' ≡ later_ends driven (reverse left) → front ++ all_settled whole (ends_by_path driven (reverse left)) ≡ all
      → now ++ all_settled rest (ends_by_path driven' (reverse left')) ≡ all
  settles_on now front all one first others is adds next later so_far =
      ap (λ (xs : List Settled). xs ++ all_settled rest (ends_by_path driven' (reverse left'))) adds
      ∙ append_assoc front (one ∷ []) (all_settled rest (ends_by_path driven' (reverse left')))
      ∙ (λ i. front ++ is i ∷ all_settled (others i) (ends_by_path (next i) (later i)))
      ∙ ap (λ (xs : List Settled). front ++ xs) (sym (settles_next row (drop 1 whole) driven (reverse left)))
      ∙ ap (λ (rows : List Planned). front ++ all_settled rows (ends_by_path driven (reverse left))) (sym first)
      ∙ so_far

-- what a row adds, if it adds something, stands before what the others add
pub adds_next : {X : Type 0} (front rest : List X) (x : Option X) → (front ++ option_to_list x) ++ rest ≡ front ++ cons_option x rest
adds_next {X = X} front rest None = ap (λ (xs : List X). xs ++ rest) (append-nil front)
adds_next {X = X} front rest (Some x) = append_assoc front (x ∷ []) rest

-- what one row more adds, of rows that are taken from the end of a list that stands backwards
module _ {X Y : Type 0} (front now all : List Y) (old new : List X) (x : X) (is : old ≡ new ++ x ∷ []) where
  pub more_mapped : (f : X → Option Y) → now ≡ front ++ option_to_list (f x) → front ++ filter_map f (reverse old) ≡ all
      → now ++ filter_map f (reverse new) ≡ all
  more_mapped f adds so_far =
      ap (λ (xs : List Y). xs ++ filter_map f (reverse new)) adds
      ∙ adds_next front (filter_map f (reverse new)) (f x)
      ∙ ap (λ (xs : List X). front ++ filter_map f xs) (sym (pops old new x is))
      ∙ so_far

  pub more_flat : (f : X → List Y) → now ≡ front ++ f x → front ++ flat_map f (reverse old) ≡ all → now ++ flat_map f (reverse new) ≡ all
  more_flat f adds so_far =
      ap (λ (xs : List Y). xs ++ flat_map f (reverse new)) adds
      ∙ append_assoc front (f x) (flat_map f (reverse new))
      ∙ ap (λ (xs : List X). front ++ flat_map f xs) (sym (pops old new x is))
      ∙ so_far

-- what is taken from the end, if anything is, and what is left
pub record Popped {X : Type 0} (old new : List X) (taken : Option X) : Type 0 where
  pub first : taken ≡ first_of (reverse old)
  pub rest : reverse new ≡ drop 1 (reverse old)

pub popped : {X : Type 0} (old new : List X) (taken : Option X) → old ≡ new ++ option_to_list taken → (0 < length old → IsSome taken)
    → Popped old new taken
popped {X} [] new None is some = let gone : new ≡ [] = sym (append-nil new) ∙ sym is in record { first = refl; rest = ap reverse gone }
popped {X} (x ∷ old) new None is some = let e = some (omega arith) in absurd cc
popped {X} old new (Some x) is some =
    let next = pops old new x is in
    record { first = ap (λ (xs : List X). first_of xs) (sym next); rest = ap (λ (xs : List X). drop 1 xs) (sym next) }
