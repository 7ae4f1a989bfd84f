-- Writes that are made one after another, as far as they were made.
use Rattle.std.proofs.Common.{◌≡◌, inl, inr, false, List, [], ◌∷◌, Ok, Err, refl, sym, subst, ◌∙◌}
use Rattle.std.specs.FinMap as map
use Rattle.std.proofs.lemmas.Bool.{or_parts}
use Rattle.seq_base.specs.Words.{Path}
use Rattle.seq_base.specs.World.{World}
use Rattle.seq_outside.specs.Turns.{Turns}
use Rattle.seq_outside.specs.declared.halt.Halt.{Halt}
use Rattle.seq_outside.specs.declared.halt.Halt.TheVariants.{Stops, Fault, Memory}
use Rattle.seq_outside.specs.declared.lack.Lack.{Lack}
use Rattle.seq_outside.specs.declared.write.Write.{Write}
use Rattle.seq_outside.specs.Writes.{IsFront, StepLeaves, after, is_at, is_written}
use Rattle.seq_outside.proofs.Written.{Way, goes_on, on_the_way}
use Rattle.worktree.specs.Switches.{write_made, writes_made}

-- from here the rest leaves what all leave from the start
pub record LeftOver (start now : World) (all rest : List Write) : Type 0 where
  pub means : writes_made all start ≡ writes_made rest now
  pub way : Way start now all rest
  pub elsewhere : (path : Path) → is_written all path ≡ false → (map.get now path ≡ map.get start path) × (is_written rest path ≡ false)

one_made : (now next : World) (write : Write) (rest : List Write) → write_made write now ≡ (Ok tt, next)
    → writes_made (write ∷ rest) now ≡ writes_made rest next
unfolding writes_made
one_made now next write rest made = rw made refl

pub one_left : (start now next : World) (all rest : List Write) (write : Write) → LeftOver start now all (write ∷ rest)
    → write_made write now ≡ (Ok tt, next)
    → next ≡ after now write → ((path : Path) → is_at path write ≡ false → map.get next path ≡ map.get now path) → LeftOver start next all rest
one_left start now next all rest write left made is other = record {
  means = left.means ∙ one_made now next write rest made;
  way = subst (λ (w : World). Way start w all rest) (sym is) (goes_on start now all write rest left.way);
  elsewhere = λ path none.
      let here = left.elsewhere path none in
      let both = or_parts (is_at path write) (is_written rest path) here.1 in
      (other path both.0 ∙ here.0, both.1);
}

-- where one stops all do
stopped : (now next : World) (write : Write) (rest : List Write) (why : Lack) → write_made write now ≡ (Err why, next)
    → writes_made (write ∷ rest) now ≡ (Err why, next)
unfolding writes_made
stopped now next write rest why is = rw is refl

pub one_stopped : (start now next : World) (all rest : List Write) (write : Write) (halt : Halt Lack) → LeftOver start now all (write ∷ rest)
    → Turns {X = Unit {0}} {Y = Unit {0}} (λ x. x) (Err halt) (write_made write now) next
    → Turns {X = Unit {0}} {Y = Unit {0}} (λ x. x) (Err halt) (writes_made all start) next
one_stopped start now next all rest write (Stops why) left is = left.means ∙ stopped now next write rest why is
one_stopped start now next all rest write Fault left is = tt
one_stopped start now next all rest write Memory left is = tt

-- a front was made, whatever ended the last one
pub front_stopped : (start now next : World) (all rest : List Write) (write : Write) (halt : Halt Lack) → LeftOver start now all (write ∷ rest)
    → StepLeaves {X = Unit {0}} (Err halt) now write next → IsFront start all next
front_stopped start now next all rest write halt left leaves = at halt leaves
  where
    here : next ≡ now → IsFront start all next
    here same = subst (IsFront start all) (sym same) (on_the_way start now all (write ∷ rest) left.way)

    at : (halt : Halt Lack) → StepLeaves {X = Unit {0}} (Err halt) now write next → IsFront start all next
    at (Stops why) same = here same
    at Fault (inl same) = here same
    at Fault (inr is) = subst (IsFront start all) (sym is) (on_the_way start (after now write) all rest (goes_on start now all write rest left.way))
    at Memory same = here same

pub all_made : (start now : World) (all : List Write) → LeftOver start now all [] → IsFront start all now
all_made start now all left = on_the_way start now all [] left.way

pub none_left : (start now : World) (all : List Write) → LeftOver start now all [] → writes_made all start ≡ (Ok tt, now)
unfolding writes_made
none_left start now all left = left.means
