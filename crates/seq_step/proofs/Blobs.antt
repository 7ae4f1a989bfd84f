-- Blobs that are put, one after another.
use Rattle.std.proofs.Common.{◌≡◌, ◌-◌, ◌<◌, List, [], ◌∷◌, length, take, drop, get_or, Ok, Err, refl, sym, ap, arith, ◌∙◌}
use Rattle.seq_base.specs.Words.{Text}
use Rattle.seq_base.specs.World.{World}
use Rattle.seq_outside.proofs.Firsts.{first_and_others}
use Rattle.seq_outside.specs.Turns.{Turns}
use Rattle.seq_outside.specs.declared.halt.Halt.{Halt}
use Rattle.seq_outside.specs.declared.halt.Halt.TheVariants.{Stops, Fault, Memory}
use Rattle.seq_outside.specs.declared.lack.Lack.{Lack}
use Rattle.line_steps.specs.Writing.{blob_put, blobs_put}

-- what is left to put comes to what there was
abbrev pub SamePuts : World → World → List Text → List Text → Type 0
SamePuts start now all rest = blobs_put rest now ≡ blobs_put all start

puts_on : (now next : World) (text : Text) (texts : List Text) → blob_put text now ≡ (Ok tt, next)
    → blobs_put (text ∷ texts) now ≡ blobs_put texts next
unfolding blobs_put
puts_on now next text texts is = rw is refl

puts_stop : (now next : World) (text : Text) (texts : List Text) (why : Lack) → blob_put text now ≡ (Err why, next)
    → blobs_put (text ∷ texts) now ≡ (Err why, next)
unfolding blobs_put
puts_stop now next text texts why is = rw is refl

pub puts_more : (start now next : World) (all rest : List Text) (text : Text) → SamePuts start now all rest → 0 < length rest
    → text ≡ get_or rest 0 text
    → blob_put text now ≡ (Ok tt, next) → SamePuts start next all (take (length rest - 1) (drop 1 rest))
puts_more start now next all rest text same some first is =
    sym (puts_on now next text (take (length rest - 1) (drop 1 rest)) is) ∙ ap (λ (texts : List Text). blobs_put texts now) (sym (first_and_others rest text some first)) ∙ same

pub puts_stopped : (start now next : World) (all rest : List Text) (text : Text) (halt : Halt Lack) → SamePuts start now all rest → 0 < length rest
    → text ≡ get_or rest 0 text
    → Turns {X = Unit {0}} {Y = Unit {0}} (λ x. x) (Err halt) (blob_put text now) next → Turns {X = Unit {0}} {Y = Unit {0}} (λ x. x) (Err halt) (blobs_put all start) next
puts_stopped start now next all rest text (Stops why) same some first is =
    sym same ∙ ap (λ (texts : List Text). blobs_put texts now) (first_and_others rest text some first) ∙ puts_stop now next text (take (length rest - 1) (drop 1 rest)) why is
puts_stopped start now next all rest text Fault same some first is = tt
puts_stopped start now next all rest text Memory same some first is = tt

no_texts : (texts : List Text) → length texts ≡ 0 → texts ≡ []
no_texts [] none = refl
no_texts (text ∷ texts) none = let no : ⊥ = omega (arith, none) in absurd no

none_put : (now : World) → blobs_put [] now ≡ (Ok tt, now)
unfolding blobs_put
none_put now = refl

pub all_put : (start now : World) (all rest : List Text) → SamePuts start now all rest → length rest ≡ 0 → blobs_put all start ≡ (Ok tt, now)
all_put start now all rest same none = sym same ∙ ap (λ (texts : List Text). blobs_put texts now) (no_texts rest none) ∙ none_put now
