-- The files of a list are looked at by no line: in worlds that are alike but for them the same comes of it. (Labels are no such files: a name may
-- lead to one.)
use Rattle.std.specs.Prelude.{◌≡◌, false, List, [], ◌∷◌}
use Rattle.std.specs.FinMap as map
use Rattle.seq_base.specs.Words.{Path}
use Rattle.seq_base.specs.World.{World}
use Rattle.seq_outside.specs.Doing.{Does, Step}
use Rattle.seq_outside.specs.Tape.{Ask, Coming}
use Rattle.reading.specs.State.{is_list_file}

-- two worlds are alike but for the files of a list
abbrev pub Alike : World → World → Type 0
Alike a b = (path : Path) → is_list_file path ≡ false → map.get a path ≡ map.get b path

-- what is read is the same in such worlds
abbrev pub ReadsApart : {X : Type 0} → (World → X) → Type 0
ReadsApart read = (a b : World) → Alike a b → read a ≡ read b

-- ---- steps

-- the same jobs are handed in, over such worlds
abbrev pub AreAskedAlike : List Ask → List Ask → Type 0
AreAskedAlike [] [] = Unit {0}
AreAskedAlike (x ∷ xs) (y ∷ ys) = (x.job ≡ y.job) × Alike x.over y.over × AreAskedAlike xs ys
AreAskedAlike [] (y ∷ ys) = ⊥
AreAskedAlike (x ∷ xs) [] = ⊥

abbrev pub AllAskedAlike : List (List Ask) → List (List Ask) → Type 0
AllAskedAlike [] [] = Unit {0}
AllAskedAlike (x ∷ xs) (y ∷ ys) = AreAskedAlike x y × AllAskedAlike xs ys
AllAskedAlike [] (y ∷ ys) = ⊥
AllAskedAlike (x ∷ xs) [] = ⊥

abbrev pub AsksAlike : (List (List Ask) → List (List Ask)) → (List (List Ask) → List (List Ask)) → Type 0
AsksAlike a b = (more others : List (List Ask)) → AllAskedAlike more others → AllAskedAlike (a more) (b others)

-- two steps end alike, in such worlds
pub record EndsAlike {P E X : Type 0} (a b : Step P E X) : Type 0 where
  pub end : a.end ≡ b.end
  pub world : Alike a.spot.world b.spot.world
  pub place : a.spot.place ≡ b.spot.place
  pub coming : a.coming ≡ b.coming
  pub asked : AsksAlike a.asked b.asked

-- from such worlds a step ends alike
abbrev pub GoesApart : {P E X : Type 0} → Does P E X → Type 0
GoesApart {P} does = (a b : World) (place : P) (coming : Coming) → Alike a b
    → EndsAlike (does (record { world = a; place = place }) coming) (does (record { world = b; place = place }) coming)
