-- Runs over a text: where they stop, and that each may still come to an end.
use Rattle.std.proofs.Common.{◌≡◌, ℕ, suc, Bool, true, false, cond, eqb, List, [], ◌∷◌, ◌++◌, length, Option, Some, None, Result, Ok, Err, refl, sym, ap, subst, ◌∙◌, arith}
use Rattle.std.specs.Prelude.{is_ok}
use Rattle.std.proofs.lemmas.Bool.{ne_eqb}
use Rattle.grammar.specs.Grammar.{AllBytes}
use Rattle.config_text.specs.declared.config.Setting.{Setting}
use Rattle.config_text.specs.declared.place.Place.{Place}
use Rattle.config_text.specs.declared.place.Place.TheVariants.{Start, Indented, Section, BehindSection, Sub, SubEscape, BehindSub, BehindHeader, Key, BehindKey, Value, ValueEscape, Quoted, QuotedEscape, Comment}
use Rattle.config_text.specs.Reading.{State, step, may_return}
use Rattle.config_text.specs.Returns.{Front, fed, settled, unreturned, then_feed, feed, close, or_end, going, read_from}

abbrev pub st : Place → List Setting → List ℕ → List ℕ → List ℕ → List ℕ → List ℕ → State
st place settings section sub key value blanks =
    record { place = place; settings = settings; section = section; sub = sub; key = key; value = value; blanks = blanks }

-- ---- where a run stops

-- behind these bytes
abbrev pub ran : Option Front → List ℕ → Option Front
ran None bs = None
ran (Some f) [] = Some f
ran (Some f) (b ∷ bs) = ran (feed f b) bs

abbrev pub IsDead : Front → List ℕ → Type 0
IsDead f [] = close f ≡ None
IsDead f (b ∷ bs) = feed f b ≡ None

pub record Failing (f : Front) (bytes : List ℕ) (left : ℕ) : Type 0 where
  pub front : List ℕ
  pub back : List ℕ
  pub now : Front
  pub parts : bytes ≡ front ++ back
  pub left_is : length back ≡ left
  pub went : ran (Some f) front ≡ Some now
  pub dead : IsDead now back

some_is : {A : Type 0} (x y : A) (o : Option A) → o ≡ Some x → o ≡ Some y → x ≡ y
some_is x y o e d = cc

pub failing : (f : Front) (bytes : List ℕ) (left : ℕ) → read_from f bytes ≡ Err left → Failing f bytes left
unfolding read_from
failing f [] left e = at (close f) refl e
  where
    at : (o : Option (List Setting)) → close f ≡ o → or_end o ≡ Err left → Failing f [] left
    at None is e = record { front = []; back = []; now = f; parts = refl; left_is = cc; went = refl; dead = is }
    at (Some x) is e = absurd cc
failing f (b ∷ bs) left e = at (feed f b) refl e (λ g d. failing g bs left d)
  where
    at : (o : Option Front) → feed f b ≡ o → going o (suc (length bs)) (λ g. read_from g bs) ≡ Err left
        → ((g : Front) → read_from g bs ≡ Err left → Failing g bs left) → Failing f (b ∷ bs) left
    at None is e more = record { front = []; back = b ∷ bs; now = f; parts = refl; left_is = cc; went = refl; dead = is }
    at (Some g) is e more =
        let k = more g e in
        record {
          front = b ∷ k.front;
          back = k.back;
          now = k.now;
          parts = ap (λ (t : List ℕ). b ∷ t) k.parts;
          left_is = k.left_is;
          went = ap (λ (o : Option Front). ran o k.front) is ∙ k.went;
          dead = k.dead;
        }

pub goes : (f g : Front) (front more : List ℕ) → ran (Some f) front ≡ Some g → read_from f (front ++ more) ≡ read_from g more
unfolding read_from
goes f g [] more e = let k : f ≡ g = cc in ap (λ (h : Front). read_from h more) k
goes f g (b ∷ front) more e = at (feed f b) refl e (λ h d. goes h g front more d)
  where
    at : (o : Option Front) → feed f b ≡ o → ran o front ≡ Some g
        → ((h : Front) → ran (Some h) front ≡ Some g → read_from h (front ++ more) ≡ read_from g more)
        → going (feed f b) (suc (length (front ++ more))) (λ h. read_from h (front ++ more)) ≡ read_from g more
    at None is e step = absurd cc
    at (Some h) is e step =
        ap (λ (o : Option Front). going o (suc (length (front ++ more))) (λ (h : Front). read_from h (front ++ more))) is ∙ step h e

pub dead_on : (f : Front) (b : ℕ) (more : List ℕ) (x : List Setting) → feed f b ≡ None → read_from f (b ∷ more) ≡ Ok x → ⊥
unfolding read_from
dead_on f b more x none e = let k : going (feed f b) (suc (length more)) (λ g. read_from g more) ≡ Err (suc (length more)) = rw none refl in cc

-- ---- each may still come to an end

-- what ends a text from there
abbrev finish : Place → List ℕ
finish Section = 97 ∷ 93 ∷ []
finish BehindSection = 34 ∷ 34 ∷ 93 ∷ []
finish Sub = 34 ∷ 93 ∷ []
finish SubEscape = 34 ∷ 34 ∷ 93 ∷ []
finish BehindSub = 93 ∷ []
finish ValueEscape = 110 ∷ []
finish Quoted = 34 ∷ []
finish QuotedEscape = 110 ∷ 34 ∷ []
finish place = []

-- and behind a CR there
abbrev finish_line : Place → List ℕ
finish_line Sub = 34 ∷ 93 ∷ []
finish_line SubEscape = 34 ∷ 93 ∷ []
finish_line Quoted = 34 ∷ []
finish_line QuotedEscape = 10 ∷ 34 ∷ []
finish_line place = 10 ∷ []

pub some_length : (b : ℕ) (bs : List ℕ) → eqb (length (b ∷ bs)) 0 ≡ false
some_length b bs = ne_eqb (length (b ∷ bs)) 0 (λ h. absurd (omega arith))

finishes_section : (settings : List Setting) (section sub key value blanks : List ℕ)
    → is_ok (read_from (fed (st Section settings section sub key value blanks)) (finish Section)) ≡ true
unfolding read_from feed close step
finishes_section settings [] sub key value blanks = refl
finishes_section settings (c ∷ cs) sub key value blanks = rw (some_length c (cs ++ 97 ∷ [])) refl

finishes : (place : Place) (settings : List Setting) (section sub key value blanks : List ℕ)
    → is_ok (read_from (fed (st place settings section sub key value blanks)) (finish place)) ≡ true
unfolding read_from feed close step
finishes Start settings section sub key value blanks = refl
finishes Indented settings section sub key value blanks = refl
finishes Section settings section sub key value blanks = finishes_section settings section sub key value blanks
finishes BehindSection settings section sub key value blanks = refl
finishes Sub settings section sub key value blanks = refl
finishes SubEscape settings section sub key value blanks = refl
finishes BehindSub settings section sub key value blanks = refl
finishes BehindHeader settings section sub key value blanks = refl
finishes Key settings section sub key value blanks = refl
finishes BehindKey settings section sub key value blanks = refl
finishes Value settings section sub key value blanks = refl
finishes ValueEscape settings section sub key value blanks = refl
finishes Quoted settings section sub key value blanks = refl
finishes QuotedEscape settings section sub key value blanks = refl
finishes Comment settings section sub key value blanks = refl

finishes_line : (place : Place) (settings : List Setting) (section sub key value blanks : List ℕ) → may_return place ≡ true
    → is_ok (read_from (record { state = st place settings section sub key value blanks; returned = true }) (finish_line place)) ≡ true
unfolding read_from feed close step
finishes_line Start settings section sub key value blanks may = refl
finishes_line Indented settings section sub key value blanks may = refl
finishes_line Section settings section sub key value blanks may = absurd cc
finishes_line BehindSection settings section sub key value blanks may = absurd cc
finishes_line Sub settings section sub key value blanks may = refl
finishes_line SubEscape settings section sub key value blanks may = refl
finishes_line BehindSub settings section sub key value blanks may = absurd cc
finishes_line BehindHeader settings section sub key value blanks may = refl
finishes_line Key settings section sub key value blanks may = refl
finishes_line BehindKey settings section sub key value blanks may = refl
finishes_line Value settings section sub key value blanks may = refl
finishes_line ValueEscape settings section sub key value blanks may = refl
finishes_line Quoted settings section sub key value blanks may = refl
finishes_line QuotedEscape settings section sub key value blanks may = refl
finishes_line Comment settings section sub key value blanks may = refl

finish_bytes : (place : Place) → AllBytes (finish place) × AllBytes (finish_line place)
finish_bytes Start = (tt, (omega arith, tt))
finish_bytes Indented = (tt, (omega arith, tt))
finish_bytes Section = ((omega arith, (omega arith, tt)), (omega arith, tt))
finish_bytes BehindSection = ((omega arith, (omega arith, (omega arith, tt))), (omega arith, tt))
finish_bytes Sub = ((omega arith, (omega arith, tt)), (omega arith, (omega arith, tt)))
finish_bytes SubEscape = ((omega arith, (omega arith, (omega arith, tt))), (omega arith, (omega arith, tt)))
finish_bytes BehindSub = ((omega arith, tt), (omega arith, tt))
finish_bytes BehindHeader = (tt, (omega arith, tt))
finish_bytes Key = (tt, (omega arith, tt))
finish_bytes BehindKey = (tt, (omega arith, tt))
finish_bytes Value = (tt, (omega arith, tt))
finish_bytes ValueEscape = ((omega arith, tt), (omega arith, tt))
finish_bytes Quoted = ((omega arith, tt), (omega arith, tt))
finish_bytes QuotedEscape = ((omega arith, (omega arith, tt)), (omega arith, (omega arith, tt)))
finish_bytes Comment = (tt, (omega arith, tt))

abbrev pub IsLive : Front → Type 0
IsLive f = f.returned ≡ true → may_return f.state.place ≡ true

fed_live : (o : Option State) (g : Front) → unreturned o ≡ Some g → IsLive g
fed_live None g e = absurd cc
fed_live (Some s) g e = λ h. let same : fed s ≡ g = cc in let no : false ≡ g.returned = ap (λ (f : Front). f.returned) same in absurd cc

then_feed_live : (o : Option State) (b : ℕ) (g : Front) → then_feed o b ≡ Some g → IsLive g
then_feed_live None b g e = absurd cc
then_feed_live (Some s) b g e = at (eqb b 13) (may_return s.place) refl e
  where
    at : (t u : Bool) → may_return s.place ≡ u → cond t (cond u (Some (record { state = s; returned = true })) None) (unreturned (step s b)) ≡ Some g
        → IsLive g
    at false u may e = fed_live (step s b) g e
    at true false may e = absurd cc
    at true true may e = λ h. let same : s ≡ g.state = cc in ap (λ (x : State). may_return x.place) (sym same) ∙ may

feed_live : (f g : Front) (b : ℕ) → feed f b ≡ Some g → IsLive g
unfolding feed
feed_live f g b e = then_feed_live (settled f (eqb b 10)) b g e

pub ran_live : (f g : Front) (bytes : List ℕ) → IsLive f → ran (Some f) bytes ≡ Some g → IsLive g
ran_live f g [] live e = let k : f ≡ g = cc in subst IsLive k live
ran_live f g (b ∷ bs) live e = at (feed f b) refl e (λ h d l. ran_live h g bs l d)
  where
    at : (o : Option Front) → feed f b ≡ o → ran o bs ≡ Some g → ((h : Front) → ran (Some h) bs ≡ Some g → IsLive h → IsLive g) → IsLive g
    at None is e more = absurd cc
    at (Some h) is e more = more h e (feed_live f h b is)

ok_is : (r : Result (List Setting) ℕ) → is_ok r ≡ true → (x : List Setting) × (r ≡ Ok x)
ok_is (Ok x) e = (x, refl)
ok_is (Err n) e = absurd cc

pub goes_on : (f : Front) → IsLive f → (more : List ℕ) × (x : List Setting) × AllBytes more × (read_from f more ≡ Ok x)
goes_on f live = at f.returned refl
  where
    at : (t : Bool) → f.returned ≡ t → (more : List ℕ) × (x : List Setting) × AllBytes more × (read_from f more ≡ Ok x)
    at true is =
        let k = ok_is (read_from (record { state = f.state; returned = true }) (finish_line f.state.place)) (finishes_line f.state.place f.state.settings f.state.section f.state.sub f.state.key f.state.value f.state.blanks (live is)) in
        let same : record { state = f.state; returned = true } ≡ f = ap (λ (t : Bool). record { state = f.state; returned = t }) (sym is) in
        (finish_line f.state.place, k.0, (finish_bytes f.state.place).1, ap (λ (g : Front). read_from g (finish_line f.state.place)) (sym same) ∙ k.1)
    at false is =
        let k = ok_is (read_from (fed f.state) (finish f.state.place)) (finishes f.state.place f.state.settings f.state.section f.state.sub f.state.key f.state.value f.state.blanks) in
        let same : fed f.state ≡ f = ap (λ (t : Bool). record { state = f.state; returned = t }) (sym is) in
        (finish f.state.place, k.0, (finish_bytes f.state.place).0, ap (λ (g : Front). read_from g (finish f.state.place)) (sym same) ∙ k.1)
