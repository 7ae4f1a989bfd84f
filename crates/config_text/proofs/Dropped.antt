-- Each CR before LF is dropped: the reader of a text is the reader of its lines without them.
use Rattle.std.proofs.Common.{◌≡◌, ℕ, suc, Bool, true, false, cond, eqb, List, [], ◌∷◌, ◌++◌, length, Option, Some, None, Result, Ok, Err, refl, sym, ap, subst, ◌∙◌}
use Rattle.std.proofs.lemmas.Bool.{eqb-true}
use Rattle.config_text.specs.declared.config.Setting.{Setting}
use Rattle.config_text.specs.declared.place.Place.{Place}
use Rattle.config_text.specs.declared.place.Place.TheVariants.{Start, Indented, Section, BehindSection, Sub, SubEscape, BehindSub, BehindHeader, Key, BehindKey, Value, ValueEscape, Quoted, QuotedEscape, Comment}
use Rattle.config_text.specs.Configs.{without_returns}
use Rattle.config_text.specs.Reading.{State, step, may_return, whole}
use Rattle.config_text.specs.Returns.{Front, fed, unreturned, then_feed, feed, then_close, close, or_end, going, read_from}
use Rattle.config_text.proofs.Runs.{st, some_length}

-- the reader of lines without them
abbrev pub core : Option State → List ℕ → Option (List Setting)
core None bs = None
core (Some s) [] = whole (Some s)
core (Some s) (b ∷ bs) = core (step s b) bs

abbrev pub found : Result (List Setting) ℕ → Option (List Setting)
found (Ok x) = Some x
found (Err n) = None

abbrev pub behind_return : State → Front
behind_return s = record { state = s; returned = true }

core_end : (o : Option State) → core o [] ≡ whole o
core_end None = refl
core_end (Some s) = refl

found_end : (o : Option (List Setting)) → found (or_end o) ≡ o
found_end None = refl
found_end (Some x) = refl

found_close : (o : Option State) → found (or_end (then_close o)) ≡ core o (10 ∷ [])
found_close None = refl
found_close (Some s) = found_end (whole (step s 10)) ∙ sym (core_end (step s 10))

-- in a header's name neither may stand
no_return : (place : Place) (settings : List Setting) (section sub key value blanks : List ℕ) → may_return place ≡ false
    → (step (st place settings section sub key value blanks) 10 ≡ None) × (step (st place settings section sub key value blanks) 13 ≡ None)
unfolding step
no_return Start settings section sub key value blanks may = absurd cc
no_return Indented settings section sub key value blanks may = absurd cc
no_return Section settings [] sub key value blanks may = (refl, refl)
no_return Section settings (c ∷ cs) sub key value blanks may = (rw (some_length c cs) refl, rw (some_length c cs) refl)
no_return BehindSection settings section sub key value blanks may = (refl, refl)
no_return Sub settings section sub key value blanks may = absurd cc
no_return SubEscape settings section sub key value blanks may = absurd cc
no_return BehindSub settings section sub key value blanks may = (refl, refl)
no_return BehindHeader settings section sub key value blanks may = absurd cc
no_return Key settings section sub key value blanks may = absurd cc
no_return BehindKey settings section sub key value blanks may = absurd cc
no_return Value settings section sub key value blanks may = absurd cc
no_return ValueEscape settings section sub key value blanks may = absurd cc
no_return Quoted settings section sub key value blanks may = absurd cc
no_return QuotedEscape settings section sub key value blanks may = absurd cc
no_return Comment settings section sub key value blanks may = absurd cc

-- what the reader finds from there
abbrev pub Plain : List ℕ → Type 0
Plain text = (s : State) → found (read_from (fed s) text) ≡ core (Some s) (without_returns text ++ 10 ∷ [])

abbrev pub Returned : List ℕ → Type 0
Returned text =
    (s : State) → may_return s.place ≡ true → found (read_from (behind_return s) text) ≡ core (Some s) (without_returns (13 ∷ text) ++ 10 ∷ [])

-- behind a byte
went : (o : Option State) (left : ℕ) (bs more : List ℕ) → ((s : State) → found (read_from (fed s) bs) ≡ core (Some s) more)
    → found (going (unreturned o) left (λ f. read_from f bs)) ≡ core o more
went None left bs more plain = refl
went (Some s) left bs more plain = plain s

-- where no CR may stand
barred : (s : State) (bs : List ℕ) → may_return s.place ≡ false → core (Some s) (without_returns (13 ∷ bs) ++ 10 ∷ []) ≡ None
barred s bs may = at bs
  where
    no : (step s 10 ≡ None) × (step s 13 ≡ None)
    no = no_return s.place s.settings s.section s.sub s.key s.value s.blanks may

    at : (bs : List ℕ) → core (Some s) (without_returns (13 ∷ bs) ++ 10 ∷ []) ≡ None
    at [] = ap (λ (o : Option State). core o (10 ∷ [])) no.1
    at (b ∷ bs) = two (eqb b 10) refl
      where
        two : (t : Bool) → eqb b 10 ≡ t → core (Some s) (cond t (without_returns (b ∷ bs)) (13 ∷ without_returns (b ∷ bs)) ++ 10 ∷ []) ≡ None
        two false is = ap (λ (o : Option State). core o (without_returns (b ∷ bs) ++ 10 ∷ [])) no.1
        two true is =
            let b-is : b ≡ 10 = eqb-true b 10 is in
            let k : core (Some s) (without_returns (10 ∷ bs) ++ 10 ∷ []) ≡ None = ap (λ (o : Option State). core o (without_returns bs ++ 10 ∷ [])) no.0 in
            subst (λ (c : ℕ). core (Some s) (without_returns (c ∷ bs) ++ 10 ∷ []) ≡ None) (sym b-is) k

plain_more : (b : ℕ) (bs : List ℕ) → Plain bs → Returned bs → Plain (b ∷ bs)
unfolding read_from feed
plain_more b bs plain returned s = at (eqb b 13) refl
  where
    may : (u : Bool) → may_return s.place ≡ u
        → found (going (cond u (Some (behind_return s)) None) (suc (length bs)) (λ f. read_from f bs)) ≡ core (Some s) (without_returns (13 ∷ bs) ++ 10 ∷ [])
    may true is = returned s is
    may false is = sym (barred s bs is)

    at : (t : Bool) → eqb b 13 ≡ t
        → found (going (cond t (cond (may_return s.place) (Some (behind_return s)) None) (unreturned (step s b))) (suc (length bs)) (λ f. read_from f bs)) ≡ core (Some s) (without_returns (b ∷ bs) ++ 10 ∷ [])
    at true is =
        let b-is : b ≡ 13 = eqb-true b 13 is in
        subst (λ (c : ℕ). found (going (cond (may_return s.place) (Some (behind_return s)) None) (suc (length bs)) (λ (f : Front). read_from f bs)) ≡ core (Some s) (without_returns (c ∷ bs) ++ 10 ∷ [])) (sym b-is) (may (may_return s.place) refl)
    at false is =
        let k : without_returns (b ∷ bs) ≡ b ∷ without_returns bs = rw is refl in
        went (step s b) (suc (length bs)) bs (without_returns bs ++ 10 ∷ []) plain ∙ ap (λ (t : List ℕ). core (Some s) (t ++ 10 ∷ [])) (sym k)

returned_more : (b : ℕ) (bs : List ℕ) → Plain bs → Plain (b ∷ bs) → Returned (b ∷ bs)
unfolding read_from feed
returned_more b bs plain more s may = at (eqb b 10) refl
  where
    next : (o : Option State) (left : ℕ)
        → ((t : State) → found (going (then_feed (Some t) b) left (λ f. read_from f bs)) ≡ core (Some t) (without_returns (b ∷ bs) ++ 10 ∷ []))
        → found (going (then_feed o b) left (λ f. read_from f bs)) ≡ core o (without_returns (b ∷ bs) ++ 10 ∷ [])
    next None left plain = refl
    next (Some t) left plain = plain t

    at : (t : Bool) → eqb b 10 ≡ t
        → found (going (then_feed (cond t (Some s) (step s 13)) b) (suc (length bs)) (λ f. read_from f bs))
        ≡ core (Some s) (cond t (without_returns (b ∷ bs)) (13 ∷ without_returns (b ∷ bs)) ++ 10 ∷ [])
    at true is =
        let b-is : b ≡ 10 = eqb-true b 10 is in
        subst (λ (c : ℕ). found (going (then_feed (Some s) c) (suc (length bs)) (λ (f : Front). read_from f bs)) ≡ core (Some s) (without_returns (c ∷ bs) ++ 10 ∷ [])) (sym b-is)
        (went (step s 10) (suc (length bs)) bs (without_returns bs ++ 10 ∷ []) plain)
    at false is = next (step s 13) (suc (length bs)) more

both : (text : List ℕ) → Plain text × Returned text
unfolding read_from close
both [] = (λ s. found_close (Some s), λ s may. found_close (step s 13))
both (b ∷ bs) =
    let k = both bs in
    let plain = plain_more b bs k.0 k.1 in
    (plain, returned_more b bs k.0 plain)

-- what the reader finds in a text, it finds in the text without them
pub as_core : (text : List ℕ) (s : State) → found (read_from (fed s) text) ≡ core (Some s) (without_returns text ++ 10 ∷ [])
as_core text s = (both text).0 s
