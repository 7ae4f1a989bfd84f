-- What a configuration spells, the reader finds.
use Rattle.std.proofs.Common.{◌≡◌, ℕ, Bool, true, false, cond, eqb, not, ◌&&◌, List, [], ◌∷◌, ◌++◌, length, Option, Some, None, refl, sym, ap, subst, ◌∙◌, append_assoc}
use Rattle.std.specs.Prelude.{codes, unwrap_or, is_some}
use Rattle.std.specs.Char.{to_ascii_lowercase}
use Rattle.std.specs.List.{list_all, flat_map}
use Rattle.std.proofs.lemmas.List.{append-nil}
use Rattle.grammar.proofs.Passing.{and_true}
use Rattle.config_text.specs.declared.config.Setting.{Setting}
use Rattle.config_text.specs.declared.place.Place.{Place}
use Rattle.config_text.specs.declared.place.Place.TheVariants.{Start, Indented, BehindSection, BehindHeader, Key, BehindKey, Value, ValueEscape, Quoted, QuotedEscape, Comment}
use Rattle.config_text.specs.Bytes.{is_comment_mark, is_in_line, is_letter, is_key_byte, escaped, lower}
use Rattle.config_text.specs.Values.{Part, Byte, Escape, Join, Quote, part_text, is_itself, is_value, marks, value_of}
use Rattle.config_text.specs.Configs as text
use Rattle.config_text.specs.Configs.{kept, assigned, Assignment, given}
use Rattle.config_text.specs.Reading.{State, step}
use Rattle.config_text.proofs.Runs.{st}
use Rattle.config_text.proofs.Dropped.{core}
use Rattle.config_text.proofs.Gathered.{gathered, gathered_is}
use Rattle.config_text.proofs.ByteTests.{not_true, letter, blank, mark, itself, escape}
use Rattle.seq_base.specs.Blanks.{is_blank}

-- ---- values

abbrev pub in_value : Bool → Place
in_value true = Quoted
in_value false = Value

abbrev pub in_escape : Bool → Place
in_escape true = QuotedEscape
in_escape false = ValueEscape

module _ (S : List Setting) (section sub key : List ℕ) where
  abbrev pub at : Place → List ℕ → List ℕ → State
  at place value blanks = st place S section sub key value blanks

  on : (s t : State) (b : ℕ) (bs : List ℕ) → step s b ≡ Some t → core (Some s) (b ∷ bs) ≡ core (Some t) bs
  on s t b bs e = ap (λ (o : Option State). core o bs) e

  step_quoted : (b : ℕ) (v bl : List ℕ) → is_itself true b ≡ true → step (at Quoted v bl) b ≡ Some (at Quoted (v ++ bl ++ b ∷ []) [])
  unfolding step
  step_quoted b v bl e = let k = itself true b e in rw (k.not_feed, k.not_quote, k.not_backslash) refl

  step_tight : (b : ℕ) (v bl : List ℕ) → is_itself false b ≡ true → is_blank b ≡ false
      → step (at Value v bl) b ≡ Some (at Value (v ++ bl ++ b ∷ []) [])
  unfolding step
  step_tight b v bl e tight = let k = itself false b e in rw (k.not_feed, k.not_mark refl, k.not_quote, k.not_backslash, tight) refl

  step_blank : (b : ℕ) (v bl : List ℕ) → is_blank b ≡ true
      → step (at Value v bl) b ≡ Some (cond (eqb (length v) 0) (at Value v bl) (at Value v (bl ++ b ∷ [])))
  unfolding step
  step_blank b v bl e =
      blank (λ (b : ℕ). step (at Value v bl) b ≡ Some (cond (eqb (length v) 0) (at Value v bl) (at Value v (bl ++ b ∷ [])))) refl refl b e

  step_escape : (q : Bool) (b c : ℕ) (v bl : List ℕ) → eqb b 10 ≡ false → escaped b ≡ Some c
      → step (at (in_escape q) v bl) b ≡ Some (at (in_value q) (v ++ bl ++ c ∷ []) [])
  unfolding step
  step_escape true b c v bl ne e = rw (ne, e) refl
  step_escape false b c v bl ne e = rw (ne, e) refl

  step_backslash : (q : Bool) (v bl : List ℕ) → step (at (in_value q) v bl) 92 ≡ Some (at (in_escape q) v bl)
  unfolding step
  step_backslash true v bl = refl
  step_backslash false v bl = refl

  step_join : (q : Bool) (v bl : List ℕ) → step (at (in_escape q) v bl) 10 ≡ Some (at (in_value q) v bl)
  unfolding step
  step_join true v bl = refl
  step_join false v bl = refl

  step_quote : (q : Bool) (v bl : List ℕ) → step (at (in_value q) v bl) 34 ≡ Some (at (in_value (not q)) v bl)
  unfolding step
  step_quote true v bl = refl
  step_quote false v bl = refl

  abbrev ValueRuns : Bool → List Part → List ℕ → List ℕ → List ℕ → Type 0
  ValueRuns q parts v bl r =
      (left : List ℕ) × (core (Some (at (in_value q) v bl)) (flat_map part_text parts ++ r) ≡ core (Some (at Value (gathered v bl (marks q parts)) left)) r)

  pub value_runs : (q : Bool) (parts : List Part) (v bl r : List ℕ) → is_value q parts ≡ true → ValueRuns q parts v bl r
  value_runs true [] v bl r e = absurd cc
  value_runs false [] v bl r e = (bl, refl)
  value_runs true (Byte b ∷ parts) v bl r e =
      let k = and_true (is_itself true b) (is_value true parts) e in
      let h = value_runs true parts (v ++ bl ++ b ∷ []) [] r k.1 in
      (h.0, on (at Quoted v bl) (at Quoted (v ++ bl ++ b ∷ []) []) b (flat_map part_text parts ++ r) (step_quoted b v bl k.0) ∙ h.1)
  value_runs false (Byte b ∷ parts) v bl r e =
      let k = and_true (is_itself false b) (is_value false parts) e in
      byte (is_blank b) (eqb (length v) 0) refl refl k.0 (value_runs false parts v bl r k.1) (value_runs false parts v (bl ++ b ∷ []) r k.1) (value_runs false parts (v ++ bl ++ b ∷ []) [] r k.1)
    where
      byte : (t u : Bool) → is_blank b ≡ t → eqb (length v) 0 ≡ u → is_itself false b ≡ true
          → ValueRuns false parts v bl r → ValueRuns false parts v (bl ++ b ∷ []) r → ValueRuns false parts (v ++ bl ++ b ∷ []) [] r
          → (left : List ℕ) × (core (Some (at Value v bl)) (b ∷ (flat_map part_text parts ++ r)) ≡ core (Some (at Value (cond t (cond u (gathered v bl (marks false parts)) (gathered v (bl ++ b ∷ []) (marks false parts))) (gathered (v ++ bl ++ b ∷ []) [] (marks false parts))) left)) r)
      byte false u t-is u-is it same more tight =
          (tight.0, on (at Value v bl) (at Value (v ++ bl ++ b ∷ []) []) b (flat_map part_text parts ++ r) (step_tight b v bl it t-is) ∙ tight.1)
      byte true true t-is u-is it same more tight =
          (same.0, on (at Value v bl) (at Value v bl) b (flat_map part_text parts ++ r) (step_blank b v bl t-is ∙ rw u-is refl) ∙ same.1)
      byte true false t-is u-is it same more tight =
          (more.0, on (at Value v bl) (at Value v (bl ++ b ∷ [])) b (flat_map part_text parts ++ r) (step_blank b v bl t-is ∙ rw u-is refl) ∙ more.1)
  value_runs q (Escape b ∷ parts) v bl r e =
      let k = and_true (is_some (escaped b)) (is_value q parts) e in
      let c = escape b k.0 in
      let h = value_runs q parts (v ++ bl ++ c.0 ∷ []) [] r k.1 in
      let shown : unwrap_or (escaped b) b ≡ c.0 = ap (λ (o : Option ℕ). unwrap_or o b) c.1.shows in (
        h.0,
        on (at (in_value q) v bl) (at (in_escape q) v bl) 92 (b ∷ (flat_map part_text parts ++ r)) (step_backslash q v bl)
            ∙ on (at (in_escape q) v bl) (at (in_value q) (v ++ bl ++ c.0 ∷ []) []) b (flat_map part_text parts ++ r) (step_escape q b c.0 v bl c.1.not_feed c.1.shows)
            ∙ h.1 ∙ ap (λ (d : ℕ). core (Some (at Value (gathered (v ++ bl ++ d ∷ []) [] (marks q parts)) h.0)) r) (sym shown),
      )
  value_runs q (Join ∷ parts) v bl r e =
      let h = value_runs q parts v bl r e in (
        h.0,
        on (at (in_value q) v bl) (at (in_escape q) v bl) 92 (10 ∷ (flat_map part_text parts ++ r)) (step_backslash q v bl)
            ∙ on (at (in_escape q) v bl) (at (in_value q) v bl) 10 (flat_map part_text parts ++ r) (step_join q v bl)
            ∙ h.1,
      )
  value_runs q (Quote ∷ parts) v bl r e =
      let h = value_runs (not q) parts v bl r e in
      (h.0, on (at (in_value q) v bl) (at (in_value (not q)) v bl) 34 (flat_map part_text parts ++ r) (step_quote q v bl) ∙ h.1)

  -- ---- words

  -- bytes behind which it stands at the same place
  pub stays : (s : State) (test : ℕ → Bool) → ((b : ℕ) → test b ≡ true → step s b ≡ Some s) → (w r : List ℕ) → list_all test w ≡ true
      → core (Some s) (w ++ r) ≡ core (Some s) r
  stays s test one [] r e = refl
  stays s test one (b ∷ w) r e = let k = and_true (test b) (list_all test w) e in on s s b (w ++ r) (one b k.0) ∙ stays s test one w r k.1

  abbrev pub Passes : Place → List ℕ → List ℕ → Type 0
  Passes place v bl = (b : ℕ) → is_blank b ≡ true → step (at place v bl) b ≡ Some (at place v bl)

  pub blank_indented : (v bl : List ℕ) → Passes Indented v bl
  unfolding step
  blank_indented v bl b e = blank (λ (b : ℕ). step (at Indented v bl) b ≡ Some (at Indented v bl)) refl refl b e

  pub blank_start : (v bl : List ℕ) (b : ℕ) → is_blank b ≡ true → step (at Start v bl) b ≡ Some (at Indented v bl)
  unfolding step
  blank_start v bl b e = blank (λ (b : ℕ). step (at Start v bl) b ≡ Some (at Indented v bl)) refl refl b e

  pub blank_behind_header : (v bl : List ℕ) → Passes BehindHeader v bl
  unfolding step
  blank_behind_header v bl b e = blank (λ (b : ℕ). step (at BehindHeader v bl) b ≡ Some (at BehindHeader v bl)) refl refl b e

  pub blank_behind_section : (v bl : List ℕ) → Passes BehindSection v bl
  unfolding step
  blank_behind_section v bl b e = rw e refl

  blank_behind_key : (v bl : List ℕ) → Passes BehindKey v bl
  unfolding step
  blank_behind_key v bl b e = blank (λ (b : ℕ). step (at BehindKey v bl) b ≡ Some (at BehindKey v bl)) refl refl b e

  blank_key : (v bl : List ℕ) (b : ℕ) → is_blank b ≡ true → step (at Key v bl) b ≡ Some (at BehindKey v bl)
  unfolding step
  blank_key v bl b e = blank (λ (b : ℕ). step (at Key v bl) b ≡ Some (at BehindKey v bl)) refl refl b e

  in_comment : (v bl : List ℕ) (b : ℕ) → is_in_line b ≡ true → step (at Comment v bl) b ≡ Some (at Comment v bl)
  unfolding step
  in_comment v bl b e = rw (not_true (eqb b 10) e) refl

  feed_comment : (v bl : List ℕ) → step (at Comment v bl) 10 ≡ Some (at Start v bl)
  unfolding step
  feed_comment v bl = refl

  comment_runs : (c r v bl : List ℕ) → list_all is_in_line c ≡ true → core (Some (at Comment v bl)) (c ++ 10 ∷ r) ≡ core (Some (at Start v bl)) r
  comment_runs c r v bl e =
      stays (at Comment v bl) is_in_line (in_comment v bl) c (10 ∷ r) e ∙ on (at Comment v bl) (at Start v bl) 10 r (feed_comment v bl)

-- where a comment or the line's end may stand; with the settings that are kept then
pub record IsEnd (s : State) (settings : List Setting) (section sub key : List ℕ) : Type 0 where
  pub value : List ℕ
  pub blanks : List ℕ
  pub feeds : step s 10 ≡ Some (st Start settings section sub key value blanks)
  pub marks : (b : ℕ) → is_comment_mark b ≡ true → step s b ≡ Some (st Comment settings section sub key value blanks)

-- it comes to the front of the next line, whatever the last key and value were
abbrev pub ComesTo : State → List ℕ → List Setting → List ℕ → List ℕ → List ℕ → Type 0
ComesTo s text settings section sub r =
    (key : List ℕ) × (value : List ℕ) × (blanks : List ℕ) × (core (Some s) text ≡ core (Some (st Start settings section sub key value blanks)) r)

end_runs : (s : State) (settings : List Setting) (section sub key c r : List ℕ) → IsEnd s settings section sub key → text.is_comment c ≡ true
    → ComesTo s (c ++ 10 ∷ r) settings section sub r
end_runs s settings section sub key [] r end e = (key, end.value, end.blanks, ap (λ (o : Option State). core o r) end.feeds)
end_runs s settings section sub key (b ∷ c) r end e =
    let k = and_true (is_comment_mark b) (list_all is_in_line c) e in (
      key,
      end.value,
      end.blanks,
      ap (λ (o : Option State). core o (c ++ 10 ∷ r)) (end.marks b k.0) ∙ comment_runs settings section sub key c r end.value end.blanks k.1,
    )

-- the same from a state before
pub earlier : (s t : State) (text more : List ℕ) (settings : List Setting) (section sub r : List ℕ) → core (Some s) text ≡ core (Some t) more
    → ComesTo t more settings section sub r → ComesTo s text settings section sub r
earlier s t text more settings section sub r e h = (h.0, h.1, h.2, e ∙ h.3)

end_value : (S : List Setting) (section sub key value blanks : List ℕ)
    → IsEnd (st Value S section sub key value blanks) (S ++ kept section sub key value) section sub key
unfolding step
end_value S section sub key value blanks = record {
  value = value;
  blanks = blanks;
  feeds = refl;
  marks =
      λ b e. mark (λ (b : ℕ). step (st Value S section sub key value blanks) b ≡ Some (st Comment (S ++ kept section sub key value) section sub key value blanks)) refl refl b e;
}

end_key : (S : List Setting) (section sub key value blanks : List ℕ)
    → IsEnd (st Key S section sub key value blanks) (S ++ kept section sub key value) section sub key
unfolding step
end_key S section sub key value blanks = record {
  value = value;
  blanks = blanks;
  feeds = refl;
  marks =
      λ b e. mark (λ (b : ℕ). step (st Key S section sub key value blanks) b ≡ Some (st Comment (S ++ kept section sub key value) section sub key value blanks)) refl refl b e;
}

end_behind_key : (S : List Setting) (section sub key value blanks : List ℕ)
    → IsEnd (st BehindKey S section sub key value blanks) (S ++ kept section sub key value) section sub key
unfolding step
end_behind_key S section sub key value blanks = record {
  value = value;
  blanks = blanks;
  feeds = refl;
  marks =
      λ b e. mark (λ (b : ℕ). step (st BehindKey S section sub key value blanks) b ≡ Some (st Comment (S ++ kept section sub key value) section sub key value blanks)) refl refl b e;
}

-- where a setting may begin
pub record IsFront (place : Place) (S : List Setting) (section sub key value blanks : List ℕ) : Type 0 where
  pub ends : IsEnd (st place S section sub key value blanks) S section sub key
  pub begins : (b : ℕ) → is_letter b ≡ true → eqb (length section) 0 ≡ false
      → step (st place S section sub key value blanks) b ≡ Some (st Key S section sub (to_ascii_lowercase b ∷ []) (codes "true") blanks)

pub front_start : (S : List Setting) (section sub key value blanks : List ℕ) → IsFront Start S section sub key value blanks
unfolding step
front_start S section sub key value blanks = record {
  ends = record {
    value = value;
    blanks = blanks;
    feeds = refl;
    marks =
        λ b e. mark (λ (b : ℕ). step (st Start S section sub key value blanks) b ≡ Some (st Comment S section sub key value blanks)) refl refl b e;
  };
  begins = λ b e some. let k = letter b e in rw (k.not_open, k.not_end, k.not_blank, e, some) refl;
}

pub front_indented : (S : List Setting) (section sub key value blanks : List ℕ) → IsFront Indented S section sub key value blanks
unfolding step
front_indented S section sub key value blanks = record {
  ends = record {
    value = value;
    blanks = blanks;
    feeds = refl;
    marks =
        λ b e. mark (λ (b : ℕ). step (st Indented S section sub key value blanks) b ≡ Some (st Comment S section sub key value blanks)) refl refl b e;
  };
  begins = λ b e some. let k = letter b e in rw (k.not_open, k.not_end, k.not_blank, e, some) refl;
}

pub front_behind_header : (S : List Setting) (section sub key value blanks : List ℕ) → IsFront BehindHeader S section sub key value blanks
unfolding step
front_behind_header S section sub key value blanks = record {
  ends = record {
    value = value;
    blanks = blanks;
    feeds = refl;
    marks =
        λ b e. mark (λ (b : ℕ). step (st BehindHeader S section sub key value blanks) b ≡ Some (st Comment S section sub key value blanks)) refl refl b e;
  };
  begins = λ b e some. let k = letter b e in rw (k.not_end, k.not_blank, e, some) refl;
}

-- ---- settings

step_key : (S : List Setting) (section sub key value blanks : List ℕ) (b : ℕ) → is_key_byte b ≡ true
    → step (st Key S section sub key value blanks) b ≡ Some (st Key S section sub (key ++ to_ascii_lowercase b ∷ []) value blanks)
unfolding step
step_key S section sub key value blanks b e = rw e refl

key_runs : (S : List Setting) (section sub key value blanks w r : List ℕ) → list_all is_key_byte w ≡ true
    → core (Some (st Key S section sub key value blanks)) (w ++ r) ≡ core (Some (st Key S section sub (key ++ lower w) value blanks)) r
key_runs S section sub key value blanks [] r e = ap (λ (k : List ℕ). core (Some (st Key S section sub k value blanks)) r) (sym (append-nil key))
key_runs S section sub key value blanks (b ∷ w) r e =
    let k = and_true (is_key_byte b) (list_all is_key_byte w) e in
    ap (λ (o : Option State). core o (w ++ r)) (step_key S section sub key value blanks b k.0)
    ∙ key_runs S section sub (key ++ to_ascii_lowercase b ∷ []) value blanks w r k.1
    ∙ ap (λ (k : List ℕ). core (Some (st Key S section sub k value blanks)) r) (append_assoc key (to_ascii_lowercase b ∷ []) (lower w))

step_equals : (S : List Setting) (section sub key value blanks : List ℕ)
    → step (st Key S section sub key value blanks) 61 ≡ Some (st Value S section sub key [] [])
unfolding step
step_equals S section sub key value blanks = refl

step_equals_behind : (S : List Setting) (section sub key value blanks : List ℕ)
    → step (st BehindKey S section sub key value blanks) 61 ≡ Some (st Value S section sub key [] [])
unfolding step
step_equals_behind S section sub key value blanks = refl

-- from behind a key, which has the value `true` so far
value_from : (s : State) (S : List Setting) (section sub key c r : List ℕ) (value : Option (List Part))
    → IsEnd s (S ++ kept section sub key (codes "true")) section sub key
    → step s 61 ≡ Some (st Value S section sub key [] []) → text.is_written value ≡ true → text.is_comment c ≡ true → ComesTo s (text.value_text value ++ (c ++ 10 ∷ r)) (S ++ kept section sub key (given value)) section sub r
value_from s S section sub key c r None end next e ce = end_runs s (S ++ kept section sub key (codes "true")) section sub key c r end ce
value_from s S section sub key c r (Some parts) end next e ce =
    let h = value_runs S section sub key false parts [] [] (c ++ 10 ∷ r) e in
    let v = gathered [] [] (marks false parts) in
    let same : gathered [] [] (marks false parts) ≡ value_of parts = gathered_is (marks false parts) in
    let more = end_runs (st Value S section sub key v h.0) (S ++ kept section sub key v) section sub key c r (end_value S section sub key v h.0) ce in
    subst (λ (x : List ℕ). ComesTo s (61 ∷ (flat_map part_text parts ++ (c ++ 10 ∷ r))) (S ++ kept section sub key x) section sub r) same
    (earlier s (st Value S section sub key v h.0) (61 ∷ (flat_map part_text parts ++ (c ++ 10 ∷ r))) (c ++ 10 ∷ r) (S ++ kept section sub key v) section sub r (ap (λ (o : Option State). core o (flat_map part_text parts ++ (c ++ 10 ∷ r))) next ∙ h.1) more)

blanks_from : (S : List Setting) (section sub key bl w c r : List ℕ) (value : Option (List Part)) → list_all is_blank w ≡ true
    → text.is_written value ≡ true → text.is_comment c ≡ true
    → ComesTo (st Key S section sub key (codes "true") bl) (w ++ (text.value_text value ++ (c ++ 10 ∷ r))) (S ++ kept section sub key (given value)) section sub r
blanks_from S section sub key bl [] c r value we ve ce =
    value_from (st Key S section sub key (codes "true") bl) S section sub key c r value (end_key S section sub key (codes "true") bl) (step_equals S section sub key (codes "true") bl) ve ce
blanks_from S section sub key bl (b ∷ w) c r value we ve ce =
    let k = and_true (is_blank b) (list_all is_blank w) we in
    earlier (st Key S section sub key (codes "true") bl) (st BehindKey S section sub key (codes "true") bl) (b ∷ (w ++ (text.value_text value ++ (c ++ 10 ∷ r)))) (text.value_text value ++ (c ++ 10 ∷ r)) (S ++ kept section sub key (given value)) section sub r
    (ap (λ (o : Option State). core o (w ++ (text.value_text value ++ (c ++ 10 ∷ r)))) (blank_key S section sub key (codes "true") bl b k.0)
    ∙ stays S section sub key (st BehindKey S section sub key (codes "true") bl) is_blank (blank_behind_key S section sub key (codes "true") bl) w (text.value_text value ++ (c ++ 10 ∷ r)) k.1)
    (value_from (st BehindKey S section sub key (codes "true") bl) S section sub key c r value (end_behind_key S section sub key (codes "true") bl) (step_equals_behind S section sub key (codes "true") bl) ve ce)

-- the text of a setting, a comment and what follows
abbrev pub then_item : Option Assignment → List ℕ → List ℕ → List ℕ
then_item None c r = c ++ 10 ∷ r
then_item (Some a) c r = a.key ++ (a.blanks ++ (text.value_text a.value ++ (c ++ 10 ∷ r)))

key_from : (place : Place) (S : List Setting) (section sub k v bl key w c r : List ℕ) (value : Option (List Part))
    → IsFront place S section sub k v bl
    → eqb (length section) 0 ≡ false → text.is_key key ≡ true → list_all is_blank w ≡ true → text.is_written value ≡ true → text.is_comment c ≡ true
    → ComesTo (st place S section sub k v bl) (key ++ (w ++ (text.value_text value ++ (c ++ 10 ∷ r)))) (S ++ kept section sub (lower key) (given value)) section sub r
key_from place S section sub k v bl [] w c r value front some ke we ve ce = absurd cc
key_from place S section sub k v bl (b ∷ key) w c r value front some ke we ve ce =
    let both = and_true (is_letter b) (list_all is_key_byte key) ke in
    earlier (st place S section sub k v bl) (st Key S section sub (lower (b ∷ key)) (codes "true") bl) (b ∷ (key ++ (w ++ (text.value_text value ++ (c ++ 10 ∷ r))))) (w ++ (text.value_text value ++ (c ++ 10 ∷ r)))
    (S ++ kept section sub (lower (b ∷ key)) (given value)) section sub r
    (ap (λ (o : Option State). core o (key ++ (w ++ (text.value_text value ++ (c ++ 10 ∷ r))))) (front.begins b both.0 some)
    ∙ key_runs S section sub (to_ascii_lowercase b ∷ []) (codes "true") bl key (w ++ (text.value_text value ++ (c ++ 10 ∷ r))) both.1)
    (blanks_from S section sub (lower (b ∷ key)) bl w c r value we ve ce)

pub item_from : (place : Place) (S : List Setting) (section sub k v bl c r : List ℕ) (a : Option Assignment) → IsFront place S section sub k v bl
    → text.is_assignment section a ≡ true → text.is_comment c ≡ true
    → ComesTo (st place S section sub k v bl) (then_item a c r) (S ++ assigned section sub a) section sub r
item_from place S section sub k v bl c r None front ae ce =
    subst (λ (x : List Setting). ComesTo (st place S section sub k v bl) (c ++ 10 ∷ r) x section sub r) (sym (append-nil S)) (end_runs (st place S section sub k v bl) S section sub k c r front.ends ce)
item_from place S section sub k v bl c r (Some a) front ae ce =
    let one = and_true (not (eqb (length section) 0) && text.is_key a.key && list_all is_blank a.blanks) (text.is_written a.value) ae in
    let two = and_true (not (eqb (length section) 0) && text.is_key a.key) (list_all is_blank a.blanks) one.0 in
    let three = and_true (not (eqb (length section) 0)) (text.is_key a.key) two.0 in
    key_from place S section sub k v bl a.key a.blanks c r a.value front (not_true (eqb (length section) 0) three.0) three.1 two.1 one.1 ce
