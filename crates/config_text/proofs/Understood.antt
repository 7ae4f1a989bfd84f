-- What the reader finds, some lines spell: what stands before the end of a text, by the place from which it is read.
use Rattle.std.proofs.Common.{◌≡◌, ℕ, Bool, true, false, cond, eqb, not, ◌&&◌, ◌||◌, List, [], ◌∷◌, ◌++◌, length, map, Option, Some, None, refl, sym, ap, subst, ◌∙◌, ◌⊎◌, inl, inr}
use Rattle.std.specs.Prelude.{codes, is_some, unwrap_or}
use Rattle.std.specs.List.{list_all, flat_map}
use Rattle.std.proofs.lemmas.Bool.{eqb-true}
use Rattle.config_text.specs.declared.config.Setting.{Setting}
use Rattle.config_text.specs.declared.place.Place.{Place}
use Rattle.config_text.specs.declared.place.Place.TheVariants as place
use Rattle.config_text.specs.Bytes.{is_comment_mark, is_in_line, is_section_byte, is_key_byte, is_sub_byte, escaped, lower}
use Rattle.config_text.specs.Values.{Part, Byte, Escape, Join, Quote, part_text, is_itself, is_value, marks}
use Rattle.config_text.specs.Configs as text
use Rattle.config_text.specs.Configs.{SubPart, Quoted, sub_part_text, is_sub_part, sub_part_byte, Header, Assignment, Line, line_text, section_behind, sub_behind, sub_of, settings_of, are_lines, assigned, kept, given}
use Rattle.config_text.specs.Reading.{State, step, is_end, behind_end, with_escaped}
use Rattle.config_text.proofs.Runs.{st}
use Rattle.config_text.proofs.Dropped.{core}
use Rattle.config_text.proofs.Gathered.{gathered}
use Rattle.config_text.proofs.ByteTests.{or_false}
use Rattle.config_text.proofs.Reached.{then_item, in_value}
use Rattle.config_text.proofs.ReachedLines.{then_sub, then_header}
use Rattle.seq_base.specs.Blanks.{is_blank}

pub both : (a b : Bool) → a ≡ true → b ≡ true → (a && b) ≡ true
both a b p q = rw (p, q) refl

pub not_false : (a : Bool) → a ≡ false → not a ≡ true
not_false a p = rw p refl

-- a test decides between two states
split : (c : Bool) (x y : Option State) (t : List ℕ) (out : List Setting) → core (cond c x y) t ≡ Some out
    → ((c ≡ true) × (core x t ≡ Some out)) ⊎ ((c ≡ false) × (core y t ≡ Some out))
split true x y t out e = inl (refl, e)
split false x y t out e = inr (refl, e)

pub none : {P : Type 0} (out : List Setting) (t : List ℕ) → core None t ≡ Some out → P
none out t e = absurd cc

module _ (out : List Setting) where
  -- whole lines
  abbrev pub FromStart : List Setting → List ℕ → List ℕ → List ℕ → Type 0
  FromStart S section sub r = (ls : List Line) × (are_lines section ls ≡ true) × (r ≡ flat_map line_text ls) × (out ≡ S ++ settings_of section sub ls)

  abbrev pub FromComment : List Setting → List ℕ → List ℕ → List ℕ → Type 0
  FromComment S section sub r =
      (c : List ℕ) × (behind : List ℕ) × (list_all is_in_line c ≡ true) × (r ≡ c ++ 10 ∷ behind) × FromStart S section sub behind

  -- a comment may stand there, and the line ends
  abbrev pub FromEnd : List Setting → List ℕ → List ℕ → List ℕ → Type 0
  FromEnd S section sub r = (c : List ℕ) × (behind : List ℕ) × (text.is_comment c ≡ true) × (r ≡ c ++ 10 ∷ behind) × FromStart S section sub behind

  abbrev pub FromValue : Bool → List Setting → List ℕ → List ℕ → List ℕ → List ℕ → List ℕ → List ℕ → Type 0
  FromValue q S section sub key v bl r =
      (parts : List Part) × (behind : List ℕ) × (is_value q parts ≡ true) × (r ≡ flat_map part_text parts ++ behind) × FromEnd (S ++ kept section sub key (gathered v bl (marks q parts))) section sub behind

  abbrev pub FromEscape : Bool → List Setting → List ℕ → List ℕ → List ℕ → List ℕ → List ℕ → List ℕ → Type 0
  FromEscape q S section sub key v bl r =
      (b : ℕ) × (behind : List ℕ) × (r ≡ b ∷ behind)
      × (((b ≡ 10) × FromValue q S section sub key v bl behind) ⊎ ((c : ℕ) × (escaped b ≡ Some c) × FromValue q S section sub key (v ++ bl ++ c ∷ []) [] behind))

  abbrev pub FromBehindKey : List Setting → List ℕ → List ℕ → List ℕ → List ℕ → Type 0
  FromBehindKey S section sub key r =
      (w : List ℕ) × (value : Option (List Part)) × (behind : List ℕ) × (list_all is_blank w ≡ true) × (text.is_written value ≡ true) × (r ≡ w ++ (text.value_text value ++ behind))
      × FromEnd (S ++ kept section sub key (given value)) section sub behind

  abbrev pub FromKey : List Setting → List ℕ → List ℕ → List ℕ → List ℕ → Type 0
  FromKey S section sub key r =
      (more : List ℕ) × (behind : List ℕ) × (list_all is_key_byte more ≡ true) × (r ≡ more ++ behind) × FromBehindKey S section sub (key ++ lower more) behind

  -- a setting or a comment may stand there
  abbrev pub FromItem : List Setting → List ℕ → List ℕ → List ℕ → Type 0
  FromItem S section sub r =
      (a : Option Assignment) × (c : List ℕ) × (behind : List ℕ) × (text.is_assignment section a ≡ true) × (text.is_comment c ≡ true) × (r ≡ then_item a c behind)
      × FromStart (S ++ assigned section sub a) section sub behind

  abbrev pub FromBehindHeader : List Setting → List ℕ → List ℕ → List ℕ → Type 0
  FromBehindHeader S section sub r =
      (w : List ℕ) × (behind : List ℕ) × (list_all is_blank w ≡ true) × (r ≡ w ++ behind) × FromItem S section sub behind

  abbrev pub FromSub : List Setting → List ℕ → List ℕ → List ℕ → Type 0
  FromSub S section sub r =
      (parts : List SubPart) × (behind : List ℕ) × (list_all is_sub_part parts ≡ true) × (r ≡ flat_map sub_part_text parts ++ (34 ∷ 93 ∷ behind))
      × FromBehindHeader S section (sub ++ map sub_part_byte parts) behind

  abbrev pub FromSubEscape : List Setting → List ℕ → List ℕ → List ℕ → Type 0
  FromSubEscape S section sub r = (b : ℕ) × (behind : List ℕ) × (is_sub_byte b ≡ true) × (r ≡ b ∷ behind) × FromSub S section (sub ++ b ∷ []) behind

  abbrev pub FromBehindSub : List Setting → List ℕ → List ℕ → List ℕ → Type 0
  FromBehindSub S section sub r = (behind : List ℕ) × (r ≡ 93 ∷ behind) × FromBehindHeader S section sub behind

  abbrev pub FromBehindSection : List Setting → List ℕ → List ℕ → List ℕ → Type 0
  FromBehindSection S section sub r =
      (w : List ℕ) × (behind : List ℕ) × (list_all is_blank w ≡ true) × (r ≡ w ++ (34 ∷ behind)) × FromSub S section sub behind

  abbrev pub FromSection : List Setting → List ℕ → List ℕ → List ℕ → Type 0
  FromSection S section sub r =
      (more : List ℕ) × (s : Option text.Sub) × (behind : List ℕ) × (list_all is_section_byte more ≡ true) × (eqb (length (section ++ lower more)) 0 ≡ false) × (text.is_sub s ≡ true)
      × (r ≡ more ++ then_sub s (93 ∷ behind)) × FromBehindHeader S (section ++ lower more) (sub ++ sub_of s) behind

  -- a line's rest behind blanks at its front
  abbrev pub FromFront : List Setting → List ℕ → List ℕ → List ℕ → Type 0
  FromFront S section sub r =
      (w : List ℕ) × (h : Option Header) × (a : Option Assignment) × (c : List ℕ) × (behind : List ℕ) × (list_all is_blank w ≡ true) × (text.is_header h ≡ true)
      × (text.is_assignment (section_behind section h) a ≡ true) × (text.is_comment c ≡ true) × (r ≡ w ++ then_header h (then_item a c behind))
      × FromStart (S ++ assigned (section_behind section h) (sub_behind sub h) a) (section_behind section h) (sub_behind sub h) behind

  -- what stands there, by the place
  abbrev pub From : Place → List Setting → List ℕ → List ℕ → List ℕ → List ℕ → List ℕ → List ℕ → Type 0
  From place.Start S section sub key v bl r = FromStart S section sub r
  From place.Indented S section sub key v bl r = FromFront S section sub r
  From place.Section S section sub key v bl r = FromSection S section sub r
  From place.BehindSection S section sub key v bl r = FromBehindSection S section sub r
  From place.Sub S section sub key v bl r = FromSub S section sub r
  From place.SubEscape S section sub key v bl r = FromSubEscape S section sub r
  From place.BehindSub S section sub key v bl r = FromBehindSub S section sub r
  From place.BehindHeader S section sub key v bl r = FromBehindHeader S section sub r
  From place.Key S section sub key v bl r = v ≡ codes "true" → FromKey S section sub key r
  From place.BehindKey S section sub key v bl r = v ≡ codes "true" → FromBehindKey S section sub key r
  From place.Value S section sub key v bl r = FromValue false S section sub key v bl r
  From place.ValueEscape S section sub key v bl r = FromEscape false S section sub key v bl r
  From place.Quoted S section sub key v bl r = FromValue true S section sub key v bl r
  From place.QuotedEscape S section sub key v bl r = FromEscape true S section sub key v bl r
  From place.Comment S section sub key v bl r = FromComment S section sub r

  -- it is so from each state
  abbrev pub Back : List ℕ → Type 0
  Back r =
      (p : Place) (S : List Setting) (section sub key v bl : List ℕ) → core (Some (st p S section sub key v bl)) r ≡ Some out → From p S section sub key v bl r

  -- ---- one byte, and what follows

  pub cons : (b c : ℕ) (bs : List ℕ) → b ≡ c → b ∷ bs ≡ c ∷ bs
  cons b c bs e = ap (λ (d : ℕ). d ∷ bs) e

  pub behind_byte : (b : ℕ) {x y : List ℕ} → x ≡ y → b ∷ x ≡ b ∷ y
  behind_byte b e = ap (λ (t : List ℕ). b ∷ t) e

  pub back_end : (b : ℕ) (bs : List ℕ) (S : List Setting) (section sub key v bl : List ℕ) → Back bs → is_end b ≡ true
      → core (Some (st (behind_end b) S section sub key v bl)) bs ≡ Some out → FromEnd S section sub (b ∷ bs)
  back_end b bs S section sub key v bl back ends e = at (eqb b 10) refl ends e
    where
      at : (t : Bool) → eqb b 10 ≡ t → (t || is_comment_mark b) ≡ true
          → core (Some (st (cond t place.Start place.Comment) S section sub key v bl)) bs ≡ Some out → FromEnd S section sub (b ∷ bs)
      at true is ends e = ([], bs, refl, cons b 10 bs (eqb-true b 10 is), back place.Start S section sub key v bl e)
      at false is ends e =
          let k = back place.Comment S section sub key v bl e in
          (b ∷ k.0, k.1, both (is_comment_mark b) (list_all is_in_line k.0) ends k.2, behind_byte b k.3, k.4)

  pub back_comment : (b : ℕ) (bs : List ℕ) (S : List Setting) (section sub key v bl : List ℕ) → Back bs
      → core (step (st place.Comment S section sub key v bl) b) bs ≡ Some out → FromComment S section sub (b ∷ bs)
  unfolding step
  back_comment b bs S section sub key v bl back e =
      elim (split (eqb b 10) (Some (st place.Start S section sub key v bl)) (Some (st place.Comment S section sub key v bl)) bs out e) [
        | inl h ↦ ([], bs, refl, cons b 10 bs (eqb-true b 10 h.0), back place.Start S section sub key v bl h.1)
        | inr h ↦
            let k = back place.Comment S section sub key v bl h.1 in
            (b ∷ k.0, k.1, both (is_in_line b) (list_all is_in_line k.0) (not_false (eqb b 10) h.0) k.2, behind_byte b k.3, k.4)
      ]

  -- ---- values

  end_value : (q : Bool) (S : List Setting) (section sub key v bl r : List ℕ) → q ≡ false → FromEnd (S ++ kept section sub key v) section sub r
      → FromValue q S section sub key v bl r
  end_value true S section sub key v bl r q-is k = absurd cc
  end_value false S section sub key v bl r q-is k = ([], r, refl, refl, k)

  more_byte : (q : Bool) (b : ℕ) (S : List Setting) (section sub key v bl r : List ℕ) → is_itself q b ≡ true → (not q && is_blank b) ≡ false
      → FromValue q S section sub key (v ++ bl ++ b ∷ []) [] r → FromValue q S section sub key v bl (b ∷ r)
  more_byte q b S section sub key v bl r it tight k =
      let same : gathered v bl (marks q (Byte b ∷ k.0)) ≡ gathered (v ++ bl ++ b ∷ []) [] (marks q k.0) = rw tight refl in
      (Byte b ∷ k.0, k.1, both (is_itself q b) (is_value q k.0) it k.2, behind_byte b k.3, subst (λ (x : List ℕ). FromEnd (S ++ kept section sub key x) section sub k.1) (sym same) k.4)

  more_blank : (b : ℕ) (S : List Setting) (section sub key v bl r : List ℕ) → is_itself false b ≡ true → is_blank b ≡ true
      → ((eqb (length v) 0 ≡ true) × FromValue false S section sub key v bl r) ⊎ ((eqb (length v) 0 ≡ false) × FromValue false S section sub key v (bl ++ b ∷ []) r) → FromValue false S section sub key v bl (b ∷ r)
  more_blank b S section sub key v bl r it loose (inl (none, k)) =
      let same : gathered v bl (marks false (Byte b ∷ k.0)) ≡ gathered v bl (marks false k.0) = rw (loose, none) refl in
      (Byte b ∷ k.0, k.1, both (is_itself false b) (is_value false k.0) it k.2, behind_byte b k.3, subst (λ (x : List ℕ). FromEnd (S ++ kept section sub key x) section sub k.1) (sym same) k.4)
  more_blank b S section sub key v bl r it loose (inr (some, k)) =
      let same : gathered v bl (marks false (Byte b ∷ k.0)) ≡ gathered v (bl ++ b ∷ []) (marks false k.0) = rw (loose, some) refl in
      (Byte b ∷ k.0, k.1, both (is_itself false b) (is_value false k.0) it k.2, behind_byte b k.3, subst (λ (x : List ℕ). FromEnd (S ++ kept section sub key x) section sub k.1) (sym same) k.4)

  quote : (q : Bool) (b : ℕ) (S : List Setting) (section sub key v bl r : List ℕ) → b ≡ 34 → FromValue (not q) S section sub key v bl r
      → FromValue q S section sub key v bl (b ∷ r)
  quote q b S section sub key v bl r e k = (Quote ∷ k.0, k.1, k.2, cons b 34 r e ∙ behind_byte 34 k.3, k.4)

  backslash : (q : Bool) (b : ℕ) (S : List Setting) (section sub key v bl r : List ℕ) → b ≡ 92 → FromEscape q S section sub key v bl r
      → FromValue q S section sub key v bl (b ∷ r)
  backslash q b S section sub key v bl r e (c, behind, is, inl (feed, k)) =
      (Join ∷ k.0, k.1, k.2, cons b 92 r e ∙ behind_byte 92 (is ∙ cons c 10 behind feed ∙ behind_byte 10 k.3), k.4)
  backslash q b S section sub key v bl r e (c, behind, is, inr (d, shows, k)) =
      let same : gathered v bl (marks q (Escape c ∷ k.0)) ≡ gathered (v ++ bl ++ d ∷ []) [] (marks q k.0) = ap (λ (o : Option ℕ). gathered (v ++ bl ++ unwrap_or o c ∷ []) [] (marks q k.0)) shows in
      (Escape c ∷ k.0, k.1, both (is_some (escaped c)) (is_value q k.0) (ap is_some shows) k.2, cons b 92 r e ∙ behind_byte 92 (is ∙ behind_byte c k.3), subst (λ (x : List ℕ). FromEnd (S ++ kept section sub key x) section sub k.1) (sym same) k.4)

  one_itself : (q : Bool) (b : ℕ) → eqb b 10 ≡ false → eqb b 34 ≡ false → eqb b 92 ≡ false → (q || not (is_comment_mark b)) ≡ true
      → is_itself q b ≡ true
  one_itself q b feed quote back marked = rw (feed, quote, back, marked) refl

  pub back_value : (b : ℕ) (bs : List ℕ) (S : List Setting) (section sub key v bl : List ℕ) → Back bs
      → core (step (st place.Value S section sub key v bl) b) bs ≡ Some out → FromValue false S section sub key v bl (b ∷ bs)
  unfolding step
  back_value b bs S section sub key v bl back e = at (is_end b) (eqb b 34) (eqb b 92) (is_blank b) (eqb (length v) 0) refl refl refl refl refl e
    where
      tight : (is_end b ≡ false) → eqb b 34 ≡ false → eqb b 92 ≡ false → is_itself false b ≡ true
      tight ends quote back =
          let k = or_false (eqb b 10) (is_comment_mark b) ends in
          one_itself false b k.0 quote back (not_false (is_comment_mark b) k.1)

      at : (t u w x y : Bool) → is_end b ≡ t → eqb b 34 ≡ u → eqb b 92 ≡ w → is_blank b ≡ x → eqb (length v) 0 ≡ y
          → core
          (cond t (Some (st (behind_end b) (S ++ kept section sub key v) section sub key v bl))
          (cond u (Some (st place.Quoted S section sub key v bl))
          (cond w (Some (st place.ValueEscape S section sub key v bl))
          (cond x (Some (cond y (st place.Value S section sub key v bl) (st place.Value S section sub key v (bl ++ b ∷ [])))) (Some (st place.Value S section sub key (v ++ bl ++ b ∷ []) []))))))
          bs ≡ Some out
          → FromValue false S section sub key v bl (b ∷ bs)
      at true u w x y t-is u-is w-is x-is y-is e =
          end_value false S section sub key v bl (b ∷ bs) refl (back_end b bs (S ++ kept section sub key v) section sub key v bl back t-is e)
      at false true w x y t-is u-is w-is x-is y-is e =
          quote false b S section sub key v bl bs (eqb-true b 34 u-is) (back place.Quoted S section sub key v bl e)
      at false false true x y t-is u-is w-is x-is y-is e =
          backslash false b S section sub key v bl bs (eqb-true b 92 w-is) (back place.ValueEscape S section sub key v bl e)
      at false false false true true t-is u-is w-is x-is y-is e =
          more_blank b S section sub key v bl bs (tight t-is u-is w-is) x-is (inl (y-is, back place.Value S section sub key v bl e))
      at false false false true false t-is u-is w-is x-is y-is e =
          more_blank b S section sub key v bl bs (tight t-is u-is w-is) x-is (inr (y-is, back place.Value S section sub key v (bl ++ b ∷ []) e))
      at false false false false y t-is u-is w-is x-is y-is e =
          more_byte false b S section sub key v bl bs (tight t-is u-is w-is) x-is (back place.Value S section sub key (v ++ bl ++ b ∷ []) [] e)

  pub back_quotes : (b : ℕ) (bs : List ℕ) (S : List Setting) (section sub key v bl : List ℕ) → Back bs
      → core (step (st place.Quoted S section sub key v bl) b) bs ≡ Some out → FromValue true S section sub key v bl (b ∷ bs)
  unfolding step
  back_quotes b bs S section sub key v bl back e = at (eqb b 10) (eqb b 34) (eqb b 92) refl refl refl e
    where
      at : (t u w : Bool) → eqb b 10 ≡ t → eqb b 34 ≡ u → eqb b 92 ≡ w
          → core
          (cond t None
          (cond u (Some (st place.Value S section sub key v bl))
          (cond w (Some (st place.QuotedEscape S section sub key v bl)) (Some (st place.Quoted S section sub key (v ++ bl ++ b ∷ []) [])))))
          bs ≡ Some out
          → FromValue true S section sub key v bl (b ∷ bs)
      at true u w t-is u-is w-is e = none out bs e
      at false true w t-is u-is w-is e = quote true b S section sub key v bl bs (eqb-true b 34 u-is) (back place.Value S section sub key v bl e)
      at false false true t-is u-is w-is e =
          backslash true b S section sub key v bl bs (eqb-true b 92 w-is) (back place.QuotedEscape S section sub key v bl e)
      at false false false t-is u-is w-is e =
          more_byte true b S section sub key v bl bs (one_itself true b t-is u-is w-is refl) refl (back place.Quoted S section sub key (v ++ bl ++ b ∷ []) [] e)

  value_place : (q : Bool) (S : List Setting) (section sub key v bl r : List ℕ) → From (in_value q) S section sub key v bl r
      → FromValue q S section sub key v bl r
  value_place true S section sub key v bl r k = k
  value_place false S section sub key v bl r k = k

  pub back_escape : (q : Bool) (b : ℕ) (bs : List ℕ) (S : List Setting) (section sub key v bl : List ℕ) → Back bs
      → (t : Bool) → eqb b 10 ≡ t → (o : Option ℕ) → escaped b ≡ o
      → core (cond t (Some (st (in_value q) S section sub key v bl)) (with_escaped (in_value q) (st (in_value q) S section sub key v bl) o)) bs ≡ Some out → FromEscape q S section sub key v bl (b ∷ bs)
  back_escape q b bs S section sub key v bl back true t-is o o-is e =
      (b, bs, refl, inl (eqb-true b 10 t-is, value_place q S section sub key v bl bs (back (in_value q) S section sub key v bl e)))
  back_escape q b bs S section sub key v bl back false t-is None o-is e = none out bs e
  back_escape q b bs S section sub key v bl back false t-is (Some c) o-is e =
      (b, bs, refl, inr (c, o-is, value_place q S section sub key (v ++ bl ++ c ∷ []) [] bs (back (in_value q) S section sub key (v ++ bl ++ c ∷ []) [] e)))
