-- What the reader finds, some lines spell: headers, keys and whole lines.
use Rattle.std.proofs.Common.{◌≡◌, ℕ, Bool, true, false, cond, eqb, not, ◌&&◌, List, [], ◌∷◌, ◌++◌, length, map, Option, Some, None, refl, sym, ap, subst, ◌∙◌, append_assoc, ◌⊎◌, inl, inr}
use Rattle.std.specs.Prelude.{codes}
use Rattle.std.specs.Char.{to_ascii_lowercase}
use Rattle.std.specs.List.{list_all, flat_map}
use Rattle.std.proofs.lemmas.Bool.{eqb-true}
use Rattle.std.proofs.lemmas.List.{append-nil}
use Rattle.config_text.specs.declared.config.Setting.{Setting}
use Rattle.config_text.specs.declared.place.Place.{Place}
use Rattle.config_text.specs.declared.place.Place.TheVariants as place
use Rattle.config_text.specs.Bytes.{is_section_byte, is_letter, is_key_byte, is_sub_byte, is_plain_sub_byte, escaped, lower}
use Rattle.config_text.specs.Values.{marks}
use Rattle.config_text.specs.Configs as text
use Rattle.config_text.specs.Configs.{Plain, Quoted, is_sub_part, sub_part_byte, Line, line_text, section_behind, sub_behind, sub_of, settings_of, are_lines, assigned, kept}
use Rattle.config_text.specs.Reading.{step, is_end, behind_end, at_item}
use Rattle.config_text.proofs.Runs.{st, some_length}
use Rattle.config_text.proofs.Dropped.{core}
use Rattle.config_text.proofs.Gathered.{gathered_is}
use Rattle.config_text.proofs.ReachedLines.{then_sub, then_header, spread}
use Rattle.config_text.proofs.Reached.{then_item}
use Rattle.config_text.proofs.Understood.{From, FromStart, FromEnd, FromValue, FromBehindKey, FromKey, FromItem, FromBehindHeader, FromSub, FromSubEscape, FromBehindSub, FromBehindSection, FromSection, FromFront, Back, both, not_false, none, cons, behind_byte, back_end, back_comment, back_value, back_quotes, back_escape}
use Rattle.seq_base.specs.Blanks.{is_blank}

some_name : (w : List ℕ) → eqb (length (lower w)) 0 ≡ false → eqb (length w) 0 ≡ false
some_name [] e = e
some_name (b ∷ w) e = some_length b w

module _ (out : List Setting) where
  -- ---- keys

  written : (S : List Setting) (section sub key r : List ℕ) → FromValue out false S section sub key [] [] r
      → FromBehindKey out S section sub key (61 ∷ r)
  written S section sub key r k =
      ([], Some k.0, k.1, refl, k.2, behind_byte out 61 k.3, subst (λ (x : List ℕ). FromEnd out (S ++ kept section sub key x) section sub k.1) (gathered_is (marks false k.0)) k.4)

  back_behind_key_at : (b : ℕ) (bs : List ℕ) (S : List Setting) (section sub key v bl : List ℕ) → v ≡ codes "true" → Back out bs → (t u w : Bool)
      → eqb b 61 ≡ t → is_blank b ≡ u → is_end b ≡ w
      → core
      (cond t (Some (st place.Value S section sub key [] []))
      (cond u (Some (st place.BehindKey S section sub key v bl)) (cond w (Some (st (behind_end b) (S ++ kept section sub key v) section sub key v bl)) None)))
      bs ≡ Some out
      → FromBehindKey out S section sub key (b ∷ bs)
  back_behind_key_at b bs S section sub key v bl v-is back true u w t-is u-is w-is e =
      subst (λ (c : ℕ). FromBehindKey out S section sub key (c ∷ bs)) (sym (eqb-true b 61 t-is)) (written S section sub key bs (back place.Value S section sub key [] [] e))
  back_behind_key_at b bs S section sub key v bl v-is back false true w t-is u-is w-is e =
      let k = back place.BehindKey S section sub key v bl e v-is in
      (b ∷ k.0, k.1, k.2, both (is_blank b) (list_all is_blank k.0) u-is k.3, k.4, behind_byte out b k.5, k.6)
  back_behind_key_at b bs S section sub key v bl v-is back false false true t-is u-is w-is e =
      let k = back_end out b bs (S ++ kept section sub key v) section sub key v bl back w-is e in
      ([], None, b ∷ bs, refl, refl, refl, subst (λ (x : List ℕ). FromEnd out (S ++ kept section sub key x) section sub (b ∷ bs)) v-is k)
  back_behind_key_at b bs S section sub key v bl v-is back false false false t-is u-is w-is e = none out bs e

  back_behind_key : (b : ℕ) (bs : List ℕ) (S : List Setting) (section sub key v bl : List ℕ) → Back out bs
      → core (step (st place.BehindKey S section sub key v bl) b) bs ≡ Some out
      → v ≡ codes "true" → FromBehindKey out S section sub key (b ∷ bs)
  unfolding step
  back_behind_key b bs S section sub key v bl back e v-is =
      back_behind_key_at b bs S section sub key v bl v-is back (eqb b 61) (is_blank b) (is_end b) refl refl refl e

  back_key : (b : ℕ) (bs : List ℕ) (S : List Setting) (section sub key v bl : List ℕ) → Back out bs
      → core (step (st place.Key S section sub key v bl) b) bs ≡ Some out
      → v ≡ codes "true" → FromKey out S section sub key (b ∷ bs)
  unfolding step
  back_key b bs S section sub key v bl back e v-is = at (is_key_byte b) refl e
    where
      at : (t : Bool) → is_key_byte b ≡ t
          → core
          (cond t (Some (st place.Key S section sub (key ++ to_ascii_lowercase b ∷ []) v bl))
          (cond (eqb b 61) (Some (st place.Value S section sub key [] []))
          (cond (is_blank b) (Some (st place.BehindKey S section sub key v bl)) (cond (is_end b) (Some (st (behind_end b) (S ++ kept section sub key v) section sub key v bl)) None))))
          bs ≡ Some out
          → FromKey out S section sub key (b ∷ bs)
      at true is e =
          let k = back place.Key S section sub (key ++ to_ascii_lowercase b ∷ []) v bl e v-is in
          (b ∷ k.0, k.1, both (is_key_byte b) (list_all is_key_byte k.0) is k.2, behind_byte out b k.3, subst (λ (x : List ℕ). FromBehindKey out S section sub x k.1) (append_assoc key (to_ascii_lowercase b ∷ []) (lower k.0)) k.4)
      at false is e =
          let k = back_behind_key_at b bs S section sub key v bl v-is back (eqb b 61) (is_blank b) (is_end b) refl refl refl e in
          ([], b ∷ bs, refl, refl, subst (λ (x : List ℕ). FromBehindKey out S section sub x (b ∷ bs)) (sym (append-nil key)) k)

  -- ---- a setting or a comment

  -- at the end of the line, or at a comment
  item_end : (S : List Setting) (section sub r : List ℕ) → FromEnd out S section sub r → FromItem out S section sub r
  item_end S section sub r k =
      (None, k.0, k.1, refl, k.2, k.3, subst (λ (x : List Setting). FromStart out x section sub k.1) (sym (append-nil S)) k.4)

  item_key : (b : ℕ) (S : List Setting) (section sub r : List ℕ) → is_letter b ≡ true → eqb (length section) 0 ≡ false
      → FromKey out S section sub (to_ascii_lowercase b ∷ []) r → FromItem out S section sub (b ∷ r)
  item_key b S section sub r letter some k =
      let value = k.4 in
      let end = value.6 in (
        Some (record { key = b ∷ k.0; blanks = value.0; value = value.1 }),
        end.0,
        end.1,
        both (not (eqb (length section) 0) && (is_letter b && list_all is_key_byte k.0) && list_all is_blank value.0) (text.is_written value.1)
            (both (not (eqb (length section) 0) && (is_letter b && list_all is_key_byte k.0)) (list_all is_blank value.0)
            (both (not (eqb (length section) 0)) (is_letter b && list_all is_key_byte k.0) (not_false (eqb (length section) 0) some) (both (is_letter b) (list_all is_key_byte k.0) letter k.2)) value.3) value.4,
        end.2,
        behind_byte out b (k.3 ∙ ap (λ (t : List ℕ). k.0 ++ t) (value.5 ∙ ap (λ (t : List ℕ). value.0 ++ (text.value_text value.1 ++ t)) end.3)),
        end.4,
      )

  -- a blank, or such
  back_item : (q : Place) (b : ℕ) (bs : List ℕ) (p : Place) (S : List Setting) (section sub key v bl : List ℕ) → Back out bs
      → core (at_item q (st p S section sub key v bl) b) bs ≡ Some out
      → ((is_blank b ≡ true) × (core (Some (st q S section sub key v bl)) bs ≡ Some out)) ⊎ FromItem out S section sub (b ∷ bs)
  back_item q b bs p S section sub key v bl back e = at (is_end b) (is_blank b) (is_letter b) (eqb (length section) 0) refl refl refl refl e
    where
      at : (t u w x : Bool) → is_end b ≡ t → is_blank b ≡ u → is_letter b ≡ w → eqb (length section) 0 ≡ x
          → core
          (cond t (Some (st (behind_end b) S section sub key v bl))
          (cond u (Some (st q S section sub key v bl)) (cond (w && not x) (Some (st place.Key S section sub (to_ascii_lowercase b ∷ []) (codes "true") bl)) None)))
          bs ≡ Some out
          → ((u ≡ true) × (core (Some (st q S section sub key v bl)) bs ≡ Some out)) ⊎ FromItem out S section sub (b ∷ bs)
      at true u w x t-is u-is w-is x-is e = inr (item_end S section sub (b ∷ bs) (back_end out b bs S section sub key v bl back t-is e))
      at false true w x t-is u-is w-is x-is e = inl (refl, e)
      at false false true false t-is u-is w-is x-is e =
          inr (item_key b S section sub bs w-is x-is (back place.Key S section sub (to_ascii_lowercase b ∷ []) (codes "true") bl e refl))
      at false false true true t-is u-is w-is x-is e = none out bs e
      at false false false x t-is u-is w-is x-is e = none out bs e

  back_behind_header : (b : ℕ) (bs : List ℕ) (S : List Setting) (section sub key v bl : List ℕ) → Back out bs
      → core (step (st place.BehindHeader S section sub key v bl) b) bs ≡ Some out → FromBehindHeader out S section sub (b ∷ bs)
  unfolding step
  back_behind_header b bs S section sub key v bl back e =
      elim (back_item place.BehindHeader b bs place.BehindHeader S section sub key v bl back e) [
        | inl h ↦
            let k = back place.BehindHeader S section sub key v bl h.1 in
            (b ∷ k.0, k.1, both (is_blank b) (list_all is_blank k.0) h.0 k.2, behind_byte out b k.3, k.4)
        | inr h ↦ ([], b ∷ bs, refl, refl, h)
      ]

  -- ---- headers

  back_escaped_sub : (b : ℕ) (bs : List ℕ) (S : List Setting) (section sub key v bl : List ℕ) → Back out bs → (t : Bool) → is_sub_byte b ≡ t
      → core (cond t (Some (st place.Sub S section (sub ++ b ∷ []) key v bl)) None) bs ≡ Some out → FromSubEscape out S section sub (b ∷ bs)
  back_escaped_sub b bs S section sub key v bl back true is e = (b, bs, is, refl, back place.Sub S section (sub ++ b ∷ []) key v bl e)
  back_escaped_sub b bs S section sub key v bl back false is e = none out bs e

  back_sub_escape : (b : ℕ) (bs : List ℕ) (S : List Setting) (section sub key v bl : List ℕ) → Back out bs
      → core (step (st place.SubEscape S section sub key v bl) b) bs ≡ Some out → FromSubEscape out S section sub (b ∷ bs)
  unfolding step
  back_sub_escape b bs S section sub key v bl back e = back_escaped_sub b bs S section sub key v bl back (is_sub_byte b) refl e

  sub_more : (b : ℕ) (S : List Setting) (section sub r : List ℕ) → FromSub out S section (sub ++ b ∷ []) r → is_plain_sub_byte b ≡ true
      → FromSub out S section sub (b ∷ r)
  sub_more b S section sub r k plain = (
    Plain b ∷ k.0,
    k.1,
    both (is_plain_sub_byte b) (list_all is_sub_part k.0) plain k.2,
    behind_byte out b k.3,
    subst (λ (y : List ℕ). FromBehindHeader out S section y k.1) (append_assoc sub (b ∷ []) (map sub_part_byte k.0)) k.4,
  )

  sub_escaped : (b : ℕ) (S : List Setting) (section sub r : List ℕ) → b ≡ 92 → FromSubEscape out S section sub r → FromSub out S section sub (b ∷ r)
  sub_escaped b S section sub r e h =
      let k = h.4 in (
        Quoted h.0 ∷ k.0,
        k.1,
        both (is_sub_byte h.0) (list_all is_sub_part k.0) h.2 k.2,
        cons out b 92 r e ∙ behind_byte out 92 (h.3 ∙ behind_byte out h.0 k.3),
        subst (λ (y : List ℕ). FromBehindHeader out S section y k.1) (append_assoc sub (h.0 ∷ []) (map sub_part_byte k.0)) k.4,
      )

  sub_ends : (b : ℕ) (S : List Setting) (section sub r : List ℕ) → b ≡ 34 → FromBehindSub out S section sub r → FromSub out S section sub (b ∷ r)
  sub_ends b S section sub r e k =
      ([], k.0, refl, cons out b 34 r e ∙ behind_byte out 34 k.1, subst (λ (y : List ℕ). FromBehindHeader out S section y k.0) (sym (append-nil sub)) k.2)

  back_sub : (b : ℕ) (bs : List ℕ) (S : List Setting) (section sub key v bl : List ℕ) → Back out bs
      → core (step (st place.Sub S section sub key v bl) b) bs ≡ Some out → FromSub out S section sub (b ∷ bs)
  unfolding step
  back_sub b bs S section sub key v bl back e = at (eqb b 34) (eqb b 92) (is_sub_byte b) refl refl refl e
    where
      at : (t u w : Bool) → eqb b 34 ≡ t → eqb b 92 ≡ u → is_sub_byte b ≡ w
          → core
          (cond t (Some (st place.BehindSub S section sub key v bl))
          (cond u (Some (st place.SubEscape S section sub key v bl)) (cond w (Some (st place.Sub S section (sub ++ b ∷ []) key v bl)) None)))
          bs ≡ Some out
          → FromSub out S section sub (b ∷ bs)
      at true u w t-is u-is w-is e = sub_ends b S section sub bs (eqb-true b 34 t-is) (back place.BehindSub S section sub key v bl e)
      at false true w t-is u-is w-is e = sub_escaped b S section sub bs (eqb-true b 92 u-is) (back place.SubEscape S section sub key v bl e)
      at false false true t-is u-is w-is e =
          sub_more b S section sub bs (back place.Sub S section (sub ++ b ∷ []) key v bl e) (rw (w-is, t-is, u-is) refl)
      at false false false t-is u-is w-is e = none out bs e

  back_behind_sub : (b : ℕ) (bs : List ℕ) (S : List Setting) (section sub key v bl : List ℕ) → Back out bs
      → core (step (st place.BehindSub S section sub key v bl) b) bs ≡ Some out → FromBehindSub out S section sub (b ∷ bs)
  unfolding step
  back_behind_sub b bs S section sub key v bl back e = at (eqb b 93) refl e
    where
      at : (t : Bool) → eqb b 93 ≡ t → core (cond t (Some (st place.BehindHeader S section sub key v bl)) None) bs ≡ Some out
          → FromBehindSub out S section sub (b ∷ bs)
      at true is e = (bs, cons out b 93 bs (eqb-true b 93 is), back place.BehindHeader S section sub key v bl e)
      at false is e = none out bs e

  back_behind_section : (b : ℕ) (bs : List ℕ) (S : List Setting) (section sub key v bl : List ℕ) → Back out bs
      → core (step (st place.BehindSection S section sub key v bl) b) bs ≡ Some out → FromBehindSection out S section sub (b ∷ bs)
  unfolding step
  back_behind_section b bs S section sub key v bl back e = at (is_blank b) (eqb b 34) refl refl e
    where
      at : (t u : Bool) → is_blank b ≡ t → eqb b 34 ≡ u
          → core (cond t (Some (st place.BehindSection S section sub key v bl)) (cond u (Some (st place.Sub S section sub key v bl)) None)) bs ≡ Some out
          → FromBehindSection out S section sub (b ∷ bs)
      at true u t-is u-is e =
          let k = back place.BehindSection S section sub key v bl e in
          (b ∷ k.0, k.1, both (is_blank b) (list_all is_blank k.0) t-is k.2, behind_byte out b k.3, k.4)
      at false true t-is u-is e = ([], bs, refl, cons out b 34 bs (eqb-true b 34 u-is), back place.Sub S section sub key v bl e)
      at false false t-is u-is e = none out bs e

  some_section : (S : List Setting) (section sub r : List ℕ) (s : Option text.Sub) (behind : List ℕ) → eqb (length section) 0 ≡ false
      → text.is_sub s ≡ true → r ≡ then_sub s (93 ∷ behind)
      → FromBehindHeader out S section (sub ++ sub_of s) behind → FromSection out S section sub r
  some_section S section sub r s behind some is e k =
      let same : section ++ lower [] ≡ section = append-nil section in
      ([], s, behind, refl, ap (λ (x : List ℕ). eqb (length x) 0) same ∙ some, is, e, subst (λ (x : List ℕ). FromBehindHeader out S x (sub ++ sub_of s) behind) (sym same) k)

  section_blank : (b : ℕ) (S : List Setting) (section sub r : List ℕ) → is_blank b ≡ true → eqb (length section) 0 ≡ false
      → FromBehindSection out S section sub r → FromSection out S section sub (b ∷ r)
  section_blank b S section sub r blank some h =
      let k = h.4 in
      some_section S section sub (b ∷ r) (Some (record { blanks = b ∷ h.0; parts = k.0 })) k.1 some
      (both (not (eqb (length (b ∷ h.0)) 0) && (is_blank b && list_all is_blank h.0)) (list_all is_sub_part k.0)
      (both (not (eqb (length (b ∷ h.0)) 0)) (is_blank b && list_all is_blank h.0) (ap not (some_length b h.0)) (both (is_blank b) (list_all is_blank h.0) blank h.2)) k.2)
      (behind_byte out b (h.3 ∙ ap (λ (t : List ℕ). h.0 ++ (34 ∷ t)) k.3)) k.4

  back_section : (b : ℕ) (bs : List ℕ) (S : List Setting) (section sub key v bl : List ℕ) → Back out bs
      → core (step (st place.Section S section sub key v bl) b) bs ≡ Some out → FromSection out S section sub (b ∷ bs)
  unfolding step
  back_section b bs S section sub key v bl back e = at (is_section_byte b) (eqb (length section) 0) (eqb b 93) (is_blank b) refl refl refl refl e
    where
      at : (t u w x : Bool) → is_section_byte b ≡ t → eqb (length section) 0 ≡ u → eqb b 93 ≡ w → is_blank b ≡ x
          → core
          (cond t (Some (st place.Section S (section ++ to_ascii_lowercase b ∷ []) sub key v bl))
          (cond u None (cond w (Some (st place.BehindHeader S section sub key v bl)) (cond x (Some (st place.BehindSection S section sub key v bl)) None))))
          bs ≡ Some out
          → FromSection out S section sub (b ∷ bs)
      at true u w x t-is u-is w-is x-is e =
          let k = back place.Section S (section ++ to_ascii_lowercase b ∷ []) sub key v bl e in
          let same : (section ++ to_ascii_lowercase b ∷ []) ++ lower k.0 ≡ section ++ lower (b ∷ k.0) = append_assoc section (to_ascii_lowercase b ∷ []) (lower k.0) in (
            b ∷ k.0,
            k.1,
            k.2,
            both (is_section_byte b) (list_all is_section_byte k.0) t-is k.3,
            ap (λ (x : List ℕ). eqb (length x) 0) (sym same) ∙ k.4,
            k.5,
            behind_byte out b k.6,
            subst (λ (x : List ℕ). FromBehindHeader out S x (sub ++ sub_of k.1) k.2) same k.7,
          )
      at false true w x t-is u-is w-is x-is e = none out bs e
      at false false true x t-is u-is w-is x-is e =
          some_section S section sub (b ∷ bs) None bs u-is refl (cons out b 93 bs (eqb-true b 93 w-is))
          (subst (λ (y : List ℕ). FromBehindHeader out S section y bs) (sym (append-nil sub)) (back place.BehindHeader S section sub key v bl e))
      at false false false true t-is u-is w-is x-is e = section_blank b S section sub bs x-is u-is (back place.BehindSection S section sub key v bl e)
      at false false false false t-is u-is w-is x-is e = none out bs e

  -- ---- lines

  header_front : (b : ℕ) (S : List Setting) (section sub r : List ℕ) → b ≡ 91 → FromSection out S [] [] r → FromFront out S section sub (b ∷ r)
  header_front b S section sub r e k =
      let rest = k.7 in
      let item = rest.4 in (
        [],
        Some (record { section = k.0; sub = k.1; blanks = rest.0 }),
        item.0,
        item.1,
        item.2,
        refl,
        both (not (eqb (length k.0) 0) && list_all is_section_byte k.0 && text.is_sub k.1) (list_all is_blank rest.0)
            (both (not (eqb (length k.0) 0) && list_all is_section_byte k.0) (text.is_sub k.1)
            (both (not (eqb (length k.0) 0)) (list_all is_section_byte k.0) (not_false (eqb (length k.0) 0) (some_name k.0 k.4)) k.3) k.5) rest.2,
        item.3,
        item.4,
        cons out b 91 r e ∙ behind_byte out 91 (k.6 ∙ ap (λ (t : List ℕ). k.0 ++ then_sub k.1 (93 ∷ t)) (rest.3 ∙ ap (λ (t : List ℕ). rest.0 ++ t) item.5)),
        item.6,
      )

  back_front : (b : ℕ) (bs : List ℕ) (p : Place) (S : List Setting) (section sub key v bl : List ℕ) → Back out bs → (t : Bool) → eqb b 91 ≡ t
      → core (cond t (Some (st place.Section S [] [] key v bl)) (at_item place.Indented (st p S section sub key v bl) b)) bs ≡ Some out → FromFront out S section sub (b ∷ bs)
  back_front b bs p S section sub key v bl back true is e = header_front b S section sub bs (eqb-true b 91 is) (back place.Section S [] [] key v bl e)
  back_front b bs p S section sub key v bl back false is e =
      elim (back_item place.Indented b bs p S section sub key v bl back e) [
        | inl h ↦
            let k = back place.Indented S section sub key v bl h.1 in
            (b ∷ k.0, k.1, k.2, k.3, k.4, both (is_blank b) (list_all is_blank k.0) h.0 k.5, k.6, k.7, k.8, behind_byte out b k.9, k.10)
        | inr h ↦ ([], None, h.0, h.1, h.2, refl, refl, h.3, h.4, h.5, h.6)
      ]

  line_start : (S : List Setting) (section sub r : List ℕ) → FromFront out S section sub r → FromStart out S section sub r
  line_start S section sub r k =
      let ls = k.10 in (
        record { indent = k.0; header = k.1; assignment = k.2; comment = k.3 } ∷ ls.0,
        both (list_all is_blank k.0 && text.is_header k.1 && text.is_assignment (section_behind section k.1) k.2 && text.is_comment k.3) (are_lines (section_behind section k.1) ls.0)
            (both (list_all is_blank k.0 && text.is_header k.1 && text.is_assignment (section_behind section k.1) k.2) (text.is_comment k.3)
            (both (list_all is_blank k.0 && text.is_header k.1) (text.is_assignment (section_behind section k.1) k.2) (both (list_all is_blank k.0) (text.is_header k.1) k.5 k.6) k.7) k.8) ls.1,
        k.9 ∙ ap (λ (t : List ℕ). k.0 ++ then_header k.1 (then_item k.2 k.3 t)) ls.2 ∙ sym (spread k.0 k.1 k.2 k.3 (flat_map line_text ls.0)),
        ls.3 ∙ append_assoc S (assigned (section_behind section k.1) (sub_behind sub k.1) k.2) (settings_of (section_behind section k.1) (sub_behind sub k.1) ls.0),
      )

  back_at : (b : ℕ) (bs : List ℕ) (p : Place) (S : List Setting) (section sub key v bl : List ℕ) → Back out bs
      → core (step (st p S section sub key v bl) b) bs ≡ Some out → From out p S section sub key v bl (b ∷ bs)
  unfolding step
  back_at b bs place.Start S section sub key v bl back e =
      line_start S section sub (b ∷ bs) (back_front b bs place.Start S section sub key v bl back (eqb b 91) refl e)
  back_at b bs place.Indented S section sub key v bl back e = back_front b bs place.Indented S section sub key v bl back (eqb b 91) refl e
  back_at b bs place.Section S section sub key v bl back e = back_section b bs S section sub key v bl back e
  back_at b bs place.BehindSection S section sub key v bl back e = back_behind_section b bs S section sub key v bl back e
  back_at b bs place.Sub S section sub key v bl back e = back_sub b bs S section sub key v bl back e
  back_at b bs place.SubEscape S section sub key v bl back e = back_sub_escape b bs S section sub key v bl back e
  back_at b bs place.BehindSub S section sub key v bl back e = back_behind_sub b bs S section sub key v bl back e
  back_at b bs place.BehindHeader S section sub key v bl back e = back_behind_header b bs S section sub key v bl back e
  back_at b bs place.Key S section sub key v bl back e = back_key b bs S section sub key v bl back e
  back_at b bs place.BehindKey S section sub key v bl back e = back_behind_key b bs S section sub key v bl back e
  back_at b bs place.Value S section sub key v bl back e = back_value out b bs S section sub key v bl back e
  back_at b bs place.ValueEscape S section sub key v bl back e =
      back_escape out false b bs S section sub key v bl back (eqb b 10) refl (escaped b) refl e
  back_at b bs place.Quoted S section sub key v bl back e = back_quotes out b bs S section sub key v bl back e
  back_at b bs place.QuotedEscape S section sub key v bl back e =
      back_escape out true b bs S section sub key v bl back (eqb b 10) refl (escaped b) refl e
  back_at b bs place.Comment S section sub key v bl back e = back_comment out b bs S section sub key v bl back e

  back_none : Back out []
  back_none place.Start S section sub key v bl e = ([], refl, refl, (let k : S ≡ out = cc in sym k) ∙ sym (append-nil S))
  back_none place.Indented S section sub key v bl e = absurd cc
  back_none place.Section S section sub key v bl e = absurd cc
  back_none place.BehindSection S section sub key v bl e = absurd cc
  back_none place.Sub S section sub key v bl e = absurd cc
  back_none place.SubEscape S section sub key v bl e = absurd cc
  back_none place.BehindSub S section sub key v bl e = absurd cc
  back_none place.BehindHeader S section sub key v bl e = absurd cc
  back_none place.Key S section sub key v bl e = absurd cc
  back_none place.BehindKey S section sub key v bl e = absurd cc
  back_none place.Value S section sub key v bl e = absurd cc
  back_none place.ValueEscape S section sub key v bl e = absurd cc
  back_none place.Quoted S section sub key v bl e = absurd cc
  back_none place.QuotedEscape S section sub key v bl e = absurd cc
  back_none place.Comment S section sub key v bl e = absurd cc

  back_all : (r : List ℕ) → Back out r
  back_all [] = back_none
  back_all (b ∷ bs) = λ p S section sub key v bl e. back_at b bs p S section sub key v bl (back_all bs) e

  -- from the front of a line, what the reader finds some lines spell
  pub lines_of : (S : List Setting) (section sub key v bl r : List ℕ) → core (Some (st place.Start S section sub key v bl)) r ≡ Some out
      → (ls : List Line) × (are_lines section ls ≡ true) × (r ≡ flat_map line_text ls) × (out ≡ S ++ settings_of section sub ls)
  lines_of S section sub key v bl r e = back_all r place.Start S section sub key v bl e
