-- What the lines of a configuration spell, the reader finds.
use Rattle.std.proofs.Common.{◌≡◌, ℕ, true, false, eqb, not, ◌&&◌, List, [], ◌∷◌, ◌++◌, length, map, Option, Some, None, refl, sym, ap, ◌∙◌, append_assoc}
use Rattle.std.specs.Char.{to_ascii_lowercase}
use Rattle.std.specs.List.{list_all, flat_map}
use Rattle.std.proofs.lemmas.List.{append-nil}
use Rattle.grammar.proofs.Passing.{and_true}
use Rattle.config_text.specs.declared.config.Setting.{Setting}
use Rattle.config_text.specs.declared.place.Place.{Place}
use Rattle.config_text.specs.declared.place.Place.TheVariants.{Start, Indented, Section, BehindSection, Sub, SubEscape, BehindSub, BehindHeader}
use Rattle.config_text.specs.Bytes.{is_section_byte, is_sub_byte, is_plain_sub_byte, lower}
use Rattle.config_text.specs.Configs as text
use Rattle.config_text.specs.Configs.{SubPart, Plain, Quoted, sub_part_text, is_sub_part, sub_part_byte, Header, Assignment, Line, line_text, section_behind, sub_behind, sub_of, settings_of, are_lines, assigned}
use Rattle.config_text.specs.Reading.{State, step}
use Rattle.config_text.proofs.Runs.{st}
use Rattle.config_text.proofs.Dropped.{core}
use Rattle.config_text.proofs.ByteTests.{not_true, blank}
use Rattle.config_text.proofs.Reached.{stays, ComesTo, earlier, then_item, item_from, IsFront, front_start, front_indented, front_behind_header, blank_indented, blank_start, blank_behind_header, blank_behind_section}
use Rattle.seq_base.specs.Blanks.{is_blank}

abbrev pub then_sub : Option text.Sub → List ℕ → List ℕ
then_sub None r = r
then_sub (Some sub) r = sub.blanks ++ (34 ∷ (flat_map sub_part_text sub.parts ++ (34 ∷ r)))

-- the text of a header and what follows
abbrev pub then_header : Option Header → List ℕ → List ℕ
then_header None r = r
then_header (Some h) r = 91 ∷ (h.section ++ then_sub h.sub (93 ∷ (h.blanks ++ r)))

module _ (S : List Setting) (key value blanks : List ℕ) where
  abbrev at : Place → List ℕ → List ℕ → State
  at place section sub = st place S section sub key value blanks

  on : (s t : State) (b : ℕ) (bs : List ℕ) → step s b ≡ Some t → core (Some s) (b ∷ bs) ≡ core (Some t) bs
  on s t b bs e = ap (λ (o : Option State). core o bs) e

  step_section : (section sub : List ℕ) (b : ℕ) → is_section_byte b ≡ true
      → step (at Section section sub) b ≡ Some (at Section (section ++ to_ascii_lowercase b ∷ []) sub)
  unfolding step
  step_section section sub b e = rw e refl

  section_runs : (section sub w r : List ℕ) → list_all is_section_byte w ≡ true
      → core (Some (at Section section sub)) (w ++ r) ≡ core (Some (at Section (section ++ lower w) sub)) r
  section_runs section sub [] r e = ap (λ (x : List ℕ). core (Some (at Section x sub)) r) (sym (append-nil section))
  section_runs section sub (b ∷ w) r e =
      let k = and_true (is_section_byte b) (list_all is_section_byte w) e in
      on (at Section section sub) (at Section (section ++ to_ascii_lowercase b ∷ []) sub) b (w ++ r) (step_section section sub b k.0)
      ∙ section_runs (section ++ to_ascii_lowercase b ∷ []) sub w r k.1
      ∙ ap (λ (x : List ℕ). core (Some (at Section x sub)) r) (append_assoc section (to_ascii_lowercase b ∷ []) (lower w))

  step_close : (section sub : List ℕ) → eqb (length section) 0 ≡ false → step (at Section section sub) 93 ≡ Some (at BehindHeader section sub)
  unfolding step
  step_close section sub some = rw some refl

  step_blank : (section sub : List ℕ) (b : ℕ) → eqb (length section) 0 ≡ false → is_blank b ≡ true
      → step (at Section section sub) b ≡ Some (at BehindSection section sub)
  unfolding step
  step_blank section sub b some e =
      blank (λ (b : ℕ). step (at Section section sub) b ≡ Some (at BehindSection section sub)) (rw some refl) (rw some refl) b e

  step_open : (section sub : List ℕ) → step (at BehindSection section sub) 34 ≡ Some (at Sub section sub)
  unfolding step
  step_open section sub = refl

  step_plain : (section sub : List ℕ) (b : ℕ) → is_plain_sub_byte b ≡ true → step (at Sub section sub) b ≡ Some (at Sub section (sub ++ b ∷ []))
  unfolding step
  step_plain section sub b e =
      let one = and_true (is_sub_byte b && not (eqb b 34)) (not (eqb b 92)) e in
      let two = and_true (is_sub_byte b) (not (eqb b 34)) one.0 in
      rw (not_true (eqb b 34) two.1, not_true (eqb b 92) one.1, two.0) refl

  step_backslash : (section sub : List ℕ) → step (at Sub section sub) 92 ≡ Some (at SubEscape section sub)
  unfolding step
  step_backslash section sub = refl

  step_escaped : (section sub : List ℕ) (b : ℕ) → is_sub_byte b ≡ true → step (at SubEscape section sub) b ≡ Some (at Sub section (sub ++ b ∷ []))
  unfolding step
  step_escaped section sub b e = rw e refl

  step_end : (section sub : List ℕ) → step (at Sub section sub) 34 ≡ Some (at BehindSub section sub)
  unfolding step
  step_end section sub = refl

  step_close_sub : (section sub : List ℕ) → step (at BehindSub section sub) 93 ≡ Some (at BehindHeader section sub)
  unfolding step
  step_close_sub section sub = refl

  sub_runs : (section sub : List ℕ) (parts : List SubPart) (r : List ℕ) → list_all is_sub_part parts ≡ true
      → core (Some (at Sub section sub)) (flat_map sub_part_text parts ++ r) ≡ core (Some (at Sub section (sub ++ map sub_part_byte parts))) r
  sub_runs section sub [] r e = ap (λ (x : List ℕ). core (Some (at Sub section x)) r) (sym (append-nil sub))
  sub_runs section sub (Plain b ∷ parts) r e =
      let k = and_true (is_plain_sub_byte b) (list_all is_sub_part parts) e in
      on (at Sub section sub) (at Sub section (sub ++ b ∷ [])) b (flat_map sub_part_text parts ++ r) (step_plain section sub b k.0)
      ∙ sub_runs section (sub ++ b ∷ []) parts r k.1
      ∙ ap (λ (x : List ℕ). core (Some (at Sub section x)) r) (append_assoc sub (b ∷ []) (map sub_part_byte parts))
  sub_runs section sub (Quoted b ∷ parts) r e =
      let k = and_true (is_sub_byte b) (list_all is_sub_part parts) e in
      on (at Sub section sub) (at SubEscape section sub) 92 (b ∷ (flat_map sub_part_text parts ++ r)) (step_backslash section sub)
      ∙ on (at SubEscape section sub) (at Sub section (sub ++ b ∷ [])) b (flat_map sub_part_text parts ++ r) (step_escaped section sub b k.0)
      ∙ sub_runs section (sub ++ b ∷ []) parts r k.1
      ∙ ap (λ (x : List ℕ). core (Some (at Sub section x)) r) (append_assoc sub (b ∷ []) (map sub_part_byte parts))

  -- from behind the blanks before a subsection
  quoted_runs : (section sub : List ℕ) (parts : List SubPart) (r : List ℕ) → list_all is_sub_part parts ≡ true
      → core (Some (at BehindSection section sub)) (34 ∷ (flat_map sub_part_text parts ++ (34 ∷ 93 ∷ r))) ≡ core (Some (at BehindHeader section (sub ++ map sub_part_byte parts))) r
  quoted_runs section sub parts r e =
      on (at BehindSection section sub) (at Sub section sub) 34 (flat_map sub_part_text parts ++ (34 ∷ 93 ∷ r)) (step_open section sub)
      ∙ sub_runs section sub parts (34 ∷ 93 ∷ r) e
      ∙ on (at Sub section (sub ++ map sub_part_byte parts)) (at BehindSub section (sub ++ map sub_part_byte parts)) 34 (93 ∷ r) (step_end section (sub ++ map sub_part_byte parts))
      ∙ on (at BehindSub section (sub ++ map sub_part_byte parts)) (at BehindHeader section (sub ++ map sub_part_byte parts)) 93 r (step_close_sub section (sub ++ map sub_part_byte parts))

  blanks_run : (section sub w : List ℕ) (parts : List SubPart) (r : List ℕ) → eqb (length section) 0 ≡ false → eqb (length w) 0 ≡ false
      → list_all is_blank w ≡ true → list_all is_sub_part parts ≡ true
      → core (Some (at Section section sub)) (w ++ (34 ∷ (flat_map sub_part_text parts ++ (34 ∷ 93 ∷ r)))) ≡ core (Some (at BehindHeader section (sub ++ map sub_part_byte parts))) r
  blanks_run section sub [] parts r some long we pe = absurd cc
  blanks_run section sub (b ∷ w) parts r some long we pe =
      let k = and_true (is_blank b) (list_all is_blank w) we in
      on (at Section section sub) (at BehindSection section sub) b (w ++ (34 ∷ (flat_map sub_part_text parts ++ (34 ∷ 93 ∷ r)))) (step_blank section sub b some k.0)
      ∙ stays S section sub key (at BehindSection section sub) is_blank (blank_behind_section S section sub key value blanks) w (34 ∷ (flat_map sub_part_text parts ++ (34 ∷ 93 ∷ r))) k.1
      ∙ quoted_runs section sub parts r pe

  close_runs : (section : List ℕ) (sub : Option text.Sub) (r : List ℕ) → eqb (length section) 0 ≡ false → text.is_sub sub ≡ true
      → core (Some (at Section section [])) (then_sub sub (93 ∷ r)) ≡ core (Some (at BehindHeader section (sub_of sub))) r
  close_runs section None r some e = on (at Section section []) (at BehindHeader section []) 93 r (step_close section [] some)
  close_runs section (Some sub) r some e =
      let one = and_true (not (eqb (length sub.blanks) 0) && list_all is_blank sub.blanks) (list_all is_sub_part sub.parts) e in
      let two = and_true (not (eqb (length sub.blanks) 0)) (list_all is_blank sub.blanks) one.0 in
      blanks_run section [] sub.blanks sub.parts r some (not_true (eqb (length sub.blanks) 0) two.0) two.1 one.1

  some_lower : (w : List ℕ) → eqb (length w) 0 ≡ false → eqb (length (lower w)) 0 ≡ false
  some_lower [] e = e
  some_lower (b ∷ w) e = longer w e
    where
      same : (w : List ℕ) → length (lower w) ≡ length w
      same [] = refl
      same (b ∷ w) = rw (same w) refl

      longer : (w : List ℕ) → eqb (length (b ∷ w)) 0 ≡ false → eqb (length (lower (b ∷ w))) 0 ≡ false
      longer w e = ap (λ (n : ℕ). eqb n 0) (same (b ∷ w)) ∙ e

  header_runs : (place : Place) (section sub : List ℕ) (h : Header) (r : List ℕ) → step (at place section sub) 91 ≡ Some (at Section [] [])
      → text.is_header (Some h) ≡ true
      → core (Some (at place section sub)) (then_header (Some h) r) ≡ core (Some (at BehindHeader (lower h.section) (sub_of h.sub))) r
  header_runs place section sub h r opens e =
      let one = and_true (not (eqb (length h.section) 0) && list_all is_section_byte h.section && text.is_sub h.sub) (list_all is_blank h.blanks) e in
      let two = and_true (not (eqb (length h.section) 0) && list_all is_section_byte h.section) (text.is_sub h.sub) one.0 in
      let three = and_true (not (eqb (length h.section) 0)) (list_all is_section_byte h.section) two.0 in
      on (at place section sub) (at Section [] []) 91 (h.section ++ then_sub h.sub (93 ∷ (h.blanks ++ r))) opens
      ∙ section_runs [] [] h.section (then_sub h.sub (93 ∷ (h.blanks ++ r))) three.1
      ∙ close_runs (lower h.section) h.sub (h.blanks ++ r) (some_lower h.section (not_true (eqb (length h.section) 0) three.0)) two.1
      ∙ stays S (lower h.section) (sub_of h.sub) key (at BehindHeader (lower h.section) (sub_of h.sub)) is_blank (blank_behind_header S (lower h.section) (sub_of h.sub) key value blanks) h.blanks r one.1

  -- from the front of a line, behind its blanks
  line_from : (place : Place) (section sub : List ℕ) (h : Option Header) (a : Option Assignment) (c r : List ℕ)
      → step (at place section sub) 91 ≡ Some (at Section [] []) → IsFront place S section sub key value blanks
      → text.is_header h ≡ true → text.is_assignment (section_behind section h) a ≡ true → text.is_comment c ≡ true
      → ComesTo (at place section sub) (then_header h (then_item a c r)) (S ++ assigned (section_behind section h) (sub_behind sub h) a) (section_behind section h) (sub_behind sub h) r
  line_from place section sub None a c r opens front he ae ce = item_from place S section sub key value blanks c r a front ae ce
  line_from place section sub (Some h) a c r opens front he ae ce =
      earlier (at place section sub) (at BehindHeader (lower h.section) (sub_of h.sub)) (then_header (Some h) (then_item a c r)) (then_item a c r) (S ++ assigned (lower h.section) (sub_of h.sub) a) (lower h.section) (sub_of h.sub) r
      (header_runs place section sub h (then_item a c r) opens he)
      (item_from BehindHeader S (lower h.section) (sub_of h.sub) key value blanks c r a (front_behind_header S (lower h.section) (sub_of h.sub) key value blanks) ae ce)

  opens_start : (section sub : List ℕ) → step (at Start section sub) 91 ≡ Some (at Section [] [])
  unfolding step
  opens_start section sub = refl

  opens_indented : (section sub : List ℕ) → step (at Indented section sub) 91 ≡ Some (at Section [] [])
  unfolding step
  opens_indented section sub = refl

  indent_from : (section sub w : List ℕ) (h : Option Header) (a : Option Assignment) (c r : List ℕ) → list_all is_blank w ≡ true
      → text.is_header h ≡ true → text.is_assignment (section_behind section h) a ≡ true → text.is_comment c ≡ true
      → ComesTo (at Start section sub) (w ++ then_header h (then_item a c r)) (S ++ assigned (section_behind section h) (sub_behind sub h) a) (section_behind section h) (sub_behind sub h) r
  indent_from section sub [] h a c r we he ae ce =
      line_from Start section sub h a c r (opens_start section sub) (front_start S section sub key value blanks) he ae ce
  indent_from section sub (b ∷ w) h a c r we he ae ce =
      let k = and_true (is_blank b) (list_all is_blank w) we in
      earlier (at Start section sub) (at Indented section sub) (b ∷ (w ++ then_header h (then_item a c r))) (then_header h (then_item a c r)) (S ++ assigned (section_behind section h) (sub_behind sub h) a) (section_behind section h) (sub_behind sub h) r
      (on (at Start section sub) (at Indented section sub) b (w ++ then_header h (then_item a c r)) (blank_start S section sub key value blanks b k.0)
      ∙ stays S section sub key (at Indented section sub) is_blank (blank_indented S section sub key value blanks) w (then_header h (then_item a c r)) k.1)
      (line_from Indented section sub h a c r (opens_indented section sub) (front_indented S section sub key value blanks) he ae ce)

-- ---- texts of lines

spread_sub : (x : List ℕ) (sub : Option text.Sub) (r : List ℕ) → (x ++ text.sub_text sub) ++ r ≡ x ++ then_sub sub r
spread_sub x None r = ap (λ (t : List ℕ). t ++ r) (append-nil x)
spread_sub x (Some sub) r = simp append_assoc

spread_header : (x : List ℕ) (h : Option Header) (r : List ℕ) → (x ++ text.header_text h) ++ r ≡ x ++ then_header h r
spread_header x None r = ap (λ (t : List ℕ). t ++ r) (append-nil x)
spread_header x (Some h) r =
    let k : (h.section ++ text.sub_text h.sub) ++ (93 ∷ (h.blanks ++ r)) ≡ h.section ++ then_sub h.sub (93 ∷ (h.blanks ++ r)) = spread_sub h.section h.sub (93 ∷ (h.blanks ++ r)) in
    append_assoc x (text.header_text (Some h)) r ∙ ap (λ (t : List ℕ). x ++ 91 ∷ t) (append_assoc (h.section ++ text.sub_text h.sub) (93 ∷ h.blanks) r ∙ k)

spread_item : (x : List ℕ) (a : Option Assignment) (c r : List ℕ) → ((x ++ text.assignment_text a) ++ c ++ 10 ∷ []) ++ r ≡ x ++ then_item a c r
spread_item x None c r = simp (append-nil, append_assoc)
spread_item x (Some a) c r = simp append_assoc

pub spread : (indent : List ℕ) (h : Option Header) (a : Option Assignment) (c r : List ℕ)
    → (indent ++ text.header_text h ++ text.assignment_text a ++ c ++ 10 ∷ []) ++ r ≡ indent ++ then_header h (then_item a c r)
spread indent h a c r = spread_item (indent ++ text.header_text h) a c r ∙ spread_header indent h (then_item a c r)

-- ---- all lines

pub lines_found : (ls : List Line) (S : List Setting) (section sub key value blanks : List ℕ) → are_lines section ls ≡ true
    → core (Some (st Start S section sub key value blanks)) (flat_map line_text ls) ≡ Some (S ++ settings_of section sub ls)
lines_found [] S section sub key value blanks e = ap (λ (x : List Setting). Some x) (sym (append-nil S))
lines_found (l ∷ ls) S section sub key value blanks e =
    let section' = section_behind section l.header in
    let sub' = sub_behind sub l.header in
    let one = and_true (text.is_line section l) (are_lines (section_behind section l.header) ls) e in
    let two = and_true (list_all is_blank l.indent && text.is_header l.header && text.is_assignment (section_behind section l.header) l.assignment) (text.is_comment l.comment) one.0 in
    let three = and_true (list_all is_blank l.indent && text.is_header l.header) (text.is_assignment (section_behind section l.header) l.assignment) two.0 in
    let four = and_true (list_all is_blank l.indent) (text.is_header l.header) three.0 in
    let h = indent_from S key value blanks section sub l.indent l.header l.assignment l.comment (flat_map line_text ls) four.0 four.1 three.1 two.1 in
    let more = lines_found ls (S ++ assigned section' sub' l.assignment) section' sub' h.0 h.1 h.2 one.1 in
    ap (λ (t : List ℕ). core (Some (st Start S section sub key value blanks)) t) (spread l.indent l.header l.assignment l.comment (flat_map line_text ls))
    ∙ h.3 ∙ more
    ∙ ap (λ (x : List Setting). Some x) (append_assoc S (assigned section' sub' l.assignment) (settings_of section' sub' ls))
