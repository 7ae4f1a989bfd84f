-- Hex digits are a word, and a subject without blanks at its ends is a note.
use Rattle.std.proofs.Common.{◌≡◌, ℕ, zero, suc, ◌/◌, ◌%◌, Bool, true, false, cond, not, ◌&&◌, List, [], ◌∷◌, ◌++◌, length, slice_index, refl, ap, ◌∙◌, arith, ⊎_elim}
use Rattle.std.specs.Prelude.{◌||◌, ◌==◌}
use Rattle.std.specs.List.{list_all}
use Rattle.std.proofs.lemmas.Bool.{and_parts, and_from, cases_Bool, cond-true, cond-false}
use Rattle.hex.specs.Hex.{encode_lower, encode_with, lower_digits}
use Rattle.hex.proofs.HexLemmas.{length-encode_with}
use Rattle.seq_base.specs.Ids.{IsId}
use Rattle.seq_base.specs.Blanks.{is_blank}
use Rattle.message_text.specs.Lines.{from, without_end}
use Rattle.merge_base.specs.declared.graph.Node.{Node}
use Rattle.todo_text.specs.Spells.{HasNoFeed, IsSpelled, begins_blank, ends_blank}
use Rattle.todo_text.proofs.TextLaws.{IsGoodNote, IsGoodWord, pick_spelled, noop_spelled as alone}
use Rattle.todo_text.specs.declared.line.Line.{Line}
use Rattle.todo_text.specs.declared.line.Line.TheVariants.{Noop}
use Rattle.std.proofs.lemmas.List.Elements.{All-cons, All-nil, All-push}
use Rattle.todo_plan.specs.Commits.{is_edge, note_of, pick_of}
use Rattle.todo_plan.specs.Told.{AreSpelled}

-- ---- hex digits

module _ (p : ℕ → Bool) (fits : p 0 ≡ true) where
  pub digit : (t : List ℕ) (k : ℕ) → list_all p t ≡ true → p (slice_index t k) ≡ true
  digit [] k h = fits
  digit (x ∷ xs) zero h = (and_parts (p x) (list_all p xs) h).0
  digit (x ∷ xs) (suc k) h = digit xs k (and_parts (p x) (list_all p xs) h).1

  digits : (t xs : List ℕ) → list_all p t ≡ true → list_all p (encode_with t xs) ≡ true
  unfolding encode_with
  digits t [] h = refl
  digits t (b ∷ rest) h = and_from _ _ (digit t (b / 16) h) (and_from _ _ (digit t (b % 16) h) (digits t rest h))

pub hex_word : (id : List ℕ) → IsId id → IsGoodWord (encode_lower id)
hex_word id h =
    let forty : length (encode_lower id) ≡ 40 = let long = length-encode_with lower_digits id in omega (arith, long, h.1) in record { word = (ap (λ n. n == 0) forty, digits (λ b. not (is_blank b)) refl lower_digits id refl); feed = digits (λ b. not (b == 10)) refl lower_digits id refl }

-- ---- notes

module _ (p : ℕ → Bool) (q : ℕ → Bool) where
  all_from : (xs : List ℕ) → list_all q xs ≡ true → list_all q (from p xs) ≡ true
  all_from [] h = refl
  all_from (x ∷ xs) h =
      ⊎_elim
      (λ yes. ap (list_all q) (cond-true (p x) (x ∷ xs) (from p xs) yes) ∙ h)
      (λ never. ap (list_all q) (cond-false (p x) (x ∷ xs) (from p xs) never) ∙ all_from xs (and_parts (q x) (list_all q xs) h).1)
      (cases_Bool (p x))

  all_without_end : (xs : List ℕ) → list_all q xs ≡ true → list_all q (without_end p xs) ≡ true
  all_without_end [] h = refl
  all_without_end (x ∷ xs) h =
      let parts = and_parts (q x) (list_all q xs) h in
      ⊎_elim
      (λ yes. ap (list_all q) (cond-true (list_all p (x ∷ xs)) [] (x ∷ without_end p xs) yes))
      (λ never. ap (list_all q) (cond-false (list_all p (x ∷ xs)) [] (x ∷ without_end p xs) never) ∙ and_from _ _ parts.0 (all_without_end xs parts.1))
      (cases_Bool (list_all p (x ∷ xs)))

no_blank : (b : ℕ) → is_edge b ≡ false → is_blank b ≡ false
no_blank b h = at (is_blank b) h
  where
    at : (v : Bool) → (v || b == 13) ≡ false → v ≡ false
    at true e = cc
    at false e = refl

begins : (xs : List ℕ) → begins_blank (without_end is_edge (from (λ b. not (is_edge b)) xs)) ≡ false
begins [] = refl
begins (x ∷ xs) =
    ⊎_elim
    (λ edge. ap (λ (v : Bool). begins_blank (without_end is_edge (cond (not v) (x ∷ xs) (from (λ b. not (is_edge b)) xs)))) edge ∙ begins xs)
    (λ never.
    let all : list_all is_edge (x ∷ xs) ≡ false = ap (λ (v : Bool). v && list_all is_edge xs) never in
    ap (λ (v : Bool). begins_blank (without_end is_edge (cond (not v) (x ∷ xs) (from (λ b. not (is_edge b)) xs)))) never
    ∙ ap begins_blank (cond-false (list_all is_edge (x ∷ xs)) [] (x ∷ without_end is_edge xs) all)
    ∙ no_blank x never)
    (cases_Bool (is_edge x))

-- where nothing is left, all passes
left_none : (xs : List ℕ) → without_end is_edge xs ≡ [] → list_all is_edge xs ≡ true
left_none [] h = refl
left_none (x ∷ xs) h = at (list_all is_edge (x ∷ xs)) h
  where
    at : (v : Bool) → cond v [] (x ∷ without_end is_edge xs) ≡ [] → v ≡ true
    at true e = refl
    at false e = cc

ends : (xs : List ℕ) → ends_blank (without_end is_edge xs) ≡ false
ends [] = refl
ends (x ∷ xs) =
    ⊎_elim
    (λ yes. ap ends_blank (cond-true (list_all is_edge (x ∷ xs)) [] (x ∷ without_end is_edge xs) yes))
    (λ never. ap ends_blank (cond-false (list_all is_edge (x ∷ xs)) [] (x ∷ without_end is_edge xs) never) ∙ last (without_end is_edge xs) refl never (ends xs))
    (cases_Bool (list_all is_edge (x ∷ xs)))
  where
    only : (v w : Bool) → w ≡ true → (v && w) ≡ false → v ≡ false
    only true w holds e = cc
    only false w holds e = refl

    last : (left : List ℕ) → without_end is_edge xs ≡ left → list_all is_edge (x ∷ xs) ≡ false → ends_blank left ≡ false
        → ends_blank (x ∷ left) ≡ false
    last [] e n r = no_blank x (only (is_edge x) (list_all is_edge xs) (left_none xs e) n)
    last (c ∷ cs) e n r = r

pub subject_note : (subject : List ℕ) → HasNoFeed subject → IsGoodNote (note_of subject)
subject_note subject h = record {
  begins = begins subject;
  ends = ends (from (λ b. not (is_edge b)) subject);
  feed =
      all_without_end is_edge (λ b. not (b == 10)) (from (λ b. not (is_edge b)) subject) (all_from (λ b. not (is_edge b)) (λ b. not (b == 10)) subject h);
}

pub pick_spells : (node : Node) → IsId node.id → HasNoFeed node.subject → IsSpelled (pick_of node)
pick_spells node id feed = pick_spelled (encode_lower node.id) (note_of node.subject) (hex_word node.id id) (subject_note node.subject feed)

-- ---- lists of lines

pub none_spelled : AreSpelled []
none_spelled = record { each = All-nil IsSpelled }

pub noop_spelled : AreSpelled (Noop ∷ [])
noop_spelled = record { each = All-cons IsSpelled Noop [] alone (All-nil IsSpelled) }

pub more_spelled : (lines : List Line) (line : Line) → AreSpelled lines → IsSpelled line → AreSpelled (lines ++ line ∷ [])
more_spelled lines line h one = record { each = All-push IsSpelled lines line h.each one }
