-- A text split at each line feed has the parts between line feeds.
use Rattle.std.proofs.Common.{◌≡◌, ℕ, zero, suc, ◌+◌, ◌-◌, ◌<◌, ◌≤◌, true, false, List, [], ◌∷◌, ◌++◌, length, get_or, take, drop, refl, sym, ap, ◌∙◌, arith, ⊎_elim, drop-cons, length-drop, append_assoc, take_all, add-one, ◌⊎◌, lit<}
use Rattle.std.proofs.lemmas.Bool.{cases_Bool, cond-true, cond-false, eq-eqb, eqb-true, cases_lt}
use Rattle.std.specs.Prelude.{◌==◌}
use Rattle.std.proofs.lemmas.List.{take_more, get_or-drop, append-nil, drop_all}
use Rattle.std.specs.List.{slice_split, onto_first}
use Rattle.std.proofs.lemmas.List.Splits.{slice_split-cons_yes, slice_split-cons_no, length-slice_split}
use Rattle.memchr.specs.Find.{OccursAt, occurs_at, matches, matches_from}
use Rattle.memchr.proofs.lemmas.MatchLemmas.{OccursAt-true, occurs_at-true}
use Rattle.bstr.specs.Text.{split_at, part}
use Rattle.message_text.specs.Lines.{lines, is_line_feed}

-- xs before the first part
abbrev prepend : List ℕ → List (List ℕ) → List (List ℕ)
prepend xs [] = []
prepend xs (p ∷ ps) = (xs ++ p) ∷ ps

prepend-onto_first : (xs : List ℕ) (b : ℕ) (ps : List (List ℕ)) → 0 < length ps → prepend xs (onto_first b ps) ≡ prepend (xs ++ b ∷ []) ps
prepend-onto_first xs b [] h = absurd (omega arith)
prepend-onto_first xs b (p ∷ ps) h = ap (λ part. part ∷ ps) (sym (append_assoc xs (b ∷ []) p))

prepend-nil : (ps : List (List ℕ)) → prepend [] ps ≡ ps
prepend-nil [] = refl
prepend-nil (p ∷ ps) = refl

some_parts : (text : List ℕ) → 0 < length (slice_split is_line_feed text)
some_parts text = omega (arith, length-slice_split is_line_feed text)

module _ (hay : List ℕ) where
  reads_at : (i : ℕ) → i < length hay → drop i hay ≡ get_or hay i 0 ∷ drop (i + 1) hay
  reads_at i l = rw add-one (drop-cons hay i 0 l)

  part-more : (i last : ℕ) → i < length hay → last ≤ i → part last (i + 1) hay ≡ part last i hay ++ get_or hay i 0 ∷ []
  part-more i last l below =
      let count : i + 1 - last ≡ (i - last) + 1 = omega arith in
      let place : last + (i - last) ≡ i = omega arith in
      let within : i - last < length (drop last hay) = omega (arith, length-drop last hay) in
      ap (λ n. take n (drop last hay)) count ∙ take_more (drop last hay) (i - last) 0 within
      ∙ ap (λ b. part last i hay ++ b ∷ []) (get_or-drop last hay (i - last) 0 ∙ ap (λ k. get_or hay k 0) place)

  part-none : (i : ℕ) → part i i hay ≡ []
  part-none i = let count : i - i ≡ 0 = omega arith in ap (λ n. take n (drop i hay)) count

  -- a step over a byte that is no line feed
  over : (i last : ℕ) → i < length hay → last ≤ i → get_or hay i 0 == 10 ≡ false
      → prepend (part last (i + 1) hay) (slice_split is_line_feed (drop (i + 1) hay)) ≡ prepend (part last i hay) (slice_split is_line_feed (drop i hay))
  over i last l below fails =
      let rest = drop (i + 1) hay in
      let b = get_or hay i 0 in
      ap (λ xs. prepend xs (slice_split is_line_feed rest)) (part-more i last l below)
      ∙ sym (prepend-onto_first (part last i hay) b (slice_split is_line_feed rest) (some_parts rest))
      ∙ ap (prepend (part last i hay)) (sym (slice_split-cons_no is_line_feed b rest fails))
      ∙ ap (λ xs. prepend (part last i hay) (slice_split is_line_feed xs)) (sym (reads_at i l))

  -- a step over a line feed
  through : (i last : ℕ) → i < length hay → get_or hay i 0 == 10 ≡ true
      → part last i hay ∷ slice_split is_line_feed (drop (i + 1) hay) ≡ prepend (part last i hay) (slice_split is_line_feed (drop i hay))
  through i last l feed =
      let rest = drop (i + 1) hay in
      ap (λ xs. xs ∷ slice_split is_line_feed rest) (sym (append-nil (part last i hay)))
      ∙ ap (prepend (part last i hay)) (sym (slice_split-cons_yes is_line_feed (get_or hay i 0) rest feed))
      ∙ ap (λ xs. prepend (part last i hay) (slice_split is_line_feed xs)) (sym (reads_at i l))

  -- at the end
  at_end : (i last : ℕ) → length hay ≤ i → drop last hay ∷ [] ≡ prepend (part last i hay) (slice_split is_line_feed (drop i hay))
  at_end i last l =
      let enough : length (drop last hay) ≤ i - last = omega (arith, length-drop last hay) in
      ap (λ xs. xs ∷ []) (sym (take_all (i - last) (drop last hay) enough) ∙ sym (append-nil (part last i hay)))
      ∙ ap (λ xs. prepend (part last i hay) (slice_split is_line_feed xs)) (sym (drop_all i hay l))

  is_feed : (i : ℕ) → OccursAt hay (10 ∷ []) i → get_or hay i 0 == 10 ≡ true
  is_feed i h = eq-eqb _ _ (let place : i ≡ i + 0 = omega arith in ap (λ k. get_or hay k 0) place ∙ h.reads 0 (lit< tt))

  is_no_feed : (i : ℕ) → i < length hay → occurs_at hay (10 ∷ []) i ≡ false → get_or hay i 0 == 10 ≡ false
  is_no_feed i l none =
      ⊎_elim
      (λ yes.
      let occurs : OccursAt hay (10 ∷ []) i = record { fits = omega arith; reads = λ j w. let place : i + j ≡ i = omega arith in let first : j ≡ 0 = omega arith in rw (place, first) (eqb-true _ _ yes) } in
      let found = occurs_at-true hay (10 ∷ []) i occurs in
      cc)
      (λ fails. fails)
      (cases_Bool (get_or hay i 0 == 10))

  walk : (n i last : ℕ) → n + i ≡ length hay + 1 → last ≤ i → i ≤ length hay
      → split_at hay 1 last (matches_from hay (10 ∷ []) 0 i n) ≡ prepend (part last i hay) (slice_split is_line_feed (drop i hay))
  unfolding matches_from split_at
  walk zero i last e below within = absurd (omega arith)
  walk (suc n) i last e below within =
      ⊎_elim
      (λ yes.
      let occurs = OccursAt-true hay (10 ∷ []) i yes in
      let fits = occurs.fits in
      let l : i < length hay = omega arith in
      ap (split_at hay 1 last) (cond-true _ _ _ yes)
      ∙ ap (λ parts. part last i hay ∷ parts) (walk n (i + 1) (i + 1) (omega arith) (omega arith) (omega arith) ∙ ap (λ xs. prepend xs (slice_split is_line_feed (drop (i + 1) hay))) (part-none (i + 1)) ∙ prepend-nil _)
      ∙ through i last l (is_feed i occurs))
      (λ none.
      ap (split_at hay 1 last) (cond-false _ _ _ none)
      ∙ ⊎_elim
      (λ l. walk n (i + 1) last (omega arith) (omega arith) (omega arith) ∙ over i last l below (is_no_feed i l none))
      (λ ends.
      let over_all : n ≡ zero = omega arith in
      ap (λ k. split_at hay 1 last (matches_from hay (10 ∷ []) 0 (i + 1) k)) over_all ∙ at_end i last ends)
      (cases_lt i (length hay)))
      (cases_Bool (occurs_at hay (10 ∷ []) i))

pub lines-split_at : (hay : List ℕ) → split_at hay 1 0 (matches hay (10 ∷ []) 0) ≡ lines hay
lines-split_at hay =
    let count : length hay + 1 - 0 + 0 ≡ length hay + 1 = omega arith in
    walk hay (length hay + 1 - 0) 0 0 count (omega arith) (omega arith)
    ∙ ap (λ xs. prepend xs (lines hay)) (part-none hay 0) ∙ prepend-nil _

pub ruleset line_steps = lines-split_at
