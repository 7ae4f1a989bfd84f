-- Whether a text ends in trailers, line by line.
use Rattle.std.proofs.Common.{◌≡◌, ℕ, ◌<◌, Bool, true, false, cond, List, [], ◌∷◌, length, drop, refl, sym, ap, ◌∙◌, ⊎_elim, ◌⊎◌, arith}
use Rattle.std.proofs.lemmas.Bool.{cases_Bool, cases_lt, cond-true, cond-false, lt-ltb}
use Rattle.std.proofs.lemmas.List.Sums.{prefix_len-le-length}
use Rattle.std.proofs.lemmas.List.Splits.{slice_split-cons_yes, slice_split-cons_no}
use Rattle.std.specs.Prelude.{map, not, filter, ◌&&◌, nat_lt, Some, None}
use Rattle.std.specs.List.{slice_split, onto_first, list_all, position}
use Rattle.message_text.specs.Lines.{lines, is_empty, has_some}
use Rattle.message_text.specs.Paragraphs.{paragraphs}
use Rattle.message_text.specs.Picked.{last_or, is_name_byte, name_len, is_trailer_line, has_trailers}
use Rattle.message_text.proofs.ParagraphLemmas.{some_parts, has_some-cons}

-- whether lines end in trailers, after a first paragraph or none, in a paragraph or not, and if they are all
abbrev pub trailers_from : Bool → Bool → Bool → List (List ℕ) → Bool
trailers_from has_first is_inside ends [] = ends
trailers_from has_first is_inside ends (l ∷ ls) =
    cond (is_empty l) (trailers_from has_first false ends ls)
    (trailers_from true true (cond is_inside ends has_first && is_trailer_line l) ls)

abbrev ends : Bool → List (List (List ℕ)) → Bool
ends d ps = last_or d (map (list_all is_trailer_line) ps)

-- from parts of which the first goes on with a paragraph
abbrev ends_inside : Bool → List (List (List ℕ)) → Bool
ends_inside d [] = d
ends_inside d (h ∷ t) = ends (d && list_all is_trailer_line h) (filter has_some t)

and_true : (b : Bool) → (b && true) ≡ b
and_true true = refl
and_true false = refl

and_assoc : (a b c : Bool) → ((a && b) && c) ≡ (a && (b && c))
and_assoc true b c = refl
and_assoc false b c = refl

module _ (l : List ℕ) where
  inside-onto_first : (d : Bool) (P : List (List (List ℕ))) → 0 < length P → ends_inside d (onto_first l P) ≡ ends_inside (d && is_trailer_line l) P
  inside-onto_first d [] some = absurd (omega arith)
  inside-onto_first d (h ∷ t) some = ap (λ b. ends b (filter has_some t)) (sym (and_assoc d (is_trailer_line l) (list_all is_trailer_line h)))

  ends-onto_first : (d : Bool) (P : List (List (List ℕ))) → 0 < length P
      → ends d (filter has_some (onto_first l P)) ≡ ends_inside (is_trailer_line l) P
  ends-onto_first d [] some = absurd (omega arith)
  ends-onto_first d (h ∷ t) some = ap (ends d) (cond-true _ _ _ (has_some-cons l h))

  later-onto_first : (P : List (List (List ℕ))) → 0 < length P → ends false (drop 1 (filter has_some (onto_first l P))) ≡ ends_inside false P
  later-onto_first [] some = absurd (omega arith)
  later-onto_first (h ∷ t) some = ap (λ ps. ends false (drop 1 ps)) (cond-true _ _ _ (has_some-cons l h))

-- behind a paragraph; in a paragraph; at the start
record Ends (ls : List (List ℕ)) : Type 0 where
  behind : (d : Bool) → trailers_from true false d ls ≡ ends d (paragraphs ls)
  within : (d : Bool) → trailers_from true true d ls ≡ ends_inside d (slice_split is_empty ls)
  start : trailers_from false false false ls ≡ ends false (drop 1 (paragraphs ls))

line_ends : (ls : List (List ℕ)) → Ends ls
line_ends [] = record { behind = λ d. refl; within = λ d. sym (and_true d); start = refl }
line_ends (l ∷ ls) =
    let after = line_ends ls in
    let some = some_parts ls in
    let P = slice_split is_empty ls in
    ⊎_elim
    (λ yes.
    let e = slice_split-cons_yes is_empty l ls yes in
    record {
      behind = λ d. cond-true _ _ _ yes ∙ after.behind d ∙ ap (λ ps. ends d (filter has_some ps)) (sym e);
      within = λ d. cond-true _ _ _ yes ∙ after.behind d ∙ ap (λ b. ends b (paragraphs ls)) (sym (and_true d)) ∙ ap (ends_inside d) (sym e);
      start = cond-true _ _ _ yes ∙ after.start ∙ ap (λ ps. ends false (drop 1 (filter has_some ps))) (sym e);
    })
    (λ fails.
    let e = slice_split-cons_no is_empty l ls fails in
    record {
      behind =
          λ d. cond-false _ _ _ fails ∙ after.within (is_trailer_line l) ∙ sym (ends-onto_first l d P some)
          ∙ ap (λ ps. ends d (filter has_some ps)) (sym e);
      within = λ d. cond-false _ _ _ fails ∙ after.within (d && is_trailer_line l) ∙ sym (inside-onto_first l d P some) ∙ ap (ends_inside d) (sym e);
      start =
          cond-false _ _ _ fails ∙ after.within false ∙ sym (later-onto_first l P some) ∙ ap (λ ps. ends false (drop 1 (filter has_some ps))) (sym e);
    })
    (cases_Bool (is_empty l))

pub trailers-from : (text : List ℕ) → trailers_from false false false (lines text) ≡ has_trailers text
unfolding has_trailers
trailers-from text = (line_ends (lines text)).start

pub name_len-all : (line : List ℕ) → position (λ b. not (is_name_byte b)) line ≡ None → length line ≡ name_len line
name_len-all line h =
    let within = prefix_len-le-length (λ b. not (not (is_name_byte b))) line in
    ⊎_elim
    (λ l. absurd (let found = cond-true (nat_lt (name_len line) (length line)) (Some (name_len line)) None (lt-ltb _ _ l) in cc))
    (λ l. omega arith)
    (cases_lt (name_len line) (length line))

pub ruleset name_steps = name_len-all

pub ruleset trailer_steps = trailers-from
