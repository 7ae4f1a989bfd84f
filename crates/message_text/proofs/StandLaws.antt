-- A message that a chain keeps stands in its cleaned text.
use Rattle.std.proofs.Common.{◌≡◌, ℕ, ◌+◌, ◌<◌, Bool, true, false, cond, List, [], ◌∷◌, ◌++◌, length, refl, sym, ap, subst, ◌∙◌, ⊎_elim, ◌⊎◌, arith, append_assoc}
use Rattle.std.proofs.lemmas.Bool.{cases_Bool, cond-true, cond-false, ne_eqb, eqb-true, and_parts}
use Rattle.std.proofs.lemmas.List.{append-nil, map-append}
use Rattle.std.proofs.lemmas.List.Elements.{All-from_recursion, filter-append}
use Rattle.std.proofs.lemmas.List.Splits.{slice_split-cons_yes, slice_split-cons_no, length-slice_split}
use Rattle.std.specs.Prelude.{map, not, filter, ◌==◌, All}
use Rattle.std.specs.List.{slice_split, onto_first, list_all, AllByRecursion as Each}
use Rattle.message_text.specs.declared.chain.ChainItem.{ChainItem}
use Rattle.message_text.specs.Lines.{lines, text_of, is_line_feed, is_empty, has_some, without_blanks, body}
use Rattle.message_text.specs.Paragraphs.{paragraphs, spaced}
use Rattle.message_text.specs.Cleaned.{is_comment, own_lines, cleaned, StandsIn}
use Rattle.message_text.specs.Chain.{Place, section, header, shown_lines, is_marked, places, count_line, chain_text}
use Rattle.message_text.proofs.ParagraphLemmas.{more, text_of-spaced}
use Rattle.message_text.proofs.MarkLemmas.{plain}
use Rattle.message_text.proofs.ChainLemmas.{sections_text, chain_text-from}
use Rattle.message_text.proofs.CleanLaws.{kept_paragraphs}

-- a list is split at an element that passes
module _ {X : Type 0} (p : X → Bool) (y : X) (passes : p y ≡ true) where
  onto_first-append : (x : X) (a b : List (List X)) → 0 < length a → onto_first x (a ++ b) ≡ onto_first x a ++ b
  onto_first-append x [] b some = absurd (omega arith)
  onto_first-append x (h ∷ a) b some = refl

  slice_split-append : (a b : List X) → slice_split p (a ++ y ∷ b) ≡ slice_split p a ++ slice_split p b
  slice_split-append [] b = slice_split-cons_yes p y b passes
  slice_split-append (x ∷ a) b =
      ⊎_elim
      (λ cut.
      slice_split-cons_yes p x (a ++ y ∷ b) cut ∙ ap (λ ps. [] ∷ ps) (slice_split-append a b)
      ∙ ap (λ ps. ps ++ slice_split p b) (sym (slice_split-cons_yes p x a cut)))
      (λ goes.
      slice_split-cons_no p x (a ++ y ∷ b) goes ∙ ap (onto_first x) (slice_split-append a b)
      ∙ onto_first-append x (slice_split p a) (slice_split p b) (omega (arith, length-slice_split p a))
      ∙ ap (λ ps. ps ++ slice_split p b) (sym (slice_split-cons_no p x a goes)))
      (cases_Bool (p x))

own_lines-append : (a b : List (List ℕ)) → own_lines (a ++ b) ≡ own_lines a ++ own_lines b
own_lines-append a b =
    ap (map without_blanks) (filter-append (λ l. not (is_comment l)) a b)
    ∙ map-append without_blanks (filter (λ l. not (is_comment l)) a) (filter (λ l. not (is_comment l)) b)

paragraphs-append : (a b : List (List ℕ)) → paragraphs (a ++ [] ∷ b) ≡ paragraphs a ++ paragraphs b
paragraphs-append a b =
    ap (filter has_some) (slice_split-append is_empty [] refl a b) ∙ filter-append has_some (slice_split is_empty a) (slice_split is_empty b)

lines-append : (a b : List ℕ) → lines (a ++ 10 ∷ b) ≡ lines a ++ lines b
lines-append a b = slice_split-append is_line_feed 10 refl a b

-- texts with an empty line between
apart : (a b : List ℕ) → kept_paragraphs (a ++ 10 ∷ 10 ∷ b) ≡ kept_paragraphs a ++ kept_paragraphs b
unfolding kept_paragraphs
apart a b =
    ap (λ ls. paragraphs (own_lines ls)) (lines-append a (10 ∷ b)) ∙ ap paragraphs (own_lines-append (lines a) ([] ∷ lines b))
    ∙ paragraphs-append (own_lines (lines a)) (own_lines (lines b))

ended : (a : List ℕ) → kept_paragraphs (a ++ 10 ∷ []) ≡ kept_paragraphs a
unfolding kept_paragraphs
ended a =
    ap (λ ls. paragraphs (own_lines ls)) (lines-append a []) ∙ ap paragraphs (own_lines-append (lines a) ([] ∷ []))
    ∙ paragraphs-append (own_lines (lines a)) [] ∙ append-nil _

feeds : (pre t : List ℕ) → list_all is_line_feed t ≡ true → kept_paragraphs (pre ++ t) ≡ kept_paragraphs pre
feeds pre [] h = ap kept_paragraphs (append-nil pre)
feeds pre (x ∷ t) h =
    let parts = and_parts _ _ h in
    let feed = eqb-true x 10 parts.0 in
    ap kept_paragraphs (sym (append_assoc pre (x ∷ []) t)) ∙ feeds (pre ++ x ∷ []) t parts.1
    ∙ ap (λ b. kept_paragraphs (pre ++ b ∷ [])) feed ∙ ended pre

body_from : (pre t : List ℕ) → kept_paragraphs (pre ++ body t) ≡ kept_paragraphs (pre ++ t)
body_from pre [] = refl
body_from pre (x ∷ t) =
    ⊎_elim
    (λ over.
    ap (λ w. kept_paragraphs (pre ++ w)) (cond-true _ _ _ over) ∙ ap kept_paragraphs (append-nil pre) ∙ sym (feeds pre (x ∷ t) over))
    (λ goes.
    ap (λ w. kept_paragraphs (pre ++ w)) (cond-false _ _ _ goes) ∙ ap kept_paragraphs (sym (append_assoc pre (x ∷ []) (body t)))
    ∙ body_from (pre ++ x ∷ []) t ∙ ap kept_paragraphs (append_assoc pre (x ∷ []) t))
    (cases_Bool (list_all is_line_feed (x ∷ t)))

-- the paragraphs of a message stand in those of a text
record Found (text message : List ℕ) : Type 0 where
  front : List (List (List ℕ))
  back : List (List (List ℕ))
  is : kept_paragraphs text ≡ front ++ (kept_paragraphs message ++ back)

abbrev gap : ℕ → List ℕ
gap number = cond (number == 1) [] (10 ∷ [])

behind : (number : ℕ) (after : List Place) (message : List ℕ) → 0 < number
    → (back : List (List (List ℕ))) × (kept_paragraphs (message ++ 10 ∷ sections_text (number + 1) after) ≡ kept_paragraphs message ++ back)
behind number [] message l = ([], ended message ∙ sym (append-nil (kept_paragraphs message)))
behind number (place ∷ after) message l =
    let other : ¬ (number + 1 ≡ 1) = λ e. absurd (omega arith) in
    let rest = text_of (section (number + 1) place) ++ sections_text (number + 1 + 1) after in (
      kept_paragraphs rest,
      ap (λ g. kept_paragraphs (message ++ 10 ∷ (g ++ rest))) (cond-false (number + 1 == 1) [] (10 ∷ []) (ne_eqb _ _ other)) ∙ apart message rest,
    )

shown_plain : (place : Place) → place.is_kept ≡ true → is_marked place ≡ false → text_of (shown_lines place) ≡ body place.item.message ++ 10 ∷ []
unfolding shown_lines
shown_plain place kept plain_one =
    ap text_of (cond-false _ _ _ (ap not kept) ∙ cond-false _ _ _ plain_one) ∙ plain (body place.item.message)

at_place : (number : ℕ) (pre : List ℕ) (place : Place) (after : List Place) → 0 < number → place.is_kept ≡ true → is_marked place ≡ false
    → Found (pre ++ sections_text number (place ∷ after)) place.item.message
at_place number pre place after l kept plain_one =
    let S = sections_text (number + 1) after in
    let H = header number place.is_kept in
    let m = place.item.message in
    let later = behind number after (body m) l in
    let whole : pre ++ (gap number ++ (((H ++ 10 ∷ []) ++ 10 ∷ (body m ++ 10 ∷ [])) ++ S)) ≡ ((pre ++ gap number) ++ H) ++ 10 ∷ 10 ∷ (body m ++ 10 ∷ S) =
    sym (append_assoc pre (gap number) _)
    ∙ ap (λ t. (pre ++ gap number) ++ t) (append_assoc (H ++ 10 ∷ []) (10 ∷ (body m ++ 10 ∷ [])) S ∙ append_assoc H (10 ∷ []) _ ∙ ap (λ t. H ++ 10 ∷ 10 ∷ t) (append_assoc (body m) (10 ∷ []) S))
    ∙ sym (append_assoc (pre ++ gap number) H _)
    in
    record {
      front = kept_paragraphs ((pre ++ gap number) ++ H);
      back = later.0;
      is =
          ap (λ t. kept_paragraphs (pre ++ (gap number ++ (((H ++ 10 ∷ []) ++ 10 ∷ t) ++ S)))) (shown_plain place kept plain_one)
          ∙ ap kept_paragraphs whole ∙ apart ((pre ++ gap number) ++ H) (body m ++ 10 ∷ S)
          ∙ ap (λ ps. kept_paragraphs ((pre ++ gap number) ++ H) ++ ps) (later.1 ∙ ap (λ ps. ps ++ later.0) (body_from [] m));
    }

abbrev IsFound : List ℕ → Place → Type 0
IsFound text place = place.is_kept ≡ true → is_marked place ≡ false → Found text place.item.message

each_found : (number : ℕ) (pre text : List ℕ) (ps : List Place) → 0 < number → text ≡ pre ++ sections_text number ps → Each (IsFound text) ps
each_found number pre text [] l e = tt
each_found number pre text (place ∷ after) l e = (
  λ kept plain_one. subst (λ t. Found t place.item.message) (sym e) (at_place number pre place after l kept plain_one),
  each_found (number + 1) ((pre ++ gap number) ++ text_of (section number place)) text after (omega arith)
      (e ∙ sym (append_assoc pre (gap number) _) ∙ sym (append_assoc (pre ++ gap number) (text_of (section number place)) (sections_text (number + 1) after))),
)

more-append : (a b : List (List (List ℕ))) → more (a ++ b) ≡ more a ++ more b
more-append [] b = refl
more-append (p ∷ a) b = ap (λ t. (10 ∷ text_of p) ++ t) (more-append a b) ∙ sym (append_assoc (10 ∷ text_of p) (more a) (more b))

stands : (front part back : List (List (List ℕ))) → StandsIn (text_of (spaced part)) (text_of (spaced (front ++ (part ++ back))))
stands front [] back = (text_of (spaced (front ++ back)), [], sym (append-nil (text_of (spaced (front ++ back)))))
stands [] (q ∷ part) back = (
  [],
  more back,
  text_of-spaced q (part ++ back) ∙ ap (λ t. text_of q ++ t) (more-append part back) ∙ sym (append_assoc (text_of q) (more part) (more back))
      ∙ ap (λ t. t ++ more back) (sym (text_of-spaced q part)),
)
stands (p ∷ front) (q ∷ part) back =
    let A = text_of p ++ more front in
    let T = text_of (spaced (q ∷ part)) in
    let tail : text_of q ++ (more part ++ more back) ≡ T ++ more back = sym (append_assoc (text_of q) (more part) (more back)) ∙ ap (λ t. t ++ more back) (sym (text_of-spaced q part)) in
    let open_up : more ((q ∷ part) ++ back) ≡ 10 ∷ (T ++ more back) = ap (λ t. 10 ∷ (text_of q ++ t)) (more-append part back) ∙ ap (λ t. 10 ∷ t) tail in
    let rest : more (front ++ ((q ∷ part) ++ back)) ≡ more front ++ 10 ∷ (T ++ more back) = more-append front ((q ∷ part) ++ back) ∙ ap (λ t. more front ++ t) open_up in (
      A ++ 10 ∷ [],
      more back,
      text_of-spaced p (front ++ ((q ∷ part) ++ back)) ∙ ap (λ t. text_of p ++ t) rest
          ∙ sym (append_assoc (text_of p) (more front) (10 ∷ (T ++ more back))) ∙ sym (append_assoc A (10 ∷ []) (T ++ more back)),
    )

cleaned-paragraphs : (text : List ℕ) → cleaned text ≡ text_of (spaced (kept_paragraphs text))
unfolding cleaned kept_paragraphs
cleaned-paragraphs text = refl

stands_found : (text message : List ℕ) → Found text message → StandsIn (cleaned message) (cleaned text)
stands_found text message found =
    let P : List ℕ → List ℕ → Type 0 = StandsIn in
    subst (λ w. P (cleaned message) w) (sym (cleaned-paragraphs text ∙ ap (λ ps. text_of (spaced ps)) found.is))
    (subst (λ part. P part (text_of (spaced (found.front ++ (kept_paragraphs message ++ found.back))))) (sym (cleaned-paragraphs message))
    (stands found.front (kept_paragraphs message) found.back))

each_stands : (text : List ℕ) (ps : List Place) → Each (IsFound text) ps
    → Each (λ place. place.is_kept ≡ true → is_marked place ≡ false → StandsIn (cleaned place.item.message) (cleaned text)) ps
each_stands text [] h = tt
each_stands text (place ∷ ps) h = (λ kept plain_one. stands_found text place.item.message (h.0 kept plain_one), each_stands text ps h.1)

pub kept_messages-stand : (items : List ChainItem)
    → All (λ place. place.is_kept ≡ true → is_marked place ≡ false → StandsIn (cleaned place.item.message) (cleaned (chain_text items))) (places items)
kept_messages-stand items =
    All-from_recursion _ (places items)
    (each_stands (chain_text items) (places items)
    (each_found 1 (count_line (length items) ++ 10 ∷ []) (chain_text items) (places items) (omega arith) (chain_text-from items)))
