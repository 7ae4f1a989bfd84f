-- A cleaned text has nothing left to clean.
use Rattle.std.proofs.Common.{◌≡◌, ℕ, Bool, true, false, List, [], ◌∷◌, ◌++◌, refl, sym, ap, subst, ◌∙◌, ⊎_elim, append_assoc}
use Rattle.std.proofs.lemmas.Bool.{cases_Bool, cond-true, cond-false}
use Rattle.std.proofs.lemmas.List.Elements.{All-from_recursion}
use Rattle.std.proofs.lemmas.List.Splits.{slice_split-cons_yes, slice_split-cons_no, slice_split_at}
use Rattle.std.specs.Prelude.{map, not, filter, ◌&&◌}
use Rattle.std.specs.List.{slice_split, onto_first, list_all, AllByRecursion as Each}
use Rattle.message_text.specs.Lines.{lines, text_of, is_line_feed, is_empty, has_some, without_end, without_blanks}
use Rattle.message_text.specs.Paragraphs.{paragraphs, spaced}
use Rattle.message_text.specs.Cleaned.{is_comment, own_lines, cleaned}
use Rattle.seq_base.specs.Blanks.{is_blank}

pub Each-append : {X : Type 0} (P : X → Type 0) (xs ys : List X) → Each P xs → Each P ys → Each P (xs ++ ys)
Each-append P [] ys h k = k
Each-append P (x ∷ xs) ys h k = (h.0, Each-append P xs ys h.1 k)

-- no line feed in a line
abbrev pub IsLine : List ℕ → Type 0
IsLine l = Each (λ b. is_line_feed b ≡ false) l

IsLine-onto_first : (b : ℕ) (P : List (List ℕ)) → is_line_feed b ≡ false → Each IsLine P → Each IsLine (onto_first b P)
IsLine-onto_first b [] e h = ((e, tt), tt)
IsLine-onto_first b (p ∷ ps) e h = ((e, h.0), h.1)

pub IsLine-lines : (text : List ℕ) → Each IsLine (lines text)
IsLine-lines [] = (tt, tt)
IsLine-lines (b ∷ text) =
    ⊎_elim
    (λ feed. subst (Each IsLine) (sym (slice_split-cons_yes is_line_feed b text feed)) (tt, IsLine-lines text))
    (λ other. subst (Each IsLine) (sym (slice_split-cons_no is_line_feed b text other)) (IsLine-onto_first b (lines text) other (IsLine-lines text)))
    (cases_Bool (is_line_feed b))

-- a line of a cleaned text
pub record Own (line : List ℕ) : Type 0 where
  pub whole : IsLine line
  pub no_comment : is_comment line ≡ false
  pub trimmed : without_blanks line ≡ line

module _ (p : ℕ → Bool) where
  still_fails : (xs : List ℕ) → list_all p xs ≡ false → list_all p (without_end p xs) ≡ false
  still_fails [] h = h
  still_fails (x ∷ xs) h =
      let e = cond-false (list_all p (x ∷ xs)) [] (x ∷ without_end p xs) h in
      ⊎_elim
      (λ passes.
      let rest : list_all p xs ≡ false = ap (λ b. b && list_all p xs) (sym passes) ∙ h in
      ap (list_all p) e ∙ ap (λ b. p x && b) (still_fails xs rest) ∙ ap (λ b. b && false) passes)
      (λ fails. ap (list_all p) e ∙ ap (λ b. b && list_all p (without_end p xs)) fails)
      (cases_Bool (p x))

  without_end-twice : (xs : List ℕ) → without_end p (without_end p xs) ≡ without_end p xs
  without_end-twice [] = refl
  without_end-twice (x ∷ xs) =
      ⊎_elim
      (λ passes. let e = cond-true (list_all p (x ∷ xs)) [] (x ∷ without_end p xs) passes in ap (without_end p) e ∙ sym e)
      (λ fails.
      let e = cond-false (list_all p (x ∷ xs)) [] (x ∷ without_end p xs) fails in
      let f = sym (ap (list_all p) e) ∙ still_fails (x ∷ xs) fails in
      ap (without_end p) e ∙ cond-false _ _ _ f ∙ ap (λ ys. x ∷ ys) (without_end-twice xs) ∙ sym e)
      (cases_Bool (list_all p (x ∷ xs)))

  Each-without_end : (P : ℕ → Type 0) (xs : List ℕ) → Each P xs → Each P (without_end p xs)
  Each-without_end P [] h = h
  Each-without_end P (x ∷ xs) h =
      ⊎_elim
      (λ passes. subst (Each P) (sym (cond-true (list_all p (x ∷ xs)) [] (x ∷ without_end p xs) passes)) tt)
      (λ fails. subst (Each P) (sym (cond-false (list_all p (x ∷ xs)) [] (x ∷ without_end p xs) fails)) (h.0, Each-without_end P xs h.1))
      (cases_Bool (list_all p (x ∷ xs)))

no_comment-without_blanks : (l : List ℕ) → is_comment l ≡ false → is_comment (without_blanks l) ≡ false
no_comment-without_blanks [] h = h
no_comment-without_blanks (b ∷ l) h =
    ⊎_elim
    (λ passes. ap is_comment (cond-true (list_all is_blank (b ∷ l)) [] (b ∷ without_blanks l) passes))
    (λ fails. ap is_comment (cond-false (list_all is_blank (b ∷ l)) [] (b ∷ without_blanks l) fails) ∙ h)
    (cases_Bool (list_all is_blank (b ∷ l)))

Own-without_blanks : (l : List ℕ) → IsLine l → is_comment l ≡ false → Own (without_blanks l)
Own-without_blanks l line h =
    record { whole = Each-without_end is_blank _ l line; no_comment = no_comment-without_blanks l h; trimmed = without_end-twice is_blank l }

pub Own-own_lines : (ls : List (List ℕ)) → Each IsLine ls → Each Own (own_lines ls)
Own-own_lines [] h = tt
Own-own_lines (l ∷ ls) h =
    ⊎_elim
    (λ comment. subst (λ ms. Each Own (map without_blanks ms)) (sym (cond-false _ _ _ (ap not comment))) (Own-own_lines ls h.1))
    (λ other.
    subst (λ ms. Each Own (map without_blanks ms)) (sym (cond-true _ _ _ (ap not other))) (Own-without_blanks l h.0 other, Own-own_lines ls h.1))
    (cases_Bool (is_comment l))

pub own_lines-own : (ls : List (List ℕ)) → Each Own ls → own_lines ls ≡ ls
own_lines-own [] h = refl
own_lines-own (l ∷ ls) h =
    let own = h.0 in
    ap (map without_blanks) (cond-true _ _ _ (ap not own.no_comment))
    ∙ ap (λ m. m ∷ own_lines ls) own.trimmed ∙ ap (λ ms. l ∷ ms) (own_lines-own ls h.1)

-- a line that is not empty
pub record Full (line : List ℕ) : Type 0 where
  pub own : Own line
  pub some : is_empty line ≡ false

pub record Paragraph (p : List (List ℕ)) : Type 0 where
  pub full : Each Full p
  pub some : has_some p ≡ true

Full-onto_first : (l : List ℕ) (P : List (List (List ℕ))) → Full l → Each (Each Full) P → Each (Each Full) (onto_first l P)
Full-onto_first l [] e h = ((e, tt), tt)
Full-onto_first l (p ∷ ps) e h = ((e, h.0), h.1)

Full-parts : (ls : List (List ℕ)) → Each Own ls → Each (Each Full) (slice_split is_empty ls)
Full-parts [] h = (tt, tt)
Full-parts (l ∷ ls) h =
    ⊎_elim
    (λ none. subst (Each (Each Full)) (sym (slice_split-cons_yes is_empty l ls none)) (tt, Full-parts ls h.1))
    (λ other.
    subst (Each (Each Full)) (sym (slice_split-cons_no is_empty l ls other))
    (Full-onto_first l (slice_split is_empty ls) (record { own = h.0; some = other }) (Full-parts ls h.1)))
    (cases_Bool (is_empty l))

Paragraph-filter : (P : List (List (List ℕ))) → Each (Each Full) P → Each Paragraph (filter has_some P)
Paragraph-filter [] h = tt
Paragraph-filter (p ∷ ps) h =
    ⊎_elim
    (λ kept. subst (Each Paragraph) (sym (cond-true _ _ _ kept)) (record { full = h.0; some = kept }, Paragraph-filter ps h.1))
    (λ dropped. subst (Each Paragraph) (sym (cond-false _ _ _ dropped)) (Paragraph-filter ps h.1))
    (cases_Bool (has_some p))

pub Paragraph-paragraphs : (ls : List (List ℕ)) → Each Own ls → Each Paragraph (paragraphs ls)
Paragraph-paragraphs ls h = Paragraph-filter (slice_split is_empty ls) (Full-parts ls h)

Own-full : (p : List (List ℕ)) → Each Full p → Each Own p
Own-full [] h = tt
Own-full (l ∷ p) h = let full = h.0 in (full.own, Own-full p h.1)

Own-nil : Own []
Own-nil = record { whole = tt; no_comment = refl; trimmed = refl }

pub Own-spaced : (ps : List (List (List ℕ))) → Each Paragraph ps → Each Own (spaced ps)
Own-spaced [] h = tt
Own-spaced (p ∷ []) h = let first = h.0 in Own-full p first.full
Own-spaced (p ∷ q ∷ ps) h =
    let first = h.0 in
    Each-append Own p ([] ∷ spaced (q ∷ ps)) (Own-full p first.full) (Own-nil, Own-spaced (q ∷ ps) h.1)

Line-own : (ls : List (List ℕ)) → Each Own ls → Each IsLine ls
Line-own [] h = tt
Line-own (l ∷ ls) h = let own = h.0 in (own.whole, Line-own ls h.1)

pub lines-text_of : (ls : List (List ℕ)) → Each IsLine ls → lines (text_of ls) ≡ ls ++ [] ∷ []
lines-text_of [] h = refl
lines-text_of (l ∷ ls) h =
    ap lines (append_assoc l (10 ∷ []) (text_of ls))
    ∙ slice_split_at is_line_feed l 10 (text_of ls) (All-from_recursion (λ b. is_line_feed b ≡ false) l h.0) refl
    ∙ ap (λ ms. l ∷ ms) (lines-text_of ls h.1)

Full-some : (p : List (List ℕ)) → Each Full p → Each (λ l. is_empty l ≡ false) p
Full-some [] h = tt
Full-some (l ∷ p) h = let full = h.0 in (full.some, Full-some p h.1)

-- a paragraph, an empty line and more
parted : (p rest : List (List ℕ)) → Paragraph p → paragraphs (p ++ [] ∷ rest) ≡ p ∷ paragraphs rest
parted p rest h =
    ap (filter has_some) (slice_split_at is_empty p [] rest (All-from_recursion (λ l. is_empty l ≡ false) p (Full-some p h.full)) refl)
    ∙ cond-true _ _ _ h.some

pub paragraphs-spaced : (ps : List (List (List ℕ))) → Each Paragraph ps → paragraphs (spaced ps ++ [] ∷ []) ≡ ps
paragraphs-spaced [] h = refl
paragraphs-spaced (p ∷ []) h = parted p [] h.0
paragraphs-spaced (p ∷ q ∷ ps) h =
    ap paragraphs (append_assoc p ([] ∷ spaced (q ∷ ps)) ([] ∷ []))
    ∙ parted p (spaced (q ∷ ps) ++ [] ∷ []) h.0 ∙ ap (λ rs. p ∷ rs) (paragraphs-spaced (q ∷ ps) h.1)

-- the paragraphs of a cleaned text
unfoldable pub kept_paragraphs : List ℕ → List (List (List ℕ))
kept_paragraphs text = paragraphs (own_lines (lines text))

pub each_paragraph : (text : List ℕ) → Each Paragraph (kept_paragraphs text)
unfolding kept_paragraphs
each_paragraph text = Paragraph-paragraphs (own_lines (lines text)) (Own-own_lines (lines text) (IsLine-lines text))

pub cleaned-lines : (text : List ℕ) → lines (cleaned text) ≡ spaced (kept_paragraphs text) ++ [] ∷ []
unfolding cleaned kept_paragraphs
cleaned-lines text = lines-text_of (spaced (kept_paragraphs text)) (Line-own _ (Own-spaced (kept_paragraphs text) (each_paragraph text)))

pub each_own : (text : List ℕ) → Each Own (spaced (kept_paragraphs text) ++ [] ∷ [])
each_own text = Each-append Own (spaced (kept_paragraphs text)) ([] ∷ []) (Own-spaced (kept_paragraphs text) (each_paragraph text)) (Own-nil, tt)

of_lines : List (List ℕ) → List ℕ
of_lines ls = text_of (spaced (paragraphs (own_lines ls)))

cleaned-of : (text : List ℕ) → cleaned text ≡ of_lines (lines text)
unfolding cleaned of_lines
cleaned-of text = refl

of_lines-cleaned : (text : List ℕ) → of_lines (spaced (kept_paragraphs text) ++ [] ∷ []) ≡ cleaned text
unfolding cleaned of_lines kept_paragraphs
of_lines-cleaned text =
    ap (λ ls. text_of (spaced (paragraphs ls))) (own_lines-own (spaced (kept_paragraphs text) ++ [] ∷ []) (each_own text))
    ∙ ap (λ ps. text_of (spaced ps)) (paragraphs-spaced (kept_paragraphs text) (each_paragraph text))

pub cleaned-twice : (text : List ℕ) → cleaned (cleaned text) ≡ cleaned text
cleaned-twice text = cleaned-of (cleaned text) ∙ ap of_lines (cleaned-lines text) ∙ of_lines-cleaned text
