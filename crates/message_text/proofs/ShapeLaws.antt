-- The shape of a cleaned text.
use Rattle.std.proofs.Common.{◌≡◌, ◌≢◌, ℕ, ◌+◌, Bool, true, false, List, [], ◌∷◌, ◌++◌, refl, sym, ap, subst, ◌∙◌, ◌⊎◌, inl, inr, append_assoc}
use Rattle.std.proofs.lemmas.Bool.{and_from, eq-eqb, false≢true}
use Rattle.std.proofs.lemmas.List.{append-nil}
use Rattle.std.proofs.lemmas.List.Elements.{All-from_recursion}
use Rattle.std.specs.Prelude.{not, ◌&&◌}
use Rattle.std.specs.List.{AllByRecursion as Each}
use Rattle.message_text.specs.Lines.{text_of, is_line_feed, is_empty, without_blanks}
use Rattle.message_text.specs.Paragraphs.{spaced}
use Rattle.message_text.specs.Cleaned.{is_comment, cleaned, IsClean}
use Rattle.message_text.proofs.ParagraphLemmas.{text_of-append}
use Rattle.message_text.proofs.CleanLaws.{Own, Full, Paragraph, kept_paragraphs, each_paragraph, each_own, cleaned-lines}

-- no two empty lines in a row
abbrev gap_free : List (List ℕ) → Bool
gap_free [] = true
gap_free (l ∷ []) = true
gap_free (l ∷ m ∷ ls) = not (is_empty l && is_empty m) && gap_free (m ∷ ls)

and_false : (b : Bool) → (b && false) ≡ false
and_false true = refl
and_false false = refl

gapped : (front back : List (List ℕ)) → gap_free (front ++ [] ∷ [] ∷ back) ≡ false
gapped [] back = refl
gapped (l ∷ []) back = and_false (not (is_empty l && true))
gapped (l ∷ m ∷ front) back = ap (λ b. not (is_empty l && is_empty m) && b) (gapped (m ∷ front) back) ∙ and_false (not (is_empty l && is_empty m))

free-cons : (l : List ℕ) (ls : List (List ℕ)) → is_empty l ≡ false → gap_free ls ≡ true → gap_free (l ∷ ls) ≡ true
free-cons l [] e h = refl
free-cons l (m ∷ ls) e h = and_from _ _ (ap (λ b. not (b && is_empty m)) e) h

free-append : (p rest : List (List ℕ)) → Each Full p → gap_free rest ≡ true → gap_free (p ++ rest) ≡ true
free-append [] rest h free = free
free-append (l ∷ p) rest h free = let full = h.0 in free-cons l (p ++ rest) full.some (free-append p rest h.1 free)

free-nil : (p rest : List (List ℕ)) → Paragraph p → gap_free (p ++ rest) ≡ true → gap_free ([] ∷ (p ++ rest)) ≡ true
free-nil [] rest h free = let some = h.some in cc
free-nil (l ∷ p) rest h free = let full = h.full.0 in and_from _ _ (ap not full.some) free

free-between : (q : List (List ℕ)) (ps : List (List (List ℕ))) → Paragraph q
    → gap_free (spaced (q ∷ ps) ++ [] ∷ []) ≡ true → gap_free ([] ∷ (spaced (q ∷ ps) ++ [] ∷ [])) ≡ true
free-between q [] h free = free-nil q ([] ∷ []) h free
free-between q (r ∷ ps) h free =
    let e = append_assoc q ([] ∷ spaced (r ∷ ps)) ([] ∷ []) in
    ap (λ ls. gap_free ([] ∷ ls)) e ∙ free-nil q ([] ∷ (spaced (r ∷ ps) ++ [] ∷ [])) h (sym (ap gap_free e) ∙ free)

free-spaced : (ps : List (List (List ℕ))) → Each Paragraph ps → gap_free (spaced ps ++ [] ∷ []) ≡ true
free-spaced [] h = refl
free-spaced (p ∷ []) h = let first = h.0 in free-append p ([] ∷ []) first.full refl
free-spaced (p ∷ q ∷ ps) h =
    let first = h.0 in
    ap gap_free (append_assoc p ([] ∷ spaced (q ∷ ps)) ([] ∷ []))
    ∙ free-append p ([] ∷ (spaced (q ∷ ps) ++ [] ∷ [])) first.full (free-between q ps h.1.0 (free-spaced (q ∷ ps) h.1))

-- the last of a list, and what stands before it
record Last {X : Type 0} (P : X → Type 0) (xs : List X) : Type 0 where
  front : List X
  last : X
  is : xs ≡ front ++ last ∷ []
  has : P last

last_of : {X : Type 0} (P : X → Type 0) (x : X) (xs : List X) → Each P (x ∷ xs) → Last P (x ∷ xs)
last_of P x [] h = record { front = []; last = x; is = refl; has = h.0 }
last_of P x (y ∷ ys) h =
    let rest = last_of P y ys h.1 in
    record { front = x ∷ rest.front; last = rest.last; is = ap (λ zs. x ∷ zs) rest.is; has = rest.has }

last_line : (p : List (List ℕ)) → Paragraph p → Last Full p
last_line [] h = let some = h.some in absurd (false≢true some)
last_line (l ∷ p) h = last_of Full l p h.full

last_spaced : (p : List (List ℕ)) (ps : List (List (List ℕ))) → Each Paragraph (p ∷ ps) → Last Full (spaced (p ∷ ps))
last_spaced p [] h = last_line p h.0
last_spaced p (q ∷ ps) h =
    let rest = last_spaced q ps h.1 in
    record {
      front = p ++ [] ∷ rest.front;
      last = rest.last;
      is = ap (λ ls. p ++ [] ∷ ls) rest.is ∙ sym (append_assoc p ([] ∷ rest.front) (rest.last ∷ []));
      has = rest.has;
    }

last_byte : (l : List ℕ) → Full l → Last (λ b. is_line_feed b ≡ false) l
last_byte [] h = let some = h.some in cc
last_byte (b ∷ l) h = last_of (λ c. is_line_feed c ≡ false) b l h.own.whole

abbrev IsEnded : List ℕ → Type 0
IsEnded text = (text ≡ []) ⊎ ((front : List ℕ) × (last : ℕ) × (text ≡ front ++ last ∷ 10 ∷ []) × (last ≢ 10))

ended_from : (ps : List (List (List ℕ))) → Each Paragraph ps → IsEnded (text_of (spaced ps))
ended_from [] h = inl refl
ended_from (p ∷ ps) h =
    let line = last_spaced p ps h in
    let byte = last_byte line.last line.has in
    inr (
      text_of line.front ++ byte.front,
      byte.last,
      ap text_of line.is ∙ text_of-append line.front (line.last ∷ []) ∙ ap (λ t. text_of line.front ++ t) (append-nil (line.last ++ 10 ∷ []))
          ∙ ap (λ t. text_of line.front ++ (t ++ 10 ∷ [])) byte.is ∙ ap (λ t. text_of line.front ++ t) (append_assoc byte.front (byte.last ∷ []) (10 ∷ []))
          ∙ sym (append_assoc (text_of line.front) byte.front (byte.last ∷ 10 ∷ [])),
      λ e. let feed = eq-eqb byte.last 10 e in let other = byte.has in cc,
    )

ended : (text : List ℕ) → IsEnded (cleaned text)
unfolding cleaned kept_paragraphs
ended text = ended_from (kept_paragraphs text) (each_paragraph text)

no_comments : (ls : List (List ℕ)) → Each Own ls → Each (λ line. is_comment line ≡ false) ls
no_comments [] h = tt
no_comments (l ∷ ls) h = let own = h.0 in (own.no_comment, no_comments ls h.1)

trimmed_lines : (ls : List (List ℕ)) → Each Own ls → Each (λ line. without_blanks line ≡ line) ls
trimmed_lines [] h = tt
trimmed_lines (l ∷ ls) h = let own = h.0 in (own.trimmed, trimmed_lines ls h.1)

pub cleaned-clean : (text : List ℕ) → IsClean (cleaned text)
cleaned-clean text =
    let e = cleaned-lines text in
    let each = each_own text in
    record {
      ended = ended text;
      no_comment = All-from_recursion _ _ (subst (Each (λ line. is_comment line ≡ false)) (sym e) (no_comments _ each));
      no_blanks = All-from_recursion _ _ (subst (Each (λ line. without_blanks line ≡ line)) (sym e) (trimmed_lines _ each));
      no_gap =
          λ front back is. false≢true (sym (gapped front back) ∙ sym (ap gap_free is) ∙ ap gap_free e ∙ free-spaced (kept_paragraphs text) (each_paragraph text));
    }
