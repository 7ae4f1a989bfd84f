-- Words, notes and blanks, told by how a text is put together.
use Rattle.std.proofs.Common.{◌≡◌, ◌⊎◌, ℕ, Bool, true, false, cond, List, [], ◌∷◌, ◌++◌, length, refl, sym, ap, ◌∙◌, subst, arith, inl, inr, ⊎_elim}
use Rattle.std.specs.Prelude.{◌&&◌, ◌==◌, not}
use Rattle.std.specs.List.{list_all}
use Rattle.std.proofs.lemmas.Bool.{cases_Bool, cond-true, cond-false, and_parts, and_from, not-true, true≢false, eqb-true}
use Rattle.std.proofs.lemmas.List.{append-nil}
use Rattle.std.proofs.lemmas.List.Folds.{list_all-append}
use Rattle.std.proofs.Math.Bool.{and-true}
use Rattle.todo_text.specs.Words.{from_word, to_word, trimmed, up_to_blank, from_blank, word, behind, lacks_word, unmarked, note_of}
use Rattle.todo_text.specs.Spells.{AreBlanks, IsWord, begins_blank, ends_blank, Begins, Leads, Trims, IsNote}
use Rattle.todo_text.proofs.WordLemmas.{word_then_blank}
use Rattle.seq_base.specs.Blanks.{is_blank}

abbrev is_plain : ℕ → Bool
is_plain b = not (is_blank b)

abbrev Apart : List ℕ → Type 0
Apart rest = (rest ≡ []) ⊎ (begins_blank rest ≡ true)

and-false : (v : Bool) → (v && false) ≡ false
and-false true = refl
and-false false = refl

-- ---- blanks in front

from_word-blanks : (front text : List ℕ) → AreBlanks front → from_word (front ++ text) ≡ from_word text
from_word-blanks [] text h = refl
from_word-blanks (b ∷ bs) text h =
    let parts = and_parts (is_blank b) (list_all is_blank bs) h in
    cond-true (is_blank b) (from_word (bs ++ text)) (b ∷ (bs ++ text)) parts.0 ∙ from_word-blanks bs text parts.1

from_word-word : (text : List ℕ) → begins_blank text ≡ false → from_word text ≡ text
from_word-word [] h = refl
from_word-word (b ∷ bs) h = cond-false (is_blank b) (from_word bs) (b ∷ bs) h

pub from_word-leads : (text rest : List ℕ) → Leads text rest → from_word text ≡ rest
from_word-leads text rest h = ap from_word h.whole ∙ from_word-blanks h.front rest h.blanks ∙ from_word-word rest h.begins

pub leads_on : (text : List ℕ) → Leads text (from_word text)
leads_on [] = record { front = []; blanks = refl; begins = refl; whole = refl }
leads_on (b ∷ bs) =
    let P : List ℕ → Type 0 = λ t. Leads (b ∷ bs) t in
    ⊎_elim
    (λ yes.
    let later = leads_on bs in
    subst P (sym (cond-true (is_blank b) (from_word bs) (b ∷ bs) yes))
    (record { front = b ∷ later.front; blanks = and_from _ _ yes later.blanks; begins = later.begins; whole = ap (λ (t : List ℕ). b ∷ t) later.whole }))
    (λ never.
    subst P (sym (cond-false (is_blank b) (from_word bs) (b ∷ bs) never))
    (record { front = []; blanks = refl; begins = never; whole = refl }))
    (cases_Bool (is_blank b))

-- ---- the first word

none_before : (rest : List ℕ) → begins_blank rest ≡ true → up_to_blank rest ≡ []
none_before [] h = refl
none_before (b ∷ bs) h = cond-true (is_blank b) [] (b ∷ up_to_blank bs) h

all_behind : (rest : List ℕ) → begins_blank rest ≡ true → from_blank rest ≡ rest
all_behind [] h = refl
all_behind (b ∷ bs) h = cond-true (is_blank b) (b ∷ bs) (from_blank bs) h

up_to_blank-word : (w rest : List ℕ) → list_all is_plain w ≡ true → Apart rest → up_to_blank (w ++ rest) ≡ w
up_to_blank-word [] rest h apart = ⊎_elim (λ e. ap up_to_blank e) (none_before rest) apart
up_to_blank-word (b ∷ bs) rest h apart =
    let parts = and_parts (is_plain b) (list_all is_plain bs) h in
    cond-false (is_blank b) [] (b ∷ up_to_blank (bs ++ rest)) (not-true (is_blank b) parts.0)
    ∙ ap (λ (t : List ℕ). b ∷ t) (up_to_blank-word bs rest parts.1 apart)

from_blank-word : (w rest : List ℕ) → list_all is_plain w ≡ true → Apart rest → from_blank (w ++ rest) ≡ rest
from_blank-word [] rest h apart = ⊎_elim (λ e. ap from_blank e ∙ sym e) (all_behind rest) apart
from_blank-word (b ∷ bs) rest h apart =
    let parts = and_parts (is_plain b) (list_all is_plain bs) h in
    cond-false (is_blank b) (b ∷ (bs ++ rest)) (from_blank (bs ++ rest)) (not-true (is_blank b) parts.0) ∙ from_blank-word bs rest parts.1 apart

begins_plain : (w rest : List ℕ) → IsWord w → begins_blank (w ++ rest) ≡ false
begins_plain [] rest h = absurd (true≢false h.0)
begins_plain (b ∷ bs) rest h = not-true (is_blank b) (and_parts (is_plain b) (list_all is_plain bs) h.1).0

from_begins : (text w rest : List ℕ) → Begins text w rest → from_word text ≡ w ++ rest
from_begins text w rest h =
    ap from_word h.whole ∙ from_word-blanks h.front (w ++ rest) h.blanks ∙ from_word-word (w ++ rest) (begins_plain w rest h.is_word)

pub word_is : (text w rest : List ℕ) → Begins text w rest → word text ≡ w
unfolding word
word_is text w rest h = ap up_to_blank (from_begins text w rest h) ∙ up_to_blank-word w rest h.is_word.1 h.apart

pub behind_is : (text w rest : List ℕ) → Begins text w rest → behind text ≡ rest
unfolding behind
behind_is text w rest h = ap from_blank (from_begins text w rest h) ∙ from_blank-word w rest h.is_word.1 h.apart

pub has_word : (text w rest : List ℕ) → Begins text w rest → lacks_word text ≡ false
has_word text w rest h = ap (λ (t : List ℕ). length t == 0) (word_is text w rest h) ∙ h.is_word.0

word_plain : (text : List ℕ) → list_all is_plain (up_to_blank text) ≡ true
word_plain [] = refl
word_plain (b ∷ bs) =
    let P : List ℕ → Type 0 = λ t. list_all is_plain t ≡ true in
    ⊎_elim
    (λ yes. subst P (sym (cond-true (is_blank b) [] (b ∷ up_to_blank bs) yes)) refl)
    (λ never. subst P (sym (cond-false (is_blank b) [] (b ∷ up_to_blank bs) never)) (and_from (is_plain b) _ (ap not never) (word_plain bs)))
    (cases_Bool (is_blank b))

rest_apart : (text : List ℕ) → Apart (from_blank text)
rest_apart [] = inl refl
rest_apart (b ∷ bs) =
    ⊎_elim
    (λ yes. subst Apart (sym (cond-true (is_blank b) (b ∷ bs) (from_blank bs) yes)) (inr yes))
    (λ never. subst Apart (sym (cond-false (is_blank b) (b ∷ bs) (from_blank bs) never)) (rest_apart bs))
    (cases_Bool (is_blank b))

pub begins_on : (text : List ℕ) → lacks_word text ≡ false → Begins text (word text) (behind text)
unfolding word behind
begins_on text h =
    let led = leads_on text in
    record {
      front = led.front;
      blanks = led.blanks;
      is_word = (h, word_plain (from_word text));
      apart = rest_apart (from_word text);
      whole = led.whole ∙ ap (λ (t : List ℕ). led.front ++ t) (sym (word_then_blank (from_word text)));
    }

-- ---- no word

empty_word : (text : List ℕ) → begins_blank text ≡ false → length (up_to_blank text) == 0 ≡ true → text ≡ []
empty_word [] h e = refl
empty_word (b ∷ bs) h e =
    let some : length (up_to_blank (b ∷ bs)) ≡ length (b ∷ up_to_blank bs) = ap length (cond-false (is_blank b) [] (b ∷ up_to_blank bs) h) in
    let none : length (up_to_blank (b ∷ bs)) ≡ 0 = eqb-true _ _ e in
    absurd (omega arith)

pub blanks_on : (text : List ℕ) → lacks_word text ≡ true → AreBlanks text
unfolding word
blanks_on text h =
    let led = leads_on text in
    let whole : text ≡ led.front =
    led.whole ∙ ap (λ (t : List ℕ). led.front ++ t) (empty_word (from_word text) led.begins h) ∙ append-nil led.front in
    subst AreBlanks (sym whole) led.blanks

from_blanks : (text : List ℕ) → AreBlanks text → from_word text ≡ []
from_blanks text h = ap from_word (sym (append-nil text)) ∙ from_word-blanks text [] h

pub no_word : (text : List ℕ) → AreBlanks text → word text ≡ []
unfolding word
no_word text h = ap up_to_blank (from_blanks text h)

pub lacks : (text : List ℕ) → AreBlanks text → lacks_word text ≡ true
lacks text h = ap (λ (t : List ℕ). length t == 0) (no_word text h)

-- ---- blanks around

to_word-none : (back : List ℕ) → AreBlanks back → to_word back ≡ []
to_word-none [] h = refl
to_word-none (b ∷ bs) h = cond-true (list_all is_blank (b ∷ bs)) [] (b ∷ to_word bs) h

to_word-blanks : (text back : List ℕ) → AreBlanks back → to_word (text ++ back) ≡ to_word text
to_word-blanks [] back h = to_word-none back h
to_word-blanks (b ∷ bs) back h =
    ap (λ (v : Bool). cond v [] (b ∷ to_word (bs ++ back))) (list_all-append is_blank (b ∷ bs) back ∙ ap (λ (v : Bool). (list_all is_blank (b ∷ bs)) && v) h ∙ and-true _)
    ∙ ap (λ (t : List ℕ). cond (list_all is_blank (b ∷ bs)) [] (b ∷ t)) (to_word-blanks bs back h)

some_end : (b : ℕ) (bs : List ℕ) → ends_blank (b ∷ bs) ≡ false → list_all is_blank (b ∷ bs) ≡ false
some_end b [] h = ap (λ (v : Bool). v && true) h
some_end b (c ∷ bs) h = ap (λ (v : Bool). is_blank b && v) (some_end c bs h) ∙ and-false (is_blank b)

to_word-same : (text : List ℕ) → ends_blank text ≡ false → to_word text ≡ text
to_word-same [] h = refl
to_word-same (b ∷ []) h = ap (λ (v : Bool). cond (v && true) [] (b ∷ [])) h
to_word-same (b ∷ c ∷ bs) h =
    cond-false (list_all is_blank (b ∷ c ∷ bs)) [] (b ∷ to_word (c ∷ bs)) (some_end b (c ∷ bs) h) ∙ ap (λ (t : List ℕ). b ∷ t) (to_word-same (c ∷ bs) h)

kept_is : (kept back : List ℕ) → begins_blank kept ≡ false → ends_blank kept ≡ false → AreBlanks back → to_word (from_word (kept ++ back)) ≡ kept
kept_is [] back begins ends h = ap to_word (from_blanks back h)
kept_is (b ∷ bs) back begins ends h =
    ap to_word (cond-false (is_blank b) (from_word (bs ++ back)) (b ∷ (bs ++ back)) begins) ∙ to_word-blanks (b ∷ bs) back h ∙ to_word-same (b ∷ bs) ends

pub trimmed_is : (text kept : List ℕ) → Trims text kept → trimmed text ≡ kept
trimmed_is text kept h =
    ap trimmed h.whole ∙ ap to_word (from_word-blanks h.front (kept ++ h.back) h.before) ∙ kept_is kept h.back h.begins h.ends h.behind

ends_more : (b : ℕ) (kept bs back : List ℕ) → bs ≡ kept ++ back → AreBlanks back → ends_blank kept ≡ false → list_all is_blank (b ∷ bs) ≡ false
    → ends_blank (b ∷ kept) ≡ false
ends_more b [] bs back whole h ends some =
    let blank : list_all is_blank bs ≡ true = ap (list_all is_blank) whole ∙ h in
    sym (and-true (is_blank b)) ∙ ap (λ (v : Bool). is_blank b && v) (sym blank) ∙ some
ends_more b (c ∷ cs) bs back whole h ends some = ends

record TailAs (text kept : List ℕ) : Type 0 where
  back : List ℕ
  blanks : AreBlanks back
  ends : ends_blank kept ≡ false
  whole : text ≡ kept ++ back

tail_on : (text : List ℕ) → TailAs text (to_word text)
tail_on [] = record { back = []; blanks = refl; ends = refl; whole = refl }
tail_on (b ∷ bs) =
    let P : List ℕ → Type 0 = λ t. TailAs (b ∷ bs) t in
    ⊎_elim
    (λ yes. subst P (sym (cond-true (list_all is_blank (b ∷ bs)) [] (b ∷ to_word bs) yes)) (record { back = b ∷ bs; blanks = yes; ends = refl; whole = refl }))
    (λ never.
    let later = tail_on bs in
    subst P (sym (cond-false (list_all is_blank (b ∷ bs)) [] (b ∷ to_word bs) never))
    (record {
      back = later.back;
      blanks = later.blanks;
      ends = ends_more b (to_word bs) bs later.back later.whole later.blanks later.ends never;
      whole = ap (λ (t : List ℕ). b ∷ t) later.whole;
    }))
    (cases_Bool (list_all is_blank (b ∷ bs)))

begins_still : (text : List ℕ) → begins_blank text ≡ false → begins_blank (to_word text) ≡ false
begins_still [] h = refl
begins_still (b ∷ bs) h =
    ⊎_elim
    (λ yes. ap begins_blank (cond-true (list_all is_blank (b ∷ bs)) [] (b ∷ to_word bs) yes))
    (λ never. ap begins_blank (cond-false (list_all is_blank (b ∷ bs)) [] (b ∷ to_word bs) never) ∙ h)
    (cases_Bool (list_all is_blank (b ∷ bs)))

pub trims_on : (text : List ℕ) → Trims text (trimmed text)
trims_on text =
    let led = leads_on text in
    let tail = tail_on (from_word text) in
    record {
      front = led.front;
      back = tail.back;
      before = led.blanks;
      behind = tail.blanks;
      begins = begins_still (from_word text) led.begins;
      ends = tail.ends;
      whole = led.whole ∙ ap (λ (t : List ℕ). led.front ++ t) tail.whole;
    }

-- ---- notes

pub note_is : (text note : List ℕ) → IsNote text note → note_of text ≡ note
unfolding note_of
note_is text note h =
    ap (λ (t : List ℕ). trimmed (unmarked t)) (from_word-leads text h.marked h.leads) ∙ trimmed_is (unmarked h.marked) note h.trims

pub note_on : (text : List ℕ) → IsNote text (note_of text)
unfolding note_of
note_on text = record { marked = from_word text; leads = leads_on text; trims = trims_on (unmarked (from_word text)) }
