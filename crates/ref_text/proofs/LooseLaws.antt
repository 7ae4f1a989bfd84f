-- What HEAD and a loose ref say, and that they say nothing else.
use Rattle.std.proofs.Common.{◌≡◌, ◌⊎◌, ◌<◌, get_or, ℕ, Bool, true, false, cond, not, ◌&&◌, List, [], ◌∷◌, ◌++◌, length, take, drop, Some, None, Result, Ok, Err, inl, inr, refl, sym, ap, subst, ◌∙◌, arith}
use Rattle.std.specs.Prelude.{codes, nat_eq}
use Rattle.std.specs.List.{list_all, position_or_len}
use Rattle.std.specs.Str.{bytes_eq}
use Rattle.std.proofs.lemmas.Bool.{and_parts}
use Rattle.std.proofs.lemmas.List.{take-append-drop, append_assoc}
use Rattle.std.proofs.lemmas.List.Sums.{position_or_len_is}
use Rattle.std.proofs.lemmas.Slice.Eq.{bytes_eq-Decides}
use Rattle.std.proofs.Math.Seq.{drop-append_seam, take-append_seam}
use Rattle.grammar.specs.Grammar.{IsReading}
use Rattle.hex.specs.Hex.{is_hex_digit}
use Rattle.seq_base.specs.Blanks.{is_blank}
use Rattle.seq_base.specs.Ids.{SpellsId}
use Rattle.seq_base.specs.RefNames.{IsRefName, is_ref_byte}
use Rattle.seq_base.proofs.RefPaths.{below_refs, each_name}
use Rattle.ref_text.specs.declared.head.Head.{Head}
use Rattle.ref_text.specs.declared.head.Head.TheVariants.{Branch, Detached}
use Rattle.ref_text.specs.declared.fault.HeadFault.{HeadFault}
use Rattle.ref_text.specs.declared.fault.HeadFault.TheVariants.{Bad, Memory}
use Rattle.ref_text.specs.Faults.{GivesHead, IsHeadFault, IsLooseFault}
use Rattle.ref_text.specs.Heads.{SpellsHead}
use Rattle.ref_text.specs.ReadHeads.{ends_word, head_in, head_of, is_loose_end, line_length, loose_of}
use Rattle.ref_text.specs.Refs.{SpellsLoose}
use Rattle.ref_text.proofs.HeadLaws.{line_from, line_to, no_front, same_line, some_inj}
use Rattle.ref_text.proofs.LogLaws.{spelled_digits}

-- ---- the line of a text

abbrev in_word : ℕ → Bool
in_word b = not (ends_word b)

all_in_word : (p : ℕ → Bool) → ((b : ℕ) → p b ≡ true → in_word b ≡ true) → (word : List ℕ) → list_all p word ≡ true → list_all in_word word ≡ true
all_in_word p each [] h = refl
all_in_word p each (b ∷ word) h = let both = and_parts (p b) (list_all p word) h in rw (each b both.0, all_in_word p each word both.1) refl

word_to : (word end : List ℕ) → list_all in_word word ≡ true → position_or_len ends_word end ≡ 0
    → position_or_len ends_word (word ++ end) ≡ length word
word_to [] end h e = e
word_to (b ∷ word) end h e = let both = and_parts (in_word b) (list_all in_word word) h in rw both.0 (omega (arith, word_to word end both.1 e))

ref_byte : (b : ℕ) → is_ref_byte b ≡ true → in_word b ≡ true
ref_byte b h = grind arith

hex_byte : (b : ℕ) → is_hex_digit b ≡ true → in_word b ≡ true
hex_byte b h = grind arith

name_word : (name : List ℕ) → IsRefName name → list_all in_word name ≡ true
name_word name is = each_name (λ n. list_all in_word n ≡ true) name refl (λ h. all_in_word is_ref_byte ref_byte name (below_refs name h).bytes) is

branch_length : (name end : List ℕ) → IsRefName name → position_or_len ends_word end ≡ 0
    → line_length ((codes "ref: " ++ name) ++ end) ≡ length (codes "ref: " ++ name)
branch_length name end is e = unfold line_length in omega (arith, word_to name end (name_word name is) e)

digits_length : (id digits end : List ℕ) → SpellsId id digits → position_or_len ends_word end ≡ 0 → line_length (digits ++ end) ≡ length digits
digits_length id digits end h e =
    unfold line_length in rw (no_front id digits end h) (word_to digits end (all_in_word is_hex_digit hex_byte digits (spelled_digits id digits h).hex) e)

line_is : (h : Head) (line end : List ℕ) → SpellsHead h (line ++ 10 ∷ []) → position_or_len ends_word end ≡ 0
    → line_length (line ++ end) ≡ length line
line_is (Branch name) line end h e =
    subst (λ (l : List ℕ). line_length (l ++ end) ≡ length l) (sym (same_line line (codes "ref: " ++ name) h.1)) (branch_length name end h.0 e)
line_is (Detached id) line end h e =
    subst (λ (l : List ℕ). line_length (l ++ end) ≡ length l) (sym (same_line line h.0 h.2)) (digits_length id h.0 end h.1 e)

-- a text that is a line and an end, cut where the line ends
cut : (P : List ℕ → List ℕ → Type 0) (line end : List ℕ) → line_length (line ++ end) ≡ length line → P line end
    → P (take (line_length (line ++ end)) (line ++ end)) (drop (line_length (line ++ end)) (line ++ end))
cut P line end is h = rw (is, take-append_seam line end, drop-append_seam line end) h

-- ---- HEAD

head_to_at : (t : Bool) (n : ℕ) (text : List ℕ) (h : Head) → bytes_eq (drop n text) (10 ∷ []) ≡ t → cond t (head_in (take n text)) None ≡ Some h
    → SpellsHead h text
head_to_at true n text h is e =
    subst (SpellsHead h) (ap (λ (end : List ℕ). take n text ++ end) (sym ((bytes_eq-Decides (drop n text) (10 ∷ [])).0 is)) ∙ take-append-drop n text) (line_to (take n text) h e)
head_to_at false n text h is e = absurd cc

pub head_to : (text : List ℕ) (h : Head) → head_of text ≡ Some h → SpellsHead h text
head_to text h e = head_to_at _ (line_length text) text h refl (unfold head_of in e)

head_from_at : (line : List ℕ) (h : Head) → SpellsHead h (line ++ 10 ∷ []) → head_of (line ++ 10 ∷ []) ≡ Some h
head_from_at line h is =
    unfold head_of in cut (λ l end. cond (bytes_eq end (10 ∷ [])) (head_in l) None ≡ Some h) line (10 ∷ []) (line_is h line (10 ∷ []) is refl) (line_from line h is)

pub head_from : (text : List ℕ) (h : Head) → SpellsHead h text → head_of text ≡ Some h
head_from text (Branch name) is =
    subst (λ (t : List ℕ). head_of t ≡ Some (Branch name)) (sym is.1) (head_from_at (codes "ref: " ++ name) (Branch name) (is.0, refl))
head_from text (Detached id) is =
    subst (λ (t : List ℕ). head_of t ≡ Some (Detached id)) (sym is.2) (head_from_at is.0 (Detached id) (is.0, is.1, refl))

pub head_read : (text : List ℕ) (r : Result Head HeadFault) → GivesHead r (head_of text)
    → IsReading (λ (h : Head). h) (IsHeadFault text) SpellsHead text r
head_read text (Ok h) e = (head_to text h e, λ x is. some_inj (sym (head_from text x is) ∙ e))
head_read text (Err Bad) e = λ x is. let f = head_from text x is in absurd cc
head_read text (Err Memory) e = tt

-- ---- a loose ref

no_feed : (b : ℕ) → is_blank b ≡ true → nat_eq b 10 ≡ false
no_feed b h = grind arith

-- a blank before an end
pub more_end : (b : ℕ) (bytes : List ℕ) → nat_eq b 10 ≡ false → is_blank b ≡ true → is_loose_end (b ∷ bytes) ≡ is_loose_end bytes
more_end b bytes other blank = unfold is_loose_end in rw (other, blank) refl

loose_end : (blanks end : List ℕ) → list_all is_blank blanks ≡ true → (end ≡ []) ⊎ (end ≡ 10 ∷ []) → is_loose_end (blanks ++ end) ≡ true
loose_end [] end h (inl e) = rw e (unfold is_loose_end in refl)
loose_end [] end h (inr e) = rw e (unfold is_loose_end in refl)
loose_end (b ∷ blanks) end h e =
    let both = and_parts (is_blank b) (list_all is_blank blanks) h in more_end b (blanks ++ end) (no_feed b both.0) both.0
    ∙ loose_end blanks end both.1 e

ends_at_once : (blanks end : List ℕ) → list_all is_blank blanks ≡ true → (end ≡ []) ⊎ (end ≡ 10 ∷ []) → position_or_len ends_word (blanks ++ end) ≡ 0
ends_at_once [] end h (inl e) = rw e refl
ends_at_once [] end h (inr e) = rw e refl
ends_at_once (b ∷ blanks) end h e = let both = and_parts (is_blank b) (list_all is_blank blanks) h in rw both.0 refl

record LooseEnd (text : List ℕ) : Type 0 where
  blanks : List ℕ
  end : List ℕ
  are_blanks : list_all is_blank blanks ≡ true
  is_end : (end ≡ []) ⊎ (end ≡ 10 ∷ [])
  text_is : text ≡ blanks ++ end

both_true : (p q : Bool) → p ≡ true → q ≡ true → p && q ≡ true
both_true p q h k = rw (h, k) refl

one_feed : (b : ℕ) (bytes : List ℕ) → nat_eq b 10 ≡ true → nat_eq (length bytes) 0 ≡ true → b ∷ bytes ≡ 10 ∷ []
one_feed b [] is none = ap (λ (c : ℕ). c ∷ []) (grind arith)
one_feed b (c ∷ bytes) is none = absurd (grind arith)

end_at : (t : Bool) (b : ℕ) (bytes : List ℕ) → nat_eq b 10 ≡ t → cond t (nat_eq (length bytes) 0) (is_blank b && is_loose_end bytes) ≡ true
    → (is_loose_end bytes ≡ true → LooseEnd bytes) → LooseEnd (b ∷ bytes)
end_at true b bytes is none later = record { blanks = []; end = 10 ∷ []; are_blanks = refl; is_end = inr refl; text_is = one_feed b bytes is none }
end_at false b bytes is both later =
    let two = and_parts (is_blank b) (is_loose_end bytes) both in
    let rest = later two.1 in
    record { blanks = b ∷ rest.blanks; end = rest.end; are_blanks = both_true (is_blank b) (list_all is_blank rest.blanks) two.0 rest.are_blanks; is_end = rest.is_end; text_is = ap (λ (l : List ℕ). b ∷ l) rest.text_is }

opened : (b : ℕ) (bytes : List ℕ) → is_loose_end (b ∷ bytes) ≡ true
    → cond (nat_eq b 10) (nat_eq (length bytes) 0) (is_blank b && is_loose_end bytes) ≡ true
opened b bytes h = unfold is_loose_end in h

end_of : (text : List ℕ) → is_loose_end text ≡ true → LooseEnd text
end_of [] h = record { blanks = []; end = []; are_blanks = refl; is_end = inl refl; text_is = refl }
end_of (b ∷ bytes) h = end_at (nat_eq b 10) b bytes refl (opened b bytes h) (λ k. end_of bytes k)

loose_to_at : (t : Bool) (n : ℕ) (text : List ℕ) (h : Head) → is_loose_end (drop n text) ≡ t → cond t (head_in (take n text)) None ≡ Some h
    → SpellsLoose h text
loose_to_at true n text h is e =
    let end = end_of (drop n text) is in
    record { line = take n text; blanks = end.blanks; end = end.end; is_line = line_to (take n text) h e; are_blanks = end.are_blanks; is_end = end.is_end; bytes_are = sym (take-append-drop n text) ∙ ap (λ (l : List ℕ). take n text ++ l) end.text_is ∙ sym (append_assoc (take n text) end.blanks end.end) }
loose_to_at false n text h is e = absurd cc

pub loose_to : (text : List ℕ) (h : Head) → loose_of text ≡ Some h → SpellsLoose h text
loose_to text h e = loose_to_at _ (line_length text) text h refl (unfold loose_of in e)

loose_from_at : (line end : List ℕ) (h : Head) → line_length (line ++ end) ≡ length line → cond (is_loose_end end) (head_in line) None ≡ Some h
    → loose_of (line ++ end) ≡ Some h
loose_from_at line end h length_is said = unfold loose_of in cut (λ l e. cond (is_loose_end e) (head_in l) None ≡ Some h) line end length_is said

pub loose_from : (text : List ℕ) (h : Head) → SpellsLoose h text → loose_of text ≡ Some h
loose_from text h is =
    let length_is = line_is h is.line (is.blanks ++ is.end) is.is_line (ends_at_once is.blanks is.end is.are_blanks is.is_end) in
    let said : cond (is_loose_end (is.blanks ++ is.end)) (head_in is.line) None ≡ Some h = rw (loose_end is.blanks is.end is.are_blanks is.is_end) (line_from is.line h is.is_line) in
    subst (λ (t : List ℕ). loose_of t ≡ Some h) (sym (is.bytes_are ∙ append_assoc is.line is.blanks is.end)) (loose_from_at is.line (is.blanks ++ is.end) h length_is said)

pub loose_read : (text : List ℕ) (r : Result Head HeadFault) → GivesHead r (loose_of text)
    → IsReading (λ (h : Head). h) (IsLooseFault text) SpellsLoose text r
loose_read text (Ok h) e = (loose_to text h e, λ x is. some_inj (sym (loose_from text x is) ∙ e))
loose_read text (Err Bad) e = λ x is. let f = loose_from text x is in absurd cc
loose_read text (Err Memory) e = tt

pub ruleset reading = (head_read, loose_read)

-- ---- the loop over a word

pub word_ends : (bytes : List ℕ) (place : ℕ) → place < length bytes → ((k : ℕ) → k < place → ends_word (get_or bytes k 0) ≡ false)
    → ends_word (get_or bytes place 0) ≡ true → place ≡ position_or_len ends_word bytes
word_ends bytes place within before at = sym (position_or_len_is ends_word bytes place 0 (omega (arith, within)) before (λ _. at))

pub no_word_ends : (bytes : List ℕ) → ((k : ℕ) → k < length bytes → ends_word (get_or bytes k 0) ≡ false)
    → length bytes ≡ position_or_len ends_word bytes
no_word_ends bytes before = sym (position_or_len_is ends_word bytes (length bytes) 0 (omega arith) before (λ k. absurd (omega (arith, k))))

pub ruleset words = (word_ends, no_word_ends)
