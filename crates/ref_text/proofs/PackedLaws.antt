-- Reading packed refs.
use Rattle.std.proofs.Common.{◌≡◌, ◌⊎◌, ℕ, ◌<◌, ◌==◌, Bool, true, false, List, [], ◌∷◌, ◌++◌, length, Option, Some, None, Result, inl, inr, refl, sym, ap, subst, ◌∙◌, append_assoc, length-append, arith}
use Rattle.std.specs.List.{list_all, flat_map}
use Rattle.std.proofs.lemmas.Bool.{and_parts, ne_eqb}
use Rattle.std.proofs.lemmas.List.{append-nil}
use Rattle.hex.specs.Hex.{is_hex_digit}
use Rattle.grammar.specs.Readers.{BeginsWith, End, HasText, IsStar, Literal, Nothing, Passing, Reads, ReadsAll, Run, Star, Then, Word, end_at, literal_at, nothing_at, passing_at, run_at, star_at, then_at, valued_at}
use Rattle.grammar.proofs.FieldLaws.{end_reads, literal_has, literal_reads, reads_same}
use Rattle.grammar.proofs.Laws.{nothing_reads, then_reads}
use Rattle.grammar.proofs.Maps.{all_mapped}
use Rattle.grammar.proofs.Passing.{passing_has, passing_reads, run_has, run_reads}
use Rattle.grammar.proofs.Stars.{star_reads}
use Rattle.grammar.proofs.Words.{valued_reads, word_has}
use Rattle.ident_text.proofs.IdentLaws.{has_then, nothing_has}
use Rattle.seq_base.specs.Ids.{SpellsId}
use Rattle.seq_base.specs.RefNames.{IsRefName}
use Rattle.ref_text.specs.Packed.{AreLines, IsPacked, PackedLine, comment, named, peeled, line_text}
use Rattle.ref_text.specs.ReadLogs.{AreDigits, any_byte, digits_from, id_of, in_line}
use Rattle.ref_text.specs.ReadPacked.{Ref, comment_from, is_caret, is_hash, may_name, name_value, named_from, next_after, packed_from, packed_line_from, peeled_from, refs_of}
use Rattle.ref_text.proofs.Choices.{BeginsApart, Either, either_reads}
use Rattle.ref_text.proofs.LogLaws.{Digits, begins_any, digits_reads, digits_spell, ends_all, one_byte, spelled_digits, spelled_id}
use Rattle.ref_text.proofs.PackedNames.{is_name, name_from, name_to}

-- a reader of a literal of one byte, and what is behind it
abbrev Behind : ℕ → (Option Ref → List ℕ → Type 0) → Option Ref → List ℕ → Type 0
Behind b second = Then (Literal (b ∷ [])) (λ _. second)

behind_reads : (b : ℕ) → b < 256 → (second : Option Ref → List ℕ → Type 0) (read : List ℕ → Result (Option Ref × List ℕ) ℕ) → Reads second read
    → HasText second
    → Reads (Behind b second) (then_at (literal_at (b ∷ [])) (λ _. read))
behind_reads b fits second read reads has =
    then_reads (Literal (b ∷ [])) (λ _. second) (literal_at (b ∷ [])) (λ _. read) (literal_reads (b ∷ []) (one_byte b fits)) (λ _ t h. reads) (λ _ t h. has)

behind_has : (b : ℕ) → b < 256 → (second : Option Ref → List ℕ → Type 0) → HasText second → HasText (Behind b second)
behind_has b fits second has = has_then (Literal (b ∷ [])) (λ _. second) (literal_has (b ∷ []) (one_byte b fits)) (λ _. has)

-- ---- a comment

abbrev pub IsComment : Option Ref → List ℕ → Type 0
IsComment x text = (x ≡ None) × (words : List ℕ) × (list_all in_line words ≡ true) × (text ≡ 35 ∷ words ++ 10 ∷ [])

abbrev AtWords : Option Ref → List ℕ → Type 0
AtWords = Then (Run in_line 10) (λ _. Nothing None)

comment_reads : Reads IsComment comment_from
unfolding comment_from
comment_reads = reads_same (Behind 35 AtWords) IsComment comment_from to from
    (behind_reads 35 (omega arith) AtWords (then_at (run_at in_line 10) (λ _. nothing_at None))
    (then_reads (Run in_line 10) (λ _. Nothing None) (run_at in_line 10) (λ _. nothing_at None) (run_reads in_line 10 (omega arith) refl) (λ _ t h. nothing_reads None) (λ _ t h. nothing_has None))
    (has_then (Run in_line 10) (λ _. Nothing None) (run_has in_line 10 (omega arith)) (λ _. nothing_has None)))
  where
    to : (x : Option Ref) (text : List ℕ) → Behind 35 AtWords x text → IsComment x text
    to x text g =
        let w = g.4 in
        let e1 = g.3 in
        let e2 = w.3.1 in
        let e3 = w.4.1 in
        (w.4.0, w.0, w.3.0, g.5 ∙ ap (λ (l : List ℕ). g.1 ++ l) w.5 ∙ rw (e1, e2, e3, append-nil) refl)

    from : (x : Option Ref) (text : List ℕ) → IsComment x text → Behind 35 AtWords x text
    from x text h = (tt, 35 ∷ [], h.1 ++ 10 ∷ [], refl, (h.1, h.1 ++ 10 ∷ [], [], (h.2, refl), (h.0, refl), sym (append-nil (h.1 ++ 10 ∷ []))), h.3)

-- ---- what a tag points to

abbrev pub IsPeeled : Option Ref → List ℕ → Type 0
IsPeeled x text = (x ≡ None) × (digits : List ℕ) × AreDigits digits × (text ≡ 94 ∷ digits ++ 10 ∷ [])

abbrev AtFeed : Option Ref → List ℕ → Type 0
AtFeed = Behind 10 (Nothing None)

abbrev AtDigits : Option Ref → List ℕ → Type 0
AtDigits = Then (Passing is_hex_digit 40) (λ _. AtFeed)

feed_has : HasText AtFeed
feed_has = behind_has 10 (omega arith) (Nothing None) (nothing_has None)

peeled_reads : Reads IsPeeled peeled_from
unfolding peeled_from
peeled_reads = reads_same (Behind 94 AtDigits) IsPeeled peeled_from to from
    (behind_reads 94 (omega arith) AtDigits (then_at (passing_at is_hex_digit 40) (λ _. then_at (literal_at (10 ∷ [])) (λ _. nothing_at None)))
    (then_reads (Passing is_hex_digit 40) (λ _. AtFeed) (passing_at is_hex_digit 40) (λ _. then_at (literal_at (10 ∷ [])) (λ _. nothing_at None))
    (passing_reads is_hex_digit 48 (omega arith) refl 40)
    (λ _ t h. behind_reads 10 (omega arith) (Nothing None) (nothing_at None) (nothing_reads None) (nothing_has None))
    (λ _ t h. feed_has))
    (has_then (Passing is_hex_digit 40) (λ _. AtFeed) (passing_has is_hex_digit 48 (omega arith) refl 40) (λ _. feed_has)))
  where
    to : (x : Option Ref) (text : List ℕ) → Behind 94 AtDigits x text → IsPeeled x text
    to x text g =
        let d = g.4 in
        let f = d.4 in
        let e1 = g.3 in
        let e2 = d.3.2 in
        let e3 = f.3 in
        let e4 = f.4.1 in
        (f.4.0, d.0, record { forty = d.3.0; hex = d.3.1 }, g.5 ∙ ap (λ (l : List ℕ). g.1 ++ l) (d.5 ∙ ap (λ (l : List ℕ). d.1 ++ l) f.5) ∙ rw (e1, e2, e3, e4) refl)

    from : (x : Option Ref) (text : List ℕ) → IsPeeled x text → Behind 94 AtDigits x text
    from x text h =
        (tt, 94 ∷ [], h.1 ++ 10 ∷ [], refl, (h.1, h.1, 10 ∷ [], (h.2.forty, h.2.hex, refl), (tt, 10 ∷ [], [], refl, (h.0, refl), refl), refl), h.3)

-- ---- a ref

abbrev pub IsNamed : Option Ref → List ℕ → Type 0
IsNamed x text =
    (digits : List ℕ) × (name : List ℕ) × (x ≡ Some (name, id_of digits)) × AreDigits digits × IsRefName name × (text ≡ digits ++ 32 ∷ name ++ 10 ∷ [])

abbrev AtName : List ℕ → Option Ref → List ℕ → Type 0
AtName digits = Then (Word name_value 10) (λ name. Nothing (Some (name, id_of digits)))

named_reads : Reads IsNamed named_from
unfolding named_from
named_reads = reads_same (Then Digits AtName) IsNamed named_from to from
    (then_reads Digits AtName digits_from (λ digits. then_at (valued_at may_name name_value 10) (λ name. nothing_at (Some (name, id_of digits)))) digits_reads
    (λ digits t h. then_reads (Word name_value 10) (λ name. Nothing (Some (name, id_of digits))) (valued_at may_name name_value 10) (λ name. nothing_at (Some (name, id_of digits)))
    (valued_reads may_name name_value 10 is_name) (λ name t h. nothing_reads (Some (name, id_of digits))) (λ name t h. nothing_has (Some (name, id_of digits))))
    (λ digits t h. has_then (Word name_value 10) (λ name. Nothing (Some (name, id_of digits))) (word_has may_name name_value 10 is_name) (λ name. nothing_has (Some (name, id_of digits)))))
  where
    to : (x : Option Ref) (text : List ℕ) → Then Digits AtName x text → IsNamed x text
    to x text g =
        let n = g.4 in
        let k = name_to n.3.0 n.0 n.3.1 in
        let e1 = g.3.1 in
        let e2 = n.3.2 in
        let e3 = n.4.1 in
        let e4 = k.1 in
        (g.0, n.0, n.4.0, g.3.0, k.0, g.5 ∙ ap (λ (l : List ℕ). g.1 ++ l) n.5 ∙ rw (e1, e2, e3, e4) (simp (append_assoc, append-nil)))

    from : (x : Option Ref) (text : List ℕ) → IsNamed x text → Then Digits AtName x text
    from x text h = (
      h.0,
      h.0 ++ 32 ∷ [],
      (h.1 ++ 10 ∷ []) ++ [],
      (h.3, refl),
      (h.1, h.1 ++ 10 ∷ [], [], (h.1, name_from h.1 h.4, refl), (h.2, refl), refl),
      h.5 ∙ simp (append_assoc, append-nil),
    )

-- ---- a line

abbrev pub EachLine : Bool → Option Ref → List ℕ → Type 0
EachLine after x text = IsComment x text ⊎ (((after ≡ true) × IsPeeled x text) ⊎ IsNamed x text)

-- a digit is no mark
no_mark : (b mark : ℕ) → is_hex_digit b ≡ true → is_hex_digit mark ≡ false → (b == mark) ≡ false
no_mark b mark on off = ne_eqb b mark (λ e. let same = ap is_hex_digit e in cc)

named_apart : (mark : ℕ) → is_hex_digit mark ≡ false → (x : Option Ref) (text : List ℕ) → IsNamed x text → BeginsApart (λ b. b == mark) text
named_apart mark off x text h = subst (BeginsApart (λ b. b == mark)) (sym h.5) (at h.0 h.3.forty h.3.hex)
  where
    at : (digits : List ℕ) → length digits ≡ 40 → list_all is_hex_digit digits ≡ true → BeginsApart (λ b. b == mark) (digits ++ 32 ∷ h.1 ++ 10 ∷ [])
    at [] forty hex = absurd (omega arith)
    at (b ∷ digits) forty hex = no_mark b mark (and_parts (is_hex_digit b) (list_all is_hex_digit digits) hex).0 off

comment_begins : (x : Option Ref) (text : List ℕ) → IsComment x text → BeginsWith is_hash text
comment_begins x text h = subst (BeginsWith is_hash) (sym h.3) refl

peeled_begins : (x : Option Ref) (text : List ℕ) → IsPeeled x text → BeginsWith is_caret text
peeled_begins x text h = subst (BeginsWith is_caret) (sym h.3) refl

peeled_apart : (x : Option Ref) (text : List ℕ) → IsPeeled x text → BeginsApart is_hash text
peeled_apart x text h = subst (BeginsApart is_hash) (sym h.3) refl

abbrev Tagged : Option Ref → List ℕ → Type 0
Tagged = Either IsPeeled IsNamed

tagged_apart : (x : Option Ref) (text : List ℕ) → Tagged x text → BeginsApart is_hash text
tagged_apart x text (inl h) = peeled_apart x text h
tagged_apart x text (inr h) = named_apart 35 refl x text h

pub line_reads : (after : Bool) → Reads (EachLine after) (packed_line_from after)
unfolding packed_line_from
line_reads true = reads_same (Either IsComment Tagged) (EachLine true) (packed_line_from true) to from
    (either_reads is_hash IsComment Tagged comment_from _ comment_begins tagged_apart comment_reads
    (either_reads is_caret IsPeeled IsNamed peeled_from named_from peeled_begins (named_apart 94 refl) peeled_reads named_reads))
  where
    to : (x : Option Ref) (text : List ℕ) → Either IsComment Tagged x text → EachLine true x text
    to x text (inl h) = inl h
    to x text (inr (inl h)) = inr (inl (refl, h))
    to x text (inr (inr h)) = inr (inr h)

    from : (x : Option Ref) (text : List ℕ) → EachLine true x text → Either IsComment Tagged x text
    from x text (inl h) = inl h
    from x text (inr (inl h)) = inr (inl h.1)
    from x text (inr (inr h)) = inr (inr h)
line_reads false = reads_same (Either IsComment IsNamed) (EachLine false) (packed_line_from false) to from
    (either_reads is_hash IsComment IsNamed comment_from named_from comment_begins (named_apart 35 refl) comment_reads named_reads)
  where
    to : (x : Option Ref) (text : List ℕ) → Either IsComment IsNamed x text → EachLine false x text
    to x text (inl h) = inl h
    to x text (inr h) = inr (inr h)

    from : (x : Option Ref) (text : List ℕ) → EachLine false x text → Either IsComment IsNamed x text
    from x text (inl h) = inl h
    from x text (inr (inl h)) = absurd (let k = h.0 in cc)
    from x text (inr (inr h)) = inr h

-- ---- all lines

abbrev pub AnyState : Bool → Type 0
AnyState after = Unit {0}

some_text : (after : Bool) (x : Option Ref) (text : List ℕ) → EachLine after x text → 0 < length text
some_text after x text (inl h) = omega (arith, ap length h.3, length-append (35 ∷ h.1) (10 ∷ []))
some_text after x text (inr (inl h)) = omega (arith, ap length h.1.3, length-append (94 ∷ h.1.1) (10 ∷ []))
some_text after x text (inr (inr h)) = omega (arith, ap length h.5, length-append (h.0 ++ 32 ∷ h.1) (10 ∷ []))

pub packed_star : IsStar AnyState any_byte next_after EachLine (λ s. End) packed_line_from (λ s bytes. end_at bytes)
packed_star = record {
  reads_each = λ s good. line_reads s;
  reads_last = λ s good. end_reads;
  has_last = λ s good. (tt, [], tt, refl);
  stays_good = λ s x text good g. tt;
  begins = λ s x text g. begins_any text (some_text s x text g);
  begins_last = λ s z text g. ends_all text g;
}

-- lines one by one, and what they are
abbrev Lines : Bool → List (Option Ref) → Unit {0} → List ℕ → Type 0
Lines = Star next_after EachLine (λ s. End)

-- the refs are told by lines
abbrev Told : Bool → List Ref → List ℕ → Type 0
Told after refs text = (lines : List PackedLine) × AreLines after refs lines × (text ≡ flat_map line_text lines)

with_comment : (after : Bool) (refs : List Ref) (words : List ℕ) (lines : List PackedLine) → list_all in_line words ≡ true → AreLines false refs lines
    → AreLines after refs (comment words ∷ lines)
with_comment after [] words lines h k = (h, k)
with_comment after (r ∷ refs) words lines h k = (h, k)

with_peeled : (after : Bool) (refs : List Ref) (digits : List ℕ) (lines : List PackedLine) → after ≡ true → ((id : List ℕ) × SpellsId id digits)
    → AreLines false refs lines → AreLines after refs (peeled digits ∷ lines)
with_peeled after [] digits lines on is k = (on, is, k)
with_peeled after (r ∷ refs) digits lines on is k = (on, is, k)

told_other : (after : Bool) (refs : List Ref) (first rest : List ℕ) → EachLine after None first → Told false refs rest
    → Told after refs (first ++ rest)
told_other after refs first rest (inl h) k =
    (comment h.1 ∷ k.0, with_comment after refs h.1 k.0 h.2 k.1, ap (λ (l : List ℕ). l ++ rest) h.3 ∙ ap (λ (l : List ℕ). (35 ∷ h.1 ++ 10 ∷ []) ++ l) k.2)
told_other after refs first rest (inr (inl h)) k =
    let d = h.1 in
    (peeled d.1 ∷ k.0, with_peeled after refs d.1 k.0 h.0 (id_of d.1, digits_spell d.1 d.2) k.1, ap (λ (l : List ℕ). l ++ rest) d.3 ∙ ap (λ (l : List ℕ). (94 ∷ d.1 ++ 10 ∷ []) ++ l) k.2)
told_other after refs first rest (inr (inr h)) k = absurd (let e = h.2 in cc)

told_named : (after : Bool) (refs : List Ref) (r : Ref) (first rest : List ℕ) → EachLine after (Some r) first → Told true refs rest
    → Told after (r ∷ refs) (first ++ rest)
told_named after refs r first rest (inl h) k = absurd (let e = h.0 in cc)
told_named after refs r first rest (inr (inl h)) k = absurd (let e = h.1.0 in cc)
told_named after refs r first rest (inr (inr h)) k =
    let same : r ≡ (h.1, id_of h.0) = let e = h.2 in cc in
    let id : SpellsId r.1 h.0 = subst (λ (i : List ℕ). SpellsId i h.0) (sym (ap (λ (p : Ref). p.1) same)) (digits_spell h.0 h.3) in (
      named h.0 h.1 ∷ k.0,
      (ap (λ (p : Ref). p.0) same, h.4, id, k.1),
      ap (λ (l : List ℕ). l ++ rest) h.5 ∙ ap (λ (l : List ℕ). (h.0 ++ 32 ∷ h.1 ++ 10 ∷ []) ++ l) k.2,
    )

told : (after : Bool) (xs : List (Option Ref)) (z : Unit {0}) (text : List ℕ) → Lines after xs z text → Told after (refs_of xs) text
told after [] z text g = ([], tt, g)
told after (None ∷ xs) z text g = subst (Told after (refs_of xs)) (sym g.4) (told_other after (refs_of xs) g.0 g.1 g.2 (told false xs z g.1 g.3))
told after (Some r ∷ xs) z text g =
    subst (Told after (r ∷ refs_of xs)) (sym g.4) (told_named after (refs_of xs) r g.0 g.1 g.2 (told true xs z g.1 g.3))

-- some lines, of which these are the refs
abbrev Read : Bool → List Ref → List ℕ → Type 0
Read after refs text = (xs : List (Option Ref)) × Lines after xs tt text × (refs ≡ refs_of xs)

read_other : (after : Bool) (refs : List Ref) (first rest : List ℕ) → EachLine after None first → Read false refs rest
    → Read after refs (first ++ rest)
read_other after refs first rest is k = (None ∷ k.0, (first, rest, is, k.1, refl), k.2)

lines_read : (after : Bool) (refs : List Ref) (lines : List PackedLine) → AreLines after refs lines → Read after refs (flat_map line_text lines)
lines_read after [] [] h = ([], refl, refl)
lines_read after (r ∷ refs) [] h = absurd h
lines_read after [] (comment words ∷ lines) h =
    read_other after [] (35 ∷ words ++ 10 ∷ []) (flat_map line_text lines) (inl (refl, words, h.0, refl)) (lines_read false [] lines h.1)
lines_read after (r ∷ refs) (comment words ∷ lines) h =
    read_other after (r ∷ refs) (35 ∷ words ++ 10 ∷ []) (flat_map line_text lines) (inl (refl, words, h.0, refl)) (lines_read false (r ∷ refs) lines h.1)
lines_read after [] (peeled digits ∷ lines) h =
    read_other after [] (94 ∷ digits ++ 10 ∷ []) (flat_map line_text lines) (inr (inl (h.0, (refl, digits, spelled_digits h.1.0 digits h.1.1, refl)))) (lines_read false [] lines h.2)
lines_read after (r ∷ refs) (peeled digits ∷ lines) h =
    read_other after (r ∷ refs) (94 ∷ digits ++ 10 ∷ []) (flat_map line_text lines) (inr (inl (h.0, (refl, digits, spelled_digits h.1.0 digits h.1.1, refl)))) (lines_read false (r ∷ refs) lines h.2)
lines_read after [] (named digits name ∷ lines) h = absurd h
lines_read after (r ∷ refs) (named digits name ∷ lines) h =
    let k = lines_read true refs lines h.3 in
    let same : Some r ≡ Some (name, id_of digits) = λ i. Some (h.0 i, sym (spelled_id r.1 digits h.2) i) in (
      Some r ∷ k.0,
      (digits ++ 32 ∷ name ++ 10 ∷ [], flat_map line_text lines, inr (inr (digits, name, same, spelled_digits r.1 digits h.2, h.1, refl)), k.1, refl),
      ap (λ (rs : List Ref). r ∷ rs) k.2,
    )

abbrev Starred : List (Option Ref) × Unit {0} → List ℕ → Type 0
Starred p text = Lines false p.0 p.1 text

starred_to : (p : List (Option Ref) × Unit {0}) (text : List ℕ) → Starred p text → IsPacked (refs_of p.0) text
starred_to p text g = let k = told false p.0 p.1 text g in record { lines = k.0; are_lines = k.1; text_is = k.2 }

starred_from : (refs : List Ref) (text : List ℕ) → IsPacked refs text → (p : List (Option Ref) × Unit {0}) × Starred p text × (refs ≡ refs_of p.0)
starred_from refs text h =
    let k = lines_read false refs h.lines h.are_lines in
    ((k.0, tt), subst (λ (t : List ℕ). Lines false k.0 tt t) (sym h.text_is) k.1, k.2)

pub packed_reads : ReadsAll IsPacked packed_from
unfolding packed_from
packed_reads =
    all_mapped Starred IsPacked (λ bytes. star_at any_byte next_after packed_line_from (λ s rest. end_at rest) (length bytes) false bytes) (λ p. refs_of p.0) starred_to starred_from
    (star_reads AnyState any_byte next_after EachLine (λ s. End) packed_line_from (λ s rest. end_at rest) packed_star false tt)
