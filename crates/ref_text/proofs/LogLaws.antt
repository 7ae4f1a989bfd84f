-- Reading reflogs.
use Rattle.std.proofs.Common.{◌≡◌, ℕ, ◌<◌, ◌%◌, Bool, true, false, cond, List, [], ◌∷◌, ◌++◌, length, Option, Some, None, Result, Ok, refl, sym, ap, subst, ◌∙◌, append_assoc, length-append, arith}
use Rattle.std.specs.Result.{result_unwrap_or}
use Rattle.std.specs.Str.{bytes_eq}
use Rattle.std.proofs.lemmas.Bool.{both_ways, cond-true, cond-false, false_from_ne_true}
use Rattle.std.proofs.lemmas.List.{append-nil}
use Rattle.std.proofs.lemmas.List.Sums.{AllPass-from_list_all, list_all-from_AllPass}
use Rattle.std.proofs.lemmas.Slice.Eq.{bytes_eq-Decides}
use Rattle.hex.specs.Hex.{is_hex_digit}
use Rattle.hex.proofs.HexLemmas.{decode_of-ok, decode_of-digits}
use Rattle.grammar.specs.Grammar.{AllBytes}
use Rattle.grammar.specs.Readers.{Reads, ReadsAll, HasText, Then, then_at, Nothing, nothing_at, Passing, passing_at, Literal, literal_at, Run, run_at, TextOf, text_at, End, end_at, Star, star_at, IsStar, BeginsWith, BeginsOtherwise}
use Rattle.grammar.proofs.Laws.{then_reads, nothing_reads}
use Rattle.grammar.proofs.FieldLaws.{literal_reads, literal_has, reads_same, end_reads}
use Rattle.grammar.proofs.Maps.{all_mapped, text_reads, text_has}
use Rattle.grammar.proofs.Passing.{passing_reads, passing_has, run_reads, run_has}
use Rattle.grammar.proofs.Stars.{star_reads}
use Rattle.ident_text.specs.declared.ident.Ident.{Ident}
use Rattle.ident_text.specs.Idents.{IsIdent}
use Rattle.ident_text.specs.ReadIdents.{ident_from}
use Rattle.ident_text.proofs.IdentLaws.{has_then, ident_has, ident_reads, nothing_has}
use Rattle.seq_base.specs.Ids.{SpellsId}
use Rattle.ref_text.specs.declared.log.LogLine.{LogLine}
use Rattle.ref_text.specs.Logs.{IsLog, IsLogLine, SpellsOld, line_of_fields, zeros}
use Rattle.ref_text.specs.ReadLogs.{AreDigits, any_byte, digits_from, id_of, in_line, kept, line_from, log_from, made, old_of, who_from}

-- ---- ids

pub digits_spell : (x : List ℕ) → AreDigits x → SpellsId (id_of x) x
digits_spell x h =
    let forty = h.forty in
    let d = decode_of-digits x (let e : length x % 2 ≡ 0 = rw forty refl in e) (AllPass-from_list_all is_hex_digit x h.hex) in
    let read = d.1 in
    record { forty = h.forty; bytes = read ∙ ap Ok (sym (ap (λ r. result_unwrap_or r []) read)) }

pub spelled_id : (id x : List ℕ) → SpellsId id x → id_of x ≡ id
spelled_id id x h = ap (λ r. result_unwrap_or r []) h.bytes

pub spelled_digits : (id x : List ℕ) → SpellsId id x → AreDigits x
spelled_digits id x h = record { forty = h.forty; hex = list_all-from_AllPass is_hex_digit x (decode_of-ok x id h.bytes).1 }

old_spells : (x : List ℕ) → AreDigits x → SpellsOld (old_of x) x
old_spells x h = at (bytes_eq x zeros) refl
  where
    at : (t : Bool) → bytes_eq x zeros ≡ t → SpellsOld (cond t None (Some (id_of x))) x
    at true e = (bytes_eq-Decides x zeros).0 e
    at false e = (digits_spell x h, λ is. both_ways (bytes_eq x zeros) e ((bytes_eq-Decides x zeros).1 is))

spelled_old : (o : Option (List ℕ)) (x : List ℕ) → SpellsOld o x → AreDigits x × (old_of x ≡ o)
spelled_old None x h =
    (subst AreDigits (sym h) (record { forty = refl; hex = refl }), cond-true (bytes_eq x zeros) None (Some (id_of x)) ((bytes_eq-Decides x zeros).1 h))
spelled_old (Some id) x h =
    (spelled_digits id x h.0, cond-false (bytes_eq x zeros) None (Some (id_of x)) (false_from_ne_true (bytes_eq x zeros) (λ is. h.1 ((bytes_eq-Decides x zeros).0 is))) ∙ ap (λ (i : List ℕ). Some i) (spelled_id id x h.0))

-- digits, and the SP behind them
abbrev pub Digits : List ℕ → List ℕ → Type 0
Digits x text = AreDigits x × (text ≡ x ++ 32 ∷ [])

abbrev AtSpace : List ℕ → List ℕ → List ℕ → Type 0
AtSpace x = Then (Literal (32 ∷ [])) (λ _. Nothing x)

pub one_byte : (b : ℕ) → b < 256 → AllBytes (b ∷ [])
one_byte b h = (h, tt)

digits_to : (x text : List ℕ) → Then (Passing is_hex_digit 40) AtSpace x text → Digits x text
digits_to x text g =
    let s = g.4 in
    let none = s.4.1 in
    let same : x ≡ g.0 = s.4.0 in (
      subst AreDigits (sym same) (record { forty = g.3.0; hex = g.3.1 }),
      g.5 ∙ ap (λ (l : List ℕ). g.1 ++ l) (s.5 ∙ ap (λ (l : List ℕ). s.1 ++ l) none ∙ append-nil s.1 ∙ s.3) ∙ ap (λ (l : List ℕ). l ++ 32 ∷ []) (g.3.2 ∙ sym same),
    )

space_has : (x : List ℕ) → HasText (AtSpace x)
space_has x = has_then (Literal (32 ∷ [])) (λ _. Nothing x) (literal_has (32 ∷ []) (one_byte 32 (omega arith))) (λ _. nothing_has x)

pub digits_reads : Reads Digits digits_from
unfolding digits_from
digits_reads = reads_same (Then (Passing is_hex_digit 40) AtSpace) Digits digits_from digits_to
    (λ x text g. (x, x, 32 ∷ [], (g.0.forty, g.0.hex, refl), (tt, 32 ∷ [], [], refl, (refl, refl), refl), g.1))
    (then_reads (Passing is_hex_digit 40) AtSpace (passing_at is_hex_digit 40) (λ x. then_at (literal_at (32 ∷ [])) (λ _. nothing_at x))
    (passing_reads is_hex_digit 48 (omega arith) refl 40)
    (λ x text g. then_reads (Literal (32 ∷ [])) (λ _. Nothing x) (literal_at (32 ∷ [])) (λ _. nothing_at x) (literal_reads (32 ∷ []) (one_byte 32 (omega arith))) (λ _ t h. nothing_reads x) (λ _ t h. nothing_has x))
    (λ x text g. space_has x))

pub digits_have : HasText Digits
digits_have =
    let h = has_then (Passing is_hex_digit 40) AtSpace (passing_has is_hex_digit 48 (omega arith) refl 40) space_has in (h.0, h.1, h.2, digits_to h.0 h.1 h.3)

-- ---- who

abbrev Who : List ℕ → List ℕ → Type 0
Who ident text = (who : Ident) × IsIdent who ident × (text ≡ ident ++ 9 ∷ [])

abbrev AtTab : List ℕ → List ℕ → List ℕ → Type 0
AtTab x = Then (Literal (9 ∷ [])) (λ _. Nothing x)

who_to : (x text : List ℕ) → Then (TextOf IsIdent) AtTab x text → Who x text
who_to x text g =
    let s = g.4 in
    let same : x ≡ g.0 = s.4.0 in
    let none = s.4.1 in
    let is : IsIdent g.3.0 g.0 = subst (IsIdent g.3.0) g.3.2 g.3.1 in (
      g.3.0,
      subst (IsIdent g.3.0) (sym same) is,
      g.5 ∙ ap (λ (l : List ℕ). g.1 ++ l) (s.5 ∙ ap (λ (l : List ℕ). s.1 ++ l) none ∙ append-nil s.1 ∙ s.3) ∙ ap (λ (l : List ℕ). l ++ 9 ∷ []) (g.3.2 ∙ sym same),
    )

who_reads : Reads Who who_from
unfolding who_from
who_reads = reads_same (Then (TextOf IsIdent) AtTab) Who who_from who_to
    (λ x text g. (x, x, 9 ∷ [], (g.0, g.1, refl), (tt, 9 ∷ [], [], refl, (refl, refl), refl), g.2))
    (then_reads (TextOf IsIdent) AtTab (text_at ident_from) (λ x. then_at (literal_at (9 ∷ [])) (λ _. nothing_at x))
    (text_reads IsIdent ident_from ident_reads)
    (λ x text g. then_reads (Literal (9 ∷ [])) (λ _. Nothing x) (literal_at (9 ∷ [])) (λ _. nothing_at x) (literal_reads (9 ∷ []) (one_byte 9 (omega arith))) (λ _ t h. nothing_reads x) (λ _ t h. nothing_has x))
    (λ x text g. has_then (Literal (9 ∷ [])) (λ _. Nothing x) (literal_has (9 ∷ []) (one_byte 9 (omega arith))) (λ _. nothing_has x)))

who_has : HasText Who
who_has =
    let h = has_then (TextOf IsIdent) AtTab (text_has IsIdent ident_has) (λ x. has_then (Literal (9 ∷ [])) (λ _. Nothing x) (literal_has (9 ∷ []) (one_byte 9 (omega arith))) (λ _. nothing_has x)) in (h.0, h.1, h.2, who_to h.0 h.1 h.3)

-- ---- a line

abbrev AtMessage : List ℕ → List ℕ → List ℕ → LogLine → List ℕ → Type 0
AtMessage old new ident = Then (Run in_line 10) (λ message. Nothing (made old new ident message))

abbrev AtWho : List ℕ → List ℕ → LogLine → List ℕ → Type 0
AtWho old new = Then Who (λ ident. AtMessage old new ident)

abbrev AtNew : List ℕ → LogLine → List ℕ → Type 0
AtNew old = Then Digits (λ new. AtWho old new)

abbrev Line : LogLine → List ℕ → Type 0
Line = Then Digits (λ old. AtNew old)

message_has : (old new ident : List ℕ) → HasText (AtMessage old new ident)
message_has old new ident =
    has_then (Run in_line 10) (λ message. Nothing (made old new ident message)) (run_has in_line 10 (omega arith)) (λ message. nothing_has (made old new ident message))

whos_have : (old new : List ℕ) → HasText (AtWho old new)
whos_have old new = has_then Who (λ ident. AtMessage old new ident) who_has (message_has old new)

news_have : (old : List ℕ) → HasText (AtNew old)
news_have old = has_then Digits (λ new. AtWho old new) digits_have (whos_have old)

abbrev message_at : List ℕ → List ℕ → List ℕ → List ℕ → Result (LogLine × List ℕ) ℕ
message_at old new ident = then_at (run_at in_line 10) (λ message. nothing_at (made old new ident message))

messages_read : (old new ident : List ℕ) → Reads (AtMessage old new ident) (message_at old new ident)
messages_read old new ident =
    then_reads (Run in_line 10) (λ message. Nothing (made old new ident message)) (run_at in_line 10) (λ message. nothing_at (made old new ident message))
    (run_reads in_line 10 (omega arith) refl) (λ message t g. nothing_reads (made old new ident message)) (λ message t g. nothing_has (made old new ident message))

whos_read : (old new : List ℕ) → Reads (AtWho old new) (then_at who_from (λ ident. message_at old new ident))
whos_read old new =
    then_reads Who (λ ident. AtMessage old new ident) who_from (λ ident. message_at old new ident) who_reads (λ ident t g. messages_read old new ident) (λ ident t g. message_has old new ident)

news_read : (old : List ℕ) → Reads (AtNew old) (then_at digits_from (λ new. then_at who_from (λ ident. message_at old new ident)))
news_read old =
    then_reads Digits (λ new. AtWho old new) digits_from (λ new. then_at who_from (λ ident. message_at old new ident)) digits_reads (λ new t g. whos_read old new) (λ new t g. whos_have old new)

regroup : (old new ident message : List ℕ)
    → (old ++ 32 ∷ []) ++ ((new ++ 32 ∷ []) ++ ((ident ++ 9 ∷ []) ++ ((message ++ 10 ∷ []) ++ []))) ≡ line_of_fields old new ident message
regroup old new ident message = simp (append_assoc, append-nil)

line_to : (x : LogLine) (text : List ℕ) → Line x text → IsLogLine x text
line_to x text g =
    let n = g.4 in
    let w = n.4 in
    let m = w.4 in
    let e1 = g.3.1 in
    let e2 = n.3.1 in
    let e3 = w.3.2 in
    let e4 = m.3.1 in
    let e5 = m.4.1 in
    let whole : text ≡ g.1 ++ (n.1 ++ (w.1 ++ (m.1 ++ m.2))) = g.5 ∙ ap (λ (l : List ℕ). g.1 ++ l) (n.5 ∙ ap (λ (l : List ℕ). n.1 ++ l) (w.5 ∙ ap (λ (l : List ℕ). w.1 ++ l) m.5)) in
    let line : IsLogLine (made g.0 n.0 w.0 m.0) text = record {
      old = g.0;
      new = n.0;
      who = w.3.0;
      is_old = old_spells g.0 g.3.0;
      is_new = digits_spell n.0 n.3.0;
      is_ident = w.3.1;
      is_message = m.3.0;
      text_is = whole ∙ rw (e1, e2, e3, e4, e5) refl ∙ regroup g.0 n.0 w.0 m.0;
    } in
    subst (λ (l : LogLine). IsLogLine l text) (sym m.4.0) line

line_from_text : (x : LogLine) (text : List ℕ) → IsLogLine x text → Line x text
line_from_text x text h =
    let o = spelled_old x.old h.old h.is_old in
    let old_is : old_of h.old ≡ x.old = o.1 in
    let new_is : id_of h.new ≡ x.new = spelled_id x.new h.new h.is_new in
    let same : made h.old h.new x.ident x.message ≡ x = λ k. record { old = old_is k; new = new_is k; ident = x.ident; message = x.message } in
    let last : List ℕ = (x.message ++ 10 ∷ []) ++ [] in
    let who : List ℕ = (x.ident ++ 9 ∷ []) ++ last in
    let new : List ℕ = (h.new ++ 32 ∷ []) ++ who in (
      h.old,
      h.old ++ 32 ∷ [],
      new,
      (o.0, refl),
      (
        h.new,
        h.new ++ 32 ∷ [],
        who,
        (spelled_digits x.new h.new h.is_new, refl),
        (
          x.ident,
          x.ident ++ 9 ∷ [],
          last,
          (h.who, h.is_ident, refl),
          (x.message, x.message ++ 10 ∷ [], [], (h.is_message, refl), (sym same, refl), refl),
          refl,
        ),
        refl,
      ),
      h.text_is ∙ sym (regroup h.old h.new x.ident x.message),
    )

pub line_reads : Reads IsLogLine line_from
unfolding line_from
line_reads = reads_same Line IsLogLine line_from line_to line_from_text
    (then_reads Digits (λ old. AtNew old) digits_from (λ old. then_at digits_from (λ new. then_at who_from (λ ident. message_at old new ident))) digits_reads (λ old t g. news_read old) (λ old t g. news_have old))

-- ---- all lines

abbrev pub Each : Unit {0} → LogLine → List ℕ → Type 0
Each s x text = IsLogLine x text

abbrev pub Good : Unit {0} → Type 0
Good s = Unit {0}

pub begins_any : (text : List ℕ) → 0 < length text → BeginsWith any_byte text
begins_any [] some = absurd (omega arith)
begins_any (b ∷ text) some = refl

pub ends_all : (text : List ℕ) → text ≡ [] → BeginsOtherwise any_byte text
ends_all [] none = tt
ends_all (b ∷ text) none = absurd cc

some_text : (x : LogLine) (text : List ℕ) → IsLogLine x text → 0 < length text
some_text x text h =
    let forty : length h.new ≡ 40 = h.is_new.forty in
    omega (arith, ap length h.text_is, length-append (h.old ++ 32 ∷ h.new ++ 32 ∷ x.ident ++ 9 ∷ x.message) (10 ∷ []))

pub is_star : IsStar Good any_byte kept Each (λ s. End) (λ s. line_from) (λ s bytes. end_at bytes)
is_star = record {
  reads_each = λ s good. line_reads;
  reads_last = λ s good. end_reads;
  has_last = λ s good. (tt, [], tt, refl);
  stays_good = λ s x text good g. tt;
  begins = λ s x text g. begins_any text (some_text x text g);
  begins_last = λ s z text g. ends_all text g;
}

abbrev Starred : List LogLine × Unit {0} → List ℕ → Type 0
Starred p text = Star kept Each (λ s. End) tt p.0 p.1 text

starred : (s : Unit {0}) (lines : List LogLine) (z : Unit {0}) (text : List ℕ) → Star kept Each (λ s. End) s lines z text → IsLog lines text
starred s [] z text g = g
starred s (l ∷ lines) z text g = (g.0, g.1, g.2, starred s lines z g.1 g.3, g.4)

star_of : (s : Unit {0}) (lines : List LogLine) (z : Unit {0}) (text : List ℕ) → IsLog lines text → Star kept Each (λ s. End) s lines z text
star_of s [] z text g = g
star_of s (l ∷ lines) z text g = (g.0, g.1, g.2, star_of s lines z g.1 g.3, g.4)

pub log_reads : ReadsAll IsLog log_from
unfolding log_from
log_reads = all_mapped Starred IsLog (λ bytes. star_at any_byte kept (λ s. line_from) (λ s rest. end_at rest) (length bytes) tt bytes) (λ p. p.0)
    (λ p text g. starred tt p.0 p.1 text g)
    (λ lines text g. ((lines, tt), star_of tt lines tt text g, refl))
    (star_reads Good any_byte kept Each (λ s. End) (λ s. line_from) (λ s rest. end_at rest) is_star tt tt)
