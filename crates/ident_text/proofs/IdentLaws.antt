-- Reading who made a commit and when.
use Rattle.std.proofs.Common.{◌≡◌, ℕ, zero, suc, ◌+◌, ◌-◌, ◌<◌, ◌≤◌, Bool, true, false, cond, not, ◌&&◌, eqb, List, [], ◌∷◌, ◌++◌, length, take, get_or, Some, None, Ok, refl, sym, ap, subst, ◌∙◌, append_assoc, arith, ℤ, FitsSigned}
use Rattle.std.specs.Prelude.{codes}
use Rattle.std.specs.Int.{w64}
use Rattle.std.specs.Char.{is_ascii_digit}
use Rattle.std.specs.Fmt.{signed_decimal}
use Rattle.std.specs.List.{list_all}
use Rattle.std.proofs.lemmas.List.{append-nil, length-append, take_at, take_all, take_more}
use Rattle.std.proofs.lemmas.List.Folds.{list_all-append}
use Rattle.std.proofs.lemmas.Bool.{eqb-true, eq-eqb, ne_eqb}
use Rattle.grammar.specs.Grammar.{AllBytes}
use Rattle.grammar.specs.Readers.{◌>>=◌, Reads, ReadsAll, HasText, Then, then_at, Nothing, nothing_at, Word, IsWord, Run, run_at, Literal, literal_at, Passing, passing_at, End, end_at, TextOf}
use Rattle.grammar.proofs.Laws.{AllBytes-append, then_reads, then_reads_all, nothing_reads}
use Rattle.grammar.proofs.Words.{valued_reads, valued_of, word_has, span_may}
use Rattle.grammar.proofs.FieldLaws.{literal_reads, literal_has, reads_same, reads_all_same, end_reads}
use Rattle.grammar.proofs.Maps.{all_mapped, text_reads, text_has}
use Rattle.grammar.proofs.Passing.{and_true, passing_reads, passing_has, run_reads, run_has}
use Rattle.ident_text.specs.declared.ident.Ident.{Ident}
use Rattle.ident_text.specs.Idents.{is_ident_byte, is_sign, is_zone, IsIdent, IsIdentText}
use Rattle.ident_text.specs.ReadIdents.{ReadsAsIdent, ends_in_space, name_value, name_from, secs_value, is_secs_front, secs_from, zone_from, made, ident_from, ident_text_from, whole_ident_from}
use Rattle.ident_text.proofs.Secs.{both_true, asked, some_is, not_this, is_secs_word, secs_is, secs_written}

-- ---- the name

-- a front of what passes passes, and so does its last byte
pub front_passes : (test : ℕ → Bool) (front back : List ℕ) (b : ℕ) → list_all test (front ++ b ∷ back) ≡ true
    → (list_all test (front ++ b ∷ []) ≡ true) × (test b ≡ true)
front_passes test front back b all =
    let whole = ap (list_all test) (append_assoc front (b ∷ []) back) ∙ all in
    let k = and_true (list_all test (front ++ b ∷ [])) (list_all test back) (sym (list_all-append test (front ++ b ∷ []) back) ∙ whole) in
    let one = and_true (list_all test front) (list_all test (b ∷ [])) (sym (list_all-append test front (b ∷ [])) ∙ k.0) in
    (k.0, (and_true (test b) true one.1).0)

space_is : (w : List ℕ) → ends_in_space w ≡ true → w ≡ take (length w - 1) w ++ 32 ∷ []
space_is w e =
    let k = and_true (not (eqb (length w) 0)) (eqb (get_or w (length w - 1) 0) 32) e in
    let some : 0 < length w = positive (length w) k.0 in
    let last = eqb-true (get_or w (length w - 1) 0) 32 k.1 in
    let m : length w - 1 + 1 ≡ length w = omega arith in
    let more = take_more w (length w - 1) 0 (omega arith) in
    sym (take_all (length w) w (omega arith)) ∙ ap (λ (n : ℕ). take n w) (sym m) ∙ more ∙ ap (λ (b : ℕ). take (length w - 1) w ++ b ∷ []) last
  where
    positive : (n : ℕ) → not (eqb n 0) ≡ true → 0 < n
    positive zero e = absurd cc
    positive (suc n) e = omega arith

ends_space : (front : List ℕ) → ends_in_space (front ++ 32 ∷ []) ≡ true
ends_space front =
    let len : length (front ++ 32 ∷ []) ≡ suc (length front) = omega (arith, length-append front (32 ∷ [])) in
    let last : get_or (front ++ 32 ∷ []) (length front) 0 ≡ 32 = at front in
    let k : suc (length front) - 1 ≡ length front = omega arith in
    let some : eqb (suc (length front)) 0 ≡ false = ne_eqb (suc (length front)) 0 (λ e. absurd (omega arith)) in
    rw (len, k, last, some) refl
  where
    at : (xs : List ℕ) → get_or (xs ++ 32 ∷ []) (length xs) 0 ≡ 32
    at [] = refl
    at (x ∷ xs) = at xs

name_of : (w x : List ℕ) → name_value w ≡ Some x → (list_all is_ident_byte w ≡ true) × (ends_in_space w ≡ true) × (take (length w - 1) w ≡ x)
name_of w x v =
    let g = asked (list_all is_ident_byte w && ends_in_space w) (Some (take (length w - 1) w)) x v in
    let k = and_true (list_all is_ident_byte w) (ends_in_space w) g.0 in
    (k.0, k.1, some_is (take (length w - 1) w) x g.1)

pub name_is : (w : List ℕ) → list_all is_ident_byte w ≡ true → ends_in_space w ≡ true → name_value w ≡ Some (take (length w - 1) w)
name_is w all space = ap (λ (t : Bool). cond t (Some (take (length w - 1) w)) None) (both_true (list_all is_ident_byte w) (ends_in_space w) all space)

spaced : (name : List ℕ) → list_all is_ident_byte name ≡ true → name_value (name ++ 32 ∷ []) ≡ Some name
spaced name on =
    let all : list_all is_ident_byte (name ++ 32 ∷ []) ≡ true = list_all-append is_ident_byte name (32 ∷ []) ∙ rw on refl in
    let len : length (name ++ 32 ∷ []) - 1 ≡ length name = omega (arith, length-append name (32 ∷ [])) in
    name_is (name ++ 32 ∷ []) all (ends_space name) ∙ ap (λ (n : ℕ). Some (take n (name ++ 32 ∷ []))) len ∙ ap (λ (t : List ℕ). Some t) (take_at name (32 ∷ []) (length name) refl)

is_name : IsWord (list_all is_ident_byte) name_value 60
is_name = record {
  stop_fits = omega arith;
  starts = refl;
  fronts =
      λ front back b x v. let k =
      front_passes is_ident_byte front back b (name_of (front ++ b ∷ back) x v).0 in (k.0, not_this is_ident_byte b 60 k.1 refl);
  ends = λ front m. (front, 32 ∷ [], (omega arith, tt), spaced front m);
}

-- what the code has read of a name
pub name_read : (bytes w rest : List ℕ) → run_at is_ident_byte 60 bytes ≡ Ok (w, rest) → ends_in_space w ≡ true
    → name_from bytes ≡ Ok (take (length w - 1) w, rest)
unfolding name_from
name_read bytes w rest e space =
    valued_of (list_all is_ident_byte) name_value 60 bytes w rest (Some (take (length w - 1) w)) e (name_is w (span_may (list_all is_ident_byte) 60 bytes w rest refl e) space)

-- a name, and what ends it
abbrev pub NameText : List ℕ → List ℕ → Type 0
NameText name text = (list_all is_ident_byte name ≡ true) × (text ≡ name ++ 32 ∷ 60 ∷ [])

pub name_reads : Reads NameText name_from
unfolding name_from
name_reads = reads_same (Word name_value 60) NameText name_from to from (valued_reads (list_all is_ident_byte) name_value 60 is_name)
  where
    to : (x text : List ℕ) → Word name_value 60 x text → NameText x text
    to x text g =
        let n = name_of g.0 x g.1 in
        let w = g.0 in
        let split : w ≡ x ++ 32 ∷ [] = space_is w n.1 ∙ ap (λ (t : List ℕ). t ++ 32 ∷ []) n.2 in
        let all = (and_true (list_all is_ident_byte x) (list_all is_ident_byte (32 ∷ [])) (sym (list_all-append is_ident_byte x (32 ∷ [])) ∙ ap (list_all is_ident_byte) (sym split) ∙ n.0)).0 in
        (all, g.2 ∙ ap (λ (t : List ℕ). t ++ 60 ∷ []) split ∙ append_assoc x (32 ∷ []) (60 ∷ []))

    from : (x text : List ℕ) → NameText x text → Word name_value 60 x text
    from x text g = (x ++ 32 ∷ [], spaced x g.0, g.1 ∙ sym (append_assoc x (32 ∷ []) (60 ∷ [])))

-- ---- the seconds

abbrev pub SecsText : ℤ → List ℕ → Type 0
SecsText secs text = FitsSigned w64 secs × (text ≡ signed_decimal secs ++ 32 ∷ [])

secs_to : (z : ℤ) (text : List ℕ) → Word secs_value 32 z text → SecsText z text
secs_to z text g = let k = secs_is g.0 z g.1 in (k.0, g.2 ∙ ap (λ (t : List ℕ). t ++ 32 ∷ []) k.1)

pub secs_reads : Reads SecsText secs_from
unfolding secs_from
secs_reads =
    reads_same (Word secs_value 32) SecsText secs_from secs_to (λ z text g. (signed_decimal z, secs_written z g.0, g.1)) (valued_reads is_secs_front secs_value 32 is_secs_word)

pub secs_have : HasText SecsText
secs_have = let h = word_has is_secs_front secs_value 32 is_secs_word in (h.0, h.1, h.2, secs_to h.0 h.1 h.3)

-- ---- the zone

abbrev pub ZoneText : List ℕ → List ℕ → Type 0
ZoneText zone text = (is_zone zone ≡ true) × (text ≡ zone)

abbrev Digits : List ℕ → List ℕ → List ℕ → Type 0
Digits sign = Then (Passing is_ascii_digit 4) (λ digits. Nothing (sign ++ digits))

abbrev Zone : List ℕ → List ℕ → Type 0
Zone = Then (Passing is_sign 1) Digits

pub nothing_has : {Z : Type 0} (z : Z) → HasText (Nothing z)
nothing_has z = (z, [], tt, (refl, refl))

pub has_then : {X Z : Type 0} (first : X → List ℕ → Type 0) (second : X → Z → List ℕ → Type 0) → HasText first → ((x : X) → HasText (second x))
    → HasText (Then first second)
has_then first second a bs = let b = bs a.0 in (b.0, a.1 ++ b.1, AllBytes-append a.1 b.1 a.2 b.2, (a.0, a.1, b.1, a.3, b.3, refl))

sign_reads : Reads (Passing is_sign 1) (passing_at is_sign 1)
sign_reads = passing_reads is_sign 43 (omega arith) refl 1

digits_read : Reads (Passing is_ascii_digit 4) (passing_at is_ascii_digit 4)
digits_read = passing_reads is_ascii_digit 48 (omega arith) refl 4

digits_have : (sign : List ℕ) → HasText (Digits sign)
digits_have sign =
    has_then (Passing is_ascii_digit 4) (λ digits. Nothing (sign ++ digits)) (passing_has is_ascii_digit 48 (omega arith) refl 4) (λ digits. nothing_has (sign ++ digits))

pub sign_length : (bytes x rest : List ℕ) → passing_at is_sign 1 bytes ≡ Ok (x, rest) → length x ≡ 1
sign_length bytes x rest e = (sign_reads.takes bytes x rest e).1.0

pub digits_length : (bytes x rest : List ℕ) → passing_at is_ascii_digit 4 bytes ≡ Ok (x, rest) → length x ≡ 4
digits_length bytes x rest e = (digits_read.takes bytes x rest e).1.0

zone_of : (sign digits : List ℕ) → length sign ≡ 1 → list_all is_sign sign ≡ true → length digits ≡ 4 → list_all is_ascii_digit digits ≡ true
    → is_zone (sign ++ digits) ≡ true
zone_of [] digits one on four all = absurd (omega arith)
zone_of (b ∷ []) digits one on four all =
    let five : eqb (suc (length digits)) 5 ≡ true = eq-eqb (suc (length digits)) 5 (omega arith) in
    let s = (and_true (is_sign b) true on).0 in
    rw (five, s) all
zone_of (b ∷ c ∷ sign) digits one on four all = absurd (omega arith)

zone_to : (x text : List ℕ) → Zone x text → ZoneText x text
zone_to x text g =
    let d = g.4 in
    let whole : text ≡ g.1 ++ (d.1 ++ d.2) = g.5 ∙ ap (λ (t : List ℕ). g.1 ++ t) d.5 in
    let none = d.4.1 in
    let s-is = g.3.2 in
    let d-is = d.3.2 in
    let x-is : x ≡ g.0 ++ d.0 = d.4.0 in
    let parts : text ≡ g.0 ++ d.0 = whole ∙ rw (none, s-is, d-is) (ap (λ (t : List ℕ). g.0 ++ t) (append-nil d.0)) in
    (ap is_zone x-is ∙ zone_of g.0 d.0 g.3.0 g.3.1 d.3.0 d.3.1, parts ∙ sym x-is)

zone_from_text : (x text : List ℕ) → ZoneText x text → Zone x text
zone_from_text [] text g = absurd (let k = g.0 in cc)
zone_from_text (b ∷ digits) text g =
    let k = and_true (eqb (suc (length digits)) 5 && is_sign b) (list_all is_ascii_digit digits) g.0 in
    let j = and_true (eqb (suc (length digits)) 5) (is_sign b) k.0 in
    let five = eqb-true (suc (length digits)) 5 j.0 in
    let s = j.1 in
    let on : list_all is_sign (b ∷ []) ≡ true = rw s refl in
    (b ∷ [], b ∷ [], digits, (refl, on, refl), (digits, digits, [], (omega arith, k.1, refl), (refl, refl), sym (append-nil digits)), g.1)

pub zone_reads : Reads ZoneText zone_from
unfolding zone_from
zone_reads = reads_same Zone ZoneText zone_from zone_to zone_from_text
    (then_reads (Passing is_sign 1) Digits (passing_at is_sign 1) (λ sign. then_at (passing_at is_ascii_digit 4) (λ digits. nothing_at (sign ++ digits)))
    sign_reads
    (λ sign text g. then_reads (Passing is_ascii_digit 4) (λ digits. Nothing (sign ++ digits)) (passing_at is_ascii_digit 4) (λ digits. nothing_at (sign ++ digits))
    digits_read (λ digits t h. nothing_reads (sign ++ digits)) (λ digits t h. nothing_has (sign ++ digits)))
    (λ sign text g. digits_have sign))

pub zone_has : HasText ZoneText
zone_has =
    let h = has_then (Passing is_sign 1) Digits (passing_has is_sign 43 (omega arith) refl 1) digits_have in (h.0, h.1, h.2, zone_to h.0 h.1 h.3)

-- ---- all parts

abbrev AtZone : List ℕ → List ℕ → ℤ → Ident → List ℕ → Type 0
AtZone name email secs = Then ZoneText (λ zone. Nothing (made name email secs zone))

abbrev AtSecs : List ℕ → List ℕ → Ident → List ℕ → Type 0
AtSecs name email = Then SecsText (λ secs. AtZone name email secs)

abbrev AtSpace : List ℕ → List ℕ → Ident → List ℕ → Type 0
AtSpace name email = Then (Literal (32 ∷ [])) (λ _. AtSecs name email)

abbrev AtEmail : List ℕ → Ident → List ℕ → Type 0
AtEmail name = Then (Run is_ident_byte 62) (λ email. AtSpace name email)

abbrev AtName : Ident → List ℕ → Type 0
AtName = Then NameText (λ name. AtEmail name)

space_fits : AllBytes (32 ∷ [])
space_fits = (omega arith, tt)

zones_have : (name email : List ℕ) (secs : ℤ) → HasText (AtZone name email secs)
zones_have name email secs =
    has_then ZoneText (λ zone. Nothing (made name email secs zone)) zone_has (λ zone. nothing_has (made name email secs zone))

times_have : (name email : List ℕ) → HasText (AtSecs name email)
times_have name email = has_then SecsText (λ secs. AtZone name email secs) secs_have (zones_have name email)

spaces_have : (name email : List ℕ) → HasText (AtSpace name email)
spaces_have name email = has_then (Literal (32 ∷ [])) (λ _. AtSecs name email) (literal_has (32 ∷ []) space_fits) (λ _. times_have name email)

emails_have : (name : List ℕ) → HasText (AtEmail name)
emails_have name = has_then (Run is_ident_byte 62) (λ email. AtSpace name email) (run_has is_ident_byte 62 (omega arith)) (spaces_have name)

zones_read : (name email : List ℕ) (secs : ℤ) → Reads (AtZone name email secs) (then_at zone_from (λ zone. nothing_at (made name email secs zone)))
zones_read name email secs =
    then_reads ZoneText (λ zone. Nothing (made name email secs zone)) zone_from (λ zone. nothing_at (made name email secs zone))
    zone_reads (λ zone t g. nothing_reads (made name email secs zone)) (λ zone t g. nothing_has (made name email secs zone))

times_read : (name email : List ℕ)
    → Reads (AtSecs name email) (then_at secs_from (λ secs. then_at zone_from (λ zone. nothing_at (made name email secs zone))))
times_read name email =
    then_reads SecsText (λ secs. AtZone name email secs) secs_from (λ secs. then_at zone_from (λ zone. nothing_at (made name email secs zone)))
    secs_reads (λ secs t g. zones_read name email secs) (λ secs t g. zones_have name email secs)

spaces_read : (name email : List ℕ)
    → Reads (AtSpace name email) (then_at (literal_at (32 ∷ [])) (λ _. then_at secs_from (λ secs. then_at zone_from (λ zone. nothing_at (made name email secs zone)))))
spaces_read name email =
    then_reads (Literal (32 ∷ [])) (λ _. AtSecs name email) (literal_at (32 ∷ [])) (λ _. then_at secs_from (λ secs. then_at zone_from (λ zone. nothing_at (made name email secs zone))))
    (literal_reads (32 ∷ []) space_fits) (λ x t g. times_read name email) (λ x t g. times_have name email)

emails_read : (name : List ℕ)
    → Reads (AtEmail name) (then_at (run_at is_ident_byte 62) (λ email. then_at (literal_at (32 ∷ [])) (λ _. then_at secs_from (λ secs. then_at zone_from (λ zone. nothing_at (made name email secs zone))))))
emails_read name =
    then_reads (Run is_ident_byte 62) (λ email. AtSpace name email) (run_at is_ident_byte 62)
    (λ email. then_at (literal_at (32 ∷ [])) (λ _. then_at secs_from (λ secs. then_at zone_from (λ zone. nothing_at (made name email secs zone)))))
    (run_reads is_ident_byte 62 (omega arith) refl) (λ email t g. spaces_read name email) (λ email t g. spaces_have name email)

names_read : Reads AtName ident_from
unfolding ident_from
names_read =
    then_reads NameText (λ name. AtEmail name) name_from
    (λ name. then_at (run_at is_ident_byte 62) (λ email. then_at (literal_at (32 ∷ [])) (λ _. then_at secs_from (λ secs. then_at zone_from (λ zone. nothing_at (made name email secs zone))))))
    name_reads (λ name t g. emails_read name) (λ name t g. emails_have name)

regroup : (name email secs zone : List ℕ)
    → (name ++ 32 ∷ 60 ∷ []) ++ ((email ++ 62 ∷ []) ++ (32 ∷ [] ++ ((secs ++ 32 ∷ []) ++ (zone ++ [])))) ≡ name ++ codes " <" ++ email ++ codes "> " ++ secs ++ 32 ∷ zone
regroup name email secs zone = simp (append_assoc, append-nil)

to_ident : (x : Ident) (text : List ℕ) → AtName x text → IsIdent x text
to_ident x text g =
    let e = g.4 in
    let l = e.4 in
    let s = l.4 in
    let z = s.4 in
    let e1 = g.3.1 in
    let e2 = e.3.1 in
    let e3 = l.3 in
    let e4 = s.3.1 in
    let e5 = z.3.1 in
    let e6 = z.4.1 in
    let whole : text ≡ g.1 ++ (e.1 ++ (l.1 ++ (s.1 ++ (z.1 ++ z.2)))) =
    g.5 ∙ ap (λ (t : List ℕ). g.1 ++ t) (e.5 ∙ ap (λ (t : List ℕ). e.1 ++ t) (l.5 ∙ ap (λ (t : List ℕ). l.1 ++ t) (s.5 ∙ ap (λ (t : List ℕ). s.1 ++ t) z.5))) in
    let parts : text ≡ (g.0 ++ 32 ∷ 60 ∷ []) ++ ((e.0 ++ 62 ∷ []) ++ (32 ∷ [] ++ ((signed_decimal s.0 ++ 32 ∷ []) ++ (z.0 ++ [])))) = whole ∙ rw (e1, e2, e3, e4, e5, e6) refl in
    let ident : IsIdent (made g.0 e.0 s.0 z.0) text = record {
      value = record { name = g.3.0; email = e.3.0; zone = z.3.0 };
      fits = s.3.0;
      text_is = parts ∙ regroup g.0 e.0 (signed_decimal s.0) z.0;
    } in
    subst (λ (i : Ident). IsIdent i text) (sym z.4.0) ident

from_ident : (x : Ident) (text : List ℕ) → IsIdent x text → AtName x text
from_ident x text i =
    let zone : List ℕ = x.zone ++ [] in
    let time : List ℕ = (signed_decimal x.secs ++ 32 ∷ []) ++ zone in
    let space : List ℕ = 32 ∷ [] ++ time in
    let email : List ℕ = (x.email ++ 62 ∷ []) ++ space in (
      x.name,
      x.name ++ 32 ∷ 60 ∷ [],
      email,
      (i.value.name, refl),
      (
        x.email,
        x.email ++ 62 ∷ [],
        space,
        (i.value.email, refl),
        (tt, 32 ∷ [], time, refl, (x.secs, signed_decimal x.secs ++ 32 ∷ [], zone, (i.fits, refl), (x.zone, x.zone, [], (i.value.zone, refl), (refl, refl), refl), refl), refl),
        refl,
      ),
      i.text_is ∙ sym (regroup x.name x.email (signed_decimal x.secs) x.zone),
    )

-- an ident, whatever stands behind it
pub ident_reads : Reads IsIdent ident_from
ident_reads = reads_same AtName IsIdent ident_from to_ident from_ident names_read

pub ident_has : HasText IsIdent
ident_has =
    let h = has_then NameText (λ name. AtEmail name) ([], 32 ∷ 60 ∷ [], (omega arith, (omega arith, tt)), (refl, refl)) emails_have in (h.0, h.1, h.2, to_ident h.0 h.1 h.3)

-- an ident, as it stands
pub ident_text_reads : Reads (TextOf IsIdent) ident_text_from
unfolding ident_text_from
ident_text_reads = text_reads IsIdent ident_from ident_reads

pub ident_text_has : HasText (TextOf IsIdent)
ident_text_has = text_has IsIdent ident_has

pub ident_within : (bytes rest : List ℕ) (ident : Ident) → ident_from bytes ≡ Ok (ident, rest) → length rest ≤ length bytes
ident_within bytes rest ident e = let k = ident_reads.takes bytes ident rest e in omega (arith, ap length k.2, length-append k.0 rest)

-- ---- an ident alone

-- nothing more, and a value
pub end_with : {Z : Type 0} (z : Z) → ReadsAll (Nothing z) (λ bytes. end_at bytes >>= λ _. Ok z)
end_with z = all_mapped End (Nothing z) end_at (λ _. z) (λ x text g. (refl, g)) (λ y text g. (tt, g.1, g.0)) end_reads

pub whole_ident_reads : ReadsAll IsIdent whole_ident_from
unfolding whole_ident_from
whole_ident_reads = reads_all_same (Then IsIdent (λ ident. Nothing ident)) IsIdent whole_ident_from to from
    (then_reads_all IsIdent (λ ident. Nothing ident) ident_from (λ ident bytes. end_at bytes >>= λ _. Ok ident) ident_reads (λ ident t g. end_with ident) (λ ident t g. nothing_has ident))
  where
    to : (x : Ident) (text : List ℕ) → Then IsIdent (λ ident. Nothing ident) x text → IsIdent x text
    to x text g =
        let none = g.4.1 in
        let text-is : text ≡ g.1 = g.5 ∙ ap (λ (t : List ℕ). g.1 ++ t) none ∙ append-nil g.1 in
        subst (λ (i : Ident). IsIdent i text) (sym g.4.0) (subst (λ (t : List ℕ). IsIdent g.0 t) (sym text-is) g.3)

    from : (x : Ident) (text : List ℕ) → IsIdent x text → Then IsIdent (λ ident. Nothing ident) x text
    from x text g = (x, text, [], g, (refl, refl), sym (append-nil text))

-- the text of some ident reads as that one
pub reads_as : (text : List ℕ) → IsIdentText text → ReadsAsIdent text
reads_as text (ident, is) =
    let read = whole_ident_reads.again ident text is in
    record { ident = ident; read = read; alone = λ other is_too. let too = whole_ident_reads.again other text is_too in cc; back = is.text_is }
