-- Reading an author's script.
use Rattle.std.proofs.Common.{◌≡◌, ℕ, ◌+◌, ◌-◌, ◌<◌, Bool, true, false, cond, eqb, ltb, List, [], ◌∷◌, ◌++◌, length, drop, get_or, Option, Some, None, Result, Ok, refl, sym, ap, subst, ◌∙◌, append_assoc, arith, ℤ}
use Rattle.std.specs.Prelude.{codes, is_some}
use Rattle.std.specs.Fmt.{signed_decimal}
use Rattle.std.specs.List.{list_all}
use Rattle.std.proofs.lemmas.List.{append-nil, length-append, drop_more}
use Rattle.std.proofs.lemmas.Bool.{eqb-true, ltb-true}
use Rattle.grammar.specs.Grammar.{AllBytes}
use Rattle.grammar.specs.Readers.{◌>>=◌, Reads, ReadsAll, HasText, Then, then_all, Nothing, Word, IsWord, Literal, literal_at, end_at}
use Rattle.grammar.proofs.Laws.{then_reads_all}
use Rattle.grammar.proofs.Words.{valued_reads}
use Rattle.grammar.proofs.FieldLaws.{literal_reads, literal_has, reads_same, reads_all_same}
use Rattle.grammar.proofs.Passing.{and_true}
use Rattle.ident_text.specs.declared.ident.Ident.{Ident}
use Rattle.ident_text.specs.declared.quotes.Quotes.{Quotes}
use Rattle.ident_text.specs.declared.quotes.Quotes.TheVariants.{Inside, Closed, Escaped, Written}
use Rattle.ident_text.specs.Idents.{is_ident_byte}
use Rattle.ident_text.specs.ReadIdents.{secs_from, zone_from, made}
use Rattle.ident_text.specs.AuthorScripts.{quoted, quoted_line, IsAuthorScript}
use Rattle.ident_text.specs.ReadScripts.{behind, behind_all, may_be_quoted, shown, with_shown, value_behind, quoted_value, quoted_from, script_from}
use Rattle.ident_text.proofs.Secs.{both_true}
use Rattle.ident_text.proofs.IdentLaws.{SecsText, secs_reads, secs_have, ZoneText, zone_reads, zone_has, has_then, nothing_has, end_with}

-- ---- where one stands

behind_none : (o : Option Quotes) → behind_all o [] ≡ o
behind_none None = refl
behind_none (Some q) = refl

pub behind_more : (o : Option Quotes) (q : Quotes) (seen : List ℕ) (b : ℕ) → behind_all o seen ≡ Some q → behind_all o (seen ++ b ∷ []) ≡ behind q b
behind_more None q seen b e = absurd cc
behind_more (Some p) q [] b e = behind_none (behind p b) ∙ (let same : p ≡ q = cc in ap (λ (r : Quotes). behind r b) same)
behind_more (Some p) q (c ∷ seen) b e = behind_more (behind p c) q seen b e

-- a value that goes on began as one
front_on : (o : Option Quotes) (front back : List ℕ) (x : List ℕ) → value_behind o (front ++ back) ≡ Some x → is_some (behind_all o front) ≡ true
front_on None front back x v = absurd cc
front_on (Some q) [] back x v = refl
front_on (Some q) (b ∷ front) back x v = at (λ y is. front_on (behind q b) front back y is) (value_behind (behind q b) (front ++ back)) refl v
  where
    at : ((y : List ℕ) → value_behind (behind q b) (front ++ back) ≡ Some y → is_some (behind_all (behind q b) front) ≡ true)
        → (r : Option (List ℕ)) → value_behind (behind q b) (front ++ back) ≡ r → with_shown (shown q b) r ≡ Some x → is_some (behind_all (behind q b) front) ≡ true
    at later None is v = absurd cc
    at later (Some y) is v = later y is

no_line_feed : (q : Quotes) (b : ℕ) → b ≡ 10 → behind q b ≡ None
no_line_feed Inside b e = rw e refl
no_line_feed Closed b e = rw e refl
no_line_feed Escaped b e = rw e refl
no_line_feed Written b e = rw e refl

-- no value has a line feed
feedless : (o : Option Quotes) (front back : List ℕ) (b : ℕ) (x : List ℕ) → value_behind o (front ++ b ∷ back) ≡ Some x → b ≡ 10 → ⊥
feedless None front back b x v e = absurd cc
feedless (Some q) [] back b x v e =
    let none : with_shown (shown q b) (value_behind (behind q b) back) ≡ None = ap (λ (o : Option Quotes). with_shown (shown q b) (value_behind o back)) (no_line_feed q b e) in
    absurd cc
feedless (Some q) (c ∷ front) back b x v e =
    at (λ y is. feedless (behind q c) front back b y is e) (value_behind (behind q c) (front ++ b ∷ back)) refl v
  where
    at : ((y : List ℕ) → value_behind (behind q c) (front ++ b ∷ back) ≡ Some y → ⊥) → (r : Option (List ℕ))
        → value_behind (behind q c) (front ++ b ∷ back) ≡ r → with_shown (shown q c) r ≡ Some x → ⊥
    at later None is v = absurd cc
    at later (Some y) is v = later y is

-- each front can be ended
closing : (q : Quotes) → (x : List ℕ) × (rest : List ℕ) × AllBytes rest × (value_behind (Some q) rest ≡ Some x)
closing Inside = ([], 39 ∷ [], (omega arith, tt), refl)
closing Closed = ([], [], tt, refl)
closing Escaped = (39 ∷ [], 39 ∷ 39 ∷ 39 ∷ [], (omega arith, (omega arith, (omega arith, tt))), refl)
closing Written = (39 ∷ [], 39 ∷ 39 ∷ [], (omega arith, (omega arith, tt)), refl)

front_ends : (o : Option Quotes) (front : List ℕ) → is_some (behind_all o front) ≡ true
    → (x : List ℕ) × (rest : List ℕ) × AllBytes rest × (value_behind o (front ++ rest) ≡ Some x)
front_ends None front m = absurd cc
front_ends (Some q) [] m = closing q
front_ends (Some q) (b ∷ front) m =
    let k = front_ends (behind q b) front m in
    (shown q b ++ k.0, k.1, k.2, ap (with_shown (shown q b)) k.3)

is_quoted_word : IsWord may_be_quoted quoted_value 10
is_quoted_word = record {
  stop_fits = omega arith;
  starts = refl;
  fronts =
      λ front back b x v. (front_on (Some Inside) (front ++ b ∷ []) back x (ap quoted_value (append_assoc front (b ∷ []) back) ∙ v), feedless (Some Inside) front back b x v);
  ends = λ front m. front_ends (Some Inside) front m;
}

-- ---- what is written between quotes

-- what stands before, since the last quote that closed
abbrev before : Quotes → List ℕ
before Inside = []
before Closed = 39 ∷ []
before Escaped = 39 ∷ 92 ∷ []
before Written = 39 ∷ 92 ∷ 39 ∷ []

some_shown : (bytes : List ℕ) (r : Option (List ℕ)) (x : List ℕ) → with_shown bytes r ≡ Some x → (y : List ℕ) × (r ≡ Some y) × (x ≡ bytes ++ y)
some_shown bytes None x e = absurd cc
some_shown bytes (Some y) x e = (y, refl, cc)

-- the text of a value, and that its bytes may stand in it
abbrev Spelled : Quotes → List ℕ → List ℕ → Type 0
Spelled q bs x = (before q ++ bs ≡ quoted x ++ 39 ∷ []) × (list_all is_ident_byte x ≡ true)

spelled : (q : Quotes) (bs x : List ℕ) → value_behind (Some q) bs ≡ Some x → Spelled q bs x
spelled Closed [] x v = let x-is : [] ≡ x = cc in subst (λ (y : List ℕ). Spelled Closed [] y) x-is (refl, refl)
spelled Inside [] x v = absurd cc
spelled Escaped [] x v = absurd cc
spelled Written [] x v = absurd cc
spelled Inside (b ∷ bs) x v = at (λ p y e. spelled p bs y e) (eqb b 39) (is_ident_byte b) refl refl v
  where
    at : ((p : Quotes) (y : List ℕ) → value_behind (Some p) bs ≡ Some y → Spelled p bs y) → (t m : Bool) → eqb b 39 ≡ t → is_ident_byte b ≡ m
        → with_shown (cond t [] (b ∷ [])) (value_behind (cond t (Some Closed) (cond m (Some Inside) None)) bs) ≡ Some x → Spelled Inside (b ∷ bs) x
    at later true m is m-is v =
        let k = some_shown [] (value_behind (Some Closed) bs) x v in
        let s = later Closed k.0 k.1 in
        let b-is = eqb-true b 39 is in
        let x-is = k.2 in
        (ap (λ (c : ℕ). c ∷ bs) b-is ∙ s.0 ∙ ap (λ (y : List ℕ). quoted y ++ 39 ∷ []) (sym x-is), ap (list_all is_ident_byte) x-is ∙ s.1)
    at later false true is m-is v =
        let k = some_shown (b ∷ []) (value_behind (Some Inside) bs) x v in
        let s = later Inside k.0 k.1 in
        let x-is : x ≡ b ∷ k.0 = k.2 in
        let byte : quoted (b ∷ k.0) ≡ b ∷ quoted k.0 = rw is refl in
        (ap (λ (t : List ℕ). b ∷ t) s.0 ∙ ap (λ (t : List ℕ). t ++ 39 ∷ []) (sym byte) ∙ ap (λ (y : List ℕ). quoted y ++ 39 ∷ []) (sym x-is), ap (list_all is_ident_byte) x-is ∙ both_true (is_ident_byte b) (list_all is_ident_byte k.0) m-is s.1)
    at later false false is m-is v = let k = some_shown (b ∷ []) None x v in let n = k.1 in absurd cc
spelled Closed (b ∷ bs) x v = at (λ p y e. spelled p bs y e) (eqb b 92) refl v
  where
    at : ((p : Quotes) (y : List ℕ) → value_behind (Some p) bs ≡ Some y → Spelled p bs y) → (t : Bool) → eqb b 92 ≡ t
        → with_shown [] (value_behind (cond t (Some Escaped) None) bs) ≡ Some x → Spelled Closed (b ∷ bs) x
    at later true is v =
        let k = some_shown [] (value_behind (Some Escaped) bs) x v in
        let s = later Escaped k.0 k.1 in
        let b-is = eqb-true b 92 is in
        let x-is = k.2 in
        (ap (λ (c : ℕ). 39 ∷ c ∷ bs) b-is ∙ s.0 ∙ ap (λ (y : List ℕ). quoted y ++ 39 ∷ []) (sym x-is), ap (list_all is_ident_byte) x-is ∙ s.1)
    at later false is v = let k = some_shown [] None x v in let n = k.1 in absurd cc
spelled Escaped (b ∷ bs) x v = at (λ p y e. spelled p bs y e) (eqb b 39) refl v
  where
    at : ((p : Quotes) (y : List ℕ) → value_behind (Some p) bs ≡ Some y → Spelled p bs y) → (t : Bool) → eqb b 39 ≡ t
        → with_shown [] (value_behind (cond t (Some Written) None) bs) ≡ Some x → Spelled Escaped (b ∷ bs) x
    at later true is v =
        let k = some_shown [] (value_behind (Some Written) bs) x v in
        let s = later Written k.0 k.1 in
        let b-is = eqb-true b 39 is in
        let x-is = k.2 in
        (ap (λ (c : ℕ). 39 ∷ 92 ∷ c ∷ bs) b-is ∙ s.0 ∙ ap (λ (y : List ℕ). quoted y ++ 39 ∷ []) (sym x-is), ap (list_all is_ident_byte) x-is ∙ s.1)
    at later false is v = let k = some_shown [] None x v in let n = k.1 in absurd cc
spelled Written (b ∷ bs) x v = at (λ p y e. spelled p bs y e) (eqb b 39) refl v
  where
    at : ((p : Quotes) (y : List ℕ) → value_behind (Some p) bs ≡ Some y → Spelled p bs y) → (t : Bool) → eqb b 39 ≡ t
        → with_shown (b ∷ []) (value_behind (cond t (Some Inside) None) bs) ≡ Some x → Spelled Written (b ∷ bs) x
    at later true is v =
        let k = some_shown (b ∷ []) (value_behind (Some Inside) bs) x v in
        let s = later Inside k.0 k.1 in
        let b-is = eqb-true b 39 is in
        let x-is : x ≡ 39 ∷ k.0 = k.2 ∙ ap (λ (c : ℕ). c ∷ k.0) b-is in
        (ap (λ (c : ℕ). 39 ∷ 92 ∷ 39 ∷ c ∷ bs) b-is ∙ ap (λ (t : List ℕ). 39 ∷ 92 ∷ 39 ∷ 39 ∷ t) s.0 ∙ ap (λ (y : List ℕ). quoted y ++ 39 ∷ []) (sym x-is), ap (list_all is_ident_byte) x-is ∙ s.1)
    at later false is v = let k = some_shown (b ∷ []) None x v in let n = k.1 in absurd cc

unspelled : (x : List ℕ) → list_all is_ident_byte x ≡ true → quoted_value (quoted x ++ 39 ∷ []) ≡ Some x
unspelled [] all = refl
unspelled (b ∷ x) all = at (unspelled x (and_true (is_ident_byte b) (list_all is_ident_byte x) all).1) (eqb b 39) refl
  where
    at : quoted_value (quoted x ++ 39 ∷ []) ≡ Some x → (t : Bool) → eqb b 39 ≡ t
        → quoted_value ((cond t (39 ∷ 92 ∷ 39 ∷ 39 ∷ []) (b ∷ []) ++ quoted x) ++ 39 ∷ []) ≡ Some (b ∷ x)
    at rest true is =
        let b-is = eqb-true b 39 is in
        ap (λ (r : Option (List ℕ)). with_shown [] (with_shown [] (with_shown [] (with_shown (39 ∷ []) r)))) rest ∙ ap (λ (c : ℕ). Some (c ∷ x)) (sym b-is)
    at rest false is =
        let on = (and_true (is_ident_byte b) (list_all is_ident_byte x) all).0 in
        let one : quoted_value (b ∷ (quoted x ++ 39 ∷ [])) ≡ with_shown (b ∷ []) (quoted_value (quoted x ++ 39 ∷ [])) = rw (is, on) refl in
        one ∙ ap (with_shown (b ∷ [])) rest

-- a value in quotes, up to the line feed
abbrev pub QuotedText : List ℕ → List ℕ → Type 0
QuotedText value text = (list_all is_ident_byte value ≡ true) × (text ≡ quoted_line value)

quoted_to : (x text : List ℕ) → Word quoted_value 10 x text → QuotedText x text
quoted_to x text g =
    let s = spelled Inside g.0 x g.1 in
    (s.1, g.2 ∙ ap (λ (t : List ℕ). t ++ 10 ∷ []) s.0 ∙ append_assoc (quoted x) (39 ∷ []) (10 ∷ []))

pub quoted_reads : Reads QuotedText quoted_from
unfolding quoted_from
quoted_reads = reads_same (Word quoted_value 10) QuotedText quoted_from quoted_to
    (λ x text g. (quoted x ++ 39 ∷ [], unspelled x g.0, g.1 ∙ sym (append_assoc (quoted x) (39 ∷ []) (10 ∷ []))))
    (valued_reads may_be_quoted quoted_value 10 is_quoted_word)

quoted_has : HasText QuotedText
quoted_has = ([], 39 ∷ 10 ∷ [], (omega arith, (omega arith, tt)), (refl, refl))

-- ---- the lines

all_bytes : (w : List ℕ) → list_all (λ b. ltb b 256) w ≡ true → AllBytes w
all_bytes [] e = tt
all_bytes (b ∷ w) e = let k = and_true (ltb b 256) (list_all (λ b. ltb b 256) w) e in (ltb-true b 256 k.0, all_bytes w k.1)

abbrev name_key : List ℕ
name_key = codes "GIT_AUTHOR_NAME='"

abbrev email_key : List ℕ
email_key = codes "GIT_AUTHOR_EMAIL='"

abbrev date_key : List ℕ
date_key = codes "GIT_AUTHOR_DATE='@"

abbrev last : List ℕ
last = 39 ∷ 10 ∷ []

name_fits : AllBytes name_key
name_fits = all_bytes name_key refl

email_fits : AllBytes email_key
email_fits = all_bytes email_key refl

date_fits : AllBytes date_key
date_fits = all_bytes date_key refl

last_fits : AllBytes last
last_fits = all_bytes last refl

abbrev AtLast : List ℕ → List ℕ → ℤ → List ℕ → Ident → List ℕ → Type 0
AtLast name email secs zone = Then (Literal last) (λ _. Nothing (made name email secs zone))

abbrev AtZone : List ℕ → List ℕ → ℤ → Ident → List ℕ → Type 0
AtZone name email secs = Then ZoneText (λ zone. AtLast name email secs zone)

abbrev AtSecs : List ℕ → List ℕ → Ident → List ℕ → Type 0
AtSecs name email = Then SecsText (λ secs. AtZone name email secs)

abbrev AtDate : List ℕ → List ℕ → Ident → List ℕ → Type 0
AtDate name email = Then (Literal date_key) (λ _. AtSecs name email)

abbrev AtEmail : List ℕ → Ident → List ℕ → Type 0
AtEmail name = Then QuotedText (λ email. AtDate name email)

abbrev AtEmailKey : List ℕ → Ident → List ℕ → Type 0
AtEmailKey name = Then (Literal email_key) (λ _. AtEmail name)

abbrev AtName : Ident → List ℕ → Type 0
AtName = Then QuotedText (λ name. AtEmailKey name)

abbrev AtNameKey : Ident → List ℕ → Type 0
AtNameKey = Then (Literal name_key) (λ _. AtName)

abbrev last_at : List ℕ → List ℕ → ℤ → List ℕ → List ℕ → Result Ident ℕ
last_at name email secs zone = then_all (literal_at last) (λ _ bytes. end_at bytes >>= λ _. Ok (made name email secs zone))

abbrev zone_at : List ℕ → List ℕ → ℤ → List ℕ → Result Ident ℕ
zone_at name email secs = then_all zone_from (λ zone. last_at name email secs zone)

abbrev secs_at : List ℕ → List ℕ → List ℕ → Result Ident ℕ
secs_at name email = then_all secs_from (λ secs. zone_at name email secs)

abbrev date_at : List ℕ → List ℕ → List ℕ → Result Ident ℕ
date_at name email = then_all (literal_at date_key) (λ _. secs_at name email)

abbrev email_at : List ℕ → List ℕ → Result Ident ℕ
email_at name = then_all quoted_from (λ email. date_at name email)

abbrev email_key_at : List ℕ → List ℕ → Result Ident ℕ
email_key_at name = then_all (literal_at email_key) (λ _. email_at name)

abbrev name_at : List ℕ → Result Ident ℕ
name_at = then_all quoted_from (λ name. email_key_at name)

last_has : (name email : List ℕ) (secs : ℤ) (zone : List ℕ) → HasText (AtLast name email secs zone)
last_has name email secs zone =
    has_then (Literal last) (λ _. Nothing (made name email secs zone)) (literal_has last last_fits) (λ _. nothing_has (made name email secs zone))

zones_have : (name email : List ℕ) (secs : ℤ) → HasText (AtZone name email secs)
zones_have name email secs = has_then ZoneText (λ zone. AtLast name email secs zone) zone_has (last_has name email secs)

times_have : (name email : List ℕ) → HasText (AtSecs name email)
times_have name email = has_then SecsText (λ secs. AtZone name email secs) secs_have (zones_have name email)

dates_have : (name email : List ℕ) → HasText (AtDate name email)
dates_have name email = has_then (Literal date_key) (λ _. AtSecs name email) (literal_has date_key date_fits) (λ _. times_have name email)

emails_have : (name : List ℕ) → HasText (AtEmail name)
emails_have name = has_then QuotedText (λ email. AtDate name email) quoted_has (dates_have name)

email_keys_have : (name : List ℕ) → HasText (AtEmailKey name)
email_keys_have name = has_then (Literal email_key) (λ _. AtEmail name) (literal_has email_key email_fits) (λ _. emails_have name)

names_have : HasText AtName
names_have = has_then QuotedText (λ name. AtEmailKey name) quoted_has email_keys_have

last_reads : (name email : List ℕ) (secs : ℤ) (zone : List ℕ) → ReadsAll (AtLast name email secs zone) (last_at name email secs zone)
last_reads name email secs zone =
    then_reads_all (Literal last) (λ _. Nothing (made name email secs zone)) (literal_at last) (λ _ bytes. end_at bytes >>= λ _. Ok (made name email secs zone))
    (literal_reads last last_fits) (λ x t g. end_with (made name email secs zone)) (λ x t g. nothing_has (made name email secs zone))

zones_read : (name email : List ℕ) (secs : ℤ) → ReadsAll (AtZone name email secs) (zone_at name email secs)
zones_read name email secs =
    then_reads_all ZoneText (λ zone. AtLast name email secs zone) zone_from (λ zone. last_at name email secs zone) zone_reads (λ zone t g. last_reads name email secs zone) (λ zone t g. last_has name email secs zone)

times_read : (name email : List ℕ) → ReadsAll (AtSecs name email) (secs_at name email)
times_read name email =
    then_reads_all SecsText (λ secs. AtZone name email secs) secs_from (λ secs. zone_at name email secs) secs_reads (λ secs t g. zones_read name email secs) (λ secs t g. zones_have name email secs)

dates_read : (name email : List ℕ) → ReadsAll (AtDate name email) (date_at name email)
dates_read name email =
    then_reads_all (Literal date_key) (λ _. AtSecs name email) (literal_at date_key) (λ _. secs_at name email) (literal_reads date_key date_fits) (λ x t g. times_read name email) (λ x t g. times_have name email)

emails_read : (name : List ℕ) → ReadsAll (AtEmail name) (email_at name)
emails_read name =
    then_reads_all QuotedText (λ email. AtDate name email) quoted_from (λ email. date_at name email) quoted_reads (λ email t g. dates_read name email) (λ email t g. dates_have name email)

email_keys_read : (name : List ℕ) → ReadsAll (AtEmailKey name) (email_key_at name)
email_keys_read name =
    then_reads_all (Literal email_key) (λ _. AtEmail name) (literal_at email_key) (λ _. email_at name) (literal_reads email_key email_fits) (λ x t g. emails_read name) (λ x t g. emails_have name)

names_read : ReadsAll AtName name_at
names_read =
    then_reads_all QuotedText (λ name. AtEmailKey name) quoted_from (λ name. email_key_at name) quoted_reads (λ name t g. email_keys_read name) (λ name t g. email_keys_have name)

name_keys_read : ReadsAll AtNameKey script_from
unfolding script_from
name_keys_read =
    then_reads_all (Literal name_key) (λ _. AtName) (literal_at name_key) (λ _. name_at) (literal_reads name_key name_fits) (λ x t g. names_read) (λ x t g. names_have)

regroup : (name email secs zone : List ℕ)
    → name_key ++ (quoted_line name ++ (email_key ++ (quoted_line email ++ (date_key ++ ((secs ++ 32 ∷ []) ++ (zone ++ (last ++ [])))))))
    ≡ name_key ++ quoted_line name ++ email_key ++ quoted_line email ++ (date_key ++ secs ++ 32 ∷ zone ++ last)
regroup name email secs zone = simp (append_assoc, append-nil)

to_script : (x : Ident) (text : List ℕ) → AtNameKey x text → IsAuthorScript x text
to_script x text g =
    let n = g.4 in
    let k = n.4 in
    let e = k.4 in
    let d = e.4 in
    let s = d.4 in
    let z = s.4 in
    let l = z.4 in
    let e1 = g.3 in
    let e2 = n.3.1 in
    let e3 = k.3 in
    let e4 = e.3.1 in
    let e5 = d.3 in
    let e6 = s.3.1 in
    let e7 = z.3.1 in
    let e8 = l.3 in
    let e9 = l.4.1 in
    let whole : text ≡ g.1 ++ (n.1 ++ (k.1 ++ (e.1 ++ (d.1 ++ (s.1 ++ (z.1 ++ (l.1 ++ l.2))))))) =
    g.5 ∙ ap (λ (t : List ℕ). g.1 ++ t) (n.5 ∙ ap (λ (t : List ℕ). n.1 ++ t) (k.5 ∙ ap (λ (t : List ℕ). k.1 ++ t) (e.5 ∙ ap (λ (t : List ℕ). e.1 ++ t)
    (d.5 ∙ ap (λ (t : List ℕ). d.1 ++ t) (s.5 ∙ ap (λ (t : List ℕ). s.1 ++ t) (z.5 ∙ ap (λ (t : List ℕ). z.1 ++ t) l.5)))))) in
    let parts : text ≡ name_key ++ (quoted_line n.0 ++ (email_key ++ (quoted_line e.0 ++ (date_key ++ ((signed_decimal s.0 ++ 32 ∷ []) ++ (z.0 ++ (last ++ []))))))) = whole ∙ rw (e1, e2, e3, e4, e5, e6, e7, e8, e9) refl in
    let script : IsAuthorScript (made n.0 e.0 s.0 z.0) text = record {
      value = record { name = n.3.0; email = e.3.0; zone = z.3.0 };
      fits = s.3.0;
      text_is = parts ∙ regroup n.0 e.0 (signed_decimal s.0) z.0;
    } in
    subst (λ (i : Ident). IsAuthorScript i text) (sym l.4.0) script

from_script : (x : Ident) (text : List ℕ) → IsAuthorScript x text → AtNameKey x text
from_script x text i =
    let zone : List ℕ = x.zone ++ (last ++ []) in
    let time : List ℕ = (signed_decimal x.secs ++ 32 ∷ []) ++ zone in
    let date : List ℕ = date_key ++ time in
    let email : List ℕ = quoted_line x.email ++ date in
    let email_line : List ℕ = email_key ++ email in
    let name : List ℕ = quoted_line x.name ++ email_line in
    let at_zone : AtZone x.name x.email x.secs x zone = (x.zone, x.zone, last ++ [], (i.value.zone, refl), (tt, last, [], refl, (refl, refl), refl), refl) in
    let at_secs : AtSecs x.name x.email x time = (x.secs, signed_decimal x.secs ++ 32 ∷ [], zone, (i.fits, refl), at_zone, refl) in
    let at_date : AtDate x.name x.email x date = (tt, date_key, time, refl, at_secs, refl) in
    let at_email : AtEmail x.name x email = (x.email, quoted_line x.email, date, (i.value.email, refl), at_date, refl) in
    let at_email_key : AtEmailKey x.name x email_line = (tt, email_key, email, refl, at_email, refl) in
    let at_name : AtName x name = (x.name, quoted_line x.name, email_line, (i.value.name, refl), at_email_key, refl) in
    (tt, name_key, name, refl, at_name, i.text_is ∙ sym (regroup x.name x.email (signed_decimal x.secs) x.zone))

pub script_reads : ReadsAll IsAuthorScript script_from
script_reads = reads_all_same AtNameKey IsAuthorScript script_from to_script from_script name_keys_read

-- ---- what the code does

last_of : (seen : List ℕ) (b : ℕ) → get_or (seen ++ b ∷ []) (length seen) 0 ≡ b
last_of [] b = refl
last_of (x ∷ seen) b = last_of seen b

-- where one stands behind the last byte of a front
pub front_behind : (q : Quotes) (front seen : List ℕ) (b : ℕ) → behind_all (Some Inside) seen ≡ Some q → front ≡ seen ++ b ∷ []
    → behind_all (Some Inside) front ≡ behind q (get_or front (length front - 1) 0)
front_behind q front seen b s e =
    let len : length front - 1 ≡ length seen = omega (arith, ap length e, length-append seen (b ∷ [])) in
    let last : get_or front (length front - 1) 0 ≡ b = ap (λ (n : ℕ). get_or front n 0) len ∙ ap (λ (f : List ℕ). get_or f (length seen) 0) e ∙ last_of seen b in
    ap (behind_all (Some Inside)) e ∙ behind_more (Some Inside) q seen b s ∙ ap (behind q) (sym last)

-- what a loop over a value has of it, and what is left
pub record Unquoting (total : Option (List ℕ)) (value : List ℕ) (q : Quotes) (rest : List ℕ) : Type 0 where
  pub same : with_shown value (value_behind (Some q) rest) ≡ total

with_shown-more : (a b : List ℕ) (o : Option (List ℕ)) → with_shown a (with_shown b o) ≡ with_shown (a ++ b) o
with_shown-more a b None = refl
with_shown-more a b (Some x) = ap (λ (t : List ℕ). Some t) (sym (append_assoc a b x))

pub unquoting_more : (total : Option (List ℕ)) (value w : List ℕ) (q next : Quotes) (i : ℕ) → i < length w → Some next ≡ behind q (get_or w i 0)
    → Unquoting total value q (drop i w)
    → Unquoting total (value ++ shown q (get_or w i 0)) next (drop (i + 1) w)
unquoting_more total value w q next i lt is u = record {
  same =
      let b = get_or w i 0 in
      let rest = drop (i + 1) w in
      let step : value_behind (Some q) (drop i w) ≡ with_shown (shown q b) (value_behind (Some next) rest) =
      ap (value_behind (Some q)) (drop_more w i 0 lt) ∙ ap (λ (o : Option Quotes). with_shown (shown q b) (value_behind o rest)) (sym is) in
      sym (with_shown-more value (shown q b) (value_behind (Some next) rest)) ∙ ap (with_shown value) (sym step) ∙ u.same;
}

-- the line of a time, in pieces
pub date_written : (old key secs zone end : List ℕ) → ((((old ++ key) ++ secs) ++ 32 ∷ []) ++ zone) ++ end ≡ old ++ (key ++ secs ++ 32 ∷ zone ++ end)
date_written old key secs zone end = simp append_assoc
