-- Reading from the front, as functions on lists: a value and the bytes behind it, or how many bytes are left at the first
-- fault. Beside each such function stands the relation that it reads: which values the texts of that part spell.
use Rattle.std.specs.Prelude.{◌≡◌, ℕ, zero, suc, ◌+◌, ◌-◌, ◌<◌, Bool, true, false, ◌==◌, nat_lt, drop, if◌then◌else◌, List, [], ◌∷◌, ◌++◌, length, take, Option, Some, None, Result, Ok, Err}
use Rattle.std.specs.List.{list_all}
use Rattle.grammar.specs.Grammar.{AllBytes, GoesOn}

infixl 10 ◌>>=◌
abbrev pub ◌>>=◌ : {A B : Type 0} → Result A ℕ → (A → Result B ℕ) → Result B ℕ
(Ok x) >>= f = f x
(Err e) >>= f = Err e

-- with the first byte of the back no text goes on
abbrev pub NoneGoesOn : {X : Type 0} → (X → List ℕ → Type 0) → List ℕ → List ℕ → Type 0
NoneGoesOn spells front [] = Unit {0}
NoneGoesOn {X} spells front (b ∷ back) = (x : X) (more : List ℕ) → spells x (front ++ b ∷ more) → ⊥

-- the first fault
pub record Stops {X : Type 0} (spells : X → List ℕ → Type 0) (bytes : List ℕ) (left : ℕ) : Type 0 where
  pub front : List ℕ
  pub back : List ℕ
  pub parts : bytes ≡ front ++ back
  pub left_is : length back ≡ left
  pub on : GoesOn spells front
  pub off : NoneGoesOn spells front back

-- a reader of a grammar, from the front of bytes
pub record Reads {X : Type 0} (spells : X → List ℕ → Type 0) (read : List ℕ → Result (X × List ℕ) ℕ) : Type 0 where
  pub takes : (bytes : List ℕ) (x : X) (rest : List ℕ) → read bytes ≡ Ok (x, rest) → (text : List ℕ) × spells x text × (bytes ≡ text ++ rest)
  pub again : (x : X) (text rest : List ℕ) → spells x text → read (text ++ rest) ≡ Ok (x, rest)
  pub stops : (bytes : List ℕ) (left : ℕ) → read bytes ≡ Err left → Stops spells bytes left

-- a reader of a grammar, of all the bytes
pub record ReadsAll {X : Type 0} (spells : X → List ℕ → Type 0) (read : List ℕ → Result X ℕ) : Type 0 where
  pub takes : (bytes : List ℕ) (x : X) → read bytes ≡ Ok x → spells x bytes
  pub again : (x : X) (bytes : List ℕ) → spells x bytes → read bytes ≡ Ok x
  pub stops : (bytes : List ℕ) (left : ℕ) → read bytes ≡ Err left → Stops spells bytes left

-- some text of bytes spells something
abbrev pub HasText : {X : Type 0} → (X → List ℕ → Type 0) → Type 0
HasText {X} spells = (x : X) × (text : List ℕ) × AllBytes text × spells x text

-- ---- one after the other

-- x is spelled first, and then z, by a grammar that may depend on x
abbrev pub Then : {X Z : Type 0} → (X → List ℕ → Type 0) → (X → Z → List ℕ → Type 0) → Z → List ℕ → Type 0
Then {X} first second z text = (x : X) × (a : List ℕ) × (b : List ℕ) × first x a × second x z b × (text ≡ a ++ b)

abbrev pub then_at : {X Z : Type 0} → (List ℕ → Result (X × List ℕ) ℕ) → (X → List ℕ → Result (Z × List ℕ) ℕ) → List ℕ → Result (Z × List ℕ) ℕ
then_at first second bytes = first bytes >>= λ x. second x.0 x.1

abbrev pub then_all : {X Z : Type 0} → (List ℕ → Result (X × List ℕ) ℕ) → (X → List ℕ → Result Z ℕ) → List ℕ → Result Z ℕ
then_all first second bytes = first bytes >>= λ x. second x.0 x.1

-- nothing is spelled, and z is known
abbrev pub Nothing : {Z : Type 0} → Z → Z → List ℕ → Type 0
Nothing z w text = (w ≡ z) × (text ≡ [])

abbrev pub nothing_at : {Z : Type 0} → Z → List ℕ → Result (Z × List ℕ) ℕ
nothing_at z bytes = Ok (z, bytes)

-- the bytes themselves that spell something
abbrev pub TextOf : {X : Type 0} → (X → List ℕ → Type 0) → List ℕ → List ℕ → Type 0
TextOf {X} spells x text = (value : X) × spells value text × (text ≡ x)

abbrev pub text_at : {X : Type 0} → (List ℕ → Result (X × List ℕ) ℕ) → List ℕ → Result (List ℕ × List ℕ) ℕ
text_at read bytes = read bytes >>= λ x. Ok (take (length bytes - length x.1) bytes, x.1)

-- ---- a word up to a byte that ends it

abbrev pub Word : {X : Type 0} → (List ℕ → Option X) → ℕ → X → List ℕ → Type 0
Word value stop x text = (w : List ℕ) × (value w ≡ Some x) × (text ≡ w ++ stop ∷ [])

abbrev pub ended : {X : Type 0} → Option X → List ℕ → Result (X × List ℕ) ℕ
ended (Some x) bytes = Ok (x, bytes)
ended None bytes = Err (length bytes + 1)

-- seen is the front of the word, of which may says whether a word begins so
unfoldable pub word_at : {X : Type 0} → (List ℕ → Bool) → (List ℕ → Option X) → ℕ → List ℕ → List ℕ → Result (X × List ℕ) ℕ
word_at may value stop seen [] = Err 0
word_at may value stop seen (b ∷ bytes) =
    if b == stop then ended (value seen) bytes
    else if may (seen ++ b ∷ []) then word_at may value stop (seen ++ b ∷ []) bytes
    else Err (suc (length bytes))

-- the word alone
abbrev pub span_at : (List ℕ → Bool) → ℕ → List ℕ → Result (List ℕ × List ℕ) ℕ
span_at may stop bytes = word_at may (λ w. Some w) stop [] bytes

-- the word, and then its value
abbrev pub valued_at : {X : Type 0} → (List ℕ → Bool) → (List ℕ → Option X) → ℕ → List ℕ → Result (X × List ℕ) ℕ
valued_at may value stop bytes = span_at may stop bytes >>= λ x. ended (value x.0) x.1

-- what may and value have to meet
pub record IsWord {X : Type 0} (may : List ℕ → Bool) (value : List ℕ → Option X) (stop : ℕ) : Type 0 where
  pub stop_fits : stop < 256
  pub starts : may [] ≡ true
  pub fronts : (front back : List ℕ) (b : ℕ) (x : X) → value (front ++ b ∷ back) ≡ Some x → (may (front ++ b ∷ []) ≡ true) × (b ≡ stop → ⊥)
  pub ends : (front : List ℕ) → may front ≡ true → (x : X) × (rest : List ℕ) × AllBytes rest × (value (front ++ rest) ≡ Some x)

-- ---- so many bytes

abbrev pub Front : ℕ → List ℕ → List ℕ → Type 0
Front n x text = (length x ≡ n) × (text ≡ x)

abbrev pub front_at : ℕ → List ℕ → Result (List ℕ × List ℕ) ℕ
front_at n bytes = if nat_lt (length bytes) n then Err 0 else Ok (take n bytes, drop n bytes)

-- ---- so many bytes that pass a test

abbrev pub Passing : (ℕ → Bool) → ℕ → List ℕ → List ℕ → Type 0
Passing test n x text = (length x ≡ n) × (list_all test x ≡ true) × (text ≡ x)

abbrev pub with_byte : ℕ → Result (List ℕ × List ℕ) ℕ → Result (List ℕ × List ℕ) ℕ
with_byte b (Ok p) = Ok (b ∷ p.0, p.1)
with_byte b (Err e) = Err e

unfoldable pub passing_at : (ℕ → Bool) → ℕ → List ℕ → Result (List ℕ × List ℕ) ℕ
passing_at test zero bytes = Ok ([], bytes)
passing_at test (suc n) [] = Err 0
passing_at test (suc n) (b ∷ bytes) = if test b then with_byte b (passing_at test n bytes) else Err (suc (length bytes))

-- ---- bytes that pass a test, up to the one that ends them

abbrev pub Run : (ℕ → Bool) → ℕ → List ℕ → List ℕ → Type 0
Run test stop x text = (list_all test x ≡ true) × (text ≡ x ++ stop ∷ [])

abbrev pub run_at : (ℕ → Bool) → ℕ → List ℕ → Result (List ℕ × List ℕ) ℕ
run_at test stop bytes = span_at (list_all test) stop bytes

-- ---- these bytes

abbrev pub Literal : List ℕ → Unit {0} → List ℕ → Type 0
Literal w x text = text ≡ w

unfoldable pub literal_at : List ℕ → List ℕ → Result (Unit {0} × List ℕ) ℕ
literal_at [] bytes = Ok (tt, bytes)
literal_at (c ∷ w) [] = Err 0
literal_at (c ∷ w) (b ∷ bytes) = if b == c then literal_at w bytes else Err (suc (length bytes))

-- ---- all that is left

abbrev pub Rest : List ℕ → List ℕ → Type 0
Rest x text = text ≡ x

abbrev pub rest_at : List ℕ → Result (List ℕ) ℕ
rest_at bytes = Ok bytes

abbrev pub End : Unit {0} → List ℕ → Type 0
End x text = text ≡ []

abbrev pub end_at : List ℕ → Result (Unit {0}) ℕ
end_at [] = Ok tt
end_at (b ∷ bytes) = Err (suc (length bytes))

-- ---- some, each told by its first byte, and then a last one

-- Each may depend on those before it, by a state: s, and after x, next s x.
abbrev pub Star : {S X Z : Type 0} → (S → X → S) → (S → X → List ℕ → Type 0) → (S → Z → List ℕ → Type 0) → S → List X → Z → List ℕ → Type 0
Star next each last s [] z text = last s z text
Star next each last s (x ∷ xs) z text = (a : List ℕ) × (b : List ℕ) × each s x a × Star next each last (next s x) xs z b × (text ≡ a ++ b)

-- the last alone, and one before others
abbrev pub with_none : {X Z : Type 0} → Result Z ℕ → Result (List X × Z) ℕ
with_none (Ok z) = Ok ([], z)
with_none (Err e) = Err e

abbrev pub with_one : {X Z : Type 0} → X → Result (List X × Z) ℕ → Result (List X × Z) ℕ
with_one x (Ok p) = Ok (x ∷ p.0, p.1)
with_one x (Err e) = Err e

-- n is no less than the length of the bytes
unfoldable pub star_at : {S X Z : Type 0} → (ℕ → Bool) → (S → X → S) → (S → List ℕ → Result (X × List ℕ) ℕ) → (S → List ℕ → Result Z ℕ)
    → ℕ → S → List ℕ → Result (List X × Z) ℕ
star_at test next each last n s [] = with_none (last s [])
star_at test next each last zero s (b ∷ bytes) = Err 0
star_at test next each last (suc n) s (b ∷ bytes) =
    if test b then (each s (b ∷ bytes) >>= λ x. with_one x.0 (star_at test next each last n (next s x.0) x.1))
    else with_none (last s (b ∷ bytes))

-- the first byte of a text passes, and there is one
abbrev pub BeginsWith : (ℕ → Bool) → List ℕ → Type 0
BeginsWith test [] = ⊥
BeginsWith test (b ∷ bytes) = test b ≡ true

-- the first byte of a text doesn't pass, if there is one
abbrev pub BeginsOtherwise : (ℕ → Bool) → List ℕ → Type 0
BeginsOtherwise test [] = Unit {0}
BeginsOtherwise test (b ∷ bytes) = test b ≡ false

-- whether a further one stands there
abbrev pub begins : (ℕ → Bool) → List ℕ → Bool
begins test [] = false
begins test (b ∷ bytes) = test b

-- what the parts of a star have to meet, at each state that is good
pub record IsStar {S X Z : Type 0} (IsGood : S → Type 0) (test : ℕ → Bool) (next : S → X → S)
    (each : S → X → List ℕ → Type 0) (last : S → Z → List ℕ → Type 0)
    (read_each : S → List ℕ → Result (X × List ℕ) ℕ) (read_last : S → List ℕ → Result Z ℕ) : Type 0 where
  pub reads_each : (s : S) → IsGood s → Reads (each s) (read_each s)
  pub reads_last : (s : S) → IsGood s → ReadsAll (last s) (read_last s)
  pub has_last : (s : S) → IsGood s → HasText (last s)
  pub stays_good : (s : S) (x : X) (text : List ℕ) → IsGood s → each s x text → IsGood (next s x)
  pub begins : (s : S) (x : X) (text : List ℕ) → each s x text → BeginsWith test text
  pub begins_last : (s : S) (z : Z) (text : List ℕ) → last s z text → BeginsOtherwise test text
