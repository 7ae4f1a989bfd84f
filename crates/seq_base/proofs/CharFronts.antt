-- Characters of UTF-8, byte by byte: which bytes go on with one.
use Rattle.std.proofs.Common.{◌≡◌, ℕ, ◌+◌, ◌-◌, ◌*◌, ◌/◌, ◌<◌, ◌≤◌, ◌⊎◌, ◌&&◌, ◌==◌, Bool, true, false, cond, nat_lt, List, [], ◌∷◌, ◌++◌, length, get_or, inl, inr, refl, sym, ap, subst, ◌∙◌, arith}
use Rattle.std.specs.Prelude.{nat_le}
use Rattle.std.specs.Int.{is_in_range}
use Rattle.std.specs.List.{list_all}
use Rattle.std.specs.Str.{IsUtf8}
use Rattle.std.specs.Str.Lossy.{second_byte_min, second_byte_max}
use Rattle.std.proofs.Math.Utf8.{encode, encodes, scalar, scalars, next, scalar_cases, low_scalar}
use Rattle.std.proofs.lemmas.Bool.{and_parts, and_from, or_left, or_right, cases_lt, lt-ltb, le-ltb, leb-true, le-leb, eqb-true, eqb-false, cond-true, cond-false}
use Rattle.std.proofs.lemmas.List.Folds.{list_all-append}
use Rattle.std.proofs.lemmas.Str.{IsUtf8-encode}
use Rattle.seq_base.specs.RefNameFronts.{begins_char, char_size, follows, is_char, is_lead, is_second}

abbrev pub Follows : ℕ → Type 0
Follows b = (128 ≤ b) × (b < 192)

-- the second byte of a character that begins with x
pub record Second (x y : ℕ) : Type 0 where
  pub follow : Follows y
  pub least_three : x ≡ 224 → 160 ≤ y
  pub no_surrogate : x ≡ 237 → y < 160
  pub least_four : x ≡ 240 → 144 ≤ y
  pub greatest : x ≡ 244 → y < 144

pub range_parts : (a b c : ℕ) → is_in_range a b c ≡ true → (a ≤ c) × (c ≤ b)
range_parts a b c h = let both = and_parts (nat_le a c) (nat_le c b) h in (leb-true a c both.0, leb-true c b both.1)

pub range_from : (a b c : ℕ) → a ≤ c → c ≤ b → is_in_range a b c ≡ true
range_from a b c low high = and_from (nat_le a c) (nat_le c b) (le-leb a c low) (le-leb c b high)

follow_parts : (b : ℕ) → follows b ≡ true → Follows b
follow_parts b h = let both = range_parts 128 191 b h in (both.0, omega arith)

pub follow_from : (b : ℕ) → Follows b → follows b ≡ true
follow_from b h = range_from 128 191 b h.0 (omega arith)

-- what holds of both branches
pub either : (P : ℕ → Type 0) (t : Bool) (m n : ℕ) → (t ≡ true → P m) → (t ≡ false → P n) → P (cond t m n)
either P true m n one two = one refl
either P false m n one two = two refl

pub second_from : (x y : ℕ) → Second x y → is_second x y ≡ true
second_from x y s = range_from (second_byte_min x) (second_byte_max x) y
    (either (λ n. n ≤ y) (x == 224) 160 (cond (x == 240) 144 128) (λ e. s.least_three (eqb-true x 224 e)) (λ e. either (λ n. n ≤ y) (x == 240) 144 128 (λ f. s.least_four (eqb-true x 240 f)) (λ f. s.follow.0)))
    (either (λ n. y ≤ n) (x == 237) 159 (cond (x == 244) 143 191) (λ e. let k = s.no_surrogate (eqb-true x 237 e) in omega arith) (λ e. either (λ n. y ≤ n) (x == 244) 143 191 (λ f. let k = s.greatest (eqb-true x 244 f) in omega arith) (λ f. let k = s.follow.1 in omega arith)))

pub second_parts : (x y : ℕ) → is_second x y ≡ true → Second x y
second_parts x y h =
    let both = range_parts (second_byte_min x) (second_byte_max x) y h in
    let low : 128 ≤ second_byte_min x = either (λ n. 128 ≤ n) (x == 224) 160 (cond (x == 240) 144 128) (λ e. omega arith) (λ e. either (λ n. 128 ≤ n) (x == 240) 144 128 (λ f. omega arith) (λ f. omega arith)) in
    let high : second_byte_max x < 192 = either (λ n. n < 192) (x == 237) 159 (cond (x == 244) 143 191) (λ e. omega arith) (λ e. either (λ n. n < 192) (x == 244) 143 191 (λ f. omega arith) (λ f. omega arith)) in
    record {
      follow = (omega arith, omega arith);
      least_three = λ e. subst (λ (v : ℕ). second_byte_min v ≤ y) e both.0;
      no_surrogate = λ e. let k : y ≤ 159 = subst (λ (v : ℕ). y ≤ second_byte_max v) e both.1 in omega arith;
      least_four = λ e. subst (λ (v : ℕ). second_byte_min v ≤ y) e both.0;
      greatest = λ e. let k : y ≤ 143 = subst (λ (v : ℕ). y ≤ second_byte_max v) e both.1 in omega arith;
    }

-- ---- what a character is written as

one : (c : ℕ) → c < 128 → encode c ≡ c ∷ []
unfolding encode
one c h = cond-true (nat_lt c 128) _ _ (lt-ltb c 128 h)

two : (c : ℕ) → 128 ≤ c → c < 2048 → encode c ≡ (192 + c / 64) ∷ next c ∷ []
unfolding encode
two c l h = cond-false (nat_lt c 128) _ _ (le-ltb c 128 l) ∙ cond-true (nat_lt c 2048) _ _ (lt-ltb c 2048 h)

three : (c : ℕ) → 2048 ≤ c → c < 65536 → encode c ≡ (224 + c / 4096) ∷ next (c / 64) ∷ next c ∷ []
unfolding encode
three c l h =
    cond-false (nat_lt c 128) _ _ (le-ltb c 128 (omega arith)) ∙ cond-false (nat_lt c 2048) _ _ (le-ltb c 2048 l)
    ∙ cond-true (nat_lt c 65536) _ _ (lt-ltb c 65536 h)

four : (c : ℕ) → 65536 ≤ c → encode c ≡ (240 + c / 262144) ∷ next (c / 4096) ∷ next (c / 64) ∷ next c ∷ []
unfolding encode
four c l =
    cond-false (nat_lt c 128) _ _ (le-ltb c 128 (omega arith)) ∙ cond-false (nat_lt c 2048) _ _ (le-ltb c 2048 (omega arith))
    ∙ cond-false (nat_lt c 65536) _ _ (le-ltb c 65536 l)

pub data Shape (c : ℕ) : Type 0 where
  of1 : c < 128 → encode c ≡ c ∷ [] → Shape c
  of2 : (a b : ℕ) → 194 ≤ a → a < 224 → Second a b → encode c ≡ a ∷ b ∷ [] → Shape c
  of3 : (a b d : ℕ) → 224 ≤ a → a < 240 → Second a b → Follows d → encode c ≡ a ∷ b ∷ d ∷ [] → Shape c
  of4 : (a b d e : ℕ) → 240 ≤ a → a < 245 → Second a b → Follows d → Follows e → encode c ≡ a ∷ b ∷ d ∷ e ∷ [] → Shape c

followed : (x : ℕ) → Follows (next x)
followed x = (omega arith, omega arith)

shape : (c : ℕ) → (c < 55296) ⊎ ((57344 ≤ c) × (c < 1114112)) → Shape c
shape c s = by (cases_lt c 128) (cases_lt c 2048) (cases_lt c 65536)
  where
    top : c < 1114112
    top = elim s [ inl h ↦ omega arith | inr h ↦ h.1 ]

    no_surrogate : (m n : ℕ) → c < m → n ≤ c → 55296 ≤ n → m ≤ 57344 → ⊥
    no_surrogate m n h l k j = elim s [ inl p ↦ omega arith | inr p ↦ let q = p.0 in omega arith ]

    by : (c < 128) ⊎ (128 ≤ c) → (c < 2048) ⊎ (2048 ≤ c) → (c < 65536) ⊎ (65536 ≤ c) → Shape c
    by (inl h) _ _ = of1 h (one c h)
    by (inr l) (inl h) _ = of2 (192 + c / 64) (next c) (omega arith) (omega arith) (record {
      follow = followed c;
      least_three = λ e. absurd (omega arith);
      no_surrogate = λ e. absurd (omega arith);
      least_four = λ e. absurd (omega arith);
      greatest = λ e. absurd (omega arith);
    }) (two c l h)
    by (inr _) (inr l) (inl h) = of3 (224 + c / 4096) (next (c / 64)) (next c) (omega arith) (omega arith) (record {
      follow = followed (c / 64);
      least_three = λ e. omega arith;
      no_surrogate = λ e. elim s [ inl p ↦ omega arith | inr p ↦ let q = p.0 in absurd (omega arith) ];
      least_four = λ e. absurd (omega arith);
      greatest = λ e. absurd (omega arith);
    }) (followed c) (three c l h)
    by (inr _) (inr _) (inr l) =
        let most = top in of4 (240 + c / 262144) (next (c / 4096)) (next (c / 64)) (next c) (omega arith) (omega arith) (record {
          follow = followed (c / 4096);
          least_three = λ e. absurd (omega arith);
          no_surrogate = λ e. absurd (omega arith);
          least_four = λ e. omega arith;
          greatest = λ e. omega arith;
        }) (followed (c / 64)) (followed c) (four c l)

-- text that is not empty begins with a character
first_char : (bs : List ℕ) → 0 < length bs → IsUtf8 bs → (c : ℕ) × (r : List ℕ) × Shape c × (bs ≡ encode c ++ r)
first_char bs some text = at text.0 text.1.0 text.1.1
  where
    at : (cs : List ℕ) → scalars cs ≡ true → encodes cs ≡ bs → (c : ℕ) × (r : List ℕ) × Shape c × (bs ≡ encode c ++ r)
    at [] h e = absurd (omega (arith, ap length e))
    at (c ∷ cs) h e = (c, encodes cs, shape c (scalar_cases c (and_parts (scalar c) (scalars cs) h).0), sym e)

shape_fits : (c : ℕ) → Shape c → list_all (λ b. nat_lt b 256) (encode c) ≡ true
shape_fits c (of1 h is) = rw is (and_from (nat_lt c 256) true (lt-ltb c 256 (omega arith)) refl)
shape_fits c (of2 a b low high second is) =
    let follow = second.follow in
    rw is (and_from (nat_lt a 256) _ (lt-ltb a 256 (omega arith)) (and_from (nat_lt b 256) true (lt-ltb b 256 (omega arith)) refl))
shape_fits c (of3 a b d low high second follow is) =
    let next = second.follow in
    rw is (and_from (nat_lt a 256) _ (lt-ltb a 256 (omega arith)) (and_from (nat_lt b 256) _ (lt-ltb b 256 (omega arith)) (and_from (nat_lt d 256) true (lt-ltb d 256 (omega arith)) refl)))
shape_fits c (of4 a b d e low high second third fourth is) =
    let next = second.follow in
    rw is (and_from (nat_lt a 256) _ (lt-ltb a 256 (omega arith)) (and_from (nat_lt b 256) _ (lt-ltb b 256 (omega arith)) (and_from (nat_lt d 256) _ (lt-ltb d 256 (omega arith)) (and_from (nat_lt e 256) true (lt-ltb e 256 (omega arith)) refl))))

-- text is bytes
pub text_fits : (bs : List ℕ) → IsUtf8 bs → list_all (λ b. nat_lt b 256) bs ≡ true
text_fits bs text = subst (λ (xs : List ℕ). list_all (λ b. nat_lt b 256) xs ≡ true) text.1.1 (all text.0 text.1.0)
  where
    all : (cs : List ℕ) → scalars cs ≡ true → list_all (λ b. nat_lt b 256) (encodes cs) ≡ true
    all [] h = refl
    all (c ∷ cs) h =
        let both = and_parts (scalar c) (scalars cs) h in
        list_all-append (λ b. nat_lt b 256) (encode c) (encodes cs) ∙ and_from (list_all (λ b. nat_lt b 256) (encode c)) (list_all (λ b. nat_lt b 256) (encodes cs)) (shape_fits c (shape c (scalar_cases c both.0))) (all cs both.1)

-- ---- one byte more

-- bytes that begin a character and are none
abbrev pub IsOpen : List ℕ → Type 0
IsOpen bytes = (begins_char bytes ≡ true) × (is_char bytes ≡ false)

nth : (n : ℕ) (xs ys : List ℕ) → xs ≡ ys → get_or xs n 0 ≡ get_or ys n 0
nth n xs ys e = ap (λ (l : List ℕ). get_or l n 0) e

pub low_size : (x : ℕ) → x < 128 → char_size x ≡ 1
low_size x h = cond-true (nat_lt x 128) 1 _ (lt-ltb x 128 h)

pub two_size : (x : ℕ) → 128 ≤ x → x < 224 → char_size x ≡ 2
two_size x l h = cond-false (nat_lt x 128) 1 _ (le-ltb x 128 l) ∙ cond-true (nat_lt x 224) 2 _ (lt-ltb x 224 h)

pub three_size : (x : ℕ) → 224 ≤ x → x < 240 → char_size x ≡ 3
three_size x l h =
    cond-false (nat_lt x 128) 1 _ (le-ltb x 128 (omega arith)) ∙ cond-false (nat_lt x 224) 2 _ (le-ltb x 224 l)
    ∙ cond-true (nat_lt x 240) 3 _ (lt-ltb x 240 h)

four_size : (x : ℕ) → 240 ≤ x → char_size x ≡ 4
four_size x l =
    cond-false (nat_lt x 128) 1 _ (le-ltb x 128 (omega arith)) ∙ cond-false (nat_lt x 224) 2 _ (le-ltb x 224 (omega arith))
    ∙ cond-false (nat_lt x 240) 3 4 (le-ltb x 240 l)

-- an open one has not so many bytes
pub not_size : (n k x : ℕ) → (n == char_size x) ≡ false → char_size x ≡ k → n ≡ k → ⊥
not_size n k x broken is same = eqb-false n (char_size x) broken (same ∙ sym is)

lead_after : (b : ℕ) (rest : List ℕ) → IsUtf8 (b ∷ rest) → begins_char (b ∷ []) ≡ true
lead_after b rest text = let f = first_char (b ∷ rest) (omega arith) text in at f.0 f.1 f.2 f.3
  where
    lead : (a : ℕ) → 194 ≤ a → a < 245 → b ≡ a → begins_char (b ∷ []) ≡ true
    lead a l h e = or_right (nat_lt b 128) (is_lead b) (range_from 194 244 b (omega arith) (omega arith))

    at : (c : ℕ) (r : List ℕ) → Shape c → b ∷ rest ≡ encode c ++ r → begins_char (b ∷ []) ≡ true
    at c r (of1 h is) e =
        let k : b ≡ c = nth 0 (b ∷ rest) (c ∷ r) (e ∙ ap (λ (l : List ℕ). l ++ r) is) in or_left (nat_lt b 128) (is_lead b) (lt-ltb b 128 (omega arith))
    at c r (of2 a y l h s is) e = lead a l (omega arith) (nth 0 (b ∷ rest) (a ∷ y ∷ r) (e ∙ ap (λ (l : List ℕ). l ++ r) is))
    at c r (of3 a y z l h s f is) e = lead a (omega arith) (omega arith) (nth 0 (b ∷ rest) (a ∷ y ∷ z ∷ r) (e ∙ ap (λ (l : List ℕ). l ++ r) is))
    at c r (of4 a y z w l h s f g is) e = lead a (omega arith) h (nth 0 (b ∷ rest) (a ∷ y ∷ z ∷ w ∷ r) (e ∙ ap (λ (l : List ℕ). l ++ r) is))

second_after : (x b : ℕ) (rest : List ℕ) → IsOpen (x ∷ []) → IsUtf8 (x ∷ b ∷ rest) → begins_char (x ∷ b ∷ []) ≡ true
second_after x b rest broken text = let f = first_char (x ∷ b ∷ rest) (omega arith) text in at f.0 f.1 f.2 f.3
  where
    follow : (a y : ℕ) → 194 ≤ a → a < 245 → Second a y → x ≡ a → b ≡ y → begins_char (x ∷ b ∷ []) ≡ true
    follow a y l h s e f =
        let second : Second x b = subst (λ (v : ℕ). Second v b) (sym e) (subst (λ (v : ℕ). Second a v) (sym f) s) in
        and_from (is_lead x) (is_second x b) (range_from 194 244 x (omega arith) (omega arith)) (second_from x b second)

    at : (c : ℕ) (r : List ℕ) → Shape c → x ∷ b ∷ rest ≡ encode c ++ r → begins_char (x ∷ b ∷ []) ≡ true
    at c r (of1 h is) e =
        let k : x ≡ c = nth 0 (x ∷ b ∷ rest) (c ∷ r) (e ∙ ap (λ (l : List ℕ). l ++ r) is) in absurd (not_size 1 1 x broken.1 (low_size x (omega arith)) refl)
    at c r (of2 a y l h s is) e =
        let k = e
        ∙ ap (λ (l : List ℕ). l ++ r) is in follow a y l (omega arith) s (nth 0 (x ∷ b ∷ rest) (a ∷ y ∷ r) k) (nth 1 (x ∷ b ∷ rest) (a ∷ y ∷ r) k)
    at c r (of3 a y z l h s f is) e =
        let k = e
        ∙ ap (λ (l : List ℕ). l ++ r) is in follow a y (omega arith) (omega arith) s (nth 0 (x ∷ b ∷ rest) (a ∷ y ∷ z ∷ r) k) (nth 1 (x ∷ b ∷ rest) (a ∷ y ∷ z ∷ r) k)
    at c r (of4 a y z w l h s f g is) e =
        let k = e
        ∙ ap (λ (l : List ℕ). l ++ r) is in follow a y (omega arith) h s (nth 0 (x ∷ b ∷ rest) (a ∷ y ∷ z ∷ w ∷ r) k) (nth 1 (x ∷ b ∷ rest) (a ∷ y ∷ z ∷ w ∷ r) k)

third_after : (x y b : ℕ) (rest : List ℕ) → IsOpen (x ∷ y ∷ []) → IsUtf8 (x ∷ y ∷ b ∷ rest) → begins_char (x ∷ y ∷ b ∷ []) ≡ true
third_after x y b rest broken text = let f = first_char (x ∷ y ∷ b ∷ rest) (omega arith) text in at f.0 f.1 f.2 f.3
  where
    both : (is_lead x ≡ true) × (is_second x y ≡ true)
    both = and_parts (is_lead x) (is_second x y) broken.0

    lead : (194 ≤ x) × (x ≤ 244)
    lead = range_parts 194 244 x both.0

    follow : (a d : ℕ) → 224 ≤ a → Follows d → x ≡ a → b ≡ d → begins_char (x ∷ y ∷ b ∷ []) ≡ true
    follow a d l f e g =
        let most = lead.1 in
        and_from (is_in_range 224 244 x && is_second x y) (follows b) (and_from (is_in_range 224 244 x) (is_second x y) (range_from 224 244 x (omega arith) most) both.1) (follow_from b (subst Follows (sym g) f))

    at : (c : ℕ) (r : List ℕ) → Shape c → x ∷ y ∷ b ∷ rest ≡ encode c ++ r → begins_char (x ∷ y ∷ b ∷ []) ≡ true
    at c r (of1 h is) e =
        let k : x ≡ c = nth 0 (x ∷ y ∷ b ∷ rest) (c ∷ r) (e ∙ ap (λ (l : List ℕ). l ++ r) is) in let least = lead.0 in absurd (omega arith)
    at c r (of2 a d l h s is) e =
        let k : x ≡ a = nth 0 (x ∷ y ∷ b ∷ rest) (a ∷ d ∷ r) (e ∙ ap (λ (l : List ℕ). l ++ r) is) in absurd (not_size 2 2 x broken.1 (two_size x (omega arith) (omega arith)) refl)
    at c r (of3 a d z l h s f is) e =
        let k = e
        ∙ ap (λ (l : List ℕ). l ++ r) is in follow a z l f (nth 0 (x ∷ y ∷ b ∷ rest) (a ∷ d ∷ z ∷ r) k) (nth 2 (x ∷ y ∷ b ∷ rest) (a ∷ d ∷ z ∷ r) k)
    at c r (of4 a d z w l h s f g is) e =
        let k = e
        ∙ ap (λ (l : List ℕ). l ++ r) is in follow a z (omega arith) f (nth 0 (x ∷ y ∷ b ∷ rest) (a ∷ d ∷ z ∷ w ∷ r) k) (nth 2 (x ∷ y ∷ b ∷ rest) (a ∷ d ∷ z ∷ w ∷ r) k)

-- three bytes that begin a character
pub three_parts : (x y z : ℕ) → begins_char (x ∷ y ∷ z ∷ []) ≡ true → (224 ≤ x) × (x ≤ 244) × Second x y × Follows z
three_parts x y z h =
    let two = and_parts (is_in_range 224 244 x && is_second x y) (follows z) h in
    let one = and_parts (is_in_range 224 244 x) (is_second x y) two.0 in
    let lead = range_parts 224 244 x one.0 in
    (lead.0, lead.1, second_parts x y one.1, follow_parts z two.1)

pub three_from : (x y z : ℕ) → 224 ≤ x → x ≤ 244 → Second x y → Follows z → begins_char (x ∷ y ∷ z ∷ []) ≡ true
three_from x y z l h s f =
    and_from (is_in_range 224 244 x && is_second x y) (follows z) (and_from (is_in_range 224 244 x) (is_second x y) (range_from 224 244 x l h) (second_from x y s)) (follow_from z f)

four_parts : (x y z w : ℕ) → begins_char (x ∷ y ∷ z ∷ w ∷ []) ≡ true → (240 ≤ x) × (x ≤ 244) × Second x y × Follows z × Follows w
four_parts x y z w h =
    let three = and_parts (is_in_range 240 244 x && is_second x y && follows z) (follows w) h in
    let two = and_parts (is_in_range 240 244 x && is_second x y) (follows z) three.0 in
    let one = and_parts (is_in_range 240 244 x) (is_second x y) two.0 in
    let lead = range_parts 240 244 x one.0 in
    (lead.0, lead.1, second_parts x y one.1, follow_parts z two.1, follow_parts w three.1)

pub four_from : (x y z w : ℕ) → 240 ≤ x → x ≤ 244 → Second x y → Follows z → Follows w → begins_char (x ∷ y ∷ z ∷ w ∷ []) ≡ true
four_from x y z w l h s f g =
    and_from (is_in_range 240 244 x && is_second x y && follows z) (follows w)
    (and_from (is_in_range 240 244 x && is_second x y) (follows z) (and_from (is_in_range 240 244 x) (is_second x y) (range_from 240 244 x l h) (second_from x y s)) (follow_from z f)) (follow_from w g)

fourth_after : (x y z b : ℕ) (rest : List ℕ) → IsOpen (x ∷ y ∷ z ∷ []) → IsUtf8 (x ∷ y ∷ z ∷ b ∷ rest) → begins_char (x ∷ y ∷ z ∷ b ∷ []) ≡ true
fourth_after x y z b rest broken text = let f = first_char (x ∷ y ∷ z ∷ b ∷ rest) (omega arith) text in at f.0 f.1 f.2 f.3
  where
    was : (224 ≤ x) × (x ≤ 244) × Second x y × Follows z
    was = three_parts x y z broken.0

    at : (c : ℕ) (r : List ℕ) → Shape c → x ∷ y ∷ z ∷ b ∷ rest ≡ encode c ++ r → begins_char (x ∷ y ∷ z ∷ b ∷ []) ≡ true
    at c r (of1 h is) e =
        let k : x ≡ c = nth 0 (x ∷ y ∷ z ∷ b ∷ rest) (c ∷ r) (e ∙ ap (λ (l : List ℕ). l ++ r) is) in let least = was.0 in absurd (omega arith)
    at c r (of2 a d l h s is) e =
        let k : x ≡ a = nth 0 (x ∷ y ∷ z ∷ b ∷ rest) (a ∷ d ∷ r) (e ∙ ap (λ (l : List ℕ). l ++ r) is) in let least = was.0 in absurd (omega arith)
    at c r (of3 a d v l h s f is) e =
        let k : x ≡ a = nth 0 (x ∷ y ∷ z ∷ b ∷ rest) (a ∷ d ∷ v ∷ r) (e ∙ ap (λ (l : List ℕ). l ++ r) is) in absurd (not_size 3 3 x broken.1 (three_size x (omega arith) (omega arith)) refl)
    at c r (of4 a d v w l h s f g is) e =
        let k = e ∙ ap (λ (l : List ℕ). l ++ r) is in
        let first : x ≡ a = nth 0 (x ∷ y ∷ z ∷ b ∷ rest) (a ∷ d ∷ v ∷ w ∷ r) k in
        let last : b ≡ w = nth 3 (x ∷ y ∷ z ∷ b ∷ rest) (a ∷ d ∷ v ∷ w ∷ r) k in
        four_from x y z b (omega arith) was.1 was.2 was.3 (subst Follows (sym last) g)

pub no_four : (x y z w : ℕ) → IsOpen (x ∷ y ∷ z ∷ w ∷ []) → ⊥
no_four x y z w broken = not_size 4 4 x broken.1 (four_size x (four_parts x y z w broken.0).0) refl

-- nothing, or bytes that begin a character and are none
abbrev pub IsBroken : List ℕ → Type 0
IsBroken [] = Unit {0}
IsBroken (x ∷ p) = IsOpen (x ∷ p)

pub char_goes_on : (p : List ℕ) (b : ℕ) (rest : List ℕ) → IsBroken p → IsUtf8 (p ++ b ∷ rest) → begins_char (p ++ b ∷ []) ≡ true
char_goes_on [] b rest broken text = lead_after b rest text
char_goes_on (x ∷ []) b rest broken text = second_after x b rest broken text
char_goes_on (x ∷ y ∷ []) b rest broken text = third_after x y b rest broken text
char_goes_on (x ∷ y ∷ z ∷ []) b rest broken text = fourth_after x y z b rest broken text
char_goes_on (x ∷ y ∷ z ∷ w ∷ []) b rest broken text = absurd (no_four x y z w broken)
char_goes_on (x ∷ y ∷ z ∷ w ∷ v ∷ p) b rest broken text = absurd (let k = broken.0 in cc)

-- ---- a whole character

spelled : (c : ℕ) (p : List ℕ) → scalar c ≡ true → p ≡ encode c → IsUtf8 p
spelled c p s e = subst IsUtf8 (sym e) (IsUtf8-encode c s)

high_scalar : (c : ℕ) → 57344 ≤ c → c < 1114112 → scalar c ≡ true
high_scalar c l h =
    cond-false (nat_lt c 55296) true _ (le-ltb c 55296 (omega arith))
    ∙ and_from (nat_le 57344 c) (nat_lt c 1114112) (le-leb 57344 c l) (lt-ltb c 1114112 h)

whole_one : (x : ℕ) → x < 128 → IsUtf8 (x ∷ [])
whole_one x h = spelled x (x ∷ []) (low_scalar x (omega arith)) (sym (one x h))

whole_two : (x y : ℕ) → 194 ≤ x → x < 224 → Follows y → IsUtf8 (x ∷ y ∷ [])
whole_two x y l h f =
    let c = (x - 192) * 64 + (y - 128) in
    let p : x ≡ 192 + c / 64 = omega arith in
    let q : y ≡ next c = omega arith in
    spelled c (x ∷ y ∷ []) (low_scalar c (omega arith)) ((λ k. p k ∷ q k ∷ []) ∙ sym (two c (omega arith) (omega arith)))

whole_three : (x y z : ℕ) → 224 ≤ x → x < 240 → Second x y → Follows z → IsUtf8 (x ∷ y ∷ z ∷ [])
whole_three x y z l h s f =
    let c = (x - 224) * 4096 + (y - 128) * 64 + (z - 128) in
    let g = s.follow in
    let p : x ≡ 224 + c / 4096 = omega arith in
    let q : y ≡ next (c / 64) = omega arith in
    let r : z ≡ next c = omega arith in
    let least : 2048 ≤ c = elim (cases_lt x 225) [ inl u ↦ let k = s.least_three (omega arith) in omega arith | inr u ↦ omega arith ] in
    let is : scalar c ≡ true = elim (cases_lt x 237) [
      | inl u ↦ low_scalar c (omega arith)
      | inr u ↦ elim (cases_lt x 238) [
        | inl v ↦ let k = s.no_surrogate (omega arith) in low_scalar c (omega arith)
        | inr v ↦ high_scalar c (omega arith) (omega arith)
      ]
    ] in
    spelled c (x ∷ y ∷ z ∷ []) is ((λ k. p k ∷ q k ∷ r k ∷ []) ∙ sym (three c least (omega arith)))

whole_four : (x y z w : ℕ) → 240 ≤ x → x ≤ 244 → Second x y → Follows z → Follows w → IsUtf8 (x ∷ y ∷ z ∷ w ∷ [])
whole_four x y z w l h s f g =
    let c = (x - 240) * 262144 + (y - 128) * 4096 + (z - 128) * 64 + (w - 128) in
    let j = s.follow in
    let p : x ≡ 240 + c / 262144 = omega arith in
    let q : y ≡ next (c / 4096) = omega arith in
    let e : c / 64 ≡ (x - 240) * 4096 + (y - 128) * 64 + (z - 128) = omega arith in
    let r : z ≡ next (c / 64) = subst (λ (m : ℕ). z ≡ next m) (sym e) (omega arith) in
    let t : w ≡ next c = omega arith in
    let least : 65536 ≤ c = elim (cases_lt x 241) [ inl u ↦ let k = s.least_four (omega arith) in omega arith | inr u ↦ omega arith ] in
    let most : c < 1114112 = elim (cases_lt x 244) [ inl u ↦ omega arith | inr u ↦ let k = s.greatest (omega arith) in omega arith ] in
    spelled c (x ∷ y ∷ z ∷ w ∷ []) (high_scalar c (omega arith) most) ((λ k. p k ∷ q k ∷ r k ∷ t k ∷ []) ∙ sym (four c least))

-- how many bytes there are, and what the first is then
size_is : (n x : ℕ) → (n == char_size x) ≡ true → char_size x ≡ n
size_is n x h = sym (eqb-true n (char_size x) h)

pub whole_char : (p : List ℕ) → begins_char p ≡ true → is_char p ≡ true → IsUtf8 p
whole_char [] begins is = absurd cc
whole_char (x ∷ []) begins is = elim (cases_lt x 128) [
  | inl h ↦ whole_one x h
  | inr h ↦ absurd (elim (cases_lt x 224) [
    | inl k ↦ let a = size_is 1 x is in let b = two_size x h k in omega arith
    | inr k ↦ elim (cases_lt x 240) [
      | inl m ↦ let a = size_is 1 x is in let b = three_size x k m in omega arith
      | inr m ↦ let a = size_is 1 x is in let b = four_size x m in omega arith
    ]
  ])
]
whole_char (x ∷ y ∷ []) begins is =
    let both = and_parts (is_lead x) (is_second x y) begins in
    let lead = range_parts 194 244 x both.0 in
    elim (cases_lt x 224) [
      | inl k ↦ whole_two x y lead.0 k (second_parts x y both.1).follow
      | inr k ↦ absurd (elim (cases_lt x 240) [
        | inl m ↦ let a = size_is 2 x is in let b = three_size x k m in omega arith
        | inr m ↦ let a = size_is 2 x is in let b = four_size x m in omega arith
      ])
    ]
whole_char (x ∷ y ∷ z ∷ []) begins is =
    let all = three_parts x y z begins in
    elim (cases_lt x 240) [
      | inl m ↦ whole_three x y z all.0 m all.2 all.3
      | inr m ↦ absurd (let a = size_is 3 x is in let b = four_size x m in omega arith)
    ]
whole_char (x ∷ y ∷ z ∷ w ∷ []) begins is = let all = four_parts x y z w begins in whole_four x y z w all.0 all.1 all.2 all.3 all.4
whole_char (x ∷ y ∷ z ∷ w ∷ v ∷ p) begins is = absurd cc
