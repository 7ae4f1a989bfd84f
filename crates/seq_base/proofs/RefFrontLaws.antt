-- Fronts of names of refs: a name goes on with no byte but those that the test lets through, and with each of these some name does.
use Rattle.std.proofs.Common.{◌≡◌, ℕ, ◌+◌, ◌<◌, ◌≤◌, ◌&&◌, ◌==◌, not, nat_eq, nat_lt, Bool, true, false, codes, List, [], ◌∷◌, ◌++◌, length, take, drop, get_or, Some, None, inl, inr, refl, sym, ap, subst, ◌∙◌, append_assoc, length-append, arith}
use Rattle.std.specs.Prelude.{slice_index}
use Rattle.std.specs.List.{list_all, starts_with, ends_with, onto_first}
use Rattle.std.specs.Str.{IsUtf8, bytes_eq}
use Rattle.std.proofs.lemmas.Bool.{and_parts, and_from, cases_Bool, or_cases, or_left, or_right, or_parts, not-true, not_from_false, cond-true, cond-false, eqb-true, eq-eqb, ne_eqb, le-ltb, lt-ltb, false_from_ne_true, both_ways}
use Rattle.std.proofs.lemmas.List.{append-nil, take-append-drop, take-append-le, take_more}
use Rattle.std.proofs.lemmas.List.Folds.{list_all-append}
use Rattle.std.proofs.lemmas.Slice.Eq.{bytes_eq-Decides}
use Rattle.std.proofs.lemmas.Str.{IsUtf8-append, IsUtf8-drop, IsCharBoundary-from_take}
use Rattle.std.proofs.Math.Seq.{drop-append_seam, take-append_seam}
use Rattle.seq_base.specs.declared.ref_front.RefFront.{RefFront}
use Rattle.seq_base.specs.Paths.{parts}
use Rattle.seq_base.specs.RefNames.{IsBadInRefName, IsRefName, has_pair, is_below_refs, is_ref_byte, is_ref_name, is_ref_part}
use Rattle.seq_base.specs.RefNameFronts.{begins_char, begins_name, behind, follows, goes_on, may_follow, next_part, next_text}
use Rattle.seq_base.specs.StorePaths.{is_text}
use Rattle.seq_base.proofs.CharFronts.{char_goes_on, range_parts}
use Rattle.seq_base.proofs.CharEnds.{End, char_ends}
use Rattle.seq_base.proofs.Pairs.{last_of, no_end, pair-append, pair-front, pair-push}
use Rattle.seq_base.proofs.Places.{parts-behind}
use Rattle.seq_base.proofs.RefFronts.{Below, BytesFront, PartsFront, Stands, before, below, goes_is, has_no_slash, keeps, one_part, parts_of, some_seen, stands_behind}
use Rattle.seq_base.proofs.RefPaths.{BelowRefs, behind_front, below_refs}
use Rattle.seq_base.proofs.Texts.{is_text-utf8, utf8-is_text}

-- ---- what a name goes on with

-- text behind text is text
text_behind : (done rest : List ℕ) → IsUtf8 done → IsUtf8 (done ++ rest) → IsUtf8 rest
text_behind done rest front whole =
    let bound = IsCharBoundary-from_take (done ++ rest) (length done) whole (omega (arith, length-append done rest)) (subst IsUtf8 (sym (take-append_seam done rest)) front) in
    subst IsUtf8 (drop-append_seam done rest) (IsUtf8-drop (done ++ rest) (length done) whole bound)

-- a part that begins with a dot is none of a ref
hidden : (rest : List ℕ) → list_all is_ref_part (parts (46 ∷ rest)) ≡ true → ⊥
hidden rest h = at (parts rest) h
  where
    shown : (part : List ℕ) → is_ref_part part ≡ true → not (slice_index part 0 == 46) ≡ true
    shown part is =
        (and_parts (not (length part == 0)) (not (slice_index part 0 == 46)) (and_parts (not (length part == 0) && not (slice_index part 0 == 46)) (not (ends_with nat_eq part (codes ".lock"))) is).0).1

    at : (ps : List (List ℕ)) → list_all is_ref_part (onto_first 46 ps) ≡ true → ⊥
    at [] all = let k = shown (46 ∷ []) (and_parts (is_ref_part (46 ∷ [])) true all).0 in cc
    at (p ∷ ps) all = let k = shown (46 ∷ p) (and_parts (is_ref_part (46 ∷ p)) (list_all is_ref_part ps) all).0 in cc

-- the parts of a name that goes on behind its last slash
parts_behind : (seen : List ℕ) (rest : List ℕ) (n : ℕ) (p : PartsFront n seen) → list_all is_ref_part (parts (seen ++ rest)) ≡ true
    → list_all is_ref_part (parts (p.last ++ rest)) ≡ true
parts_behind seen rest n p h =
    let split : parts (seen ++ rest) ≡ parts p.above ++ parts (p.last ++ rest) = ap (λ (l : List ℕ). parts (l ++ rest)) p.split ∙ ap parts (append_assoc p.above (47 ∷ p.last) rest) ∙ parts-behind p.above (p.last ++ rest) in
    (and_parts (list_all is_ref_part (parts p.above)) (list_all is_ref_part (parts (p.last ++ rest))) (sym (ap (list_all is_ref_part) split ∙ list_all-append is_ref_part (parts p.above) (parts (p.last ++ rest))) ∙ h)).1

keeps_in_name : (seen : List ℕ) (b : ℕ) (rest : List ℕ) (n : ℕ) (p : PartsFront n seen) → list_all is_ref_part (parts (seen ++ b ∷ rest)) ≡ true
    → keeps p.last b ≡ true
keeps_in_name seen b rest n p h = elim (cases_Bool (b == 47)) [
  | inl slash ↦
      let at_slash : list_all is_ref_part (parts (p.last ++ 47 ∷ rest)) ≡ true = subst (λ (c : ℕ). list_all is_ref_part (parts (p.last ++ c ∷ rest)) ≡ true) (eqb-true b 47 slash) behind in
      let split : parts (p.last ++ 47 ∷ rest) ≡ p.last ∷ parts rest = parts-behind p.last rest ∙ ap (λ (ps : List (List ℕ)). ps ++ parts rest) (one_part p.last p.plain) in
      cond-true (b == 47) _ _ slash ∙ (and_parts (is_ref_part p.last) (list_all is_ref_part (parts rest)) (sym (ap (list_all is_ref_part) split) ∙ at_slash)).0
  | inr other ↦ cond-false (b == 47) _ _ other ∙ not_from_false _ (false_from_ne_true (length p.last == 0 && b == 46) (λ is.
      let both = and_parts (length p.last == 0) (b == 46) is in
      hidden rest (begun p.last (eqb-true (length p.last) 0 both.0) (subst (λ (c : ℕ). list_all is_ref_part (parts (p.last ++ c ∷ rest)) ≡ true) (eqb-true b 46 both.1) behind))))
]
  where
    behind : list_all is_ref_part (parts (p.last ++ b ∷ rest)) ≡ true
    behind = parts_behind seen (b ∷ rest) n p h

    begun : (l : List ℕ) → length l ≡ 0 → list_all is_ref_part (parts (l ++ 46 ∷ rest)) ≡ true → list_all is_ref_part (parts (46 ∷ rest)) ≡ true
    begun [] none k = k
    begun (x ∷ l) none k = absurd (omega arith)

follows_in_name : (seen : List ℕ) (b : ℕ) (rest : List ℕ) → BytesFront seen → BelowRefs (seen ++ b ∷ rest) → may_follow (last_of seen) b ≡ true
follows_in_name seen b rest f is =
    and_from (is_ref_byte b && not (last_of seen == 46 && b == 46)) (not (last_of seen == 64 && b == 123))
    (and_from (is_ref_byte b) (not (last_of seen == 46 && b == 46)) byte (apart 46 46 (not-true (has_pair 46 46 (seen ++ b ∷ rest)) is.no_dots)))
    (apart 64 123 (not-true (has_pair 64 123 (seen ++ b ∷ rest)) is.no_log))
  where
    byte : is_ref_byte b ≡ true
    byte =
        (and_parts (is_ref_byte b) (list_all is_ref_byte rest) (and_parts (list_all is_ref_byte seen) (list_all is_ref_byte (b ∷ rest)) (sym (list_all-append is_ref_byte seen (b ∷ rest)) ∙ is.bytes)).1).0

    apart : (x y : ℕ) → has_pair x y (seen ++ b ∷ rest) ≡ false → not (last_of seen == x && b == y) ≡ true
    apart x y none =
        let front : has_pair x y (seen ++ b ∷ []) ≡ false = pair-front x y (seen ++ b ∷ []) rest (ap (has_pair x y) (append_assoc seen (b ∷ []) rest) ∙ none) in
        not_from_false _ (or_parts (has_pair x y seen) (last_of seen == x && b == y) (sym (pair-push x y seen b (some_seen seen f)) ∙ front)).1

below_name : (name tail : List ℕ) → name ≡ codes "refs/" ++ tail → IsRefName name → is_below_refs name ≡ true
below_name name tail begins is = elim (or_cases (bytes_eq name (codes "HEAD")) (is_below_refs name) is) [
  | inl head ↦ absurd (let e : 114 ≡ 72 = ap (λ (l : List ℕ). get_or l 0 0) (sym begins ∙ (bytes_eq-Decides name (codes "HEAD")).0 head) in omega arith)
  | inr h ↦ h
]

-- a list that is a front of another
front_test : (front back : List ℕ) → starts_with nat_eq (front ++ back) front ≡ true
front_test front back = (bytes_eq-Decides front (take (length front) (front ++ back))).1 (sym (take-append_seam front back))

begins_word : (word front back : List ℕ) → word ≡ front ++ back → starts_with nat_eq word front ≡ true
begins_word word front back e = subst (λ (w : List ℕ). starts_with nat_eq w front ≡ true) (sym e) (front_test front back)

-- of two fronts of a list the shorter is a front of the longer
shorter : (a b x y : List ℕ) → a ++ x ≡ b ++ y → length a ≤ length b → b ≡ a ++ drop (length a) b
shorter a b x y e le =
    let cut : a ≡ take (length a) b = sym (take-append_seam a x) ∙ ap (take (length a)) e ∙ take-append-le (length a) b y le in
    sym (take-append-drop (length a) b) ∙ ap (λ (l : List ℕ). l ++ drop (length a) b) (sym cut)

-- what begins a word is no longer than it
begun_size : (word front : List ℕ) → starts_with nat_eq word front ≡ true → length front ≤ length word
begun_size word front h = let e = behind_front front word h in omega (arith, ap length e, length-append front (drop (length front) word))

begun_short : (front : List ℕ) → begins_name front ≡ true → (front ≡ codes "refs/" → ⊥) → length front ≤ 4
begun_short front h ne = elim (or_cases (starts_with nat_eq (codes "refs/") front) (starts_with nat_eq (codes "HEAD") front) h) [
  | inl refs ↦
      let e = behind_front front (codes "refs/") refs in
      at (drop (length front) (codes "refs/")) e
  | inr head ↦ begun_size (codes "HEAD") front head
]
  where
    at : (back : List ℕ) → codes "refs/" ≡ front ++ back → length front ≤ 4
    at [] e = absurd (ne (sym (append-nil front) ∙ sym e))
    at (b ∷ back) e = omega (arith, ap length e, length-append front (b ∷ back))

-- the bytes with which a name goes on pass the test
pub name_goes_on : (s : RefFront) (seen : List ℕ) (b : ℕ) (rest : List ℕ) → Stands s seen → IsRefName (seen ++ b ∷ rest)
    → goes_on s (seen ++ b ∷ []) ≡ true
name_goes_on s seen b rest (before start all begins ne) is =
    let within : nat_lt s.text (length (seen ++ b ∷ [])) ≡ true = lt-ltb s.text (length (seen ++ b ∷ [])) (omega (arith, length-append seen (b ∷ []))) in
    let size : length (seen ++ b ∷ []) ≤ 5 = let k = begun_short seen begins ne in omega (arith, length-append seen (b ∷ [])) in
    let regroup : (seen ++ b ∷ []) ++ rest ≡ seen ++ b ∷ rest = append_assoc seen (b ∷ []) rest in
    let name : begins_name (seen ++ b ∷ []) ≡ true = elim (or_cases (bytes_eq (seen ++ b ∷ rest) (codes "HEAD")) (is_below_refs (seen ++ b ∷ rest)) is) [
      | inl head ↦ or_right (starts_with nat_eq (codes "refs/") (seen ++ b ∷ [])) _ (begins_word (codes "HEAD") (seen ++ b ∷ []) rest (sym (regroup ∙ (bytes_eq-Decides (seen ++ b ∷ rest) (codes "HEAD")).0 head)))
      | inr refs ↦
          let whole : (seen ++ b ∷ []) ++ rest ≡ codes "refs/" ++ drop 5 (seen ++ b ∷ rest) = regroup ∙ behind_front (codes "refs/") (seen ++ b ∷ rest) (below_refs (seen ++ b ∷ rest) refs).begins in
          or_left _ (starts_with nat_eq (codes "HEAD") (seen ++ b ∷ [])) (begins_word (codes "refs/") (seen ++ b ∷ []) (drop (length (seen ++ b ∷ [])) (codes "refs/")) (shorter (seen ++ b ∷ []) (codes "refs/") rest (drop 5 (seen ++ b ∷ rest)) whole size))
    ] in
    and_from (nat_lt s.text (length (seen ++ b ∷ []))) _ within (cond-true (s.part == 0) (begins_name (seen ++ b ∷ [])) _ (eq-eqb s.part 0 start) ∙ name)
name_goes_on s seen b rest (below w) is =
    let name = below_refs (seen ++ b ∷ rest) (below_name (seen ++ b ∷ rest) (w.bytes.tail ++ b ∷ rest) (ap (λ (l : List ℕ). l ++ b ∷ rest) w.bytes.begins) is) in
    let whole : seen ++ b ∷ rest ≡ w.text.done ++ (w.text.broken ++ b ∷ rest) = ap (λ (l : List ℕ). l ++ b ∷ rest) w.text.split ∙ append_assoc w.text.done w.text.broken (b ∷ rest) in
    let text : IsUtf8 (w.text.broken ++ b ∷ rest) = text_behind w.text.done (w.text.broken ++ b ∷ rest) w.text.is_text (subst IsUtf8 whole (utf8-is_text (seen ++ b ∷ rest) name.text)) in
    goes_is s seen b w
    ∙ and_from (may_follow (last_of seen) b && begins_char (w.text.broken ++ b ∷ [])) (keeps w.parts_are.last b)
    (and_from (may_follow (last_of seen) b) (begins_char (w.text.broken ++ b ∷ [])) (follows_in_name seen b rest w.bytes name) (char_goes_on w.text.broken b rest w.text.is_broken text))
    (keeps_in_name seen b rest s.part w.parts_are name.parts_are)

-- ---- some name goes on

-- a name of a ref may go on with these, behind any byte
abbrev is_plain_byte : ℕ → Bool
is_plain_byte b = is_ref_byte b && not (b == 47) && not (b == 46) && not (b == 123) && nat_lt b 256

-- what is no byte from 128 on
apart : (b c : ℕ) → 128 ≤ b → c < 128 → (c == b) ≡ false
apart b c low high = ne_eqb c b (λ e. absurd (omega arith))

apart_too : (b c : ℕ) → 128 ≤ b → c < 128 → (b == c) ≡ false
apart_too b c low high = ne_eqb b c (λ e. absurd (omega arith))

high_plain : (b : ℕ) → follows b ≡ true → is_plain_byte b ≡ true
high_plain b h =
    let range = range_parts 128 191 b h in
    let low : 128 ≤ b = range.0 in
    let high = range.1 in
    rw (
      le-ltb b 33 (omega arith),
      apart_too b 127 low (omega arith),
      apart b 126 low (omega arith),
      apart b 94 low (omega arith),
      apart b 58 low (omega arith),
      apart b 63 low (omega arith),
      apart b 42 low (omega arith),
      apart b 91 low (omega arith),
      apart b 92 low (omega arith),
      apart_too b 47 low (omega arith),
      apart_too b 46 low (omega arith),
      apart_too b 123 low (omega arith),
      lt-ltb b 256 (omega arith),
    ) refl

each : (p q : ℕ → Bool) (bytes : List ℕ) → ((b : ℕ) → p b ≡ true → q b ≡ true) → list_all p bytes ≡ true → list_all q bytes ≡ true
each p q [] gives h = refl
each p q (b ∷ bytes) gives h =
    let both = and_parts (p b) (list_all p bytes) h in
    and_from (q b) (list_all q bytes) (gives b both.0) (each p q bytes gives both.1)

-- the fields of a plain byte
record Plain (b : ℕ) : Type 0 where
  byte : is_ref_byte b ≡ true
  slash : not (b == 47) ≡ true
  dot : not (b == 46) ≡ true
  brace : not (b == 123) ≡ true
  fits : nat_lt b 256 ≡ true

plain_parts : (b : ℕ) → is_plain_byte b ≡ true → Plain b
plain_parts b h =
    let four = and_parts (is_ref_byte b && not (b == 47) && not (b == 46) && not (b == 123)) (nat_lt b 256) h in
    let three = and_parts (is_ref_byte b && not (b == 47) && not (b == 46)) (not (b == 123)) four.0 in
    let two = and_parts (is_ref_byte b && not (b == 47)) (not (b == 46)) three.0 in
    let one = and_parts (is_ref_byte b) (not (b == 47)) two.0 in
    record { byte = one.0; slash = one.1; dot = two.1; brace = three.1; fits = four.1 }

-- a part that goes on so, and ends in an `a`, is one of a ref
ended_part : (last more : List ℕ) → (slice_index last 0 == 46) ≡ false → list_all is_plain_byte more ≡ true
    → is_ref_part (last ++ more ++ 97 ∷ []) ≡ true
ended_part last more shown plain =
    let whole : List ℕ = last ++ more ++ 97 ∷ [] in
    and_from (not (length whole == 0) && not (slice_index whole 0 == 46)) (not (ends_with nat_eq whole (codes ".lock")))
    (and_from (not (length whole == 0)) (not (slice_index whole 0 == 46))
    (not_from_false (length whole == 0) (ne_eqb (length whole) 0 (λ e. absurd (omega (arith, length-append (last ++ more) (97 ∷ []))))))
    (not_from_false (slice_index whole 0 == 46) (first last more shown plain)))
    (not_from_false (ends_with nat_eq whole (codes ".lock")) (no_end (last ++ more) (codes ".loc") 97 107 refl))
  where
    first : (l m : List ℕ) → (slice_index l 0 == 46) ≡ false → list_all is_plain_byte m ≡ true → (slice_index (l ++ m ++ 97 ∷ []) 0 == 46) ≡ false
    first [] [] h p = refl
    first [] (b ∷ m) h p = not-true (b == 46) (plain_parts b (and_parts (is_plain_byte b) (list_all is_plain_byte m) p).0).dot
    first (x ∷ l) m h p = h

-- a front below `refs/` with a text that ends its character, and an `a`
named_below : (s : RefFront) (front : List ℕ) (w : Below s front) (e : End w.text.broken) → IsRefName (front ++ (e.bytes ++ 97 ∷ []))
named_below s front w e =
    let t : List ℕ = e.bytes ++ 97 ∷ [] in
    let more : list_all is_plain_byte e.bytes ≡ true = each follows is_plain_byte e.bytes high_plain e.follow in
    let plain : list_all is_plain_byte t ≡ true = list_all-append is_plain_byte e.bytes (97 ∷ []) ∙ rw more refl in
    let name : List ℕ = front ++ t in
    let begins : starts_with nat_eq name (codes "refs/") ≡ true = subst (λ (l : List ℕ). starts_with nat_eq (l ++ t) (codes "refs/") ≡ true) (sym w.bytes.begins) refl in
    let split_text : name ≡ (w.text.done ++ (w.text.broken ++ e.bytes)) ++ 97 ∷ [] = ap (λ (l : List ℕ). l ++ t) w.text.split ∙ simp append_assoc in
    let text : is_text name ≡ true = is_text-utf8 name (subst IsUtf8 (sym split_text) (IsUtf8-append (w.text.done ++ (w.text.broken ++ e.bytes)) (97 ∷ []) (IsUtf8-append w.text.done (w.text.broken ++ e.bytes) w.text.is_text e.text) (utf8-is_text (97 ∷ []) refl))) in
    let bytes : list_all is_ref_byte name ≡ true = list_all-append is_ref_byte front t ∙ and_from _ _ w.bytes.bytes (each is_plain_byte is_ref_byte t (λ b h. (plain_parts b h).byte) plain) in
    let last_plain : has_no_slash (w.parts_are.last ++ t) ≡ true = list_all-append (λ b. not (b == 47)) w.parts_are.last t ∙ and_from _ _ w.parts_are.plain (each is_plain_byte (λ b. not (b == 47)) t (λ b h. (plain_parts b h).slash) plain) in
    let last_good : is_ref_part (w.parts_are.last ++ t) ≡ true = subst (λ (l : List ℕ). is_ref_part l ≡ true) (append_assoc w.parts_are.last e.bytes (97 ∷ [])) (ended_part w.parts_are.last e.bytes w.parts_are.shown more) in
    let split_parts : parts name ≡ parts w.parts_are.above ++ (w.parts_are.last ++ t) ∷ [] = ap (λ (l : List ℕ). parts (l ++ t)) w.parts_are.split ∙ ap parts (append_assoc w.parts_are.above (47 ∷ w.parts_are.last) t) ∙ parts_of w.parts_are.above (w.parts_are.last ++ t) last_plain in
    let good : list_all is_ref_part (parts name) ≡ true = ap (list_all is_ref_part) split_parts ∙ list_all-append is_ref_part (parts w.parts_are.above) ((w.parts_are.last ++ t) ∷ []) ∙ rw (w.parts_are.good, last_good) refl in
    let some = some_seen front w.bytes in
    let no_dots : has_pair 46 46 name ≡ false = pair-append 46 46 front t some w.bytes.no_dots (each is_plain_byte (λ b. not (b == 46)) t (λ b h. (plain_parts b h).dot) plain) in
    let no_log : has_pair 64 123 name ≡ false = pair-append 64 123 front t some w.bytes.no_log (each is_plain_byte (λ b. not (b == 123)) t (λ b h. (plain_parts b h).brace) plain) in
    let no_dot : ends_with nat_eq name (codes ".") ≡ false = subst (λ (l : List ℕ). ends_with nat_eq l (codes ".") ≡ false) (append_assoc front e.bytes (97 ∷ [])) (no_end (front ++ e.bytes) [] 97 46 refl) in
    or_right (bytes_eq name (codes "HEAD")) (is_below_refs name) (
    and_from _ _ (and_from _ _ (and_from _ _ (and_from _ _ (and_from _ _ (and_from _ _ begins text) bytes) good) (not_from_false _ no_dots)) (not_from_false _ no_log)) (not_from_false _ no_dot))

-- what some name has behind a front
pub record Named (front : List ℕ) : Type 0 where
  pub rest : List ℕ
  pub fits : list_all (λ b. nat_lt b 256) rest ≡ true
  pub is_name : IsRefName (front ++ rest)

-- a front of a word goes on as the word does
of_word : (word front more : List ℕ) → starts_with nat_eq word front ≡ true → list_all (λ b. nat_lt b 256) word ≡ true
    → list_all (λ b. nat_lt b 256) more ≡ true → IsRefName (word ++ more) → Named front
of_word word front more begins fits fit is =
    let e = behind_front front word begins in
    let back = drop (length front) word in
    let both : list_all (λ b. nat_lt b 256) front && list_all (λ b. nat_lt b 256) back ≡ true = sym (list_all-append (λ b. nat_lt b 256) front back) ∙ ap (list_all (λ b. nat_lt b 256)) (sym e) ∙ fits in
    record {
      rest = back ++ more;
      fits = list_all-append (λ b. nat_lt b 256) back more ∙ and_from _ _ (and_parts _ _ both).1 fit;
      is_name = subst IsRefName (ap (λ (l : List ℕ). l ++ more) e ∙ append_assoc front back more) is;
    }

pub some_name : (s : RefFront) (front : List ℕ) → Stands s front → Named front
some_name s front (before start all begins ne) =
    elim (or_cases (starts_with nat_eq (codes "refs/") front) (starts_with nat_eq (codes "HEAD") front) begins) [
      | inl refs ↦ of_word (codes "refs/") front (97 ∷ []) refs refl refl refl
      | inr head ↦ of_word (codes "HEAD") front [] head refl refl refl
    ]
some_name s front (below w) =
    let e = char_ends w.text.broken (utf8-is_text [] refl) w.text.is_broken in
    record {
      rest = e.bytes ++ 97 ∷ [];
      fits =
          list_all-append (λ b. nat_lt b 256) e.bytes (97 ∷ [])
          ∙ and_from _ _ (each follows (λ b. nat_lt b 256) e.bytes (λ b h. (plain_parts b (high_plain b h)).fits) e.follow) refl;
      is_name = named_below s front w e;
    }

-- before the first byte
pub at_start : (s : RefFront) → s.part ≡ 0 → s.text ≡ 0 → Stands s []
at_start s part text = before part text refl (λ e. absurd (omega (arith, ap length e)))

-- ---- the first fault

pub bad_byte : (s : RefFront) (name : List ℕ) (at : ℕ) → Stands s (take at name) → at < length name → goes_on s (take (at + 1) name) ≡ false
    → IsBadInRefName name at
bad_byte s name at here lt stop = record {
  within = omega arith;
  goes_on = let n = some_name s (take at name) here in (n.rest, n.is_name);
  no_further = λ l g. none g.0 g.1;
  no_name = λ is. none (drop (at + 1) name) (subst IsRefName (sym (take-append-drop (at + 1) name)) is);
}
  where
    more : take (at + 1) name ≡ take at name ++ get_or name at 0 ∷ []
    more = take_more name at 0 lt

    none : (rest : List ℕ) → IsRefName (take (at + 1) name ++ rest) → ⊥
    none rest is =
        let whole : take (at + 1) name ++ rest ≡ take at name ++ get_or name at 0 ∷ rest = ap (λ (l : List ℕ). l ++ rest) more ∙ append_assoc (take at name) (get_or name at 0 ∷ []) rest in
        let on : goes_on s (take at name ++ get_or name at 0 ∷ []) ≡ true = name_goes_on s (take at name) (get_or name at 0) rest here (subst IsRefName whole is) in
        both_ways (goes_on s (take (at + 1) name)) stop (ap (goes_on s) more ∙ on)

pub bad_end : (s : RefFront) (name : List ℕ) → Stands s (take (length name) name) → is_ref_name name ≡ false → IsBadInRefName name (length name)
bad_end s name here not_one = record {
  within = omega arith;
  goes_on = let n = some_name s (take (length name) name) here in (n.rest, n.is_name);
  no_further = λ l g. absurd (omega arith);
  no_name = λ is. both_ways (is_ref_name name) not_one is;
}

-- ---- what the code answers

pub stops : (s : RefFront) (front : List ℕ) → behind s front ≡ None → goes_on s front ≡ false
stops s front e =
    false_from_ne_true (goes_on s front) (λ on. let k : Some (record { part = next_part s front; text = next_text s front }) ≡ None = sym (cond-true (goes_on s front) _ None on) ∙ e in cc)

pub steps : (s t : RefFront) (seen : List ℕ) (b : ℕ) → behind s (seen ++ b ∷ []) ≡ Some t → Stands s seen → Stands t (seen ++ b ∷ [])
steps s t seen b e here = elim (cases_Bool (goes_on s (seen ++ b ∷ []))) [
  | inl on ↦
      let next : RefFront = record { part = next_part s (seen ++ b ∷ []); text = next_text s (seen ++ b ∷ []) } in
      let k : Some next ≡ Some t = sym (cond-true (goes_on s (seen ++ b ∷ [])) _ None on) ∙ e in
      let same : next ≡ t = cc in
      subst (λ (u : RefFront). Stands u (seen ++ b ∷ [])) same (stands_behind s next seen b on refl refl here)
  | inr off ↦ absurd (let k : None ≡ Some t = sym (cond-false (goes_on s (seen ++ b ∷ [])) _ None off) ∙ e in cc)
]

-- the same at the first bytes of a name
pub steps_at : (s t : RefFront) (name : List ℕ) (at : ℕ) → at < length name → behind s (take (at + 1) name) ≡ Some t → Stands s (take at name)
    → Stands t (take (at + 1) name)
steps_at s t name at lt e here =
    let more : take (at + 1) name ≡ take at name ++ get_or name at 0 ∷ [] = take_more name at 0 lt in
    subst (Stands t) (sym more) (steps s t (take at name) (get_or name at 0) (ap (behind s) (sym more) ∙ e) here)
