-- Fronts of names of refs: what stands behind a front, byte by byte.
use Rattle.std.proofs.Common.{◌≡◌, ◌⊎◌, ℕ, ◌+◌, ◌-◌, ◌<◌, ◌≤◌, ◌&&◌, ◌==◌, not, nat_lt, Bool, true, false, cond, codes, List, [], ◌∷◌, ◌++◌, length, take, drop, inl, inr, refl, sym, ap, subst, ◌∙◌, append_assoc, length-append, arith}
use Rattle.std.specs.Prelude.{slice_index}
use Rattle.std.specs.List.{list_all}
use Rattle.std.specs.Str.{IsUtf8, bytes_eq}
use Rattle.std.proofs.lemmas.Bool.{and_parts, cases_Bool, or_from, not-true, cond-true, cond-false, eqb-true, eq-eqb, ne_eqb, lt-ltb, both_ways}
use Rattle.std.proofs.lemmas.List.{append-nil}
use Rattle.std.proofs.lemmas.List.Folds.{list_all-append}
use Rattle.std.proofs.lemmas.Slice.Eq.{bytes_eq-Decides}
use Rattle.std.proofs.lemmas.Str.{IsUtf8-append}
use Rattle.std.proofs.Math.Seq.{drop-append_seam, take-append_seam}
use Rattle.seq_base.specs.declared.ref_front.RefFront.{RefFront}
use Rattle.seq_base.specs.Paths.{parts}
use Rattle.seq_base.specs.RefNames.{has_pair, is_ref_byte, is_ref_part}
use Rattle.seq_base.specs.RefNameFronts.{begins_char, begins_name, goes_on, goes_on_below, is_char, keeps_parts, may_follow, next_part, next_text}
use Rattle.seq_base.proofs.CharFronts.{IsBroken, whole_char}
use Rattle.seq_base.proofs.Pairs.{at-last, last-before, last_of, pair-push}
use Rattle.seq_base.proofs.Places.{parts-behind}
use Rattle.seq_base.proofs.Texts.{utf8-is_text}

abbrev pub has_no_slash : List ℕ → Bool
has_no_slash bytes = list_all (λ b. not (b == 47)) bytes

-- what is text, and a character that is broken off
pub record TextFront (n : ℕ) (front : List ℕ) : Type 0 where
  pub done : List ℕ
  pub broken : List ℕ
  pub split : front ≡ done ++ broken
  pub size : n ≡ length done
  pub is_text : IsUtf8 done
  pub is_broken : IsBroken broken

-- good parts, and the beginning of one
pub record PartsFront (n : ℕ) (front : List ℕ) : Type 0 where
  pub above : List ℕ
  pub last : List ℕ
  pub split : front ≡ above ++ 47 ∷ last
  pub size : n ≡ length above + 1
  pub good : list_all is_ref_part (parts above) ≡ true
  pub plain : has_no_slash last ≡ true
  pub shown : (slice_index last 0 == 46) ≡ false

-- bytes that may stand there
pub record BytesFront (front : List ℕ) : Type 0 where
  pub tail : List ℕ
  pub begins : front ≡ codes "refs/" ++ tail
  pub bytes : list_all is_ref_byte front ≡ true
  pub no_dots : has_pair 46 46 front ≡ false
  pub no_log : has_pair 64 123 front ≡ false

pub record Below (s : RefFront) (front : List ℕ) : Type 0 where
  pub text : TextFront s.text front
  pub parts_are : PartsFront s.part front
  pub bytes : BytesFront front

-- within HEAD or `refs/`, or below it
pub data Stands (s : RefFront) (front : List ℕ) : Type 0 where
  before : s.part ≡ 0 → s.text ≡ length front → begins_name front ≡ true → (front ≡ codes "refs/" → ⊥) → Stands s front
  below : Below s front → Stands s front

-- ---- parts

pub one_part : (bytes : List ℕ) → has_no_slash bytes ≡ true → parts bytes ≡ bytes ∷ []
one_part [] h = refl
one_part (b ∷ bytes) h =
    let both = and_parts (not (b == 47)) (has_no_slash bytes) h in
    rw (not-true (b == 47) both.0, one_part bytes both.1) refl

-- the parts above, and the last
pub parts_of : (above last : List ℕ) → has_no_slash last ≡ true → parts (above ++ 47 ∷ last) ≡ parts above ++ last ∷ []
parts_of above last plain = parts-behind above last ∙ ap (λ (ps : List (List ℕ)). parts above ++ ps) (one_part last plain)

-- the last part of a front with one byte more
last_part : (n : ℕ) (seen : List ℕ) (b : ℕ) (p : PartsFront n seen) → drop n (take (length (seen ++ b ∷ []) - 1) (seen ++ b ∷ [])) ≡ p.last
last_part n seen b p =
    let m : length (seen ++ b ∷ []) - 1 ≡ length seen = omega (arith, length-append seen (b ∷ [])) in
    let k : n ≡ length (p.above ++ 47 ∷ []) = let s = p.size in omega (arith, length-append p.above (47 ∷ [])) in
    ap (λ (j : ℕ). drop n (take j (seen ++ b ∷ []))) m ∙ ap (drop n) (take-append_seam seen (b ∷ []))
    ∙ ap (drop n) (p.split ∙ sym (append_assoc p.above (47 ∷ []) p.last)) ∙ ap (λ (j : ℕ). drop j ((p.above ++ 47 ∷ []) ++ p.last)) k
    ∙ drop-append_seam (p.above ++ 47 ∷ []) p.last

-- whether the byte ends a good part, or is no dot that would begin one
abbrev pub keeps : List ℕ → ℕ → Bool
keeps last b = cond (b == 47) (is_ref_part last) (not (length last == 0 && b == 46))

same_end : (n : ℕ) (seen : List ℕ) (b : ℕ) (p : PartsFront n seen) → (n + 1 == length (seen ++ b ∷ [])) ≡ (length p.last == 0)
same_end n seen b p = at (cases_none p.last)
  where
    size : length (seen ++ b ∷ []) ≡ n + length p.last + 1
    size = let s = p.size in omega (arith, length-append seen (b ∷ []), ap length p.split, length-append p.above (47 ∷ p.last))

    cases_none : (l : List ℕ) → (length l ≡ 0) ⊎ (length l ≡ 0 → ⊥)
    cases_none [] = inl refl
    cases_none (x ∷ l) = inr (λ e. omega arith)

    at : (length p.last ≡ 0) ⊎ (length p.last ≡ 0 → ⊥) → (n + 1 == length (seen ++ b ∷ [])) ≡ (length p.last == 0)
    at (inl e) = eq-eqb (n + 1) (length (seen ++ b ∷ [])) (omega (arith, size)) ∙ sym (eq-eqb (length p.last) 0 e)
    at (inr ne) = ne_eqb (n + 1) (length (seen ++ b ∷ [])) (λ e. ne (omega (arith, size))) ∙ sym (ne_eqb (length p.last) 0 ne)

keeps_is : (s : RefFront) (seen : List ℕ) (b : ℕ) (p : PartsFront s.part seen) → keeps_parts s (seen ++ b ∷ []) ≡ keeps p.last b
keeps_is s seen b p = rw (at-last seen b, last_part s.part seen b p, same_end s.part seen b p) refl

-- a byte more keeps the parts good
parts_more : (s : RefFront) (seen : List ℕ) (b m : ℕ) (p : PartsFront s.part seen) → keeps p.last b ≡ true
    → m ≡ cond (b == 47) (length (seen ++ b ∷ [])) s.part → PartsFront m (seen ++ b ∷ [])
parts_more s seen b m p k size = elim (cases_Bool (b == 47)) [
  | inl slash ↦
      let last_good : is_ref_part p.last ≡ true = sym (cond-true (b == 47) (is_ref_part p.last) (not (length p.last == 0 && b == 46)) slash) ∙ k in
      record {
        above = seen;
        last = [];
        split = ap (λ (c : ℕ). seen ++ c ∷ []) (eqb-true b 47 slash);
        size = size ∙ cond-true (b == 47) _ _ slash ∙ length-append seen (b ∷ []);
        good =
            ap (λ (l : List ℕ). list_all is_ref_part (parts l)) p.split ∙ ap (list_all is_ref_part) (parts_of p.above p.last p.plain)
            ∙ list_all-append is_ref_part (parts p.above) (p.last ∷ []) ∙ rw (p.good, last_good) refl;
        plain = refl;
        shown = refl;
      }
  | inr other ↦
      let no_dot : (length p.last == 0 && b == 46) ≡ false = not-true (length p.last == 0 && b == 46) (sym (cond-false (b == 47) (is_ref_part p.last) (not (length p.last == 0 && b == 46)) other) ∙ k) in
      record {
        above = p.above;
        last = p.last ++ b ∷ [];
        split = ap (λ (l : List ℕ). l ++ b ∷ []) p.split ∙ append_assoc p.above (47 ∷ p.last) (b ∷ []);
        size = size ∙ cond-false (b == 47) _ _ other ∙ p.size;
        good = p.good;
        plain = list_all-append (λ c. not (c == 47)) p.last (b ∷ []) ∙ rw (p.plain, other) refl;
        shown = first p.last p.shown no_dot;
      }
]
  where
    first : (l : List ℕ) → (slice_index l 0 == 46) ≡ false → (length l == 0 && b == 46) ≡ false → (slice_index (l ++ b ∷ []) 0 == 46) ≡ false
    first [] shown no_dot = no_dot
    first (x ∷ l) shown no_dot = shown

-- ---- text

rest_of_text : (n : ℕ) (seen : List ℕ) (b : ℕ) (t : TextFront n seen) → drop n (seen ++ b ∷ []) ≡ t.broken ++ b ∷ []
rest_of_text n seen b t =
    ap (drop n) (ap (λ (l : List ℕ). l ++ b ∷ []) t.split ∙ append_assoc t.done t.broken (b ∷ [])) ∙ ap (λ (j : ℕ). drop j (t.done ++ (t.broken ++ b ∷ []))) t.size ∙ drop-append_seam t.done (t.broken ++ b ∷ [])

text_more : (n m : ℕ) (seen : List ℕ) (b : ℕ) (t : TextFront n seen) → begins_char (t.broken ++ b ∷ []) ≡ true
    → m ≡ cond (is_char (t.broken ++ b ∷ [])) (length (seen ++ b ∷ [])) n → TextFront m (seen ++ b ∷ [])
text_more n m seen b t begins size = elim (cases_Bool (is_char (t.broken ++ b ∷ []))) [
  | inl whole ↦ record {
    done = seen ++ b ∷ [];
    broken = [];
    split = sym (append-nil (seen ++ b ∷ []));
    size = size ∙ cond-true (is_char (t.broken ++ b ∷ [])) _ _ whole;
    is_text = subst IsUtf8 (sym together) (IsUtf8-append t.done (t.broken ++ b ∷ []) t.is_text (whole_char (t.broken ++ b ∷ []) begins whole));
    is_broken = tt;
  }
  | inr more ↦ record {
    done = t.done;
    broken = t.broken ++ b ∷ [];
    split = together;
    size = size ∙ cond-false (is_char (t.broken ++ b ∷ [])) _ _ more ∙ t.size;
    is_text = t.is_text;
    is_broken = broken_more t.broken begins more;
  }
]
  where
    together : seen ++ b ∷ [] ≡ t.done ++ (t.broken ++ b ∷ [])
    together = ap (λ (l : List ℕ). l ++ b ∷ []) t.split ∙ append_assoc t.done t.broken (b ∷ [])

    broken_more : (p : List ℕ) → begins_char (p ++ b ∷ []) ≡ true → is_char (p ++ b ∷ []) ≡ false → IsBroken (p ++ b ∷ [])
    broken_more [] begins more = (begins, more)
    broken_more (x ∷ p) begins more = (begins, more)

-- ---- bytes

pub some_seen : (seen : List ℕ) → BytesFront seen → 0 < length seen
some_seen seen f = subst (λ (l : List ℕ). 0 < length l) (sym f.begins) (omega arith)

bytes_more : (seen : List ℕ) (b : ℕ) → BytesFront seen → may_follow (last_of seen) b ≡ true → BytesFront (seen ++ b ∷ [])
bytes_more seen b f may =
    let two = and_parts (is_ref_byte b && not (last_of seen == 46 && b == 46)) (not (last_of seen == 64 && b == 123)) may in
    let one = and_parts (is_ref_byte b) (not (last_of seen == 46 && b == 46)) two.0 in
    let byte = one.0 in
    record {
      tail = f.tail ++ b ∷ [];
      begins = ap (λ (l : List ℕ). l ++ b ∷ []) f.begins;
      bytes = list_all-append is_ref_byte seen (b ∷ []) ∙ rw (f.bytes, byte) refl;
      no_dots = pair-push 46 46 seen b (some_seen seen f) ∙ or_from _ _ f.no_dots (not-true _ one.1);
      no_log = pair-push 64 123 seen b (some_seen seen f) ∙ or_from _ _ f.no_log (not-true _ two.1);
    }

-- ---- the step

-- one that stands below `refs/` is not at the start
not_before : (s : RefFront) (front : List ℕ) → Below s front → (s.part == 0) ≡ false
not_before s front w = ne_eqb s.part 0 (λ e. let k = w.parts_are.size in omega arith)

below_size : (s : RefFront) (front : List ℕ) → Below s front → (s.part ≤ length front) × (s.text ≤ length front)
below_size s front w = (
  let k = w.parts_are.size in omega (arith, ap length w.parts_are.split, length-append w.parts_are.above (47 ∷ w.parts_are.last)),
  let k = w.text.size in omega (arith, ap length w.text.split, length-append w.text.done w.text.broken),
)

-- what goes on below `refs/`, in the parts' words
abbrev pub goes : List ℕ → List ℕ → List ℕ → ℕ → Bool
goes seen broken last b = may_follow (last_of seen) b && begins_char (broken ++ b ∷ []) && keeps last b

pub goes_is : (s : RefFront) (seen : List ℕ) (b : ℕ) (w : Below s seen) → goes_on s (seen ++ b ∷ []) ≡ goes seen w.text.broken w.parts_are.last b
goes_is s seen b w =
    let long : length (seen ++ b ∷ []) ≡ length seen + 1 = length-append seen (b ∷ []) in
    let within = below_size s seen w in
    let part_in : nat_lt s.part (length (seen ++ b ∷ [])) ≡ true = lt-ltb s.part (length (seen ++ b ∷ [])) (let k = within.0 in omega arith) in
    let text_in : nat_lt s.text (length (seen ++ b ∷ [])) ≡ true = lt-ltb s.text (length (seen ++ b ∷ [])) (let k = within.1 in omega arith) in
    let keeps_here = keeps_is s seen b w.parts_are in
    let text_here = rest_of_text s.text seen b w.text in
    let last_here = last-before seen b (some_seen seen w.bytes) in
    rw (text_in, not_before s seen w) (
    ap (λ (t : Bool). t && may_follow (slice_index (seen ++ b ∷ []) (length (seen ++ b ∷ []) - 2)) (slice_index (seen ++ b ∷ []) (length (seen ++ b ∷ []) - 1)) && begins_char (drop s.text (seen ++ b ∷ [])) && keeps_parts s (seen ++ b ∷ [])) part_in
    ∙ ap (λ (c : ℕ). may_follow c (slice_index (seen ++ b ∷ []) (length (seen ++ b ∷ []) - 1)) && begins_char (drop s.text (seen ++ b ∷ [])) && keeps_parts s (seen ++ b ∷ [])) last_here
    ∙ ap (λ (c : ℕ). may_follow (last_of seen) c && begins_char (drop s.text (seen ++ b ∷ [])) && keeps_parts s (seen ++ b ∷ [])) (at-last seen b)
    ∙ ap (λ (l : List ℕ). may_follow (last_of seen) b && begins_char l && keeps_parts s (seen ++ b ∷ [])) text_here
    ∙ ap (λ (t : Bool). may_follow (last_of seen) b && begins_char (w.text.broken ++ b ∷ []) && t) keeps_here)

-- HEAD or `refs/`, so far
none_below : (s : RefFront) (front : List ℕ) → s.part ≡ 5 → s.text ≡ 5 → front ≡ codes "refs/" → Below s front
none_below s front part text is = record {
  text = record { done = codes "refs/"; broken = []; split = is; size = text; is_text = utf8-is_text (codes "refs/") refl; is_broken = tt };
  parts_are = record { above = codes "refs"; last = []; split = is; size = part; good = refl; plain = refl; shown = refl };
  bytes = record { tail = []; begins = is; bytes = ap (list_all is_ref_byte) is; no_dots = ap (has_pair 46 46) is; no_log = ap (has_pair 64 123) is };
}

-- where one stands behind a byte with which some name goes on
pub stands_behind : (s t : RefFront) (seen : List ℕ) (b : ℕ) → goes_on s (seen ++ b ∷ []) ≡ true → t.part ≡ next_part s (seen ++ b ∷ [])
    → t.text ≡ next_text s (seen ++ b ∷ []) → Stands s seen → Stands t (seen ++ b ∷ [])
stands_behind s t seen b on part text (before start all begins ne) =
    let front = seen ++ b ∷ [] in
    let zero : (s.part == 0) ≡ true = eq-eqb s.part 0 start in
    let both = and_parts (nat_lt s.text (length front)) (cond (s.part == 0) (begins_name front) (goes_on_below s front)) on in
    let name : begins_name front ≡ true = sym (cond-true (s.part == 0) (begins_name front) (goes_on_below s front) zero) ∙ both.1 in
    let part_is : t.part ≡ cond (bytes_eq front (codes "refs/")) 5 0 = part ∙ cond-true (s.part == 0) _ _ zero in
    let text_is : t.text ≡ length front = text ∙ rw zero refl in
    elim (cases_Bool (bytes_eq front (codes "refs/"))) [
      | inl is ↦ let same = (bytes_eq-Decides front (codes "refs/")).0 is in below (none_below t front (part_is ∙ cond-true _ 5 0 is) (text_is ∙ ap length same) same)
      | inr other ↦ before (part_is ∙ cond-false _ 5 0 other) text_is name (λ e. both_ways _ other ((bytes_eq-Decides front (codes "refs/")).1 e))
    ]
stands_behind s t seen b on part text (below w) =
    let all : goes seen w.text.broken w.parts_are.last b ≡ true = sym (goes_is s seen b w) ∙ on in
    let two = and_parts (may_follow (last_of seen) b && begins_char (w.text.broken ++ b ∷ [])) (keeps w.parts_are.last b) all in
    let one = and_parts (may_follow (last_of seen) b) (begins_char (w.text.broken ++ b ∷ [])) two.0 in
    let away = not_before s seen w in
    let last : slice_index (seen ++ b ∷ []) (length (seen ++ b ∷ []) - 1) ≡ b = at-last seen b in
    let part_is : t.part ≡ cond (b == 47) (length (seen ++ b ∷ [])) s.part = part ∙ cond-false (s.part == 0) _ _ away ∙ ap (λ (c : ℕ). cond (c == 47) (length (seen ++ b ∷ [])) s.part) last in
    let text_is : t.text ≡ cond (is_char (w.text.broken ++ b ∷ [])) (length (seen ++ b ∷ [])) s.text = text ∙ rw away (ap (λ (l : List ℕ). cond (is_char l) (length (seen ++ b ∷ [])) s.text) (rest_of_text s.text seen b w.text)) in
    below (record {
      text = text_more s.text t.text seen b w.text one.1 text_is;
      parts_are = parts_more s seen b t.part w.parts_are two.1 part_is;
      bytes = bytes_more seen b w.bytes one.0;
    })
