-- The fault that reading gives is the first, and the first fault is what reading gives.
use Rattle.std.proofs.Common.{◌≡◌, ◌⊎◌, inl, inr, ℕ, zero, suc, ◌+◌, ◌-◌, ◌/◌, ◌%◌, ◌^◌, ◌<◌, ◌≤◌, Bool, true, false, not, ◌&&◌, ◌==◌, nat_lt, cond, List, [], ◌∷◌, ◌++◌, length, take, drop, slice_index, map, codes, Option, Some, None, Result, Ok, Err, refl, sym, ap, subst, ◌∙◌, append_assoc, arith}
use Rattle.std.specs.List.{AllByRecursion, flat_map}
use Rattle.std.specs.Int.{w32, from_be_bytes, to_be_bytes}
use Rattle.std.specs.Str.{bytes_eq}
use Rattle.std.proofs.lemmas.Bool.Decides.{nat_tests}
use Rattle.std.proofs.lemmas.Bool.{eqb-true, cases_lt}
use Rattle.std.proofs.lemmas.List.{append-nil, take_at, take-append-drop, length-append, length-take, length-drop, length-map}
use Rattle.hex.specs.Hex.{IsBytes}
use Rattle.seq_base.specs.declared.mode.Mode.{Mode}
use Rattle.index_file.specs.declared.entry.IndexEntry.{IndexEntry}
use Rattle.index_file.specs.declared.fault.IndexFault.{IndexFault}
use Rattle.index_file.specs.declared.fault.IndexFault.TheVariants as fault
use Rattle.index_file.specs.Entries.{IsInOrder}
use Rattle.index_file.specs.Spelling.{Stat, IsRow, row_text, IsWhole, Extension, IsExtension, IsCapital, extension_text, header_text, body_text, flags_in, size_of}
use Rattle.index_file.specs.Fronts.{may_follow}
use Rattle.index_file.specs.Faults.{Stands, StandsAtRow, StandsBehind, IsFirstFault}
use Rattle.index_file.specs.Reading.{◌>>=◌, number_at, header_at, whole_at, entry_of, entry_in, entry_at, appended, entries_at, extension_at, trailer_at, is_trailer, is_capital, is_path, are_zero, index_of}
use Rattle.index_file.proofs.EntryLoop.{appended_is}
use Rattle.index_file.proofs.Sorted.{in_order_push}
use Rattle.index_file.proofs.Trailers.{shorter, no_more}
use Rattle.index_file.proofs.Rows.{IsBytes-drop, whole_takes, whole_again, row_again}
use Rattle.index_file.proofs.Sequences.{bytes_left, entry_takes, entries_of, entries_take, may_from, first_byte, extension_takes, trailer_takes}
use Rattle.index_file.proofs.Whole.{number_takes, same_bytes, header_takes, trailer_passes, front_of_body, body_of}

-- ---- steps that fail

abbrev pub failed : {A : Type 0} → IndexFault → Result A IndexFault
failed f = Err f

fault_is : {A : Type 0} (d f : IndexFault) → failed {A = A} d ≡ failed f → d ≡ f
fault_is d f e = cc

bind_err : {A B : Type 0} (r : Result A IndexFault) (k : A → Result B IndexFault) (f : IndexFault) → (r >>= k) ≡ failed {A = B} f
    → (r ≡ failed {A = A} f) ⊎ ((x : A) × (r ≡ Ok x) × (k x ≡ failed {A = B} f))
bind_err {A} {B} (Err d) k f e = inl (ap (failed {A = A}) (fault_is {A = B} d f e))
bind_err (Ok x) k f e = inr (x, refl, e)

not_both : {A : Type 0} (r : Result A IndexFault) (x : A) (f : IndexFault) → r ≡ Ok x → r ≡ failed {A = A} f → ⊥
not_both r x f p q = cc

guard_err : {A : Type 0} (b : Bool) (d : IndexFault) (x : A) (f : IndexFault) → cond b (Err d) (Ok x) ≡ failed {A = A} f → (b ≡ true) × (f ≡ d)
guard_err true d x f e = (refl, cc)
guard_err false d x f e = cc

test_err : {A : Type 0} (b : Bool) (x : A) (d f : IndexFault) → cond b (Ok x) (Err d) ≡ failed {A = A} f → (b ≡ false) × (f ≡ d)
test_err true x d f e = cc
test_err false x d f e = (refl, cc)

is_less : (m n : ℕ) → nat_lt m n ≡ true → m < n
is_less m n e = grind (arith, nat_tests)

pub less_is : (m n : ℕ) → m < n → nat_lt m n ≡ true
less_is m n lt = grind (arith, nat_tests)

not_less : (m n : ℕ) → nat_lt m n ≡ false → n ≤ m
not_less m n e = grind (arith, nat_tests)

pub is_not_less : (m n : ℕ) → n ≤ m → nat_lt m n ≡ false
is_not_less m n le = grind (arith, nat_tests)

other_number : (m n : ℕ) → (m == n) ≡ false → m ≡ n → ⊥
other_number m n e h = grind (arith, nat_tests)

pub other_test : (m n : ℕ) → (m ≡ n → ⊥) → (m == n) ≡ false
other_test m n h = grind (arith, nat_tests)

pub other_bytes : (xs ys : List ℕ) (t : Bool) → bytes_eq xs ys ≡ t → (xs ≡ ys → ⊥) → t ≡ false
other_bytes xs ys true e h = absurd (h (same_bytes xs ys e))
other_bytes xs ys false e h = refl

clash : false ≡ true → ⊥
clash e = cc

-- ---- the header

number_err : (bytes : List ℕ) (f : IndexFault) → number_at bytes ≡ failed f → (length bytes < 4) × (f ≡ fault.Count)
number_err bytes f e =
    let g = guard_err (nat_lt (length bytes) 4) fault.Count (from_be_bytes w32 (take 4 bytes), drop 4 bytes) f e in
    (is_less (length bytes) 4 g.0, g.1)

pub number_fails : (bytes : List ℕ) → length bytes < 4 → number_at bytes ≡ failed fault.Count
number_fails bytes lt =
    ap (λ (b : Bool). cond b (Err fault.Count) (Ok (from_be_bytes w32 (take 4 bytes), drop 4 bytes))) (less_is (length bytes) 4 lt)

version_err : (bytes : List ℕ) (f : IndexFault) (v : ℕ × List ℕ) → IsBytes (drop 4 bytes) → bytes ≡ codes "DIRC" ++ drop 4 bytes
    → number_at (drop 4 bytes) ≡ Ok v
    → (t : Bool) → (v.0 == 2) ≡ t → cond t (number_at v.1) (Err (fault.Version v.0)) ≡ failed f → IsFirstFault bytes f
version_err bytes f v h text e false same fails =
    let takes = number_takes (drop 4 bytes) v.0 v.1 h e in
    let is : fault.Version v.0 ≡ f = fault_is {A = ℕ × List ℕ} (fault.Version v.0) f fails in
    let P : IndexFault → Type 0 = λ g. IsFirstFault bytes g in
    subst P is (v.1, text ∙ ap (λ (x : List ℕ). codes "DIRC" ++ x) takes.0, takes.1, other_number v.0 2 same)
version_err bytes f v h text e true same fails =
    let takes = number_takes (drop 4 bytes) v.0 v.1 h e in
    let short = number_err v.1 f fails in
    let two : v.0 ≡ 2 = eqb-true v.0 2 same in
    let front : drop 4 bytes ≡ to_be_bytes w32 2 ++ v.1 = takes.0 ∙ ap (λ (n : ℕ). to_be_bytes w32 n ++ v.1) two in
    let P : IndexFault → Type 0 = λ g. IsFirstFault bytes g in
    subst P (sym short.1) (inl (drop 4 bytes, text, inr (ap (take 4) front ∙ take_at (to_be_bytes w32 2) v.1 4 refl, omega (arith, ap length front, length-append (to_be_bytes w32 2) v.1, short.0))))

magic_err : (bytes : List ℕ) (f : IndexFault) → IsBytes bytes → (t : Bool) → bytes_eq (take 4 bytes) (codes "DIRC") ≡ t
    → cond t (number_at (drop 4 bytes) >>= λ version. cond (version.0 == 2) (number_at version.1) (Err (fault.Version version.0))) (Err fault.Magic) ≡ failed f → IsFirstFault bytes f
magic_err bytes f h false same fails =
    let is : fault.Magic ≡ f = fault_is {A = ℕ × List ℕ} fault.Magic f fails in
    let P : IndexFault → Type 0 = λ g. IsFirstFault bytes g in
    subst P is (λ e. clash (sym same ∙ ap (λ (x : List ℕ). bytes_eq x (codes "DIRC")) e))
magic_err bytes f h true same fails =
    let text : bytes ≡ codes "DIRC" ++ drop 4 bytes = sym (take-append-drop 4 bytes) ∙ ap (λ (x : List ℕ). x ++ drop 4 bytes) (same_bytes (take 4 bytes) (codes "DIRC") same) in
    let behind = IsBytes-drop 4 bytes h in
    let P : IndexFault → Type 0 = λ g. IsFirstFault bytes g in
    elim (bind_err (number_at (drop 4 bytes)) (λ version. cond (version.0 == 2) (number_at version.1) (Err (fault.Version version.0))) f fails) [
      | inl e ↦ let short = number_err (drop 4 bytes) f e in subst P (sym short.1) (inl (drop 4 bytes, text, inl short.0))
      | inr x ↦ version_err bytes f x.0 behind text x.1 (x.0.0 == 2) refl x.2
    ]

header_err : (bytes : List ℕ) (f : IndexFault) → IsBytes bytes → header_at bytes ≡ failed f → IsFirstFault bytes f
unfolding header_at
header_err bytes f h fails = magic_err bytes f h (bytes_eq (take 4 bytes) (codes "DIRC")) refl fails

-- ---- an entry

two_err : (a b : Bool) (d : IndexFault) (x : List ℕ × List ℕ) (f : IndexFault) → cond a (Err d) (cond b (Err d) (Ok x)) ≡ failed f → f ≡ d
two_err true b d x f e = cc
two_err false true d x f e = cc
two_err false false d x f e = cc

pub whole_err : (bytes : List ℕ) (f : IndexFault) → whole_at bytes ≡ failed f → f ≡ fault.Count
unfolding whole_at
whole_err bytes f e =
    two_err (nat_lt (length bytes) 62) (nat_lt (length bytes) (size_of (flags_in bytes))) fault.Count (take (size_of (flags_in bytes)) bytes, drop (size_of (flags_in bytes)) bytes) f e

fields_err : (n : ℕ) (m : Option Mode) (i : List ℕ) (bits : ℕ) (p nuls : List ℕ) (f : IndexFault) → entry_of n m i bits p nuls ≡ failed f
    → f ≡ fault.Name n
unfolding entry_of
fields_err n None i bits p nuls f e = cc
fields_err n (Some mode) i bits p nuls f e =
    (test_err ((bits / 16384 % 2 == 0) && (are_zero nuls && is_path p)) (record { path = p; stage = bits / 4096 % 4; mode = mode; id = i }) (fault.Name n) f e).1

pub in_err : (n : ℕ) (text : List ℕ) (f : IndexFault) → entry_in n text ≡ failed f → f ≡ fault.Name n
unfolding entry_in
in_err n text f e = fields_err n _ _ _ _ _ f e

abbrev NoWhole : List ℕ → Type 0
NoWhole bytes = (text rest : List ℕ) → bytes ≡ text ++ rest → IsWhole text → ⊥

abbrev NoRow : List ℕ → Type 0
NoRow text = (r : Stat × IndexEntry) → IsRow r → text ≡ row_text r → ⊥

record BadRow (n : ℕ) (bytes : List ℕ) (f : IndexFault) : Type 0 where
  name : f ≡ fault.Name n
  text : List ℕ
  rest : List ℕ
  parts : bytes ≡ text ++ rest
  whole : IsWhole text
  no_row : NoRow text

entry_err : (n : ℕ) (bytes : List ℕ) (f : IndexFault) → entry_at n bytes ≡ failed f → ((f ≡ fault.Count) × NoWhole bytes) ⊎ BadRow n bytes f
unfolding entry_at
entry_err n bytes f e = elim (bind_err (whole_at bytes) (λ whole. entry_in n whole.0 >>= λ entry. Ok (entry, whole.1)) f e) [
  | inl fails ↦ inl (whole_err bytes f fails, λ text rest parts whole. not_both (whole_at bytes) (text, rest) f (ap whole_at parts ∙ whole_again text rest whole) fails)
  | inr x ↦
      let w = whole_takes bytes x.0.0 x.0.1 x.1 in
      elim (bind_err (entry_in n x.0.0) (λ entry. Ok (entry, x.0.1)) f x.2) [
        | inl fails ↦ inr (record { name = in_err n x.0.0 f fails; text = x.0.0; rest = x.0.1; parts = w.parts; whole = w.whole; no_row = λ r row is. not_both (entry_in n x.0.0) r.1 f (ap (entry_in n) is ∙ row_again n r row) fails })
        | inr y ↦ absurd (not_both {A = IndexEntry × List ℕ} (Ok (y.0, x.0.1)) (y.0, x.0.1) f refl y.2)
      ]
]

appended_err : (es : List IndexEntry) (e : IndexEntry) (f : IndexFault) → appended es e ≡ failed f
    → (f ≡ fault.Order (length es + 1)) × (may_follow es e ≡ false)
unfolding appended
appended_err es e f h = let t = test_err (may_follow es e) (es ++ e ∷ []) (fault.Order (length es + 1)) f h in (t.1, t.0)

-- where reading entries fails
record FailsAtRow (n : ℕ) (es : List IndexEntry) (bytes : List ℕ) (f : IndexFault) : Type 0 where
  rows : List (Stat × IndexEntry)
  left : List ℕ
  text : bytes ≡ flat_map row_text rows ++ left
  are_rows : AllByRecursion IsRow rows
  more : length rows < n
  before : List IndexEntry
  entries : before ≡ es ++ entries_of rows
  in_order : IsInOrder before
  left_bytes : IsBytes left
  why : (entry_at (length before + 1) left ≡ failed f) ⊎ ((x : IndexEntry × List ℕ) × (entry_at (length before + 1) left ≡ Ok x) × (appended before x.0 ≡ failed f))

fails_at_once : (n : ℕ) (es : List IndexEntry) (bytes : List ℕ) (f : IndexFault) → IsBytes bytes → IsInOrder es
    → (entry_at (length es + 1) bytes ≡ failed f) ⊎ ((x : IndexEntry × List ℕ) × (entry_at (length es + 1) bytes ≡ Ok x) × (appended es x.0 ≡ failed f)) → FailsAtRow (suc n) es bytes f
fails_at_once n es bytes f h o reason =
    record { rows = []; left = bytes; text = refl; are_rows = tt; more = omega arith; before = es; entries = sym (append-nil es); in_order = o; left_bytes = h; why = reason }

entries_err : (n : ℕ) (es : List IndexEntry) (bytes : List ℕ) (f : IndexFault) → IsBytes bytes → IsInOrder es → entries_at n es bytes ≡ failed f
    → FailsAtRow n es bytes f
unfolding entries_at
entries_err zero es bytes f h o e = absurd (not_both {A = List IndexEntry × List ℕ} (Ok (es, bytes)) (es, bytes) f refl e)
entries_err (suc n) es bytes f h o e =
    elim (bind_err (entry_at (length es + 1) bytes) (λ entry. appended es entry.0 >>= λ more. entries_at n more entry.1) f e) [
      | inl fails ↦ fails_at_once n es bytes f h o (inl fails)
      | inr x ↦ elim (bind_err (appended es x.0.0) (λ more. entries_at n more x.0.1) f x.2) [
        | inl fails ↦ fails_at_once n es bytes f h o (inr (x.0, x.1, fails))
        | inr more ↦
            let row = entry_takes (length es + 1) bytes x.0.0 x.0.1 h x.1 in
            let follows = appended_is es x.0.0 more.0 more.1 in
            let P : List IndexEntry → Type 0 = λ es. IsInOrder es in
            let r = entries_err n more.0 x.0.1 f row.rest_bytes (subst P follows.1 (in_order_push es x.0.0 o follows.0)) more.2 in
            record {
              rows = (row.stat, x.0.0) ∷ r.rows;
              left = r.left;
              text =
                  row.text ∙ ap (λ (t : List ℕ). row_text (row.stat, x.0.0) ++ t) r.text
                  ∙ sym (append_assoc (row_text (row.stat, x.0.0)) (flat_map row_text r.rows) r.left);
              are_rows = (row.is_row, r.are_rows);
              more = omega (arith, r.more);
              before = r.before;
              entries =
                  r.entries ∙ ap (λ (t : List IndexEntry). t ++ entries_of r.rows) (sym follows.1) ∙ append_assoc es (x.0.0 ∷ []) (entries_of r.rows);
              in_order = r.in_order;
              left_bytes = r.left_bytes;
              why = r.why;
            }
      ]
    ]

false_is_not : (b : Bool) → b ≡ false → b ≡ true → ⊥
false_is_not b p q = cc

pub map_push : (rows : List (Stat × IndexEntry)) (r : Stat × IndexEntry)
    → map (λ (r : Stat × IndexEntry). r.1) (rows ++ r ∷ []) ≡ entries_of rows ++ r.1 ∷ []
map_push [] r = refl
map_push (s ∷ rows) r = ap (λ (x : List IndexEntry). s.1 ∷ x) (map_push rows r)

row_fault : (count : ℕ) (bytes rest : List ℕ) (f : IndexFault) → bytes ≡ header_text count ++ rest → count < 2 ^ 32 → FailsAtRow count [] rest f
    → IsFirstFault bytes f
row_fault count bytes rest f header few r =
    let n : length r.before ≡ length r.rows = ap length r.entries ∙ length-map r.rows (λ (r : Stat × IndexEntry). r.1) in
    let number : length r.before + 1 ≡ length r.rows + 1 = omega arith in
    let O : List IndexEntry → Type 0 = λ es. IsInOrder es in
    let P : IndexFault → Type 0 = λ g. IsFirstFault bytes g in
    let at : StandsAtRow bytes (length r.before + 1) r.rows r.left = record {
      count = count;
      stands =
          record { text = header ∙ ap (λ (x : List ℕ). header_text count ++ x) r.text; few = few; are_rows = r.are_rows; in_order = subst O r.entries r.in_order };
      more = r.more;
      number = number;
    } in
    elim r.why [
      | inl fails ↦ elim (entry_err (length r.before + 1) r.left f fails) [
        | inl cut ↦ subst P (sym cut.0) (inr (inl (length r.before + 1, r.rows, r.left, at, cut.1)))
        | inr bad ↦
            let S : List ℕ → Type 0 = λ left. StandsAtRow bytes (length r.before + 1) r.rows left in
            subst P (sym bad.name) (r.rows, bad.text, bad.rest, subst S bad.parts at, bad.whole, bad.no_row)
      ]
      | inr x ↦
          let t = entry_takes (length r.before + 1) r.left x.0.0 x.0.1 r.left_bytes x.1 in
          let no = appended_err r.before x.0.0 f x.2 in
          let S : List ℕ → Type 0 = λ left. StandsAtRow bytes (length r.before + 1) r.rows left in
          subst P (sym no.0) (
            r.rows,
            (t.stat, x.0.0),
            x.0.1,
            subst S t.text at,
            t.is_row,
            λ o. false_is_not (may_follow r.before x.0.0) no.1 (may_from r.before x.0.0 [] (subst O (map_push r.rows (t.stat, x.0.0) ∙ ap (λ (es : List IndexEntry). es ++ x.0.0 ∷ []) (sym r.entries)) o)),
          )
    ]

-- ---- extensions and the trailer

pub capital_is : (b : ℕ) → not (is_capital b) ≡ false → IsCapital b
capital_is b e = grind (arith, nat_tests)

not_capital : (b : ℕ) → not (is_capital b) ≡ true → IsCapital b → ⊥
not_capital b e h = let p = h.0 in let q = h.1 in grind (arith, nat_tests)

pub capital_passes : (b : ℕ) → IsCapital b → not (is_capital b) ≡ false
capital_passes b h = let p = h.0 in let q = h.1 in grind (arith, nat_tests)

abbrev pub size_in : List ℕ → ℕ
size_in left = from_be_bytes w32 (take 4 (drop 4 left))

three_err : (a b c : Bool) (x y z : IndexFault) (v : List ℕ) (f : IndexFault) → cond a (Err x) (cond b (Err y) (cond c (Err z) (Ok v))) ≡ failed f
    → ((a ≡ true) × (f ≡ x)) ⊎ (((a ≡ false) × (b ≡ true) × (f ≡ y)) ⊎ ((b ≡ false) × (c ≡ true) × (f ≡ z)))
three_err true b c x y z v f e = inl (refl, cc)
three_err false true c x y z v f e = inr (inl (refl, refl, cc))
three_err false false true x y z v f e = inr (inr (refl, refl, cc))
three_err false false false x y z v f e = cc

sides : (n : ℕ) → (n ≡ 20 → ⊥) → (n < 20) ⊎ (20 < n)
sides n h = elim (cases_lt n 20) [ inl lt ↦ inl lt | inr le ↦ inr (omega arith) ]

abbrev ExtensionFault : List ℕ → IndexFault → Type 0
ExtensionFault left f =
    ((length left < 28) × (f ≡ fault.Count)) ⊎ (((28 ≤ length left) × (IsCapital (slice_index left 0) → ⊥) × (f ≡ fault.Extension (take 4 left)))
    ⊎ (IsCapital (slice_index left 0) × (length left < 28 + size_in left) × (f ≡ fault.Count)))

extension_err : (left : List ℕ) (f : IndexFault) → extension_at left ≡ failed f → ExtensionFault left f
unfolding extension_at
extension_err left f e =
    elim (three_err (nat_lt (length left) 28) (not (is_capital (slice_index left 0))) (nat_lt (length left) (28 + size_in left)) fault.Count (fault.Extension (take 4 left)) fault.Count (drop (8 + size_in left) left) f e) [
      | inl a ↦ inl (is_less (length left) 28 a.0, a.1)
      | inr b ↦ elim b [
        | inl c ↦ inr (inl (not_less (length left) 28 c.0, not_capital (slice_index left 0) c.1, c.2))
        | inr c ↦ inr (inr (capital_is (slice_index left 0) c.0, is_less (length left) (28 + size_in left) c.1, c.2))
      ]
    ]

record FailsBehind (bytes : List ℕ) (f : IndexFault) : Type 0 where
  extensions : List Extension
  left : List ℕ
  text : bytes ≡ flat_map extension_text extensions ++ left
  are_extensions : AllByRecursion IsExtension extensions
  other : length left ≡ 20 → ⊥
  why : extension_at left ≡ failed f
  start : length left < 20 → bytes ≡ left

trailer_err_by : (n : ℕ) (bytes : List ℕ) (f : IndexFault) → IsBytes bytes
    → ((rest : List ℕ) → extension_at bytes ≡ Ok rest → IsBytes rest → trailer_at n rest ≡ failed f → FailsBehind rest f)
    → (t : Bool) → (length bytes == 20) ≡ t → cond t (Ok bytes) (extension_at bytes >>= λ rest. trailer_at n rest) ≡ failed f → FailsBehind bytes f
trailer_err_by n bytes f h go true same e = absurd (not_both {A = List ℕ} (Ok bytes) bytes f refl e)
trailer_err_by n bytes f h go false same e = elim (bind_err (extension_at bytes) (λ rest. trailer_at n rest) f e) [
  | inl fails ↦ record { extensions = []; left = bytes; text = refl; are_extensions = tt; other = other_number (length bytes) 20 same; why = fails; start = λ _. refl }
  | inr x ↦
      let one = extension_takes bytes x.0 h x.1 in
      let r = go x.0 x.1 one.rest_bytes x.2 in
      record {
        extensions = one.extension ∷ r.extensions;
        left = r.left;
        text =
            one.text ∙ ap (λ (t : List ℕ). extension_text one.extension ++ t) r.text
            ∙ sym (append_assoc (extension_text one.extension) (flat_map extension_text r.extensions) r.left);
        are_extensions = (one.is_extension, r.are_extensions);
        other = r.other;
        why = r.why;
        start = λ lt. absurd (omega (arith, one.long, ap length (r.start lt), lt));
      }
]

trailer_err : (n : ℕ) (bytes : List ℕ) (f : IndexFault) → length bytes ≤ n → IsBytes bytes → trailer_at n bytes ≡ failed f → FailsBehind bytes f
unfolding trailer_at
trailer_err zero bytes f le h e =
    let t = test_err (length bytes == 20) bytes fault.Count f e in
    record { extensions = []; left = bytes; text = refl; are_extensions = tt; other = other_number (length bytes) 20 t.0; why = no_more bytes le ∙ ap (failed {A = List ℕ}) (sym t.1); start = λ _. refl }
trailer_err (suc n) bytes f le h e =
    trailer_err_by n bytes f h (λ rest is b fails. trailer_err n rest f (omega (arith, shorter bytes rest is)) b fails) (length bytes == 20) refl e

tail_fault : (bytes : List ℕ) (rows : List (Stat × IndexEntry)) (tail : List ℕ) (f : IndexFault) → Stands bytes (length rows) rows tail
    → FailsBehind tail f → IsFirstFault bytes f
tail_fault bytes rows tail f at r =
    let P : IndexFault → Type 0 = λ g. IsFirstFault bytes g in
    let S : List ℕ → Type 0 = λ t. Stands bytes (length rows) rows t in
    let left : List ℕ = r.left in
    let why = extension_err left f r.why in
    let other = r.other in
    let here : Stands bytes (length rows) rows (flat_map extension_text r.extensions ++ left) = subst S r.text at in
    let behind : 20 ≤ length left → StandsBehind bytes rows r.extensions left = λ le. record { stands = here; are_extensions = r.are_extensions; long = le } in
    elim (sides (length left) other) [
      | inl short ↦ elim why [
        | inl a ↦ subst P (sym a.1) (inr (inr (inl (rows, left, subst S (r.start short) at, short))))
        | inr b ↦ elim b [
          | inl c ↦ absurd (omega (arith, c.0, short))
          | inr c ↦ subst P (sym c.2) (inr (inr (inl (rows, left, subst S (r.start short) at, short))))
        ]
      ]
      | inr long ↦
          let le : 20 ≤ length left = omega (arith, long) in
          elim why [
            | inl a ↦ subst P (sym a.1) (inr (inr (inr (rows, r.extensions, left, behind le, long, inl a.0))))
            | inr b ↦ elim b [
              | inl c ↦
                  let parts : left ≡ take 4 left ++ drop 4 left = sym (take-append-drop 4 left) in
                  let Q : List ℕ → Type 0 = λ t. StandsBehind bytes rows r.extensions t in
                  let byte : slice_index (take 4 left) 0 ≡ slice_index left 0 = first_byte left in
                  subst P (sym c.2) (rows, r.extensions, drop 4 left, subst Q parts (behind le), omega (arith, length-take 4 left, c.0), omega (arith, length-drop 4 left, c.0), λ cap. let C : ℕ → Type 0 = λ n. IsCapital n in c.1 (subst C byte cap))
              | inr c ↦ subst P (sym c.2) (inr (inr (inr (rows, r.extensions, left, behind le, long, inr (c.0, c.1)))))
            ]
          ]
    ]

abbrev last_step : List ℕ → List IndexEntry → List ℕ → Result (List IndexEntry) IndexFault
last_step body es trailer = cond (is_trailer body trailer) (Ok es) (Err fault.Hash)

pub index_err : (bytes : List ℕ) (f : IndexFault) → IsBytes bytes → index_of bytes ≡ failed f → IsFirstFault bytes f
unfolding index_of
index_err bytes f h e =
    let body : List ℕ = take (length bytes - 20) bytes in
    let P : IndexFault → Type 0 = λ g. IsFirstFault bytes g in
    elim (bind_err (header_at bytes) (λ count. entries_at count.0 [] count.1 >>= λ entries. trailer_at (length entries.1) entries.1 >>= λ trailer. last_step body entries.0 trailer) f e) [
      | inl fails ↦ header_err bytes f h fails
      | inr a ↦
          let header = header_takes bytes a.0.0 a.0.1 h a.1 in
          let rest_bytes = (bytes_left bytes (header_text a.0.0) a.0.1 h header.0).1 in
          elim (bind_err (entries_at a.0.0 [] a.0.1) (λ entries. trailer_at (length entries.1) entries.1 >>= λ trailer. last_step body entries.0 trailer) f a.2) [
            | inl fails ↦ row_fault a.0.0 bytes a.0.1 f header.0 header.1 (entries_err a.0.0 [] a.0.1 f rest_bytes tt fails)
            | inr b ↦
                let rows = entries_take a.0.0 [] a.0.1 b.0.0 b.0.1 rest_bytes b.1 in
                let O : List IndexEntry → Type 0 = λ es. IsInOrder es in
                let number = rows.number in
                let at : Stands bytes (length rows.rows) rows.rows b.0.1 = record {
                  text =
                      header.0 ∙ ap (λ (x : List ℕ). header_text a.0.0 ++ x) rows.text
                      ∙ ap (λ (k : ℕ). header_text k ++ (flat_map row_text rows.rows ++ b.0.1)) (sym number);
                  few = omega (arith, number, header.1);
                  are_rows = rows.are_rows;
                  in_order = subst O rows.entries (rows.in_order tt);
                } in
                elim (bind_err (trailer_at (length b.0.1) b.0.1) (λ trailer. last_step body b.0.0 trailer) f b.2) [
                  | inl fails ↦ tail_fault bytes rows.rows b.0.1 f at (trailer_err (length b.0.1) b.0.1 f (omega arith) rows.rest_bytes fails)
                  | inr c ↦
                      let tail = trailer_takes (length b.0.1) b.0.1 c.0 rows.rest_bytes c.1 in
                      let no = test_err (is_trailer body c.0) b.0.0 fault.Hash f c.2 in
                      let S : List ℕ → Type 0 = λ t. Stands bytes (length rows.rows) rows.rows t in
                      let text = body_of a.0.0 rows.rows tail.extensions bytes a.0.1 b.0.1 c.0 number header.0 rows.text tail.text in
                      let front = front_of_body (body_text rows.rows tail.extensions) c.0 bytes tail.twenty text in
                      subst P (sym no.1) (
                        rows.rows,
                        tail.extensions,
                        c.0,
                        record { stands = subst S tail.text at; are_extensions = tail.are_extensions; long = omega (arith, tail.twenty) },
                        tail.twenty,
                        λ is. false_is_not (is_trailer body c.0) no.0 (ap (λ (x : List ℕ). is_trailer x c.0) front ∙ trailer_passes (body_text rows.rows tail.extensions) c.0 is),
                      )
                ]
          ]
    ]
