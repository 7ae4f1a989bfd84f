-- The first fault is what reading gives.
use Rattle.std.proofs.Common.{◌≡◌, ◌⊎◌, inl, inr, ℕ, zero, suc, ◌+◌, ◌-◌, ◌^◌, ◌<◌, ◌≤◌, Bool, true, false, not, ◌==◌, nat_lt, cond, List, [], ◌∷◌, ◌++◌, length, take, drop, slice_index, codes, Result, Ok, Err, refl, sym, ap, subst, ◌∙◌, arith}
use Rattle.std.specs.List.{flat_map}
use Rattle.std.specs.Int.{w32, to_be_bytes}
use Rattle.std.specs.Str.{bytes_eq}
use Rattle.std.specs.Global.{Vec}
use Rattle.std.specs.Prelude.{IfErr}
use Rattle.std.proofs.lemmas.Bool.{cases_lt}
use Rattle.std.proofs.lemmas.Bool.Decides.{nat_tests}
use Rattle.std.proofs.lemmas.List.{take_at, take-append-drop, length-append, length-drop, length-map}
use Rattle.hex.specs.Hex.{IsBytes}
use Rattle.index_file.specs.declared.entry.IndexEntry.{IndexEntry}
use Rattle.index_file.specs.declared.fault.IndexFault.{IndexFault}
use Rattle.index_file.specs.declared.fault.IndexFault.TheVariants as fault
use Rattle.index_file.specs.Entries.{IsInOrder}
use Rattle.index_file.specs.Spelling.{Stat, IsRow, row_text, IsWhole, Extension, IsCapital, extension_text, header_text, body_text, IsTrailer}
use Rattle.index_file.specs.Fronts.{may_follow}
use Rattle.index_file.specs.Faults.{Stands, StandsAtRow, StandsBehind, IsFirstFault, IsFirstFaultOrMemory}
use Rattle.index_file.specs.Reading.{Gives, ◌>>=◌, number_at, header_at, whole_at, entry_in, entry_at, appended, entries_at, extension_at, trailer_at, is_trailer, is_capital, index_of}
use Rattle.index_file.proofs.Sorted.{in_order_push}
use Rattle.index_file.proofs.Rows.{whole_takes, whole_again, stat_of, row_taken}
use Rattle.index_file.proofs.Sequences.{bytes_left, entry_again, entries_of, entries_on, first_of_append, trailer_on, trailer_again}
use Rattle.index_file.proofs.Whole.{number_again, header_by, header_again, trailer_from, reads_tail, front_of_body, body_of}
use Rattle.index_file.proofs.FaultLaws.{failed, number_fails, less_is, is_not_less, other_test, other_bytes, size_in, capital_is, capital_passes, whole_err, in_err, map_push, index_err}

-- ---- a step that fails is the whole

head_fails : (bytes : List ℕ) (f : IndexFault) → header_at bytes ≡ failed f → index_of bytes ≡ failed f
unfolding index_of
head_fails bytes f e = rw e refl

short_header : (rest : List ℕ) (f : IndexFault) → number_at rest ≡ failed f → header_at (codes "DIRC" ++ rest) ≡ failed f
unfolding header_at
short_header rest f e =
    ap (λ (r : Result (ℕ × List ℕ) IndexFault). r >>= λ version. cond (version.0 == 2) (number_at version.1) (Err (fault.Version version.0))) e

magic_fails : (bytes : List ℕ) → (take 4 bytes ≡ codes "DIRC" → ⊥) → header_at bytes ≡ failed fault.Magic
unfolding header_at
magic_fails bytes h =
    ap (λ (t : Bool). cond t (number_at (drop 4 bytes) >>= λ version. cond (version.0 == 2) (number_at version.1) (Err (fault.Version version.0))) (Err fault.Magic))
    (other_bytes (take 4 bytes) (codes "DIRC") (bytes_eq (take 4 bytes) (codes "DIRC")) refl h)

version_fails : (bytes left : List ℕ) (n : ℕ) → bytes ≡ codes "DIRC" ++ (to_be_bytes w32 n ++ left) → n < 2 ^ 32 → (n ≡ 2 → ⊥)
    → header_at bytes ≡ failed (fault.Version n)
version_fails bytes left n text lt other =
    ap header_at text ∙ header_by (to_be_bytes w32 n ++ left) left n (number_again n left lt) ∙ ap (λ (t : Bool). cond t (number_at left) (Err (fault.Version n))) (other_test n 2 other)

cut_header_fails : (bytes left : List ℕ) → bytes ≡ codes "DIRC" ++ left → (length left < 4) ⊎ ((take 4 left ≡ to_be_bytes w32 2) × (length left < 8))
    → header_at bytes ≡ failed fault.Count
cut_header_fails bytes left text (inl short) = ap header_at text ∙ short_header left fault.Count (number_fails left short)
cut_header_fails bytes left text (inr second) = elim (cases_lt (length left) 4) [
  | inl short ↦ ap header_at text ∙ short_header left fault.Count (number_fails left short)
  | inr long ↦
      let parts : left ≡ to_be_bytes w32 2 ++ drop 4 left = sym (take-append-drop 4 left) ∙ ap (λ (x : List ℕ). x ++ drop 4 left) second.0 in
      let lt = second.1 in
      ap header_at text ∙ header_by left (drop 4 left) 2 (ap number_at parts ∙ number_again 2 (drop 4 left) (omega arith)) ∙ number_fails (drop 4 left) (omega (arith, length-drop 4 left))
]

-- reading comes to the row
at_row : (bytes : List ℕ) (n : ℕ) (rows : List (Stat × IndexEntry)) (left : List ℕ) → StandsAtRow bytes n rows left
    → (more : ℕ) × ((f : IndexFault) → (entry_at n left >>= λ entry. appended (entries_of rows) entry.0 >>= λ es. entries_at more es entry.1) ≡ failed f → index_of bytes ≡ failed f)
unfolding index_of entries_at
at_row bytes n rows left at =
    let count : ℕ = at.count in
    let lt = at.more in
    let more : ℕ = count - length rows - 1 in
    let split : count ≡ length rows + suc more = omega arith in
    let len : length (entries_of rows) + 1 ≡ n = ap (λ (k : ℕ). k + 1) (length-map rows (λ (r : Stat × IndexEntry). r.1)) ∙ sym at.number in
    let header : header_at bytes ≡ Ok (count, flat_map row_text rows ++ left) = ap header_at at.stands.text ∙ header_again count (flat_map row_text rows ++ left) at.stands.few in
    let on : entries_at count [] (flat_map row_text rows ++ left) ≡ entries_at (suc more) (entries_of rows) left =
    ap (λ (k : ℕ). entries_at k [] (flat_map row_text rows ++ left)) split ∙ entries_on [] rows left (suc more) at.stands.are_rows at.stands.in_order in
    let step : entries_at (suc more) (entries_of rows) left ≡ (entry_at n left >>= λ entry. appended (entries_of rows) entry.0 >>= λ es. entries_at more es entry.1) =
    ap (λ (k : ℕ). entry_at k left >>= λ entry. appended (entries_of rows) entry.0 >>= λ es. entries_at more es entry.1) len in
    (more, λ f e. rw (header, on ∙ step ∙ e) refl)

no_whole_fails : (bytes : List ℕ) (r : Result (List ℕ × List ℕ) IndexFault) → whole_at bytes ≡ r
    → ((text rest : List ℕ) → bytes ≡ text ++ rest → IsWhole text → ⊥) → r ≡ failed fault.Count
no_whole_fails bytes (Ok x) e none = let w = whole_takes bytes x.0 x.1 e in absurd (none x.0 x.1 w.parts w.whole)
no_whole_fails bytes (Err f) e none = ap (failed {A = List ℕ × List ℕ}) (whole_err bytes f e)

no_row_fails : (n : ℕ) (text : List ℕ) (r : Result IndexEntry IndexFault) → IsWhole text → IsBytes text → entry_in n text ≡ r
    → ((r : Stat × IndexEntry) → IsRow r → text ≡ row_text r → ⊥) → r ≡ failed (fault.Name n)
no_row_fails n text (Ok x) w h e none = let t = row_taken n text x w h e in absurd (none (stat_of text, x) t.1 t.0)
no_row_fails n text (Err f) w h e none = ap (failed {A = IndexEntry}) (in_err n text f e)

cut_entry_fails : (n : ℕ) (left : List ℕ) → ((text rest : List ℕ) → left ≡ text ++ rest → IsWhole text → ⊥) → entry_at n left ≡ failed fault.Count
unfolding entry_at
cut_entry_fails n left none =
    ap (λ (r : Result (List ℕ × List ℕ) IndexFault). r >>= λ whole. entry_in n whole.0 >>= λ entry. Ok (entry, whole.1)) (no_whole_fails left (whole_at left) refl none)

bad_entry_fails : (n : ℕ) (text left : List ℕ) → IsBytes text → IsWhole text → ((r : Stat × IndexEntry) → IsRow r → text ≡ row_text r → ⊥)
    → entry_at n (text ++ left) ≡ failed (fault.Name n)
unfolding entry_at
bad_entry_fails n text left h w none = rw (whole_again text left w, no_row_fails n text (entry_in n text) w h refl none) refl

order_fails : (es : List IndexEntry) (e : IndexEntry) (n : ℕ) → n ≡ length es + 1 → IsInOrder es → (IsInOrder (es ++ e ∷ []) → ⊥)
    → appended es e ≡ failed (fault.Order n)
unfolding appended
order_fails es e n number o none = by_test (may_follow es e) refl ∙ ap (λ (k : ℕ). failed {A = List IndexEntry} (fault.Order k)) (sym number)
  where
    by_test : (t : Bool) → may_follow es e ≡ t → cond t (Ok (es ++ e ∷ [])) (Err (fault.Order (length es + 1))) ≡ failed (fault.Order (length es + 1))
    by_test true follows = absurd (none (in_order_push es e o follows))
    by_test false follows = refl

left_bytes : (bytes : List ℕ) (n : ℕ) (rows : List (Stat × IndexEntry)) (left : List ℕ) → IsBytes bytes → StandsAtRow bytes n rows left → IsBytes left
left_bytes bytes n rows left h at =
    let behind = (bytes_left bytes (header_text at.count) (flat_map row_text rows ++ left) h at.stands.text).1 in
    (bytes_left (flat_map row_text rows ++ left) (flat_map row_text rows) left behind refl).1

-- ---- behind the rows

tail_fails : (bytes : List ℕ) (rows : List (Stat × IndexEntry)) (tail : List ℕ) (f : IndexFault) → Stands bytes (length rows) rows tail
    → trailer_at (length tail) tail ≡ failed f → index_of bytes ≡ failed f
tail_fails bytes rows tail f at e =
    reads_tail rows bytes tail at.are_rows at.in_order at.few at.text
    ∙ ap (λ (r : Result (List ℕ) IndexFault). r >>= λ trailer. cond (is_trailer (take (length bytes - 20) bytes) trailer) (Ok (entries_of rows)) (Err fault.Hash)) e

not_twenty : (n : ℕ) → (n < 20) ⊎ (20 < n) → (n == 20) ≡ false
not_twenty n (inl lt) = grind (arith, nat_tests)
not_twenty n (inr lt) = grind (arith, nat_tests)

at_once : (n : ℕ) (left : List ℕ) (f : IndexFault) → 0 < n → (length left == 20) ≡ false → extension_at left ≡ failed f → trailer_at n left ≡ failed f
unfolding trailer_at
at_once zero left f lt other e = absurd (omega arith)
at_once (suc n) left f lt other e = rw (other, e) refl

short_fails : (left : List ℕ) → length left < 28 → extension_at left ≡ failed fault.Count
unfolding extension_at
short_fails left lt = rw (less_is (length left) 28 lt) refl

tag_fails : (left : List ℕ) → 28 ≤ length left → (IsCapital (slice_index left 0) → ⊥) → extension_at left ≡ failed (fault.Extension (take 4 left))
unfolding extension_at
tag_fails left le none =
    rw (is_not_less (length left) 28 le, capital_fails (slice_index left 0) (not (is_capital (slice_index left 0))) refl none) refl
  where
    capital_fails : (b : ℕ) (t : Bool) → not (is_capital b) ≡ t → (IsCapital b → ⊥) → t ≡ true
    capital_fails b true e none = refl
    capital_fails b false e none = absurd (none (capital_is b e))

content_fails : (left : List ℕ) → IsCapital (slice_index left 0) → length left < 28 + size_in left → extension_at left ≡ failed fault.Count
unfolding extension_at
content_fails left capital lt =
    by_test (nat_lt (length left) 28) (not (is_capital (slice_index left 0))) (nat_lt (length left) (28 + size_in left)) (fault.Extension (take 4 left)) (drop (8 + size_in left) left) (capital_passes (slice_index left 0) capital) (less_is (length left) (28 + size_in left) lt)
  where
    by_test : (a b c : Bool) (y : IndexFault) (v : List ℕ) → b ≡ false → c ≡ true
        → cond a (Err fault.Count) (cond b (Err y) (cond c (Err fault.Count) (Ok v))) ≡ failed fault.Count
    by_test true b c y v p q = refl
    by_test false b c y v p q = rw (p, q) refl

behind_fails : (bytes : List ℕ) (rows : List (Stat × IndexEntry)) (extensions : List Extension) (left : List ℕ) (f : IndexFault)
    → StandsBehind bytes rows extensions left → 20 < length left → extension_at left ≡ failed f → index_of bytes ≡ failed f
behind_fails bytes rows extensions left f at long e =
    let tail : List ℕ = flat_map extension_text extensions ++ left in
    tail_fails bytes rows tail f at.stands
    (trailer_on (length tail) (length left) extensions left at.are_extensions at.long (omega arith) (omega arith) ∙ at_once (length left) left f (omega arith) (not_twenty (length left) (inr long)) e)

hash_fails : (bytes : List ℕ) (rows : List (Stat × IndexEntry)) (extensions : List Extension) (trailer : List ℕ)
    → StandsBehind bytes rows extensions trailer → length trailer ≡ 20 → (IsTrailer (body_text rows extensions) trailer → ⊥)
    → index_of bytes ≡ failed fault.Hash
hash_fails bytes rows extensions trailer at twenty none =
    let tail : List ℕ = flat_map extension_text extensions ++ trailer in
    let text : bytes ≡ body_text rows extensions ++ trailer = body_of (length rows) rows extensions bytes (flat_map row_text rows ++ tail) tail trailer refl at.stands.text refl refl in
    let front = front_of_body (body_text rows extensions) trailer bytes twenty text in
    reads_tail rows bytes tail at.stands.are_rows at.stands.in_order at.stands.few at.stands.text
    ∙ rw (trailer_again (length tail) extensions trailer at.are_extensions twenty (omega arith), front) (by_test (is_trailer (body_text rows extensions) trailer) refl)
  where
    by_test : (t : Bool) → is_trailer (body_text rows extensions) trailer ≡ t → cond t (Ok (entries_of rows)) (Err fault.Hash) ≡ failed fault.Hash
    by_test true same = absurd (none (trailer_from (body_text rows extensions) trailer twenty same))
    by_test false same = refl

cut_trailer : (n : ℕ) (left : List ℕ) → length left ≤ n → (length left == 20) ≡ false → length left < 20 → trailer_at n left ≡ failed fault.Count
unfolding trailer_at
cut_trailer zero left le other lt = rw other refl
cut_trailer (suc n) left le other lt = rw (other, short_fails left (omega (arith, lt))) refl

cut_extension : (left : List ℕ) → (length left < 28) ⊎ (IsCapital (slice_index left 0) × (length left < 28 + size_in left))
    → extension_at left ≡ failed fault.Count
cut_extension left (inl short) = short_fails left short
cut_extension left (inr long) = content_fails left long.0 long.1

-- ---- the first fault

pub index_fails : (bytes : List ℕ) (f : IndexFault) → IsBytes bytes → IsFirstFault bytes f → index_of bytes ≡ failed f
index_fails bytes fault.Magic h w = head_fails bytes fault.Magic (magic_fails bytes w)
index_fails bytes (fault.Version n) h w = head_fails bytes (fault.Version n) (version_fails bytes w.0 n w.1 w.2 w.3)
index_fails bytes fault.Count h (inl w) = head_fails bytes fault.Count (cut_header_fails bytes w.0 w.1 w.2)
index_fails bytes fault.Count h (inr (inl w)) =
    let r = at_row bytes w.0 w.1 w.2 w.3 in
    r.1 fault.Count (ap (λ (x : Result (IndexEntry × List ℕ) IndexFault). x >>= λ entry. appended (entries_of w.1) entry.0 >>= λ es. entries_at r.0 es entry.1) (cut_entry_fails w.0 w.2 w.4))
index_fails bytes fault.Count h (inr (inr (inl w))) =
    tail_fails bytes w.0 w.1 fault.Count w.2 (cut_trailer (length w.1) w.1 (omega arith) (not_twenty (length w.1) (inl w.3)) w.3)
index_fails bytes fault.Count h (inr (inr (inr w))) = behind_fails bytes w.0 w.1 w.2 fault.Count w.3 w.4 (cut_extension w.2 w.5)
index_fails bytes (fault.Name n) h w =
    let r = at_row bytes n w.0 (w.1 ++ w.2) w.3 in
    let b = bytes_left (w.1 ++ w.2) w.1 w.2 (left_bytes bytes n w.0 (w.1 ++ w.2) h w.3) refl in
    r.1 (fault.Name n) (ap (λ (x : Result (IndexEntry × List ℕ) IndexFault). x >>= λ entry. appended (entries_of w.0) entry.0 >>= λ es. entries_at r.0 es entry.1) (bad_entry_fails n w.1 w.2 b.0 w.4 w.5))
index_fails bytes (fault.Order n) h w =
    let r = at_row bytes n w.0 (row_text w.1 ++ w.2) w.3 in
    let O : List IndexEntry → Type 0 = λ es. IsInOrder es in
    let number : n ≡ length (entries_of w.0) + 1 = w.3.number ∙ ap (λ (k : ℕ). k + 1) (sym (length-map w.0 (λ (r : Stat × IndexEntry). r.1))) in
    let fails = order_fails (entries_of w.0) w.1.1 n number w.3.stands.in_order (λ o. w.5 (subst O (sym (map_push w.0 w.1)) o)) in
    r.1 (fault.Order n) (rw (entry_again n w.1 w.2 w.4, fails) refl)
index_fails bytes (fault.Extension tag) h w =
    let left : List ℕ = tag ++ w.2 in
    let four = w.4 in
    let len : length left ≡ 4 + length w.2 = length-append tag w.2 ∙ omega (arith, w.4) in
    let byte : slice_index left 0 ≡ slice_index tag 0 = first_of_append tag w.2 (omega (arith, w.4)) in
    let C : ℕ → Type 0 = λ n. IsCapital n in
    behind_fails bytes w.0 w.1 left (fault.Extension tag) w.3 (omega (arith, len, w.5))
    (tag_fails left (omega (arith, len, w.5)) (λ cap. w.6 (subst C byte cap)) ∙ ap (λ (t : List ℕ). failed {A = List ℕ} (fault.Extension t)) (take_at tag w.2 4 w.4))
index_fails bytes fault.Hash h w = hash_fails bytes w.0 w.1 w.2 w.3 w.4 w.5
index_fails bytes fault.Memory h w = absurd w

-- ---- what a reader answered

pub first_fault_is : (bytes : List ℕ) (r : Result (Vec IndexEntry) IndexFault) → IsBytes bytes → Gives (λ v. v.items) r (index_of bytes)
    → IfErr r (λ f. IsFirstFaultOrMemory bytes f)
first_fault_is bytes (Ok v) h given = tt
first_fault_is bytes (Err f) h given = by_fault f given
  where
    by_fault : (f : IndexFault) → Gives (λ (v : Vec IndexEntry). v.items) (Err f) (index_of bytes) → IsFirstFaultOrMemory bytes f
    by_fault fault.Magic given = index_err bytes fault.Magic h given
    by_fault (fault.Version n) given = index_err bytes (fault.Version n) h given
    by_fault fault.Count given = index_err bytes fault.Count h given
    by_fault (fault.Name n) given = index_err bytes (fault.Name n) h given
    by_fault (fault.Order n) given = index_err bytes (fault.Order n) h given
    by_fault (fault.Extension t) given = index_err bytes (fault.Extension t) h given
    by_fault fault.Hash given = index_err bytes fault.Hash h given
    by_fault fault.Memory given = tt
