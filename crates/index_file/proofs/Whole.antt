-- The whole file: what is read is spelled so, and what is spelled so is read.
use Rattle.std.proofs.Common.{◌≡◌, ◌⊎◌, inl, inr, ℕ, zero, suc, ◌+◌, ◌-◌, ◌*◌, ◌^◌, ◌<◌, ◌≤◌, Bool, true, false, ◌&&◌, ◌||◌, ◌==◌, nat_lt, cond, List, [], ◌∷◌, ◌++◌, length, take, drop, slice_index, replicate, map, codes, Result, Ok, Err, refl, sym, ap, subst, ◌∙◌, append_assoc, arith}
use Rattle.std.specs.Prelude.{IfOk}
use Rattle.std.specs.Global.{Vec}
use Rattle.std.specs.List.{AllByRecursion, flat_map}
use Rattle.std.specs.Int.{w32, from_be_bytes, to_be_bytes}
use Rattle.std.specs.Str.{bytes_eq}
use Rattle.std.specs.Cmp.Lexicographic.{nat_list_eq_equiv}
use Rattle.std.proofs.lemmas.Bool.Decides.{nat_tests}
use Rattle.std.proofs.lemmas.Bool.{eqb-true}
use Rattle.std.proofs.lemmas.List.{append-nil, take_at, drop_at, take-append-drop, length-append, length-take, length-map}
use Rattle.std.proofs.lemmas.Nat.{be_bytes_4, from_be_bytes-to_be_bytes_4}
use Rattle.hex.specs.Hex.{IsBytes}
use Rattle.sha1.specs.Sha1.{sha1, digest_bytes}
use Rattle.index_file.specs.declared.entry.IndexEntry.{IndexEntry}
use Rattle.index_file.specs.declared.fault.IndexFault.{IndexFault}
use Rattle.index_file.specs.declared.fault.IndexFault.TheVariants as fault
use Rattle.index_file.specs.Entries.{IsInOrder, IsStaged, IsIndex}
use Rattle.index_file.specs.Spelling.{Stat, IsRow, row_text, Extension, extension_text, header_text, body_text, IsTrailer, Spells, no_stat, entry_text, index_text}
use Rattle.index_file.specs.Reading.{Gives, ◌>>=◌, number_at, header_at, entries_at, trailer_at, is_trailer, are_zero, index_of}
use Rattle.index_file.proofs.Rows.{IsBytes-drop, IsBytes-take, zeros_are, zeros_pass}
use Rattle.index_file.proofs.Sequences.{bind_ok, ok_is, bytes_left, entries_of, entries_take, entries_on, trailer_takes, trailer_again}

not_less : (m n : ℕ) → nat_lt m n ≡ false → n ≤ m
not_less m n e = grind (arith, nat_tests)

is_not_less : (m n : ℕ) → n ≤ m → nat_lt m n ≡ false
is_not_less m n le = grind (arith, nat_tests)

guard_ok : {A : Type 0} (b : Bool) (d : IndexFault) (x y : A) → cond b (Err d) (Ok x) ≡ Ok y → (b ≡ false) × (x ≡ y)
guard_ok true d x y e = cc
guard_ok false d x y e = (refl, cc)

guarded : {A : Type 0} (b : Bool) (d : IndexFault) (r : Result A IndexFault) (y : A) → cond b r (Err d) ≡ Ok y → (b ≡ true) × (r ≡ Ok y)
guarded true d r y e = (refl, e)
guarded false d r y e = cc

-- ---- the header

pub number_takes : (bytes : List ℕ) (n : ℕ) (rest : List ℕ) → IsBytes bytes → number_at bytes ≡ Ok (n, rest)
    → (bytes ≡ to_be_bytes w32 n ++ rest) × (n < 2 ^ 32)
number_takes bytes n rest h e =
    let g = guard_ok (nat_lt (length bytes) 4) fault.Count (from_be_bytes w32 (take 4 bytes), drop 4 bytes) (n, rest) e in
    let long : 4 ≤ length bytes = not_less (length bytes) 4 g.0 in
    let n-is : from_be_bytes w32 (take 4 bytes) ≡ n = ap (λ (p : ℕ × List ℕ). p.0) g.1 in
    let rest-is : drop 4 bytes ≡ rest = ap (λ (p : ℕ × List ℕ). p.1) g.1 in
    let four = IsBytes-take 4 bytes h in
    let front : to_be_bytes w32 n ≡ take 4 bytes = be_bytes_4 (take 4 bytes) n (omega (arith, length-take 4 bytes)) four (sym n-is) in
    (sym (take-append-drop 4 bytes) ∙ ap (λ (x : List ℕ). x ++ drop 4 bytes) (sym front) ∙ ap (λ (x : List ℕ). to_be_bytes w32 n ++ x) rest-is, omega (arith, n-is, four 0, four 1, four 2, four 3))

abbrev answer : ℕ → List ℕ → Result (ℕ × List ℕ) IndexFault
answer n rest = Ok (n, rest)

same_answer : (m n : ℕ) (xs ys : List ℕ) → m ≡ n → xs ≡ ys → answer m xs ≡ answer n ys
same_answer m n xs ys p q = cc

number_in_front : (x rest : List ℕ) (n : ℕ) → length x ≡ 4 → from_be_bytes w32 x ≡ n → number_at (x ++ rest) ≡ Ok (n, rest)
number_in_front x rest n four e =
    let long : nat_lt (length (x ++ rest)) 4 ≡ false = is_not_less (length (x ++ rest)) 4 (omega (arith, length-append x rest)) in
    rw long (same_answer (from_be_bytes w32 (take 4 (x ++ rest))) n (drop 4 (x ++ rest)) rest (ap (from_be_bytes w32) (take_at x rest 4 four) ∙ e) (drop_at x rest 4 four))

pub number_again : (n : ℕ) (rest : List ℕ) → n < 2 ^ 32 → number_at (to_be_bytes w32 n ++ rest) ≡ Ok (n, rest)
number_again n rest lt = number_in_front (to_be_bytes w32 n) rest n refl (from_be_bytes-to_be_bytes_4 n lt)

pub same_bytes : (xs ys : List ℕ) → bytes_eq xs ys ≡ true → xs ≡ ys
same_bytes [] [] e = refl
same_bytes [] (y ∷ ys) e = cc
same_bytes (x ∷ xs) [] e = cc
same_bytes (x ∷ xs) (y ∷ ys) e =
    let s = both (x == y) (bytes_eq xs ys) e in
    ap (λ (n : ℕ). n ∷ xs) (eqb-true x y s.0) ∙ ap (λ (zs : List ℕ). y ∷ zs) (same_bytes xs ys s.1)
  where
    both : (a b : Bool) → a && b ≡ true → (a ≡ true) × (b ≡ true)
    both true b e = (refl, e)
    both false b e = cc

pub header_takes : (bytes : List ℕ) (n : ℕ) (rest : List ℕ) → IsBytes bytes → header_at bytes ≡ Ok (n, rest)
    → (bytes ≡ header_text n ++ rest) × (n < 2 ^ 32)
unfolding header_at
header_takes bytes n rest h e =
    let magic = guarded (bytes_eq (take 4 bytes) (codes "DIRC")) fault.Magic (number_at (drop 4 bytes) >>= λ version. cond (version.0 == 2) (number_at version.1) (Err (fault.Version version.0))) (n, rest) e in
    let a = bind_ok (number_at (drop 4 bytes)) (λ version. cond (version.0 == 2) (number_at version.1) (Err (fault.Version version.0))) (n, rest) magic.1 in
    let two = guarded (a.0.0 == 2) (fault.Version a.0.0) (number_at a.0.1) (n, rest) a.2 in
    let first = number_takes (drop 4 bytes) a.0.0 a.0.1 (IsBytes-drop 4 bytes h) a.1 in
    let second = number_takes a.0.1 n rest (bytes_left (drop 4 bytes) (to_be_bytes w32 a.0.0) a.0.1 (IsBytes-drop 4 bytes h) first.0).1 two.1 in
    let version : a.0.0 ≡ 2 = eqb-true a.0.0 2 two.0 in (
      sym (take-append-drop 4 bytes) ∙ ap (λ (x : List ℕ). x ++ drop 4 bytes) (same_bytes (take 4 bytes) (codes "DIRC") magic.0)
          ∙ ap (λ (x : List ℕ). codes "DIRC" ++ x) (first.0 ∙ ap (λ (k : ℕ). to_be_bytes w32 k ++ a.0.1) version ∙ ap (λ (x : List ℕ). to_be_bytes w32 2 ++ x) second.0),
      second.1,
    )

-- what is read behind a signature and a version
pub header_by : (rest after : List ℕ) (v : ℕ) → number_at rest ≡ Ok (v, after)
    → header_at (codes "DIRC" ++ rest) ≡ cond (v == 2) (number_at after) (Err (fault.Version v))
unfolding header_at
header_by rest after v e =
    ap (λ (r : Result (ℕ × List ℕ) IndexFault). r >>= λ version. cond (version.0 == 2) (number_at version.1) (Err (fault.Version version.0))) e

pub header_again : (n : ℕ) (rest : List ℕ) → n < 2 ^ 32 → header_at (header_text n ++ rest) ≡ Ok (n, rest)
header_again n rest lt =
    header_by (to_be_bytes w32 2 ++ (to_be_bytes w32 n ++ rest)) (to_be_bytes w32 n ++ rest) 2 (number_again 2 (to_be_bytes w32 n ++ rest) (omega arith))
    ∙ number_again n rest lt

-- ---- the trailer

either : (a b : Bool) → a || b ≡ true → (a ≡ true) ⊎ (b ≡ true)
either true b e = inl refl
either false b e = inr e

or_right : (a b : Bool) → b ≡ true → a || b ≡ true
or_right true b e = refl
or_right false b e = e

or_left : (a b : Bool) → a ≡ true → a || b ≡ true
or_left true b e = refl
or_left false b e = cc

pub trailer_from : (body trailer : List ℕ) → length trailer ≡ 20 → is_trailer body trailer ≡ true → IsTrailer body trailer
trailer_from body trailer twenty e = elim (either (bytes_eq trailer (sha1 body)) (are_zero trailer) e) [
  | inl same ↦ inl (same_bytes trailer (sha1 body) same)
  | inr zeros ↦ inr (zeros_are trailer zeros ∙ ap (λ (k : ℕ). replicate k 0) twenty)
]

pub trailer_passes : (body trailer : List ℕ) → IsTrailer body trailer → is_trailer body trailer ≡ true
trailer_passes body trailer (inl same) =
    or_left (bytes_eq trailer (sha1 body)) (are_zero trailer) (ap (λ (x : List ℕ). bytes_eq x (sha1 body)) same ∙ nat_list_eq_equiv.refl (sha1 body))
trailer_passes body trailer (inr zeros) = or_right (bytes_eq trailer (sha1 body)) (are_zero trailer) (ap are_zero zeros ∙ zeros_pass 20)

digest_len : (h : List ℕ) (n : ℕ) → length (digest_bytes h n) ≡ 4 * n
unfolding digest_bytes
digest_len h zero = refl
digest_len h (suc n) = length-append (digest_bytes h n) (to_be_bytes w32 (slice_index h n)) ∙ omega (arith, digest_len h n)

length-sha1 : (m : List ℕ) → length (sha1 m) ≡ 20
unfolding sha1
length-sha1 m = digest_len _ 5

pub trailer_len : (body trailer : List ℕ) → IsTrailer body trailer → length trailer ≡ 20
trailer_len body trailer (inl same) = ap length same ∙ length-sha1 body
trailer_len body trailer (inr zeros) = ap length zeros

-- ---- the whole

staged_rows : (rows : List (Stat × IndexEntry)) → AllByRecursion IsRow rows → AllByRecursion IsStaged (entries_of rows)
staged_rows [] h = tt
staged_rows (r ∷ rows) h = (h.0.staged, staged_rows rows h.1)

pub body_of : (count : ℕ) (rows : List (Stat × IndexEntry)) (extensions : List Extension) (bytes rest tail trailer : List ℕ) → length rows ≡ count
    → bytes ≡ header_text count ++ rest → rest ≡ flat_map row_text rows ++ tail → tail ≡ flat_map extension_text extensions ++ trailer
    → bytes ≡ body_text rows extensions ++ trailer
body_of count rows extensions bytes rest tail trailer n p q r =
    p ∙ ap (λ (k : ℕ). header_text k ++ rest) (sym n) ∙ ap (λ (x : List ℕ). header_text (length rows) ++ x) (q ∙ ap (λ (x : List ℕ). flat_map row_text rows ++ x) r ∙ sym (append_assoc (flat_map row_text rows) (flat_map extension_text extensions) trailer))
    ∙ sym (append_assoc (header_text (length rows)) (flat_map row_text rows ++ flat_map extension_text extensions) trailer)

pub front_of_body : (body trailer bytes : List ℕ) → length trailer ≡ 20 → bytes ≡ body ++ trailer → take (length bytes - 20) bytes ≡ body
front_of_body body trailer bytes twenty e =
    let n : length bytes - 20 ≡ length body = omega (arith, ap length e, length-append body trailer) in
    ap (λ (k : ℕ). take k bytes) n ∙ ap (take (length body)) e ∙ take_at body trailer (length body) refl

pub index_takes : (bytes : List ℕ) (es : List IndexEntry) → IsBytes bytes → index_of bytes ≡ Ok es → Spells es bytes
unfolding index_of
index_takes bytes es h eq =
    let body : List ℕ = take (length bytes - 20) bytes in
    let a = bind_ok (header_at bytes) (λ count. entries_at count.0 [] count.1 >>= λ entries. trailer_at (length entries.1) entries.1 >>= λ trailer. cond (is_trailer body trailer) (Ok entries.0) (Err fault.Hash)) es eq in
    let b = bind_ok (entries_at a.0.0 [] a.0.1) (λ entries. trailer_at (length entries.1) entries.1 >>= λ trailer. cond (is_trailer body trailer) (Ok entries.0) (Err fault.Hash)) es a.2 in
    let c = bind_ok (trailer_at (length b.0.1) b.0.1) (λ trailer. cond (is_trailer body trailer) (Ok b.0.0) (Err fault.Hash)) es b.2 in
    let last = guarded (is_trailer body c.0) fault.Hash (Ok b.0.0) es c.2 in
    let header = header_takes bytes a.0.0 a.0.1 h a.1 in
    let rows = entries_take a.0.0 [] a.0.1 b.0.0 b.0.1 (bytes_left bytes (header_text a.0.0) a.0.1 h header.0).1 b.1 in
    let tail = trailer_takes (length b.0.1) b.0.1 c.0 rows.rest_bytes c.1 in
    let text = body_of a.0.0 rows.rows tail.extensions bytes a.0.1 b.0.1 c.0 rows.number header.0 rows.text tail.text in
    let es-is : b.0.0 ≡ es = ok_is b.0.0 es last.1 in
    let entries : entries_of rows.rows ≡ es = sym rows.entries ∙ es-is in
    let P : List IndexEntry → Type 0 = λ x. IsInOrder x in
    let Q : List IndexEntry → Type 0 = λ x. AllByRecursion IsStaged x in
    let R : List ℕ → Type 0 = λ x. IsTrailer x c.0 in
    record {
      index = record {
        in_order = subst P es-is (rows.in_order tt);
        staged = subst Q entries (staged_rows rows.rows rows.are_rows);
        few = omega (arith, header.1, ap length entries, length-map rows.rows (λ (r : Stat × IndexEntry). r.1), rows.number);
      };
      rows = rows.rows;
      entries = entries;
      are_rows = rows.are_rows;
      extensions = tail.extensions;
      are_extensions = tail.are_extensions;
      trailer = c.0;
      is_trailer =
          subst R (front_of_body (body_text rows.rows tail.extensions) c.0 bytes tail.twenty text) (trailer_from body c.0 tail.twenty last.0);
      text = text;
    }

-- reading behind the entries
pub reads_tail : (rows : List (Stat × IndexEntry)) (bytes tail : List ℕ) → AllByRecursion IsRow rows → IsInOrder (entries_of rows)
    → length rows < 2 ^ 32 → bytes ≡ header_text (length rows) ++ (flat_map row_text rows ++ tail)
    → index_of bytes ≡ (trailer_at (length tail) tail >>= λ trailer. cond (is_trailer (take (length bytes - 20) bytes) trailer) (Ok (entries_of rows)) (Err fault.Hash))
unfolding index_of entries_at
reads_tail rows bytes tail h o few text =
    let n : length rows + 0 ≡ length rows = omega arith in
    let header : header_at bytes ≡ Ok (length rows, flat_map row_text rows ++ tail) = ap header_at text ∙ header_again (length rows) (flat_map row_text rows ++ tail) few in
    let entries : entries_at (length rows) [] (flat_map row_text rows ++ tail) ≡ Ok (entries_of rows, tail) = ap (λ (k : ℕ). entries_at k [] (flat_map row_text rows ++ tail)) (sym n) ∙ entries_on [] rows tail 0 h o in
    rw (header, entries) refl

pub index_again : (bytes : List ℕ) (es : List IndexEntry) → Spells es bytes → index_of bytes ≡ Ok es
index_again bytes es s =
    let P : List IndexEntry → Type 0 = λ x. IsInOrder x in
    let twenty = trailer_len (body_text s.rows s.extensions) s.trailer s.is_trailer in
    let tail : List ℕ = flat_map extension_text s.extensions ++ s.trailer in
    let text : bytes ≡ header_text (length s.rows) ++ (flat_map row_text s.rows ++ tail) =
    s.text ∙ append_assoc (header_text (length s.rows)) (flat_map row_text s.rows ++ flat_map extension_text s.extensions) s.trailer ∙ ap (λ (x : List ℕ). header_text (length s.rows) ++ x) (append_assoc (flat_map row_text s.rows) (flat_map extension_text s.extensions) s.trailer) in
    let few : length s.rows < 2 ^ 32 = omega (arith, s.index.few, ap length s.entries, length-map s.rows (λ (r : Stat × IndexEntry). r.1)) in
    let front : take (length bytes - 20) bytes ≡ body_text s.rows s.extensions = front_of_body (body_text s.rows s.extensions) s.trailer bytes twenty s.text in
    reads_tail s.rows bytes tail s.are_rows (subst P (sym s.entries) s.index.in_order) few text
    ∙ rw (trailer_again (length tail) s.extensions s.trailer s.are_extensions twenty (omega arith), front, trailer_passes (body_text s.rows s.extensions) s.trailer s.is_trailer) (ap (λ (x : List IndexEntry). Ok x) s.entries)

-- ---- what is written

same_rows : (es : List IndexEntry) → flat_map row_text (map (λ e. (no_stat, e)) es) ≡ flat_map entry_text es
same_rows [] = refl
same_rows (e ∷ es) = ap (λ (x : List ℕ). entry_text e ++ x) (same_rows es)

same_entries : (es : List IndexEntry) → map (λ (r : Stat × IndexEntry). r.1) (map (λ e. (no_stat, e)) es) ≡ es
same_entries [] = refl
same_entries (e ∷ es) = ap (λ (x : List IndexEntry). e ∷ x) (same_entries es)

all_rows : (es : List IndexEntry) → AllByRecursion (λ e. IsRow (no_stat, e)) es → AllByRecursion IsRow (map (λ e. (no_stat, e)) es)
all_rows [] h = tt
all_rows (e ∷ es) h = (h.0, all_rows es h.1)

pub text_spells : (es : List IndexEntry) → IsIndex es → AllByRecursion (λ e. IsRow (no_stat, e)) es → Spells es (index_text es)
text_spells es index h =
    let rows : List (Stat × IndexEntry) = map (λ e. (no_stat, e)) es in
    let body : header_text (length es) ++ flat_map entry_text es ≡ body_text rows [] =
    ap (λ (k : ℕ). header_text k ++ flat_map entry_text es) (sym (length-map es (λ e. (no_stat, e)))) ∙ ap (λ (x : List ℕ). header_text (length rows) ++ x) (sym (same_rows es) ∙ sym (append-nil (flat_map row_text rows))) in
    record {
      index = index;
      rows = rows;
      entries = same_entries es;
      are_rows = all_rows es h;
      extensions = [];
      are_extensions = tt;
      trailer = sha1 (body_text rows []);
      is_trailer = inl refl;
      text = ap (λ (b : List ℕ). b ++ sha1 b) body;
    }

-- ---- what a reader answered

pub is_spelled : (bytes : List ℕ) (r : Result (Vec IndexEntry) IndexFault) → IsBytes bytes → Gives (λ v. v.items) r (index_of bytes)
    → IfOk r (λ entries. Spells entries.items bytes)
is_spelled bytes (Ok v) h given = index_takes bytes v.items h given
is_spelled bytes (Err f) h given = tt

pub gives_along : {X Y : Type 0} (view : X → Y) (r : Result X IndexFault) (x y : Result Y IndexFault) → x ≡ y → Gives view r x → Gives view r y
gives_along view r x y e h = let P = λ (z : Result _ IndexFault). Gives view r z in subst P e h
