-- Entries and extensions one after the other: what is read is spelled so, and what is spelled so is read.
use Rattle.std.proofs.Common.{◌≡◌, ℕ, zero, suc, ◌+◌, ◌^◌, ◌<◌, ◌≤◌, Bool, true, false, not, ◌&&◌, ◌==◌, nat_lt, cond, List, [], ◌∷◌, ◌++◌, length, take, drop, slice_index, map, Result, Ok, Err, refl, sym, ap, subst, ◌∙◌, append_assoc, arith}
use Rattle.std.specs.List.{AllByRecursion, flat_map}
use Rattle.std.specs.Int.{w32, from_be_bytes, to_be_bytes}
use Rattle.std.proofs.lemmas.Bool.Decides.{nat_tests}
use Rattle.std.proofs.lemmas.Bool.{eqb-true}
use Rattle.std.proofs.lemmas.List.{append-nil, take_at, drop_at, take-append-drop, length-append, length-take, length-drop, drop-drop}
use Rattle.std.proofs.lemmas.Nat.{be_bytes_4, from_be_bytes-to_be_bytes_4}
use Rattle.hex.specs.Hex.{IsBytes}
use Rattle.index_file.specs.declared.entry.IndexEntry.{IndexEntry}
use Rattle.index_file.specs.declared.fault.IndexFault.{IndexFault}
use Rattle.index_file.specs.declared.fault.IndexFault.TheVariants as fault
use Rattle.index_file.specs.Entries.{IsInOrder, may_precede}
use Rattle.index_file.specs.Spelling.{Stat, IsRow, row_text, Extension, IsExtension, extension_text}
use Rattle.index_file.specs.Fronts.{may_follow}
use Rattle.index_file.specs.Reading.{◌>>=◌, whole_at, entry_in, entry_at, appended, entries_at, extension_at, trailer_at, is_capital}
use Rattle.index_file.proofs.EntryLoop.{appended_is}
use Rattle.index_file.proofs.Sorted.{in_order_push}
use Rattle.index_file.proofs.Trailers.{any_bound, trailer_end, trailer_more}
use Rattle.index_file.proofs.Rows.{IsBytes-drop, IsBytes-take, whole_takes, whole_again, stat_of, row_taken, row_again, row_whole}

-- the value of a step that did not fail
pub bind_ok : {A B : Type 0} (r : Result A IndexFault) (f : A → Result B IndexFault) (y : B) → (r >>= f) ≡ Ok y → (x : A) × (r ≡ Ok x) × (f x ≡ Ok y)
bind_ok (Ok x) f y e = (x, refl, e)
bind_ok (Err d) f y e = cc

abbrev done : {A : Type 0} → A → Result A IndexFault
done x = Ok x

pub ok_is : {A : Type 0} (x y : A) → done x ≡ done y → x ≡ y
ok_is x y e = cc

pub bytes_left : (bytes text rest : List ℕ) → IsBytes bytes → bytes ≡ text ++ rest → IsBytes text × IsBytes rest
bytes_left bytes text rest h e =
    let P : List ℕ → Type 0 = λ bs. IsBytes bs in
    let all = subst P e h in
    (subst P (take_at text rest (length text) refl) (IsBytes-take (length text) (text ++ rest) all), subst P (drop_at text rest (length text) refl) (IsBytes-drop (length text) (text ++ rest) all))

-- ---- one entry

pub record TakesRow (bytes : List ℕ) (e : IndexEntry) (rest : List ℕ) : Type 0 where
  pub stat : Stat
  pub text : bytes ≡ row_text (stat, e) ++ rest
  pub is_row : IsRow (stat, e)
  pub rest_bytes : IsBytes rest

row_along : (bytes : List ℕ) (p q : IndexEntry × List ℕ) → p ≡ q → TakesRow bytes p.0 p.1 → TakesRow bytes q.0 q.1
row_along bytes p q e h = let P : IndexEntry × List ℕ → Type 0 = λ x. TakesRow bytes x.0 x.1 in subst P e h

pub entry_takes : (n : ℕ) (bytes : List ℕ) (e : IndexEntry) (rest : List ℕ) → IsBytes bytes → entry_at n bytes ≡ Ok (e, rest) → TakesRow bytes e rest
unfolding entry_at
entry_takes n bytes e rest h eq =
    let a = bind_ok (whole_at bytes) (λ whole. entry_in n whole.0 >>= λ entry. Ok (entry, whole.1)) (e, rest) eq in
    let b = bind_ok (entry_in n a.0.0) (λ entry. Ok (entry, a.0.1)) (e, rest) a.2 in
    let w = whole_takes bytes a.0.0 a.0.1 a.1 in
    let parts = bytes_left bytes a.0.0 a.0.1 h w.parts in
    let t = row_taken n a.0.0 b.0 w.whole parts.0 b.1 in
    let last : (b.0, a.0.1) ≡ (e, rest) = ok_is (b.0, a.0.1) (e, rest) b.2 in
    row_along bytes (b.0, a.0.1) (e, rest) last (record { stat = stat_of a.0.0; text = w.parts ∙ ap (λ (x : List ℕ). x ++ a.0.1) t.0; is_row = t.1; rest_bytes = parts.1 })

pub entry_again : (n : ℕ) (r : Stat × IndexEntry) (rest : List ℕ) → IsRow r → entry_at n (row_text r ++ rest) ≡ Ok (r.1, rest)
unfolding entry_at
entry_again n r rest h = rw (whole_again (row_text r) rest (row_whole r h), row_again n r h) refl

-- ---- entries

abbrev pub entries_of : List (Stat × IndexEntry) → List IndexEntry
entries_of rows = map (λ r. r.1) rows

pub record TakesRows (n : ℕ) (es : List IndexEntry) (bytes : List ℕ) (all : List IndexEntry) (rest : List ℕ) : Type 0 where
  pub rows : List (Stat × IndexEntry)
  pub text : bytes ≡ flat_map row_text rows ++ rest
  pub are_rows : AllByRecursion IsRow rows
  pub number : length rows ≡ n
  pub entries : all ≡ es ++ entries_of rows
  pub in_order : IsInOrder es → IsInOrder all
  pub rest_bytes : IsBytes rest

pub entries_take : (n : ℕ) (es : List IndexEntry) (bytes : List ℕ) (all : List IndexEntry) (rest : List ℕ) → IsBytes bytes
    → entries_at n es bytes ≡ Ok (all, rest) → TakesRows n es bytes all rest
unfolding entries_at
entries_take zero es bytes all rest h eq =
    let same = ok_is (es, bytes) (all, rest) eq in
    let es-is : es ≡ all = ap (λ (p : List IndexEntry × List ℕ). p.0) same in
    let rest-is : bytes ≡ rest = ap (λ (p : List IndexEntry × List ℕ). p.1) same in
    let P : List IndexEntry → Type 0 = λ x. IsInOrder x in
    let Q : List ℕ → Type 0 = λ x. IsBytes x in
    record { rows = []; text = rest-is; are_rows = tt; number = refl; entries = sym es-is ∙ sym (append-nil es); in_order = λ o. subst P es-is o; rest_bytes = subst Q rest-is h }
entries_take (suc n) es bytes all rest h eq =
    let a = bind_ok (entry_at (length es + 1) bytes) (λ entry. appended es entry.0 >>= λ more. entries_at n more entry.1) (all, rest) eq in
    let b = bind_ok (appended es a.0.0) (λ more. entries_at n more a.0.1) (all, rest) a.2 in
    let first = entry_takes (length es + 1) bytes a.0.0 a.0.1 h a.1 in
    let second = entries_take n b.0 a.0.1 all rest first.rest_bytes b.2 in
    let follows = appended_is es a.0.0 b.0 b.1 in
    let P : List IndexEntry → Type 0 = λ x. IsInOrder x in
    record {
      rows = (first.stat, a.0.0) ∷ second.rows;
      text =
          first.text ∙ ap (λ (x : List ℕ). row_text (first.stat, a.0.0) ++ x) second.text
          ∙ sym (append_assoc (row_text (first.stat, a.0.0)) (flat_map row_text second.rows) rest);
      are_rows = (first.is_row, second.are_rows);
      number = ap suc second.number;
      entries =
          second.entries ∙ ap (λ (x : List IndexEntry). x ++ entries_of second.rows) (sym follows.1)
          ∙ append_assoc es (a.0.0 ∷ []) (entries_of second.rows);
      in_order = λ o. second.in_order (subst P follows.1 (in_order_push es a.0.0 o follows.0));
      rest_bytes = second.rest_bytes;
    }

-- one of the later entries may follow the first
later : (d e : IndexEntry) (es more : List IndexEntry) → AllByRecursion (λ f. may_precede d f ≡ true) (es ++ e ∷ more) → may_precede d e ≡ true
later d e [] more h = h.0
later d e (f ∷ es) more h = later d e es more h.1

also : (a b : Bool) → a ≡ true → b ≡ true → a && b ≡ true
also true b p q = q
also false b p q = cc

pub may_from : (es : List IndexEntry) (e : IndexEntry) (more : List IndexEntry) → IsInOrder (es ++ e ∷ more) → may_follow es e ≡ true
may_from [] e more h = refl
may_from (d ∷ es) e more h = also (may_precede d e) (may_follow es e) (later d e es more h.0) (may_from es e more h.1)

-- entries that may stand there are read one after the other
pub entries_on : (es : List IndexEntry) (rows : List (Stat × IndexEntry)) (rest : List ℕ) (n : ℕ) → AllByRecursion IsRow rows
    → IsInOrder (es ++ entries_of rows)
    → entries_at (length rows + n) es (flat_map row_text rows ++ rest) ≡ entries_at n (es ++ entries_of rows) rest
unfolding entries_at appended
entries_on es [] rest n h o = let k : 0 + n ≡ n = omega arith in rw k (ap (λ (x : List IndexEntry). entries_at n x rest) (sym (append-nil es)))
entries_on es (r ∷ rows) rest n h o =
    let text : flat_map row_text (r ∷ rows) ++ rest ≡ row_text r ++ (flat_map row_text rows ++ rest) = append_assoc (row_text r) (flat_map row_text rows) rest in
    let follows = may_from es r.1 (entries_of rows) o in
    let grown : (es ++ r.1 ∷ []) ++ entries_of rows ≡ es ++ entries_of (r ∷ rows) = append_assoc es (r.1 ∷ []) (entries_of rows) in
    let P : List IndexEntry → Type 0 = λ x. IsInOrder x in
    let k : suc (length rows) + n ≡ suc (length rows + n) = omega arith in
    ap (λ (m : ℕ). entries_at m es (flat_map row_text (r ∷ rows) ++ rest)) k ∙ ap (entries_at (suc (length rows + n)) es) text ∙ rw (entry_again (length es + 1) r (flat_map row_text rows ++ rest) h.0, follows)
    (entries_on (es ++ r.1 ∷ []) rows rest n h.1 (subst P (sym grown) o) ∙ ap (λ (x : List IndexEntry). entries_at n x rest) grown)

-- ---- extensions

three_guards : (a b c : Bool) (x y z : IndexFault) (v w : List ℕ) → cond a (Err x) (cond b (Err y) (cond c (Err z) (Ok v))) ≡ Ok w
    → (a ≡ false) × (b ≡ false) × (c ≡ false) × (v ≡ w)
three_guards false false false x y z v w e = (refl, refl, refl, cc)
three_guards true b c x y z v w e = cc
three_guards false true c x y z v w e = cc
three_guards false false true x y z v w e = cc

not_less : (m n : ℕ) → nat_lt m n ≡ false → n ≤ m
not_less m n e = grind (arith, nat_tests)

is_not_less : (m n : ℕ) → n ≤ m → nat_lt m n ≡ false
is_not_less m n le = grind (arith, nat_tests)

capital_from : (b : ℕ) → not (is_capital b) ≡ false → (65 ≤ b) × (b ≤ 90)
capital_from b e = grind (arith, nat_tests)

capital_again : (b : ℕ) → 65 ≤ b → b ≤ 90 → not (is_capital b) ≡ false
capital_again b p q = grind (arith, nat_tests)

pub first_byte : (bytes : List ℕ) → slice_index (take 4 bytes) 0 ≡ slice_index bytes 0
first_byte [] = refl
first_byte (b ∷ bytes) = refl

pub record TakesExtension (bytes rest : List ℕ) : Type 0 where
  pub extension : Extension
  pub text : bytes ≡ extension_text extension ++ rest
  pub is_extension : IsExtension extension
  pub rest_bytes : IsBytes rest
  pub long : 20 ≤ length rest

pub extension_takes : (bytes rest : List ℕ) → IsBytes bytes → extension_at bytes ≡ Ok rest → TakesExtension bytes rest
unfolding extension_at
extension_takes bytes rest h eq =
    let size : ℕ = from_be_bytes w32 (take 4 (drop 4 bytes)) in
    let g = three_guards (nat_lt (length bytes) 28) (not (is_capital (slice_index bytes 0))) (nat_lt (length bytes) (28 + size)) fault.Count (fault.Extension (take 4 bytes)) fault.Count (drop (8 + size) bytes) rest eq in
    let long : 28 + size ≤ length bytes = not_less (length bytes) (28 + size) g.2 in
    let number-bytes = IsBytes-take 4 (drop 4 bytes) (IsBytes-drop 4 bytes h) in
    let small : size < 2 ^ 32 = omega (arith, number-bytes 0, number-bytes 1, number-bytes 2, number-bytes 3) in
    let content : List ℕ = take size (drop 8 bytes) in
    let content-len : length content ≡ size = omega (arith, length-take size (drop 8 bytes), length-drop 8 bytes) in
    let four : length (take 4 (drop 4 bytes)) ≡ 4 = omega (arith, length-take 4 (drop 4 bytes), length-drop 4 bytes) in
    let number-is : take 4 (drop 4 bytes) ≡ to_be_bytes w32 (length content) = sym (be_bytes_4 (take 4 (drop 4 bytes)) (length content) four number-bytes content-len) in
    let capital = capital_from (slice_index bytes 0) g.1 in
    let P : List ℕ → Type 0 = λ x. IsBytes x in
    let rest-is : rest ≡ drop size (drop 8 bytes) = sym g.3 ∙ sym (drop-drop size 8 bytes) in
    record {
      extension = record { tag = take 4 bytes; content = content };
      text = sym (take-append-drop 4 bytes)
          ∙ ap (λ (x : List ℕ). take 4 bytes ++ x) (sym (take-append-drop 4 (drop 4 bytes)) ∙ ap (λ (x : List ℕ). take 4 (drop 4 bytes) ++ x) (drop-drop 4 4 bytes ∙ sym (take-append-drop size (drop 8 bytes)) ∙ ap (λ (x : List ℕ). content ++ x) (sym rest-is))
          ∙ ap (λ (x : List ℕ). x ++ (content ++ rest)) number-is)
          ∙ regroup (take 4 bytes) (to_be_bytes w32 (length content)) content rest;
      is_extension = record { tag = omega (arith, length-take 4 bytes); capital = rw (first_byte bytes) capital; content = omega arith };
      rest_bytes = subst P g.3 (IsBytes-drop (8 + size) bytes h);
      long = omega (arith, ap length g.3, length-drop (8 + size) bytes);
    }
  where
    regroup : (a b c d : List ℕ) → a ++ (b ++ (c ++ d)) ≡ (a ++ (b ++ c)) ++ d
    regroup a b c d = simp append_assoc

pub first_of_append : (xs ys : List ℕ) → 0 < length xs → slice_index (xs ++ ys) 0 ≡ slice_index xs 0
first_of_append [] ys lt = absurd (omega arith)
first_of_append (x ∷ xs) ys lt = refl

pub extension_again : (x : Extension) (rest : List ℕ) → IsExtension x → 20 ≤ length rest → extension_at (extension_text x ++ rest) ≡ Ok rest
unfolding extension_at
extension_again x rest h le =
    let bytes : List ℕ = extension_text x ++ rest in
    let text : bytes ≡ x.tag ++ (to_be_bytes w32 (length x.content) ++ (x.content ++ rest)) = simp append_assoc in
    let behind : drop 4 bytes ≡ to_be_bytes w32 (length x.content) ++ (x.content ++ rest) = ap (drop 4) text ∙ drop_at x.tag (to_be_bytes w32 (length x.content) ++ (x.content ++ rest)) 4 h.tag in
    let size : from_be_bytes w32 (take 4 (drop 4 bytes)) ≡ length x.content =
    ap (λ (b : List ℕ). from_be_bytes w32 (take 4 b)) behind ∙ ap (from_be_bytes w32) (take_at (to_be_bytes w32 (length x.content)) (x.content ++ rest) 4 refl) ∙ from_be_bytes-to_be_bytes_4 (length x.content) h.content in
    let len : length bytes ≡ 8 + length x.content + length rest = ap length text ∙ simp length-append (omega (arith, h.tag)) in
    let first : nat_lt (length bytes) 28 ≡ false = is_not_less (length bytes) 28 (omega arith) in
    let byte : slice_index bytes 0 ≡ slice_index x.tag 0 = ap (λ (b : List ℕ). slice_index b 0) text ∙ first_of_append x.tag (to_be_bytes w32 (length x.content) ++ (x.content ++ rest)) (omega (arith, h.tag)) in
    let second : not (is_capital (slice_index bytes 0)) ≡ false = ap (λ (b : ℕ). not (is_capital b)) byte ∙ capital_again (slice_index x.tag 0) h.capital.0 h.capital.1 in
    let third : nat_lt (length bytes) (28 + from_be_bytes w32 (take 4 (drop 4 bytes))) ≡ false = ap (λ (k : ℕ). nat_lt (length bytes) (28 + k)) size ∙ is_not_less (length bytes) (28 + length x.content) (omega arith) in
    let last : drop (8 + from_be_bytes w32 (take 4 (drop 4 bytes))) bytes ≡ rest =
    ap (λ (k : ℕ). drop (8 + k) bytes) size ∙ drop_at (extension_text x) rest (8 + length x.content) (simp length-append (omega (arith, h.tag))) in
    passed (nat_lt (length bytes) 28) (not (is_capital (slice_index bytes 0))) (nat_lt (length bytes) (28 + from_be_bytes w32 (take 4 (drop 4 bytes)))) fault.Count (fault.Extension (take 4 bytes)) fault.Count _ rest first second third last
  where
    passed : (a b c : Bool) (x y z : IndexFault) (v w : List ℕ) → a ≡ false → b ≡ false → c ≡ false → v ≡ w
        → cond a (Err x) (cond b (Err y) (cond c (Err z) (Ok v))) ≡ Ok w
    passed a b c x y z v w p q r s = rw (p, q, r, s) refl

-- ---- the trailer

pub record TakesExtensions (bytes trailer : List ℕ) : Type 0 where
  pub extensions : List Extension
  pub text : bytes ≡ flat_map extension_text extensions ++ trailer
  pub are_extensions : AllByRecursion IsExtension extensions
  pub twenty : length trailer ≡ 20

pub trailer_takes : (n : ℕ) (bytes trailer : List ℕ) → IsBytes bytes → trailer_at n bytes ≡ Ok trailer → TakesExtensions bytes trailer
unfolding trailer_at
trailer_takes zero bytes trailer h eq = at_end (length bytes == 20) refl eq
  where
    at_end : (t : Bool) → (length bytes == 20) ≡ t → cond t (Ok bytes) (Err fault.Count) ≡ Ok trailer → TakesExtensions bytes trailer
    at_end true same e =
        let is : bytes ≡ trailer = cc in record { extensions = []; text = is; are_extensions = tt; twenty = sym (ap length is) ∙ eqb-true (length bytes) 20 same }
    at_end false same e = cc
trailer_takes (suc n) bytes trailer h eq = at_end (length bytes == 20) refl eq (λ rest b e. trailer_takes n rest trailer b e)
  where
    at_end : (t : Bool) → (length bytes == 20) ≡ t → cond t (Ok bytes) (extension_at bytes >>= λ rest. trailer_at n rest) ≡ Ok trailer
        → ((rest : List ℕ) → IsBytes rest → trailer_at n rest ≡ Ok trailer → TakesExtensions rest trailer) → TakesExtensions bytes trailer
    at_end true same e go =
        let is : bytes ≡ trailer = cc in record { extensions = []; text = is; are_extensions = tt; twenty = sym (ap length is) ∙ eqb-true (length bytes) 20 same }
    at_end false same e go =
        let a = bind_ok (extension_at bytes) (λ rest. trailer_at n rest) trailer e in
        let first = extension_takes bytes a.0 h a.1 in
        let second = go a.0 first.rest_bytes a.2 in
        record {
          extensions = first.extension ∷ second.extensions;
          text =
              first.text ∙ ap (λ (x : List ℕ). extension_text first.extension ++ x) second.text
              ∙ sym (append_assoc (extension_text first.extension) (flat_map extension_text second.extensions) trailer);
          are_extensions = (first.is_extension, second.are_extensions);
          twenty = second.twenty;
        }

not_twenty : (n : ℕ) → 28 ≤ n → (n == 20) ≡ false
not_twenty n le = grind (arith, nat_tests)

is_twenty : (n : ℕ) → n ≡ 20 → (n == 20) ≡ true
is_twenty n e = grind (arith, nat_tests)

-- extensions are skipped one after the other
pub trailer_on : (n m : ℕ) (extensions : List Extension) (rest : List ℕ) → AllByRecursion IsExtension extensions → 20 ≤ length rest
    → length (flat_map extension_text extensions ++ rest) ≤ n → length rest ≤ m
    → trailer_at n (flat_map extension_text extensions ++ rest) ≡ trailer_at m rest
trailer_on n m [] rest h long le le' = any_bound n m rest le le'
trailer_on zero m (x ∷ extensions) rest h long le le' = absurd (omega (arith, length-append (flat_map extension_text (x ∷ extensions)) rest))
trailer_on (suc n) m (x ∷ extensions) rest h long le le' =
    let others : List ℕ = flat_map extension_text extensions ++ rest in
    let text : flat_map extension_text (x ∷ extensions) ++ rest ≡ extension_text x ++ others = append_assoc (extension_text x) (flat_map extension_text extensions) rest in
    let longer : 20 ≤ length others = omega (arith, length-append (flat_map extension_text extensions) rest) in
    let head-len : 8 ≤ length (extension_text x) = simp length-append (omega (arith, h.0.tag)) in
    let sum : length (extension_text x ++ others) ≡ length (extension_text x) + length others = length-append (extension_text x) others in
    let small : length others ≤ n = omega (arith, ap length text) in
    ap (trailer_at (suc n)) text ∙ sym (trailer_more n (extension_text x ++ others) others (not_twenty (length (extension_text x ++ others)) (omega arith)) (extension_again x others h.0 longer) small)
    ∙ trailer_on n m extensions rest h.1 long small le'

pub trailer_again : (n : ℕ) (extensions : List Extension) (trailer : List ℕ) → AllByRecursion IsExtension extensions → length trailer ≡ 20
    → length (flat_map extension_text extensions ++ trailer) ≤ n
    → trailer_at n (flat_map extension_text extensions ++ trailer) ≡ Ok trailer
trailer_again n extensions trailer h twenty le =
    trailer_on n (length trailer) extensions trailer h (omega (arith, twenty)) le (omega arith) ∙ trailer_end (length trailer) trailer (is_twenty (length trailer) twenty)
