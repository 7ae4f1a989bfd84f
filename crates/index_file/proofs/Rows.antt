-- The bytes of an entry: what is read is spelled so, and what is spelled so is read.
use Rattle.std.proofs.Common.{◌≡◌, inl, inr, ℕ, zero, suc, ◌+◌, ◌-◌, ◌*◌, ◌/◌, ◌%◌, ◌^◌, ◌<◌, ◌≤◌, Bool, true, false, ◌&&◌, ◌==◌, nat_lt, cond, List, [], ◌∷◌, ◌++◌, length, take, drop, replicate, Option, Some, None, Result, Ok, Err, refl, sym, ap, subst, ◌∙◌, arith}
use Rattle.std.specs.Int.{w16, w32, from_be_bytes, to_be_bytes}
use Rattle.std.proofs.lemmas.Bool.{eqb-true}
use Rattle.std.proofs.lemmas.Bool.Decides.{nat_tests}
use Rattle.std.proofs.lemmas.List.{take_at, drop_at, take-take, drop-take, drop-drop, take-append-drop, length-append, length-take, length-drop, length-replicate, get_or-drop, get_or-take, get_or_past}
use Rattle.std.proofs.lemmas.Bool.{cases_lt}
use Rattle.std.proofs.lemmas.Nat.{be_bytes_2, be_bytes_4, from_be_bytes-to_be_bytes_2, from_be_bytes-to_be_bytes_4}
use Rattle.hex.specs.Hex.{IsBytes}
use Rattle.seq_base.specs.Modes.{mode_number}
use Rattle.seq_base.specs.Paths.{IsPath}
use Rattle.seq_base.specs.declared.mode.Mode.{Mode}
use Rattle.seq_base.specs.declared.mode.Mode.TheVariants.{File, Exec, Link, Gitlink, Folder}
use Rattle.index_file.specs.declared.entry.IndexEntry.{IndexEntry}
use Rattle.index_file.specs.declared.fault.IndexFault.{IndexFault}
use Rattle.index_file.specs.declared.fault.IndexFault.TheVariants.{Count, Name}
use Rattle.index_file.specs.Spelling.{Stat, IsRow, row_text, flags, flags_in, size_of, padding, IsWhole}
use Rattle.index_file.specs.Reading.{Gives, whole_at, entry_of, entry_in, mode_of, is_path, are_zero}
use Rattle.index_file.proofs.PathTests.{path_passes, path_from, entry_good}

pub IsBytes-drop : (n : ℕ) (bytes : List ℕ) → IsBytes bytes → IsBytes (drop n bytes)
IsBytes-drop n bytes h i = rw get_or-drop (h (n + i))

pub IsBytes-take : (n : ℕ) (bytes : List ℕ) → IsBytes bytes → IsBytes (take n bytes)
IsBytes-take n bytes h i =
    elim (cases_lt i n) [
      | inl lt ↦ rw (get_or-take n bytes i 0 lt) (h i)
      | inr le ↦ rw (get_or_past (take n bytes) i 0 (omega (arith, length-take n bytes))) (omega arith)
    ]

not_less : (m n : ℕ) → nat_lt m n ≡ false → n ≤ m
not_less m n e = grind (arith, nat_tests)

is_not_less : (m n : ℕ) → n ≤ m → nat_lt m n ≡ false
is_not_less m n le = grind (arith, nat_tests)

-- ---- the bytes of an entry

flags_front : (n : ℕ) (bytes : List ℕ) → 62 ≤ n → flags_in (take n bytes) ≡ flags_in bytes
flags_front n bytes le =
    let k : 60 + (n - 60) ≡ n = omega arith in
    let e : drop 60 (take n bytes) ≡ take (n - 60) (drop 60 bytes) = ap (λ (m : ℕ). drop 60 (take m bytes)) (sym k) ∙ drop-take 60 (n - 60) bytes in
    ap (λ (bs : List ℕ). from_be_bytes w16 (take 2 bs)) e ∙ ap (from_be_bytes w16) (take-take 2 (n - 60) (drop 60 bytes) (omega arith))

flags_append : (text rest : List ℕ) → 62 ≤ length text → flags_in (text ++ rest) ≡ flags_in text
flags_append text rest le = sym (flags_front (length text) (text ++ rest) le) ∙ ap flags_in (take_at text rest (length text) refl)

two_guards : (a b : Bool) (x y : List ℕ × List ℕ) (f : IndexFault) → cond a (Err f) (cond b (Err f) (Ok x)) ≡ Ok y
    → (a ≡ false) × (b ≡ false) × (x ≡ y)
two_guards false false x y f e = (refl, refl, cc)
two_guards true b x y f e = cc
two_guards false true x y f e = cc

pub record Whole (bytes text rest : List ℕ) : Type 0 where
  pub parts : bytes ≡ text ++ rest
  pub whole : IsWhole text

pub whole_takes : (bytes text rest : List ℕ) → whole_at bytes ≡ Ok (text, rest) → Whole bytes text rest
unfolding whole_at
whole_takes bytes text rest e =
    let n = size_of (flags_in bytes) in
    let g = two_guards (nat_lt (length bytes) 62) (nat_lt (length bytes) n) (take n bytes, drop n bytes) (text, rest) Count e in
    let text-is : take n bytes ≡ text = ap (λ (p : List ℕ × List ℕ). p.0) g.2 in
    let rest-is : drop n bytes ≡ rest = ap (λ (p : List ℕ × List ℕ). p.1) g.2 in
    let long : n ≤ length bytes = not_less (length bytes) n g.1 in
    let len : length (take n bytes) ≡ n = omega (arith, length-take n bytes) in
    let large : 62 ≤ n = omega arith in
    let whole : IsWhole (take n bytes) = record { long = omega arith; size = len ∙ ap size_of (sym (flags_front n bytes large)) } in
    record { parts = rw (← text-is, ← rest-is) (sym (take-append-drop n bytes)); whole = subst IsWhole text-is whole }

pub whole_again : (text rest : List ℕ) → IsWhole text → whole_at (text ++ rest) ≡ Ok (text, rest)
unfolding whole_at
whole_again text rest w =
    let n : size_of (flags_in (text ++ rest)) ≡ length text = ap size_of (flags_append text rest w.long) ∙ sym w.size in
    let first : nat_lt (length (text ++ rest)) 62 ≡ false = is_not_less (length (text ++ rest)) 62 (omega (arith, length-append text rest, w.long)) in
    let second : nat_lt (length (text ++ rest)) (length text) ≡ false = is_not_less (length (text ++ rest)) (length text) (omega (arith, length-append text rest)) in
    rw (first, n, second, take_at text rest (length text) refl, drop_at text rest (length text) refl) refl

-- ---- numbers

not_so : (x y : Mode) → x ≡ y → (x ≡ Folder → ⊥) → y ≡ Folder → ⊥
not_so x y e h k = h (e ∙ k)

mode_by : (m : ℕ) (mode : Mode) (a b c d : Bool) → (m == 33188) ≡ a → (m == 33261) ≡ b → (m == 40960) ≡ c → (m == 57344) ≡ d
    → cond a (Some File) (cond b (Some Exec) (cond c (Some Link) (cond d (Some Gitlink) None))) ≡ Some mode → (m ≡ mode_number mode) × (mode ≡ Folder → ⊥)
mode_by m mode true b c d p q r s e = let is : File ≡ mode = cc in (eqb-true m 33188 p ∙ ap mode_number is, not_so File mode is (λ h. cc))
mode_by m mode false true c d p q r s e = let is : Exec ≡ mode = cc in (eqb-true m 33261 q ∙ ap mode_number is, not_so Exec mode is (λ h. cc))
mode_by m mode false false true d p q r s e = let is : Link ≡ mode = cc in (eqb-true m 40960 r ∙ ap mode_number is, not_so Link mode is (λ h. cc))
mode_by m mode false false false true p q r s e =
    let is : Gitlink ≡ mode = cc in (eqb-true m 57344 s ∙ ap mode_number is, not_so Gitlink mode is (λ h. cc))
mode_by m mode false false false false p q r s e = cc

mode_from : (m : ℕ) (mode : Mode) → mode_of m ≡ Some mode → (m ≡ mode_number mode) × (mode ≡ Folder → ⊥)
mode_from m mode e = mode_by m mode (m == 33188) (m == 33261) (m == 40960) (m == 57344) refl refl refl refl e

pub mode_again : (mode : Mode) → (mode ≡ Folder → ⊥) → mode_of (mode_number mode) ≡ Some mode
mode_again File h = refl
mode_again Exec h = refl
mode_again Link h = refl
mode_again Gitlink h = refl
mode_again Folder h = absurd (h refl)

mode_small : (mode : Mode) → mode_number mode < 2 ^ 32
mode_small File = omega arith
mode_small Exec = omega arith
mode_small Link = omega arith
mode_small Gitlink = omega arith
mode_small Folder = omega arith

flags_back : (f len : ℕ) → f / 16384 % 2 ≡ 0 → len ≡ f % 4096 → f / 32768 * 32768 + f / 4096 % 4 * 4096 + len ≡ f
flags_back f len e l = omega arith

flag_parts : (a s len : ℕ) → a < 2 → s < 4 → len ≤ 4095
    → ((a * 32768 + s * 4096 + len) / 16384 % 2 ≡ 0) × ((a * 32768 + s * 4096 + len) / 4096 % 4 ≡ s) × ((a * 32768 + s * 4096 + len) % 4096 ≡ len) × (a * 32768 + s * 4096 + len < 2 ^ 16)
flag_parts a s len p q r = (omega arith, omega arith, omega arith, omega arith)

both : (a b : Bool) → a && b ≡ true → (a ≡ true) × (b ≡ true)
both true b e = (refl, e)
both false b e = cc

pub zeros_are : (xs : List ℕ) → are_zero xs ≡ true → xs ≡ replicate (length xs) 0
zeros_are [] e = refl
zeros_are (x ∷ xs) e =
    let s = both (x == 0) (are_zero xs) e in
    ap (λ (n : ℕ). n ∷ xs) (eqb-true x 0 s.0) ∙ ap (λ (ys : List ℕ). 0 ∷ ys) (zeros_are xs s.1)

pub zeros_pass : (n : ℕ) → are_zero (replicate n 0) ≡ true
zeros_pass zero = refl
zeros_pass (suc n) = zeros_pass n

-- ---- an entry that is read

record Good (m : Option Mode) (i : List ℕ) (bits : ℕ) (p nuls : List ℕ) (e : IndexEntry) : Type 0 where
  mode : m ≡ Some e.mode
  plain : bits / 16384 % 2 ≡ 0
  zeros : are_zero nuls ≡ true
  is_path : IsPath p
  id : i ≡ e.id
  path : p ≡ e.path
  stage : bits / 4096 % 4 ≡ e.stage

tested : (t : Bool) (x y : IndexEntry) (f : IndexFault) → cond t (Ok x) (Err f) ≡ Ok y → (t ≡ true) × (x ≡ y)
tested true x y f e = (refl, cc)
tested false x y f e = cc

good_from : (n : ℕ) (m : Option Mode) (i : List ℕ) (bits : ℕ) (p nuls : List ℕ) (e : IndexEntry) → entry_of n m i bits p nuls ≡ Ok e
    → Good m i bits p nuls e
unfolding entry_of
good_from n None i bits p nuls e h = cc
good_from n (Some mode) i bits p nuls e h =
    let made : IndexEntry = record { path = p; stage = bits / 4096 % 4; mode = mode; id = i } in
    let t = tested ((bits / 16384 % 2 == 0) && (are_zero nuls && is_path p)) made e (Name n) h in
    let first = both (bits / 16384 % 2 == 0) (are_zero nuls && is_path p) t.0 in
    let second = both (are_zero nuls) (is_path p) first.1 in
    record {
      mode = ap (λ (x : IndexEntry). Some x.mode) t.1;
      plain = eqb-true (bits / 16384 % 2) 0 first.0;
      zeros = second.0;
      is_path = path_from p second.1;
      id = ap (λ (x : IndexEntry). x.id) t.1;
      path = ap (λ (x : IndexEntry). x.path) t.1;
      stage = ap (λ (x : IndexEntry). x.stage) t.1;
    }

-- what code that reads the fields gives
pub given_fields : (r : Result IndexEntry IndexFault) (n : ℕ) (text : List ℕ) (mo : Option Mode) (m : ℕ) (id : List ℕ) (bits len : ℕ) (p q : List ℕ)
    → mo ≡ mode_of m → m ≡ from_be_bytes w32 (take 4 (drop 24 text)) → id ≡ take 20 (drop 40 text)
    → bits ≡ flags_in text → len ≡ bits % 4096 → p ≡ take len (drop 62 text) → q ≡ drop (62 + len) text → Gives (λ e. e) r (entry_of n mo id bits p q) → Gives (λ e. e) r (entry_in n text)
unfolding entry_in
given_fields r n text mo m id bits len p q e1 e2 e3 e4 e5 e6 e7 h =
    let l : len ≡ flags_in text % 4096 = e5 ∙ ap (λ (k : ℕ). k % 4096) e4 in
    let P : Result IndexEntry IndexFault → Type 0 = λ x. Gives (λ e. e) r x in
    let mode-is : mo ≡ mode_of (from_be_bytes w32 (take 4 (drop 24 text))) = e1 ∙ ap mode_of e2 in
    let p-is : p ≡ take (flags_in text % 4096) (drop 62 text) = e6 ∙ ap (λ (k : ℕ). take k (drop 62 text)) l in
    let q-is : q ≡ drop (62 + flags_in text % 4096) text = e7 ∙ ap (λ (k : ℕ). drop (62 + k) text) l in
    let same : entry_of n mo id bits p q ≡ entry_of n (mode_of (from_be_bytes w32 (take 4 (drop 24 text)))) (take 20 (drop 40 text)) (flags_in text) (take (flags_in text % 4096) (drop 62 text)) (drop (62 + flags_in text % 4096) text) = cc in
    subst P same h

-- a part of a list, and what is behind it
next : (text x rest : List ℕ) (n k : ℕ) → drop n text ≡ x ++ rest → length x ≡ k → (take k (drop n text) ≡ x) × (drop (n + k) text ≡ rest)
next text x rest n k e len = (ap (take k) e ∙ take_at x rest k len, sym (drop-drop k n text) ∙ ap (drop k) e ∙ drop_at x rest k len)

part : (text : List ℕ) (n k : ℕ) → drop n text ≡ take k (drop n text) ++ drop (n + k) text
part text n k = sym (take-append-drop k (drop n text)) ∙ ap (λ (x : List ℕ). take k (drop n text) ++ x) (drop-drop k n text)

long_part : (text : List ℕ) (n k : ℕ) → n + k ≤ length text → length (take k (drop n text)) ≡ k
long_part text n k le = omega (arith, length-take k (drop n text), length-drop n text)

-- ---- what is read is spelled so

pub stat_of : List ℕ → Stat
stat_of text = record { times = take 24 text; owner = take 12 (drop 28 text); assumed = flags_in text / 32768 }

pub row_taken : (n : ℕ) (text : List ℕ) (e : IndexEntry) → IsWhole text → IsBytes text → entry_in n text ≡ Ok e
    → (text ≡ row_text (stat_of text, e)) × IsRow (stat_of text, e)
unfolding entry_in stat_of
row_taken n text e w bytes h =
    let f : ℕ = flags_in text in
    let len : ℕ = f % 4096 in
    let g = good_from n (mode_of (from_be_bytes w32 (take 4 (drop 24 text)))) (take 20 (drop 40 text)) f (take len (drop 62 text)) (drop (62 + len) text) e h in
    let long = w.long in
    let size = w.size in
    let m = mode_from (from_be_bytes w32 (take 4 (drop 24 text))) e.mode g.mode in
    let small : f < 2 ^ 16 = omega (arith, IsBytes-take 2 (drop 60 text) (IsBytes-drop 60 text bytes) 0, IsBytes-take 2 (drop 60 text) (IsBytes-drop 60 text bytes) 1) in
    let below : len < 4096 = omega arith in
    let path-len : length e.path ≡ len = sym (ap length g.path) ∙ long_part text 62 len (omega arith) in
    let mode-bytes : take 4 (drop 24 text) ≡ to_be_bytes w32 (mode_number e.mode) =
    sym (be_bytes_4 (take 4 (drop 24 text)) (mode_number e.mode) (long_part text 24 4 (omega arith)) (IsBytes-take 4 (drop 24 text) (IsBytes-drop 24 text bytes)) (sym m.0)) in
    let bits : flags (f / 32768) e ≡ f = ap (λ (s : ℕ). f / 32768 * 32768 + s * 4096 + length e.path) (sym g.stage) ∙ flags_back f (length e.path) g.plain path-len in
    let flag-bytes : take 2 (drop 60 text) ≡ to_be_bytes w16 (flags (f / 32768) e) =
    sym (be_bytes_2 (take 2 (drop 60 text)) (flags (f / 32768) e) (long_part text 60 2 (omega arith)) (IsBytes-take 2 (drop 60 text) (IsBytes-drop 60 text bytes)) bits) in
    let nuls-len : length (drop (62 + len) text) ≡ padding (62 + length e.path) = length-drop (62 + len) text ∙ rw path-len (omega arith) in
    let nuls : drop (62 + len) text ≡ replicate (padding (62 + length e.path)) 0 = zeros_are (drop (62 + len) text) g.zeros ∙ ap (λ (k : ℕ). replicate k 0) nuls-len in
    let id-len : length (take 20 (drop 40 text)) ≡ 20 = long_part text 40 20 (omega arith) in
    let P : List ℕ → Type 0 = λ p. IsPath p in
    let Q : List ℕ → Type 0 = λ i. IsBytes i in
    let text-is : text ≡ take 24 text ++ (take 4 (drop 24 text) ++ (take 12 (drop 28 text) ++ (take 20 (drop 40 text) ++ (take 2 (drop 60 text) ++ (take len (drop 62 text) ++ drop (62 + len) text))))) =
    sym (take-append-drop 24 text)
    ∙ ap (λ (x : List ℕ). take 24 text ++ x) (part text 24 4
    ∙ ap (λ (x : List ℕ). take 4 (drop 24 text) ++ x) (part text 28 12
    ∙ ap (λ (x : List ℕ). take 12 (drop 28 text) ++ x) (part text 40 20
    ∙ ap (λ (x : List ℕ). take 20 (drop 40 text) ++ x) (part text 60 2
    ∙ ap (λ (x : List ℕ). take 2 (drop 60 text) ++ x) (part text 62 len))))) in
    let replaced : take 24 text ++ (take 4 (drop 24 text) ++ (take 12 (drop 28 text) ++ (take 20 (drop 40 text) ++ (take 2 (drop 60 text) ++ (take len (drop 62 text) ++ drop (62 + len) text)))))
    ≡ take 24 text ++ (to_be_bytes w32 (mode_number e.mode) ++ (take 12 (drop 28 text) ++ (e.id ++ (to_be_bytes w16 (flags (f / 32768) e) ++ (e.path ++ replicate (padding (62 + length e.path)) 0))))) =
    seven (take 24 text) (take 12 (drop 28 text)) mode-bytes g.id flag-bytes g.path nuls in (
      text-is ∙ replaced,
      record {
        stat = record { times = length-take 24 text ∙ omega arith; owner = long_part text 28 12 (omega arith); assumed = omega arith };
        staged = record { stage = omega (arith, g.stage); mode = m.1 };
        path = subst P g.path g.is_path;
        id = sym (ap length g.id) ∙ id-len;
        bytes = subst Q g.id (IsBytes-take 20 (drop 40 text) (IsBytes-drop 40 text bytes));
      },
    )
  where
    seven : (t o : List ℕ) {m m' i i' f f' p p' z z' : List ℕ} → m ≡ m' → i ≡ i' → f ≡ f' → p ≡ p' → z ≡ z'
        → t ++ (m ++ (o ++ (i ++ (f ++ (p ++ z))))) ≡ t ++ (m' ++ (o ++ (i' ++ (f' ++ (p' ++ z')))))
    seven t o a b c d e = cc

-- ---- what is spelled so is read

record Cut (r : Stat × IndexEntry) : Type 0 where
  mode : take 4 (drop 24 (row_text r)) ≡ to_be_bytes w32 (mode_number r.1.mode)
  id : take 20 (drop 40 (row_text r)) ≡ r.1.id
  flags : flags_in (row_text r) ≡ flags r.0.assumed r.1
  path : take (length r.1.path) (drop 62 (row_text r)) ≡ r.1.path
  nuls : drop (62 + length r.1.path) (row_text r) ≡ replicate (padding (62 + length r.1.path)) 0

cut : (r : Stat × IndexEntry) → IsRow r → Cut r
cut r h =
    let text : List ℕ = row_text r in
    let p = flag_parts r.0.assumed r.1.stage (length r.1.path) h.stat.assumed h.staged.stage h.path.short in
    let n0 = next text r.0.times _ 0 24 refl h.stat.times in
    let n1 = next text (to_be_bytes w32 (mode_number r.1.mode)) _ 24 4 n0.1 refl in
    let n2 = next text r.0.owner _ 28 12 n1.1 h.stat.owner in
    let n3 = next text r.1.id _ 40 20 n2.1 h.id in
    let n4 = next text (to_be_bytes w16 (flags r.0.assumed r.1)) _ 60 2 n3.1 refl in
    let n5 = next text r.1.path _ 62 (length r.1.path) n4.1 refl in
    record {
      mode = n1.0;
      id = n3.0;
      flags = ap (from_be_bytes w16) n4.0 ∙ from_be_bytes-to_be_bytes_2 (flags r.0.assumed r.1) p.3;
      path = n5.0;
      nuls = n5.1;
    }

pub row_again : (n : ℕ) (r : Stat × IndexEntry) → IsRow r → entry_in n (row_text r) ≡ Ok r.1
unfolding entry_in
row_again n r h =
    let text : List ℕ = row_text r in
    let c = cut r h in
    let p = flag_parts r.0.assumed r.1.stage (length r.1.path) h.stat.assumed h.staged.stage h.path.short in
    let len : flags_in text % 4096 ≡ length r.1.path = ap (λ (f : ℕ). f % 4096) c.flags ∙ p.2 in
    let mode-is : mode_of (from_be_bytes w32 (take 4 (drop 24 text))) ≡ Some r.1.mode =
    ap mode_of (ap (from_be_bytes w32) c.mode ∙ from_be_bytes-to_be_bytes_4 (mode_number r.1.mode) (mode_small r.1.mode)) ∙ mode_again r.1.mode h.staged.mode in
    let path-is : take (flags_in text % 4096) (drop 62 text) ≡ r.1.path = ap (λ (k : ℕ). take k (drop 62 text)) len ∙ c.path in
    let nuls-is : drop (62 + flags_in text % 4096) text ≡ replicate (padding (62 + length r.1.path)) 0 = ap (λ (k : ℕ). drop (62 + k) text) len ∙ c.nuls in
    let f : ℕ = flags r.0.assumed r.1 in
    let plain : (f / 16384 % 2 == 0) ≡ true = ap (λ (k : ℕ). k == 0) p.0 in
    let same : entry_of n (mode_of (from_be_bytes w32 (take 4 (drop 24 text)))) (take 20 (drop 40 text)) (flags_in text) (take (flags_in text % 4096) (drop 62 text)) (drop (62 + flags_in text % 4096) text)
    ≡ entry_of n (Some r.1.mode) r.1.id f r.1.path (replicate (padding (62 + length r.1.path)) 0) = six n mode-is c.id c.flags path-is nuls-is in
    same ∙ entry_good n r.1.mode r.1.id f r.1.path (replicate (padding (62 + length r.1.path)) 0) plain (zeros_pass (padding (62 + length r.1.path))) (path_passes r.1.path h.path)
    ∙ ap (λ (s : ℕ). Ok (record { path = r.1.path; stage = s; mode = r.1.mode; id = r.1.id })) p.1
  where
    six : (n : ℕ) {m m' : Option Mode} {i i' : List ℕ} {f f' : ℕ} {p p' z z' : List ℕ} → m ≡ m' → i ≡ i' → f ≡ f' → p ≡ p' → z ≡ z'
        → entry_of n m i f p z ≡ entry_of n m' i' f' p' z'
    six n a b c d e = cc

length-row : (r : Stat × IndexEntry) → IsRow r → length (row_text r) ≡ 62 + length r.1.path + padding (62 + length r.1.path)
length-row r h = simp (length-append, length-replicate) (omega (arith, h.stat.times, h.stat.owner, h.id))

pub row_whole : (r : Stat × IndexEntry) → IsRow r → IsWhole (row_text r)
row_whole r h =
    let c = cut r h in
    let p = flag_parts r.0.assumed r.1.stage (length r.1.path) h.stat.assumed h.staged.stage h.path.short in
    let len : flags_in (row_text r) % 4096 ≡ length r.1.path = ap (λ (f : ℕ). f % 4096) c.flags ∙ p.2 in
    record { long = omega (arith, length-row r h); size = length-row r h ∙ ap (λ (k : ℕ). 62 + k + padding (62 + k)) (sym len) }
