-- A map after a path was put.
use Rattle.std.proofs.Common.{◌≡◌, ℕ, zero, suc, ◌+◌, ◌<◌, Bool, true, false, cond, ◌||◌, List, [], ◌∷◌, ◌++◌, length, take, drop, Some, None, Ordering, refl, sym, ap, subst, ◌∙◌, arith}
use Rattle.std.proofs.Math.ListN.{set}
use Rattle.std.specs.List.{AllByRecursion}
use Rattle.std.specs.Ordering.{nat_cmp, is_lt, is_eq, ordering_reverse}
use Rattle.std.specs.declared.cmp.Ordering.TheVariants.{Less, Equal, Greater}
use Rattle.std.specs.Cmp.Lexicographic.{slice_cmp}
use Rattle.std.specs.Str.{bytes_eq}
use Rattle.std.proofs.lemmas.Cmp.{nat_list_cmp_total}
use Rattle.std.proofs.lemmas.Map.Text.{is_eq-slice_cmp}
use Rattle.std.proofs.lemmas.Slice.Eq.{bytes_eq-Decides}
use Rattle.seq_base.specs.declared.map.Entry.{Entry}
use Rattle.seq_base.specs.declared.mode.Mode.TheVariants.{Folder}
use Rattle.seq_base.specs.World.{is_below}
use Rattle.seq_base.specs.PathMaps.{is_less, clashes, IsAscending, AreApart, HoldsFiles, IsPathMap, put, first_clash}

pub set_is : {X : Type 0} (xs : List X) (i : ℕ) (v : X) → i < length xs → set xs i v ≡ take i xs ++ v ∷ drop (i + 1) xs
set_is [] i v lt = absurd (omega arith)
set_is (x ∷ xs) zero v lt = refl
set_is (x ∷ xs) (suc i) v lt =
    let k : suc i + 1 ≡ suc (i + 1) = omega arith in
    rw k (ap (λ (ys : List _). x ∷ ys) (set_is xs i v (omega arith)))

pub less_is : (a b : List ℕ) → is_less a b ≡ true → slice_cmp nat_cmp a b ≡ Less
less_is a b e = at (slice_cmp nat_cmp a b) e
  where
    at : (o : Ordering) → is_lt o ≡ true → o ≡ Less
    at Less e = refl
    at Equal e = absurd cc
    at Greater e = absurd cc

less_trans : (a b c : List ℕ) → is_less a b ≡ true → is_less b c ≡ true → is_less a c ≡ true
less_trans a b c p q = ap is_lt (nat_list_cmp_total.trans a b c (less_is a b p) (less_is b c q))

pub less_antisymmetric : (a b : List ℕ) → is_less a b ≡ true → is_less b a ≡ true → ⊥
less_antisymmetric a b p q =
    let same = is_eq-slice_cmp a a ∙ (bytes_eq-Decides a a).1 refl in
    let less = ap is_eq (less_is a a (less_trans a b a p q)) in
    absurd cc

otherwise_less : (a b : List ℕ) → bytes_eq a b ≡ false → is_less b a ≡ false → is_less a b ≡ true
otherwise_less a b ne nl = at (slice_cmp nat_cmp a b) refl
  where
    at : (o : Ordering) → slice_cmp nat_cmp a b ≡ o → is_lt o ≡ true
    at Less e = refl
    at Equal e = let k = sym (is_eq-slice_cmp a b) ∙ ap is_eq e in absurd cc
    at Greater e = let k = ap is_lt (nat_list_cmp_total.antisymm b a ∙ ap ordering_reverse e) in absurd cc

module _ (P : List ℕ → Type 0) (path : List ℕ) (entry : Entry) where
  all_put : (es : List (List ℕ × Entry)) → AllByRecursion (λ d. P d.0) es → P path → AllByRecursion (λ d. P d.0) (put es path entry)
  all_put [] h p = (p, tt)
  all_put (e ∷ es) h p = at (all_put es h.1 p) (bytes_eq e.0 path) (is_less path e.0)
    where
      at : AllByRecursion (λ d. P d.0) (put es path entry) → (t u : Bool)
          → AllByRecursion (λ d. P d.0) (cond t ((path, entry) ∷ es) (cond u ((path, entry) ∷ e ∷ es) (e ∷ put es path entry)))
      at later true u = (p, h.1)
      at later false true = (p, h)
      at later false false = (h.0, later)

all_less : (path : List ℕ) (e : List ℕ) (es : List (List ℕ × Entry)) → is_less path e ≡ true → AllByRecursion (λ d. is_less e d.0 ≡ true) es
    → AllByRecursion (λ d. is_less path d.0 ≡ true) es
all_less path e [] p h = tt
all_less path e (d ∷ es) p h = (less_trans path e d.0 p h.0, all_less path e es p h.1)

put_ascending : (path : List ℕ) (entry : Entry) (es : List (List ℕ × Entry)) → IsAscending es → IsAscending (put es path entry)
put_ascending path entry [] h = (tt, tt)
put_ascending path entry (e ∷ es) h = at (put_ascending path entry es h.1) (bytes_eq e.0 path) refl (is_less path e.0) refl
  where
    at : IsAscending (put es path entry) → (t : Bool) → bytes_eq e.0 path ≡ t → (u : Bool) → is_less path e.0 ≡ u
        → IsAscending (cond t ((path, entry) ∷ es) (cond u ((path, entry) ∷ e ∷ es) (e ∷ put es path entry)))
    at later true is u u-is = (subst (λ (p : List ℕ). AllByRecursion (λ d. is_less p d.0 ≡ true) es) ((bytes_eq-Decides e.0 path).0 is) h.0, h.1)
    at later false is true u-is = ((u-is, all_less path e.0 es u-is h.0), h)
    at later false is false u-is = (all_put (λ p. is_less e.0 p ≡ true) path entry es h.0 (otherwise_less e.0 path is u-is), later)

or_swap : (a b : Bool) → (a || b) ≡ (b || a)
or_swap true true = refl
or_swap true false = refl
or_swap false true = refl
or_swap false false = refl

clashes_back : (a b : List ℕ) → clashes a b ≡ false → clashes b a ≡ false
clashes_back a b e = or_swap (is_below b a) (is_below a b) ∙ e

none_clash : (path : List ℕ) (es : List (List ℕ × Entry)) → first_clash es path ≡ None → AllByRecursion (λ d. clashes path d.0 ≡ false) es
none_clash path [] e = tt
none_clash path (d ∷ es) e = at (none_clash path es) (clashes d.0 path) refl e
  where
    at : (first_clash es path ≡ None → AllByRecursion (λ d. clashes path d.0 ≡ false) es) → (t : Bool) → clashes d.0 path ≡ t
        → cond t (Some d.0) (first_clash es path) ≡ None → (clashes path d.0 ≡ false) × AllByRecursion (λ d. clashes path d.0 ≡ false) es
    at later true is e = absurd cc
    at later false is e = (clashes_back d.0 path is, later e)

put_apart : (path : List ℕ) (entry : Entry) (es : List (List ℕ × Entry)) → AllByRecursion (λ d. clashes path d.0 ≡ false) es → AreApart es
    → AreApart (put es path entry)
put_apart path entry [] n h = (tt, tt)
put_apart path entry (e ∷ es) n h = at (put_apart path entry es n.1 h.1) (bytes_eq e.0 path) (is_less path e.0)
  where
    at : AreApart (put es path entry) → (t u : Bool)
        → AreApart (cond t ((path, entry) ∷ es) (cond u ((path, entry) ∷ e ∷ es) (e ∷ put es path entry)))
    at later true u = (n.1, h.1)
    at later false true = (n, h)
    at later false false = (all_put (λ p. clashes e.0 p ≡ false) path entry es h.0 (clashes_back path e.0 n.0), later)

module _ (path : List ℕ) (entry : Entry) where
  put_files : (es : List (List ℕ × Entry)) → HoldsFiles es → (entry.mode ≡ Folder → ⊥) → HoldsFiles (put es path entry)
  put_files [] h p = (p, tt)
  put_files (e ∷ es) h p = at (put_files es h.1 p) (bytes_eq e.0 path) (is_less path e.0)
    where
      at : HoldsFiles (put es path entry) → (t u : Bool)
          → HoldsFiles (cond t ((path, entry) ∷ es) (cond u ((path, entry) ∷ e ∷ es) (e ∷ put es path entry)))
      at later true u = (p, h.1)
      at later false true = (p, h)
      at later false false = (h.0, later)

pub put_stays : (path : List ℕ) (entry : Entry) (es : List (List ℕ × Entry)) → IsPathMap es → (entry.mode ≡ Folder → ⊥) → first_clash es path ≡ None
    → IsPathMap (put es path entry)
put_stays path entry es h file none =
    record { ascending = put_ascending path entry es h.ascending; apart = put_apart path entry es (none_clash path es none) h.apart; files = put_files path entry es h.files file }
