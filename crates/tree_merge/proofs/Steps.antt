-- One step of a walk over three maps side by side.
use Rattle.std.proofs.Common.{◌≡◌, ℕ, ◌+◌, ◌<◌, Bool, true, false, cond, ◌||◌, ◌⊎◌, inl, inr, List, [], ◌∷◌, ◌++◌, length, Option, Some, None, refl, sym, ap, ◌∙◌, append_assoc, arith}
use Rattle.std.specs.Prelude.{filter, map}
use Rattle.std.specs.List.{AllByRecursion}
use Rattle.std.specs.Str.{bytes_eq}
use Rattle.seq_base.specs.declared.map.Entry.{Entry}
use Rattle.seq_base.specs.PathMaps.{IsAscending, entry_at, is_less}
use Rattle.tree_merge.specs.declared.plans.Planned.{Planned}
use Rattle.tree_merge.specs.Plans.{Entries, all_rows, is_listed, listed, paths_of, row_at, row_of}
use Rattle.tree_merge.specs.Walks.{after, head_entry, head_path, lesser}
use Rattle.tree_merge.proofs.Order.{not_both_less, less_apart, less_or_same, same_is, same_self}
use Rattle.tree_merge.proofs.Firsts.{Behind, NoneBefore, all_paths, filter_append, first_of, has, head_of, without}

pub not_less_self : (p : List ℕ) → is_less p p ≡ false
not_less_self p = at (is_less p p) refl
  where
    at : (t : Bool) → is_less p p ≡ t → t ≡ false
    at true e = let k = not_both_less p p e in cc
    at false e = refl

not_before_trans : (a m p : List ℕ) → is_less a m ≡ false → is_less m p ≡ false → is_less a p ≡ false
not_before_trans a m p x y = at (is_less a p) refl
  where
    at : (t : Bool) → is_less a p ≡ t → t ≡ false
    at true e = let k = less_or_same m a p x e in cc
    at false e = refl

record Lesser (a b : Option (List ℕ)) (p : List ℕ) : Type 0 where
  first : (q : List ℕ) → a ≡ Some q → is_less q p ≡ false
  second : (q : List ℕ) → b ≡ Some q → is_less q p ≡ false
  among : (a ≡ Some p) ⊎ (b ≡ Some p)

lesser_of : (a b : Option (List ℕ)) (p : List ℕ) → lesser a b ≡ Some p → Lesser a b p
lesser_of None b p e = record { first = λ q h. absurd cc; second = λ q h. let k : q ≡ p = cc in rw k (not_less_self p); among = inr e }
lesser_of (Some a) None p e = record { first = λ q h. let k : q ≡ p = cc in rw k (not_less_self p); second = λ q h. absurd cc; among = inl e }
lesser_of (Some a) (Some b) p e = at (is_less b a) refl e
  where
    at : (t : Bool) → is_less b a ≡ t → cond t (Some b) (Some a) ≡ Some p → Lesser (Some a) (Some b) p
    at true l e =
        let k : b ≡ p = cc in
        record { first = λ q h. let m : a ≡ q = cc in rw (sym m, sym k) (not_both_less b a l); second = λ q h. let m : q ≡ p = cc in rw m (not_less_self p); among = inr e }
    at false l e =
        let k : a ≡ p = cc in
        record { first = λ q h. let m : q ≡ p = cc in rw m (not_less_self p); second = λ q h. let m : b ≡ q = cc in rw (sym m, sym k) l; among = inl e }

lesser_none : (a b : Option (List ℕ)) → lesser a b ≡ None → (a ≡ None) × (b ≡ None)
lesser_none None b e = (refl, e)
lesser_none (Some a) None e = absurd cc
lesser_none (Some a) (Some b) e = at (is_less b a) e
  where
    at : (t : Bool) → cond t (Some b) (Some a) ≡ None → (Some a ≡ None) × (Some b ≡ None)
    at true e = absurd cc
    at false e = absurd cc

head_none : (es : Entries) → head_path es ≡ None → es ≡ []
head_none [] e = refl
head_none (x ∷ es) e = absurd cc

-- where no map has a path left, no row is left
pub all_none : (b o t : Entries) → lesser (lesser (head_path b) (head_path o)) (head_path t) ≡ None → all_rows b o t ≡ []
all_none b o t e =
    let k = lesser_none (lesser (head_path b) (head_path o)) (head_path t) e in
    let m = lesser_none (head_path b) (head_path o) k.0 in
    rw (head_none b m.0, head_none o m.1, head_none t k.1) refl

pub listed_none : (b o t : Entries) → lesser (lesser (head_path b) (head_path o)) (head_path t) ≡ None → listed b o t ≡ []
listed_none b o t e = ap (filter is_listed) (all_none b o t e)

-- p is the least of the first paths
record Least (b o t : Option (List ℕ)) (p : List ℕ) : Type 0 where
  base : (q : List ℕ) → b ≡ Some q → is_less q p ≡ false
  ours : (q : List ℕ) → o ≡ Some q → is_less q p ≡ false
  theirs : (q : List ℕ) → t ≡ Some q → is_less q p ≡ false
  among : (b ≡ Some p) ⊎ ((o ≡ Some p) ⊎ (t ≡ Some p))

least_of : (b o t : Option (List ℕ)) (p : List ℕ) → lesser (lesser b o) t ≡ Some p → Least b o t p
least_of b o t p e = at (lesser b o) refl (lesser_of (lesser b o) t p e)
  where
    at : (m : Option (List ℕ)) → lesser b o ≡ m → Lesser m t p → Least b o t p
    at None is l =
        let n = lesser_none b o is in
        record {
          base = λ q h. absurd (let k = n.0 in cc);
          ours = λ q h. absurd (let k = n.1 in cc);
          theirs = l.second;
          among = elim l.among as (λ _. (b ≡ Some p) ⊎ ((o ≡ Some p) ⊎ (t ≡ Some p))) [ inl h ↦ absurd cc | inr h ↦ inr (inr h) ];
        }
    at (Some m) is l =
        let n = lesser_of b o m is in
        let here = l.first m refl in
        record {
          base = λ q h. not_before_trans q m p (n.first q h) here;
          ours = λ q h. not_before_trans q m p (n.second q h) here;
          theirs = l.second;
          among = elim l.among as (λ _. (b ≡ Some p) ⊎ ((o ≡ Some p) ⊎ (t ≡ Some p))) [
            | inl h ↦ let k : m ≡ p = cc in elim n.among as (λ _. (b ≡ Some p) ⊎ ((o ≡ Some p) ⊎ (t ≡ Some p))) [ inl g ↦ inl (g ∙ ap Some k) | inr g ↦ inr (inl (g ∙ ap Some k)) ]
            | inr h ↦ inr (inr h)
          ];
        }

none_before_append : (p : List ℕ) (xs ys : Entries) → NoneBefore p xs → NoneBefore p ys → NoneBefore p (xs ++ ys)
none_before_append p [] ys g h = h
none_before_append p (x ∷ xs) ys g h = (g.0, none_before_append p xs ys g.1 h)

has_left : (p : List ℕ) (xs ys : Entries) → has p xs ≡ true → has p (xs ++ ys) ≡ true
has_left p [] ys h = absurd cc
has_left p (x ∷ xs) ys h = at (has_left p xs ys) (bytes_eq x.0 p) h
  where
    at : (has p xs ≡ true → has p (xs ++ ys) ≡ true) → (t : Bool) → (t || has p xs) ≡ true → (t || has p (xs ++ ys)) ≡ true
    at rest true h = refl
    at rest false h = rest h

has_right : (p : List ℕ) (xs ys : Entries) → has p ys ≡ true → has p (xs ++ ys) ≡ true
has_right p [] ys h = h
has_right p (x ∷ xs) ys h = at (has_right p xs ys h) (bytes_eq x.0 p)
  where
    at : has p (xs ++ ys) ≡ true → (t : Bool) → (t || has p (xs ++ ys)) ≡ true
    at rest true = refl
    at rest false = rest

head_has : (p : List ℕ) (es : Entries) → head_path es ≡ Some p → has p es ≡ true
head_has p [] e = absurd cc
head_has p (x ∷ es) e = let k : x.0 ≡ p = cc in rw (k, same_self p) refl

behind_append : (p : List ℕ) (xs ys : Entries) → Behind p xs → Behind p ys → Behind p (xs ++ ys)
behind_append p [] ys g h = h
behind_append p (x ∷ xs) ys g h = (g.0, behind_append p xs ys g.1 h)

pub entry_after : (p q : List ℕ) (es : Entries) → is_less p q ≡ true → entry_at es q ≡ entry_at (after es p) q
entry_after p q [] l = refl
entry_after p q (e ∷ es) l = at (bytes_eq e.0 p) refl
  where
    at : (t : Bool) → bytes_eq e.0 p ≡ t → entry_at (e ∷ es) q ≡ entry_at (cond t es (e ∷ es)) q
    at true is = rw (same_is e.0 p is, less_apart p q l) refl
    at false is = refl

rows_after : (b o t : Entries) (p : List ℕ) (ps : List (List ℕ)) → AllByRecursion (λ q. is_less p q ≡ true) ps
    → map (row_at b o t) ps ≡ map (row_at (after b p) (after o p) (after t p)) ps
rows_after b o t p [] h = refl
rows_after b o t p (q ∷ ps) h =
    let rest = rows_after b o t p ps h.1 in
    let row : row_at b o t q ≡ row_at (after b p) (after o p) (after t p) q =
    λ i. row_of q (entry_after p q b h.0 i) (entry_after p q o h.0 i) (entry_after p q t h.0 i) in
    λ i. row i ∷ rest i

abbrev pub with_row : Planned → List Planned → List Planned
with_row row rows = cond (is_listed row) (row ∷ rows) rows

length_after : (p : List ℕ) (es : Entries) → length (after es p) < length es + 1
length_after p [] = omega arith
length_after p (e ∷ es) = at (bytes_eq e.0 p)
  where
    at : (t : Bool) → length (cond t es (e ∷ es)) < length (e ∷ es) + 1
    at true = omega arith
    at false = omega arith

length_after_head : (p : List ℕ) (es : Entries) → head_path es ≡ Some p → length (after es p) < length es
length_after_head p [] e = absurd cc
length_after_head p (x ∷ es) e = let k : x.0 ≡ p = cc in rw (k, same_self p) (omega arith)

ascending_after : (p : List ℕ) (es : Entries) → IsAscending es → IsAscending (after es p)
ascending_after p [] h = tt
ascending_after p (e ∷ es) h = at (bytes_eq e.0 p)
  where
    at : (t : Bool) → IsAscending (cond t es (e ∷ es))
    at true = h.1
    at false = h

pub record InOrder (b o t : Entries) : Type 0 where
  pub base : IsAscending b
  pub ours : IsAscending o
  pub theirs : IsAscending t

-- what one step leaves
pub record Stepped (b o t : Entries) (p : List ℕ) : Type 0 where
  pub all : all_rows b o t ≡ row_of p (head_entry b p) (head_entry o p) (head_entry t p) ∷ all_rows (after b p) (after o p) (after t p)
  pub rows : listed b o t ≡ with_row (row_of p (head_entry b p) (head_entry o p) (head_entry t p)) (listed (after b p) (after o p) (after t p))
  pub paths : paths_of (b ++ o ++ t) ≡ p ∷ paths_of (after b p ++ after o p ++ after t p)
  pub behind : AllByRecursion (λ q. is_less p q ≡ true) (paths_of (after b p ++ after o p ++ after t p))
  pub base : entry_at b p ≡ head_entry b p
  pub ours : entry_at o p ≡ head_entry o p
  pub theirs : entry_at t p ≡ head_entry t p
  pub order : InOrder (after b p) (after o p) (after t p)
  pub smaller : length (after b p) + length (after o p) + length (after t p) < length b + length o + length t

pub step : (b o t : Entries) (p : List ℕ) → InOrder b o t → lesser (lesser (head_path b) (head_path o)) (head_path t) ≡ Some p → Stepped b o t p
step b o t p h e =
    let l = least_of (head_path b) (head_path o) (head_path t) p e in
    let hb = head_of p b h.base l.base in
    let ho = head_of p o h.ours l.ours in
    let ht = head_of p t h.theirs l.theirs in
    let all = b ++ o ++ t in
    let there : has p all ≡ true = elim l.among as (λ _. has p all ≡ true) [
      | inl g ↦ has_left p (b ++ o) t (has_left p b o (head_has p b g))
      | inr g ↦ elim g as (λ _. has p all ≡ true) [
        | inl k ↦ has_left p (b ++ o) t (has_right p b o (head_has p o k))
        | inr k ↦ has_right p (b ++ o) t (head_has p t k)
      ]
    ] in
    let left = after b p ++ after o p ++ after t p in
    let gone : without p all ≡ left =
    filter_append _ (b ++ o) t ∙ (λ i. filter_append (λ (x : List ℕ × Entry). Rattle.std.proofs.Common.not (bytes_eq x.0 p)) b o i ++ without p t) ∙ (λ i. hb.gone i ++ ho.gone i ++ ht.gone i) in
    let paths : paths_of all ≡ p ∷ paths_of left =
    first_of p all (none_before_append p (b ++ o) t (none_before_append p b o hb.none_before ho.none_before) ht.none_before) there ∙ ap (λ (es : Entries). p ∷ paths_of es) gone in
    let behind : AllByRecursion (λ q. is_less p q ≡ true) (paths_of left) =
    all_paths (λ q. is_less p q ≡ true) left (behind_append p (after b p ++ after o p) (after t p) (behind_append p (after b p) (after o p) hb.behind ho.behind) ht.behind) in
    let row : row_at b o t p ≡ row_of p (head_entry b p) (head_entry o p) (head_entry t p) = λ i. row_of p (hb.entry i) (ho.entry i) (ht.entry i) in
    let all_are : all_rows b o t ≡ row_of p (head_entry b p) (head_entry o p) (head_entry t p) ∷ all_rows (after b p) (after o p) (after t p) =
    ap (λ (ps : List (List ℕ)). map (row_at b o t) ps) paths
    ∙ ap (λ (rs : List Planned). row_at b o t p ∷ rs) (rows_after b o t p (paths_of left) behind)
    ∙ ap (λ (r : Planned). r ∷ all_rows (after b p) (after o p) (after t p)) row in
    record {
      all = all_are;
      rows = ap (filter is_listed) all_are;
      paths = paths;
      behind = behind;
      base = hb.entry;
      ours = ho.entry;
      theirs = ht.entry;
      order = record { base = ascending_after p b h.base; ours = ascending_after p o h.ours; theirs = ascending_after p t h.theirs };
      smaller = elim l.among as (λ _. length (after b p) + length (after o p) + length (after t p) < length b + length o + length t) [
        | inl g ↦ omega (arith, length_after_head p b g, length_after p o, length_after p t)
        | inr g ↦ elim g as (λ _. length (after b p) + length (after o p) + length (after t p) < length b + length o + length t) [
          | inl k ↦ omega (arith, length_after p b, length_after_head p o k, length_after p t)
          | inr k ↦ omega (arith, length_after p b, length_after p o, length_after_head p t k)
        ]
      ];
    }

-- a listed row is next
pub kept : (rows rest left all : List Planned) (row made : Planned) → rows ++ left ≡ all → left ≡ with_row row rest → made ≡ row
    → is_listed made ≡ true → rows ++ made ∷ [] ++ rest ≡ all
kept rows rest left all row made is next same held =
    let k : is_listed row ≡ true = sym (ap is_listed same) ∙ held in
    let n : left ≡ row ∷ rest = next ∙ ap (λ (t : Bool). cond t (row ∷ rest) rest) k in
    append_assoc rows (made ∷ []) rest ∙ ap (λ (r : Planned). rows ++ (r ∷ rest)) same ∙ ap (λ (l : List Planned). rows ++ l) (sym n) ∙ is

pub skipped : (rows rest left all : List Planned) (row made : Planned) → rows ++ left ≡ all → left ≡ with_row row rest → made ≡ row
    → is_listed made ≡ false → rows ++ rest ≡ all
skipped rows rest left all row made is next same failed =
    let k : is_listed row ≡ false = sym (ap is_listed same) ∙ failed in
    let n : left ≡ rest = next ∙ ap (λ (t : Bool). cond t (row ∷ rest) rest) k in
    ap (λ (l : List Planned). rows ++ l) (sym n) ∙ is

-- each row is next
pub next_row : (rows rest left all : List Planned) (row made : Planned) → rows ++ left ≡ all → left ≡ row ∷ rest → made ≡ row
    → rows ++ made ∷ [] ++ rest ≡ all
next_row rows rest left all row made is next same =
    append_assoc rows (made ∷ []) rest ∙ ap (λ (r : Planned). rows ++ (r ∷ rest)) same ∙ ap (λ (l : List Planned). rows ++ l) (sym next) ∙ is
