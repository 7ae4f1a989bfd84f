-- The least path at which two maps differ, by their first rows.
use Rattle.std.proofs.Common.{◌≡◌, ℕ, Bool, true, false, not, cond, List, [], ◌∷◌, ◌++◌, Option, Some, None, refl, sym, ap, ◌∙◌}
use Rattle.std.specs.Prelude.{filter}
use Rattle.std.specs.List.{AllByRecursion}
use Rattle.std.proofs.lemmas.List.Elements.{filter-append}
use Rattle.seq_base.specs.declared.map.Entry.{Entry}
use Rattle.seq_base.specs.PathMaps.{entry_at, is_less, same_entry}
use Rattle.stage_index.specs.Stages.{Entries}
use Rattle.stage_index.specs.Changes.{first_difference, paths_of}
use Rattle.stage_index.specs.Least.{least}
use Rattle.stage_index.proofs.Leasts.{least_at}
use Rattle.stage_index.proofs.Orders.{less_apart, less_back, more_apart, not_less_itself, same_path}

abbrev pub AllAfter : List ℕ → Entries → Type 0
AllAfter p es = AllByRecursion (λ e. is_less p e.0 ≡ true) es

abbrev differ : Entries → Entries → List ℕ → Bool
differ a b path = not (same_entry (entry_at a path) (entry_at b path))

abbrev After : List ℕ → List (List ℕ) → Type 0
After p qs = AllByRecursion (λ q. is_less p q ≡ true) qs

abbrev NotBefore : List ℕ → List (List ℕ) → Type 0
NotBefore p qs = AllByRecursion (λ q. is_less q p ≡ false) qs

absent : (p : List ℕ) (es : Entries) → AllAfter p es → entry_at es p ≡ None
absent p [] h = refl
absent p (e ∷ es) h = rw (less_apart p e.0 h.0) (absent p es h.1)

here : (p : List ℕ) (a : Entry) (es : Entries) → entry_at ((p, a) ∷ es) p ≡ Some a
here p a es = rw (same_path p) refl

paths_after : (p : List ℕ) (es : Entries) → AllAfter p es → After p (paths_of es)
paths_after p [] h = tt
paths_after p (e ∷ es) h = (h.0, paths_after p es h.1)

kept : (P : List ℕ → Type 0) (test : List ℕ → Bool) (qs : List (List ℕ)) → AllByRecursion P qs → AllByRecursion P (filter test qs)
kept P test [] h = tt
kept P test (q ∷ qs) h = at (test q) (kept P test qs h.1)
  where
    at : (t : Bool) → AllByRecursion P (filter test qs) → AllByRecursion P (cond t (q ∷ filter test qs) (filter test qs))
    at true more = (h.0, more)
    at false more = more

together : (P : List ℕ → Type 0) (xs ys : List (List ℕ)) → AllByRecursion P xs → AllByRecursion P ys → AllByRecursion P (xs ++ ys)
together P [] ys h k = k
together P (x ∷ xs) ys h k = (h.0, together P xs ys h.1 k)

none_before : (p : List ℕ) (qs : List (List ℕ)) → After p qs → NotBefore p qs
none_before p [] h = tt
none_before p (q ∷ qs) h = (less_back p q h.0, none_before p qs h.1)

-- the test passes at a path, between others
passes : (test : List ℕ → Bool) (p : List ℕ) (xs ys : List (List ℕ)) → test p ≡ true
    → filter test (xs ++ p ∷ ys) ≡ filter test xs ++ p ∷ filter test ys
passes test p xs ys is = filter-append test xs (p ∷ ys) ∙ ap (λ (b : Bool). filter test xs ++ cond b (p ∷ filter test ys) (filter test ys)) is

-- the first map has a path before all others
pub left_first : (p : List ℕ) (a : Entry) (ms hs : Entries) → AllAfter p ms → AllAfter p hs → first_difference ((p, a) ∷ ms) hs ≡ Some p
unfolding first_difference
left_first p a ms hs up over =
    let test : List ℕ → Bool = differ ((p, a) ∷ ms) hs in
    let others : List (List ℕ) = paths_of ms ++ paths_of hs in
    let is : test p ≡ true = ap (λ (x : Option Entry). not (same_entry x (entry_at hs p))) (here p a ms) ∙ ap (λ (y : Option Entry). not (same_entry (Some a) y)) (absent p hs over) in
    ap least (passes test p [] others is)
    ∙ least_at [] (filter test others) p tt (not_less_itself p, none_before p (filter test others) (kept (λ q. is_less p q ≡ true) test others (together (λ q. is_less p q ≡ true) (paths_of ms) (paths_of hs) (paths_after p ms up) (paths_after p hs over))))

-- the second has
pub right_first : (p : List ℕ) (b : Entry) (ms hs : Entries) → AllAfter p ms → AllAfter p hs → first_difference ms ((p, b) ∷ hs) ≡ Some p
unfolding first_difference
right_first p b ms hs over up =
    let test : List ℕ → Bool = differ ms ((p, b) ∷ hs) in
    let front = kept (λ q. is_less p q ≡ true) test (paths_of ms) (paths_after p ms over) in
    let back = kept (λ q. is_less p q ≡ true) test (paths_of hs) (paths_after p hs up) in
    let is : test p ≡ true = ap (λ (x : Option Entry). not (same_entry x (entry_at ((p, b) ∷ hs) p))) (absent p ms over) ∙ ap (λ (y : Option Entry). not (same_entry None y)) (here p b hs) in
    ap least (passes test p (paths_of ms) (paths_of hs) is)
    ∙ least_at (filter test (paths_of ms)) (filter test (paths_of hs)) p front
    (together (λ q. is_less q p ≡ false) (filter test (paths_of ms)) (p ∷ filter test (paths_of hs)) (none_before p _ front) (not_less_itself p, none_before p _ back))

-- both have it, with other entries
pub both_first : (p : List ℕ) (a b : Entry) (ms hs : Entries) → same_entry (Some a) (Some b) ≡ false → AllAfter p ms → AllAfter p hs
    → first_difference ((p, a) ∷ ms) ((p, b) ∷ hs) ≡ Some p
unfolding first_difference
both_first p a b ms hs other up also =
    let test : List ℕ → Bool = differ ((p, a) ∷ ms) ((p, b) ∷ hs) in
    let others : List (List ℕ) = paths_of ms ++ p ∷ paths_of hs in
    let all = together (λ q. is_less q p ≡ false) (paths_of ms) (p ∷ paths_of hs) (none_before p _ (paths_after p ms up)) (not_less_itself p, none_before p _ (paths_after p hs also)) in
    let is : test p ≡ true = ap (λ (x : Option Entry). not (same_entry x (entry_at ((p, b) ∷ hs) p))) (here p a ms) ∙ ap (λ (y : Option Entry). not (same_entry (Some a) y)) (here p b hs) ∙ ap not other in
    ap least (passes test p [] others is) ∙ least_at [] (filter test others) p tt (not_less_itself p, kept (λ q. is_less q p ≡ false) test others all)

-- both have it, with the same entry
pub both_same : (p : List ℕ) (a b : Entry) (ms hs : Entries) → same_entry (Some a) (Some b) ≡ true → AllAfter p ms → AllAfter p hs
    → first_difference ((p, a) ∷ ms) ((p, b) ∷ hs) ≡ first_difference ms hs
unfolding first_difference
both_same p a b ms hs same up also =
    let test : List ℕ → Bool = differ ((p, a) ∷ ms) ((p, b) ∷ hs) in
    let fails : test p ≡ false = ap (λ (x : Option Entry). not (same_entry x (entry_at ((p, b) ∷ hs) p))) (here p a ms) ∙ ap (λ (y : Option Entry). not (same_entry (Some a) y)) (here p b hs) ∙ ap not same in
    ap least (
    ap (λ (t : Bool). cond t (p ∷ filter test (paths_of ms ++ p ∷ paths_of hs)) (filter test (paths_of ms ++ p ∷ paths_of hs))) fails
    ∙ filter-append test (paths_of ms) (p ∷ paths_of hs)
    ∙ ap (λ (t : Bool). filter test (paths_of ms) ++ cond t (p ∷ filter test (paths_of hs)) (filter test (paths_of hs))) fails
    ∙ ap (λ (qs : List (List ℕ)). qs ++ filter test (paths_of hs)) (agree (paths_of ms) (paths_after p ms up))
    ∙ ap (λ (qs : List (List ℕ)). filter (differ ms hs) (paths_of ms) ++ qs) (agree (paths_of hs) (paths_after p hs also))
    ∙ sym (filter-append (differ ms hs) (paths_of ms) (paths_of hs)))
  where
    at : (q : List ℕ) → is_less p q ≡ true → differ ((p, a) ∷ ms) ((p, b) ∷ hs) q ≡ differ ms hs q
    at q h = rw (more_apart p q h) refl

    agree : (qs : List (List ℕ)) → After p qs → filter (differ ((p, a) ∷ ms) ((p, b) ∷ hs)) qs ≡ filter (differ ms hs) qs
    agree [] h = refl
    agree (q ∷ qs) h =
        ap (λ (t : Bool). cond t (q ∷ filter (differ ((p, a) ∷ ms) ((p, b) ∷ hs)) qs) (filter (differ ((p, a) ∷ ms) ((p, b) ∷ hs)) qs)) (at q h.0)
        ∙ ap (λ (rs : List (List ℕ)). cond (differ ms hs q) (q ∷ rs) rs) (agree qs h.1)
