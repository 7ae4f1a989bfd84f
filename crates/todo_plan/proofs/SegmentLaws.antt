-- A line that is moved within the segment of its target stands where it would among all lines.
use Rattle.std.proofs.Common.{◌≡◌, ◌⊎◌, inl, inr, ℕ, zero, suc, ◌+◌, ◌-◌, ◌<◌, ◌≤◌, Bool, true, false, cond, ◌||◌, eqb, List, [], ◌∷◌, ◌++◌, drop, get_or, insert, length, set, take, Some, None, Result, Ok, Err, refl, sym, ap, subst, ◌∙◌, arith, append_assoc, length-append}
use Rattle.std.specs.List.{list_any}
use Rattle.std.specs.Prelude.{OnOk}
use Rattle.std.proofs.Math.Seq.{get_or-append_seam}
use Rattle.std.proofs.lemmas.Bool.{eq-eqb, eqb-false, eqb-true, ne_eqb, or_right}
use Rattle.std.proofs.lemmas.List.{append-nil, get_or_append_left, get_or_default, take-append-drop}
use Rattle.std.proofs.lemmas.List.Edits.{insert-append_left, insert-append_right}
use Rattle.todo_text.specs.declared.line.Line.{Line}
use Rattle.todo_plan.specs.declared.segments.Placed.{Placed}
use Rattle.todo_plan.specs.Autosquash.{belongs, is_number, up_to_last}
use Rattle.todo_plan.specs.Segments.{AreSegments, IsHome, joined}
use Rattle.todo_plan.proofs.SquashLaws.{none_of}

-- ---- which lines belong to a pick

or_none : (t : Bool) → (t || false) ≡ t
or_none true = refl
or_none false = refl

any_both : (n : ℕ) (xs ys : List Placed) → list_any (belongs n) (xs ++ ys) ≡ (list_any (belongs n) xs || list_any (belongs n) ys)
any_both n [] ys = refl
any_both n (x ∷ xs) ys = step (any_both n xs ys) (belongs n x)
  where
    step : list_any (belongs n) (xs ++ ys) ≡ (list_any (belongs n) xs || list_any (belongs n) ys) → (t : Bool)
        → (t || list_any (belongs n) (xs ++ ys)) ≡ ((t || list_any (belongs n) xs) || list_any (belongs n) ys)
    step rest true = refl
    step rest false = rest

or_swap : (a b c : Bool) → (a || (b || c)) ≡ ((a || c) || b)
or_swap true b c = refl
or_swap false true true = refl
or_swap false true false = refl
or_swap false false true = refl
or_swap false false false = refl

any_insert : (n : ℕ) (xs : List Placed) (i : ℕ) (p : Placed) → list_any (belongs n) (insert xs i p) ≡ (list_any (belongs n) xs || belongs n p)
any_insert n xs i p =
    any_both n (take i xs) (p ∷ drop i xs) ∙ or_swap (list_any (belongs n) (take i xs)) (belongs n p) (list_any (belongs n) (drop i xs))
    ∙ ap (λ (t : Bool). t || belongs n p) (sym (any_both n (take i xs) (drop i xs)) ∙ ap (list_any (belongs n)) (take-append-drop i xs))

none_left : (a b : Bool) → (a || b) ≡ false → (a ≡ false) × (b ≡ false)
none_left false false e = (refl, refl)
none_left false true e = absurd cc
none_left true b e = absurd cc

none_both : (a b : Bool) → a ≡ false → b ≡ false → (a || b) ≡ false
none_both false false e f = refl
none_both true b e f = absurd cc
none_both false true e f = absurd cc

-- ---- the last of them

last_within : (n : ℕ) (xs : List Placed) → up_to_last n xs ≤ length xs
last_within n [] = omega arith
last_within n (x ∷ xs) = step (last_within n xs) (list_any (belongs n) (x ∷ xs))
  where
    step : up_to_last n xs ≤ length xs → (t : Bool) → cond t (up_to_last n xs + 1) 0 ≤ suc (length xs)
    step rest true = omega arith
    step rest false = omega arith

last_left : (n : ℕ) (xs ys : List Placed) → list_any (belongs n) ys ≡ false → up_to_last n (xs ++ ys) ≡ up_to_last n xs
last_left n [] ys e = none_of n ys e
last_left n (x ∷ xs) ys e =
    ap (λ (m : ℕ). cond (list_any (belongs n) (x ∷ (xs ++ ys))) (m + 1) 0) (last_left n xs ys e)
    ∙ ap (λ (t : Bool). cond t (up_to_last n xs + 1) 0) (any_both n (x ∷ xs) ys ∙ ap (λ (t : Bool). list_any (belongs n) (x ∷ xs) || t) e ∙ or_none (list_any (belongs n) (x ∷ xs)))

last_right : (n : ℕ) (xs ys : List Placed) → list_any (belongs n) ys ≡ true → up_to_last n (xs ++ ys) ≡ length xs + up_to_last n ys
last_right n [] ys e = omega arith
last_right n (x ∷ xs) ys e =
    let rest = last_right n xs ys e in
    ap (λ (t : Bool). cond t (up_to_last n (xs ++ ys) + 1) 0) (any_both n (x ∷ xs) ys ∙ ap (λ (t : Bool). list_any (belongs n) (x ∷ xs) || t) e ∙ or_right (list_any (belongs n) (x ∷ xs)) true refl)
    ∙ omega (arith, rest)

-- ---- homes

home_among : (n : ℕ) (segments : List (List Placed)) (home : ℕ) → IsHome n segments home → list_any (belongs n) (joined segments) ≡ true
home_among n [] home h = absurd h
home_among n (s ∷ segments) zero h = any_both n s (joined segments) ∙ ap (λ (t : Bool). t || list_any (belongs n) (joined segments)) h.0
home_among n (s ∷ segments) (suc home) h =
    any_both n s (joined segments) ∙ ap (λ (t : Bool). list_any (belongs n) s || t) (home_among n segments home h)
    ∙ or_right (list_any (belongs n) s) true refl

home_within : (n : ℕ) (segments : List (List Placed)) (home : ℕ) → IsHome n segments home → home < length segments
home_within n [] home h = absurd h
home_within n (s ∷ segments) zero h = omega arith
home_within n (s ∷ segments) (suc home) h = let rest = home_within n segments home h in omega (arith, rest)

pub home_there : (segments : List (List Placed)) (homes : List ℕ) (n d : ℕ) → AreSegments segments homes → n < length homes
    → get_or homes n d < length segments
home_there segments homes n d was l = home_within n segments (get_or homes n d) (was.home n d l)

-- a line moved behind a pick
pub moved_home : (n : ℕ) (segments : List (List Placed)) (home : ℕ) (p : Placed) → IsHome n segments home
    → joined (set segments home (insert (get_or segments home []) (up_to_last n (get_or segments home [])) p)) ≡ insert (joined segments) (up_to_last n (joined segments)) p
moved_home n [] home p h = absurd h
moved_home n (s ∷ segments) zero p h =
    sym (insert-append_left s (joined segments) (up_to_last n s) p (last_within n s))
    ∙ ap (λ (m : ℕ). insert (s ++ joined segments) m p) (sym (last_left n s (joined segments) h.1))
moved_home n (s ∷ segments) (suc home) p h =
    let place = up_to_last n (joined segments) in
    let less : length s ≤ length s + place = omega arith in
    let left : length s + place - length s ≡ place = omega arith in
    ap (λ (ps : List Placed). s ++ ps) (moved_home n segments home p h ∙ ap (λ (m : ℕ). insert (joined segments) m p) (sym left))
    ∙ sym (insert-append_right s (joined segments) (length s) (length s + place) p refl less)
    ∙ ap (λ (m : ℕ). insert (s ++ joined segments) m p) (sym (last_right n s (joined segments) (home_among n segments home h)))

-- whatever pick a line in a segment belongs to, a segment with one more line keeps that
any_set : (n : ℕ) (segments : List (List Placed)) (at i : ℕ) (p : Placed) → belongs n p ≡ false
    → list_any (belongs n) (joined (set segments at (insert (get_or segments at []) i p))) ≡ list_any (belongs n) (joined segments)
any_set n [] at i p e = refl
any_set n (s ∷ segments) zero i p e =
    any_both n (insert s i p) (joined segments)
    ∙ ap (λ (t : Bool). t || list_any (belongs n) (joined segments)) (any_insert n s i p ∙ ap (λ (t : Bool). list_any (belongs n) s || t) e ∙ or_none (list_any (belongs n) s))
    ∙ sym (any_both n s (joined segments))
any_set n (s ∷ segments) (suc at) i p e =
    any_both n s (joined (set segments at (insert (get_or segments at []) i p)))
    ∙ ap (λ (t : Bool). list_any (belongs n) s || t) (any_set n segments at i p e) ∙ sym (any_both n s (joined segments))

home_set : (n : ℕ) (segments : List (List Placed)) (home at i : ℕ) (p : Placed) → (belongs n p ≡ false) ⊎ (at ≡ home) → IsHome n segments home
    → IsHome n (set segments at (insert (get_or segments at []) i p)) home
home_set n [] home at i p how h = absurd h
home_set n (s ∷ segments) zero zero i p how h = (any_insert n s i p ∙ ap (λ (t : Bool). t || belongs n p) h.0, h.1)
home_set n (s ∷ segments) zero (suc at) i p (inl e) h = (h.0, any_set n segments at i p e ∙ h.1)
home_set n (s ∷ segments) zero (suc at) i p (inr e) h = absurd (omega arith)
home_set n (s ∷ segments) (suc home) zero i p how h = h
home_set n (s ∷ segments) (suc home) (suc at) i p (inl e) h = home_set n segments home at i p (inl e) h
home_set n (s ∷ segments) (suc home) (suc at) i p (inr e) h = let same : at ≡ home = omega arith in home_set n segments home at i p (inr same) h

-- a line that is moved into a segment of whose picks none stands later has its home there
home_new : (n : ℕ) (segments : List (List Placed)) (at i : ℕ) (p : Placed) → belongs n p ≡ true → list_any (belongs n) (joined segments) ≡ false
    → at < length segments → IsHome n (set segments at (insert (get_or segments at []) i p)) at
home_new n [] at i p e none l = absurd (omega arith)
home_new n (s ∷ segments) zero i p e none l =
    let parts = none_left (list_any (belongs n) s) (list_any (belongs n) (joined segments)) (sym (any_both n s (joined segments)) ∙ none) in
    (any_insert n s i p ∙ ap (λ (t : Bool). list_any (belongs n) s || t) e ∙ or_right (list_any (belongs n) s) true refl, parts.1)
home_new n (s ∷ segments) (suc at) i p e none l =
    let parts = none_left (list_any (belongs n) s) (list_any (belongs n) (joined segments)) (sym (any_both n s (joined segments)) ∙ none) in
    home_new n segments at i p e parts.1 (omega (arith, l))

-- ---- one more line

joined_push : (segments : List (List Placed)) (s : List Placed) → joined (segments ++ s ∷ []) ≡ joined segments ++ s
joined_push [] s = append-nil s
joined_push (x ∷ segments) s = ap (λ (ps : List Placed). x ++ ps) (joined_push segments s) ∙ sym (append_assoc x (joined segments) s)

pub joined_line : (segments : List (List Placed)) (p : Placed) → joined (segments ++ (p ∷ []) ∷ []) ≡ joined segments ++ p ∷ []
joined_line segments p = joined_push segments (p ∷ [])

any_push : (n : ℕ) (segments : List (List Placed)) (s : List Placed)
    → list_any (belongs n) (joined (segments ++ s ∷ [])) ≡ (list_any (belongs n) (joined segments) || list_any (belongs n) s)
any_push n segments s = ap (list_any (belongs n)) (joined_push segments s) ∙ any_both n (joined segments) s

home_push : (n : ℕ) (segments : List (List Placed)) (home : ℕ) (s : List Placed) → list_any (belongs n) s ≡ false → IsHome n segments home
    → IsHome n (segments ++ s ∷ []) home
home_push n [] home s e h = absurd h
home_push n (x ∷ segments) zero s e h = (h.0, any_push n segments s ∙ none_both (list_any (belongs n) (joined segments)) (list_any (belongs n) s) h.1 e)
home_push n (x ∷ segments) (suc home) s e h = home_push n segments home s e h

home_last : (n : ℕ) (segments : List (List Placed)) (s : List Placed) → list_any (belongs n) s ≡ true → IsHome n (segments ++ s ∷ []) (length segments)
home_last n [] s e = (e, refl)
home_last n (x ∷ segments) s e = home_last n segments s e

-- a line that is no pick
pub stays : (segments : List (List Placed)) (homes : List ℕ) (line : Line) → AreSegments segments homes
    → AreSegments (segments ++ (record { line = line; pick = None; target = None } ∷ []) ∷ []) homes
stays segments homes line was =
    let s : List Placed = record { line = line; pick = None; target = None } ∷ [] in
    record {
      home = λ n d l. home_push n segments (get_or homes n d) s refl (was.home n d l);
      later = λ n l. any_push n segments s ∙ none_both (list_any (belongs n) (joined segments)) (list_any (belongs n) s) (was.later n l) refl;
    }

other : (m n : ℕ) → (m ≡ n → ⊥) → is_number n (Some m) ≡ false
other m n e = ne_eqb m n e

same : (m : ℕ) → is_number m (Some m) ≡ true
same m = eq-eqb m m refl

below : (n k : ℕ) → n < k + 1 → (n ≡ k → ⊥) → n < k
below n k l isnt = omega (arith, l, isnt)

-- the homes of the picks with one more
each_home : (segments : List (List Placed)) (homes : List ℕ) (home : ℕ) → ((n d : ℕ) → n < length homes → IsHome n segments (get_or homes n d))
    → IsHome (length homes) segments home → (n d : ℕ) → n < length homes + 1 → IsHome n segments (get_or (homes ++ home ∷ []) n d)
each_home segments homes home old new n d l = step (eqb n (length homes)) refl
  where
    step : (t : Bool) → eqb n (length homes) ≡ t → IsHome n segments (get_or (homes ++ home ∷ []) n d)
    step true e =
        let is = eqb-true n (length homes) e in
        subst (λ (k : ℕ). IsHome k segments (get_or (homes ++ home ∷ []) k d)) (sym is) (subst (IsHome (length homes) segments) (sym (get_or-append_seam homes home [] d)) new)
    step false e =
        let isnt = eqb-false n (length homes) e in
        let before : n < length homes = below n (length homes) l isnt in
        subst (IsHome n segments) (sym (get_or_append_left homes (home ∷ []) d n before)) (old n d before)

-- a pick that stays
pub pick_stays : (segments : List (List Placed)) (homes : List ℕ) (line : Line) → AreSegments segments homes
    → AreSegments (segments ++ (record { line = line; pick = Some (length homes); target = None } ∷ []) ∷ []) (homes ++ length segments ∷ [])
pick_stays segments homes line was =
    let s : List Placed = record { line = line; pick = Some (length homes); target = None } ∷ [] in
    let longer = length-append homes (length segments ∷ []) in
    record {
      home =
          λ n d l. each_home (segments ++ s ∷ []) homes (length segments) (λ k d m. home_push k segments (get_or homes k d) s (none k (omega arith)) (was.home k d m)) (home_last (length homes) segments s (one (length homes)))
          n d (omega (arith, longer));
      later =
          λ n l. any_push n segments s
          ∙ none_both (list_any (belongs n) (joined segments)) (list_any (belongs n) s) (was.later n (omega (arith, longer))) (none n (omega (arith, longer)));
    }
  where
    none : (k : ℕ) → (length homes ≡ k → ⊥) → ((is_number k (Some (length homes)) || false) || false) ≡ false
    none k isnt = or_none (is_number k (Some (length homes)) || false) ∙ or_none (is_number k (Some (length homes))) ∙ other (length homes) k isnt

    one : (k : ℕ) → ((is_number k (Some k) || false) || false) ≡ true
    one k = or_none (is_number k (Some k) || false) ∙ or_none (is_number k (Some k)) ∙ same k

-- a pick that is moved behind another
pub pick_moves : (segments : List (List Placed)) (homes : List ℕ) (line : Line) (target home : ℕ) → AreSegments segments homes → target < length homes
    → home ≡ get_or homes target home
    → AreSegments (set segments home (insert (get_or segments home []) (up_to_last target (get_or segments home [])) (record { line = line; pick = Some (length homes); target = Some target }))) (homes ++ home ∷ [])
pick_moves segments homes line target home was l is =
    let p : Placed = record { line = line; pick = Some (length homes); target = Some target } in
    let i = up_to_last target (get_or segments home []) in
    let after = set segments home (insert (get_or segments home []) i p) in
    let here = subst (IsHome target segments) (sym is) (was.home target home l) in
    let longer = length-append homes (home ∷ []) in
    record {
      home =
          λ n d m. each_home after homes home (λ k d j. home_set k segments (get_or homes k d) home i p (how k d j) (was.home k d j))
          (home_new (length homes) segments home i p (ap (λ (t : Bool). t || is_number (length homes) (Some target)) (same (length homes))) (was.later (length homes) (omega arith)) (home_within target segments home here))
          n d (omega (arith, longer));
      later = λ n m. any_set n segments home i p (none n (omega (arith, longer)) (omega (arith, longer, l))) ∙ was.later n (omega (arith, longer));
    }
  where
    none : (k : ℕ) → (length homes ≡ k → ⊥) → (target ≡ k → ⊥) → (is_number k (Some (length homes)) || is_number k (Some target)) ≡ false
    none k a b = none_both (is_number k (Some (length homes))) (is_number k (Some target)) (other (length homes) k a) (other target k b)

    how : (k d : ℕ) → k < length homes → ((is_number k (Some (length homes)) || is_number k (Some target)) ≡ false) ⊎ (home ≡ get_or homes k d)
    how k d j = step (eqb target k) refl
      where
        step : (t : Bool) → eqb target k ≡ t → ((is_number k (Some (length homes)) || is_number k (Some target)) ≡ false) ⊎ (home ≡ get_or homes k d)
        step true e =
            let same_pick = eqb-true target k e in
            inr (is ∙ ap (λ (m : ℕ). get_or homes m home) same_pick ∙ get_or_default homes k home d j)
        step false e = inl (none k (omega arith) (eqb-false target k e))

-- ---- what is written in a segment's place

home_is : (segments : List (List Placed)) (homes : List ℕ) (target home : ℕ) → AreSegments segments homes → target < length homes
    → home ≡ get_or homes target home → IsHome target segments home
home_is segments homes target home was l is = subst (IsHome target segments) (sym is) (was.home target home l)

segment_is : (segments : List (List Placed)) (target home : ℕ) (now : List Placed) → IsHome target segments home → now ≡ get_or segments home now
    → now ≡ get_or segments home []
segment_is segments target home now here there = there ∙ get_or_default segments home now [] (home_within target segments home here)

pub move_lines : {T E : Type 0} (r : Result T E) (segments : List (List Placed)) (homes : List ℕ) (target home : ℕ) (now new : List Placed) (p : Placed)
    → AreSegments segments homes → target < length homes → home ≡ get_or homes target home → now ≡ get_or segments home now
    → OnOk r (new ≡ insert now (up_to_last target now) p)
    → OnOk r (joined (set segments home new) ≡ insert (joined segments) (up_to_last target (joined segments)) p)
move_lines (Err e) segments homes target home now new p was l is there made = tt
move_lines (Ok u) segments homes target home now new p was l is there made =
    let here = home_is segments homes target home was l is in
    ap (λ (s : List Placed). joined (set segments home s))
    (made ∙ ap (λ (s : List Placed). insert s (up_to_last target s) p) (segment_is segments target home now here there))
    ∙ moved_home target segments home p here

pub move_segments : {T E : Type 0} (r : Result T E) (segments : List (List Placed)) (homes after : List ℕ) (target home : ℕ) (now new : List Placed) (line : Line)
    → AreSegments segments homes → target < length homes → home ≡ get_or homes target home → now ≡ get_or segments home now
    → OnOk r (new ≡ insert now (up_to_last target now) (record { line = line; pick = Some (length homes); target = Some target }))
    → after ≡ homes ++ home ∷ [] → OnOk r (AreSegments (set segments home new) after)
move_segments (Err e) segments homes after target home now new line was l is there made pushed = tt
move_segments (Ok u) segments homes after target home now new line was l is there made pushed =
    let here = home_is segments homes target home was l is in
    let put =
    made
    ∙ ap (λ (s : List Placed). insert s (up_to_last target s) (record { line = line; pick = Some (length homes); target = Some target }))
    (segment_is segments target home now here there)
    in
    subst (λ (hs : List ℕ). AreSegments (set segments home new) hs) (sym pushed)
    (subst (λ (s : List Placed). AreSegments (set segments home s) (homes ++ home ∷ [])) (sym put) (pick_moves segments homes line target home was l is))
