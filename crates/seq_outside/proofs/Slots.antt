-- What a change does to the slots and the places.
use Rattle.std.proofs.Common.{◌≡◌, inl, inr, ℕ, zero, suc, ◌+◌, ◌<◌, Bool, true, false, ◌||◌, cond, List, [], ◌∷◌, ◌++◌, length, set, get_or, Option, Some, None, Ok, Err, take, drop, ◌-◌, length-append, refl, sym, ap, subst, ◌∙◌, arith}
use Rattle.std.proofs.lemmas.Bool.{or_left, or_parts, or_right}
use Rattle.std.specs.BTreeMap.{BTreeMap, Updates, get, is_at as is_at_key}
use Rattle.std.specs.Map.{lookup}
use Rattle.std.specs.Cmp.Lexicographic.{nat_list_cmp_total}
use Rattle.std.specs.Cmp.{eq_by_cmp_equiv}
use Rattle.std.specs.FinMap as map
use Rattle.std.specs.List.{AllByRecursion, list_any}
use Rattle.std.specs.Ordering.{eq_by_cmp}
use Rattle.std.specs.Prelude.{IfNone, IfSome, filter, map as map_list, not, option_map, ⊤}
use Rattle.seq_base.specs.World.{World, path_cmp}
use Rattle.seq_base.proofs.Shape.{same_path}
use Rattle.seq_outside.specs.declared.store.StoreError.{StoreError}
use Rattle.seq_outside.specs.declared.store.StoreError.TheVariants.{Failed, Blocked, Memory}
use Rattle.seq_outside.specs.declared.write.Write.{Write}
use Rattle.seq_outside.specs.Drafts.{AreApart, is_draft, puts_below, slot_puts_below, with_last, without}
use Rattle.seq_outside.specs.Slots.{AreChanges, SlotHasPath, SlotLeaves, all_chosen, chosen, cleared, kept, place_from}
use Rattle.seq_outside.specs.Writes as Writes
use Rattle.seq_outside.specs.Writes.{HasStorePath, IsFront, IsOnTheWay, are_free, is_at, is_of_objects, is_of_others, is_written, left_by, objects_first, path_of, written}
use Rattle.seq_outside.proofs.Firsts.{first_and_others}
use Rattle.seq_outside.proofs.ObjectsFirst.{all_made, among_objects, among_others, objects_free, objects_front, others_free, others_front}
use Rattle.seq_outside.proofs.Written.{Way, done, goes_on, next_free, on_the_way}
use Rattle.seq_outside.proofs.Drafts.{all_last, apart_last, draft_apart, first_stays, other_path, path_without, without_none}

pub kept-append : (xs ys : List (Option Write)) → kept (xs ++ ys) ≡ kept xs ++ kept ys
kept-append [] ys = refl
kept-append (None ∷ xs) ys = kept-append xs ys
kept-append (Some x ∷ xs) ys = ap (λ (zs : List Write). x ∷ zs) (kept-append xs ys)

pub unplaced : (n : ℕ) (slots : List (Option Write)) (path : List ℕ) → place_from n slots path ≡ None → is_written (kept slots) path ≡ false
unplaced n [] path e = refl
unplaced n (None ∷ slots) path e = unplaced (n + 1) slots path e
unplaced n (Some x ∷ slots) path e = at (unplaced (n + 1) slots path) (is_at path x) e
  where
    at : (place_from (n + 1) slots path ≡ None → is_written (kept slots) path ≡ false) → (b : Bool)
        → cond b (Some n) (place_from (n + 1) slots path) ≡ None → b || is_written (kept slots) path ≡ false
    at later true e = absurd cc
    at later false e = later e

nowhere : (n : ℕ) (slots : List (Option Write)) (path : List ℕ) → is_written (kept slots) path ≡ false → place_from n slots path ≡ None
nowhere n [] path e = refl
nowhere n (None ∷ slots) path e = nowhere (n + 1) slots path e
nowhere n (Some x ∷ slots) path e =
    let both = or_parts (is_at path x) (is_written (kept slots) path) e in rw both.0 (nowhere (n + 1) slots path both.1)

place-append : (n : ℕ) (slots : List (Option Write)) (x : Write) (path : List ℕ) → place_from n slots path ≡ None
    → place_from n (slots ++ Some x ∷ []) path ≡ cond (is_at path x) (Some (n + length slots)) None
place-append n [] x path e = let k : n ≡ n + 0 = omega arith in ap (λ (m : ℕ). cond (is_at path x) (Some m) None) k
place-append n (None ∷ slots) x path e =
    let k : n + 1 + length slots ≡ n + suc (length slots) = omega arith in place-append (n + 1) slots x path e
    ∙ ap (λ (m : ℕ). cond (is_at path x) (Some m) None) k
place-append n (Some y ∷ slots) x path e = at (place-append (n + 1) slots x path) (is_at path y) e
  where
    at : (place_from (n + 1) slots path ≡ None → place_from (n + 1) (slots ++ Some x ∷ []) path ≡ cond (is_at path x) (Some (n + 1 + length slots)) None)
        → (b : Bool) → cond b (Some n) (place_from (n + 1) slots path) ≡ None
        → cond b (Some n) (place_from (n + 1) (slots ++ Some x ∷ []) path) ≡ cond (is_at path x) (Some (n + suc (length slots))) None
    at later true e = absurd cc
    at later false e =
        let k : n + 1 + length slots ≡ n + suc (length slots) = omega arith in later e ∙ ap (λ (m : ℕ). cond (is_at path x) (Some m) None) k

place-other : (n : ℕ) (slots : List (Option Write)) (x : Write) (path : List ℕ) → is_at path x ≡ false
    → place_from n (slots ++ Some x ∷ []) path ≡ place_from n slots path
place-other n [] x path other = rw other refl
place-other n (None ∷ slots) x path other = place-other (n + 1) slots x path other
place-other n (Some y ∷ slots) x path other = ap (cond (is_at path y) (Some n)) (place-other (n + 1) slots x path other)

-- the slot of a path
pub record IsPlaced (n : ℕ) (slots : List (Option Write)) (path : List ℕ) (place : ℕ) : Type 0 where
  pub at : ℕ
  pub place_is : place ≡ n + at
  pub within : at < length slots
  pub write : Write
  pub is : (d : Option Write) → get_or slots at d ≡ Some write
  pub here : is_at path write ≡ true
  pub cleared : AreApart (kept slots) → kept (set slots at None) ≡ without path (kept slots)
  pub named : is_written (kept slots) path ≡ true
  pub leaves : AreApart (kept slots) → (w : World) → map.get (written w (kept slots)) path ≡ left_by write
  pub others : (m : ℕ) (q : List ℕ) → eq_by_cmp path_cmp q path ≡ false → place_from m (set slots at None) q ≡ place_from m slots q

pub placed : (n : ℕ) (slots : List (Option Write)) (path : List ℕ) (place : ℕ) → place_from n slots path ≡ Some place → IsPlaced n slots path place
placed n [] path place e = absurd cc
placed n (None ∷ slots) path place e =
    let r = placed (n + 1) slots path place e in
    record {
      at = suc r.at;
      place_is = omega (arith, r.place_is);
      within = omega (arith, r.within);
      write = r.write;
      is = r.is;
      here = r.here;
      cleared = r.cleared;
      named = r.named;
      leaves = r.leaves;
      others = λ m q other. r.others (m + 1) q other;
    }
placed n (Some x ∷ slots) path place e = at (placed (n + 1) slots path place) (is_at path x) refl e
  where
    at : (place_from (n + 1) slots path ≡ Some place → IsPlaced (n + 1) slots path place) → (b : Bool) → is_at path x ≡ b
        → cond b (Some n) (place_from (n + 1) slots path) ≡ Some place → IsPlaced n (Some x ∷ slots) path place
    at later true here e =
        let k : n ≡ place = cc in
        record {
          at = 0;
          place_is = omega arith;
          within = omega arith;
          write = x;
          is = λ d. refl;
          here = here;
          cleared =
              λ apart. rw here (sym (without_none path (kept slots) (ap (is_written (kept slots)) (same_path path (path_of x) here) ∙ apart.0)));
          named = or_left (is_at path x) (is_written (kept slots) path) here;
          leaves = λ apart w. first_stays w x (kept slots) path here apart.0;
          others = λ m q other. rw (other_path path q x here other) refl;
        }
    at later false other e =
        let r = later e in
        record {
          at = suc r.at;
          place_is = omega (arith, r.place_is);
          within = omega (arith, r.within);
          write = r.write;
          is = r.is;
          here = r.here;
          cleared = λ apart. rw other (ap (λ (zs : List Write). x ∷ zs) (r.cleared apart.1));
          named = or_right (is_at path x) (is_written (kept slots) path) r.named;
          leaves = λ apart w. r.leaves apart.1 (Writes.after w x);
          others = λ m q apart. ap (cond (is_at q x) (Some m)) (r.others (m + 1) q apart);
        }

set-behind : {X : Type 0} (xs : List X) (i : ℕ) (x y : X) → i < length xs → set (xs ++ y ∷ []) i x ≡ set xs i x ++ y ∷ []
set-behind [] i x y lt = absurd (omega arith)
set-behind (z ∷ xs) zero x y lt = refl
set-behind (z ∷ xs) (suc i) x y lt = ap (λ (zs : List _). z ∷ zs) (set-behind xs i x y (omega (arith, lt)))

length-set : {X : Type 0} (xs : List X) (i : ℕ) (x : X) → length (set xs i x) ≡ length xs
length-set [] i x = refl
length-set (y ∷ xs) zero x = refl
length-set (y ∷ xs) (suc i) x = ap suc (length-set xs i x)

-- ---- a change of a path

turned : (p q : List ℕ) → eq_by_cmp path_cmp p q ≡ eq_by_cmp path_cmp q p
turned p q = let laws = eq_by_cmp_equiv nat_list_cmp_total in laws.symm p q

-- What is there after a change behind slots that have none of its path: of all others they have what the old ones had.
changed : (slots less : List (Option Write)) (x : Write) (places new : BTreeMap (List ℕ) ℕ) → AreChanges slots places → HasStorePath x
    → kept less ≡ without (path_of x) (kept slots) → length less ≡ length slots
    → ((q : List ℕ) → eq_by_cmp path_cmp q (path_of x) ≡ false → place_from 0 less q ≡ place_from 0 slots q)
    → is_written (kept less) (path_of x) ≡ false
    → Updates path_cmp places new (path_of x) (Some (length slots)) → AreChanges (less ++ Some x ∷ []) new
changed slots less x places new changes path kept_is long others none updates =
    let is : kept (less ++ Some x ∷ []) ≡ with_last (kept slots) x = kept-append less (Some x ∷ []) ∙ ap (λ (xs : List Write). xs ++ x ∷ []) kept_is in
    record {
      apart = subst AreApart (sym is) (apart_last (kept slots) x changes.apart);
      paths = subst (AllByRecursion HasStorePath) (sym is) (all_last HasStorePath (kept slots) x changes.paths path);
      placed =
          λ q. updates.0 q ∙ ap (λ (b : Bool). cond b (Some (length slots)) (get path_cmp places q)) (turned (path_of x) q)
          ∙ at q (eq_by_cmp path_cmp q (path_of x)) refl;
    }
  where
    at : (q : List ℕ) (b : Bool) → eq_by_cmp path_cmp q (path_of x) ≡ b
        → cond b (Some (length slots)) (get path_cmp places q) ≡ place_from 0 (less ++ Some x ∷ []) q
    at q true same =
        let gone = ap (place_from 0 less) (same_path q (path_of x) same) ∙ nowhere 0 less (path_of x) none in
        let is : 0 + length less ≡ length slots = omega (arith, long) in
        sym (place-append 0 less x q gone ∙ ap (λ (b : Bool). cond b (Some (0 + length less)) None) same ∙ ap Some is)
    at q false other = changes.placed q ∙ sym (place-other 0 less x q other ∙ others q other)

-- what stands for a path is the place of its slot
module _ (slots : List (Option Write)) (x : Write) (places new : BTreeMap (List ℕ) ℕ) (old : AreChanges slots places) (path : HasStorePath x) (updates : Updates path_cmp places new (path_of x) (Some (length slots))) where
  pub record Changed (earlier : Option ℕ) : Type 0 where
    pub within : IfSome earlier (λ place. place < length (slots ++ Some x ∷ []))
    pub kept_is : kept (cleared (slots ++ Some x ∷ []) earlier) ≡ with_last (kept slots) x
    pub changes : AreChanges (cleared (slots ++ Some x ∷ []) earlier) new

  pub change : (earlier : Option ℕ) → earlier ≡ get path_cmp places (path_of x) → Changed earlier
  change None e =
      let none = unplaced 0 slots (path_of x) (sym (old.placed (path_of x)) ∙ sym e) in
      let same = without_none (path_of x) (kept slots) none in
      record {
        within = tt;
        kept_is = kept-append slots (Some x ∷ []) ∙ ap (λ (xs : List Write). xs ++ x ∷ []) (sym same);
        changes = changed slots slots x places new old path (sym same) refl (λ q other. refl) none updates;
      }
  change (Some place) e =
      let at = placed 0 slots (path_of x) place (sym (old.placed (path_of x)) ∙ sym e) in
      let here : place ≡ at.at = omega (arith, at.place_is) in
      let within : place < length slots = omega (arith, here, at.within) in
      let less = ap (λ (i : ℕ). kept (set slots i None)) here ∙ at.cleared old.apart in
      let is : set (slots ++ Some x ∷ []) place None ≡ set slots place None ++ Some x ∷ [] = set-behind slots place None (Some x) within in
      record {
        within = let long = length-append slots (Some x ∷ []) in omega (arith, long, within);
        kept_is = ap kept is ∙ kept-append (set slots place None) (Some x ∷ []) ∙ ap (λ (xs : List Write). xs ++ x ∷ []) less;
        changes = subst (λ (zs : List (Option Write)). AreChanges zs new) (sym is)
            (changed slots (set slots place None) x places new old path less (length-set slots place None)
            (λ q other. ap (λ (i : ℕ). place_from 0 (set slots i None) q) here ∙ at.others 0 q other)
            (ap (λ (xs : List Write). is_written xs (path_of x)) less ∙ path_without (path_of x) (kept slots)) updates);
      }

pub popped : (slots all rest : List (Option Write)) (x : Option Write) (n : ℕ) → all ≡ slots ++ x ∷ [] → n ≡ length all → rest ≡ take (n - 1) all
    → rest ≡ slots
popped slots all rest x n is long e =
    let more = length-append slots (x ∷ []) in
    let k : n ≡ length (slots ++ x ∷ []) = long ∙ ap length is in
    let m : n - 1 ≡ length slots = omega (arith, k, more) in
    e ∙ ap (λ (i : ℕ). take i all) m ∙ ap (take (length slots)) is ∙ front slots
  where
    front : (slots : List (Option Write)) → take (length slots) (slots ++ x ∷ []) ≡ slots
    front [] = refl
    front (y ∷ slots) = ap (λ (zs : List (Option Write)). y ∷ zs) (front slots)

pub unchanged : (slots : List (Option Write)) (places new : BTreeMap (List ℕ) ℕ) → AreChanges slots places → new.entries ≡ places.entries
    → AreChanges slots new
unchanged slots places new old same = record {
  apart = old.apart;
  paths = old.paths;
  placed = λ q. ap (lookup (is_at_key (path_cmp q))) same ∙ old.placed q;
}

-- ---- looking up

-- what a reference shows, by what it refers to
module _ {R : Type 0} (now : R → Write) where
  pub shown : (P : Write → Type 0) (r : Option R) (o : Option Write) → option_map now r ≡ o → IfSome o P → IfSome r (λ x. P (now x))
  shown P None o e h = tt
  shown P (Some x) None e h = absurd cc
  shown P (Some x) (Some y) e h = let same : now x ≡ y = cc in subst P (sym same) h

  pub shows : (P : Type 0) (r : Option R) → P → IfSome r (λ x. P)
  shows P None h = tt
  shows P (Some x) h = h

  pub never : (P : Type 0) (r : Option R) (o : Option Write) → option_map now r ≡ o → (o ≡ None → ⊥) → IfNone r P
  never P None o e some = absurd (some (sym e))
  never P (Some x) o e some = tt

-- what the place of a path's slot says
pub at_place : (slots : List (Option Write)) (places : BTreeMap (List ℕ) ℕ) (path : List ℕ) (place : ℕ) (write : Option Write) (d : Option Write)
    → AreChanges slots places → Some place ≡ get path_cmp places path → write ≡ get_or slots place d
    → (place < length slots) × IfSome write (λ x. (w : World) → map.get (written w (kept slots)) path ≡ left_by x) × (write ≡ None → ⊥) × (is_written (kept slots) path ≡ true)
at_place slots places path place write d all e is =
    let p = placed 0 slots path place (sym (all.placed path) ∙ sym e) in
    let here : place ≡ p.at = omega (arith, p.place_is) in
    let some : write ≡ Some p.write = is ∙ ap (λ (i : ℕ). get_or slots i d) here ∙ p.is d in
    (omega (arith, here, p.within), subst (λ (o : Option Write). IfSome o (λ x. (w : World) → map.get (written w (kept slots)) path ≡ left_by x)) (sym some) (p.leaves all.apart), λ none. absurd (let k : None ≡ Some p.write = sym none ∙ some in cc), p.named)

pub found : (slots : List (Option Write)) (places : BTreeMap (List ℕ) ℕ) (path : List ℕ) (place : ℕ) → AreChanges slots places
    → Some place ≡ get path_cmp places path → IsPlaced 0 slots path place
found slots places path place all e = placed 0 slots path place (sym (all.placed path) ∙ sym e)

pub absent : (slots : List (Option Write)) (places : BTreeMap (List ℕ) ℕ) (path : List ℕ) → AreChanges slots places → None ≡ get path_cmp places path
    → is_written (kept slots) path ≡ false
absent slots places path all e = unplaced 0 slots path (sym (all.placed path) ∙ sym e)

pub kept_below : (folder : List ℕ) (slots : List (Option Write)) → list_any (slot_puts_below folder) slots ≡ list_any (puts_below folder) (kept slots)
kept_below folder [] = refl
kept_below folder (None ∷ slots) = kept_below folder slots
kept_below folder (Some x ∷ slots) = ap (λ (b : Bool). puts_below folder x || b) (kept_below folder slots)

-- ---- making

-- the chosen writes, as changes are listed
pub chosen_objects : (slots : List (Option Write)) → all_chosen true slots ≡ filter is_of_objects (kept slots)
chosen_objects [] = refl
chosen_objects (None ∷ slots) = chosen_objects slots
chosen_objects (Some x ∷ slots) = at (chosen_objects slots) (is_of_objects x)
  where
    at : all_chosen true slots ≡ filter is_of_objects (kept slots) → (b : Bool)
        → kept (cond b (Some x) None ∷ map_list (chosen true) slots) ≡ cond b (x ∷ filter is_of_objects (kept slots)) (filter is_of_objects (kept slots))
    at later true = ap (λ (zs : List Write). x ∷ zs) later
    at later false = later

pub chosen_others : (slots : List (Option Write)) → all_chosen false slots ≡ filter is_of_others (kept slots)
chosen_others [] = refl
chosen_others (None ∷ slots) = chosen_others slots
chosen_others (Some x ∷ slots) = at (chosen_others slots) (is_of_objects x)
  where
    at : all_chosen false slots ≡ filter is_of_others (kept slots) → (b : Bool)
        → kept (cond b None (Some x) ∷ map_list (chosen false) slots) ≡ cond (not b) (x ∷ filter is_of_others (kept slots)) (filter is_of_others (kept slots))
    at later true = later
    at later false = ap (λ (zs : List Write). x ∷ zs) later

pub slot_path : (slots : List (Option Write)) (slot : Option Write) → 0 < length slots → slot ≡ get_or slots 0 slot
    → AllByRecursion HasStorePath (kept slots) → SlotHasPath slot × AllByRecursion HasStorePath (kept (take (length slots - 1) (drop 1 slots)))
slot_path slots slot some is paths =
    at slot (subst (λ (s : List (Option Write)). AllByRecursion HasStorePath (kept s)) (first_and_others slots slot some is) paths)
  where
    at : (slot : Option Write) → AllByRecursion HasStorePath (kept (slot ∷ take (length slots - 1) (drop 1 slots)))
        → SlotHasPath slot × AllByRecursion HasStorePath (kept (take (length slots - 1) (drop 1 slots)))
    at None paths = (tt, paths)
    at (Some x) paths = paths

module _ (of_objects : Bool) (old now new : World) (writes : List Write) (slots : List (Option Write)) (slot : Option Write) (way : Way old now writes (all_chosen of_objects slots)) (some : 0 < length slots) (is : slot ≡ get_or slots 0 slot) where
  abbrev rest : List Write
  rest = all_chosen of_objects (take (length slots - 1) (drop 1 slots))

  abbrev with_slot : Option Write → List Write
  with_slot slot = kept (slot ∷ map_list (chosen of_objects) (take (length slots - 1) (drop 1 slots)))

  here : Way old now writes (with_slot (chosen of_objects slot))
  here = subst (λ (s : List (Option Write)). Way old now writes (all_chosen of_objects s)) (first_and_others slots slot some is) way

  pub slot_made : (x : ⊤) → SlotLeaves {T = ⊤} (Ok x) now (chosen of_objects slot) new → Way old new writes rest
  slot_made x leaves = at (chosen of_objects slot) here leaves
    where
      at : (slot : Option Write) → Way old now writes (with_slot slot) → SlotLeaves {T = ⊤} (Ok x) now slot new → Way old new writes rest
      at None way same = subst (λ (w : World). Way old w writes rest) (sym same) way
      at (Some write) way leaves = subst (λ (w : World). Way old w writes rest) (sym leaves.1) (goes_on old now writes write rest way)

  pub slot_front : (e : StoreError) → SlotLeaves {T = ⊤} (Err e) now (chosen of_objects slot) new → IsFront old writes new
  slot_front e leaves = at e (chosen of_objects slot) here leaves
    where
      stays : new ≡ now → IsFront old writes new
      stays same = subst (IsFront old writes) (sym same) (on_the_way old now writes (all_chosen of_objects slots) way)

      at : (e : StoreError) (slot : Option Write) → Way old now writes (with_slot slot) → SlotLeaves {T = ⊤} (Err e) now slot new
          → IsFront old writes new
      at e None way never = absurd never
      at Failed (Some write) way (inl same) = stays same
      at Failed (Some write) way (inr made) =
          subst (IsFront old writes) (sym made.1) (on_the_way old (Writes.after now write) writes rest (goes_on old now writes write rest way))
      at Blocked (Some write) way leaves = stays leaves.1
      at Memory (Some write) way same = stays same

  pub slot_free : (e : StoreError) → e ≡ Blocked → SlotLeaves {T = ⊤} (Err e) now (chosen of_objects slot) new → are_free old writes ≡ true → ⊥
  slot_free e is leaves free =
      at (chosen of_objects slot) here (subst (λ (e : StoreError). SlotLeaves {T = ⊤} (Err e) now (chosen of_objects slot) new) is leaves)
    where
      at : (slot : Option Write) → Way old now writes (with_slot slot) → SlotLeaves {T = ⊤} (Err Blocked) now slot new → ⊥
      at None way never = never
      at (Some write) way leaves = next_free old now writes write rest way free leaves.0

pub all_chosen_made : (of_objects : Bool) (old now : World) (writes : List Write) (slots : List (Option Write)) → length slots < 1
    → Way old now writes (all_chosen of_objects slots) → now ≡ written old writes
all_chosen_made of_objects old now writes [] none way = done old now writes [] way
all_chosen_made of_objects old now writes (slot ∷ slots) none way = absurd (omega (arith, none))

-- ---- both parts

module _ (old : World) (slots : List (Option Write)) (draft : is_draft (kept slots) ≡ true) where
  apart : AreApart (kept slots)
  apart = draft_apart (kept slots) draft

  pub objects_part : (now : World) → IsFront old (all_chosen true slots) now → IsOnTheWay old (written old (kept slots)) now
  objects_part now front = among_objects old (kept slots) apart now (subst (λ (xs : List Write). IsFront old xs now) (chosen_objects slots) front)

  pub objects_part_front : (now : World) → IsFront old (all_chosen true slots) now → IsFront old (objects_first (kept slots)) now
  objects_part_front now front =
      objects_front old (kept slots) apart now (subst (λ (xs : List Write). IsFront old xs now) (chosen_objects slots) front)

  pub objects_part_free : are_free old (kept slots) ≡ true → are_free old (all_chosen true slots) ≡ true
  objects_part_free free = ap (are_free old) (chosen_objects slots) ∙ objects_free old (kept slots) apart free

  module _ (mid : World) (made : mid ≡ written old (all_chosen true slots)) where
    made_is : mid ≡ written old (filter is_of_objects (kept slots))
    made_is = made ∙ ap (written old) (chosen_objects slots)

    pub others_part : (now : World) → IsFront mid (all_chosen false slots) now → IsOnTheWay old (written old (kept slots)) now
    others_part now front =
        among_others old (kept slots) apart mid now made_is (subst (λ (xs : List Write). IsFront mid xs now) (chosen_others slots) front)

    pub others_part_front : (now : World) → IsFront mid (all_chosen false slots) now → IsFront old (objects_first (kept slots)) now
    others_part_front now front =
        others_front old (kept slots) apart mid now made_is (subst (λ (xs : List Write). IsFront mid xs now) (chosen_others slots) front)

    pub others_part_free : are_free old (kept slots) ≡ true → are_free mid (all_chosen false slots) ≡ true
    others_part_free free = ap (are_free mid) (chosen_others slots) ∙ others_free old (kept slots) apart mid made_is free

    pub both_parts : (now : World) → now ≡ written mid (all_chosen false slots) → now ≡ written old (kept slots)
    both_parts now is = all_made old (kept slots) apart mid now made_is (is ∙ ap (written mid) (chosen_others slots))
