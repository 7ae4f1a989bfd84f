-- Whether some file stands below a folder.
use Rattle.std.proofs.Common.{◌≡◌, ◌∙◌, ℕ, Bool, true, false, cond, eqb, List, [], ◌∷◌, length, Option, Some, None, refl, sym, ap, arith}
use Rattle.std.specs.Prelude.{◌||◌, ◌==◌, filter, is_some, not}
use Rattle.std.specs.List.{list_any}
use Rattle.std.specs.Ordering.{eq_by_cmp}
use Rattle.std.specs.FinMap.{contains_key-keys}
use Rattle.std.specs.FinMap as files
use Rattle.std.proofs.lemmas.Bool.{ne_eqb, or_parts}
use Rattle.std.proofs.lemmas.Slice.Eq.{bytes_eq-Decides}
use Rattle.seq_base.specs.World.{World, is_below, path_cmp}
use Rattle.seq_base.proofs.Shape.{same_path}
use Rattle.state_text.specs.Stops.{is_path}
use Rattle.state_text.proofs.StopLaws.{path_test}
use Rattle.state_found.proofs.JudgeLaws.{or_true}

-- some of the paths is chosen
abbrev chooses : (List ℕ → Bool) → List (List ℕ) → Bool
chooses test ks = not (length (filter test ks) == 0)

pub path_itself : (q : List ℕ) → is_path q q ≡ true
path_itself q = path_test q q ∙ (bytes_eq-Decides q q).1 refl

none_chosen : (test : List ℕ → Bool) (ks : List (List ℕ)) → chooses test ks ≡ false → list_any test ks ≡ false
none_chosen test [] none = refl
none_chosen test (k ∷ ks) none = at (test k) refl (none_chosen test ks) none
  where
    at : (b : Bool) → test k ≡ b → (chooses test ks ≡ false → list_any test ks ≡ false)
        → not (length (cond b (k ∷ filter test ks) (filter test ks)) == 0) ≡ false → (test k || list_any test ks) ≡ false
    at true on later none =
        let some : eqb (length (k ∷ filter test ks)) 0 ≡ false = ne_eqb (length (k ∷ filter test ks)) 0 (λ e. absurd (omega (arith, e))) in
        let yes : true ≡ false = sym (ap not some) ∙ none in
        absurd cc
    at false off later none = rw off (later none)

fails_at : (test : List ℕ → Bool) (q : List ℕ) (ks : List (List ℕ)) → list_any (is_path q) ks ≡ true → list_any test ks ≡ false → test q ≡ false
fails_at test q [] there none = absurd cc
fails_at test q (k ∷ ks) there none =
    let parts = or_parts (test k) (list_any test ks) none in
    at (is_path q k) refl (λ h. fails_at test q ks h parts.1) there parts.0
  where
    at : (b : Bool) → is_path q k ≡ b → (list_any (is_path q) ks ≡ true → test q ≡ false)
        → (b || list_any (is_path q) ks) ≡ true → test k ≡ false → test q ≡ false
    at true same later there off = ap test (same_path q k same) ∙ off
    at false same later there off = later there

none_of : (test : List ℕ → Bool) (ks : List (List ℕ)) → ((k : List ℕ) → list_any (is_path k) ks ≡ true → test k ≡ false) → filter test ks ≡ []
none_of test [] each = refl
none_of test (k ∷ ks) each =
    let off = each k (ap (λ (b : Bool). b || list_any (is_path k) ks) (path_itself k)) in
    rw off (none_of test ks (λ j there. each j (or_true (is_path j k) (list_any (is_path j) ks) there)))

-- ---- files of a world

pub none_below : (w : World) (folder path text : List ℕ) → chooses (is_below folder) (files.keys w) ≡ false → is_below folder path ≡ true
    → files.get w path ≡ Some text → ⊥
none_below w folder path text none below stands =
    let there : list_any (eq_by_cmp path_cmp path) (files.keys w) ≡ true = sym (contains_key-keys w path) ∙ ap is_some stands in
    let off = fails_at (is_below folder) path (files.keys w) there (none_chosen (is_below folder) (files.keys w) none) in
    absurd cc

pub some_below : (w : World) (folder path text : List ℕ) → is_below folder path ≡ true → files.get w path ≡ Some text
    → chooses (is_below folder) (files.keys w) ≡ true
some_below w folder path text below stands = at (chooses (is_below folder) (files.keys w)) refl
  where
    at : (b : Bool) → chooses (is_below folder) (files.keys w) ≡ b → b ≡ true
    at true e = refl
    at false e = absurd (none_below w folder path text e below stands)

pub not_below : (w : World) (folder path : List ℕ) → chooses (is_below folder) (files.keys w) ≡ false → is_below folder path ≡ true
    → files.get w path ≡ None
not_below w folder path none below = at (files.get w path) refl
  where
    at : (o : Option (List ℕ)) → files.get w path ≡ o → o ≡ None
    at None e = refl
    at (Some text) e = absurd (none_below w folder path text none below e)

pub nothing_below : (w : World) (folder : List ℕ) → ((path : List ℕ) → is_below folder path ≡ true → files.get w path ≡ None)
    → chooses (is_below folder) (files.keys w) ≡ false
nothing_below w folder none = ap (λ (ks : List (List ℕ)). not (length ks == 0)) (none_of (is_below folder) (files.keys w) fails)
  where
    fails : (k : List ℕ) → list_any (is_path k) (files.keys w) ≡ true → is_below folder k ≡ false
    fails k there = at (is_below folder k) refl
      where
        at : (b : Bool) → is_below folder k ≡ b → b ≡ false
        at true below =
            let some : is_some (files.get w k) ≡ true = contains_key-keys w k ∙ there in
            let none-there = ap is_some (none k below) in
            absurd cc
        at false below = refl
