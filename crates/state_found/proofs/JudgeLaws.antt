-- What it says that a file is the first that does not hold what it is to hold.
use Rattle.std.proofs.Common.{◌≡◌, ℕ, Bool, true, false, cond, List, [], ◌∷◌, map, Option, Some, None, refl, ap, subst}
use Rattle.std.specs.Prelude.{◌||◌, not}
use Rattle.std.specs.List.{AllByRecursion, list_any}
use Rattle.std.proofs.lemmas.Slice.Eq.{bytes_eq-Decides}
use Rattle.state_text.specs.declared.control.Control.{Control}
use Rattle.state_text.specs.declared.state_file.StateFile.{StateFile}
use Rattle.state_reading.specs.Recalls.{is_file, text_at}
use Rattle.state_found.specs.Found.{files_before}
use Rattle.state_found.specs.Judged.{first_misfit, same_text, wanted}
use Rattle.state_found.specs.Recalled.{Files}
use Rattle.state_found.proofs.FileLaws.{file_is, file_itself}

same_is : (a b : Option (List ℕ)) → same_text a b ≡ true → a ≡ b
same_is None None e = refl
same_is None (Some y) e = absurd cc
same_is (Some x) None e = absurd cc
same_is (Some x) (Some y) e = ap Some ((bytes_eq-Decides x y).0 e)

same_itself : (a b : Option (List ℕ)) → a ≡ b → same_text a b ≡ true
same_itself None None e = refl
same_itself None (Some y) e = absurd cc
same_itself (Some x) None e = absurd cc
same_itself (Some x) (Some y) e = let same : x ≡ y = cc in (bytes_eq-Decides x y).1 same

pub or_true : (a b : Bool) → b ≡ true → (a || b) ≡ true
or_true true b e = refl
or_true false b e = e

pub turned : (f g : StateFile) → is_file f g ≡ true → is_file g f ≡ true
turned f g e = let P : StateFile → Type 0 = λ h. is_file h f ≡ true in subst P (file_is f g e) (file_itself f)

-- ---- files among others

abbrev pub among : StateFile → List StateFile → Type 0
among f files = list_any (is_file f) files ≡ true

module _ (P Q : StateFile → Type 0) where
  -- what follows for each of the files follows for those before one
  pub all_before : (f : StateFile) (files : List StateFile) → ((g : StateFile) → among g files → P g → Q g) → AllByRecursion P (files_before f files)
      → AllByRecursion Q (files_before f files)
  all_before f [] each all = tt
  all_before f (g ∷ files) each all =
      at (is_file g f) (λ h. all_before f files (λ i there. each i (or_true (is_file i g) (list_any (is_file i) files) there)) h) all
    where
      itself : among g (g ∷ files)
      itself = ap (λ (b : Bool). b || list_any (is_file g) files) (file_itself g)

      at : (b : Bool) → (AllByRecursion P (files_before f files) → AllByRecursion Q (files_before f files))
          → AllByRecursion P (cond b [] (g ∷ files_before f files)) → AllByRecursion Q (cond b [] (g ∷ files_before f files))
      at true later all = tt
      at false later all = (each g itself all.0, later all.1)

  pub all_of : (files : List StateFile) → ((g : StateFile) → among g files → P g → Q g) → AllByRecursion P files → AllByRecursion Q files
  all_of [] each all = tt
  all_of (g ∷ files) each all = (
    each g (ap (λ (b : Bool). b || list_any (is_file g) files) (file_itself g)) all.0,
    all_of files
        (λ i there. each i (or_true (is_file i g) (list_any (is_file i) files) there)) all.1,
  )

-- what holds of all holds of those before one, and of it
module _ (P : StateFile → Type 0) where
  pub front_of : (f : StateFile) (files : List StateFile) → AllByRecursion P files → AllByRecursion P (files_before f files)
  front_of f [] all = tt
  front_of f (g ∷ files) all = at (is_file g f) (front_of f files all.1)
    where
      at : (b : Bool) → AllByRecursion P (files_before f files) → AllByRecursion P (cond b [] (g ∷ files_before f files))
      at true later = tt
      at false later = (all.0, later)

-- ---- the files that were found

module _ (at : StateFile → Option (List ℕ)) where
  abbrev pub found_of : List StateFile → Files
  found_of files = map (λ (f : StateFile). (f, at f)) files

  pub text_found : (files : List StateFile) (f : StateFile) → among f files → text_at (found_of files) f ≡ at f
  text_found [] f there = absurd cc
  text_found (g ∷ files) f there = by (is_file g f) refl (is_file f g) refl (text_found files f) there
    where
      by : (b : Bool) → is_file g f ≡ b → (c : Bool) → is_file f g ≡ c → (among f files → text_at (found_of files) f ≡ at f)
          → (c || list_any (is_file f) files) ≡ true
          → cond b (at g) (text_at (found_of files) f) ≡ at f
      by true same c other later there = ap at (file_is g f same)
      by false same true other later there = let yes = turned f g other in absurd cc
      by false same false other later there = later there

  module _ (n : ℕ) (k : Control) where
    abbrev pub Holds : StateFile → Type 0
    Holds f = at f ≡ wanted n f k

    pub no_misfit : (files : List StateFile) → first_misfit n k (found_of files) ≡ None → AllByRecursion Holds files
    no_misfit [] e = tt
    no_misfit (g ∷ files) e = by (same_text (at g) (wanted n g k)) refl (no_misfit files) e
      where
        by : (b : Bool) → same_text (at g) (wanted n g k) ≡ b → (first_misfit n k (found_of files) ≡ None → AllByRecursion Holds files)
            → cond (not b) (Some g) (first_misfit n k (found_of files)) ≡ None → Holds g × AllByRecursion Holds files
        by true same later e = (same_is (at g) (wanted n g k) same, later e)
        by false same later e = absurd cc

    pub record IsMisfit (f : StateFile) (files : List StateFile) : Type 0 where
      pub there : among f files
      pub before : AllByRecursion Holds (files_before f files)
      pub here : Holds f → ⊥

    behind : (f g : StateFile) (files : List StateFile) → Holds g → IsMisfit f files → IsMisfit f (g ∷ files)
    behind f g files holds m = record { there = or_true (is_file f g) (list_any (is_file f) files) m.there; before = by (is_file g f); here = m.here }
      where
        by : (b : Bool) → AllByRecursion Holds (cond b [] (g ∷ files_before f files))
        by true = tt
        by false = (holds, m.before)

    at_first : (g : StateFile) (files : List StateFile) → (Holds g → ⊥) → IsMisfit g (g ∷ files)
    at_first g files bad =
        let itself = file_itself g in
        record { there = ap (λ (b : Bool). b || list_any (is_file g) files) itself; before = rw itself tt; here = bad }

    pub misfit : (files : List StateFile) (f : StateFile) → first_misfit n k (found_of files) ≡ Some f → IsMisfit f files
    misfit [] f e = absurd cc
    misfit (g ∷ files) f e = by (same_text (at g) (wanted n g k)) refl (misfit files f) e
      where
        by : (b : Bool) → same_text (at g) (wanted n g k) ≡ b → (first_misfit n k (found_of files) ≡ Some f → IsMisfit f files)
            → cond (not b) (Some g) (first_misfit n k (found_of files)) ≡ Some f → IsMisfit f (g ∷ files)
        by true same later e = behind f g files (same_is (at g) (wanted n g k) same) (later e)
        by false same later e =
            let g-is : g ≡ f = cc in
            let P : StateFile → Type 0 = λ h. IsMisfit h (g ∷ files) in
            subst P g-is (at_first g files (λ holds. let yes = same_itself (at g) (wanted n g k) holds in absurd cc))
