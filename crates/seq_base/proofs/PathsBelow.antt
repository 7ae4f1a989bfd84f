-- What a folder holds under a name has a path, where the name goes on behind the folder's.
use Rattle.std.proofs.Common.{◌≡◌, ℕ, ◌+◌, ◌<◌, Bool, true, false, cond, ◌∷◌, ◌++◌, [], List, length, Some, None, refl, ap, ◌∙◌, arith, length-append}
use Rattle.std.proofs.lemmas.Str.{IsUtf8-append}
use Rattle.std.specs.Str.{IsUtf8}
use Rattle.seq_base.specs.Paths.{IsPath, first_bad, is_part, parts}
use Rattle.seq_base.specs.StorePaths.{is_text}
use Rattle.seq_base.proofs.Places.{parts-behind}
use Rattle.seq_base.proofs.Texts.{utf8-is_text}

-- parts that are good where they begin are good wherever they begin, also behind good ones
none_bad : (at from : ℕ) (ps qs : List (List ℕ)) → first_bad at ps ≡ None → first_bad from qs ≡ None → first_bad at (ps ++ qs) ≡ None
none_bad at from [] [] good later = refl
none_bad at from [] (q ∷ qs) good later = by (is_part q) (none_bad (at + length q + 1) (from + length q + 1) [] qs refl) later
  where
    by : (t : Bool) → (first_bad (from + length q + 1) qs ≡ None → first_bad (at + length q + 1) qs ≡ None)
        → cond t (first_bad (from + length q + 1) qs) (Some from) ≡ None → cond t (first_bad (at + length q + 1) qs) (Some at) ≡ None
    by true step h = step h
    by false step h = absurd cc
none_bad at from (p ∷ ps) qs good later = by (is_part p) (λ h. none_bad (at + length p + 1) from ps qs h later) good
  where
    by : (t : Bool) → (first_bad (at + length p + 1) ps ≡ None → first_bad (at + length p + 1) (ps ++ qs) ≡ None)
        → cond t (first_bad (at + length p + 1) ps) (Some at) ≡ None → cond t (first_bad (at + length p + 1) (ps ++ qs)) (Some at) ≡ None
    by true step h = step h
    by false step h = absurd cc

text_below : (folder name : List ℕ) → IsUtf8 folder → IsUtf8 name → IsUtf8 (folder ++ 47 ∷ name)
text_below folder name text more = IsUtf8-append folder (47 ∷ name) text (IsUtf8-append (47 ∷ []) name (utf8-is_text (47 ∷ []) refl) more)

pub path_below : (folder name : List ℕ) → IsPath folder → length folder + length name < 4095 → is_text name ≡ true → first_bad 0 (parts name) ≡ None
    → IsPath (folder ++ 47 ∷ name)
path_below folder name path short text good = record {
  some = omega (arith, length-append folder (47 ∷ name));
  short = omega (arith, length-append folder (47 ∷ name));
  text = text_below folder name path.text (utf8-is_text name text);
  parts_are = ap (first_bad 0) (parts-behind folder name) ∙ none_bad 0 0 (parts folder) (parts name) path.parts_are good;
}
