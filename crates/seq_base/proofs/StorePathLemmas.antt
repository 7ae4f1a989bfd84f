-- A path below the root is a store path.
use Rattle.std.proofs.Common.{◌≡◌, ◌==◌, ℕ, ◌+◌, Bool, true, false, ◌&&◌, ◌||◌, not, cond, codes, List, [], ◌∷◌, length, Some, None, refl}
use Rattle.std.specs.Char.{to_ascii_lowercase}
use Rattle.std.specs.List.{list_all}
use Rattle.std.specs.Prelude.{map}
use Rattle.std.specs.Str.{bytes_eq}
use Rattle.seq_base.specs.Paths.{IsPath, first_bad, is_part, parts}
use Rattle.seq_base.specs.StorePaths.{IsStorePath, is_store_part, is_text}
use Rattle.seq_base.proofs.Texts.{is_text-utf8}

good : (full plain dot dots git : Bool) → full && plain && not (dot || dots || git) ≡ true → full && not dot && not dots && plain ≡ true
good false plain dot dots git h = cc
good true false dot dots git h = cc
good true true true dots git h = cc
good true true false true git h = cc
good true true false false git h = refl

good_part : (part : List ℕ) → is_part part ≡ true → is_store_part part ≡ true
good_part part h =
    good (not (length part == 0)) (list_all (λ b. not (b == 0)) part) (bytes_eq (codes ".") part) (bytes_eq (codes "..") part) (bytes_eq (codes ".git") (map to_ascii_lowercase part)) h

both : (a b : Bool) → a ≡ true → b ≡ true → a && b ≡ true
both a b p q = rw p q

none_bad : (at : ℕ) (ps : List (List ℕ)) → first_bad at ps ≡ None → list_all is_store_part ps ≡ true
none_bad at [] h = refl
none_bad at (p ∷ ps) h =
    elim (is_part p) as (λ t. is_part p ≡ t → cond t (first_bad (at + length p + 1) ps) (Some at) ≡ None → is_store_part p && list_all is_store_part ps ≡ true) [
      | true ↦ λ part rest. both (is_store_part p) (list_all is_store_part ps) (good_part p part) (none_bad (at + length p + 1) ps rest)
      | false ↦ λ part rest. absurd cc
    ] refl h

pub path_is_store_path : (bytes : List ℕ) → IsPath bytes → IsStorePath bytes
path_is_store_path bytes path =
    both (is_text bytes) (list_all is_store_part (parts bytes)) (is_text-utf8 bytes path.text) (none_bad 0 (parts bytes) path.parts_are)
