-- A repository stays one where only an invocation's own files were changed.
use Rattle.std.proofs.Common.{◌≡◌, ◌⊎◌, inl, inr, Bool, true, false, not, is_some, refl, sym, ap, subst, ◌∙◌}
use Rattle.std.specs.Prelude.{codes}
use Rattle.std.specs.FinMap as map
use Rattle.std.proofs.lemmas.Bool.{and_parts, both_ways, false_from_ne_true, not-true}
use Rattle.ref_text.specs.Refs.{log_path, ref_path}
use Rattle.seq_base.specs.Paths.{parts}
use Rattle.seq_base.specs.Repository.{IsRepository, is_file_place, is_folder_place, is_in_place}
use Rattle.seq_base.specs.RefNames.{IsRefName}
use Rattle.seq_base.specs.Words.{Name, Path}
use Rattle.seq_base.specs.World.{World, IsWorld, is_below}
use Rattle.seq_base.proofs.Places.{in_place_below, path_in_place, place_in_place}
use Rattle.seq_base.proofs.RefPaths.{ref_log_placed, ref_placed}
use Rattle.seq_model.specs.Changes.{Changes, KeepsRepository, MayChange, IsObject, IsRef, IsIndex, IsConfig, IsMessage, IsInWorktree}
use Rattle.seq_model.specs.Making.{message_path}
use Rattle.seq_outside.specs.Writes.{IsBetween, IsOnTheWay}
use Rattle.seq_model.proofs.Owning.{owned_both}

of_ref : (path : Path) (name : Name) → IsRefName name → (path ≡ ref_path name) ⊎ (path ≡ log_path name) → is_in_place path ≡ true
of_ref path name is (inl ref) = ap is_in_place ref ∙ ref_placed name is
of_ref path name is (inr log) = ap is_in_place log ∙ ref_log_placed name is

in_place : (path : Path) → MayChange path → is_in_place path ≡ true
in_place path (IsObject is) = place_in_place path (and_parts (is_below (codes ".git/objects") path) (is_file_place (parts path)) is).1
in_place path (IsRef ref) = of_ref path ref.0 ref.1 ref.2
in_place path (IsIndex is) = ap is_in_place is ∙ place_in_place (codes ".git/index") refl
in_place path (IsConfig is) = ap is_in_place is ∙ place_in_place (codes ".git/config") refl
in_place path (IsMessage is) = ap is_in_place is ∙ place_in_place message_path refl
in_place path (IsInWorktree is) = path_in_place path is

module _ (old new : World) (changes : Changes old new) where
  -- a file that stands in another place than any of these stood there before
  stood : (path : Path) → is_in_place path ≡ false → map.contains_key new path ≡ true → map.contains_key old path ≡ true
  stood path other there = sym (ap is_some (changes.others path (λ may. both_ways (is_in_place path) other (in_place path may)))) ∙ there

  files : IsRepository old → (kept path : Path) → is_file_place (parts kept) ≡ true → map.contains_key new path ≡ true → (b : Bool)
      → is_in_place path ≡ b → is_below kept path ≡ false
  files is kept path place there true here = in_place_below kept path here place
  files is kept path place there false other = is.files kept path place (stood path other there)

  folders : IsRepository old → (kept : Path) → is_folder_place (parts kept) ≡ true → map.contains_key new kept ≡ true → (b : Bool)
      → is_in_place kept ≡ b → ⊥
  folders is kept place there true here =
      both_ways (is_folder_place (parts kept)) (not-true (is_folder_place (parts kept)) (and_parts (not (is_folder_place (parts kept))) _ here).0) place
  folders is kept place there false other = both_ways (map.contains_key old kept) (is.folders kept place) (stood kept other there)

  pub keeps_repository : IsWorld new → KeepsRepository old new
  keeps_repository shaped = record {
    changes = changes;
    stays = λ is. record {
      shape = shaped;
      files = λ kept path place there. files is kept path place there (is_in_place path) refl;
      folders = λ kept place. false_from_ne_true (map.contains_key new kept) (λ there. folders is kept place there (is_in_place kept) refl);
    };
  }

-- ---- what was made on the way is its own too

pub owned_between : (old aim now : World) → Changes old aim → IsBetween old aim now → Changes old now
owned_between old aim now changes between = record { others = λ path not_own. at path (between path) (changes.others path not_own) }
  where
    at : (path : Path) → (map.get now path ≡ map.get old path) ⊎ (map.get now path ≡ map.get aim path) → map.get aim path ≡ map.get old path
        → map.get now path ≡ map.get old path
    at path (inl same) aims = same
    at path (inr made) aims = made ∙ aims

-- what a draft with an invocation's own changes came to, over a store that is as it was
pub owned_made : (old lent drafted aim now : World) → lent ≡ old → Changes old drafted → Changes drafted aim → IsOnTheWay lent aim now
    → Changes old now
owned_made old lent drafted aim now same first second way =
    owned_between old aim now (owned_both old drafted aim first second) (subst (λ (w : World). IsBetween w aim now) same way.between)
