-- Which files the steps of an invocation change.
use Rattle.std.proofs.Common.{◌≡◌, inl, inr, false, codes, refl, sym, ap, subst, ◌∙◌}
use Rattle.std.specs.FinMap as map
use Rattle.std.specs.Ordering.{eq_by_cmp}
use Rattle.std.proofs.lemmas.Bool.{false_from_ne_true}
use Rattle.objects.specs.Named.{is_object_place}
use Rattle.ref_store.specs.Moves.{IsElsewhere, moved_name}
use Rattle.ref_store.proofs.Moving.{moved_is_name}
use Rattle.ref_text.specs.declared.head.Head.{Head}
use Rattle.ref_text.specs.Heads.{IsHeadValue}
use Rattle.ref_text.specs.Refs.{head_name, log_path, ref_path}
use Rattle.seq_base.specs.Paths.{IsPath}
use Rattle.seq_base.specs.Words.{Path}
use Rattle.seq_base.specs.World.{World, path_cmp}
use Rattle.seq_base.proofs.Shape.{same_path}
use Rattle.seq_model.specs.Changes.{Changes, MayChange, IsObject, IsRef, IsIndex, IsConfig, IsMessage, IsInWorktree}
use Rattle.seq_model.specs.Making.{message_path}
use Rattle.worktree.specs.Own.{IsOwn}

pub owned_both : (old mid new : World) → Changes old mid → Changes mid new → Changes old new
owned_both old mid new first second = record { others = λ path not_own. second.others path not_own ∙ first.others path not_own }

-- nothing was changed
pub owned_same : (old new : World) → new ≡ old → Changes old new
owned_same old new same = record { others = λ path not_own. ap (λ (w : World). map.get w path) same }

pub ruleset owned_laws = (owned_same, owned_both)

pub objects_owned : (old new : World) → ((path : Path) → is_object_place path ≡ false → map.get new path ≡ map.get old path) → Changes old new
objects_owned old new elsewhere =
    record { others = λ path not_own. elsewhere path (false_from_ne_true (is_object_place path) (λ here. not_own (IsObject here))) }

pub message_owned : (old new : World) → ((path : Path) → eq_by_cmp path_cmp path message_path ≡ false → map.get new path ≡ map.get old path)
    → Changes old new
message_owned old new elsewhere =
    record { others = λ path not_own. elsewhere path (false_from_ne_true (eq_by_cmp path_cmp path message_path) (λ here. not_own (IsMessage (same_path path message_path here)))) }

pub index_owned : (old new : World) → ((path : Path) → eq_by_cmp path_cmp path (codes ".git/index") ≡ false → map.get new path ≡ map.get old path)
    → Changes old new
index_owned old new elsewhere =
    record { others = λ path not_own. elsewhere path (false_from_ne_true (eq_by_cmp path_cmp path (codes ".git/index")) (λ here. not_own (IsIndex (same_path path (codes ".git/index") here)))) }

pub config_owned : (old new : World) → ((path : Path) → eq_by_cmp path_cmp path (codes ".git/config") ≡ false → map.get new path ≡ map.get old path)
    → Changes old new
config_owned old new elsewhere =
    record { others = λ path not_own. elsewhere path (false_from_ne_true (eq_by_cmp path_cmp path (codes ".git/config")) (λ here. not_own (IsConfig (same_path path (codes ".git/config") here)))) }

-- HEAD's own file
pub head_file_owned : (old new : World) → ((path : Path) → eq_by_cmp path_cmp path (codes ".git/HEAD") ≡ false → map.get new path ≡ map.get old path)
    → Changes old new
head_file_owned old new elsewhere = record {
  others =
      λ path not_own. elsewhere path (false_from_ne_true (eq_by_cmp path_cmp path (codes ".git/HEAD")) (λ here. not_own (IsRef (head_name, refl, inl (same_path path (codes ".git/HEAD") here)))));
}

-- a file of the worktree
pub path_owned : (old new : World) (at : Path) → IsPath at
    → ((path : Path) → eq_by_cmp path_cmp path at ≡ false → map.get new path ≡ map.get old path) → Changes old new
path_owned old new at is elsewhere = record {
  others =
      λ path not_own. elsewhere path (false_from_ne_true (eq_by_cmp path_cmp path at) (λ here. not_own (IsInWorktree (subst IsPath (sym (same_path path at here)) is))));
}

pub switch_owned : (old new : World) → ((path : Path) → (IsOwn path → ⊥) → map.get new path ≡ map.get old path) → Changes old new
switch_owned old new elsewhere = record { others = λ path not_own. elsewhere path (other path not_own) }
  where
    other : (path : Path) → (MayChange path → ⊥) → IsOwn path → ⊥
    other path not_own (inl index) = not_own (IsIndex index)
    other path not_own (inr is) = not_own (IsInWorktree is)

pub head_owned : (on : Head) → IsHeadValue on → (old new : World)
    → ((path : Path) → IsElsewhere (moved_name on) path → map.get new path ≡ map.get old path) → Changes old new
head_owned on is old new elsewhere = record {
  others = λ path not_own. elsewhere path (record {
    ref =
        false_from_ne_true (eq_by_cmp path_cmp path (ref_path (moved_name on))) (λ here. not_own (IsRef (moved_name on, moved_is_name on is, inl (same_path path (ref_path (moved_name on)) here))));
    log =
        false_from_ne_true (eq_by_cmp path_cmp path (log_path (moved_name on))) (λ here. not_own (IsRef (moved_name on, moved_is_name on is, inr (same_path path (log_path (moved_name on)) here))));
    head =
        false_from_ne_true (eq_by_cmp path_cmp path (log_path head_name)) (λ here. not_own (IsRef (head_name, refl, inr (same_path path (log_path head_name) here))));
  });
}
