-- An edit between two invocations leaves what is read of a stopped list.
use Rattle.std.proofs.Common.{◌≡◌, ◌∙◌, ◌⊎◌, inl, inr, ℕ, Bool, true, false, List, Some, None, refl, sym, ap, subst}
use Rattle.std.specs.Prelude.{◌||◌, not}
use Rattle.std.specs.List.{AllByRecursion, list_any}
use Rattle.std.specs.FinMap as files
use Rattle.std.proofs.lemmas.Bool.{not-false, or_parts}
use Rattle.seq_base.specs.StatePaths.{is_state_path}
use Rattle.seq_base.specs.World.{World, is_below}
use Rattle.state_text.specs.declared.control.Control.{Control}
use Rattle.state_text.specs.declared.control.Left.{Left}
use Rattle.state_text.specs.declared.state_file.StateFile.{StateFile}
use Rattle.state_text.specs.declared.state_file.StateFile.TheVariants as file
use Rattle.state_text.specs.declared.verb.Verb.{Verb}
use Rattle.state_text.specs.declared.verb.Verb.TheVariants.{Rebase, CherryPick, Revert}
use Rattle.state_text.specs.Places.{folder_of, in_step_path, state_path}
use Rattle.state_text.specs.Stops.{is_path}
use Rattle.state_text.specs.Texts.{head_name_text}
use Rattle.state_found.specs.Found.{Fits, IsFolderRead, IsLeftBehind, IsPaused, IsQuiet, asked_files, has_files}
use Rattle.state_found.specs.Reads.{IsReadBack}
use Rattle.state_found.proofs.FileLaws.{of_one}
use Rattle.state_found.proofs.FolderLaws.{not_below, nothing_below, path_itself, some_below}
use Rattle.state_found.proofs.JudgeLaws.{all_of, among}
use Rattle.state_found.proofs.StopLaws.{head_name_in, none_among, paused_read}

abbrev todo : List ℕ
todo = state_path Rebase file.RebaseTodo

-- a file that is asked is a state path, and not the todo
abbrev is_loose : Verb → StateFile → Bool
is_loose v f = not (is_state_path (state_path v f)) || is_path (state_path v f) todo

none_loose : (v : Verb) → list_any (is_loose v) (asked_files v) ≡ false
none_loose Rebase = refl
none_loose CherryPick = refl
none_loose Revert = refl

step_path : (v : Verb) → is_state_path (in_step_path v) ≡ true
step_path Rebase = refl
step_path CherryPick = refl
step_path Revert = refl

step_apart : (v : Verb) → is_path (in_step_path v) todo ≡ false
step_apart Rebase = refl
step_apart CherryPick = refl
step_apart Revert = refl

below_is : (path : List ℕ) → is_below (folder_of Rebase) path ≡ true → is_state_path path ≡ true
below_is path below = rw below refl

module _ (old new : World) (quiet : IsQuiet old new) where
  -- a state path but the todo has what it had
  kept_at : (q : List ℕ) → is_state_path q ≡ true → is_path q todo ≡ false → files.get new q ≡ files.get old q
  kept_at q state other = at (quiet.2 q state)
    where
      at : ((q ≡ todo) × (has_files old (folder_of Rebase) ≡ true)) ⊎ (files.get new q ≡ files.get old q) → files.get new q ≡ files.get old q
      at (inl e) =
          let same : is_path q todo ≡ true = ap (λ (p : List ℕ). is_path p todo) e.0 ∙ path_itself todo in
          absurd cc
      at (inr e) = e

  kept_file : (v : Verb) (f : StateFile) → among f (asked_files v) → files.get new (state_path v f) ≡ files.get old (state_path v f)
  kept_file v f there =
      let parts = or_parts (not (is_state_path (state_path v f))) (is_path (state_path v f) todo)
      (none_among (is_loose v) (asked_files v) f (none_loose v) there) in
      kept_at (state_path v f) (not-false (is_state_path (state_path v f)) parts.0) parts.1

  no_rebase : has_files old (folder_of Rebase) ≡ false → has_files new (folder_of Rebase) ≡ false
  no_rebase none = nothing_below new (folder_of Rebase) gone
    where
      gone : (q : List ℕ) → is_below (folder_of Rebase) q ≡ true → files.get new q ≡ None
      gone q below = at (quiet.2 q (below_is q below))
        where
          at : ((q ≡ todo) × (has_files old (folder_of Rebase) ≡ true)) ⊎ (files.get new q ≡ files.get old q) → files.get new q ≡ None
          at (inl e) = let there = e.1 in absurd cc
          at (inr e) = e ∙ not_below old (folder_of Rebase) q none below

  module _ (y : Control) where
    folder_kept : (v : Verb) → y.verb ≡ v → IsFolderRead old v → AllByRecursion (Fits old y) (asked_files v) → IsFolderRead new v
    folder_kept Rebase e is fits =
        let name : files.get new (state_path Rebase file.HeadName) ≡ Some (head_name_text y.head_name) = kept_file Rebase file.HeadName refl
        ∙ sym (ap (λ (v : Verb). files.get old (state_path v file.HeadName)) e)
        ∙ of_one (Fits old y) (asked_files Rebase) file.HeadName refl fits ∙ head_name_in y in
        some_below new (folder_of Rebase) (state_path Rebase file.HeadName) (head_name_text y.head_name) refl name
    folder_kept CherryPick e is fits = no_rebase is
    folder_kept Revert e is fits = no_rebase is

    left_kept : (v : Verb) (k : Control) (left : Left) → IsLeftBehind v old y k.left → IsLeftBehind v new (record y { left = k.left }) left
        → IsLeftBehind v new y left
    left_kept Rebase k left was is = is
    left_kept CherryPick k left was is = is ∙ was
    left_kept Revert k left was is = is ∙ was

  pub still_paused : (k : Control) (left : Left) → IsPaused old k → IsLeftBehind k.verb new k left → IsPaused new (record k { left = left })
  still_paused k left p is =
      let y = p.told in
      let behind = subst (λ (c : Control). IsLeftBehind c.verb new c left) p.is is in
      record {
        told = y;
        control = p.control;
        held = p.held;
        folder = folder_kept y y.verb refl p.folder p.fits;
        rests = kept_at (in_step_path y.verb) (step_path y.verb) (step_apart y.verb) ∙ p.rests;
        fits = all_of (Fits old y) (Fits new y) (asked_files y.verb) (λ f there fits. kept_file y.verb f there ∙ fits) p.fits;
        left = left_kept y y.verb k left p.left behind;
        is = ap (λ (c : Control). record c { left = left }) p.is;
      }

pub edit_read : (old new : World) (k : Control) (left : Left) → IsPaused old k → IsQuiet old new → IsLeftBehind k.verb new k left
    → IsReadBack new (record k { left = left })
edit_read old new k left p quiet is = paused_read new (record k { left = left }) (still_paused old new quiet k left p is)
