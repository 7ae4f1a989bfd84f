-- What is judged of the files of a world is what is read of them.
use Rattle.std.proofs.Common.{◌≡◌, ℕ, Bool, true, false, cond, List, [], ◌∷◌, ◌++◌, Some, None, Result, Ok, Err, refl, sym, ap, subst}
use Rattle.std.specs.Prelude.{MatchBool, codes, unwrap_or}
use Rattle.std.specs.FinMap as files
use Rattle.std.specs.Str.{bytes_eq}
use Rattle.std.specs.Result.{result_map_both}
use Rattle.seq_base.specs.World.{World}
use Rattle.seq_outside.specs.declared.halt.Halt.TheVariants.{Stops}
use Rattle.state_text.specs.declared.control.Control.{Control}
use Rattle.state_text.specs.declared.state_file.StateFile.{StateFile}
use Rattle.state_text.specs.declared.state_file.StateFile.TheVariants as file
use Rattle.state_text.specs.declared.verb.Verb.{Verb}
use Rattle.state_text.specs.declared.verb.Verb.TheVariants.{Rebase, CherryPick, Revert}
use Rattle.state_text.specs.Places.{folder_of, in_step_path, state_path}
use Rattle.state_found.specs.declared.fault.StateFault.TheVariants.{Bad}
use Rattle.state_found.specs.declared.found.Found.TheVariants.{Nothing, Paused, Interrupted}
use Rattle.state_found.specs.Found.{IsBadIn, IsInterrupted, has_files, verb_of_step}
use Rattle.state_found.specs.Judged.{IsRebaseJudged, IsSequenceJudged, files_found}
use Rattle.state_found.specs.Reads.{IsStateRead}
use Rattle.state_found.proofs.FoundLaws.{rebase_first, rebase_only, rebase_paused}
use Rattle.state_found.proofs.OneLaws.{only_answer, only_bad, only_paused}
use Rattle.state_found.proofs.SequenceFound.{sequence_first, sequence_only, sequence_paused}

pub rebase_state : (w : World) (judged : Result Control StateFile)
    → IsRebaseJudged (files_found w Rebase) (unwrap_or (files.get w (state_path Rebase file.RebaseTodo)) []) judged
    → has_files w (folder_of Rebase) ≡ true → None ≡ files.get w (in_step_path Rebase)
    → IsStateRead w (result_map_both (λ k. Paused k) (λ f. Stops (Bad f)) judged)
rebase_state w (Ok k) j folder rests = only_paused w k (rebase_paused w k j folder (sym rests)) (λ other p. rebase_only w k other j folder p)
rebase_state w (Err f) j folder rests =
    let bad : IsBadIn Rebase w f = record { there = folder; rests = sym rests; first = rebase_first w j.0 f j.1 } in
    only_bad w f (subst (λ (b : Bool). MatchBool b (IsBadIn Rebase w f) (IsBadIn CherryPick w f)) (sym folder) bad)

pub rebase_runs : (w : World) (text : List ℕ) → has_files w (folder_of Rebase) ≡ true → Some text ≡ files.get w (in_step_path Rebase)
    → IsStateRead w (Ok (Interrupted Rebase))
rebase_runs w text folder stands =
    only_answer w (Ok (Interrupted Rebase)) (λ k y e found. absurd cc) (record { folder = folder; text = text; stands = sym stands; told = tt })

pub sequence_state : (w : World) (judged : Result Control StateFile) → IsSequenceJudged (files_found w CherryPick) judged
    → has_files w (folder_of Rebase) ≡ false → has_files w (folder_of CherryPick) ≡ true
    → None ≡ files.get w (in_step_path CherryPick) → IsStateRead w (result_map_both (λ k. Paused k) (λ f. Stops (Bad f)) judged)
sequence_state w (Ok k) j none there rests = only_paused w k (sequence_paused w k j none (sym rests)) (λ other p. sequence_only w k j none other p)
sequence_state w (Err f) j none there rests =
    let bad : IsBadIn CherryPick w f = record { there = there; rests = sym rests; first = sequence_first w j.0 f j.1 } in
    only_bad w f (subst (λ (b : Bool). MatchBool b (IsBadIn Rebase w f) (IsBadIn CherryPick w f)) (sym none) bad)

pub sequence_runs : (w : World) (text : List ℕ) (verb : Verb) → has_files w (folder_of Rebase) ≡ false
    → Some text ≡ files.get w (in_step_path CherryPick) → verb ≡ verb_of_step text → IsStateRead w (Ok (Interrupted verb))
sequence_runs w text verb none stands is =
    only_answer w (Ok (Interrupted verb)) (λ k y e found. absurd cc)
    (subst (IsInterrupted w) (sym is) (at (bytes_eq text (codes "revert" ++ 10 ∷ [])) refl))
  where
    at : (b : Bool) → bytes_eq text (codes "revert" ++ 10 ∷ []) ≡ b → IsInterrupted w (cond b Revert CherryPick)
    at true same = record { folder = none; text = text; stands = sym stands; told = ap (λ (b : Bool). cond b Revert CherryPick) same }
    at false same = record { folder = none; text = text; stands = sym stands; told = ap (λ (b : Bool). cond b Revert CherryPick) same }

pub no_state : (w : World) → has_files w (folder_of Rebase) ≡ false → has_files w (folder_of CherryPick) ≡ false → IsStateRead w (Ok Nothing)
no_state w rebase sequence = only_answer w (Ok Nothing) (λ k y e found. absurd cc) (record { rebase = rebase; sequence = sequence })
