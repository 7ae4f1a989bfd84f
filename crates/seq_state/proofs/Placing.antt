-- The files of a list are put and removed at store paths.
use Rattle.std.proofs.Common.{◌≡◌, ℕ, zero, suc, ◌-◌, Bool, true, false, cond, List, [], ◌∷◌, ◌++◌, length, take, Option, Some, None, Result, Ok, Err, refl, sym, subst}
use Rattle.std.specs.Prelude.{◌&&◌, codes, filter}
use Rattle.std.specs.List.{AllByRecursion, list_all, list_any}
use Rattle.message_text.specs.Chain.{kept_text}
use Rattle.message_text.specs.declared.chain.ChainItem.{ChainItem}
use Rattle.seq_base.specs.StatePaths.{state_heads}
use Rattle.seq_base.specs.StorePaths.{IsStorePath, is_store_path}
use Rattle.seq_base.specs.Words.{Path, Text}
use Rattle.seq_outside.specs.declared.lack.Lack.{Lack}
use Rattle.seq_outside.specs.declared.write.Write.{Write}
use Rattle.seq_outside.specs.declared.write.Write.TheVariants.{Remove}
use Rattle.seq_outside.specs.Writes.{HasStorePath}
use Rattle.state_text.specs.declared.control.Control.{Control}
use Rattle.state_text.specs.declared.state_file.StateFile.{StateFile}
use Rattle.state_text.specs.declared.verb.Verb.{Verb}
use Rattle.state_text.specs.declared.verb.Verb.TheVariants.{Rebase, CherryPick, Revert}
use Rattle.state_text.specs.Places.{files_of, in_step_path, state_path}
use Rattle.state_text.specs.States.{files_among, state_files, with_file}
use Rattle.state_text.specs.Stops.{end_writes, goes_early, is_stale, last_paths, put_all, remove_all, stop_writes}
use Rattle.state_text.specs.Texts.{text_in}
use Rattle.reading.specs.State.{chain_files, is_edited}
use Rattle.seq_state.specs.Found.{IsRemoval, without_last}

pub all_both : {X : Type 0} (P : X → Type 0) (xs ys : List X) → AllByRecursion P xs → AllByRecursion P ys → AllByRecursion P (xs ++ ys)
all_both P [] ys all others = others
all_both P (x ∷ xs) ys all others = (all.0, all_both P xs ys all.1 others)

all_chosen : {X : Type 0} (P : X → Type 0) (test : X → Bool) (xs : List X) → AllByRecursion P xs → AllByRecursion P (filter test xs)
all_chosen P test [] all = tt
all_chosen P test (x ∷ xs) all = at (test x) (all_chosen P test xs all.1)
  where
    at : (b : Bool) → AllByRecursion P (filter test xs) → AllByRecursion P (cond b (x ∷ filter test xs) (filter test xs))
    at true later = (all.0, later)
    at false later = later

all_taken : {X : Type 0} (P : X → Type 0) (n : ℕ) (xs : List X) → AllByRecursion P xs → AllByRecursion P (take n xs)
all_taken P zero xs all = tt
all_taken P (suc n) [] all = tt
all_taken P (suc n) (x ∷ xs) all = (all.0, all_taken P n xs all.1)

-- ---- the paths of files

abbrev AtStorePath : Path × Text → Type 0
AtStorePath f = IsStorePath f.0

among_paths : (k : Control) (fs : List StateFile) → list_all (λ f. is_store_path (state_path k.verb f)) fs ≡ true
    → AllByRecursion AtStorePath (files_among fs k)
among_paths k [] all = tt
among_paths k (f ∷ fs) all = at (is_store_path (state_path k.verb f)) refl (text_in f k) (among_paths k fs) all
  where
    at : (b : Bool) → is_store_path (state_path k.verb f) ≡ b → (o : Option Text)
        → (list_all (λ g. is_store_path (state_path k.verb g)) fs ≡ true → AllByRecursion AtStorePath (files_among fs k))
        → (b && list_all (λ g. is_store_path (state_path k.verb g)) fs) ≡ true
        → AllByRecursion AtStorePath (with_file (state_path k.verb f) o (files_among fs k))
    at false is o later all = absurd cc
    at true is None later all = later all
    at true is (Some text) later all = (is, later all)

files_good : (v : Verb) → list_all (λ f. is_store_path (state_path v f)) (files_of v) ≡ true
files_good Rebase = refl
files_good CherryPick = refl
files_good Revert = refl

pub control_paths : (k : Control) → AllByRecursion AtStorePath (state_files k)
unfolding state_files
control_paths k = among_paths k (files_of k.verb) (files_good k.verb)

kept_path : (b : Bool) (text : Text) → AllByRecursion AtStorePath (cond b [] ((codes ".git/rebase-merge/message-fixup", text) ∷ []))
kept_path true text = tt
kept_path false text = (refl, tt)

chain_paths : (r : Result (List ChainItem) Lack) → AllByRecursion AtStorePath (chain_files r)
chain_paths (Err lack) = tt
chain_paths (Ok []) = tt
chain_paths (Ok (item ∷ items)) = (refl, kept_path (list_any (λ (item : ChainItem). is_edited item.kind) (item ∷ items)) (kept_text (item ∷ items)))

files_paths : (k : Control) (r : Result (List ChainItem) Lack) → AllByRecursion AtStorePath (state_files k ++ chain_files r)
files_paths k r = all_both AtStorePath (state_files k) (chain_files r) (control_paths k) (chain_paths r)

pub all_paths : (files : List (Path × Text)) (k : Control) (r : Result (List ChainItem) Lack) → files ≡ state_files k ++ chain_files r
    → AllByRecursion AtStorePath files
all_paths files k r are = subst (AllByRecursion AtStorePath) (sym are) (files_paths k r)

pub heads_good : AllByRecursion IsStorePath state_heads
heads_good = (refl, (refl, (refl, (refl, (refl, tt)))))

-- ---- the paths of writes

put_paths : (all : List (Path × Text)) → AllByRecursion AtStorePath all → AllByRecursion HasStorePath (put_all all)
put_paths [] paths = tt
put_paths (f ∷ all) paths = (paths.0, put_paths all paths.1)

remove_paths : (ps : List Path) → AllByRecursion IsStorePath ps → AllByRecursion HasStorePath (remove_all ps)
remove_paths [] paths = tt
remove_paths (p ∷ ps) paths = (paths.0, remove_paths ps paths.1)

step_path : (v : Verb) → AllByRecursion HasStorePath (Remove (in_step_path v) ∷ [])
step_path Rebase = (refl, tt)
step_path CherryPick = (refl, tt)
step_path Revert = (refl, tt)

last_good : (v : Verb) → AllByRecursion IsStorePath (last_paths v)
last_good Rebase = (refl, (refl, tt))
last_good CherryPick = (refl, tt)
last_good Revert = (refl, tt)

pub stop_paths : (v : Verb) (all : List (Path × Text)) (found : List Path) → AllByRecursion AtStorePath all → AllByRecursion IsStorePath found
    → AllByRecursion HasStorePath (stop_writes v all found)
stop_paths v all found paths others =
    let stale = filter (is_stale v all) found in
    all_both HasStorePath (put_all all ++ remove_all stale) (Remove (in_step_path v) ∷ [])
    (all_both HasStorePath (put_all all) (remove_all stale) (put_paths all paths) (remove_paths stale (all_chosen IsStorePath (is_stale v all) found others)))
    (step_path v)

pub end_paths : (v : Verb) (found : List Path) → AllByRecursion IsStorePath found → AllByRecursion HasStorePath (end_writes v found)
end_paths v found others =
    let early = filter (goes_early v) found in
    all_both HasStorePath (remove_all early ++ remove_all (last_paths v)) (Remove (in_step_path v) ∷ [])
    (all_both HasStorePath (remove_all early) (remove_all (last_paths v)) (remove_paths early (all_chosen IsStorePath (goes_early v) found others))
    (remove_paths (last_paths v) (last_good v)))
    (step_path v)

removals : (ps : List Path) → AllByRecursion IsRemoval (remove_all ps)
removals [] = tt
removals (p ∷ ps) = (tt, removals ps)

pub end_removals : (v : Verb) (found : List Path) → AllByRecursion IsRemoval (end_writes v found)
end_removals v found =
    let early = filter (goes_early v) found in
    all_both IsRemoval (remove_all early ++ remove_all (last_paths v)) (Remove (in_step_path v) ∷ [])
    (all_both IsRemoval (remove_all early) (remove_all (last_paths v)) (removals early) (removals (last_paths v))) (tt, tt)

pub front_paths : (writes : List Write) → AllByRecursion HasStorePath writes → AllByRecursion HasStorePath (without_last writes)
front_paths writes paths = all_taken HasStorePath (length writes - 1) writes paths
