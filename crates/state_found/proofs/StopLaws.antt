-- What a stop leaves is what is read.
use Rattle.std.proofs.Common.{◌≡◌, ◌∙◌, ℕ, Bool, true, false, cond, List, [], ◌∷◌, ◌++◌, Option, Some, None, Result, Ok, Err, refl, sym, ap, subst}
use Rattle.std.specs.Prelude.{◌&&◌, ◌||◌, filter, is_some, not, unwrap_or}
use Rattle.std.specs.List.{AllByRecursion, list_any}
use Rattle.std.specs.FinMap as files
use Rattle.seq_base.specs.World.{World, is_below}
use Rattle.seq_base.proofs.Shape.{same_path}
use Rattle.seq_outside.specs.declared.halt.Halt.{Halt}
use Rattle.seq_outside.specs.declared.halt.Halt.TheVariants.{Stops, Fault, Memory}
use Rattle.state_text.specs.declared.control.Control.{Control}
use Rattle.state_text.specs.declared.state_file.StateFile.{StateFile}
use Rattle.state_text.specs.declared.state_file.StateFile.TheVariants as file
use Rattle.state_text.specs.declared.verb.Verb.{Verb}
use Rattle.state_text.specs.declared.verb.Verb.TheVariants.{Rebase, CherryPick, Revert}
use Rattle.state_text.specs.Places.{files_of, folder_of, in_step_path, state_path}
use Rattle.state_text.specs.States.{files_among, state_files, with_file}
use Rattle.state_text.specs.Stops.{has_file, is_listed, is_path, is_stale, said_by}
use Rattle.state_text.specs.Texts.{head_name_text, kept, left_text, text_in}
use Rattle.state_text.proofs.StopLaws.{stop_behind}
use Rattle.state_reading.specs.Recalls.{is_file}
use Rattle.state_found.specs.declared.fault.StateFault.{StateFault}
use Rattle.state_found.specs.declared.found.Found.{Found}
use Rattle.state_found.specs.declared.found.Found.TheVariants.{Paused}
use Rattle.state_found.specs.Found.{Fits, IsFolderRead, IsLeftBehind, IsLeftOf, IsPaused, has_lines, is_asked}
use Rattle.state_found.specs.Left.{IsAlone, IsLeftTold, IsStopOver, IsWhole, NoRebase, NoneOfRebase, Stands, StaysAlone, behind_stop_of}
use Rattle.state_found.specs.Reads.{IsReadAs, IsReadBack, IsStateRead}
use Rattle.state_found.proofs.FileLaws.{bytes_kept, file_is, file_itself, of_one}
use Rattle.state_found.proofs.FolderLaws.{not_below, nothing_below, path_itself, some_below}
use Rattle.state_found.proofs.JudgeLaws.{among, or_true}

-- ---- the files of a control are read back

chosen : (P : StateFile → Type 0) (test : StateFile → Bool) (fs : List StateFile) → AllByRecursion P fs → AllByRecursion P (filter test fs)
chosen P test [] all = tt
chosen P test (f ∷ fs) all = at (test f) (chosen P test fs all.1)
  where
    at : (b : Bool) → AllByRecursion P (filter test fs) → AllByRecursion P (cond b (f ∷ filter test fs) (filter test fs))
    at true later = (all.0, later)
    at false later = later

pub head_name_in : (k : Control) → text_in file.HeadName k ≡ Some (head_name_text k.head_name)
unfolding text_in
head_name_in k = refl

todo_in : (k : Control) → text_in file.RebaseTodo k ≡ kept (left_text k.left)
unfolding text_in
todo_in k = refl

pub stands_paused : (w : World) (k : Control) → IsWhole k → Stands w k → IsPaused w k
stands_paused w k whole s = record {
  told = k;
  control = whole.control;
  held = whole.held;
  folder = folder k.verb s.alone s.fits refl;
  rests = s.rests;
  fits = chosen (Fits w k) is_asked (files_of k.verb) s.fits;
  left = left k.verb s.fits whole.left refl;
  is = refl;
}
  where
    folder : (v : Verb) → IsAlone v w → AllByRecursion (Fits w k) (files_of v) → k.verb ≡ v → IsFolderRead w v
    folder Rebase alone fits e =
        let name : files.get w (state_path Rebase file.HeadName) ≡ Some (head_name_text k.head_name) =
        sym (ap (λ (v : Verb). files.get w (state_path v file.HeadName)) e) ∙ of_one (Fits w k) (files_of Rebase) file.HeadName refl fits
        ∙ head_name_in k in
        some_below w (folder_of Rebase) (state_path Rebase file.HeadName) (head_name_text k.head_name) refl name
    folder CherryPick alone fits e = alone
    folder Revert alone fits e = alone

    left : (v : Verb) → AllByRecursion (Fits w k) (files_of v) → IsLeftTold v k → k.verb ≡ v → IsLeftBehind v w k k.left
    left Rebase fits told e =
        let todo : files.get w (state_path Rebase file.RebaseTodo) ≡ kept (left_text k.left) =
        sym (ap (λ (v : Verb). files.get w (state_path v file.RebaseTodo)) e) ∙ of_one (Fits w k) (files_of Rebase) file.RebaseTodo refl fits
        ∙ todo_in k in
        let bytes : unwrap_or (files.get w (state_path Rebase file.RebaseTodo)) [] ≡ left_text k.left =
        ap (λ (o : Option (List ℕ)). unwrap_or o []) todo ∙ bytes_kept (left_text k.left) in
        subst (λ (t : List ℕ). IsLeftOf (has_lines k.done) t k.left) (sym bytes) told
    left CherryPick fits told e = refl
    left Revert fits told e = refl

pub paused_read : (w : World) (k : Control) → IsPaused w k → IsReadBack w k
paused_read w k p = record { paused = p; read = λ result is. read result is }
  where
    read : (result : Result Found (Halt StateFault)) → IsStateRead w result → IsReadAs k result
    read (Ok found) is = let same : ◌≡◌ {A = Result Found StateFault} (Ok found) (Ok (Paused k)) = is.only (Ok (Paused k)) p in cc
    read (Err (Stops fault)) is = let same : ◌≡◌ {A = Result Found StateFault} (Err fault) (Ok (Paused k)) = is.only (Ok (Paused k)) p in absurd cc
    read (Err Fault) is = tt
    read (Err Memory) is = tt

pub files_read : (w : World) (k : Control) → IsWhole k → Stands w k → IsReadBack w k
files_read w k whole s = paused_read w k (stands_paused w k whole s)

-- ---- files stand at paths of their own

abbrev differ : Bool → Bool → Bool
differ a b = cond a (not b) b

abbrev clash : Verb → StateFile → StateFile → Bool
clash v f g = differ (is_path (state_path v f) (state_path v g)) (is_file f g)

abbrev clashes : Verb → StateFile → Bool
clashes v f = list_any (clash v f) (files_of v)

pub none_among : (test : StateFile → Bool) (fs : List StateFile) (f : StateFile) → list_any test fs ≡ false → among f fs → test f ≡ false
none_among test [] f none there = absurd cc
none_among test (g ∷ fs) f none there = at (test g) refl (is_file f g) refl (none_among test fs f) none there
  where
    at : (b : Bool) → test g ≡ b → (c : Bool) → is_file f g ≡ c → (list_any test fs ≡ false → among f fs → test f ≡ false)
        → (b || list_any test fs) ≡ false → (c || list_any (is_file f) fs) ≡ true → test f ≡ false
    at true off c same later none there = absurd cc
    at false off true same later none there = ap test (file_is f g same) ∙ off
    at false off false same later none there = later none there

no_clash : (v : Verb) → list_any (clashes v) (files_of v) ≡ false
no_clash Rebase = refl
no_clash CherryPick = refl
no_clash Revert = refl

no_step : (v : Verb) → list_any (λ (f : StateFile). is_path (state_path v f) (in_step_path v)) (files_of v) ≡ false
no_step Rebase = refl
no_step CherryPick = refl
no_step Revert = refl

as_same : (a b : Bool) → differ a b ≡ false → a ≡ b
as_same true true e = refl
as_same true false e = absurd cc
as_same false true e = absurd cc
as_same false false e = refl

path_file : (v : Verb) (f g : StateFile) → among f (files_of v) → among g (files_of v) → is_path (state_path v f) (state_path v g) ≡ is_file f g
path_file v f g a b =
    as_same (is_path (state_path v f) (state_path v g)) (is_file f g)
    (none_among (clash v f) (files_of v) g (none_among (clashes v) (files_of v) f (no_clash v) a) b)

-- ---- what a list of files says of a path

said_both : (before : Option (List ℕ)) (xs ys : List (List ℕ × List ℕ)) (p : List ℕ)
    → said_by before (xs ++ ys) p ≡ said_by (said_by before xs p) ys p
said_both before [] ys p = refl
said_both before (x ∷ xs) ys p = said_both (cond (is_path p x.0) (Some x.1) before) xs ys p

said_none : (before : Option (List ℕ)) (xs : List (List ℕ × List ℕ)) (p : List ℕ) → has_file xs p ≡ false → said_by before xs p ≡ before
said_none before [] p none = refl
said_none before (x ∷ xs) p none = at (is_path p x.0) (said_none before xs p) none
  where
    at : (b : Bool) → (has_file xs p ≡ false → said_by before xs p ≡ before) → (b || has_file xs p) ≡ false
        → said_by (cond b (Some x.1) before) xs p ≡ before
    at true later none = absurd cc
    at false later none = later none

has_both : (xs ys : List (List ℕ × List ℕ)) (p : List ℕ) → has_file ys p ≡ false → has_file (xs ++ ys) p ≡ has_file xs p
has_both [] ys p none = none
has_both (x ∷ xs) ys p none = ap (λ (b : Bool). is_path p x.0 || b) (has_both xs ys p none)

abbrev or_before : Option (List ℕ) → Option (List ℕ) → Option (List ℕ)
or_before None before = before
or_before (Some text) before = Some text

-- the files of a control, of some
module _ (k : Control) (f : StateFile) where
  abbrev p : List ℕ
  p = state_path k.verb f

  abbrev Apart : List StateFile → Type 0
  Apart fs = (g : StateFile) → among g fs → is_path p (state_path k.verb g) ≡ is_file f g

  first_of : (g : StateFile) (fs : List StateFile) → among g (g ∷ fs)
  first_of g fs = ap (λ (b : Bool). b || list_any (is_file g) fs) (file_itself g)

  later_of : (g : StateFile) (fs : List StateFile) → Apart (g ∷ fs) → Apart fs
  later_of g fs apart h there = apart h (or_true (is_file h g) (list_any (is_file h) fs) there)

  said_in : (fs : List StateFile) (before : Option (List ℕ)) → Apart fs
      → said_by before (files_among fs k) p ≡ cond (list_any (is_file f) fs) (or_before (text_in f k) before) before
  said_in [] before apart = refl
  said_in (g ∷ fs) before apart =
      at (text_in g k) refl (is_file f g) refl (apart g (first_of g fs)) (λ b. said_in fs b (later_of g fs apart))
    where
      at : (o : Option (List ℕ)) → text_in g k ≡ o → (same : Bool) → is_file f g ≡ same → is_path p (state_path k.verb g) ≡ is_file f g
          → ((b : Option (List ℕ)) → said_by b (files_among fs k) p ≡ cond (list_any (is_file f) fs) (or_before (text_in f k) b) b)
          → said_by before (with_file (state_path k.verb g) o (files_among fs k)) p
          ≡ cond (same || list_any (is_file f) fs) (or_before (text_in f k) before) before
      at None text true same path later =
          let none : text_in f k ≡ None = ap (λ (h : StateFile). text_in h k) (file_is f g same) ∙ text in
          later before ∙ both (list_any (is_file f) fs) (text_in f k) none
        where
          both : (b : Bool) (o : Option (List ℕ)) → o ≡ None → cond b (or_before o before) before ≡ or_before o before
          both true o none = refl
          both false o none = rw none refl
      at None text false same path later = later before
      at (Some t) text true same path later =
          let here : is_path p (state_path k.verb g) ≡ true = path ∙ same in
          let some : text_in f k ≡ Some t = ap (λ (h : StateFile). text_in h k) (file_is f g same) ∙ text in
          ap (λ (b : Bool). said_by (cond b (Some t) before) (files_among fs k) p) here
          ∙ later (Some t) ∙ both (list_any (is_file f) fs) (text_in f k) some
        where
          both : (b : Bool) (o : Option (List ℕ)) → o ≡ Some t → cond b (or_before o (Some t)) (Some t) ≡ or_before o before
          both true o some = rw some refl
          both false o some = rw some refl
      at (Some t) text false same path later =
          let here : is_path p (state_path k.verb g) ≡ false = path ∙ same in
          ap (λ (b : Bool). said_by (cond b (Some t) before) (files_among fs k) p) here ∙ later before

  has_in : (fs : List StateFile) → Apart fs → has_file (files_among fs k) p ≡ (list_any (is_file f) fs && is_some (text_in f k))
  has_in [] apart = refl
  has_in (g ∷ fs) apart = at (text_in g k) refl (is_file f g) refl (apart g (first_of g fs)) (has_in fs (later_of g fs apart))
    where
      at : (o : Option (List ℕ)) → text_in g k ≡ o → (same : Bool) → is_file f g ≡ same → is_path p (state_path k.verb g) ≡ is_file f g
          → has_file (files_among fs k) p ≡ (list_any (is_file f) fs && is_some (text_in f k))
          → has_file (with_file (state_path k.verb g) o (files_among fs k)) p ≡ ((same || list_any (is_file f) fs) && is_some (text_in f k))
      at None text true same path later =
          let none : text_in f k ≡ None = ap (λ (h : StateFile). text_in h k) (file_is f g same) ∙ text in
          later ∙ both (list_any (is_file f) fs) (text_in f k) none
        where
          both : (b : Bool) (o : Option (List ℕ)) → o ≡ None → (b && is_some o) ≡ is_some o
          both true o none = refl
          both false o none = sym (ap is_some none)
      at None text false same path later = later
      at (Some t) text true same path later =
          let here : is_path p (state_path k.verb g) ≡ true = path ∙ same in
          let some : text_in f k ≡ Some t = ap (λ (h : StateFile). text_in h k) (file_is f g same) ∙ text in
          ap (λ (b : Bool). b || has_file (files_among fs k) p) here ∙ sym (ap is_some some)
      at (Some t) text false same path later =
          let here : is_path p (state_path k.verb g) ≡ false = path ∙ same in
          ap (λ (b : Bool). b || has_file (files_among fs k) p) here ∙ later

-- no file of the control is at a path apart from theirs
none_in : (k : Control) (q : List ℕ) (fs : List StateFile) → ((g : StateFile) → among g fs → is_path q (state_path k.verb g) ≡ false)
    → has_file (files_among fs k) q ≡ false
none_in k q [] apart = refl
none_in k q (g ∷ fs) apart =
    at (text_in g k) (apart g (first_of k g g fs)) (none_in k q fs (λ h there. apart h (or_true (is_file h g) (list_any (is_file h) fs) there)))
  where
    at : (o : Option (List ℕ)) → is_path q (state_path k.verb g) ≡ false → has_file (files_among fs k) q ≡ false
        → has_file (with_file (state_path k.verb g) o (files_among fs k)) q ≡ false
    at None off later = later
    at (Some t) off later = ap (λ (b : Bool). b || has_file (files_among fs k) q) off ∙ later

-- ---- paths that are removed

kept_listed : (test : List ℕ → Bool) (q : List ℕ) (ps : List (List ℕ)) → test q ≡ true → is_listed ps q ≡ true → is_listed (filter test ps) q ≡ true
kept_listed test q [] passes there = absurd cc
kept_listed test q (p ∷ ps) passes there = at (is_path q p) refl (test p) refl (kept_listed test q ps passes) there
  where
    at : (same : Bool) → is_path q p ≡ same → (b : Bool) → test p ≡ b → (is_listed ps q ≡ true → is_listed (filter test ps) q ≡ true)
        → (same || is_listed ps q) ≡ true → is_listed (cond b (p ∷ filter test ps) (filter test ps)) q ≡ true
    at true are true is later there = ap (λ (b : Bool). b || is_listed (filter test ps) q) are
    at true are false is later there =
        let yes : test p ≡ true = ap test (sym (same_path q p are)) ∙ passes in
        absurd cc
    at false are true is later there = or_true (is_path q p) (is_listed (filter test ps) q) (later there)
    at false are false is later there = later there

not_listed : (test : List ℕ → Bool) (q : List ℕ) (ps : List (List ℕ)) → test q ≡ false → is_listed (filter test ps) q ≡ false
not_listed test q [] fails = refl
not_listed test q (p ∷ ps) fails = at (test p) refl (is_path q p) refl (not_listed test q ps fails)
  where
    at : (b : Bool) → test p ≡ b → (same : Bool) → is_path q p ≡ same → is_listed (filter test ps) q ≡ false
        → is_listed (cond b (p ∷ filter test ps) (filter test ps)) q ≡ false
    at true is true are later =
        let no : test p ≡ false = ap test (sym (same_path q p are)) ∙ fails in
        absurd cc
    at true is false are later = ap (λ (b : Bool). b || is_listed (filter test ps) q) are ∙ later
    at false is same are later = later

-- ---- the world behind a stop

step_itself : (v : Verb) → is_path (in_step_path v) (in_step_path v) ≡ true
step_itself v = path_itself (in_step_path v)

files_are : (k : Control) → state_files k ≡ files_among (files_of k.verb) k
unfolding state_files
files_are k = refl

none_below_rebase : (v : Verb) → folder_of v ≡ folder_of CherryPick
    → list_any (λ (f : StateFile). is_below (folder_of Rebase) (state_path v f)) (files_of v) ≡ false
none_below_rebase Rebase e = absurd cc
none_below_rebase CherryPick e = refl
none_below_rebase Revert e = refl

step_not_below : (v : Verb) → folder_of v ≡ folder_of CherryPick → is_below (folder_of Rebase) (in_step_path v) ≡ false
step_not_below Rebase e = absurd cc
step_not_below CherryPick e = refl
step_not_below Revert e = refl

module _ (w : World) (k : Control) (more : List (List ℕ × List ℕ)) (found : List (List ℕ)) (s : IsStopOver w k.verb more found) where
  abbrev all : List (List ℕ × List ℕ)
  all = state_files k ++ more

  abbrev new : World
  new = behind_stop_of k more found w

  -- what stands behind it at a path, but at that of `in-step`
  behind : (q : List ℕ) → is_path q (in_step_path k.verb) ≡ false
      → files.get new q ≡ cond (is_listed (filter (is_stale k.verb all) found) q) None (said_by (files.get w q) all q)
  behind q off =
      stop_behind k.verb all found w q
      ∙ ap (λ (b : Bool). cond b None (cond (is_listed (filter (is_stale k.verb all) found) q) None (said_by (files.get w q) all q))) off

  behind_step : files.get new (in_step_path k.verb) ≡ None
  behind_step =
      let q = in_step_path k.verb in
      stop_behind k.verb all found w q
      ∙ ap (λ (b : Bool). cond b None (cond (is_listed (filter (is_stale k.verb all) found) q) None (said_by (files.get w q) all q)))
      (step_itself k.verb)

  module _ (f : StateFile) (there : among f (files_of k.verb)) where
    abbrev place : List ℕ
    place = state_path k.verb f

    off_step : is_path place (in_step_path k.verb) ≡ false
    off_step = none_among (λ (g : StateFile). is_path (state_path k.verb g) (in_step_path k.verb)) (files_of k.verb) f (no_step k.verb) there

    no_more : has_file more place ≡ false
    no_more = of_one (λ (g : StateFile). has_file more (state_path k.verb g) ≡ false) (files_of k.verb) f there s.apart

    was_found : is_some (files.get w place) ≡ true → is_listed found place ≡ true
    was_found =
        of_one (λ (g : StateFile). is_some (files.get w (state_path k.verb g)) ≡ true → is_listed found (state_path k.verb g) ≡ true)
        (files_of k.verb) f there s.listed

    said_is : said_by (files.get w place) all place ≡ or_before (text_in f k) (files.get w place)
    said_is =
        said_both (files.get w place) (state_files k) more place
        ∙ said_none (said_by (files.get w place) (state_files k) place) more place no_more
        ∙ ap (λ (xs : List (List ℕ × List ℕ)). said_by (files.get w place) xs place) (files_are k)
        ∙ said_in k f (files_of k.verb) (files.get w place) (λ g at. path_file k.verb f g there at)
        ∙ ap (λ (b : Bool). cond b (or_before (text_in f k) (files.get w place)) (files.get w place)) there

    has_is : has_file all place ≡ is_some (text_in f k)
    has_is =
        has_both (state_files k) more place no_more
        ∙ ap (λ (xs : List (List ℕ × List ℕ)). has_file xs place) (files_are k)
        ∙ has_in k f (files_of k.verb) (λ g at. path_file k.verb f g there at)
        ∙ ap (λ (b : Bool). b && is_some (text_in f k)) there

    stale_is : is_stale k.verb all place ≡ not (is_some (text_in f k))
    stale_is =
        ap (λ (b : Bool). not b && not (is_path place (in_step_path k.verb))) has_is
        ∙ ap (λ (b : Bool). not (is_some (text_in f k)) && not b) off_step
        ∙ and_true (not (is_some (text_in f k)))
      where
        and_true : (b : Bool) → (b && true) ≡ b
        and_true true = refl
        and_true false = refl

    abbrev gone : Bool
    gone = is_listed (filter (is_stale k.verb all) found) place

    pub fits_behind : Fits new k f
    fits_behind = behind place off_step ∙ ap (cond gone None) said_is ∙ at (text_in f k) stale_is refl (files.get w place) refl
      where
        at : (o : Option (List ℕ)) → is_stale k.verb all place ≡ not (is_some o) → text_in f k ≡ o
            → (before : Option (List ℕ)) → files.get w place ≡ before → cond gone None (or_before o before) ≡ o
        at (Some t) stale text before was = ap (λ (b : Bool). cond b None (Some t)) (not_listed (is_stale k.verb all) place found stale)
        at None stale text None was = both gone
          where
            both : (b : Bool) → ◌≡◌ {A = Option (List ℕ)} (cond b None None) None
            both true = refl
            both false = refl
        at None stale text (Some t) was =
            ap (λ (b : Bool). cond b None (Some t)) (kept_listed (is_stale k.verb all) place found stale (was_found (ap is_some was)))

  -- of another list than a rebase no file is below the folder of a rebase
  no_rebase_behind : folder_of k.verb ≡ folder_of CherryPick → NoRebase w → NoneOfRebase more → NoRebase new
  no_rebase_behind of none others = nothing_below new (folder_of Rebase) all_gone
    where
      apart : (q p : List ℕ) → is_below (folder_of Rebase) q ≡ true → is_below (folder_of Rebase) p ≡ false → is_path q p ≡ false
      apart q p below off = at (is_path q p) refl
        where
          at : (b : Bool) → is_path q p ≡ b → b ≡ false
          at true same =
              let yes : is_below (folder_of Rebase) p ≡ true = ap (is_below (folder_of Rebase)) (sym (same_path q p same)) ∙ below in
              absurd cc
          at false same = refl

      none_more : (q : List ℕ) → is_below (folder_of Rebase) q ≡ true → (xs : List (List ℕ × List ℕ)) → NoneOfRebase xs → has_file xs q ≡ false
      none_more q below [] off = refl
      none_more q below (x ∷ xs) off = at (is_below (folder_of Rebase) x.0) refl (none_more q below xs) off
        where
          at : (b : Bool) → is_below (folder_of Rebase) x.0 ≡ b → (NoneOfRebase xs → has_file xs q ≡ false)
              → (b || list_any (λ (y : List ℕ × List ℕ). is_below (folder_of Rebase) y.0) xs) ≡ false → (is_path q x.0 || has_file xs q) ≡ false
          at true is later off = absurd cc
          at false is later off = ap (λ (b : Bool). b || has_file xs q) (apart q x.0 below is) ∙ later off

      all_gone : (q : List ℕ) → is_below (folder_of Rebase) q ≡ true → files.get new q ≡ None
      all_gone q below =
          let none_of_more = none_more q below more others in
          let none_of_files : has_file (files_among (files_of k.verb) k) q ≡ false =
          none_in k q (files_of k.verb)
          (λ g there. apart q (state_path k.verb g) below
          (none_among (λ (h : StateFile). is_below (folder_of Rebase) (state_path k.verb h)) (files_of k.verb) g
          (none_below_rebase k.verb of) there)) in
          let said : said_by (files.get w q) all q ≡ files.get w q =
          said_none (files.get w q) all q
          (has_both (state_files k) more q none_of_more ∙ ap (λ (xs : List (List ℕ × List ℕ)). has_file xs q) (files_are k) ∙ none_of_files) in
          behind q (apart q (in_step_path k.verb) below (step_not_below k.verb of))
          ∙ ap (cond (is_listed (filter (is_stale k.verb all) found) q) None) (said ∙ not_below w (folder_of Rebase) q none below)
          ∙ both (is_listed (filter (is_stale k.verb all) found) q)
        where
          both : (b : Bool) → ◌≡◌ {A = Option (List ℕ)} (cond b None None) None
          both true = refl
          both false = refl

  alone_behind : IsAlone k.verb new
  alone_behind = at k.verb refl s.alone
    where
      at : (v : Verb) → k.verb ≡ v → StaysAlone v w more → IsAlone v new
      at Rebase e alone = tt
      at CherryPick e alone = no_rebase_behind (ap folder_of e) alone.0 alone.1
      at Revert e alone = no_rebase_behind (ap folder_of e) alone.0 alone.1

  stands_behind : Stands new k
  stands_behind = record { fits = each (files_of k.verb) (λ f there. fits_behind f there); rests = behind_step; alone = alone_behind }
    where
      each : (fs : List StateFile) → ((f : StateFile) → among f fs → Fits new k f) → AllByRecursion (Fits new k) fs
      each [] one = tt
      each (f ∷ fs) one = (
        one f (ap (λ (b : Bool). b || list_any (is_file f) fs) (file_itself f)),
        each fs
            (λ g there. one g (or_true (is_file g f) (list_any (is_file g) fs) there)),
      )

  pub stop_read : IsWhole k → IsReadBack new k
  stop_read whole = files_read new k whole stands_behind
