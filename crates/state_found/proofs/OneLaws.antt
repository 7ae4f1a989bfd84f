-- The files of a world are found to be one thing.
use Rattle.std.proofs.Common.{◌≡◌, ◌∙◌, ◌⊎◌, inl, inr, ℕ, Bool, true, false, cond, List, [], ◌∷◌, Option, Some, None, Result, Ok, Err, refl, sym, ap, subst}
use Rattle.std.specs.Prelude.{◌||◌, MatchBool, unwrap_or}
use Rattle.std.specs.List.{AllByRecursion, list_any}
use Rattle.std.specs.FinMap as files
use Rattle.seq_base.specs.World.{World}
use Rattle.state_text.specs.declared.control.Control.{Control}
use Rattle.state_text.specs.declared.state_file.StateFile.{StateFile}
use Rattle.state_text.specs.declared.state_file.StateFile.TheVariants as file
use Rattle.state_text.specs.declared.verb.Verb.{Verb}
use Rattle.state_text.specs.declared.verb.Verb.TheVariants.{Rebase, CherryPick, Revert}
use Rattle.state_text.specs.Places.{folder_of, in_step_path, state_path}
use Rattle.state_text.specs.Texts.{id_line, text_in}
use Rattle.state_reading.specs.Recalls.{is_file}
use Rattle.state_found.specs.declared.fault.StateFault.{StateFault}
use Rattle.state_found.specs.declared.fault.StateFault.TheVariants.{Bad}
use Rattle.state_found.specs.declared.found.Found.{Found}
use Rattle.state_found.specs.declared.found.Found.TheVariants.{Nothing, Paused, Interrupted}
use Rattle.state_found.specs.Found.{Fits, HasNoState, IsBad, IsBadIn, IsFirstMisfit, IsFolderRead, IsInterrupted, IsPaused, asked_files, files_before, has_files, verb_of_step}
use Rattle.state_found.specs.Reads.{IsAnswer, IsOnlyAnswer}
use Rattle.state_found.proofs.FileLaws.{file_is, of_one}
use Rattle.state_found.proofs.FolderLaws.{none_below}
use Rattle.state_found.proofs.FoundLaws.{asked_same, not_paused}
use Rattle.state_found.proofs.JudgeLaws.{among, turned}
use Rattle.state_found.proofs.SequenceFound.{other_verb, path_same, step_same}

-- ---- of two files one stands before the other

module _ (P Q : StateFile → Type 0) where
  -- what holds of all before one, and what holds of all before the other
  order : (f g : StateFile) (files : List StateFile) → among f files → among g files → AllByRecursion P (files_before f files)
      → AllByRecursion Q (files_before g files)
      → (f ≡ g) ⊎ ((AllByRecursion P (files_before g files) × P g) ⊎ (AllByRecursion Q (files_before f files) × Q f))
  order f g [] a b p q = absurd cc
  order f g (h ∷ files) a b p q =
      at (is_file h f) refl (is_file h g) refl (order f g files) p q
    where
      behind : (i : StateFile) → is_file h i ≡ false → among i (h ∷ files) → among i files
      behind i other there = by (is_file i h) refl there
        where
          by : (c : Bool) → is_file i h ≡ c → (c || list_any (is_file i) files) ≡ true → among i files
          by true same there = let yes = turned i h same in absurd cc
          by false same there = there

      at : (c : Bool) → is_file h f ≡ c → (d : Bool) → is_file h g ≡ d
          → (among f files → among g files → AllByRecursion P (files_before f files) → AllByRecursion Q (files_before g files)
          → (f ≡ g) ⊎ ((AllByRecursion P (files_before g files) × P g) ⊎ (AllByRecursion Q (files_before f files) × Q f)))
          → AllByRecursion P (cond c [] (h ∷ files_before f files))
          → AllByRecursion Q (cond d [] (h ∷ files_before g files))
          → (f ≡ g)
          ⊎ ((AllByRecursion P (cond d [] (h ∷ files_before g files)) × P g) ⊎ (AllByRecursion Q (cond c [] (h ∷ files_before f files)) × Q f))
      at true x true y later p q = inl (sym (file_is h f x) ∙ file_is h g y)
      at true x false y later p q = inr (inr (tt, subst Q (file_is h f x) q.0))
      at false x true y later p q = inr (inl (tt, subst P (file_is h g y) p.0))
      at false x false y later p q = next (later (behind f x a) (behind g y b) p.1 q.1)
        where
          next : (f ≡ g) ⊎ ((AllByRecursion P (files_before g files) × P g) ⊎ (AllByRecursion Q (files_before f files) × Q f))
              → (f ≡ g)
              ⊎ ((AllByRecursion P (h ∷ files_before g files) × P g) ⊎ (AllByRecursion Q (h ∷ files_before f files) × Q f))
          next (inl e) = inl e
          next (inr (inl m)) = inr (inl ((p.0, m.0), m.1))
          next (inr (inr m)) = inr (inr ((q.0, m.0), m.1))

first_one : (verb : Verb) (w : World) (f g : StateFile) → IsFirstMisfit verb w f → IsFirstMisfit verb w g → f ≡ g
first_one verb w f g a b =
    let y = a.goes_on in
    let z = b.goes_on in
    by (order (Fits w y.0) (Fits w z.0) f g (asked_files verb) a.asked b.asked y.4 z.4)
  where
    by : (f ≡ g)
        ⊎ ((AllByRecursion (Fits w a.goes_on.0) (files_before g (asked_files verb)) × Fits w a.goes_on.0 g)
        ⊎ (AllByRecursion (Fits w b.goes_on.0) (files_before f (asked_files verb)) × Fits w b.goes_on.0 f))
        → f ≡ g
    by (inl e) = e
    by (inr (inl m)) = absurd (b.no_further a.goes_on.0 a.goes_on.1 a.goes_on.2 a.goes_on.3 m.0 m.1)
    by (inr (inr m)) = absurd (a.no_further b.goes_on.0 b.goes_on.1 b.goes_on.2 b.goes_on.3 m.0 m.1)

-- ---- no two of the answers

head_text : (k : Control) → text_in file.Head k ≡ Some (id_line k.orig)
unfolding text_in
head_text k = refl

not_both : (o : Option (List ℕ)) (text : List ℕ) → o ≡ Some text → o ≡ None → ⊥
not_both o text a b = let both : Some text ≡ None = sym a ∙ b in absurd cc

module _ (w : World) where
  abbrev rebases : Bool
  rebases = has_files w (folder_of Rebase)

  folder_read : (v : Verb) → IsFolderRead w v → folder_of v ≡ cond rebases (folder_of Rebase) (folder_of CherryPick)
  folder_read Rebase is = sym (ap (λ (b : Bool). cond b (folder_of Rebase) (folder_of CherryPick)) is)
  folder_read CherryPick is = sym (ap (λ (b : Bool). cond b (folder_of Rebase) (folder_of CherryPick)) is)
  folder_read Revert is = sym (ap (λ (b : Bool). cond b (folder_of Rebase) (folder_of CherryPick)) is)

  record IsBadRead (f : StateFile) : Type 0 where
    verb : Verb
    folder : folder_of verb ≡ cond rebases (folder_of Rebase) (folder_of CherryPick)
    bad : IsBadIn verb w f

  bad_read : (f : StateFile) → IsBad w f → IsBadRead f
  bad_read f is = at rebases refl is
    where
      at : (b : Bool) → rebases ≡ b → MatchBool b (IsBadIn Rebase w f) (IsBadIn CherryPick w f) → IsBadRead f
      at true e is = record { verb = Rebase; folder = sym (ap (λ (b : Bool). cond b (folder_of Rebase) (folder_of CherryPick)) e); bad = is }
      at false e is = record { verb = CherryPick; folder = sym (ap (λ (b : Bool). cond b (folder_of Rebase) (folder_of CherryPick)) e); bad = is }

  bad_one : (f g : StateFile) → IsBad w f → IsBad w g → f ≡ g
  bad_one f g a b = at rebases a b
    where
      at : (c : Bool) → MatchBool c (IsBadIn Rebase w f) (IsBadIn CherryPick w f) → MatchBool c (IsBadIn Rebase w g) (IsBadIn CherryPick w g)
          → f ≡ g
      at true a b = first_one Rebase w f g a.first b.first
      at false a b = first_one CherryPick w f g a.first b.first

  step_verb : (v : Verb) → IsInterrupted w v → v ≡ cond rebases Rebase (verb_of_step (unwrap_or (files.get w (in_step_path CherryPick)) []))
  step_verb Rebase is = let e = is.folder in rw e refl
  step_verb CherryPick is = let e = is.folder in let s = is.stands in rw (e, s) (sym is.told)
  step_verb Revert is = let e = is.folder in let s = is.stands in rw (e, s) (sym is.told)

  nothing_paused : (k : Control) → HasNoState w → IsPaused w k → ⊥
  nothing_paused k is p =
      let of = other_verb w p.told.verb p.folder is.rebase in
      let fits = subst (AllByRecursion (Fits w p.told)) (asked_same p.told.verb CherryPick of) p.fits in
      let head = of_one (Fits w p.told) (asked_files CherryPick) file.Head refl fits in
      none_below w (folder_of CherryPick) (state_path CherryPick file.Head) (id_line p.told.orig) is.sequence refl
      (sym (path_same w file.Head p.told.verb CherryPick of) ∙ head ∙ head_text p.told)

  nothing_runs : (v : Verb) → HasNoState w → IsInterrupted w v → ⊥
  nothing_runs Rebase is i = none_below w (folder_of Rebase) (in_step_path Rebase) i.text is.rebase refl i.stands
  nothing_runs CherryPick is i = none_below w (folder_of CherryPick) (in_step_path CherryPick) i.text is.sequence refl i.stands
  nothing_runs Revert is i = none_below w (folder_of CherryPick) (in_step_path CherryPick) i.text is.sequence refl i.stands

  nothing_bad : (f : StateFile) → HasNoState w → IsBad w f → ⊥
  nothing_bad f is bad =
      let found : IsBadIn CherryPick w f = subst (λ (b : Bool). MatchBool b (IsBadIn Rebase w f) (IsBadIn CherryPick w f)) is.rebase bad in
      let there = found.there in
      let none = is.sequence in
      absurd cc

  paused_runs : (k : Control) (v : Verb) → IsPaused w k → IsInterrupted w v → ⊥
  paused_runs k v p i =
      let same = folder_read p.told.verb p.folder ∙ sym (folder_read v i.folder) in
      not_both (files.get w (in_step_path v)) i.text i.stands (sym (step_same w p.told.verb v same) ∙ p.rests)

  paused_bad : (k : Control) (f : StateFile) → IsPaused w k → IsBad w f → ⊥
  paused_bad k f p is =
      let bad = bad_read f is in not_paused bad.verb w f k bad.bad.first p (folder_read p.told.verb p.folder ∙ sym bad.folder)

  runs_bad : (v : Verb) (f : StateFile) → IsInterrupted w v → IsBad w f → ⊥
  runs_bad v f i is =
      let bad = bad_read f is in
      let same = bad.folder ∙ sym (folder_read v i.folder) in
      not_both (files.get w (in_step_path v)) i.text i.stands (sym (step_same w bad.verb v same) ∙ bad.bad.rests)

  abbrev IsOnePaused : Result Found StateFault → Type 0
  IsOnePaused answer = (k y : Control) → answer ≡ Ok (Paused k) → IsPaused w y → k ≡ y

  same : (a b : Result Found StateFault) → IsOnePaused a → IsAnswer w a → IsAnswer w b → a ≡ b
  same (Ok Nothing) (Ok Nothing) one x y = refl
  same (Ok Nothing) (Ok (Paused k)) one x y = absurd (nothing_paused k x y)
  same (Ok Nothing) (Ok (Interrupted v)) one x y = absurd (nothing_runs v x y)
  same (Ok Nothing) (Err (Bad f)) one x y = absurd (nothing_bad f x y)
  same (Ok (Paused k)) (Ok Nothing) one x y = absurd (nothing_paused k y x)
  same (Ok (Paused k)) (Ok (Paused l)) one x y = ap (λ (c : Control). Ok (Paused c)) (one k l refl y)
  same (Ok (Paused k)) (Ok (Interrupted v)) one x y = absurd (paused_runs k v x y)
  same (Ok (Paused k)) (Err (Bad f)) one x y = absurd (paused_bad k f x y)
  same (Ok (Interrupted v)) (Ok Nothing) one x y = absurd (nothing_runs v y x)
  same (Ok (Interrupted v)) (Ok (Paused k)) one x y = absurd (paused_runs k v y x)
  same (Ok (Interrupted v)) (Ok (Interrupted u)) one x y = ap (λ (z : Verb). Ok (Interrupted z)) (step_verb v x ∙ sym (step_verb u y))
  same (Ok (Interrupted v)) (Err (Bad f)) one x y = absurd (runs_bad v f x y)
  same (Err (Bad f)) (Ok Nothing) one x y = absurd (nothing_bad f y x)
  same (Err (Bad f)) (Ok (Paused k)) one x y = absurd (paused_bad k f y x)
  same (Err (Bad f)) (Ok (Interrupted v)) one x y = absurd (runs_bad v f y x)
  same (Err (Bad f)) (Err (Bad g)) one x y = ap (λ (h : StateFile). Err (Bad h)) (bad_one f g x y)

  pub only_answer : (answer : Result Found StateFault) → IsOnePaused answer → IsAnswer w answer → IsOnlyAnswer w answer
  only_answer answer one is = record { is = is; only = λ other found. same answer other one is found }

  pub only_paused : (k : Control) → IsPaused w k → ((y : Control) → IsPaused w y → k ≡ y) → IsOnlyAnswer w (Ok (Paused k))
  only_paused k is one = only_answer (Ok (Paused k)) (λ l y e found. sym (paused_same k l e) ∙ one y found) is
    where
      paused_same : (k l : Control) → ◌≡◌ {A = Result Found StateFault} (Ok (Paused k)) (Ok (Paused l)) → k ≡ l
      paused_same k l e = cc

  pub only_bad : (f : StateFile) → IsBad w f → IsOnlyAnswer w (Err (Bad f))
  only_bad f is = only_answer (Err (Bad f)) (λ k y e found. absurd cc) is
