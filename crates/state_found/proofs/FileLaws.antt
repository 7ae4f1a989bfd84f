-- What files hold, where one without a byte is none; and a file among others.
use Rattle.std.proofs.Common.{◌≡◌, ◌∙◌, ℕ, Bool, true, false, cond, eqb, List, [], ◌∷◌, length, Option, Some, None, refl, sym, ap, subst, arith}
use Rattle.std.specs.Prelude.{◌||◌, unwrap_or}
use Rattle.std.specs.Option.{option_map}
use Rattle.std.specs.List.{AllByRecursion, list_any}
use Rattle.std.specs.Str.{bytes_eq}
use Rattle.std.proofs.lemmas.Bool.{eqb-true, ne_eqb}
use Rattle.std.proofs.lemmas.Slice.Eq.{bytes_eq-Decides}
use Rattle.ident_text.specs.declared.ident.Ident.{Ident}
use Rattle.ident_text.specs.AuthorScripts.{script_text}
use Rattle.state_text.specs.declared.state_file.StateFile.{StateFile}
use Rattle.state_text.specs.declared.state_file.StateFile.TheVariants as file
use Rattle.state_text.specs.Places.{file_name}
use Rattle.state_text.specs.Texts.{id_line, kept}
use Rattle.state_reading.specs.Recalls.{is_file}
use Rattle.state_reading.specs.Values.{optional_line, optional_script}

pub bytes_kept : (t : List ℕ) → unwrap_or (kept t) [] ≡ t
bytes_kept [] = refl
bytes_kept (b ∷ t) =
    let some : eqb (length (b ∷ t)) 0 ≡ false = ne_eqb (length (b ∷ t)) 0 (λ none. absurd (omega (arith, none))) in
    ap (λ (v : Bool). unwrap_or (cond v None (Some (b ∷ t))) []) some

pub bytes_optional : (o : Option (List ℕ)) → unwrap_or (option_map id_line o) [] ≡ optional_line o
bytes_optional None = refl
bytes_optional (Some id) = refl

pub bytes_script : (o : Option Ident) → unwrap_or (option_map script_text o) [] ≡ optional_script o
bytes_script None = refl
bytes_script (Some ident) = refl

pub nothing_is : (t : List ℕ) → eqb (length t) 0 ≡ true → t ≡ []
nothing_is [] e = refl
nothing_is (b ∷ t) e = absurd (omega (arith, eqb-true _ _ e))

-- ---- a file is known by its name

named : List ℕ → StateFile
named n =
    cond (bytes_eq n (file_name file.HeadName)) file.HeadName
    (cond (bytes_eq n (file_name file.OrigHead)) file.OrigHead
    (cond (bytes_eq n (file_name file.Onto)) file.Onto
    (cond (bytes_eq n (file_name file.Interactive)) file.Interactive
    (cond (bytes_eq n (file_name file.RebaseTodo)) file.RebaseTodo
    (cond (bytes_eq n (file_name file.Backup)) file.Backup
    (cond (bytes_eq n (file_name file.Done)) file.Done
    (cond (bytes_eq n (file_name file.Msgnum)) file.Msgnum
    (cond (bytes_eq n (file_name file.End)) file.End
    (cond (bytes_eq n (file_name file.Message)) file.Message
    (cond (bytes_eq n (file_name file.AuthorScript)) file.AuthorScript
    (cond (bytes_eq n (file_name file.Amend)) file.Amend
    (cond (bytes_eq n (file_name file.StoppedSha)) file.StoppedSha
    (cond (bytes_eq n (file_name file.CurrentFixups)) file.CurrentFixups
    (cond (bytes_eq n (file_name file.RewrittenList)) file.RewrittenList
    (cond (bytes_eq n (file_name file.RewrittenPending)) file.RewrittenPending
    (cond (bytes_eq n (file_name file.RefsToDelete)) file.RefsToDelete
    (cond (bytes_eq n (file_name file.UpdateRefs)) file.UpdateRefs
    (cond (bytes_eq n (file_name file.Control)) file.Control
    (cond (bytes_eq n (file_name file.Todo)) file.Todo
    (cond (bytes_eq n (file_name file.Head)) file.Head
    (cond (bytes_eq n (file_name file.AbortSafety)) file.AbortSafety
    (cond (bytes_eq n (file_name file.Opts)) file.Opts
    (cond (bytes_eq n (file_name file.MergeMsg)) file.MergeMsg
    (cond (bytes_eq n (file_name file.MergeHead)) file.MergeHead
    (cond (bytes_eq n (file_name file.RebaseHead)) file.RebaseHead
    (cond (bytes_eq n (file_name file.CherryPickHead)) file.CherryPickHead file.RevertHead))))))))))))))))))))))))))

named_again : (f : StateFile) → named (file_name f) ≡ f
unfolding named
named_again file.HeadName = refl
named_again file.OrigHead = refl
named_again file.Onto = refl
named_again file.Interactive = refl
named_again file.RebaseTodo = refl
named_again file.Backup = refl
named_again file.Done = refl
named_again file.Msgnum = refl
named_again file.End = refl
named_again file.Message = refl
named_again file.AuthorScript = refl
named_again file.Amend = refl
named_again file.StoppedSha = refl
named_again file.CurrentFixups = refl
named_again file.RewrittenList = refl
named_again file.RewrittenPending = refl
named_again file.RefsToDelete = refl
named_again file.UpdateRefs = refl
named_again file.Control = refl
named_again file.Todo = refl
named_again file.Head = refl
named_again file.AbortSafety = refl
named_again file.Opts = refl
named_again file.MergeMsg = refl
named_again file.MergeHead = refl
named_again file.RebaseHead = refl
named_again file.CherryPickHead = refl
named_again file.RevertHead = refl

pub file_is : (f g : StateFile) → is_file f g ≡ true → f ≡ g
file_is f g same = sym (named_again f) ∙ ap named ((bytes_eq-Decides (file_name f) (file_name g)).0 same) ∙ named_again g

pub file_itself : (f : StateFile) → is_file f f ≡ true
file_itself f = (bytes_eq-Decides (file_name f) (file_name f)).1 refl

-- what holds of all holds of one that is among them
module _ (P : StateFile → Type 0) where
  pub of_one : (files : List StateFile) (f : StateFile) → list_any (is_file f) files ≡ true → AllByRecursion P files → P f
  of_one [] f among all = absurd cc
  of_one (g ∷ files) f among all = at (is_file f g) refl (λ e. of_one files f e all.1) among
    where
      at : (b : Bool) → is_file f g ≡ b → (list_any (is_file f) files ≡ true → P f) → (b || list_any (is_file f) files) ≡ true → P f
      at true same later e = subst P (sym (file_is f g same)) all.0
      at false same later e = later e
