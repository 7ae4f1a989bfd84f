-- The command of each verb knows its rows.
use Rattle.std.proofs.Common.{◌≡◌, ◌<◌, ◌==◌, ℕ, Bool, true, false, refl, arith, List, [], ◌∷◌, drop, get_or, Some, None, inl, inr, codes}
use Rattle.seq_model.specs.Given.{is_dashed}
use Rattle.seq_model.specs.Rows.{Row, cat_rows, cherry_pick_rows, commit_rows, is_argument, is_flag, paths_rows, rebase_rows, revert_rows}
use Rattle.std.specs.List.{list_all}
use Rattle.clap.specs.Lexer.{has_byte}
use Rattle.clap.specs.Simple.{argument_words, built, is_simple, names_of}
use Rattle.clap.specs.Takes.{default_passes, is_valid}
use Rattle.clap.specs.Walk as clap
use Rattle.clap.specs.Walk.{Rule, Text, is_empty, arg_by_id, arg_by_index, arg_by_long, arg_by_short}
use Rattle.seq_words.specs.Told.{AllFit, Fits, told_as}
use Rattle.seq_words.specs.Forms.{forms_fit}
use Rattle.seq_words.specs.VerbWords.{rows_for}
use Rattle.seq_words.specs.Verbs.{told_app, told_rules}
use Rattle.seq_words.specs.declared.verb.VerbWord.{VerbWord}
use Rattle.seq_words.specs.declared.verb.VerbWord.TheVariants.{Rebase, CherryPick, Revert, Init, Add, Rm, Commit, Status, Cat}

long : {c : List Rule} {row : Row} (stem : Text) (flag : Bool) → row.name ≡ 45 ∷ 45 ∷ get_or stem 0 0 ∷ drop 1 stem
    → has_byte 61 (get_or stem 0 0 ∷ drop 1 stem) ≡ false
    → is_flag row.form ≡ flag → is_argument row.form ≡ false → arg_by_id c row.name ≡ Some (told_as row.name (Some stem) None None flag)
    → arg_by_long c (get_or stem 0 0 ∷ drop 1 stem) ≡ Some (told_as row.name (Some stem) None None flag) → Fits c row
long stem flag name whole form option by_id found = record {
  long = Some stem;
  short = None;
  index = None;
  flag = flag;
  form = form;
  by_id = by_id;
  way = inl (record { first = get_or stem 0 0; rest = drop 1 stem; name = name; whole = whole; found = found; option = option });
}

short : {c : List Rule} {row : Row} (letter : ℕ) (flag : Bool) → row.name ≡ 45 ∷ letter ∷ [] → letter < 128 → (letter == 45) ≡ false
    → is_flag row.form ≡ flag → is_argument row.form ≡ false → arg_by_id c row.name ≡ Some (told_as row.name None (Some letter) None flag)
    → arg_by_short c letter ≡ Some (told_as row.name None (Some letter) None flag) → Fits c row
short letter flag name ascii other form option by_id found = record {
  long = None;
  short = Some letter;
  index = None;
  flag = flag;
  form = form;
  by_id = by_id;
  way = inr (inl (record { letter = letter; name = name; ascii = ascii; other = other; found = found; option = option }));
}

argument : {c : List Rule} {row : Row} → is_dashed row.name ≡ false → is_flag row.form ≡ false
    → arg_by_id c row.name ≡ Some (told_as row.name None None (Some 1) false) → arg_by_index c 1 ≡ Some (told_as row.name None None (Some 1) false) → Fits c row
argument name form by_id found = record {
  long = None;
  short = None;
  index = Some 1;
  flag = false;
  form = form;
  by_id = by_id;
  way = inr (inr (record { name = name; found = found; valued = form }));
}

cat_fits : AllFit (told_rules cat_rows) cat_rows
cat_fits = (argument refl refl refl refl, tt)

paths_fit : AllFit (told_rules paths_rows) paths_rows
paths_fit = (argument refl refl refl refl, tt)

commit_fits : AllFit (told_rules commit_rows) commit_rows
commit_fits = (long (codes "amend") true refl refl refl refl refl refl, (short 109 false refl (omega arith) refl refl refl refl refl, tt))

revert_fits : AllFit (told_rules revert_rows) revert_rows
revert_fits =
    (long (codes "continue") true refl refl refl refl refl refl, (long (codes "skip") true refl refl refl refl refl refl, (long (codes "abort") true refl refl refl refl refl refl, (long (codes "quit") true refl refl refl refl refl refl, (short 101 true refl (omega arith) refl refl refl refl refl, (short 109 false refl (omega arith) refl refl refl refl refl, (long (codes "no-edit") true refl refl refl refl refl refl, (argument refl refl refl refl, tt))))))))

cherry_pick_fits : AllFit (told_rules cherry_pick_rows) cherry_pick_rows
cherry_pick_fits =
    (long (codes "continue") true refl refl refl refl refl refl, (long (codes "skip") true refl refl refl refl refl refl, (long (codes "abort") true refl refl refl refl refl refl, (long (codes "quit") true refl refl refl refl refl refl, (short 101 true refl (omega arith) refl refl refl refl refl, (short 120 true refl (omega arith) refl refl refl refl refl, (short 109 false refl (omega arith) refl refl refl refl refl, (long (codes "allow-empty") true refl refl refl refl refl refl, (long (codes "keep-redundant-commits") true refl refl refl refl refl refl, (long (codes "empty") false refl refl refl refl refl refl, (long (codes "no-edit") true refl refl refl refl refl refl, (argument refl refl refl refl, tt))))))))))))

rebase_fits : AllFit (told_rules rebase_rows) rebase_rows
rebase_fits =
    (long (codes "continue") true refl refl refl refl refl refl, (long (codes "skip") true refl refl refl refl refl refl, (long (codes "abort") true refl refl refl refl refl refl, (long (codes "quit") true refl refl refl refl refl refl, (long (codes "edit-todo") true refl refl refl refl refl refl, (short 105 true refl (omega arith) refl refl refl refl refl, (long (codes "rebase-merges") true refl refl refl refl refl refl, (long (codes "onto") false refl refl refl refl refl refl, (long (codes "no-ff") true refl refl refl refl refl refl, (long (codes "empty") false refl refl refl refl refl refl, (long (codes "autosquash") true refl refl refl refl refl refl, (long (codes "update-refs") true refl refl refl refl refl refl, (short 120 false refl (omega arith) refl refl refl refl refl, (long (codes "reschedule-failed-exec") true refl refl refl refl refl refl, (argument refl refl refl refl, tt)))))))))))))))

none_fits : AllFit (told_rules []) []
none_fits = tt

-- the command of the rows knows each of them, and asks for nothing
pub record Known (rows : List Row) : Type 0 where
  pub fit : AllFit (told_rules rows) rows
  pub simple : is_simple (told_app rows) ≡ true
  pub words : (words : List Text) → argument_words (told_app rows) words ≡ words
  pub names : names_of (built (told_app rows)) ≡ []
  pub leaves : list_all (λ a. is_empty a.defaults) (told_rules rows) ≡ true
  pub defaults : list_all default_passes (told_rules rows) ≡ true
  pub valid : (found : List clap.Row) → is_valid (built (told_app rows)).top found false ≡ true
  pub forms : list_all (forms_fit rows) rows ≡ true

pub known : (verb : VerbWord) → Known (rows_for verb)
known Rebase =
    record { fit = rebase_fits; simple = refl; words = λ words. refl; names = refl; leaves = refl; defaults = refl; valid = λ found. refl; forms = refl }
known CherryPick =
    record { fit = cherry_pick_fits; simple = refl; words = λ words. refl; names = refl; leaves = refl; defaults = refl; valid = λ found. refl; forms = refl }
known Revert =
    record { fit = revert_fits; simple = refl; words = λ words. refl; names = refl; leaves = refl; defaults = refl; valid = λ found. refl; forms = refl }
known Init =
    record { fit = none_fits; simple = refl; words = λ words. refl; names = refl; leaves = refl; defaults = refl; valid = λ found. refl; forms = refl }
known Add =
    record { fit = paths_fit; simple = refl; words = λ words. refl; names = refl; leaves = refl; defaults = refl; valid = λ found. refl; forms = refl }
known Rm =
    record { fit = paths_fit; simple = refl; words = λ words. refl; names = refl; leaves = refl; defaults = refl; valid = λ found. refl; forms = refl }
known Commit =
    record { fit = commit_fits; simple = refl; words = λ words. refl; names = refl; leaves = refl; defaults = refl; valid = λ found. refl; forms = refl }
known Status =
    record { fit = none_fits; simple = refl; words = λ words. refl; names = refl; leaves = refl; defaults = refl; valid = λ found. refl; forms = refl }
known Cat =
    record { fit = cat_fits; simple = refl; words = λ words. refl; names = refl; leaves = refl; defaults = refl; valid = λ found. refl; forms = refl }
