-- What may stand behind each verb (git-rebase(1), git-cherry-pick(1), git-revert(1), "Synopsis" and "Sequencer subcommands").
use Rattle.std.specs.Prelude.{ℕ, Bool, true, false, ◌++◌, List, [], ◌∷◌, codes}
use Rattle.seq_model.specs.declared.form.Form.{Form}
use Rattle.seq_model.specs.declared.form.Form.TheVariants.{Action, Flag, Name, Empty, Number, Shell, Text, One, Many}

pub record Row : Type 0 where
  pub name : List ℕ
  pub form : Form

abbrev pub takes : List ℕ → Form → Row
takes name form = record { name = name; form = form }

abbrev pub action_rows : List Row
action_rows =
    takes (codes "--continue") Action
    ∷ takes (codes "--skip") Action
    ∷ takes (codes "--abort") Action
    ∷ takes (codes "--quit") Action
    ∷ []

abbrev pub rebase_rows : List Row
rebase_rows = action_rows ++
    (takes (codes "--edit-todo") Action
    ∷ takes (codes "-i") Flag
    ∷ takes (codes "--rebase-merges") Flag
    ∷ takes (codes "--onto") Name
    ∷ takes (codes "--no-ff") Flag
    ∷ takes (codes "--empty") Empty
    ∷ takes (codes "--autosquash") Flag
    ∷ takes (codes "--update-refs") Flag
    ∷ takes (codes "-x") Shell
    ∷ takes (codes "--reschedule-failed-exec") Flag
    ∷ takes (codes "UPSTREAM") One
    ∷ [])

abbrev pub cherry_pick_rows : List Row
cherry_pick_rows = action_rows ++
    (takes (codes "-e") Flag
    ∷ takes (codes "-x") Flag
    ∷ takes (codes "-m") Number
    ∷ takes (codes "--allow-empty") Flag
    ∷ takes (codes "--keep-redundant-commits") Flag
    ∷ takes (codes "--empty") Empty
    ∷ takes (codes "--no-edit") Flag
    ∷ takes (codes "REV") Many
    ∷ [])

abbrev pub revert_rows : List Row
revert_rows = action_rows ++
    (takes (codes "-e") Flag
    ∷ takes (codes "-m") Number
    ∷ takes (codes "--no-edit") Flag
    ∷ takes (codes "REV") Many
    ∷ [])

abbrev pub paths_rows : List Row
paths_rows = takes (codes "PATH") Many ∷ []

abbrev pub commit_rows : List Row
commit_rows = takes (codes "--amend") Flag ∷ takes (codes "-m") Text ∷ []

abbrev pub cat_rows : List Row
cat_rows = takes (codes "HEX") One ∷ []

-- a flag has no value
abbrev pub is_flag : Form → Bool
is_flag Action = true
is_flag Flag = true
is_flag _ = false

abbrev pub is_action : Form → Bool
is_action Action = true
is_action _ = false

-- it is named by no word: each word without a leading `-` that is no option's value is one
abbrev pub is_argument : Form → Bool
is_argument One = true
is_argument Many = true
is_argument _ = false

-- it may stand several times
abbrev pub is_repeated : Form → Bool
is_repeated Shell = true
is_repeated Many = true
is_repeated _ = false

-- it must stand
abbrev pub is_needed : Form → Bool
is_needed Text = true
is_needed One = true
is_needed Many = true
is_needed _ = false
