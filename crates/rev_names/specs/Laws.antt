-- What the commit that a word names has to do with the store, in the words of the layers below.
use Rattle.std.specs.Prelude.{◌≡◌, ◌⊎◌, false, List, [], ◌∷◌, ◌++◌, Option, Some, None, Ok}
use Rattle.object_text.specs.declared.commit.Commit.{Commit as CommitFields}
use Rattle.objects.specs.Named.{commit_named}
use Rattle.ref_text.specs.Refs.{RefAt}
use Rattle.seq_base.specs.RefNames.{is_ref_name}
use Rattle.seq_base.specs.Words.{Id, Name}
use Rattle.seq_base.specs.World.{World}
use Rattle.rev_names.specs.Commits.{found_within}
use Rattle.rev_names.specs.declared.commit.FoundCommit.{FoundCommit}
use Rattle.rev_names.specs.declared.refs.FoundRef.{FoundRef}

-- a commit that can be read has the id
abbrev pub NamesCommit : World → Id → Type 0
NamesCommit w id = (commit : CommitFields) × (commit_named w id ≡ Ok commit)

-- a name is no ref's, or has no value
abbrev pub HasNone : World → Name → Type 0
HasNone w name = (is_ref_name name ≡ false) ⊎ RefAt w name None

abbrev pub AllHaveNone : World → List Name → Type 0
AllHaveNone w [] = Unit {0}
AllHaveNone w (name ∷ names) = HasNone w name × AllHaveNone w names

-- of some names this is the first that has a value
pub record IsFirstRef (w : World) (names : List Name) (ref : FoundRef) : Type 0 where
  pub before : List Name
  pub behind : List Name
  pub names_are : names ≡ before ++ ref.name ∷ behind
  pub none_before : AllHaveNone w before
  pub value : RefAt w ref.name (Some ref.id)

-- none of some names has a value, or it is the first that has one
abbrev pub IsFirstOf : World → List Name → Option FoundRef → Type 0
IsFirstOf w names None = AllHaveNone w names
IsFirstOf w names (Some ref) = IsFirstRef w names ref

-- the commit is found behind the id
abbrev pub IsFound : World → Id → CommitFields → Type 0
IsFound w id commit = (found : FoundCommit) × (found_within 16 w id ≡ Ok found) × (found.commit ≡ commit)
