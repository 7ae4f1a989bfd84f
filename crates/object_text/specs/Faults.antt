-- What a reader answers where bytes spell nothing.
use Rattle.std.specs.Prelude.{◌≡◌, ◌<◌, length, Option, Some, None, Result, Ok, Err}
use Rattle.grammar.specs.Grammar.{IsFirstBad}
use Rattle.seq_base.specs.Words.{Id, Text}
use Rattle.object_text.specs.declared.commit.Commit.{Commit}
use Rattle.object_text.specs.declared.fault.TextFault.{TextFault}
use Rattle.object_text.specs.declared.fault.TextFault.TheVariants.{Bad, Parents, Memory}
use Rattle.object_text.specs.Commits.{IsCommit}

-- the first bad byte, or want of memory
abbrev pub IsTextFault : {X : Type 0} → (X → Text → Type 0) → Text → TextFault → Type 0
IsTextFault spells bytes (Bad at) = IsFirstBad spells bytes at
IsTextFault spells bytes (Parents count) = ⊥
IsTextFault spells bytes Memory = Unit {0}

-- the first bad byte, or that the bytes are a commit's that has more than 16 parents, or want of memory
abbrev pub IsCommitFault : Text → TextFault → Type 0
IsCommitFault bytes (Bad at) = IsFirstBad IsCommit bytes at
IsCommitFault bytes (Parents count) = (c : Commit) × IsCommit c bytes × (length c.parents ≡ count) × (16 < count)
IsCommitFault bytes Memory = Unit {0}

-- What was read of a tag is the id that it names, or that it names none, unless memory ran out.
abbrev pub GivesNamed : Result Id TextFault → Option Id → Type 0
GivesNamed (Ok id) named = named ≡ Some id
GivesNamed (Err (Bad at)) named = named ≡ None
GivesNamed (Err (Parents count)) named = ⊥
GivesNamed (Err Memory) named = Unit {0}
