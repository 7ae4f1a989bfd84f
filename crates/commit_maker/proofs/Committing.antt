-- Who commits is one whom a commit may have.
use Rattle.std.proofs.Common.{◌≡◌, ℕ, ◌==◌, true, ◌&&◌, ◌||◌, List, [], ◌∷◌, length, arith}
use Rattle.std.specs.Char.{is_ascii_digit}
use Rattle.std.specs.List.{list_all}
use Rattle.std.proofs.lemmas.Bool.{and_parts, and_from}
use Rattle.commit_maker.proofs.Subjects.{plain, subject_line}
use Rattle.commit_maker.specs.Commits.{CanBeMade, IsMade, author_of, made_of}
use Rattle.commit_maker.specs.declared.making.Making.{Making}
use Rattle.ident_text.specs.declared.ident.Ident.{Ident}
use Rattle.ident_text.specs.Idents.{IsIdent, is_sign, is_zone}
use Rattle.message_text.specs.Paragraphs.{subject}
use Rattle.object_text.specs.Commits.{IsCommitValue}
use Rattle.object_text.specs.declared.commit.Commit.{Commit}
use Rattle.seq_outside.specs.Env.{is_zone as is_env_zone}

-- the zone of an environment is that of an ident
pub zone_fits : (zone : List ℕ) → is_env_zone zone ≡ true → is_zone zone ≡ true
zone_fits [] h = absurd cc
zone_fits (sign ∷ digits) h =
    let one = and_parts ((sign == 43 || sign == 45) && (length digits == 4)) (list_all is_ascii_digit digits) h in
    let two = and_parts (sign == 43 || sign == 45) (length digits == 4) one.0 in
    and_from (length (sign ∷ digits) == 5 && is_sign sign) (list_all is_ascii_digit digits) (and_from (length (sign ∷ digits) == 5) (is_sign sign) (grind arith) two.0) one.1

-- a commit whose author and committer are idents has a text
pub commit_value : (making : Making) (who : Ident) (tree : List ℕ) (parents : List (List ℕ)) (message author committer : List ℕ) → CanBeMade making
    → IsIdent (author_of making.author who) author → IsIdent who committer
    → IsCommitValue (record { tree = tree; parents = parents; author = author; committer = committer; encoding = making.encoding; message = message })
commit_value making who tree parents message author committer value by at =
    record { author = (author_of making.author who, by); committer = (who, at); encoding = value.encoding }

-- what is told of a commit can stand in a line of a log
pub told_made : (id : List ℕ) (commit : Commit) → IsCommitValue commit → IsMade (made_of id commit)
told_made id commit value = record { ident = value.committer; subject = plain (subject commit.message) (subject_line commit.message) }
