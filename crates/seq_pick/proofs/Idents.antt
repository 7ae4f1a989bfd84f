-- An ident that is written is one that a commit may have.
use Rattle.std.proofs.Common.{◌≡◌, ℕ, ◌==◌, true, ◌&&◌, ◌||◌, List, [], ◌∷◌, length, arith}
use Rattle.std.specs.Char.{is_ascii_digit}
use Rattle.std.specs.List.{list_all}
use Rattle.std.proofs.lemmas.Bool.{and_parts, and_from}
use Rattle.ident_text.specs.declared.ident.Ident.{Ident}
use Rattle.ident_text.specs.Idents.{IsIdent, is_sign, is_zone}
use Rattle.object_text.specs.Commits.{IsCommitValue}
use Rattle.object_text.specs.declared.commit.Commit.{Commit}
use Rattle.seq_model.specs.Making.{commit_on}
use Rattle.seq_pick.specs.Preparing.{IsSomeIdent}
use Rattle.seq_outside.specs.Env.{is_zone as is_env_zone}

-- the zone of an environment is that of an ident
pub zone_fits : (zone : List ℕ) → is_env_zone zone ≡ true → is_zone zone ≡ true
zone_fits [] h = absurd cc
zone_fits (sign ∷ digits) h =
    let one = and_parts ((sign == 43 || sign == 45) && (length digits == 4)) (list_all is_ascii_digit digits) h in
    let two = and_parts (sign == 43 || sign == 45) (length digits == 4) one.0 in
    and_from (length (sign ∷ digits) == 5 && is_sign sign) (list_all is_ascii_digit digits) (and_from (length (sign ∷ digits) == 5) (is_sign sign) (grind arith) two.0) one.1

-- a commit by such an ident, of the author of another
pub commit_value : (tree head : List ℕ) (picked : Commit) (ident : List ℕ) → IsCommitValue picked → IsSomeIdent ident
    → IsCommitValue (commit_on tree head picked ident)
commit_value tree head picked ident value who = record { author = value.author; committer = who; encoding = value.encoding }

pub some_ident : (who : Ident) (text : List ℕ) → IsIdent who text → IsSomeIdent text
some_ident who text is = (who, is)
