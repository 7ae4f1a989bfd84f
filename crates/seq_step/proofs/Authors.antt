-- Who wrote a commit, as its text reads.
use Rattle.std.proofs.Common.{◌≡◌, ℕ, List, Some, None, Result, Ok, Err, ap, refl}
use Rattle.grammar.specs.Grammar.{IsFirstBad}
use Rattle.grammar.proofs.Top.{first_bad, read_whole}
use Rattle.ident_text.specs.declared.ident.Ident.{Ident}
use Rattle.ident_text.specs.Idents.{IsIdent}
use Rattle.ident_text.specs.ReadIdents.{whole_ident_from}
use Rattle.ident_text.proofs.IdentLaws.{whole_ident_reads}
use Rattle.ref_text.specs.ReadHeads.{ok_of}

told : (text : List ℕ) (who : Ident) → IsIdent who text → ((other : Ident) → IsIdent other text → other ≡ who) → (r : Result Ident ℕ)
    → whole_ident_from text ≡ r → ok_of r ≡ Some who
told text who is alone (Ok other) read = ap Some (alone other (read_whole IsIdent whole_ident_from whole_ident_reads text other read).0)
told text who is alone (Err left) read = absurd ((first_bad IsIdent whole_ident_from whole_ident_reads text left read).no_text who is)

-- a text that is an ident's reads as that
pub author_is : (text : List ℕ) (who : Ident) → IsIdent who text → ((other : Ident) → IsIdent other text → other ≡ who)
    → ok_of (whole_ident_from text) ≡ Some who
author_is text who is alone = told text who is alone (whole_ident_from text) refl

none_told : (text : List ℕ) → ((who : Ident) → IsIdent who text → ⊥) → (r : Result Ident ℕ) → whole_ident_from text ≡ r → ok_of r ≡ None
none_told text none (Ok who) read = absurd (none who (read_whole IsIdent whole_ident_from whole_ident_reads text who read).0)
none_told text none (Err left) read = refl

-- one that is none reads as none
pub no_author : (text : List ℕ) (at : ℕ) → IsFirstBad IsIdent text at → ok_of (whole_ident_from text) ≡ None
no_author text at bad = none_told text bad.no_text (whole_ident_from text) refl
