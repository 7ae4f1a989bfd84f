-- The line that a pick leaves in HEAD's log is one that a log may have.
use Rattle.std.proofs.Common.{◌≡◌, ℕ, ◌==◌, Bool, true, false, not, cond, List, ◌++◌, codes, refl}
use Rattle.std.specs.Prelude.{None, Some, replicate}
use Rattle.std.specs.Str.{bytes_eq}
use Rattle.std.proofs.lemmas.List.Folds.{list_all-append}
use Rattle.std.proofs.lemmas.Bool.{both_ways}
use Rattle.std.proofs.lemmas.Slice.Eq.{bytes_eq-Decides}
use Rattle.commit_maker.proofs.Subjects.{plain, subject_line}
use Rattle.ident_text.specs.declared.ident.Ident.{Ident}
use Rattle.ident_text.specs.Idents.{IsIdent, IsIdentText}
use Rattle.line_steps.specs.Writing.{line_of}
use Rattle.message_text.specs.Paragraphs.{subject}
use Rattle.ref_text.specs.Logs.{IsLogValue, IsMessage, IsOldValue}
use Rattle.seq_model.specs.Making.{value_of}

-- a subject holds no line feed
pub subject_is_message : (message : List ℕ) → IsMessage (subject message)
subject_is_message message = plain (subject message) (subject_line message)

pick_is_message : (subject : List ℕ) → IsMessage subject → IsMessage (codes "rebase (" ++ codes "pick" ++ codes "): " ++ subject)
pick_is_message subject is =
    rw (
      list_all-append (λ b. not (b == 10)) (codes "rebase (") (codes "pick" ++ codes "): " ++ subject),
      list_all-append (λ b. not (b == 10)) (codes "pick") (codes "): " ++ subject),
      list_all-append (λ b. not (b == 10)) (codes "): ") subject,
    ) is

old_value : (id : List ℕ) → IsOldValue (value_of id)
old_value id = at (bytes_eq id (replicate 20 0)) refl
  where
    at : (t : Bool) → bytes_eq id (replicate 20 0) ≡ t → IsOldValue (cond t None (Some id))
    at true is = tt
    at false is = λ same. both_ways (bytes_eq id (replicate 20 0)) is ((bytes_eq-Decides id (replicate 20 0)).1 same)

-- some text is the line's
pub line_is_value : (subject head id ident : List ℕ) → IsIdentText ident → IsMessage subject
    → IsLogValue (line_of (codes "pick") subject head id ident)
line_is_value subject head id ident who is =
    record { who = who.0; is_old = old_value head; is_ident = who.1; is_message = pick_is_message subject is }

pub some_ident : (who : Ident) (text : List ℕ) → IsIdent who text → IsIdentText text
some_ident who text is = (who, is)
