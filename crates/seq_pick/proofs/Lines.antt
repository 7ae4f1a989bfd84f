-- The line that a pick leaves in the logs holds no line feed.
use Rattle.std.proofs.Common.{◌≡◌, ℕ, ◌==◌, Bool, true, false, not, cond, List, [], ◌∷◌, ◌++◌, map, codes, refl}
use Rattle.std.specs.Prelude.{None, Some, replicate}
use Rattle.std.specs.List.{AllByRecursion as Each, join_with_byte, list_all}
use Rattle.std.specs.Str.{bytes_eq}
use Rattle.std.proofs.lemmas.List.Folds.{list_all-append}
use Rattle.std.proofs.lemmas.Bool.{and_from, both_ways}
use Rattle.std.proofs.lemmas.Slice.Eq.{bytes_eq-Decides}
use Rattle.message_text.specs.Lines.{from, has_some, is_empty, lines, up_to, without_end}
use Rattle.seq_base.specs.Blanks.{is_blank}
use Rattle.ref_text.specs.Logs.{IsLogValue, IsOldValue}
use Rattle.seq_model.specs.Making.{pick_line, value_of}
use Rattle.seq_pick.specs.Preparing.{IsSomeIdent}
use Rattle.message_text.specs.Paragraphs.{subject}
use Rattle.message_text.proofs.CleanLaws.{IsLine, IsLine-lines}

each_from : (p : List ℕ → Bool) (ls : List (List ℕ)) → Each IsLine ls → Each IsLine (from p ls)
each_from p [] h = tt
each_from p (l ∷ ls) h = at (each_from p ls h.1) (p l)
  where
    at : Each IsLine (from p ls) → (t : Bool) → Each IsLine (cond t (l ∷ ls) (from p ls))
    at later true = h
    at later false = later

each_up_to : (p : List ℕ → Bool) (ls : List (List ℕ)) → Each IsLine ls → Each IsLine (up_to p ls)
each_up_to p [] h = tt
each_up_to p (l ∷ ls) h = at (each_up_to p ls h.1) (p l)
  where
    at : Each IsLine (up_to p ls) → (t : Bool) → Each IsLine (cond t [] (l ∷ up_to p ls))
    at later true = tt
    at later false = (h.0, later)

-- a line without what stands at its end is one
shorter : (p : ℕ → Bool) (l : List ℕ) → IsLine l → IsLine (without_end p l)
shorter p [] h = tt
shorter p (b ∷ l) h = at (shorter p l h.1) (list_all p (b ∷ l))
  where
    at : IsLine (without_end p l) → (t : Bool) → IsLine (cond t [] (b ∷ without_end p l))
    at later true = tt
    at later false = (h.0, later)

each_shorter : (ls : List (List ℕ)) → Each IsLine ls → Each IsLine (map (without_end is_blank) ls)
each_shorter [] h = tt
each_shorter (l ∷ ls) h = (shorter is_blank l h.0, each_shorter ls h.1)

together : (a b : List ℕ) → IsLine a → IsLine b → IsLine (a ++ b)
together [] b h k = k
together (c ∷ a) b h k = (h.0, together a b h.1 k)

joined : (ls : List (List ℕ)) → Each IsLine ls → IsLine (join_with_byte 32 ls)
joined [] h = tt
joined (l ∷ []) h = h.0
joined (l ∷ m ∷ ls) h = together l (32 ∷ join_with_byte 32 (m ∷ ls)) h.0 (refl, joined (m ∷ ls) h.1)

subject_line : (message : List ℕ) → IsLine (subject message)
unfolding subject
subject_line message = joined _ (each_shorter _ (each_up_to is_empty _ (each_from has_some (lines message) (IsLine-lines message))))

plain : (l : List ℕ) → IsLine l → list_all (λ b. not (b == 10)) l ≡ true
plain [] h = refl
plain (b ∷ l) h = and_from (not (b == 10)) (list_all (λ c. not (c == 10)) l) (let is : (b == 10) ≡ false = h.0 in rw is refl) (plain l h.1)

-- the message of the line
pub subject_plain : (message : List ℕ) → list_all (λ b. not (b == 10)) (codes "cherry-pick: " ++ subject message) ≡ true
subject_plain message =
    rw (list_all-append (λ b. not (b == 10)) (codes "cherry-pick: ") (subject message)) (plain (subject message) (subject_line message))

old_value : (id : List ℕ) → IsOldValue (value_of id)
old_value id = at (bytes_eq id (replicate 20 0)) refl
  where
    at : (t : Bool) → bytes_eq id (replicate 20 0) ≡ t → IsOldValue (cond t None (Some id))
    at true is = tt
    at false is = λ same. both_ways (bytes_eq id (replicate 20 0)) is ((bytes_eq-Decides id (replicate 20 0)).1 same)

-- some text is the line's
pub line_is_value : (head id ident message : List ℕ) → IsSomeIdent ident → IsLogValue (pick_line head id ident message)
line_is_value head id ident message who = record { who = who.0; is_old = old_value head; is_ident = who.1; is_message = subject_plain message }
