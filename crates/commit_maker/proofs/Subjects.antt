-- A subject holds no line feed.
use Rattle.std.proofs.Common.{◌≡◌, ℕ, ◌==◌, Bool, true, false, not, cond, List, [], ◌∷◌, ◌++◌, map, refl}
use Rattle.std.specs.List.{AllByRecursion as Each, join_with_byte, list_all}
use Rattle.std.proofs.lemmas.Bool.{and_from}
use Rattle.message_text.specs.Lines.{from, has_some, is_empty, lines, up_to, without_end}
use Rattle.seq_base.specs.Blanks.{is_blank}
use Rattle.message_text.specs.Paragraphs.{subject}
use Rattle.message_text.proofs.CleanLaws.{IsLine, IsLine-lines}

each_from : (p : List ℕ → Bool) (ls : List (List ℕ)) → Each IsLine ls → Each IsLine (from p ls)
each_from p [] h = tt
each_from p (l ∷ ls) h = at (each_from p ls h.1) (p l)
  where
    at : Each IsLine (from p ls) → (t : Bool) → Each IsLine (cond t (l ∷ ls) (from p ls))
    at later true = h
    at later false = later

each_up_to : (p : List ℕ → Bool) (ls : List (List ℕ)) → Each IsLine ls → Each IsLine (up_to p ls)
each_up_to p [] h = tt
each_up_to p (l ∷ ls) h = at (each_up_to p ls h.1) (p l)
  where
    at : Each IsLine (up_to p ls) → (t : Bool) → Each IsLine (cond t [] (l ∷ up_to p ls))
    at later true = tt
    at later false = (h.0, later)

-- a line without what stands at its end is one
shorter : (p : ℕ → Bool) (l : List ℕ) → IsLine l → IsLine (without_end p l)
shorter p [] h = tt
shorter p (b ∷ l) h = at (shorter p l h.1) (list_all p (b ∷ l))
  where
    at : IsLine (without_end p l) → (t : Bool) → IsLine (cond t [] (b ∷ without_end p l))
    at later true = tt
    at later false = (h.0, later)

each_shorter : (ls : List (List ℕ)) → Each IsLine ls → Each IsLine (map (without_end is_blank) ls)
each_shorter [] h = tt
each_shorter (l ∷ ls) h = (shorter is_blank l h.0, each_shorter ls h.1)

together : (a b : List ℕ) → IsLine a → IsLine b → IsLine (a ++ b)
together [] b h k = k
together (c ∷ a) b h k = (h.0, together a b h.1 k)

joined : (ls : List (List ℕ)) → Each IsLine ls → IsLine (join_with_byte 32 ls)
joined [] h = tt
joined (l ∷ []) h = h.0
joined (l ∷ m ∷ ls) h = together l (32 ∷ join_with_byte 32 (m ∷ ls)) h.0 (refl, joined (m ∷ ls) h.1)

pub subject_line : (message : List ℕ) → IsLine (subject message)
unfolding subject
subject_line message = joined _ (each_shorter _ (each_up_to is_empty _ (each_from has_some (lines message) (IsLine-lines message))))

pub plain : (l : List ℕ) → IsLine l → list_all (λ b. not (b == 10)) l ≡ true
plain [] h = refl
plain (b ∷ l) h = and_from (not (b == 10)) (list_all (λ c. not (c == 10)) l) (let is : (b == 10) ≡ false = h.0 in rw is refl) (plain l h.1)
