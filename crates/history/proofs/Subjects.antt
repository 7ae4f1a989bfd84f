-- A subject is one line.
use Rattle.std.proofs.Common.{◌≡◌, ℕ, Bool, true, false, cond, not, ◌==◌, List, [], ◌∷◌, ◌++◌, map, refl, sym, ap, subst, ◌∙◌}
use Rattle.std.specs.List.{list_all, onto_first, join_with_byte}
use Rattle.std.proofs.lemmas.Bool.{and_from, and_parts}
use Rattle.std.proofs.lemmas.List.Folds.{list_all-append}
use Rattle.std.proofs.lemmas.List.Elements.{All-cons, All-head, All-nil, All-push, All-tail}
use Rattle.merge_base.specs.declared.graph.Node.{Node}
use Rattle.merge_base.specs.Graphs.{HasPlainSubjects, IsPlain}
use Rattle.message_text.specs.Lines.{from, has_some, is_empty, lines, up_to, without_blanks, without_end}
use Rattle.message_text.specs.Paragraphs.{first_paragraph, subject}

abbrev ArePlain : List (List ℕ) → Type 0
ArePlain [] = Unit {0}
ArePlain (l ∷ ls) = IsPlain l × ArePlain ls

onto_plain : (b : ℕ) (ls : List (List ℕ)) → (b == 10) ≡ false → ArePlain ls → ArePlain (onto_first b ls)
onto_plain b [] other h = (and_from (not (b == 10)) true (ap not other) refl, tt)
onto_plain b (l ∷ ls) other h = (and_from (not (b == 10)) _ (ap not other) h.0, h.1)

lines_plain : (text : List ℕ) → ArePlain (lines text)
lines_plain [] = (refl, tt)
lines_plain (b ∷ text) = at (lines_plain text) (b == 10) refl
  where
    at : ArePlain (lines text) → (t : Bool) → (b == 10) ≡ t → ArePlain (cond t ([] ∷ lines text) (onto_first b (lines text)))
    at rest true e = (refl, rest)
    at rest false e = onto_plain b (lines text) e rest

up_to_plain : (p : List ℕ → Bool) (ls : List (List ℕ)) → ArePlain ls → ArePlain (up_to p ls)
up_to_plain p [] h = tt
up_to_plain p (l ∷ ls) h = at (up_to_plain p ls h.1) (p l)
  where
    at : ArePlain (up_to p ls) → (t : Bool) → ArePlain (cond t [] (l ∷ up_to p ls))
    at rest true = tt
    at rest false = (h.0, rest)

from_plain : (p : List ℕ → Bool) (ls : List (List ℕ)) → ArePlain ls → ArePlain (from p ls)
from_plain p [] h = tt
from_plain p (l ∷ ls) h = at (from_plain p ls h.1) (p l)
  where
    at : ArePlain (from p ls) → (t : Bool) → ArePlain (cond t (l ∷ ls) (from p ls))
    at rest true = h
    at rest false = rest

end_plain : (p : ℕ → Bool) (l : List ℕ) → IsPlain l → IsPlain (without_end p l)
end_plain p [] h = refl
end_plain p (x ∷ xs) h = at (end_plain p xs parts.1) (list_all p (x ∷ xs))
  where
    parts : (not (x == 10) ≡ true) × (list_all (λ b. not (b == 10)) xs ≡ true)
    parts = and_parts (not (x == 10)) (list_all (λ b. not (b == 10)) xs) h

    at : IsPlain (without_end p xs) → (t : Bool) → IsPlain (cond t [] (x ∷ without_end p xs))
    at rest true = refl
    at rest false = and_from _ _ parts.0 rest

ends_plain : (ls : List (List ℕ)) → ArePlain ls → ArePlain (map without_blanks ls)
ends_plain [] h = tt
ends_plain (l ∷ ls) h = (end_plain _ l h.0, ends_plain ls h.1)

joined_plain : (ls : List (List ℕ)) → ArePlain ls → IsPlain (join_with_byte 32 ls)
joined_plain [] h = refl
joined_plain (l ∷ []) h = h.0
joined_plain (l ∷ m ∷ ls) h = list_all-append (λ b. not (b == 10)) l (32 ∷ join_with_byte 32 (m ∷ ls)) ∙ and_from _ _ h.0 (joined_plain (m ∷ ls) h.1)

pub subject_plain : (text : List ℕ) → IsPlain (subject text)
unfolding subject
subject_plain text =
    joined_plain (map without_blanks (first_paragraph (lines text))) (ends_plain (first_paragraph (lines text)) (up_to_plain is_empty (from has_some (lines text)) (from_plain has_some (lines text) (lines_plain text))))

-- ---- the subjects of commits

pub none_plain : HasPlainSubjects []
none_plain = record { each = All-nil (λ node. IsPlain node.subject) }

pub more_plain : (graph : List Node) (node : Node) → HasPlainSubjects graph → IsPlain node.subject → HasPlainSubjects (graph ++ node ∷ [])
more_plain graph node h one = record { each = All-push (λ (n : Node). IsPlain n.subject) graph node h.each one }

less_plain : (graph : List Node) (node : Node) → HasPlainSubjects (graph ++ node ∷ []) → HasPlainSubjects graph × IsPlain node.subject
less_plain [] node h = (none_plain, All-head (λ (n : Node). IsPlain n.subject) node [] h.each)
less_plain (other ∷ graph) node h =
    let rest = less_plain graph node (record { each = All-tail (λ (n : Node). IsPlain n.subject) other (graph ++ node ∷ []) h.each }) in
    (record { each = All-cons (λ (n : Node). IsPlain n.subject) other graph (All-head (λ (n : Node). IsPlain n.subject) other (graph ++ node ∷ []) h.each) rest.0.each }, rest.1)

pub last_plain : (graph : List Node) (node : Node) → HasPlainSubjects (graph ++ node ∷ []) → IsPlain node.subject
last_plain graph node h = let p = less_plain graph node h in p.1

pub front_plain : (graph : List Node) (node : Node) → HasPlainSubjects (graph ++ node ∷ []) → HasPlainSubjects graph
front_plain graph node h = let p = less_plain graph node h in p.0

pub pushed_plain : (items pushed more : List Node) (node : Node) → pushed ≡ items → more ≡ pushed ++ node ∷ [] → HasPlainSubjects items
    → IsPlain node.subject → HasPlainSubjects more
pushed_plain items pushed more node same at h one =
    subst HasPlainSubjects (sym (at ∙ ap (λ (ns : List Node). ns ++ node ∷ []) same)) (more_plain items node h one)
