-- The todo of lines that are each spelled reads as these lines.
use Rattle.std.proofs.Common.{◌≡◌, ◌∙◌, ℕ, ◌<◌, Bool, true, false, cond, List, [], ◌∷◌, ◌++◌, length, map, refl, sym, ap, subst, append_assoc, length-append, arith}
use Rattle.std.specs.Prelude.{All, MatchBool}
use Rattle.std.specs.List.{onto_first, slice_split}
use Rattle.std.specs.Str.Lines.{lines, lines_of_parts, strip_carriage_return}
use Rattle.std.proofs.lemmas.List.{append-nil}
use Rattle.std.proofs.lemmas.List.Elements.{All-head, All-tail}
use Rattle.std.proofs.lemmas.List.Splits.{length-slice_split}
use Rattle.todo_text.specs.declared.line.Line.{Line}
use Rattle.todo_text.specs.Spells.{IsSpelled, Spells, canonical, ends_in_return, text_of}
use Rattle.todo_text.specs.Todos.{SpellAll, is_comment, may_stand, todo_text}
use Rattle.todo_text.proofs.LineLemmas.{first_of_parts, is_feed}
use Rattle.todo_text.proofs.TextLaws.{line_alone}

-- ---- the lines of two texts, the first of which ends its last line

onto_both : (b : ℕ) (ps qs : List (List ℕ)) → 0 < length ps → onto_first b (ps ++ qs) ≡ onto_first b ps ++ qs
onto_both b [] qs some = absurd (omega arith)
onto_both b (p ∷ ps) qs some = refl

split_seam : (a more : List ℕ) → slice_split is_feed (a ++ 10 ∷ more) ≡ slice_split is_feed a ++ slice_split is_feed more
split_seam [] more = refl
split_seam (b ∷ a) more = at (is_feed b) (split_seam a more)
  where
    at : (v : Bool) → slice_split is_feed (a ++ 10 ∷ more) ≡ slice_split is_feed a ++ slice_split is_feed more
        → cond v ([] ∷ slice_split is_feed (a ++ 10 ∷ more)) (onto_first b (slice_split is_feed (a ++ 10 ∷ more)))
        ≡ cond v ([] ∷ slice_split is_feed a) (onto_first b (slice_split is_feed a)) ++ slice_split is_feed more
    at true later = ap (λ (ps : List (List ℕ)). [] ∷ ps) later
    at false later =
        ap (onto_first b) later ∙ onto_both b (slice_split is_feed a) (slice_split is_feed more) (omega (arith, length-slice_split is_feed a))

parts_seam : (ps qs : List (List ℕ)) → 0 < length qs → lines_of_parts (ps ++ qs) ≡ map strip_carriage_return ps ++ lines_of_parts qs
parts_seam [] qs some = refl
parts_seam (p ∷ ps) qs some =
    first_of_parts p (ps ++ qs) (omega (arith, length-append ps qs))
    ∙ ap (λ (ls : List (List ℕ)). strip_carriage_return p ∷ ls) (parts_seam ps qs some)

lines_seam : (a more : List ℕ) → lines (a ++ 10 ∷ more) ≡ map strip_carriage_return (slice_split is_feed a) ++ lines more
lines_seam a more =
    ap lines_of_parts (split_seam a more)
    ∙ parts_seam (slice_split is_feed a) (slice_split is_feed more) (omega (arith, length-slice_split is_feed more))

lines_both : (a more : List ℕ) → lines ((a ++ 10 ∷ []) ++ more) ≡ lines (a ++ 10 ∷ []) ++ lines more
lines_both a more =
    ap lines (append_assoc a (10 ∷ []) more)
    ∙ lines_seam a more
    ∙ ap (λ (ls : List (List ℕ)). ls ++ lines more) (sym (append-nil (map strip_carriage_return (slice_split is_feed a))) ∙ sym (lines_seam a []))

-- the text of a line ends it
line_before : (l : Line) (more : List ℕ) → lines (canonical l ++ more) ≡ lines (canonical l) ++ lines more
unfolding canonical
line_before l more = at (ends_in_return (text_of l))
  where
    at : (v : Bool)
        → lines ((text_of l ++ cond v (13 ∷ 10 ∷ []) (10 ∷ [])) ++ more) ≡ lines (text_of l ++ cond v (13 ∷ 10 ∷ []) (10 ∷ [])) ++ lines more
    at true =
        let same : text_of l ++ 13 ∷ 10 ∷ [] ≡ (text_of l ++ 13 ∷ []) ++ 10 ∷ [] = sym (append_assoc (text_of l) (13 ∷ []) (10 ∷ [])) in
        let P : List ℕ → Type 0 = λ t. lines (t ++ more) ≡ lines t ++ lines more in
        subst P (sym same) (lines_both (text_of l ++ 13 ∷ []) more)
    at false = lines_both (text_of l) more

-- ---- what they spell

spell_both : (xs ys : List (List ℕ)) (ls ms : List Line) → SpellAll true xs ls → SpellAll true ys ms → SpellAll true (xs ++ ys) (ls ++ ms)
spell_both [] ys ls ms none second = let P : List Line → Type 0 = λ v. SpellAll true ys (v ++ ms) in subst P (sym none) second
spell_both (x ∷ xs) ys ls ms first second = at (is_comment x) (λ later h. spell_both xs ys later ms h second) first
  where
    at : (v : Bool) → ((later : List Line) → SpellAll true xs later → SpellAll true (xs ++ ys) (later ++ ms))
        → MatchBool v (SpellAll true xs ls) ((line : Line) × (later : List Line) × (ls ≡ line ∷ later) × Spells line x × (may_stand true line ≡ true) × SpellAll true xs later)
        → MatchBool v (SpellAll true (xs ++ ys) (ls ++ ms)) ((line : Line) × (later : List Line) × (ls ++ ms ≡ line ∷ later) × Spells line x × (may_stand true line ≡ true) × SpellAll true (xs ++ ys) later)
    at true go h = go ls h
    at false go h = (h.0, h.1 ++ ms, ap (λ (v : List Line). v ++ ms) h.2, h.3, h.4, go h.1 h.5)

pub todo_written : (ls : List Line) → All IsSpelled ls → SpellAll true (lines (todo_text ls)) ls
todo_written [] fits = refl
todo_written (l ∷ ls) fits =
    let is = All-head IsSpelled l ls fits in
    let P : List (List ℕ) → Type 0 = λ ts. SpellAll true ts (l ∷ ls) in
    subst P (sym (line_before l (todo_text ls)))
    (spell_both (lines (canonical l)) (lines (todo_text ls)) (l ∷ []) ls (line_alone l is.text is.spells) (todo_written ls (All-tail IsSpelled l ls fits)))
