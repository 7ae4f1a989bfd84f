-- Autosquash: the words of a subject, the last line of a pick, and that each line stays.
use Rattle.std.proofs.Common.{◌≡◌, ℕ, zero, suc, ◌+◌, ◌-◌, ◌<◌, ◌≤◌, Bool, true, false, cond, ◌||◌, List, [], ◌∷◌, ◌++◌, drop, get_or, insert, length, map, take, Option, Some, None, Result, Ok, Err, refl, sym, ap, subst, ◌∙◌, arith, length-drop, length-take, append_assoc}
use Rattle.std.specs.Prelude.{◌==◌, codes}
use Rattle.std.proofs.Math.Seq.{take-length}
use Rattle.std.specs.List.{list_any}
use Rattle.std.specs.List.Sorted.{IsPermutation}
use Rattle.std.proofs.lemmas.Bool.{eqb-true, or_right}
use Rattle.std.proofs.lemmas.List.{append-nil, take_more}
use Rattle.hex.specs.Hex.{decode_of, is_hex_digit}
use Rattle.hex.specs.declared.FromHexError.{FromHexError}
use Rattle.hex.proofs.HexLemmas.{decode_of-ok}
use Rattle.seq_base.specs.First.{IsFirstFailing}
use Rattle.std.proofs.lemmas.List.Sorted.{IsPermutation-append_left, IsPermutation-insert, IsPermutation-map, IsPermutation-refl, IsPermutation-to_front, IsPermutation-trans}
use Rattle.merge_base.specs.declared.graph.Node.{Node}
use Rattle.todo_text.specs.declared.line.Line.{Line}
use Rattle.todo_text.specs.declared.line.Line.TheVariants.{Pick, Exec, Break, Noop, Label, Reset, Merge, UpdateRef}
use Rattle.todo_text.specs.declared.line.PickKind.{PickKind}
use Rattle.todo_text.specs.declared.line.PickKind.TheVariants as kind
use Rattle.todo_plan.specs.declared.segments.Placed.{Placed}
use Rattle.todo_plan.specs.Autosquash.{Row, Squash, as_pick, autosquashed, begins_with, behind_word, belongs, found_by, node_of, picked, placed_at, placed_with, renamed, rows_with, squash_by, squash_into, squash_kind, squash_of, squashed, target, target_text, up_to_last, without_words, word_length}

-- ---- words

abbrev pub IsSquashKind : PickKind → Type 0
IsSquashKind kind.Pick = ⊥
IsSquashKind kind.Reword = ⊥
IsSquashKind kind.Edit = ⊥
IsSquashKind kind.Squash = Unit {0}
IsSquashKind kind.Fixup = Unit {0}
IsSquashKind kind.FixupKeep = Unit {0}
IsSquashKind kind.FixupEdit = ⊥
IsSquashKind kind.Drop = ⊥
IsSquashKind kind.Revert = ⊥

one_of_three : (a b c : Bool) (k : PickKind) → cond a (Some kind.Fixup) (cond b (Some kind.Squash) (cond c (Some kind.FixupKeep) None)) ≡ Some k
    → IsSquashKind k
one_of_three true b c k e = let is : kind.Fixup ≡ k = cc in subst IsSquashKind is tt
one_of_three false true c k e = let is : kind.Squash ≡ k = cc in subst IsSquashKind is tt
one_of_three false false true k e = let is : kind.FixupKeep ≡ k = cc in subst IsSquashKind is tt
one_of_three false false false k e = absurd cc

pub squash_kind_is : (text : List ℕ) (k : PickKind) → squash_kind text ≡ Some k → IsSquashKind k
squash_kind_is text k e =
    one_of_three (begins_with text (codes "fixup! ")) (begins_with text (codes "squash! ")) (begins_with text (codes "amend! ")) k e

has_length : (k : PickKind) → IsSquashKind k → 0 < word_length k
has_length kind.Pick h = absurd h
has_length kind.Reword h = absurd h
has_length kind.Edit h = absurd h
has_length kind.Squash h = omega arith
has_length kind.Fixup h = omega arith
has_length kind.FixupKeep h = omega arith
has_length kind.FixupEdit h = absurd h
has_length kind.Drop h = absurd h
has_length kind.Revert h = absurd h

pub no_word : (n : ℕ) (text : List ℕ) → squash_kind text ≡ None → without_words n text ≡ text
no_word zero text e = refl
no_word (suc n) text e = ap (λ (k : Option PickKind). without_words n (behind_word k text)) e ∙ no_word n text e

empty_text : (n : ℕ) (text : List ℕ) → length text ≤ 0 → without_words n text ≡ text
empty_text n [] l = no_word n [] refl
empty_text n (b ∷ text) l = absurd (omega arith)

same_words : (n m : ℕ) (text : List ℕ) → length text ≤ n → length text ≤ m → without_words n text ≡ without_words m text
same_words zero m text l r = sym (empty_text m text l)
same_words (suc n) zero text l r = empty_text (suc n) text r
same_words (suc n) (suc m) text l r = at (same_words n m) (squash_kind text) refl
  where
    at : ((t : List ℕ) → length t ≤ n → length t ≤ m → without_words n t ≡ without_words m t) → (k : Option PickKind) → squash_kind text ≡ k
        → without_words (suc n) text ≡ without_words (suc m) text
    at rest None e = no_word (suc n) text e ∙ sym (no_word (suc m) text e)
    at rest (Some k) e =
        let long = has_length k (squash_kind_is text k e) in
        let len = length-drop (word_length k) text in
        ap (λ (w : Option PickKind). without_words n (behind_word w text)) e
        ∙ rest (drop (word_length k) text) (omega (arith, len, long)) (omega (arith, len, long))
        ∙ ap (λ (w : Option PickKind). without_words m (behind_word w text)) (sym e)

-- the words of a text behind its first
next_word : (text : List ℕ) (k : PickKind) → squash_kind text ≡ Some k → word_length k ≤ length text
    → target_text (drop (word_length k) text) ≡ target_text text
next_word text k e fits = sym (at (length text) refl)
  where
    at : (n : ℕ) → length text ≡ n → without_words n text ≡ target_text (drop (word_length k) text)
    at zero is = let long = has_length k (squash_kind_is text k e) in absurd (omega (arith, long, is))
    at (suc n) is =
        let long = has_length k (squash_kind_is text k e) in
        let len = length-drop (word_length k) text in
        ap (λ (w : Option PickKind). without_words n (behind_word w text)) e
        ∙ same_words n (length (drop (word_length k) text)) (drop (word_length k) text) (omega (arith, len, long, is)) (omega arith)

-- the same of the text that is left when that is taken off
pub word_off : (text : List ℕ) (k : PickKind) (n : ℕ) → squash_kind text ≡ Some k → n ≡ word_length k → word_length k ≤ length text
    → target_text (take (length text - n) (drop n text)) ≡ target_text text
word_off text k n e is fits =
    ap target_text (ap (λ (m : ℕ). take m (drop n text)) (sym (length-drop n text)) ∙ take-length (drop n text) ∙ ap (λ (m : ℕ). drop m text) is)
    ∙ next_word text k e fits

-- a text without such a word at its front
pub last_word : (text : List ℕ) → squash_kind text ≡ None → target_text text ≡ text
last_word text e = no_word (length text) text e

-- ---- the last line of a pick

or_false : (t : Bool) → (t || false) ≡ t
or_false true = refl
or_false false = refl

pub none_of : (n : ℕ) (placed : List Placed) → list_any (belongs n) placed ≡ false → up_to_last n placed ≡ 0
none_of n [] e = refl
none_of n (p ∷ placed) e = ap (λ (t : Bool). cond t (up_to_last n placed + 1) 0) e

any_push : (n : ℕ) (placed : List Placed) (p : Placed) → list_any (belongs n) (placed ++ p ∷ []) ≡ (list_any (belongs n) placed || belongs n p)
any_push n [] p = or_false (belongs n p)
any_push n (x ∷ placed) p = at (any_push n placed p) (belongs n x)
  where
    at : list_any (belongs n) (placed ++ p ∷ []) ≡ (list_any (belongs n) placed || belongs n p) → (t : Bool)
        → (t || list_any (belongs n) (placed ++ p ∷ [])) ≡ ((t || list_any (belongs n) placed) || belongs n p)
    at rest true = refl
    at rest false = rest

-- with one that does not belong to it
pub last_stays : (n : ℕ) (placed : List Placed) (p : Placed) → belongs n p ≡ false → up_to_last n (placed ++ p ∷ []) ≡ up_to_last n placed
last_stays n [] p e = ap (λ (t : Bool). cond (t || false) (0 + 1) 0) e
last_stays n (x ∷ placed) p e =
    ap (λ (t : Bool). cond (belongs n x || t) (up_to_last n (placed ++ p ∷ []) + 1) 0) (any_push n placed p ∙ ap (λ (t : Bool). list_any (belongs n) placed || t) e ∙ or_false (list_any (belongs n) placed))
    ∙ ap (λ (m : ℕ). cond (belongs n x || list_any (belongs n) placed) (m + 1) 0) (last_stays n placed p e)

-- with one that does
pub last_is : (n : ℕ) (placed : List Placed) (p : Placed) → belongs n p ≡ true → up_to_last n (placed ++ p ∷ []) ≡ length placed + 1
last_is n [] p e = ap (λ (t : Bool). cond (t || false) (0 + 1) 0) e
last_is n (x ∷ placed) p e =
    let rest = last_is n placed p e in
    ap (λ (t : Bool). cond (belongs n x || t) (up_to_last n (placed ++ p ∷ []) + 1) 0) (any_push n placed p ∙ ap (λ (t : Bool). list_any (belongs n) placed || t) e ∙ or_right (list_any (belongs n) placed) true refl)
    ∙ ap (λ (t : Bool). cond t (up_to_last n (placed ++ p ∷ []) + 1) 0) (or_right (belongs n x) true refl)
    ∙ omega (arith, rest)

pub last_found : (n : ℕ) (placed : List Placed) (end : ℕ) (p : Placed) → 0 < end → end ≤ length placed → p ≡ get_or placed (end - 1) p
    → belongs n p ≡ true → up_to_last n (take end placed) ≡ end
last_found n placed end p some within is on =
    let one : end ≡ end - 1 + 1 = omega arith in
    let before : end - 1 < length placed = omega arith in
    let front = length-take (end - 1) placed in
    ap (λ (k : ℕ). up_to_last n (take k placed)) one ∙ ap (up_to_last n) (take_more placed (end - 1) p before ∙ ap (λ (q : Placed). take (end - 1) placed ++ q ∷ []) (sym is))
    ∙ last_is n (take (end - 1) placed) p on ∙ omega (arith, front)

pub last_before : (n : ℕ) (placed : List Placed) (end : ℕ) (p : Placed) → 0 < end → end ≤ length placed → p ≡ get_or placed (end - 1) p
    → belongs n p ≡ false
    → up_to_last n (take end placed) ≡ up_to_last n (take (end - 1) placed)
last_before n placed end p some within is off =
    let one : end ≡ end - 1 + 1 = omega arith in
    let before : end - 1 < length placed = omega arith in
    ap (λ (k : ℕ). up_to_last n (take k placed)) one ∙ ap (up_to_last n) (take_more placed (end - 1) p before ∙ ap (λ (q : Placed). take (end - 1) placed ++ q ∷ []) (sym is))
    ∙ last_stays n (take (end - 1) placed) p off

-- ---- the commit of a line

unread : (graph : List Node) (rev : List ℕ) (at : ℕ) (r : Result (List ℕ) FromHexError) → IsFirstFailing is_hex_digit rev at → decode_of rev ≡ r
    → found_by graph r ≡ None
unread graph rev at (Ok id) bad is = let good = (decode_of-ok rev id is).1 at 0 bad.within in let fails = bad.fails in absurd cc
unread graph rev at (Err e) bad is = refl

-- digits that are none
pub bad_rev : (graph : List Node) (rev : List ℕ) → (length rev ≡ 40 → (at : ℕ) × IsFirstFailing is_hex_digit rev at) → node_of graph rev ≡ None
bad_rev graph rev bad = at (length rev == 40) refl
  where
    at : (t : Bool) → (length rev == 40) ≡ t → cond t (found_by graph (decode_of rev)) None ≡ None
    at false e = refl
    at true e = let b = bad (eqb-true (length rev) 40 e) in unread graph rev b.0 (decode_of rev) b.1 refl

-- ---- each line stays

abbrev as_placed : Placed → Line
as_placed p = as_pick p.line

map_both : (placed : List Placed) → map as_pick (map (λ p. p.line) placed) ≡ map as_placed placed
map_both [] = refl
map_both (p ∷ placed) = ap (λ (ls : List Line). as_pick p.line ∷ ls) (map_both placed)

map_push : (placed : List Placed) (p : Placed) → map as_placed (placed ++ p ∷ []) ≡ map as_placed placed ++ as_placed p ∷ []
map_push [] p = refl
map_push (x ∷ placed) p = ap (λ (ls : List Line). as_placed x ∷ ls) (map_push placed p)

same_pick : (graph : List Node) (line : Line) (node : Node) (k : PickKind) → picked graph line ≡ Some node → IsSquashKind k
    → as_pick (renamed k line) ≡ as_pick line
same_pick graph (Pick kind.Pick rev note) node kind.Squash e h = refl
same_pick graph (Pick kind.Pick rev note) node kind.Fixup e h = refl
same_pick graph (Pick kind.Pick rev note) node kind.FixupKeep e h = refl
same_pick graph (Pick kind.Pick rev note) node kind.Pick e h = absurd h
same_pick graph (Pick kind.Pick rev note) node kind.Reword e h = absurd h
same_pick graph (Pick kind.Pick rev note) node kind.Edit e h = absurd h
same_pick graph (Pick kind.Pick rev note) node kind.FixupEdit e h = absurd h
same_pick graph (Pick kind.Pick rev note) node kind.Drop e h = absurd h
same_pick graph (Pick kind.Pick rev note) node kind.Revert e h = absurd h
same_pick graph (Pick kind.Reword rev note) node k e h = absurd cc
same_pick graph (Pick kind.Edit rev note) node k e h = absurd cc
same_pick graph (Pick kind.Squash rev note) node k e h = absurd cc
same_pick graph (Pick kind.Fixup rev note) node k e h = absurd cc
same_pick graph (Pick kind.FixupKeep rev note) node k e h = absurd cc
same_pick graph (Pick kind.FixupEdit rev note) node k e h = absurd cc
same_pick graph (Pick kind.Drop rev note) node k e h = absurd cc
same_pick graph (Pick kind.Revert rev note) node k e h = absurd cc
same_pick graph (Exec command) node k e h = absurd cc
same_pick graph Break node k e h = absurd cc
same_pick graph Noop node k e h = absurd cc
same_pick graph (Label name) node k e h = absurd cc
same_pick graph (Reset name note) node k e h = absurd cc
same_pick graph (Merge how head note) node k e h = absurd cc
same_pick graph (UpdateRef name) node k e h = absurd cc

squash_is : (rows : List Row) (subject : List ℕ) (s : Squash) → squash_of rows subject ≡ Some s → IsSquashKind s.0
squash_is rows subject s e = at (squash_kind subject) refl e
  where
    into : (k : PickKind) → IsSquashKind k → (found : Option ℕ) → squash_into k found ≡ Some s → IsSquashKind s.0
    into k h None f = absurd cc
    into k h (Some n) f = let is : k ≡ s.0 = cc in subst IsSquashKind is h

    at : (found : Option PickKind) → squash_kind subject ≡ found → squash_by rows subject found ≡ Some s → IsSquashKind s.0
    at None is f = absurd cc
    at (Some k) is f = into k (squash_kind_is subject k is) (target rows (target_text subject)) f

moved : (graph : List Node) (number : ℕ) (placed : List Placed) (line : Line) (node : Node) (squash : Option Squash) → picked graph line ≡ Some node
    → ((s : Squash) → squash ≡ Some s → IsSquashKind s.0)
    → IsPermutation (map as_placed placed ++ as_pick line ∷ []) (map as_placed (placed_at number placed line squash))
moved graph number placed line node None e h =
    subst (IsPermutation (map as_placed placed ++ as_pick line ∷ [])) (sym (map_push placed (record { line = line; pick = Some number; target = None }))) (IsPermutation-refl (map as_placed placed ++ as_pick line ∷ []))
moved graph number placed line node (Some s) e h =
    let p : Placed = record { line = renamed s.0 line; pick = Some number; target = Some s.1 } in
    let same = same_pick graph line node s.0 e (h s refl) in
    IsPermutation-trans (map as_placed placed ++ as_pick line ∷ []) (as_pick line ∷ map as_placed placed) (map as_placed (insert placed (up_to_last s.1 placed) p))
    (IsPermutation-to_front (map as_placed placed) (as_pick line))
    (subst (λ (l : Line). IsPermutation (l ∷ map as_placed placed) (map as_placed (insert placed (up_to_last s.1 placed) p))) same (IsPermutation-map as_placed (p ∷ placed) (insert placed (up_to_last s.1 placed) p) (IsPermutation-insert placed (up_to_last s.1 placed) p)))

placed_stay : (graph : List Node) (rows : List Row) (placed : List Placed) (line : Line) (found : Option Node) → picked graph line ≡ found
    → IsPermutation (map as_placed placed ++ as_pick line ∷ []) (map as_placed (placed_with rows placed line found))
placed_stay graph rows placed line None e =
    subst (IsPermutation (map as_placed placed ++ as_pick line ∷ [])) (sym (map_push placed (record { line = line; pick = None; target = None }))) (IsPermutation-refl (map as_placed placed ++ as_pick line ∷ []))
placed_stay graph rows placed line (Some node) e =
    moved graph (length rows) placed line node (squash_of rows node.subject) e (squash_is rows node.subject)

all_stay : (graph : List Node) (rows : List Row) (placed : List Placed) (lines : List Line)
    → IsPermutation (map as_placed placed ++ map as_pick lines) (map as_pick (squashed graph rows placed lines))
all_stay graph rows placed [] =
    subst (λ (ls : List Line). IsPermutation ls (map as_pick (map (λ p. p.line) placed))) (map_both placed ∙ sym (append-nil (map as_placed placed))) (IsPermutation-refl (map as_pick (map (λ p. p.line) placed)))
all_stay graph rows placed (line ∷ lines) =
    let found = picked graph line in
    let rest = all_stay graph (rows_with rows found) (placed_with rows placed line found) lines in
    IsPermutation-trans (map as_placed placed ++ as_pick line ∷ map as_pick lines) (map as_placed (placed_with rows placed line found) ++ map as_pick lines) (map as_pick (squashed graph (rows_with rows found) (placed_with rows placed line found) lines))
    (subst (λ (ls : List Line). IsPermutation ls (map as_placed (placed_with rows placed line found) ++ map as_pick lines)) (append_assoc (map as_placed placed) (as_pick line ∷ []) (map as_pick lines))
    (IsPermutation-append_left (map as_pick lines) (map as_placed placed ++ as_pick line ∷ []) (map as_placed (placed_with rows placed line found)) (placed_stay graph rows placed line found refl)))
    rest

pub lines_stay : (graph : List Node) (lines : List Line) → IsPermutation (map as_pick lines) (map as_pick (autosquashed graph lines))
lines_stay graph lines = all_stay graph [] [] lines
