-- The text that is written of a line spells that line.
use Rattle.std.proofs.Common.{◌≡◌, ◌⊎◌, ℕ, ◌-◌, Bool, true, false, List, [], ◌∷◌, ◌++◌, length, get_or, take, drop, refl, sym, ap, ◌∙◌, subst, arith, append_assoc, length-append, inl, inr, ⊎_elim}
use Rattle.std.specs.Prelude.{◌||◌, ◌==◌, not, codes, All}
use Rattle.std.specs.List.{slice_split, starts_with}
use Rattle.std.specs.Str.Lines.{lines, lines_of_parts, strip_carriage_return}
use Rattle.std.proofs.lemmas.Bool.{cases_Bool, cond-true, cond-false, and_parts, not-true, MatchBool-at_true, MatchBool-at_false}
use Rattle.std.proofs.lemmas.List.{append-nil}
use Rattle.std.proofs.lemmas.List.Elements.{All-nil, All-cons}
use Rattle.std.proofs.lemmas.List.Splits.{slice_split_at, length-slice_split}
use Rattle.std.proofs.Math.Seq.{take-append_seam, get_or-append_seam}
use Rattle.todo_text.specs.declared.line.Line.{Line}
use Rattle.todo_text.specs.declared.line.Line.TheVariants.{Pick, Exec, Break, Noop, Label, Reset, Merge, UpdateRef}
use Rattle.todo_text.specs.declared.line.PickKind.{PickKind}
use Rattle.todo_text.specs.declared.line.PickKind.TheVariants as kind
use Rattle.todo_text.specs.Words.{unmarked}
use Rattle.todo_text.specs.Spells.{IsWord, begins_blank, ends_blank, BeginsAll, Leads, Trims, IsNote, IsMergeNote, command_word, arguments, Ends, HasNoFeed, is_fit, Spells, IsSpelled, pick_word, spaced, note_text, ending, text_of, ends_in_return, line_end, canonical}
use Rattle.todo_text.specs.Todos.{is_comment, counts, may_stand, SpellAll, todo_text}
use Rattle.todo_text.proofs.LineLemmas.{is_feed, first_of_parts}
use Rattle.todo_text.proofs.TodoLaws.{parts_feed, both_feed, drop_feed, match_false}

-- ---- the parts of a text

abbrev AreGood : List (List ℕ) → Type 0
AreGood [] = Unit {0}
AreGood (w ∷ ws) = IsWord w × HasNoFeed w × AreGood ws

record Parts (words : List (List ℕ)) (rest : List ℕ) : Type 0 where
  good : AreGood words
  feed : HasNoFeed rest

parts_of : (words : List (List ℕ)) (text rest : List ℕ) → HasNoFeed text → BeginsAll text words rest → Parts words rest
parts_of [] text rest feed h = record { good = tt; feed = subst HasNoFeed h feed }
parts_of (w ∷ ws) text rest feed h =
    let begins = h.1 in
    let p = parts_feed begins.front (w ++ h.0) (subst HasNoFeed begins.whole feed) in
    let q = parts_feed w h.0 p.1 in
    let later = parts_of ws h.0 rest q.1 h.2 in
    record { good = (begins.is_word, q.0, later.good); feed = later.feed }

-- a note as it is written
record Kept (note : List ℕ) : Type 0 where
  begins : begins_blank note ≡ false
  ends : ends_blank note ≡ false
  feed : HasNoFeed note

trims_kept : (text note : List ℕ) → HasNoFeed text → Trims text note → Kept note
trims_kept text note feed h =
    let p = parts_feed h.front (note ++ h.back) (subst HasNoFeed h.whole feed) in
    let q = parts_feed note h.back p.1 in
    record { begins = h.begins; ends = h.ends; feed = q.0 }

unmarked_feed : (text : List ℕ) → HasNoFeed text → HasNoFeed (unmarked text)
unmarked_feed text feed =
    ⊎_elim
    (λ yes. subst HasNoFeed (sym (cond-true _ (drop 2 text) text yes)) (drop_feed 2 text feed))
    (λ never. subst HasNoFeed (sym (cond-false _ (drop 2 text) text never)) feed)
    (cases_Bool (starts_with (λ a b. a == b) text (codes "# ")))

note_kept : (rest note : List ℕ) → HasNoFeed rest → IsNote rest note → Kept note
note_kept rest note feed h =
    let led = h.leads in
    let p = parts_feed led.front h.marked (subst HasNoFeed led.whole feed) in
    trims_kept (unmarked h.marked) note (unmarked_feed h.marked p.1) h.trims

merge_kept : (rest note : List ℕ) → HasNoFeed rest → IsMergeNote rest note → Kept note
merge_kept rest note feed h =
    ⊎_elim
    (λ none. subst Kept (sym none.1) (record { begins = refl; ends = refl; feed = refl }))
    (λ some.
    let begins = some.1 in
    let p = parts_feed begins.front (codes "#" ++ some.0) (subst HasNoFeed begins.whole feed) in
    let q = parts_feed (codes "#") some.0 p.1 in
    trims_kept some.0 note q.1 some.2)
    h

-- ---- how they are written

whole_trims : (note : List ℕ) → Kept note → Trims note note
whole_trims note k = record { front = []; back = []; before = refl; behind = refl; begins = k.begins; ends = k.ends; whole = sym (append-nil note) }

note_written : (note : List ℕ) → Kept note → IsNote (note_text note) note
note_written [] k = record { marked = []; leads = record { front = []; blanks = refl; begins = refl; whole = refl }; trims = whole_trims [] k }
note_written (b ∷ bs) k =
    record { marked = codes "# " ++ b ∷ bs; leads = record { front = 32 ∷ []; blanks = refl; begins = refl; whole = refl }; trims = whole_trims (b ∷ bs) k }

merge_written : (note : List ℕ) → Kept note → IsMergeNote (note_text note) note
merge_written [] k = inl (refl, refl)
merge_written (b ∷ bs) k =
    inr (
      32 ∷ b ∷ bs,
      record { front = 32 ∷ []; blanks = refl; is_word = (refl, refl); apart = inr refl; whole = refl },
      record { front = 32 ∷ []; back = []; before = refl; behind = refl; begins = k.begins; ends = k.ends; whole = ap (λ (t : List ℕ). 32 ∷ t) (sym (append-nil (b ∷ bs))) },
    )

note_feed : (note : List ℕ) → Kept note → HasNoFeed (note_text note)
note_feed [] k = refl
note_feed (b ∷ bs) k = k.feed

record Written (l : Line) : Type 0 where
  ends : Ends l (ending l)
  feed : HasNoFeed (ending l)

leads_feed : (rest text : List ℕ) → HasNoFeed rest → Leads rest text → HasNoFeed text
leads_feed rest text feed h = let p = parts_feed h.front text (subst HasNoFeed h.whole feed) in p.1

ending_written : (l : Line) (rest : List ℕ) → HasNoFeed rest → Ends l rest → Written l
ending_written (Pick k rev note) rest feed h =
    let kept = note_kept rest note feed h in record { ends = note_written note kept; feed = note_feed note kept }
ending_written (Exec command) rest feed h =
    record { ends = (h.0, record { front = 32 ∷ []; blanks = refl; begins = h.1.begins; whole = refl }); feed = leads_feed rest command feed h.1 }
ending_written Break rest feed h = record { ends = refl; feed = refl }
ending_written Noop rest feed h = record { ends = refl; feed = refl }
ending_written (Label name) rest feed h = record { ends = refl; feed = refl }
ending_written (Reset name note) rest feed h =
    let kept = note_kept rest note feed h in record { ends = note_written note kept; feed = note_feed note kept }
ending_written (Merge how head note) rest feed h =
    let kept = merge_kept rest note feed h in record { ends = merge_written note kept; feed = note_feed note kept }
ending_written (UpdateRef name) rest feed h = record { ends = refl; feed = refl }

abbrev Apart : List ℕ → Type 0
Apart rest = (rest ≡ []) ⊎ (begins_blank rest ≡ true)

note_apart : (note : List ℕ) → Apart (note_text note)
note_apart [] = inl refl
note_apart (b ∷ bs) = inr refl

ending_apart : (l : Line) → Apart (ending l)
ending_apart (Pick k rev note) = note_apart note
ending_apart (Exec command) = inr refl
ending_apart Break = inl refl
ending_apart Noop = inl refl
ending_apart (Label name) = inl refl
ending_apart (Reset name note) = note_apart note
ending_apart (Merge how head note) = note_apart note
ending_apart (UpdateRef name) = inl refl

words_apart : (ws : List (List ℕ)) (end : List ℕ) → Apart end → Apart (spaced ws ++ end)
words_apart [] end h = h
words_apart (w ∷ ws) end h = inr refl

words_written : (ws : List (List ℕ)) (end : List ℕ) → AreGood ws → Apart end → BeginsAll (spaced ws ++ end) ws end
words_written [] end good apart = refl
words_written (w ∷ ws) end good apart = (
  spaced ws ++ end,
  record { front = 32 ∷ []; blanks = refl; is_word = good.0; apart = words_apart ws end apart; whole = ap (λ (t : List ℕ). 32 ∷ t) (append_assoc w (spaced ws) end) },
  words_written ws end good.2 apart,
)

words_feed : (ws : List (List ℕ)) → AreGood ws → HasNoFeed (spaced ws)
words_feed [] good = refl
words_feed (w ∷ ws) good = both_feed w (spaced ws) good.1 (words_feed ws good.2)

pick_good : (k : PickKind) → IsWord (pick_word k) × HasNoFeed (pick_word k)
pick_good kind.Pick = ((refl, refl), refl)
pick_good kind.Reword = ((refl, refl), refl)
pick_good kind.Edit = ((refl, refl), refl)
pick_good kind.Squash = ((refl, refl), refl)
pick_good kind.Fixup = ((refl, refl), refl)
pick_good kind.FixupKeep = ((refl, refl), refl)
pick_good kind.FixupEdit = ((refl, refl), refl)
pick_good kind.Drop = ((refl, refl), refl)
pick_good kind.Revert = ((refl, refl), refl)

command_good : (l : Line) → IsWord (command_word l) × HasNoFeed (command_word l)
command_good (Pick k rev note) = pick_good k
command_good (Exec command) = ((refl, refl), refl)
command_good Break = ((refl, refl), refl)
command_good Noop = ((refl, refl), refl)
command_good (Label name) = ((refl, refl), refl)
command_good (Reset name note) = ((refl, refl), refl)
command_good (Merge how head note) = ((refl, refl), refl)
command_good (UpdateRef name) = ((refl, refl), refl)

written_spells : (l : Line) → AreGood (arguments l) → Written l → is_fit l ≡ true → Spells l (text_of l)
unfolding text_of
written_spells l good written fit =
    let word = command_good l in
    record {
      one_line =
          both_feed (command_word l) (spaced (arguments l) ++ ending l) word.1 (both_feed (spaced (arguments l)) (ending l) (words_feed (arguments l) good) written.feed);
      command = command_word l;
      named = inl refl;
      rest = ending l;
      words = (
        spaced (arguments l) ++ ending l,
        record { front = []; blanks = refl; is_word = word.0; apart = words_apart (arguments l) (ending l) (ending_apart l); whole = refl },
        words_written (arguments l) (ending l) good (ending_apart l),
      );
      ends = written.ends;
      fit = fit;
    }

pub text_spells : (l : Line) (text : List ℕ) → Spells l text → Spells l (text_of l)
text_spells l text h =
    let p = parts_of (h.command ∷ arguments l) text h.rest h.one_line h.words in
    written_spells l p.good.2 (ending_written l h.rest p.feed h.ends) h.fit

-- ---- lines that are built, each of which has a text

-- a word in one line
pub record IsGoodWord (w : List ℕ) : Type 0 where
  pub word : IsWord w
  pub feed : HasNoFeed w

-- a note in one line, with no blank at its ends
pub record IsGoodNote (note : List ℕ) : Type 0 where
  pub begins : begins_blank note ≡ false
  pub ends : ends_blank note ≡ false
  pub feed : HasNoFeed note

kept_note : (note : List ℕ) → IsGoodNote note → Kept note
kept_note note h = record { begins = h.begins; ends = h.ends; feed = h.feed }

built : (l : Line) → AreGood (arguments l) → Written l → is_fit l ≡ true → IsSpelled l
built l good written fit = record { text = text_of l; spells = written_spells l good written fit }

pub noop_spelled : IsSpelled Noop
noop_spelled = built Noop tt (record { ends = refl; feed = refl }) refl

pub pick_spelled : (rev note : List ℕ) → IsGoodWord rev → IsGoodNote note → IsSpelled (Pick kind.Pick rev note)
pick_spelled rev note w n =
    let kept = kept_note note n in
    built (Pick kind.Pick rev note) (w.word, w.feed, tt) (record { ends = note_written note kept; feed = note_feed note kept }) refl

-- ---- lines of what is written

no_comment : (l : Line) → is_comment (text_of l) ≡ false
unfolding text_of
no_comment (Pick kind.Pick rev note) = refl
no_comment (Pick kind.Reword rev note) = refl
no_comment (Pick kind.Edit rev note) = refl
no_comment (Pick kind.Squash rev note) = refl
no_comment (Pick kind.Fixup rev note) = refl
no_comment (Pick kind.FixupKeep rev note) = refl
no_comment (Pick kind.FixupEdit rev note) = refl
no_comment (Pick kind.Drop rev note) = refl
no_comment (Pick kind.Revert rev note) = refl
no_comment (Exec command) = refl
no_comment Break = refl
no_comment Noop = refl
no_comment (Label name) = refl
no_comment (Reset name note) = refl
no_comment (Merge how head note) = refl
no_comment (UpdateRef name) = refl

all_plain : (text : List ℕ) → HasNoFeed text → All (λ b. is_feed b ≡ false) text
all_plain [] h = All-nil (λ b. is_feed b ≡ false)
all_plain (b ∷ bs) h = let p = and_parts (not (b == 10)) _ h in All-cons (λ b. is_feed b ≡ false) b bs (not-true _ p.0) (all_plain bs p.1)

feed_ends : (text more : List ℕ) → HasNoFeed text → lines (text ++ 10 ∷ more) ≡ strip_carriage_return text ∷ lines more
feed_ends text more h =
    ap lines_of_parts (slice_split_at is_feed text 10 more (all_plain text h) refl)
    ∙ first_of_parts text (slice_split is_feed more) (omega (arith, length-slice_split is_feed more))

stripped : (text : List ℕ) → strip_carriage_return (text ++ 13 ∷ []) ≡ text
stripped text =
    let n : length (text ++ 13 ∷ []) - 1 ≡ length text = omega (arith, length-append text (13 ∷ [])) in
    let last : (get_or (text ++ 13 ∷ []) (length (text ++ 13 ∷ []) - 1) 0 == 13) ≡ true =
    ap (λ k. get_or (text ++ 13 ∷ []) k 0 == 13) n ∙ ap (λ b. b == 13) (get_or-append_seam text 13 [] 0) in
    cond-true _ _ _ last ∙ ap (λ k. take k (text ++ 13 ∷ [])) n ∙ take-append_seam text (13 ∷ [])

ended : (text more : List ℕ) → HasNoFeed text → lines ((text ++ line_end text) ++ more) ≡ text ∷ lines more
ended text more h =
    ⊎_elim
    (λ yes.
    let shape : (text ++ line_end text) ++ more ≡ (text ++ 13 ∷ []) ++ 10 ∷ more =
    ap (λ (e : List ℕ). (text ++ e) ++ more) (cond-true (ends_in_return text) (13 ∷ 10 ∷ []) (10 ∷ []) yes) ∙ append_assoc text (13 ∷ 10 ∷ []) more ∙ sym (append_assoc text (13 ∷ []) (10 ∷ more)) in
    ap lines shape ∙ feed_ends (text ++ 13 ∷ []) more (both_feed text (13 ∷ []) h refl) ∙ ap (λ (t : List ℕ). t ∷ lines more) (stripped text))
    (λ never.
    let shape : (text ++ line_end text) ++ more ≡ text ++ 10 ∷ more =
    ap (λ (e : List ℕ). (text ++ e) ++ more) (cond-false (ends_in_return text) (13 ∷ 10 ∷ []) (10 ∷ []) never) ∙ append_assoc text (10 ∷ []) more in
    ap lines shape ∙ feed_ends text more h ∙ ap (λ (t : List ℕ). t ∷ lines more) (cond-false (ends_in_return text) (take (length text - 1) text) text never))
    (cases_Bool (ends_in_return text))

canonical_line : (l : Line) (text more : List ℕ) → Spells l text → lines (canonical l ++ more) ≡ text_of l ∷ lines more
unfolding canonical
canonical_line l text more h = let s = text_spells l text h in ended (text_of l) more s.one_line

line_first : (earlier : Bool) (l : Line) (text more : List ℕ) (later : List Line) → Spells l text → may_stand earlier l ≡ true
    → SpellAll (earlier || counts l) (lines more) later → SpellAll earlier (lines (canonical l ++ more)) (l ∷ later)
line_first earlier l text more later h may rest =
    let P : List (List ℕ) → Type 0 = λ ts. SpellAll earlier ts (l ∷ later) in
    subst P (sym (canonical_line l text more h)) (match_false (is_comment (text_of l)) _ _ (no_comment l) (l, later, refl, text_spells l text h, may, rest))

-- one line that is written
pub line_alone : (l : Line) (text : List ℕ) → Spells l text → SpellAll true (lines (canonical l)) (l ∷ [])
line_alone l text h =
    let P : List ℕ → Type 0 = λ t. SpellAll true (lines t) (l ∷ []) in
    subst P (append-nil (canonical l)) (line_first true l text [] [] h refl refl)

respelled : (texts : List (List ℕ)) (earlier : Bool) (ls : List Line) → SpellAll earlier texts ls → SpellAll earlier (lines (todo_text ls)) ls
respelled [] earlier ls h = let P : List Line → Type 0 = λ ls. SpellAll earlier (lines (todo_text ls)) ls in subst P (sym h) refl
respelled (text ∷ texts) earlier ls h =
    ⊎_elim
    (λ yes. respelled texts earlier ls (MatchBool-at_true _ _ yes h))
    (λ never.
    let s = MatchBool-at_false _ _ never h in
    let P : List Line → Type 0 = λ ls. SpellAll earlier (lines (todo_text ls)) ls in
    subst P (sym s.2) (line_first earlier s.0 text (todo_text s.1) s.1 s.3 s.4 (respelled texts (earlier || counts s.0) s.1 s.5)))
    (cases_Bool (is_comment text))

-- a todo that is written again
pub todo_respelled : (bytes : List ℕ) (earlier : Bool) (ls : List Line) → SpellAll earlier (lines bytes) ls
    → SpellAll earlier (lines (todo_text ls)) ls
todo_respelled bytes earlier ls h = respelled (lines bytes) earlier ls h

-- what is written piece by piece
pub written_alone : (l : Line) (front text whole : List ℕ) → IsSpelled l → front ≡ command_word l
    → text ≡ front ++ (spaced (arguments l) ++ ending l) → whole ≡ text ++ line_end text → SpellAll true (lines whole) (l ∷ [])
unfolding canonical text_of
written_alone l front text whole h e f g =
    let P : List ℕ → Type 0 = λ t. SpellAll true (lines t) (l ∷ []) in
    let text_is : text ≡ text_of l = f ∙ ap (λ (t : List ℕ). t ++ (spaced (arguments l) ++ ending l)) e in
    subst P (sym (g ∙ ap (λ (t : List ℕ). t ++ line_end t) text_is)) (line_alone l h.text h.spells)
