-- Commits that some text spells, and the text that is written of them.
use Rattle.std.proofs.Common.{◌≡◌, ℕ, zero, suc, ◌+◌, ◌<◌, Bool, true, false, cond, not, ◌&&◌, ◌||◌, eqb, List, [], ◌∷◌, ◌++◌, length, take, get_or, drop, map, Option, Some, None, refl, sym, ap, subst, ◌∙◌, append_assoc, arith}
use Rattle.std.specs.Prelude.{codes}
use Rattle.std.specs.List.{AllByRecursion, list_all, flat_map, starts_with}
use Rattle.std.proofs.lemmas.List.{append-nil, take_more}
use Rattle.std.proofs.lemmas.Grind.{flat_map-append}
use Rattle.std.proofs.lemmas.List.Concat.{flat_map-cons}
use Rattle.std.proofs.lemmas.Bool.{eqb-true, ne_eqb}
use Rattle.grammar.proofs.Passing.{and_true}
use Rattle.object_text.specs.declared.commit.Commit.{Commit}
use Rattle.hex.specs.Hex.{IsBytes, encode_lower}
use Rattle.hex.proofs.HexLemmas.{decode_of-encode_lower}
use Rattle.ident_text.specs.declared.ident.Ident.{Ident}
use Rattle.ident_text.specs.Idents.{IsIdent}
use Rattle.ident_text.specs.ReadIdents.{ReadsAsIdent}
use Rattle.ident_text.proofs.IdentLaws.{reads_as}
use Rattle.seq_base.specs.Ids.{SpellsId}
use Rattle.object_text.specs.Commits.{line, is_in_line, is_continuation, is_header_line, AreHeaders, continued, encoding_of, SpellIds, is_header_value, IsEncoding, IsCommit, IsCommitValue, encoding_text, commit_text, with_author}

-- lines that continue a header may stand behind bytes of one line
continued_value : (hs : List (List ℕ)) → list_all is_header_line hs ≡ true
    → (is_header_value (continued hs) ≡ true) × ((a : List ℕ) → list_all is_in_line a ≡ true → is_header_value (a ++ continued hs) ≡ true)
continued_value hs all = (start hs all, λ a plain. plain_value a (continued hs) plain (start hs all))
  where
    plain_value : (a tail : List ℕ) → list_all is_in_line a ≡ true → is_header_value tail ≡ true → is_header_value (a ++ tail) ≡ true
    plain_value [] tail plain rest = rest
    plain_value (b ∷ []) [] plain rest = let k = (and_true (is_in_line b) true plain).0 in k
    plain_value (b ∷ []) (t ∷ tail) plain rest = let k = (and_true (is_in_line b) true plain).0 in rw k rest
    plain_value (b ∷ c ∷ a) tail plain rest =
        let k = and_true (is_in_line b) (list_all is_in_line (c ∷ a)) plain in
        let one = k.0 in
        rw one (plain_value (c ∷ a) tail k.1 rest)

    start : (hs : List (List ℕ)) → list_all is_header_line hs ≡ true → is_header_value (continued hs) ≡ true
    start [] all = refl
    start (h ∷ hs) all =
        at h (and_true (is_header_line h) (list_all is_header_line hs) all) (start hs (and_true (is_header_line h) (list_all is_header_line hs) all).1) (is_continuation h) refl
      where
        at : (h : List ℕ) → (is_header_line h ≡ true) × (list_all is_header_line hs ≡ true) → is_header_value (continued hs) ≡ true → (t : Bool)
            → is_continuation h ≡ t → is_header_value (cond t (10 ∷ (h ++ continued hs)) []) ≡ true
        at h lines later false is = refl
        at [] lines later true is = absurd cc
        at (b ∷ h) lines later true is =
            let k = and_true (list_all is_in_line (b ∷ h)) (not (eqb (length (b ∷ h)) 0)) lines.0 in
            let space = is in
            rw space (plain_value (b ∷ h) (continued hs) k.0 later)

plain_drop : (n : ℕ) (a : List ℕ) → list_all is_in_line a ≡ true → list_all is_in_line (drop n a) ≡ true
plain_drop zero a plain = plain
plain_drop (suc n) [] plain = refl
plain_drop (suc n) (b ∷ a) plain = plain_drop n a (and_true (is_in_line b) (list_all is_in_line a) plain).1

encoding_value : (hs : List (List ℕ)) → list_all is_header_line hs ≡ true → IsEncoding (encoding_of hs)
encoding_value [] all = tt
encoding_value (h ∷ hs) all =
    let k = and_true (is_header_line h) (list_all is_header_line hs) all in
    at (starts_with eqb h (codes "encoding ")) (and_true (list_all is_in_line h) (not (eqb (length h) 0)) k.0).0 k.1 (encoding_value hs k.1)
  where
    at : (t : Bool) → list_all is_in_line h ≡ true → list_all is_header_line hs ≡ true → IsEncoding (encoding_of hs)
        → IsEncoding (cond t (Some (drop 9 h ++ continued hs)) (encoding_of hs))
    at true plain lines later = (continued_value hs lines).1 (drop 9 h) (plain_drop 9 h plain)
    at false plain lines later = later

lines_all : (hs : List (List ℕ)) → AreHeaders hs → list_all is_header_line hs ≡ true
lines_all [] are = refl
lines_all (h ∷ hs) are = are.1

-- what some text spells can be written
pub value_of : (c : Commit) (bytes : List ℕ) → IsCommit c bytes → IsCommitValue c
value_of c bytes g = record {
  author = g.is_author;
  committer = g.is_committer;
  encoding = subst IsEncoding (sym g.encoding_is) (encoding_value g.headers (lines_all g.headers g.are_headers));
}

-- ---- the lines of a header's value

-- the first line of a value, and those that continue it
first_of : List ℕ → List ℕ
first_of [] = []
first_of (b ∷ v) = cond (eqb b 10) [] (b ∷ first_of v)

rest_of : List ℕ → List (List ℕ)
rest_of [] = []
rest_of (b ∷ v) = cond (eqb b 10) (first_of v ∷ rest_of v) (rest_of v)

-- each line behind a line feed
joined : List (List ℕ) → List ℕ
joined [] = []
joined (l ∷ ls) = 10 ∷ (l ++ joined ls)

value_joined : (v : List ℕ) → v ≡ first_of v ++ joined (rest_of v)
unfolding first_of rest_of joined
value_joined [] = refl
value_joined (b ∷ v) = at (eqb b 10) refl (value_joined v)
  where
    at : (t : Bool) → eqb b 10 ≡ t → v ≡ first_of v ++ joined (rest_of v)
        → b ∷ v ≡ cond t [] (b ∷ first_of v) ++ joined (cond t (first_of v ∷ rest_of v) (rest_of v))
    at true is e = let same = eqb-true b 10 is in ap (λ (c : ℕ). c ∷ v) same ∙ ap (λ (t : List ℕ). 10 ∷ t) e
    at false is e = ap (λ (t : List ℕ). b ∷ t) e

first_plain : (v : List ℕ) → list_all is_in_line (first_of v) ≡ true
unfolding first_of
first_plain [] = refl
first_plain (b ∷ v) = at (eqb b 10) refl (first_plain v)
  where
    at : (t : Bool) → eqb b 10 ≡ t → list_all is_in_line (first_of v) ≡ true → list_all is_in_line (cond t [] (b ∷ first_of v)) ≡ true
    at true is e = refl
    at false is e = rw is e

not_zero : (n : ℕ) → eqb (suc n) 0 ≡ false
not_zero n = ne_eqb (suc n) 0 (λ e. absurd (omega arith))

both_true : (a b : Bool) → a ≡ true → b ≡ true → (a && b) ≡ true
both_true a b p q = rw (p, q) refl

-- lines that continue one are headers' lines
record AreContinued (ls : List (List ℕ)) : Type 0 where
  all : list_all is_header_line ls ≡ true
  same : continued ls ≡ joined ls

rest_continued : (v : List ℕ) → is_header_value v ≡ true → AreContinued (rest_of v)
unfolding first_of rest_of joined
rest_continued [] good = record { all = refl; same = refl }
rest_continued (b ∷ []) good = at (eqb b 10) refl good
  where
    at : (t : Bool) → eqb b 10 ≡ t → not t ≡ true → AreContinued (cond t ([] ∷ []) [])
    at true is off = absurd cc
    at false is off = record { all = refl; same = refl }
rest_continued (b ∷ c ∷ v) good =
    let k = and_true (not (eqb b 10) || eqb c 32) (is_header_value (c ∷ v)) good in
    at (eqb b 10) k.0 (rest_continued (c ∷ v) k.1)
  where
    line_of : c ≡ 32 → (is_header_line (cond (eqb c 10) [] (c ∷ first_of v)) ≡ true) × (is_continuation (cond (eqb c 10) [] (c ∷ first_of v)) ≡ true)
    line_of is =
        let plain = first_plain v in
        let some = not_zero (length (first_of v)) in
        rw (is, plain, some) (refl, refl)

    at : (t : Bool) → (not t || eqb c 32) ≡ true → AreContinued (rest_of (c ∷ v))
        → AreContinued (cond t (first_of (c ∷ v) ∷ rest_of (c ∷ v)) (rest_of (c ∷ v)))
    at true space later =
        let l = line_of (eqb-true c 32 space) in
        let one = l.0 in
        let on = l.1 in
        record { all = rw one later.all; same = rw on (ap (λ (t : List ℕ). 10 ∷ (first_of (c ∷ v) ++ t)) later.same) }
    at false space later = later

lines_joined : (ls : List (List ℕ)) → 10 ∷ flat_map line ls ≡ joined ls ++ 10 ∷ []
unfolding joined
lines_joined [] = refl
lines_joined (l ∷ ls) =
    ap (λ (t : List ℕ). 10 ∷ t) (flat_map-cons line l ls ∙ append_assoc l (10 ∷ []) (flat_map line ls) ∙ ap (λ (t : List ℕ). l ++ t) (lines_joined ls) ∙ sym (append_assoc l (joined ls) (10 ∷ [])))

-- what hex digits say of an id
pub spells_lower : (id digits : List ℕ) → IsBytes id → length digits ≡ 40 → digits ≡ encode_lower id → SpellsId id (encode_lower id)
spells_lower id digits bytes forty is = record { forty = ap length (sym is) ∙ forty; bytes = decode_of-encode_lower id bytes }

spell_all : (ids : List (List ℕ)) → AllByRecursion (λ id. SpellsId id (encode_lower id)) ids → SpellIds ids (map encode_lower ids)
spell_all [] all = tt
spell_all (id ∷ ids) all = (all.0, spell_all ids all.1)

parent_lines : (ids : List (List ℕ))
    → flat_map (λ parent. line (codes "parent " ++ encode_lower parent)) ids ≡ flat_map (λ parent. line (codes "parent " ++ parent)) (map encode_lower ids)
parent_lines [] = refl
parent_lines (id ∷ ids) =
    flat_map-cons (λ parent. line (codes "parent " ++ encode_lower parent)) id ids ∙ ap (λ (t : List ℕ). line (codes "parent " ++ encode_lower id) ++ t) (parent_lines ids)
    ∙ sym (flat_map-cons (λ parent. line (codes "parent " ++ parent)) (encode_lower id) (map encode_lower ids))

-- the headers that are written
record Written (encoding : Option (List ℕ)) : Type 0 where
  headers : List (List ℕ)
  are_headers : AreHeaders headers
  encoding_is : encoding ≡ encoding_of headers
  text_is : encoding_text encoding ≡ flat_map line headers

written : (encoding : Option (List ℕ)) → IsEncoding encoding → Written encoding
written None good = record { headers = []; are_headers = tt; encoding_is = refl; text_is = refl }
written (Some v) good =
    let rest = rest_continued v good in
    let plain = first_plain v in
    let all = rest.all in
    let value : v ≡ first_of v ++ continued (rest_of v) = value_joined v ∙ ap (λ (t : List ℕ). first_of v ++ t) (sym rest.same) in
    record {
      headers = (codes "encoding " ++ first_of v) ∷ rest_of v;
      are_headers =
          (refl, both_true (is_header_line (codes "encoding " ++ first_of v)) (list_all is_header_line (rest_of v)) (both_true (list_all is_in_line (codes "encoding " ++ first_of v)) (not (eqb (length (codes "encoding " ++ first_of v)) 0)) plain (ap not (not_zero _))) all);
      encoding_is = ap (λ (t : List ℕ). Some t) value;
      text_is =
          ap (λ (t : List ℕ). line (codes "encoding " ++ t)) (value_joined v) ∙ regroup (first_of v) (joined (rest_of v))
          ∙ ap (λ (t : List ℕ). (codes "encoding " ++ first_of v) ++ t) (sym (lines_joined (rest_of v)))
          ∙ sym (append_assoc (codes "encoding " ++ first_of v) (10 ∷ []) (flat_map line (rest_of v))) ∙ sym (flat_map-cons line (codes "encoding " ++ first_of v) (rest_of v));
    }
  where
    regroup : (a b : List ℕ) → line (codes "encoding " ++ (a ++ b)) ≡ (codes "encoding " ++ a) ++ (b ++ 10 ∷ [])
    regroup a b = simp append_assoc

-- the text that is written is the commit's
pub commit_written : (c : Commit) (text : List ℕ) → IsCommitValue c → SpellsId c.tree (encode_lower c.tree)
    → AllByRecursion (λ id. SpellsId id (encode_lower id)) c.parents → text ≡ commit_text c → IsCommit c text
commit_written c text value tree parents e =
    let w = written c.encoding value.encoding in
    let lines = parent_lines c.parents in
    let encoding = w.text_is in
    record {
      tree = encode_lower c.tree;
      parents = map encode_lower c.parents;
      headers = w.headers;
      is_tree = tree;
      are_parents = spell_all c.parents parents;
      is_author = value.author;
      is_committer = value.committer;
      are_headers = w.are_headers;
      encoding_is = w.encoding_is;
      text_is = e ∙ rw (lines, encoding) refl;
    }

-- ---- the loop over the parents, and the parts one behind the other

abbrev parent_line : List ℕ → List ℕ
parent_line parent = line (codes "parent " ++ encode_lower parent)

pub parent_more : (now out old : List ℕ) (ids : List (List ℕ)) (i : ℕ) (id : List ℕ) → i < length ids → id ≡ get_or ids i id
    → now ≡ out ++ line (codes "parent " ++ encode_lower id)
    → out ≡ old ++ flat_map (λ parent. line (codes "parent " ++ encode_lower parent)) (take i ids)
    → now ≡ old ++ flat_map (λ parent. line (codes "parent " ++ encode_lower parent)) (take (i + 1) ids)
parent_more now out old ids i id lt is step before =
    let more : take (i + 1) ids ≡ take i ids ++ id ∷ [] = take_more ids i id lt ∙ ap (λ (x : List ℕ). take i ids ++ x ∷ []) (sym is) in
    let last : flat_map parent_line (id ∷ []) ≡ parent_line id = flat_map-cons parent_line id [] ∙ append-nil (parent_line id) in
    step ∙ ap (λ (t : List ℕ). t ++ parent_line id) before ∙ append_assoc old (flat_map parent_line (take i ids)) (parent_line id)
    ∙ ap (λ (t : List ℕ). old ++ t) (ap (λ (t : List ℕ). flat_map parent_line (take i ids) ++ t) (sym last) ∙ sym (flat_map-append parent_line (take i ids) (id ∷ [])) ∙ ap (flat_map parent_line) (sym more))

pub spelled_more : (ids : List (List ℕ)) (i : ℕ) (id : List ℕ) → i < length ids → id ≡ get_or ids i id → SpellsId id (encode_lower id)
    → AllByRecursion (λ parent. SpellsId parent (encode_lower parent)) (take i ids)
    → AllByRecursion (λ parent. SpellsId parent (encode_lower parent)) (take (i + 1) ids)
spelled_more ids i id lt is one before =
    subst (λ (t : List (List ℕ)). AllByRecursion (λ parent. SpellsId parent (encode_lower parent)) t) (sym (take_more ids i id lt ∙ ap (λ (x : List ℕ). take i ids ++ x ∷ []) (sym is))) (both (take i ids) before)
  where
    both : (xs : List (List ℕ)) → AllByRecursion (λ parent. SpellsId parent (encode_lower parent)) xs
        → AllByRecursion (λ parent. SpellsId parent (encode_lower parent)) (xs ++ id ∷ [])
    both [] all = (one, tt)
    both (x ∷ xs) all = (all.0, both xs all.1)

pub parts_written : (start one two three four five six a b c d e f : List ℕ) → start ≡ [] → one ≡ start ++ a → two ≡ one ++ b → three ≡ two ++ c
    → four ≡ three ++ d → five ≡ four ++ e → six ≡ five ++ f → six ≡ ((((a ++ b) ++ c) ++ d) ++ e) ++ f
parts_written start one two three four five six a b c d e f p0 p1 p2 p3 p4 p5 p6 =
    p6 ∙ ap (λ (t : List ℕ). t ++ f) (p5 ∙ ap (λ (t : List ℕ). t ++ e) (p4 ∙ ap (λ (t : List ℕ). t ++ d) (p3 ∙ ap (λ (t : List ℕ). t ++ c) (p2 ∙ ap (λ (t : List ℕ). t ++ b) (p1 ∙ ap (λ (t : List ℕ). t ++ a) p0)))))

-- an ident's text may be that of an author
pub by_author : (c : Commit) (ident : Ident) (text : List ℕ) → IsCommitValue c → IsIdent ident text → IsCommitValue (with_author text c)
by_author c ident text value is = record { author = (ident, is); committer = value.committer; encoding = value.encoding }

pub author_reads : (c : Commit) → IsCommitValue c → ReadsAsIdent c.author
author_reads c value = reads_as c.author value.author

pub committer_reads : (c : Commit) → IsCommitValue c → ReadsAsIdent c.committer
committer_reads c value = reads_as c.committer value.committer

pub ruleset author_laws = (author_reads, committer_reads, by_author)
