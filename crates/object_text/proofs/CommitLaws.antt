-- Reading commits.
use Rattle.std.proofs.Common.{◌≡◌, ℕ, ◌+◌, Bool, true, false, cond, not, ◌&&◌, ◌||◌, eqb, List, [], ◌∷◌, ◌++◌, length, Option, Some, None, Result, Ok, Err, refl, sym, ap, subst, ◌∙◌, append_assoc, arith}
use Rattle.std.specs.Prelude.{codes}
use Rattle.std.specs.List.{list_all, flat_map}
use Rattle.std.proofs.lemmas.List.{append-nil, length-append}
use Rattle.std.proofs.lemmas.List.Concat.{flat_map-cons}
use Rattle.std.proofs.lemmas.List.Folds.{list_all-append}
use Rattle.std.proofs.lemmas.Bool.{ne_eqb}
use Rattle.grammar.specs.Grammar.{AllBytes}
use Rattle.grammar.specs.Readers.{◌>>=◌, TextOf, span_at, Reads, ReadsAll, HasText, Then, then_at, then_all, Nothing, nothing_at, Word, IsWord, Literal, literal_at, Rest, Star, star_at, IsStar, BeginsWith, BeginsOtherwise}
use Rattle.grammar.proofs.Laws.{AllBytes-append, then_reads, then_reads_all, nothing_reads}
use Rattle.grammar.proofs.Words.{valued_reads, valued_of, valued_err, span_may}
use Rattle.grammar.specs.Gives.{Fails}
use Rattle.grammar.specs.declared.fault.ReadError.{ReadError}
use Rattle.grammar.specs.declared.fault.ReadError.TheVariants as errors
use Rattle.grammar.proofs.FieldLaws.{literal_reads, rest_reads, reads_same, reads_all_same}
use Rattle.grammar.proofs.Passing.{and_true}
use Rattle.grammar.proofs.Maps.{all_mapped}
use Rattle.grammar.proofs.Stars.{star_reads}
use Rattle.ident_text.specs.Idents.{IsIdent, IsIdentText}
use Rattle.ident_text.specs.Ids.{id_from}
use Rattle.ident_text.specs.ReadIdents.{ident_text_from}
use Rattle.ident_text.proofs.IdentLaws.{front_passes, ident_text_has, ident_text_reads}
use Rattle.ident_text.proofs.IdLaws.{id_has, id_reads}
use Rattle.seq_base.specs.Ids.{SpellsId}
use Rattle.object_text.specs.declared.commit.Commit.{Commit}
use Rattle.object_text.specs.Commits.{line, is_in_line, is_continuation, is_header_line, AreHeaders, encoding_of, SpellIds, IsCommit}
use Rattle.object_text.specs.ReadCommits.{keyed_from, tree_line_from, parent_line_from, author_line_from, committer_line_from, may_header, header_value, header_from, message_from, has_header, headers_from, tail_from, is_p, added, made, people_from, parents_from, commit_from}

guard : {X : Type 0} (t : Bool) (x y : X) → cond t (Some x) None ≡ Some y → (t ≡ true) × (x ≡ y)
guard true x y e = (refl, cc)
guard false x y e = absurd cc

-- ---- who made it

-- an ident, as it stands
abbrev Who : List ℕ → List ℕ → Type 0
Who = TextOf IsIdent

who_is : (x text : List ℕ) → Who x text → IsIdentText x
who_is x text g = (g.0, subst (IsIdent g.0) g.2 g.1)

-- ---- a line that begins with a key

abbrev pub Keyed : {X : Type 0} → List ℕ → (X → List ℕ → Type 0) → X → List ℕ → Type 0
Keyed key value x text = (v : List ℕ) × value x v × (text ≡ line (key ++ v))

abbrev KeyedParts : {X : Type 0} → List ℕ → (X → List ℕ → Type 0) → X → List ℕ → Type 0
KeyedParts key value = Then (Literal key) (λ _. Then value (λ x. Then (Literal (10 ∷ [])) (λ _. Nothing x)))

line_fits : AllBytes (10 ∷ [])
line_fits = (omega arith, tt)

pub keyed_reads : {X : Type 0} (key : List ℕ) (value : X → List ℕ → Type 0) (value_from : List ℕ → Result (X × List ℕ) ℕ) → AllBytes key
    → Reads value value_from → HasText value → Reads (Keyed key value) (keyed_from key value_from)
keyed_reads {X} key value value_from fits reads has = reads_same (KeyedParts key value) (Keyed key value) (keyed_from key value_from)
    (λ x text g.
    let v = g.4 in
    let e = v.4 in
    let key-is = g.3 in
    let x-is : x ≡ v.0 = e.4.0 in
    let end : v.2 ≡ 10 ∷ [] = e.5 ∙ ap (λ (t : List ℕ). e.1 ++ t) e.4.1 ∙ append-nil e.1 ∙ e.3 in
    (v.1, subst (λ (y : X). value y v.1) (sym x-is) v.3, g.5 ∙ ap (λ (t : List ℕ). t ++ g.2) key-is ∙ ap (λ (t : List ℕ). key ++ t) (v.5 ∙ ap (λ (t : List ℕ). v.1 ++ t) end) ∙ sym (append_assoc key v.1 (10 ∷ []))))
    (λ x text g. (tt, key, g.0 ++ 10 ∷ [], refl, (x, g.0, 10 ∷ [], g.1, (tt, 10 ∷ [], [], refl, (refl, refl), refl), refl), g.2 ∙ append_assoc key g.0 (10 ∷ [])))
    (then_reads (Literal key) (λ _. Then value (λ x. Then (Literal (10 ∷ [])) (λ _. Nothing x))) (literal_at key) (λ _. then_at value_from (λ x. then_at (literal_at (10 ∷ [])) (λ _. nothing_at x))) (literal_reads key fits)
    (λ _ _ _. then_reads value (λ x. Then (Literal (10 ∷ [])) (λ _. Nothing x)) value_from (λ x. then_at (literal_at (10 ∷ [])) (λ _. nothing_at x)) reads (λ x _ _. ends x) (λ x _ _. has_end x))
    (λ _ _ _. let e = has_end has.0 in (e.0, has.1 ++ e.1, AllBytes-append has.1 e.1 has.2 e.2, (has.0, has.1, e.1, has.3, e.3, refl))))
  where
    ends : (x : X) → Reads (Then (Literal (10 ∷ [])) (λ _. Nothing x)) (then_at (literal_at (10 ∷ [])) (λ _. nothing_at x))
    ends x =
        then_reads (Literal (10 ∷ [])) (λ _. Nothing x) (literal_at (10 ∷ [])) (λ _. nothing_at x) (literal_reads (10 ∷ []) line_fits) (λ _ _ _. nothing_reads x) (λ _ _ _. (x, [], tt, (refl, refl)))

    has_end : (x : X) → HasText (Then (Literal (10 ∷ [])) (λ _. Nothing x))
    has_end x = (x, 10 ∷ [], line_fits, (tt, 10 ∷ [], [], refl, (refl, refl), refl))

keyed_has : {X : Type 0} (key : List ℕ) (value : X → List ℕ → Type 0) → AllBytes key → HasText value → HasText (Keyed key value)
keyed_has key value fits h =
    (h.0, line (key ++ h.1), AllBytes-append (key ++ h.1) (10 ∷ []) (AllBytes-append key h.1 fits h.2) line_fits, (h.1, h.3, refl))

-- ---- the keys

author : AllBytes (codes "author ")
author = (omega arith, (omega arith, (omega arith, (omega arith, (omega arith, (omega arith, (omega arith, tt)))))))

committer : AllBytes (codes "committer ")
committer =
    (omega arith, (omega arith, (omega arith, (omega arith, (omega arith, (omega arith, (omega arith, (omega arith, (omega arith, (omega arith, tt))))))))))

parent : AllBytes (codes "parent ")
parent = (omega arith, (omega arith, (omega arith, (omega arith, (omega arith, (omega arith, (omega arith, tt)))))))

tree_key : AllBytes (codes "tree ")
tree_key = (omega arith, (omega arith, (omega arith, (omega arith, (omega arith, tt)))))

abbrev TreeLine : List ℕ → List ℕ → Type 0
TreeLine = Keyed (codes "tree ") SpellsId

abbrev pub ParentLine : List ℕ → List ℕ → Type 0
ParentLine = Keyed (codes "parent ") SpellsId

abbrev AuthorLine : List ℕ → List ℕ → Type 0
AuthorLine = Keyed (codes "author ") Who

abbrev CommitterLine : List ℕ → List ℕ → Type 0
CommitterLine = Keyed (codes "committer ") Who

tree_line_reads : Reads TreeLine tree_line_from
unfolding tree_line_from
tree_line_reads = keyed_reads (codes "tree ") SpellsId id_from tree_key id_reads id_has

parent_line_reads : Reads ParentLine parent_line_from
unfolding parent_line_from
parent_line_reads = keyed_reads (codes "parent ") SpellsId id_from parent id_reads id_has

author_line_reads : Reads AuthorLine author_line_from
unfolding author_line_from
author_line_reads = keyed_reads (codes "author ") Who ident_text_from author ident_text_reads ident_text_has

committer_line_reads : Reads CommitterLine committer_line_from
unfolding committer_line_from
committer_line_reads = keyed_reads (codes "committer ") Who ident_text_from committer ident_text_reads ident_text_has

-- what begins with a key begins with its first byte
begins_key : (test : ℕ → Bool) (c : ℕ) (key text rest : List ℕ) → test c ≡ true → text ≡ (c ∷ key) ++ rest → BeginsWith test text
begins_key test c key [] rest t e = absurd cc
begins_key test c key (b ∷ text) rest t e = let k : b ≡ c = cc in ap test k ∙ t

others_key : (test : ℕ → Bool) (c : ℕ) (key text rest : List ℕ) → test c ≡ false → text ≡ (c ∷ key) ++ rest → BeginsOtherwise test text
others_key test c key [] rest t e = tt
others_key test c key (b ∷ text) rest t e = let k : b ≡ c = cc in ap test k ∙ t

-- ---- headers

either : (s : Bool) → (s || true) ≡ true
either true = refl
either false = refl

continues_front : (front back : List ℕ) (b : ℕ) → is_continuation (front ++ b ∷ back) ≡ is_continuation (front ++ b ∷ [])
continues_front [] back b = refl
continues_front (c ∷ front) back b = refl

continues_more : (s : Bool) (front : List ℕ) → (s || not (is_continuation front)) ≡ true → (s || not (is_continuation (front ++ 65 ∷ []))) ≡ true
continues_more s [] e = either s
continues_more s (c ∷ front) e = e

header_of : (s : Bool) (w x : List ℕ) → header_value s w ≡ Some x → (is_header_line w ≡ true) × ((s || not (is_continuation w)) ≡ true) × (w ≡ x)
header_of s w x v =
    let g = guard (is_header_line w && (s || not (is_continuation w))) w x v in
    let k = and_true (is_header_line w) (s || not (is_continuation w)) g.0 in
    (k.0, k.1, g.1)

is_header : (s : Bool) → IsWord (may_header s) (header_value s) 10
is_header s = record {
  stop_fits = omega arith;
  starts = either s;
  fronts = λ front back b x v.
      let h = header_of s (front ++ b ∷ back) x v in
      let all = (and_true (list_all is_in_line (front ++ b ∷ back)) (not (eqb (length (front ++ b ∷ back)) 0)) h.0).0 in
      let k = front_passes is_in_line front back b all in
      let line = k.0 in
      let kept : (s || not (is_continuation (front ++ b ∷ []))) ≡ true = ap (λ (t : Bool). s || not t) (sym (continues_front front back b)) ∙ h.1 in
      (rw (line, kept) refl, not_feed b k.1);
  ends = λ front m.
      let k = and_true (list_all is_in_line front) (s || not (is_continuation front)) m in
      let all : list_all is_in_line (front ++ 65 ∷ []) ≡ true = let a = k.0 in list_all-append is_in_line front (65 ∷ []) ∙ rw a refl in
      let some : eqb (length (front ++ 65 ∷ [])) 0 ≡ false = ne_eqb (length (front ++ 65 ∷ [])) 0 (λ e. absurd (omega (arith, length-append front (65 ∷ [])))) in
      let kept = continues_more s front k.1 in
      (front ++ 65 ∷ [], 65 ∷ [], (omega arith, tt), rw (all, some, kept) refl);
}
  where
    not_feed : (b : ℕ) → is_in_line b ≡ true → b ≡ 10 → ⊥
    not_feed b on e = let same = ap is_in_line e in let off : is_in_line 10 ≡ false = refl in cc

abbrev pub Header : Bool → List ℕ → List ℕ → Type 0
Header s = Word (header_value s) 10

abbrev pub Message : List ℕ → List ℕ → Type 0
Message m text = text ≡ 10 ∷ m

message_reads : ReadsAll Message message_from
unfolding message_from
message_reads = reads_all_same (Then (Literal (10 ∷ [])) (λ _. Rest)) Message message_from
    (λ m text g. let a = g.3 in let b = g.4 in g.5 ∙ rw (a, b) refl) (λ m text g. (tt, 10 ∷ [], m, refl, refl, g))
    (then_reads_all (Literal (10 ∷ [])) (λ _. Rest) (literal_at (10 ∷ [])) (λ _ rest. Ok rest) (literal_reads (10 ∷ []) line_fits) (λ x text g. rest_reads) (λ x text g. ([], [], tt, refl)))

header_begins : (s : Bool) (x text : List ℕ) → Header s x text → BeginsWith is_in_line text
header_begins s x text h = at h.0 h.1 h.2
  where
    at : (w : List ℕ) → header_value s w ≡ Some x → text ≡ w ++ 10 ∷ [] → BeginsWith is_in_line text
    at [] v e = absurd (empty ((header_of s [] x v).0))
      where
        empty : is_header_line [] ≡ true → ⊥
        empty e = cc
    at (b ∷ w) v e =
        let k = and_true (list_all is_in_line (b ∷ w)) (not (eqb (length (b ∷ w)) 0)) (header_of s (b ∷ w) x v).0 in
        begins_key is_in_line b w text (10 ∷ []) (and_true (is_in_line b) (list_all is_in_line w) k.0).0 e

pub headers_star : IsStar (λ s. Unit {0}) is_in_line has_header Header (λ s. Message) header_from (λ s rest. message_from rest)
unfolding header_from
headers_star = record {
  reads_each = λ s good. valued_reads (may_header s) (header_value s) 10 (is_header s);
  reads_last = λ s good. message_reads;
  has_last = λ s good. ([], 10 ∷ [], line_fits, refl);
  stays_good = λ s x text good g. tt;
  begins = header_begins;
  begins_last = λ s m text g. others_key is_in_line 10 [] text m refl g;
}

abbrev pub Headers : List (List ℕ) × List ℕ → List ℕ → Type 0
Headers p text = Star has_header Header (λ s. Message) false p.0 p.1 text

headers_read : ReadsAll Headers headers_from
unfolding headers_from
headers_read = star_reads (λ s. Unit {0}) is_in_line has_header Header (λ s. Message) header_from (λ s rest. message_from rest) headers_star false tt

-- the lines, in the words of the format
lines_of : (s : Bool) (lines : List (List ℕ)) (m text : List ℕ) → Star has_header Header (λ s. Message) s lines m text
    → (list_all is_header_line lines ≡ true) × (text ≡ flat_map line lines ++ 10 ∷ m)
lines_of s [] m text g = (refl, g)
lines_of s (x ∷ lines) m text g =
    let h = header_of s g.2.0 x g.2.1 in
    let later = lines_of true lines m g.1 g.3 in
    let one : is_header_line x ≡ true = ap is_header_line (sym h.2) ∙ h.0 in
    let first : g.0 ≡ line x = g.2.2 ∙ ap line h.2 in
    let rest = later.1 in
    let all = later.0 in
    (rw (one, all) refl, g.4 ∙ rw (first, rest) (sym (append_assoc (line x) (flat_map line lines) (10 ∷ m))) ∙ ap (λ (t : List ℕ). t ++ 10 ∷ m) (sym (flat_map-cons line x lines)))

are_headers : (lines : List (List ℕ)) (m text : List ℕ) → Headers (lines, m) text → AreHeaders lines
are_headers [] m text g = tt
are_headers (x ∷ lines) m text g =
    let h = header_of false g.2.0 x g.2.1 in
    let k = lines_of false (x ∷ lines) m text g in
    (not_true (is_continuation x) (ap (λ (t : List ℕ). not (is_continuation t)) (sym h.2) ∙ h.1), k.0)
  where
    not_true : (t : Bool) → not t ≡ true → t ≡ false
    not_true true e = absurd cc
    not_true false e = refl

star_of_lines : (s : Bool) (lines : List (List ℕ)) (m text : List ℕ) → s ≡ true → list_all is_header_line lines ≡ true
    → text ≡ flat_map line lines ++ 10 ∷ m → Star has_header Header (λ s. Message) s lines m text
star_of_lines s [] m text on all e = e
star_of_lines s (x ∷ lines) m text on all e =
    let k = and_true (is_header_line x) (list_all is_header_line lines) all in
    let one = k.0 in
    let value : header_value s x ≡ Some x = rw (one, on) refl in
    (line x, flat_map line lines ++ 10 ∷ m, (x, value, refl), star_of_lines true lines m (flat_map line lines ++ 10 ∷ m) refl k.1 refl, e ∙ ap (λ (t : List ℕ). t ++ 10 ∷ m) (flat_map-cons line x lines) ∙ append_assoc (line x) (flat_map line lines) (10 ∷ m))

headers_of : (lines : List (List ℕ)) (m text : List ℕ) → AreHeaders lines → text ≡ flat_map line lines ++ 10 ∷ m → Headers (lines, m) text
headers_of [] m text are e = e
headers_of (x ∷ lines) m text are e =
    let k = and_true (is_header_line x) (list_all is_header_line lines) are.1 in
    let one = k.0 in
    let first = are.0 in
    let value : header_value false x ≡ Some x = rw (one, first) refl in
    (line x, flat_map line lines ++ 10 ∷ m, (x, value, refl), star_of_lines true lines m (flat_map line lines ++ 10 ∷ m) refl k.1 refl, e ∙ ap (λ (t : List ℕ). t ++ 10 ∷ m) (flat_map-cons line x lines) ∙ append_assoc (line x) (flat_map line lines) (10 ∷ m))

-- ---- people

abbrev Tail : Option (List ℕ) × List ℕ → List ℕ → Type 0
Tail t text = (lines : List (List ℕ)) × Headers (lines, t.1) text × (t.0 ≡ encoding_of lines)

tail_reads : ReadsAll Tail tail_from
unfolding tail_from
tail_reads =
    all_mapped Headers Tail headers_from (λ p. (encoding_of p.0, p.1)) (λ p text g. (p.0, g, refl)) (λ t text g. ((g.0, t.1), g.1, ap (λ (o : Option (List ℕ)). (o, t.1)) g.2)) headers_read

abbrev Made : List ℕ → List (List ℕ) → List ℕ → List ℕ → Commit → List ℕ → Type 0
Made tree parents a k c text = (t : Option (List ℕ) × List ℕ) × Tail t text × (c ≡ made tree parents a k t)

abbrev pub People : List ℕ → List (List ℕ) → Commit → List ℕ → Type 0
People tree parents = Then AuthorLine (λ a. Then CommitterLine (λ k. Made tree parents a k))

made_from : List ℕ → List (List ℕ) → List ℕ → List ℕ → List ℕ → Result Commit ℕ
made_from tree parents a k bytes = tail_from bytes >>= λ t. Ok (made tree parents a k t)

made_reads : (tree : List ℕ) (parents : List (List ℕ)) (a k : List ℕ) → ReadsAll (Made tree parents a k) (made_from tree parents a k)
unfolding made_from
made_reads tree parents a k =
    all_mapped Tail (Made tree parents a k) tail_from (λ t. made tree parents a k t) (λ t text g. (t, g, refl)) (λ c text g. (g.0, g.1, g.2)) tail_reads

made_has : (tree : List ℕ) (parents : List (List ℕ)) (a k : List ℕ) → HasText (Made tree parents a k)
made_has tree parents a k = (made tree parents a k (None, []), 10 ∷ [], line_fits, ((None, []), ([], refl, refl), refl))

committer_has : HasText CommitterLine
committer_has = keyed_has (codes "committer ") Who committer ident_text_has

rest_has : (tree : List ℕ) (parents : List (List ℕ)) (a : List ℕ) → HasText (Then CommitterLine (λ k. Made tree parents a k))
rest_has tree parents a =
    let h = committer_has in
    let m = made_has tree parents a h.0 in
    (m.0, h.1 ++ m.1, AllBytes-append h.1 m.1 h.2 m.2, (h.0, h.1, m.1, h.3, m.3, refl))

people_has : (tree : List ℕ) (parents : List (List ℕ)) → HasText (People tree parents)
people_has tree parents =
    let h = keyed_has (codes "author ") Who author ident_text_has in
    let m = rest_has tree parents h.0 in
    (m.0, h.1 ++ m.1, AllBytes-append h.1 m.1 h.2 m.2, (h.0, h.1, m.1, h.3, m.3, refl))

people_read : (tree : List ℕ) (parents : List (List ℕ)) → ReadsAll (People tree parents) (people_from tree parents)
unfolding people_from made_from
people_read tree parents =
    then_reads_all AuthorLine (λ a. Then CommitterLine (λ k. Made tree parents a k)) author_line_from (λ a. then_all committer_line_from (λ k. made_from tree parents a k)) author_line_reads
    (λ a _ _. then_reads_all CommitterLine (λ k. Made tree parents a k) committer_line_from (λ k. made_from tree parents a k) committer_line_reads (λ k _ _. made_reads tree parents a k) (λ k _ _. made_has tree parents a k))
    (λ a _ _. rest_has tree parents a)

pub parents_star : (tree : List ℕ) → IsStar (λ s. Unit {0}) is_p added (λ s. ParentLine) (People tree) (λ s. parent_line_from) (people_from tree)
parents_star tree = record {
  reads_each = λ s good. parent_line_reads;
  reads_last = λ s good. people_read tree s;
  has_last = λ s good. people_has tree s;
  stays_good = λ s x text good g. tt;
  begins = λ s x text g. begins_key is_p 112 (codes "arent ") text (g.0 ++ 10 ∷ []) refl (g.2 ∙ append_assoc (codes "parent ") g.0 (10 ∷ []));
  begins_last =
      λ s c text g. others_key is_p 97 (codes "uthor ") text ((g.3.0 ++ 10 ∷ []) ++ g.2) refl (g.5 ∙ ap (λ (t : List ℕ). t ++ g.2) (g.3.2 ∙ append_assoc (codes "author ") g.3.0 (10 ∷ [])) ∙ append_assoc (codes "author ") (g.3.0 ++ 10 ∷ []) g.2);
}

abbrev pub Parents : List ℕ → List (List ℕ) × Commit → List ℕ → Type 0
Parents tree p text = Star added (λ s. ParentLine) (People tree) [] p.0 p.1 text

abbrev Behind : List ℕ → Commit → List ℕ → Type 0
Behind tree c text = (ids : List (List ℕ)) × Parents tree (ids, c) text

behind_reads : (tree : List ℕ) → ReadsAll (Behind tree) (parents_from tree)
unfolding parents_from
behind_reads tree =
    all_mapped (Parents tree) (Behind tree) (λ bytes. star_at is_p added (λ s. parent_line_from) (people_from tree) (length bytes) [] bytes) (λ p. p.1) (λ p text g. (p.0, g)) (λ c text g. ((g.0, c), g.1, refl))
    (star_reads (λ s. Unit {0}) is_p added (λ s. ParentLine) (People tree) (λ s. parent_line_from) (people_from tree) (parents_star tree) [] tt)

behind_has : (tree : List ℕ) → HasText (Behind tree)
behind_has tree = let p = people_has tree [] in (p.0, p.1, p.2, ([], p.3))

abbrev Parts : Commit → List ℕ → Type 0
Parts = Then TreeLine Behind

parts_read : ReadsAll Parts commit_from
unfolding commit_from
parts_read = then_reads_all TreeLine Behind tree_line_from parents_from tree_line_reads (λ t _ _. behind_reads t) (λ t _ _. behind_has t)

-- ---- the commit

abbrev parent_text : List ℕ → List ℕ
parent_text p = line (codes "parent " ++ p)

record Fathers (tree : List ℕ) (before ids : List (List ℕ)) (c : Commit) (text : List ℕ) : Type 0 where
  texts : List (List ℕ)
  rest : List ℕ
  spelled : SpellIds ids texts
  people : People tree (before ++ ids) c rest
  text_is : text ≡ flat_map parent_text texts ++ rest

fathers : (tree : List ℕ) (before ids : List (List ℕ)) (c : Commit) (text : List ℕ) → Star added (λ s. ParentLine) (People tree) before ids c text
    → Fathers tree before ids c text
fathers tree before [] c text g =
    record { texts = []; rest = text; spelled = tt; people = subst (λ (s : List (List ℕ)). People tree s c text) (sym (append-nil before)) g; text_is = refl }
fathers tree before (id ∷ ids) c text g =
    let later = fathers tree (before ++ id ∷ []) ids c g.1 g.3 in
    record {
      texts = g.2.0 ∷ later.texts;
      rest = later.rest;
      spelled = (g.2.1, later.spelled);
      people = subst (λ (s : List (List ℕ)). People tree s c later.rest) (append_assoc before (id ∷ []) ids) later.people;
      text_is =
          g.4 ∙ ap (λ (t : List ℕ). t ++ g.1) g.2.2 ∙ ap (λ (t : List ℕ). parent_text g.2.0 ++ t) later.text_is
          ∙ sym (append_assoc (parent_text g.2.0) (flat_map parent_text later.texts) later.rest)
          ∙ ap (λ (t : List ℕ). t ++ later.rest) (sym (flat_map-cons parent_text g.2.0 later.texts));
    }

star_of_fathers : (tree : List ℕ) (before ids texts : List (List ℕ)) (c : Commit) (rest text : List ℕ) → SpellIds ids texts
    → People tree (before ++ ids) c rest → text ≡ flat_map parent_text texts ++ rest → Star added (λ s. ParentLine) (People tree) before ids c text
star_of_fathers tree before [] [] c rest text spelled people e =
    subst (λ (t : List ℕ). People tree before c t) (sym e) (subst (λ (s : List (List ℕ)). People tree s c rest) (append-nil before) people)
star_of_fathers tree before [] (t ∷ texts) c rest text spelled people e = absurd spelled
star_of_fathers tree before (id ∷ ids) [] c rest text spelled people e = absurd spelled
star_of_fathers tree before (id ∷ ids) (t ∷ texts) c rest text spelled people e = (
  parent_text t,
  flat_map parent_text texts ++ rest,
  (t, spelled.0, refl),
  star_of_fathers tree (before ++ id ∷ []) ids texts c rest (flat_map parent_text texts ++ rest) spelled.1 (subst (λ (s : List (List ℕ)). People tree s c rest) (sym (append_assoc before (id ∷ []) ids)) people) refl,
  e ∙ ap (λ (u : List ℕ). u ++ rest) (flat_map-cons parent_text t texts) ∙ append_assoc (parent_text t) (flat_map parent_text texts) rest,
)

regroup : (a b c d e f : List ℕ) → a ++ (b ++ (c ++ (d ++ (e ++ f)))) ≡ ((((a ++ b) ++ c) ++ d) ++ e) ++ f
regroup a b c d e f = simp append_assoc

to_commit : (c : Commit) (bytes : List ℕ) → Parts c bytes → IsCommit c bytes
to_commit c bytes g =
    let f = fathers g.0 [] g.4.0 c g.2 g.4.1 in
    let a = f.people in
    let k = a.4 in
    let m = k.4 in
    let author : a.1 ≡ line (codes "author " ++ a.0) = a.3.2 ∙ ap (λ (t : List ℕ). line (codes "author " ++ t)) a.3.1.2 in
    let committer : k.1 ≡ line (codes "committer " ++ k.0) = k.3.2 ∙ ap (λ (t : List ℕ). line (codes "committer " ++ t)) k.3.1.2 in
    let t = m.1 in
    let lines = (lines_of false t.0 m.0.1 k.2 t.1).1 in
    let whole : bytes ≡ g.1 ++ (flat_map parent_text f.texts ++ (a.1 ++ (k.1 ++ (flat_map line t.0 ++ 10 ∷ m.0.1)))) =
    g.5 ∙ ap (λ (t : List ℕ). g.1 ++ t) (f.text_is ∙ ap (λ (t : List ℕ). flat_map parent_text f.texts ++ t) (a.5 ∙ ap (λ (t : List ℕ). a.1 ++ t) (k.5 ∙ ap (λ (t : List ℕ). k.1 ++ t) lines))) in
    let tree = g.3.2 in
    subst (λ (d : Commit). IsCommit d bytes) (sym m.2)
    (record {
      tree = g.3.0;
      parents = f.texts;
      headers = t.0;
      is_tree = g.3.1;
      are_parents = f.spelled;
      is_author = who_is a.0 a.3.0 a.3.1;
      is_committer = who_is k.0 k.3.0 k.3.1;
      are_headers = are_headers t.0 m.0.1 k.2 t.1;
      encoding_is = t.2;
      text_is =
          whole
          ∙ rw (tree, author, committer) (regroup (line (codes "tree " ++ g.3.0)) (flat_map parent_text f.texts) (line (codes "author " ++ a.0)) (line (codes "committer " ++ k.0)) (flat_map line t.0) (10 ∷ m.0.1));
    })

from_commit : (c : Commit) (bytes : List ℕ) → IsCommit c bytes → Parts c bytes
from_commit c bytes g =
    let headers : List ℕ = flat_map line g.headers ++ 10 ∷ c.message in
    let later : List ℕ = line (codes "committer " ++ c.committer) ++ headers in
    let people : List ℕ = line (codes "author " ++ c.author) ++ later in
    let behind : List ℕ = flat_map parent_text g.parents ++ people in (
      c.tree,
      line (codes "tree " ++ g.tree),
      behind,
      (g.tree, g.is_tree, refl),
      (
        c.parents,
        star_of_fathers c.tree [] c.parents g.parents c people behind g.are_parents (
          c.author,
          line (codes "author " ++ c.author),
          later,
          (c.author, (g.is_author.0, g.is_author.1, refl), refl),
          (
            c.committer,
            line (codes "committer " ++ c.committer),
            headers,
            (c.committer, (g.is_committer.0, g.is_committer.1, refl), refl),
            ((c.encoding, c.message), (g.headers, headers_of g.headers c.message headers g.are_headers refl, g.encoding_is), refl),
            refl,
          ),
          refl,
        )
            refl,
      ),
      g.text_is ∙ sym (regroup (line (codes "tree " ++ g.tree)) (flat_map parent_text g.parents) (line (codes "author " ++ c.author)) (line (codes "committer " ++ c.committer)) (flat_map line g.headers) (10 ∷ c.message)),
    )

pub commit_reads : ReadsAll IsCommit commit_from
commit_reads = reads_all_same Parts IsCommit commit_from to_commit from_commit parts_read

-- ---- what the program makes of lines

pub header_ok : (s : Bool) (bytes w rest : List ℕ) → span_at (may_header s) 10 bytes ≡ Ok (w, rest) → eqb (length w) 0 ≡ false
    → header_from s bytes ≡ Ok (w, rest)
unfolding header_from
header_ok s bytes w rest e some =
    let may = span_may (may_header s) 10 bytes w rest (either s) e in
    let k = and_true (list_all is_in_line w) (s || not (is_continuation w)) may in
    let all = k.0 in
    let kept = k.1 in
    valued_of (may_header s) (header_value s) 10 bytes w rest (Some w) e (rw (all, some, kept) refl)

pub header_empty : (s : Bool) (bytes w rest : List ℕ) → span_at (may_header s) 10 bytes ≡ Ok (w, rest) → eqb (length w) 0 ≡ true
    → header_from s bytes ≡ Err (length rest + 1)
unfolding header_from
header_empty s bytes w rest e none = valued_of (may_header s) (header_value s) 10 bytes w rest None e (at (list_all is_in_line w))
  where
    at : (t : Bool) → cond (t && not (eqb (length w) 0) && (s || not (is_continuation w))) (Some w) None ≡ None
    at true = rw none refl
    at false = refl

pub header_err : (s : Bool) (bytes : List ℕ) (d : ReadError) → Fails d (span_at (may_header s) 10 bytes) → Fails d (header_from s bytes)
unfolding header_from
header_err s bytes errors.Memory e = tt
header_err s bytes (errors.Stopped n) e = valued_err (may_header s) (header_value s) 10 bytes n e
