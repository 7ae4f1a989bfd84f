-- Entries, and trees of them.
use Rattle.std.proofs.Common.{◌≡◌, ℕ, suc, ◌<◌, true, false, eqb, List, [], ◌∷◌, ◌++◌, length, reverse, Result, Ok, refl, sym, ap, subst, ◌∙◌, append_assoc, arith}
use Rattle.std.specs.List.{AllByRecursion}
use Rattle.std.proofs.lemmas.List.{append-nil, length-append, reverse-append}
use Rattle.std.proofs.lemmas.Bool.{eqb-true}
use Rattle.std.proofs.lemmas.List.Concat.{flat_map-cons}
use Rattle.grammar.specs.Readers.{◌>>=◌, Reads, ReadsAll, HasText, Then, Nothing, Word, Front, End, end_at, then_at, front_at, nothing_at, Star, star_at, begins, IsStar, BeginsWith, BeginsOtherwise}
use Rattle.grammar.specs.Keywords.{may_of, value_of}
use Rattle.grammar.proofs.Laws.{AllBytes-append, then_reads, nothing_reads}
use Rattle.grammar.proofs.Words.{valued_reads, word_has}
use Rattle.grammar.proofs.FieldLaws.{front_reads, front_has, end_reads, reads_same}
use Rattle.grammar.proofs.Keywords.{value_text}
use Rattle.grammar.proofs.Maps.{all_mapped}
use Rattle.grammar.proofs.Stars.{star_reads}
use Rattle.grammar.proofs.StarLoops.{Loop, loop_none, loop_more, loop_err, loop_last}
use Rattle.grammar.specs.Gives.{Fails}
use Rattle.grammar.specs.declared.fault.ReadError.{ReadError}
use Rattle.grammar.specs.declared.fault.ReadError.TheVariants as errors
use Rattle.seq_base.specs.declared.mode.Mode.{Mode}
use Rattle.seq_base.specs.Modes.{mode_text}
use Rattle.object_text.specs.declared.tree.TreeEntry.{TreeEntry}
use Rattle.object_text.specs.Trees.{entry_text, tree_text, key, is_name, IsBefore, IsTreeOrder, HaveIds, IsTree}
use Rattle.object_text.specs.ReadTrees.{modes, mode_from, name_from, name_value, may_name, last_key, is_new, IsTreeSoFar, entry_from, tree_from, grown, any_byte}
use Rattle.object_text.proofs.Modes.{mode_value, modes_have, is_mode}
use Rattle.object_text.proofs.Names.{IsName, name_is, name_again, stays_good, is_name_word, less_is, is_after, key_some}

-- an entry that may stand behind those so far
pub record Follows (earlier : List TreeEntry) (e : TreeEntry) : Type 0 where
  pub name : IsName earlier e.mode e.name
  pub id : length e.id ≡ 20

abbrev pub Each : List TreeEntry → TreeEntry → List ℕ → Type 0
Each earlier e text = Follows earlier e × (text ≡ entry_text e)

abbrev made : Mode → List ℕ → List ℕ → TreeEntry
made m n i = record { mode = m; name = n; id = i }

abbrev Ids : Mode → List ℕ → TreeEntry → List ℕ → Type 0
Ids m n = Then (Front 20) (λ i. Nothing (made m n i))

abbrev NamesThen : List TreeEntry → Mode → TreeEntry → List ℕ → Type 0
NamesThen earlier m = Then (Word (name_value earlier m) 0) (λ n. Ids m n)

abbrev Parts : List TreeEntry → TreeEntry → List ℕ → Type 0
Parts earlier = Then (Word (value_of modes) 32) (λ m. NamesThen earlier m)

regroup : (a b c d e : List ℕ) → (a ++ b) ++ ((c ++ d) ++ e) ≡ (((a ++ b) ++ c) ++ d) ++ e
regroup a b c d e = simp append_assoc

to_each : (earlier : List TreeEntry) (e : TreeEntry) (text : List ℕ) → Parts earlier e text → Each earlier e text
to_each earlier e text p =
    let m = p.0 in
    let q = p.4 in
    let n = q.0 in
    let r = q.4 in
    let i = r.0 in
    let name = name_is earlier m q.3.0 n q.3.1 in
    let met : IsName earlier m n = subst (IsName earlier m) name.0 name.1 in
    let e1 : p.1 ≡ mode_text m ++ 32 ∷ [] = p.3.2 ∙ ap (λ (t : List ℕ). t ++ 32 ∷ []) (value_text mode_text modes modes_have p.3.0 m p.3.1) in
    let e2 : q.1 ≡ n ++ 0 ∷ [] = q.3.2 ∙ ap (λ (t : List ℕ). t ++ 0 ∷ []) name.0 in
    let e3 : q.2 ≡ i = r.5 ∙ ap (λ (t : List ℕ). r.1 ++ t) r.4.1 ∙ append-nil r.1 ∙ r.3.1 in
    let whole : text ≡ p.1 ++ (q.1 ++ q.2) = p.5 ∙ ap (λ (t : List ℕ). p.1 ++ t) q.5 in
    let parts : text ≡ (mode_text m ++ 32 ∷ []) ++ ((n ++ 0 ∷ []) ++ i) = whole ∙ rw (e1, e2, e3) refl in
    let follows : Follows earlier (made m n i) = record { name = met; id = r.3.0 } in
    subst (λ (d : TreeEntry). Each earlier d text) (sym r.4.0) (follows, parts ∙ regroup (mode_text m) (32 ∷ []) n (0 ∷ []) i)

from_each : (earlier : List TreeEntry) (e : TreeEntry) (text : List ℕ) → Each earlier e text → Parts earlier e text
from_each earlier e text g = (
  e.mode,
  mode_text e.mode ++ 32 ∷ [],
  (e.name ++ 0 ∷ []) ++ e.id,
  (mode_text e.mode, mode_value e.mode, refl),
  (
    e.name,
    e.name ++ 0 ∷ [],
    e.id,
    (e.name, name_again earlier e.mode e.name g.0.name, refl),
    (e.id, e.id, [], (g.0.id, refl), (refl, refl), sym (append-nil e.id)),
    refl,
  ),
  g.1 ∙ sym (regroup (mode_text e.mode) (32 ∷ []) e.name (0 ∷ []) e.id),
)

ids_from : Mode → List ℕ → List ℕ → Result (TreeEntry × List ℕ) ℕ
ids_from m n = then_at (front_at 20) (λ i. nothing_at (made m n i))

ids_has : (m : Mode) (n : List ℕ) → HasText (Ids m n)
ids_has m n = let f = front_has 20 in (made m n f.0, f.1, f.2, (f.0, f.1, [], f.3, (refl, refl), sym (append-nil f.1)))

ids_read : (m : Mode) (n : List ℕ) → Reads (Ids m n) (ids_from m n)
unfolding ids_from
ids_read m n =
    then_reads (Front 20) (λ i. Nothing (made m n i)) (front_at 20) (λ i. nothing_at (made m n i)) (front_reads 20) (λ i text g. nothing_reads (made m n i)) (λ i text g. (made m n i, [], tt, (refl, refl)))

names_from : List TreeEntry → Mode → List ℕ → Result (TreeEntry × List ℕ) ℕ
names_from earlier m = then_at (name_from earlier m) (λ n. ids_from m n)

names_has : (earlier : List TreeEntry) (m : Mode) → IsTreeSoFar earlier → HasText (NamesThen earlier m)
names_has earlier m good =
    let w = word_has (may_name (last_key earlier)) (name_value earlier m) 0 (is_name_word earlier m good) in
    let f = ids_has m w.0 in
    (f.0, w.1 ++ f.1, AllBytes-append w.1 f.1 w.2 f.2, (w.0, w.1, f.1, w.3, f.3, refl))

names_read : (earlier : List TreeEntry) (m : Mode) → IsTreeSoFar earlier → Reads (NamesThen earlier m) (names_from earlier m)
unfolding names_from name_from
names_read earlier m good = then_reads (Word (name_value earlier m) 0) (λ n. Ids m n) (name_from earlier m) (λ n. ids_from m n)
    (valued_reads (may_name (last_key earlier)) (name_value earlier m) 0 (is_name_word earlier m good)) (λ n text g. ids_read m n) (λ n text g. ids_has m n)

pub entry_reads : (earlier : List TreeEntry) → IsTreeSoFar earlier → Reads (Each earlier) (entry_from earlier)
unfolding entry_from mode_from names_from ids_from
entry_reads earlier good = reads_same (Parts earlier) (Each earlier) (entry_from earlier) (to_each earlier) (from_each earlier)
    (then_reads (Word (value_of modes) 32) (λ m. NamesThen earlier m) mode_from (λ m. names_from earlier m)
    (valued_reads (may_of modes) (value_of modes) 32 is_mode) (λ m text g. names_read earlier m good) (λ m text g. names_has earlier m good))

-- ---- trees

nonempty : (e : TreeEntry) (earlier : List TreeEntry) (text : List ℕ) → Each earlier e text → 0 < length text
nonempty e earlier text g = omega (arith, ap length g.1, length-append (mode_text e.mode ++ 32 ∷ [] ++ e.name ++ 0 ∷ []) e.id, g.0.id)

begins_any : (text : List ℕ) → 0 < length text → BeginsWith any_byte text
begins_any [] lt = absurd (omega arith)
begins_any (b ∷ text) lt = refl

ends_all : (text : List ℕ) → text ≡ [] → BeginsOtherwise any_byte text
ends_all [] e = tt
ends_all (b ∷ text) e = absurd cc

pub is_star : IsStar IsTreeSoFar any_byte grown Each (λ s. End) entry_from (λ s bytes. end_at bytes)
is_star = record {
  reads_each = entry_reads;
  reads_last = λ s good. end_reads;
  has_last = λ s good. (tt, [], tt, refl);
  stays_good = λ s e text good g. stays_good s e good g.0.name;
  begins = λ s e text g. begins_any text (nonempty e s text g);
  begins_last = λ s z text g. ends_all text g;
}

-- all of these stand before all of those
abbrev AllBefore : List TreeEntry → List TreeEntry → Type 0
AllBefore earlier es = AllByRecursion (λ e. AllByRecursion (λ d. IsBefore d e) earlier) es

none_before : (es : List TreeEntry) → AllBefore [] es
none_before [] = tt
none_before (e ∷ es) = (tt, none_before es)

firsts : (e : TreeEntry) (earlier es : List TreeEntry) → AllBefore (e ∷ earlier) es → AllByRecursion (IsBefore e) es × AllBefore earlier es
firsts e earlier [] all = (tt, tt)
firsts e earlier (x ∷ es) all = let k = firsts e earlier es all.1 in ((all.0.0, k.0), (all.0.1, k.1))

both_before : (e : TreeEntry) (earlier es : List TreeEntry) → AllByRecursion (IsBefore e) es → AllBefore earlier es → AllBefore (e ∷ earlier) es
both_before e earlier [] one others = tt
both_before e earlier (x ∷ es) one others = ((one.0, others.0), both_before e earlier es one.1 others.1)

record Ordered (earlier es : List TreeEntry) : Type 0 where
  before : AllBefore earlier es
  order : IsTreeOrder es
  ids : HaveIds es

starred : (earlier es : List TreeEntry) (text : List ℕ) → IsTreeSoFar earlier → Star grown Each (λ s. End) earlier es tt text
    → Ordered earlier es × (text ≡ tree_text es)
starred earlier [] text good g = (record { before = tt; order = tt; ids = tt }, g)
starred earlier (e ∷ es) text good g =
    let follows = g.2.0 in
    let next = stays_good earlier e good follows.name in
    let later = starred (e ∷ earlier) es g.1 next g.3 in
    let f = firsts e earlier es later.0.before in (
      record { before = (next.1, f.1); order = (follows.name.part, f.0, later.0.order); ids = (follows.id, later.0.ids) },
      g.4 ∙ rw (g.2.1, later.1) (sym (flat_map-cons entry_text e es)),
    )

follows_all : (earlier : List TreeEntry) (e : TreeEntry) → AllByRecursion (λ d. IsBefore d e) earlier → is_name e.name ≡ true
    → (is_after (last_key earlier) (key e.mode e.name) ≡ true) × (is_new earlier e.name ≡ true)
follows_all [] e all part = (key_some e.mode e.name part, refl)
follows_all (d ∷ ds) e all part = (sym (less_is (key d.mode d.name) (key e.mode e.name)) ∙ all.0.less, new (d ∷ ds) all)
  where
    new : (xs : List TreeEntry) → AllByRecursion (λ x. IsBefore x e) xs → is_new xs e.name ≡ true
    new [] all = refl
    new (x ∷ xs) all = let off = all.0.other in rw off (new xs all.1)

star_of : (earlier es : List TreeEntry) (text : List ℕ) → Ordered earlier es → text ≡ tree_text es → Star grown Each (λ s. End) earlier es tt text
star_of earlier [] text h e = e
star_of earlier (d ∷ es) text h e =
    let f = follows_all earlier d h.before.0 h.order.0 in
    let follows : Follows earlier d = record { name = record { part = h.order.0; after = f.0; new = f.1 }; id = h.ids.0 } in (
      entry_text d,
      tree_text es,
      (follows, refl),
      star_of (d ∷ earlier) es (tree_text es) (record { before = both_before d earlier es h.order.1 h.before.1; order = h.order.2; ids = h.ids.1 }) refl,
      e ∙ flat_map-cons entry_text d es,
    )

abbrev Starred : List TreeEntry × Unit {0} → List ℕ → Type 0
Starred p text = Star grown Each (λ s. End) [] p.0 p.1 text

pub tree_reads : ReadsAll IsTree tree_from
unfolding tree_from
tree_reads = all_mapped Starred IsTree (λ bytes. star_at any_byte grown entry_from (λ s rest. end_at rest) (length bytes) [] bytes) (λ p. p.0)
    (λ p text g. let s = starred [] p.0 text tt g in record { order = s.0.order; ids = s.0.ids; text_is = s.1 })
    (λ es text g. ((es, tt), star_of [] es text (record { before = none_before es; order = g.order; ids = g.ids }) g.text_is, refl))
    (star_reads IsTreeSoFar any_byte grown Each (λ s. End) entry_from (λ s rest. end_at rest) is_star [] tt)

-- ---- the loop

-- these are read, and that is left
abbrev pub TreeLoop : List ℕ → List TreeEntry → List ℕ → Type 0
TreeLoop bytes es rest = Loop IsTreeSoFar any_byte grown Each (λ s. End) entry_from (λ s rest. end_at rest) is_star
    (star_at any_byte grown entry_from (λ s rest. end_at rest) (length bytes) [] bytes) es (reverse es) rest

begins_rest : (rest : List ℕ) → eqb (length rest) 0 ≡ false → begins any_byte rest ≡ true
begins_rest [] some = absurd cc
begins_rest (b ∷ rest) some = refl

pub tree_none : (bytes : List ℕ) → TreeLoop bytes [] bytes
tree_none bytes = loop_none IsTreeSoFar any_byte grown Each (λ s. End) entry_from (λ s rest. end_at rest) is_star [] bytes tt

pub tree_more : (bytes : List ℕ) (es : List TreeEntry) (rest : List ℕ) (e : TreeEntry) (after : List ℕ) → eqb (length rest) 0 ≡ false
    → entry_from (reverse es) rest ≡ Ok (e, after)
    → TreeLoop bytes es rest → TreeLoop bytes (es ++ e ∷ []) after × (length after < length rest)
tree_more bytes es rest e after some read l =
    let more = loop_more IsTreeSoFar any_byte grown Each (λ s. End) entry_from (λ s rest. end_at rest) is_star _ es (reverse es) rest e after (begins_rest rest some) read l in
    let state : reverse (es ++ e ∷ []) ≡ e ∷ reverse es = reverse-append es (e ∷ []) in (
      subst
          (λ (s : List TreeEntry). Loop IsTreeSoFar any_byte grown Each (λ s. End) entry_from (λ s rest. end_at rest) is_star
          (star_at any_byte grown entry_from (λ s rest. end_at rest) (length bytes) [] bytes) (es ++ e ∷ []) s after)
          (sym state) more.0,
      more.1,
    )

pub tree_err : (bytes : List ℕ) (es : List TreeEntry) (rest : List ℕ) (d : ReadError) → eqb (length rest) 0 ≡ false
    → Fails d (entry_from (reverse es) rest) → TreeLoop bytes es rest → Fails d (tree_from bytes)
unfolding tree_from
tree_err bytes es rest errors.Memory some read l = tt
tree_err bytes es rest (errors.Stopped n) some read l =
    ap (λ (r : Result (List TreeEntry × Unit {0}) ℕ). r >>= λ p. Ok p.0) (loop_err IsTreeSoFar any_byte grown Each (λ s. End) entry_from (λ s rest. end_at rest) is_star _ es (reverse es) rest (errors.Stopped n) (begins_rest rest some) read l)

pub tree_done : (bytes : List ℕ) (es : List TreeEntry) (rest : List ℕ) → eqb (length rest) 0 ≡ true → TreeLoop bytes es rest → tree_from bytes ≡ Ok es
unfolding tree_from
tree_done bytes es [] none l =
    ap (λ (r : Result (List TreeEntry × Unit {0}) ℕ). r >>= λ p. Ok p.0) (loop_last IsTreeSoFar any_byte grown Each (λ s. End) entry_from (λ s rest. end_at rest) is_star _ es (reverse es) [] refl l) ∙ ap (λ (xs : List TreeEntry). Ok xs) (append-nil es)
tree_done bytes es (b ∷ rest) none l = let k = eqb-true (suc (length rest)) 0 none in absurd (omega arith)
