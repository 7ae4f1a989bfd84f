-- What stands where a reset ended early.
use Rattle.std.proofs.Common.{◌≡◌, inl, inr, ℕ, suc, ◌+◌, ◌-◌, ◌<◌, Bool, true, false, cond, List, [], ◌∷◌, ◌++◌, append_assoc, length, take, drop, get_or, Result, Ok, Err, refl, sym, ap, subst, ◌∙◌, arith}
use Rattle.std.specs.Prelude.{map}
use Rattle.std.specs.FinMap as file
use Rattle.std.proofs.lemmas.List.{append-nil, take_all}
use Rattle.seq_base.specs.Words.{Path}
use Rattle.seq_base.specs.World.{World, is_blocked}
use Rattle.seq_base.specs.declared.map.Entry.{Entry}
use Rattle.seq_outside.specs.Halts.{◌>>=◌}
use Rattle.seq_outside.specs.Turns.{go_on, put_in}
use Rattle.seq_outside.specs.Writes.{IsFront, after, written}
use Rattle.seq_outside.specs.declared.lack.Lack.{Lack}
use Rattle.seq_outside.specs.declared.lack.Lack.TheVariants.{Way}
use Rattle.seq_outside.specs.declared.write.Write.{Write}
use Rattle.seq_outside.specs.declared.write.Write.TheVariants.{Put, Remove}
use Rattle.seq_outside.proofs.Drafts.{written-append}
use Rattle.seq_outside.proofs.Firsts.{first_and_others}
use Rattle.index_file.specs.declared.entry.IndexEntry.{IndexEntry}
use Rattle.stage_index.specs.Stages.{Entries, map_of, row_of}
use Rattle.worktree.specs.ResetTurns.{row_reset}
use Rattle.worktree.specs.Resets.{IsResetFront, IsRowFront, IsRowsFront, reset_first, reset_writes, row_writes, rows_writes}
use Rattle.worktree.specs.Switches.{write_made, writes_made}

abbrev Answer : Type 0
Answer = Result (Unit {0}) Lack × World

-- ---- what was made leaves the world after the writes

one_after : (x : Write) (old new : World) → write_made x old ≡ (Ok tt, new) → new ≡ after old x
unfolding write_made put_in
one_after (Remove path) old new is = sym (ap (λ (p : Answer). p.1) is)
one_after (Put path bytes) old new is = at (is_blocked old path) is
  where
    at : (b : Bool) → cond {A = Answer} b (Err (Way path), old) (Ok tt, file.insert old path bytes) ≡ (Ok tt, new) → new ≡ file.insert old path bytes
    at true e = let never : Err (Way path) ≡ Ok tt = ap (λ (p : Answer). p.0) e in absurd cc
    at false e = sym (ap (λ (p : Answer). p.1) e)

pub all_after : (ws : List Write) (old new : World) → writes_made ws old ≡ (Ok tt, new) → new ≡ written old ws
unfolding writes_made
all_after [] old new is = sym (ap (λ (p : Answer). p.1) is)
all_after (x ∷ ws) old new is = at (write_made x old) refl is (λ w rest. all_after ws w new rest)
  where
    at : (s : Answer) → write_made x old ≡ s → go_on s (λ _. writes_made ws) ≡ (Ok tt, new)
        → ((w : World) → writes_made ws w ≡ (Ok tt, new) → new ≡ written w ws) → new ≡ written (after old x) ws
    at (Ok y, w) made rest later = later w rest ∙ ap (λ (v : World). written v ws) (one_after x old w made)
    at (Err why, w) made rest later = let never : Err why ≡ Ok tt = ap (λ (p : Answer). p.0) rest in absurd cc

-- a path that was given its blob
pub record WasReset (e : Path × Entry) (old new : World) : Type 0 where
  pub writes : List Write
  pub are : row_writes old e ≡ Ok writes
  pub is : new ≡ written old writes

row_was : (e : Path × Entry) (old new : World) → row_reset e old ≡ (Ok tt, new) → WasReset e old new
unfolding row_reset
row_was e old new is = at (row_writes old e) refl is
  where
    at : (r : Result (List Write) Lack) → row_writes old e ≡ r → go_on (r, old) writes_made ≡ (Ok tt, new) → WasReset e old new
    at (Ok ws) are made = record { writes = ws; are = are; is = all_after ws old new made }
    at (Err why) are made = let never : Err why ≡ Ok tt = ap (λ (p : Answer). p.0) made in absurd cc

-- ---- paths one after another

rows_one : (w : World) (e : Path × Entry) (es : Entries) (ws more : List Write) → row_writes w e ≡ Ok ws → rows_writes (written w ws) es ≡ Ok more
    → rows_writes w (e ∷ es) ≡ Ok (ws ++ more)
unfolding rows_writes
rows_one w e es ws more is also = rw (is, also) refl

-- what the first path and the others made
record Split (w : World) (e : Path × Entry) (es : Entries) (all : List Write) : Type 0 where
  first : List Write
  more : List Write
  first_is : row_writes w e ≡ Ok first
  more_is : rows_writes (written w first) es ≡ Ok more
  both : all ≡ first ++ more

split : (w : World) (e : Path × Entry) (es : Entries) (all : List Write) → rows_writes w (e ∷ es) ≡ Ok all → Split w e es all
unfolding rows_writes
split w e es all is = at (row_writes w e) refl is
  where
    at : (r : Result (List Write) Lack) → row_writes w e ≡ r → (r >>= λ a. (rows_writes (written w a) es >>= λ b. Ok (a ++ b))) ≡ Ok all
        → Split w e es all
    at (Err why) first made = absurd cc
    at (Ok a) first made = by (rows_writes (written w a) es) refl made
      where
        by : (s : Result (List Write) Lack) → rows_writes (written w a) es ≡ s → (s >>= λ b. Ok (a ++ b)) ≡ Ok all → Split w e es all
        by (Err why) more made = absurd cc
        by (Ok b) more made = let same : a ++ b ≡ all = cc in record { first = a; more = b; first_is = first; more_is = more; both = sym same }

none_yet : (w : World) → rows_writes w [] ≡ Ok []
unfolding rows_writes
none_yet w = refl

rows_snoc : (es : Entries) (w : World) (e : Path × Entry) (ws xs : List Write) → rows_writes w es ≡ Ok ws → row_writes (written w ws) e ≡ Ok xs
    → rows_writes w (es ++ e ∷ []) ≡ Ok (ws ++ xs)
rows_snoc [] w e ws xs is last =
    let none : ws ≡ [] = let same : Ok ws ≡ Ok [] = sym is ∙ none_yet w in cc in
    let here : row_writes w e ≡ Ok xs = subst (λ (vs : List Write). row_writes (written w vs) e ≡ Ok xs) none last in
    rows_one w e [] xs [] here (none_yet (written w xs)) ∙ ap (λ (vs : List Write). Ok vs) (append-nil xs ∙ ap (λ (vs : List Write). vs ++ xs) (sym none))
rows_snoc (d ∷ es) w e ws xs is last =
    let parts = split w d es ws is in
    let here : row_writes (written (written w parts.first) parts.more) e ≡ Ok xs = subst (λ (v : World). row_writes v e ≡ Ok xs) (ap (written w) parts.both ∙ written-append w parts.first parts.more) last in
    rows_one w d (es ++ e ∷ []) parts.first (parts.more ++ xs) parts.first_is (rows_snoc es (written w parts.first) e parts.more xs parts.more_is here)
    ∙ ap (λ (vs : List Write). Ok vs) (sym (append_assoc parts.first parts.more xs) ∙ ap (λ (vs : List Write). vs ++ xs) (sym parts.both))

-- some paths were given their blobs, and the rest is to come
pub record ResetSoFar (start now : World) (all rest : List IndexEntry) : Type 0 where
  pub done : Entries
  pub writes : List Write
  pub are : rows_writes start done ≡ Ok writes
  pub is : now ≡ written start writes
  pub split : map_of all ≡ done ++ map row_of rest

pub so_far_init : (w : World) (all : List IndexEntry) → map row_of all ≡ map_of all → ResetSoFar w w all all
so_far_init w all same = record { done = []; writes = []; are = none_yet w; is = refl; split = sym same }

moved : (done : Entries) (e : IndexEntry) (others : List IndexEntry) → done ++ map row_of (e ∷ others) ≡ (done ++ row_of e ∷ []) ++ map row_of others
moved done e others = sym (append_assoc done (row_of e ∷ []) (map row_of others))

pub so_far_more : (start now next : World) (all rest : List IndexEntry) (e : IndexEntry) → ResetSoFar start now all rest → 0 < length rest
    → e ≡ get_or rest 0 e → row_reset (row_of e) now ≡ (Ok tt, next) → ResetSoFar start next all (take (length rest - 1) (drop 1 rest))
so_far_more start now next all rest e so_far some first is =
    let others = take (length rest - 1) (drop 1 rest) in
    let row = row_was (row_of e) now next is in
    let here : row_writes (written start so_far.writes) (row_of e) ≡ Ok row.writes = subst (λ (w : World). row_writes w (row_of e) ≡ Ok row.writes) so_far.is row.are in
    record {
      done = so_far.done ++ row_of e ∷ [];
      writes = so_far.writes ++ row.writes;
      are = rows_snoc so_far.done start (row_of e) so_far.writes row.writes so_far.are here;
      is = row.is ∙ ap (λ (w : World). written w row.writes) so_far.is ∙ sym (written-append start so_far.writes row.writes);
      split =
          so_far.split ∙ ap (λ (es : List IndexEntry). so_far.done ++ map row_of es) (first_and_others rest e some first)
          ∙ moved so_far.done e others;
    }

-- ---- fronts

take_front : (xs ys : Entries) → take (length xs) (xs ++ ys) ≡ xs
take_front [] ys = refl
take_front (x ∷ xs) ys = ap (λ (zs : Entries). x ∷ zs) (take_front xs ys)

take_behind : (xs ys : List Write) (n : ℕ) → take (length xs + n) (xs ++ ys) ≡ xs ++ take n ys
take_behind [] ys n = let k : length {A = Write} [] + n ≡ n = omega arith in ap (λ (m : ℕ). take m ys) k
take_behind (x ∷ xs) ys n =
    let k : length (x ∷ xs) + n ≡ suc (length xs + n) = omega arith in
    ap (λ (m : ℕ). take m (x ∷ xs ++ ys)) k ∙ ap (λ (zs : List Write). x ∷ zs) (take_behind xs ys n)

whole_front : (w : World) (ws : List Write) → IsFront w ws (written w ws)
whole_front w ws = record { made = length ws; is = ap (written w) (sym (take_all (length ws) ws (omega arith))) }

front_behind : (start now new : World) (ws xs : List Write) → now ≡ written start ws → IsFront now xs new → IsFront start (ws ++ xs) new
front_behind start now new ws xs is front = record {
  made = length ws + front.made;
  is =
      front.is ∙ ap (λ (w : World). written w (take front.made xs)) is ∙ sym (written-append start ws (take front.made xs))
      ∙ ap (written start) (sym (take_behind ws xs front.made));
}

first_are : (start : World) (to done : Entries) (rest : Entries) (ws : List Write) → to ≡ done ++ rest → rows_writes start done ≡ Ok ws
    → rows_writes start (take (length done) to) ≡ Ok ws
first_are start to done rest ws is are =
    ap (λ (es : Entries). rows_writes start (take (length done) es)) is ∙ ap (rows_writes start) (take_front done rest) ∙ are

pub rows_all : (start now : World) (all rest : List IndexEntry) → ResetSoFar start now all rest → IsRowsFront (map_of all) start now
rows_all start now all rest so_far = record {
  n = length so_far.done;
  writes = so_far.writes;
  are = first_are start (map_of all) so_far.done (map row_of rest) so_far.writes so_far.split so_far.are;
  front = subst (IsFront start so_far.writes) (sym so_far.is) (whole_front start so_far.writes);
}

pub rows_stopped : (start now new : World) (all rest : List IndexEntry) (e : IndexEntry) → ResetSoFar start now all rest → 0 < length rest
    → e ≡ get_or rest 0 e → IsRowFront (row_of e) now new → IsRowsFront (map_of all) start new
rows_stopped start now new all rest e so_far some first (inl same) =
    subst (IsRowsFront (map_of all) start) (sym same) (rows_all start now all rest so_far)
rows_stopped start now new all rest e so_far some first (inr (xs, are, front)) =
    let others = take (length rest - 1) (drop 1 rest) in
    let here : row_writes (written start so_far.writes) (row_of e) ≡ Ok xs = subst (λ (w : World). row_writes w (row_of e) ≡ Ok xs) so_far.is are in
    let whole : map_of all ≡ (so_far.done ++ row_of e ∷ []) ++ map row_of others = so_far.split ∙ ap (λ (es : List IndexEntry). so_far.done ++ map row_of es) (first_and_others rest e some first) ∙ moved so_far.done e others in
    record {
      n = length (so_far.done ++ row_of e ∷ []);
      writes = so_far.writes ++ xs;
      are =
          first_are start (map_of all) (so_far.done ++ row_of e ∷ []) (map row_of others) (so_far.writes ++ xs) whole (rows_snoc so_far.done start (row_of e) so_far.writes xs so_far.are here);
      front = front_behind start now new so_far.writes xs so_far.is front;
    }

-- ---- all of it

reset_then : (w : World) (from : List IndexEntry) (to first : Entries) (more : List Write)
    → rows_writes (written w (reset_first from to)) first ≡ Ok more → reset_writes w from to first ≡ Ok (reset_first from to ++ more)
unfolding reset_writes
reset_then w from to first more is = rw is refl

-- not all removals were made, or the index was not written
pub first_stopped : (from : List IndexEntry) (to : Entries) (old new : World) (ws : List Write) → ws ≡ reset_first from to → IsFront old ws new
    → IsResetFront from to old new
first_stopped from to old new ws is front = record {
  n = 0;
  writes = reset_first from to ++ [];
  are = reset_then old from to [] [] (none_yet (written old (reset_first from to)));
  front = subst (λ (vs : List Write). IsFront old vs new) (is ∙ sym (append-nil (reset_first from to))) front;
}

pub rows_front : (from : List IndexEntry) (to : Entries) (old mid new : World) (ws : List Write) → ws ≡ reset_first from to
    → writes_made ws old ≡ (Ok tt, mid) → IsRowsFront to mid new → IsResetFront from to old new
rows_front from to old mid new ws is made front =
    let made_is : mid ≡ written old (reset_first from to) = all_after ws old mid made ∙ ap (written old) is in
    record {
      n = front.n;
      writes = reset_first from to ++ front.writes;
      are = reset_then old from to (take front.n to) front.writes (ap (λ (w : World). rows_writes w (take front.n to)) (sym made_is) ∙ front.are);
      front = front_behind old mid new (reset_first from to) front.writes made_is front.front;
    }
