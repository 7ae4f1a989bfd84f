-- HEAD that is moved step by step is moved as a whole, where nothing is in the way.
use Rattle.std.proofs.Common.{◌≡◌, ◌⊎◌, ◌++◌, ℕ, Bool, true, false, cond, codes, List, [], inl, inr, Ok, refl, sym, ap, subst, ◌∙◌}
use Rattle.std.specs.FinMap as map
use Rattle.std.specs.Prelude.{Result, Err, drop, unwrap_or}
use Rattle.std.specs.Str.{bytes_eq}
use Rattle.std.proofs.lemmas.Bool.{or_cases}
use Rattle.std.proofs.lemmas.Slice.Eq.{bytes_eq-Decides}
use Rattle.ref_text.specs.declared.head.Head.TheVariants.{Branch, Detached}
use Rattle.ref_text.specs.declared.log.LogLine.{LogLine}
use Rattle.ref_text.specs.Heads.{IsHeadValue, head_text}
use Rattle.ref_text.specs.Logs.{log_text}
use Rattle.ref_text.specs.Refs.{IsWritable, has_log, head_name, log_path, logged, move_head, ref_path}
use Rattle.seq_base.specs.RefNames.{IsRefName, is_below_refs}
use Rattle.seq_base.specs.World.{World, is_below, is_blocked}
use Rattle.seq_base.proofs.RefPaths.{behind_front, below_refs}
use Rattle.seq_base.proofs.Shape.{still_free}
use Rattle.seq_outside.specs.declared.lack.Lack.{Lack}
use Rattle.seq_outside.specs.declared.lack.Lack.TheVariants.{Way}
use Rattle.seq_outside.specs.Turns.{Turn, gives, go_on, put_in}
use Rattle.ref_store.specs.Moves.{LeavesIfOk, branch_moved, detached_moved, head_logged, head_moved, line_added, lines_added, moved_name, ref_set}
use Rattle.ref_text.specs.declared.head.Head.{Head}

-- the file and the log of a name stand neither above nor below a log
record IsApart (name other : List ℕ) : Type 0 where
  above_ref : is_below (ref_path name) (log_path other) ≡ false
  below_ref : is_below (log_path other) (ref_path name) ≡ false
  above_log : is_below (log_path name) (log_path head_name) ≡ false
  below_log : is_below (log_path head_name) (log_path name) ≡ false

begins : (name : List ℕ) → IsRefName name → (name ≡ head_name) ⊎ ((rest : List ℕ) × (name ≡ codes "refs/" ++ rest))
begins name h = elim (or_cases (bytes_eq name head_name) (is_below_refs name) h) [
  | inl is ↦ inl ((bytes_eq-Decides name head_name).0 is)
  | inr is ↦ inr (drop 5 name, behind_front (codes "refs/") name (below_refs name is).begins)
]

apart : (name other : List ℕ) → IsRefName name → IsApart name other
apart name other h = elim (begins name h) [
  | inl is ↦ subst (λ (n : List ℕ). IsApart n other) (sym is) (record { above_ref = refl; below_ref = refl; above_log = refl; below_log = refl })
  | inr (rest, is) ↦ subst (λ (n : List ℕ). IsApart n other) (sym is) (record { above_ref = refl; below_ref = refl; above_log = refl; below_log = refl })
]

pub put_free : (w : World) (path bytes : List ℕ) → is_blocked w path ≡ false → put_in path bytes w ≡ (Ok tt, map.insert w path bytes)
put_free w path bytes free = unfold put_in in rw free refl

pub line_free : (w : World) (name : List ℕ) (line : LogLine) → is_blocked w (log_path name) ≡ false
    → line_added name line w ≡ (Ok tt, logged w name line)
line_free w name line free = unfold line_added in at (unwrap_or (map.get w (log_path name)) [] ++ log_text line) (has_log name)
  where
    at : (text : List ℕ) (b : Bool) → cond b (put_in (log_path name) text w) (gives tt w) ≡ (Ok tt, cond b (map.insert w (log_path name) text) w)
    at text true = put_free w (log_path name) text free
    at text false = refl

pub log_free : (w : World) (name other bytes : List ℕ) → IsRefName name → is_blocked w (log_path other) ≡ false
    → is_blocked (map.insert w (ref_path name) bytes) (log_path other) ≡ false
log_free w name other bytes h free = let a = apart name other h in still_free w (ref_path name) bytes (log_path other) free a.below_ref a.above_ref

head_free : (w : World) (name : List ℕ) (line : LogLine) → IsRefName name → is_blocked w (log_path head_name) ≡ false
    → is_blocked (logged w name line) (log_path head_name) ≡ false
head_free w name line h free = at (unwrap_or (map.get w (log_path name)) [] ++ log_text line) (has_log name)
  where
    at : (text : List ℕ) (b : Bool) → is_blocked (cond b (map.insert w (log_path name) text) w) (log_path head_name) ≡ false
    at text true = let a = apart name head_name h in still_free w (log_path name) text (log_path head_name) free a.below_log a.above_log
    at text false = free

branch_as_head : (w : World) (branch id : List ℕ) (line : LogLine) → IsRefName branch → IsWritable w branch
    → is_blocked w (log_path head_name) ≡ false → branch_moved branch id line w ≡ (Ok tt, move_head w (Branch branch) id line)
branch_as_head w branch id line name writable head =
    let text = head_text (Detached id) in
    let one = map.insert w (ref_path branch) text in
    let two = logged one branch line in
    let first = put_free w (ref_path branch) text writable.ref in
    let second = line_free one branch line (log_free w branch branch text name writable.log) in
    let third = line_free two head_name line (head_free one branch line name (log_free w branch head_name text name head)) in
    unfold branch_moved in unfold ref_set in unfold lines_added in unfold head_logged in rw (first, second) third

detached_as_head : (w : World) (old id : List ℕ) (line : LogLine) → IsWritable w head_name
    → detached_moved id line w ≡ (Ok tt, move_head w (Detached old) id line)
unfolding detached_moved ref_set head_logged
detached_as_head w old id line writable =
    let text = head_text (Detached id) in
    let one = map.insert w (ref_path head_name) text in
    let first = put_free w (ref_path head_name) text writable.ref in
    let second = line_free one head_name line (log_free w head_name head_name text refl writable.log) in
    ap (λ (r : Result (Unit {0}) Lack × World). go_on r (λ _. line_added head_name line)) first ∙ second

pub moved_as_head : (w : World) (head : Head) (id : List ℕ) (line : LogLine) → IsHeadValue head → IsWritable w (moved_name head)
    → is_blocked w (log_path head_name) ≡ false → head_moved head id line w ≡ (Ok tt, move_head w head id line)
moved_as_head w (Branch name) id line is writable free = unfold head_moved in branch_as_head w name id line is writable free
moved_as_head w (Detached old) id line is writable free = unfold head_moved in detached_as_head w old id line writable

-- the name whose file changes is one of a ref
pub moved_is_name : (head : Head) → IsHeadValue head → IsRefName (moved_name head)
moved_is_name (Branch name) is = is
moved_is_name (Detached old) is = refl

-- ---- what the steps leave, where they do not stop

put_leaves : (w : World) (path bytes : List ℕ) → LeavesIfOk (put_in path bytes w) (map.insert w path bytes)
put_leaves w path bytes = unfold put_in in at (is_blocked w path)
  where
    stops : Result (Unit {0}) Lack × World
    stops = (Err (Way path), w)

    goes : Result (Unit {0}) Lack × World
    goes = (Ok tt, map.insert w path bytes)

    at : (b : Bool) → LeavesIfOk (cond b stops goes) (map.insert w path bytes)
    at true = tt
    at false = refl

line_leaves : (w : World) (name : List ℕ) (line : LogLine) → LeavesIfOk (line_added name line w) (logged w name line)
line_leaves w name line = unfold line_added in at (unwrap_or (map.get w (log_path name)) [] ++ log_text line) (has_log name)
  where
    at : (text : List ℕ) (b : Bool) → LeavesIfOk (cond b (put_in (log_path name) text w) (gives tt w)) (cond b (map.insert w (log_path name) text) w)
    at text true = put_leaves w (log_path name) text
    at text false = refl

one_more : (r : Result (Unit {0}) Lack × World) (next : Turn Lack (Unit {0})) (mid aim : World) → LeavesIfOk r mid → LeavesIfOk (next mid) aim
    → LeavesIfOk (go_on r (λ _. next)) aim
one_more (Ok done, left) next mid aim is later = subst (λ (v : World). LeavesIfOk (next v) aim) (sym is) later
one_more (Err why, left) next mid aim is later = tt

branch_leaves : (w : World) (branch id : List ℕ) (line : LogLine) → LeavesIfOk (branch_moved branch id line w) (move_head w (Branch branch) id line)
branch_leaves w branch id line =
    let one = map.insert w (ref_path branch) (head_text (Detached id)) in
    let two = logged one branch line in
    let aim = logged two head_name line in
    unfold branch_moved in one_more (ref_set branch id w) (lines_added branch line) one aim
    (unfold ref_set in put_leaves w (ref_path branch) (head_text (Detached id)))
    (unfold lines_added in one_more (line_added branch line one) (head_logged line) two aim (line_leaves one branch line) (unfold head_logged in line_leaves two head_name line))

detached_leaves : (w : World) (old id : List ℕ) (line : LogLine) → LeavesIfOk (detached_moved id line w) (move_head w (Detached old) id line)
detached_leaves w old id line =
    let one = map.insert w (ref_path head_name) (head_text (Detached id)) in
    unfold detached_moved in one_more (ref_set head_name id w) (head_logged line) one (logged one head_name line)
    (unfold ref_set in put_leaves w (ref_path head_name) (head_text (Detached id)))
    (unfold head_logged in line_leaves one head_name line)

pub moved_leaves : (w : World) (head : Head) (id : List ℕ) (line : LogLine) → LeavesIfOk (head_moved head id line w) (move_head w head id line)
moved_leaves w (Branch name) id line = unfold head_moved in branch_leaves w name id line
moved_leaves w (Detached old) id line = unfold head_moved in detached_leaves w old id line
