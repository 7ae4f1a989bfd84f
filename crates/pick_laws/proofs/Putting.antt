-- An object that was put, and HEAD that was moved.
use Rattle.std.proofs.Common.{◌≡◌, ◌≢◌, ℕ, ◌≤◌, [], ◌++◌, Bool, true, false, cond, get_or, length, List, Option, Some, None, Result, Ok, Err, refl, sym, ap, subst, ◌∙◌, arith}
use Rattle.std.specs.Prelude.{codes, nat_lt, unwrap_or}
use Rattle.std.specs.FinMap as map
use Rattle.std.specs.Str.{bytes_eq}
use Rattle.std.proofs.lemmas.Bool.Decides.{nat_tests}
use Rattle.std.proofs.lemmas.Slice.Eq.{bytes_eq-Decides}
use Rattle.object_text.specs.declared.object.Object.{Object}
use Rattle.object_text.specs.Objects.{object_text}
use Rattle.object_text.specs.Store.{content_limit, object_id}
use Rattle.objects.specs.Puts.{object_over, object_put}
use Rattle.ref_store.specs.Moves.{branch_moved, detached_moved, head_logged, head_moved, line_added, lines_added, moved_name, ref_set}
use Rattle.ref_text.specs.declared.head.Head.{Head}
use Rattle.ref_text.specs.declared.head.Head.TheVariants.{Branch, Detached}
use Rattle.ref_text.specs.declared.log.LogLine.{LogLine}
use Rattle.ref_text.specs.Heads.{head_text}
use Rattle.ref_text.specs.Logs.{log_text}
use Rattle.ref_text.specs.Refs.{has_log, head_name, log_path, ref_path}
use Rattle.seq_base.specs.Repository.{object_path}
use Rattle.seq_base.specs.RefNames.{IsRefName}
use Rattle.seq_base.specs.Words.{Id, Name, Path, Text}
use Rattle.seq_base.specs.World.{World, is_blocked}
use Rattle.seq_base.proofs.RefPaths.{behind_front, below_refs, each_name}
use Rattle.seq_outside.specs.Halts.{stop_if}
use Rattle.seq_outside.proofs.Turning.{same_answer, same_world}
use Rattle.seq_outside.specs.Turns.{◌>>=◌, gives, go_on, looked, looks, put_in}
use Rattle.seq_outside.specs.declared.lack.Lack.{Lack}
use Rattle.seq_outside.specs.declared.lack.Lack.TheVariants.{Limit, Place, Way}
use Rattle.seq_outside.specs.declared.limit.LimitWhat.TheVariants.{ObjectBytes}
use Rattle.pick_laws.proofs.Turning.{both_are, bound, put_here, put_there, was_put}

-- ---- an object

-- the object stands in its file, and every other path is as before
pub record IsStored (o : Object) (u : World) (id : Id) (v : World) : Type 0 where
  pub id_is : id ≡ object_id o
  pub within : length o.bytes ≤ content_limit
  pub file : map.get v (object_path id) ≡ Some (object_text o)
  pub stays : (path text : Text) → map.get u path ≡ Some text → map.get v path ≡ Some text
  pub elsewhere : (path : Path) → path ≢ object_path id → map.get v path ≡ map.get u path

module _ (o : Object) (u : World) (id : Id) (v : World) where
  abbrev path : Path
  path = object_path (object_id o)

  abbrev text : Text
  text = object_text o

  put_new : length o.bytes ≤ content_limit → map.get u path ≡ None → (b : Bool)
      → go_on (cond {A = Result (Unit {0}) Lack × World} b (Err (Way path), u) (Ok tt, map.insert u path text)) (λ put. gives (object_id o)) ≡ (Ok id, v)
      → IsStored o u id v
  put_new within none true e = let never = same_answer e in absurd cc
  put_new within none false e =
      let same = both_are {E = Lack} (object_id o) id (map.insert u path text) v e in
      subst (λ (t : Id × World). IsStored o u t.0 t.1) same
      (record {
        id_is = refl;
        within = within;
        file = put_here u path text;
        stays = λ q bytes there. put_there u path text q (λ is. let here = sym there ∙ ap (map.get u) is ∙ none in absurd cc) ∙ there;
        elsewhere = λ q other. put_there u path text q other;
      })

  put_old : length o.bytes ≤ content_limit → (kept : Text) → map.get u path ≡ Some kept → (b : Bool) → bytes_eq kept text ≡ b
      → looked (cond {A = Result Id Lack} b (Ok (object_id o)) (Err (Place (object_id o)))) u ≡ (Ok id, v) → IsStored o u id v
  put_old within kept there true is e =
      let same = both_are {E = Lack} (object_id o) id u v e in
      subst (λ (t : Id × World). IsStored o u t.0 t.1) same
      (record {
        id_is = refl;
        within = within;
        file = there ∙ ap Some ((bytes_eq-Decides kept text).0 is);
        stays = λ q bytes stands. stands;
        elsewhere = λ q other. refl;
      })
  put_old within kept there false is e = let never = same_answer e in absurd cc

  put_over : length o.bytes ≤ content_limit → (file : Option Text) → map.get u path ≡ file → object_over o file u ≡ (Ok id, v) → IsStored o u id v
  unfolding put_in
  put_over within None is e = put_new within is (is_blocked u path) e
  put_over within (Some kept) is e = put_old within kept is (bytes_eq kept text) refl e

  put_sized : (b : Bool) → nat_lt content_limit (length o.bytes) ≡ b
      → go_on (looked (stop_if b (Limit ObjectBytes (length o.bytes))) u) (λ small. looks (λ w. Ok (map.get w path)) >>= object_over o) ≡ (Ok id, v)
      → IsStored o u id v
  put_sized true is e = let never = same_answer e in absurd cc
  put_sized false is e = put_over (grind (arith, nat_tests)) (map.get u path) refl e

  pub stored : object_put o u ≡ (Ok id, v) → IsStored o u id v
  unfolding object_put
  stored e = put_sized (nat_lt content_limit (length o.bytes)) refl e

-- ---- HEAD

-- the name's file has the value; its log and HEAD's alone differ besides
pub record IsMoved (branch : Name) (id : Id) (u v : World) : Type 0 where
  pub file : map.get v (ref_path branch) ≡ Some (head_text (Detached id))
  pub elsewhere : (path : Path) → path ≢ ref_path branch → path ≢ log_path branch → path ≢ log_path head_name → map.get v path ≡ map.get u path

line_elsewhere : (name : Name) (line : LogLine) (u v : World) → line_added name line u ≡ (Ok tt, v) → (q : Path) → q ≢ log_path name
    → map.get v q ≡ map.get u q
unfolding line_added
line_elsewhere name line u v e q other = at (has_log name) (unwrap_or (map.get u (log_path name)) [] ++ log_text line) e
  where
    at : (b : Bool) (text : Text) → cond b (put_in (log_path name) text u) (gives tt u) ≡ (Ok tt, v) → map.get v q ≡ map.get u q
    at true text e = ap (λ (w : World). map.get w q) (was_put (log_path name) text u v e) ∙ put_there u (log_path name) text q other
    at false text e = ap (λ (w : World). map.get w q) (sym (same_world e))

pub first_of : (P : ℕ → Type 0) → P 72 → P 114 → (name : Name) → IsRefName name → P (get_or name 0 0)
first_of P head below name is =
    each_name (λ n. P (get_or n 0 0)) name head (λ h. subst (λ (n : Name). P (get_or n 0 0)) (sym (behind_front (codes "refs/") name (below_refs name h).begins)) below) is

pub ref_no_log : (name other : Name) → IsRefName name → ref_path name ≢ log_path other
ref_no_log name other is e =
    first_of (λ b. b ≡ 108 → ⊥) (λ k. absurd (omega arith)) (λ k. absurd (omega arith)) name is (ap (λ (l : List ℕ). get_or l 5 0) e)

branch_is_moved : (branch : Name) (id : Id) (line : LogLine) (u v : World) → IsRefName branch → branch_moved branch id line u ≡ (Ok tt, v)
    → IsMoved branch id u v
unfolding branch_moved lines_added head_logged ref_set
branch_is_moved branch id line u v name e =
    let one = bound (ref_set branch id) (λ _. lines_added branch line) u tt v e in
    let two = bound (line_added branch line) (λ _. head_logged line) one.between tt v one.then in
    let set = was_put (ref_path branch) (head_text (Detached id)) u one.between one.first in
    record {
      file =
          line_elsewhere head_name line two.between v two.then (ref_path branch) (ref_no_log branch head_name name)
          ∙ line_elsewhere branch line one.between two.between two.first (ref_path branch) (ref_no_log branch branch name)
          ∙ ap (λ (w : World). map.get w (ref_path branch)) set ∙ put_here u (ref_path branch) (head_text (Detached id));
      elsewhere =
          λ q ref log head. line_elsewhere head_name line two.between v two.then q head
          ∙ line_elsewhere branch line one.between two.between two.first q log ∙ ap (λ (w : World). map.get w q) set
          ∙ put_there u (ref_path branch) (head_text (Detached id)) q ref;
    }

detached_is_moved : (id : Id) (line : LogLine) (u v : World) → detached_moved id line u ≡ (Ok tt, v) → IsMoved head_name id u v
unfolding detached_moved head_logged ref_set
detached_is_moved id line u v e =
    let one = bound (ref_set head_name id) (λ _. head_logged line) u tt v e in
    let set = was_put (ref_path head_name) (head_text (Detached id)) u one.between one.first in
    record {
      file =
          line_elsewhere head_name line one.between v one.then (ref_path head_name) (ref_no_log head_name head_name refl)
          ∙ ap (λ (w : World). map.get w (ref_path head_name)) set ∙ put_here u (ref_path head_name) (head_text (Detached id));
      elsewhere =
          λ q ref log head. line_elsewhere head_name line one.between v one.then q head ∙ ap (λ (w : World). map.get w q) set
          ∙ put_there u (ref_path head_name) (head_text (Detached id)) q ref;
    }

pub moved : (on : Head) (id : Id) (line : LogLine) (u v : World) → IsRefName (moved_name on) → head_moved on id line u ≡ (Ok tt, v)
    → IsMoved (moved_name on) id u v
unfolding head_moved
moved (Branch branch) id line u v name e = branch_is_moved branch id line u v name e
moved (Detached old) id line u v name e = detached_is_moved id line u v e
