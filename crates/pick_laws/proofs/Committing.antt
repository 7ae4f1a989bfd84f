-- The commit that a pick made is read back, and HEAD is at it.
use Rattle.std.proofs.Common.{◌≡◌, ℕ, ◌≤◌, ◌*◌, Bool, true, false, List, [], ◌∷◌, ◌++◌, length, Some, Ok, inr, refl, sym, ap, subst, ◌∙◌, arith}
use Rattle.std.specs.Prelude.{MatchBool, nat_lt}
use Rattle.std.specs.FinMap as map
use Rattle.std.specs.List.{AllByRecursion}
use Rattle.std.specs.Str.{bytes_eq}
use Rattle.std.proofs.lemmas.List.{append-nil}
use Rattle.hex.specs.Hex.{IsBytes, encode_lower, lower_digits}
use Rattle.hex.proofs.HexLemmas.{length-encode_with}
use Rattle.object_text.specs.declared.commit.Commit.{Commit as CommitFields}
use Rattle.object_text.specs.declared.object.Object.{Object}
use Rattle.object_text.specs.Commits.{IsCommitValue, commit_text}
use Rattle.object_text.specs.Objects.{object_text}
use Rattle.object_text.specs.Store.{content_limit, object_id}
use Rattle.object_text.proofs.CommitValues.{commit_written, spells_lower}
use Rattle.object_text.proofs.KeptLaws.{commit_texts, kept_object}
use Rattle.object_text.proofs.ObjectLaws.{object_written}
use Rattle.objects.specs.Named.{commit_in, commit_named, commit_spelled, object_named}
use Rattle.objects.specs.Puts.{object_put}
use Rattle.ref_store.specs.Moves.{head_moved}
use Rattle.ref_text.specs.declared.head.Head.{Head}
use Rattle.ref_text.specs.declared.head.Head.TheVariants.{Detached}
use Rattle.ref_text.specs.Heads.{SpellsHead, head_text}
use Rattle.ref_text.specs.Refs.{Decides, RefAt, RefWithin, SpellsFile, SpellsLoose, head_name, ref_path}
use Rattle.ref_text.proofs.Written.{id_spells}
use Rattle.seq_base.specs.Ids.{SpellsId}
use Rattle.seq_base.specs.Repository.{object_path}
use Rattle.seq_base.specs.Words.{Id, Name, Text}
use Rattle.seq_base.specs.World.{World}
use Rattle.seq_model.specs.Making.{commit_object, pick_line, with_commit}
use Rattle.seq_model.specs.Refusing.{denied_git}
use Rattle.seq_model.specs.declared.denial.Denial.{Denial}
use Rattle.seq_outside.specs.Turns.{◌>>=◌, gives, saying}
use Rattle.pick_laws.proofs.Turning.{both_are, bound, said}

-- the commit was put, and then HEAD was moved to it
pub record WithCommit (on : Head) (head : Id) (c : CommitFields) (who : Text) (u : World) (id : Id) (v : World) : Type 0 where
  pub between : World
  pub put : object_put (commit_object c) u ≡ (Ok id, between)
  pub move : head_moved on id (pick_line head id who c.message) between ≡ (Ok tt, v)

pub with_commit_is : (on : Head) (head : Id) (c : CommitFields) (who : Text) (u : World) (id : Id) (v : World)
    → with_commit on head c who u ≡ (Ok id, v) → WithCommit on head c who u id v
unfolding with_commit
with_commit_is on head c who u id v e =
    let one = bound (saying denied_git (object_put (commit_object c))) (λ x. saying denied_git (head_moved on x (pick_line head x who c.message)) >>= λ _. gives x) u id v e in
    let two = bound (saying denied_git (head_moved on one.given (pick_line head one.given who c.message))) (λ _. gives one.given) one.between id v one.then in
    let put = said denied_git (object_put (commit_object c)) u one.given one.between one.first in
    let move = said denied_git (head_moved on one.given (pick_line head one.given who c.message)) one.between two.given two.between two.first in
    let same = both_are {E = Denial} one.given id two.between v two.then in
    subst (λ (t : Id × World). WithCommit on head c who u t.0 t.1) same (record { between = one.between; put = put; move = move })

-- ---- the value of a name

either : (b : Bool) (P Q : Type 0) → P → Q → MatchBool b P Q
either true P Q p q = p
either false P Q p q = q

id_file : (name : Name) (id : Id) → IsBytes id × (length id ≡ 20) → SpellsFile name (Detached id) (head_text (Detached id))
id_file name id is =
    either (bytes_eq name head_name) (SpellsHead (Detached id) (head_text (Detached id))) (SpellsLoose (Detached id) (head_text (Detached id))) (id_spells id is)
    (record { line = encode_lower id; blanks = []; end = 10 ∷ []; is_line = id_spells id is; are_blanks = refl; is_end = inr refl; bytes_are = ap (λ (l : List ℕ). l ++ 10 ∷ []) (sym (append-nil (encode_lower id))) })

pub has_value : (w : World) (name : Name) (id : Id) → IsBytes id × (length id ≡ 20) → map.get w (ref_path name) ≡ Some (head_text (Detached id))
    → RefAt w name (Some id)
has_value w name id is file =
    subst (Decides w (λ other. RefWithin 5 w other (Some id)) name (Some id)) (sym file) (Detached id, id_file name id is, refl)

-- ---- the commit

-- an id of twenty bytes is spelled by its digits
spelled : (id : Id) → IsBytes id × (length id ≡ 20) → SpellsId id (encode_lower id)
spelled id is = spells_lower id (encode_lower id) is.0 (length-encode_with lower_digits id ∙ ap (λ (n : ℕ). 2 * n) is.1) refl

one_parent : (c : CommitFields) (head : Id) → c.parents ≡ head ∷ [] → nat_lt 16 (length c.parents) ≡ false
one_parent c head is = ap (λ (ids : List Id). nat_lt 16 (length ids)) is

-- a commit whose text stands in its file is read back
pub reads_back : (w : World) (c : CommitFields) (head : Id) → IsCommitValue c → IsBytes c.tree × (length c.tree ≡ 20)
    → IsBytes head × (length head ≡ 20) → c.parents ≡ head ∷ []
    → length (commit_text c) ≤ content_limit → map.get w (object_path (object_id (commit_object c))) ≡ Some (object_text (commit_object c)) → commit_named w (object_id (commit_object c)) ≡ Ok c
unfolding commit_named object_named commit_in commit_spelled
reads_back w c head value tree on parents within file =
    let o : Object = commit_object c in
    let there = kept_object w (object_id o) o (record { text = object_text o; file = file; spelled = object_written o (object_text o) (omega arith) refl; within = within; hash = refl }) in
    let all = subst (λ (ids : List Id). AllByRecursion (λ (i : Id). SpellsId i (encode_lower i)) ids) (sym parents) (spelled head on, tt) in
    let reads = (commit_texts (commit_text c) c).1 (commit_written c (commit_text c) value (spelled c.tree tree) all refl) in
    rw (there, reads, one_parent c head parents) refl
