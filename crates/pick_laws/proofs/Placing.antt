-- The places in which a pick writes are apart.
use Rattle.std.proofs.Common.{◌≡◌, ◌≢◌, ℕ, ◌++◌, get_or, List, ◌∷◌, Some, None, refl, sym, ap, subst, ◌∙◌, arith}
use Rattle.std.specs.Prelude.{codes}
use Rattle.ref_text.specs.Refs.{log_path, ref_path}
use Rattle.seq_base.specs.Paths.{IsPath, first_bad, parts}
use Rattle.seq_base.specs.RefNames.{IsRefName}
use Rattle.seq_base.specs.Repository.{object_path}
use Rattle.seq_base.specs.Words.{Id, Name, Path}
use Rattle.seq_base.proofs.Places.{parts-behind}
use Rattle.seq_model.specs.Making.{message_path}
use Rattle.pick_laws.proofs.Putting.{first_of}

abbrev pub index_path : Path
index_path = codes ".git/index"

-- they differ in the byte behind `.git/`
differs : (a b : Path) → (get_or a 5 0 ≡ get_or b 5 0 → ⊥) → a ≢ b
differs a b other e = other (ap (λ (l : List ℕ). get_or l 5 0) e)

pub index_no_object : (id : Id) → index_path ≢ object_path id
index_no_object id = differs index_path (object_path id) (λ k. absurd (omega arith))

pub message_no_object : (id : Id) → message_path ≢ object_path id
message_no_object id = differs message_path (object_path id) (λ k. absurd (omega arith))

pub index_no_message : index_path ≢ message_path
index_no_message = differs index_path message_path (λ k. absurd (omega arith))

pub object_no_log : (id : Id) (name : Name) → object_path id ≢ log_path name
object_no_log id name = differs (object_path id) (log_path name) (λ k. absurd (omega arith))

pub index_no_log : (name : Name) → index_path ≢ log_path name
index_no_log name = differs index_path (log_path name) (λ k. absurd (omega arith))

pub object_no_ref : (id : Id) (name : Name) → IsRefName name → object_path id ≢ ref_path name
object_no_ref id name is =
    differs (object_path id) (ref_path name) (first_of (λ b. 111 ≡ b → ⊥) (λ k. absurd (omega arith)) (λ k. absurd (omega arith)) name is)

pub index_no_ref : (name : Name) → IsRefName name → index_path ≢ ref_path name
index_no_ref name is =
    differs index_path (ref_path name) (first_of (λ b. 105 ≡ b → ⊥) (λ k. absurd (omega arith)) (λ k. absurd (omega arith)) name is)

-- a path of the worktree does not lie in `.git`
pub not_in_git : (rest : List ℕ) → IsPath (codes ".git/" ++ rest) → ⊥
not_in_git rest is =
    let bad : first_bad 0 (codes ".git" ∷ parts rest) ≡ Some 0 = refl in
    let none : first_bad 0 (codes ".git" ∷ parts rest) ≡ None = ap (first_bad 0) (sym (parts-behind (codes ".git") rest)) ∙ is.parts_are in
    absurd (let k : Some 0 ≡ None = sym bad ∙ none in cc)

pub path_no_git : (path : Path) (rest : List ℕ) → IsPath path → path ≢ codes ".git/" ++ rest
path_no_git path rest is e = not_in_git rest (subst IsPath e is)

abbrev pub head_path : Path
head_path = codes ".git/HEAD"

pub head_no_object : (id : Id) → head_path ≢ object_path id
head_no_object id = differs head_path (object_path id) (λ k. absurd (omega arith))

pub head_no_message : head_path ≢ message_path
head_no_message = differs head_path message_path (λ k. absurd (omega arith))

pub head_no_index : head_path ≢ index_path
head_no_index = differs head_path index_path (λ k. absurd (omega arith))
