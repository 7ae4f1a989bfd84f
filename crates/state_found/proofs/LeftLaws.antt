-- What is left of a rebase is one thing.
use Rattle.std.proofs.Common.{◌≡◌, ℕ, Bool, List, refl, sym, ap, subst}
use Rattle.todo_text.specs.declared.line.Line.{Line}
use Rattle.todo_text.specs.Todos.{SpellsTodo}
use Rattle.state_text.specs.declared.control.Left.{Left}
use Rattle.state_text.specs.declared.control.Left.TheVariants.{Lines, Raw}
use Rattle.state_found.specs.Found.{IsLeftOf}
use Rattle.state_found.specs.Judged.{IsOnlyLeft}

pub only_lines : (earlier : Bool) (bytes : List ℕ) (ls : List Line) → SpellsTodo earlier bytes ls
    → ((others : List Line) → SpellsTodo earlier bytes others → others ≡ ls) → IsOnlyLeft earlier bytes (Lines ls)
only_lines earlier bytes ls spells only = record { is = spells; only = λ other h. same other h }
  where
    same : (other : Left) → IsLeftOf earlier bytes other → Lines ls ≡ other
    same (Lines ms) h = ap Lines (sym (only ms h))
    same (Raw raw) h = absurd (h.1 ls spells)

pub only_bytes : (earlier : Bool) (bytes : List ℕ) (left : Left) → left ≡ Raw bytes → ((others : List Line) → SpellsTodo earlier bytes others → ⊥)
    → IsOnlyLeft earlier bytes left
only_bytes earlier bytes left is none =
    let P : Left → Type 0 = λ l. IsOnlyLeft earlier bytes l in subst P (sym is) (record { is = (refl, none); only = λ other h. same other h })
  where
    same : (other : Left) → IsLeftOf earlier bytes other → Raw bytes ≡ other
    same (Lines ms) h = absurd (none ms h)
    same (Raw raw) h = ap Raw (sym h.0)
