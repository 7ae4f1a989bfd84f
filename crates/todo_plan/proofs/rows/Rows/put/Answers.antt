use Rattle.std.proofs.Common.{rules, ◌≡◌, ◌∷◌, ◌++◌, ℕ, List, [], true, false, length, is_some, Result, Ok, Err, sym, ap, subst, ◌∙◌}
use Rattle.std.specs.Prelude.{OnOk, is_ok}
use Rattle.todo_plan.specs.Autosquash.{Row, with_subject}
use Rattle.todo_plan.specs.Shape.{AreRows}
use Rattle.todo_plan.proofs.RowLaws.{row_known, row_new}
use Rattle.todo_plan.proofs.rows.Rows.put.Goals as goal

on_ok : {T E : Type 0} (r : Result T E) (P : Type 0) → OnOk r P → is_ok r ≡ true → P
on_ok (Ok x) P h e = h
on_ok (Err x) P h e = absurd cc

pub invariant_of-self-then-is_known : goal.invariant_of-self-then-is_known
invariant_of-self-then-is_known c =
    let rows = c.self.inside.rows.items in
    let found : is_some c.first-found.result ≡ true = cc in
    let there : is_some (with_subject rows c.args.key) ≡ true = ap (λ (rs : List Row). is_some (with_subject rs c.args.key)) c.self.view_is ∙ ap is_some (sym c.first-found.ensures) ∙ found in
    rw c.in_ok-push.ensures.items (subst (λ (k : List ℕ). AreRows (rows ++ (c.args.hex, k) ∷ []) c.self.inside.subjects) c.requires (row_known rows c.args.hex c.args.key c.self.inside.subjects c.self.invariant there))

pub invariant_of-self-else-is_err : goal.invariant_of-self-else-is_err
invariant_of-self-else-is_err c =
    let rows = c.self.inside.rows.items in
    let found : is_some c.first-found.result ≡ false = cc in
    let new : is_some (with_subject rows c.args.key) ≡ false = ap (λ (rs : List Row). is_some (with_subject rs c.args.key)) c.self.view_is ∙ ap is_some (sym c.first-found.ensures) ∙ found in
    let is : c.len-number.result ≡ length rows = search rules in
    let puts = on_ok c.insert.result _ c.insert.ensures.updates c.if-is_err.ensures.negation in
    rw c.in_ok-push.ensures.items (subst (λ (k : List ℕ). AreRows (rows ++ (c.args.hex, k) ∷ []) c.insert.new.self) c.requires (row_new rows c.args.hex c.args.key c.self.inside.subjects c.insert.new.self c.len-number.result c.self.invariant new is puts.0))
