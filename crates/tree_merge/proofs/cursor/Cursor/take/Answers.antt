use Rattle.std.proofs.Common.{refl, sym, ◌∙◌, arith}
use Rattle.std.specs.Str.{bytes_eq}
use Rattle.tree_merge.proofs.Cursors.{head_at, at_within, when_not_false, when_not_true}
use Rattle.tree_merge.proofs.cursor.Cursor.take.Goals as goal

pub returns-then-ne-clause-entry : goal.returns-then-ne-clause-entry
returns-then-ne-clause-entry c =
    let is = sym c.self.view_is ∙ head_at c.self.inside.map.now c.self.inside.next _ c.in-Some.ensures in
    rw is (rw (when_not_true (bytes_eq c.in-Some.first.now c.args.path.now) c.if-ne.ensures) refl)

pub returns-then-ne-clause-rest : goal.returns-then-ne-clause-rest
returns-then-ne-clause-rest c =
    let is = sym c.self.view_is ∙ head_at c.self.inside.map.now c.self.inside.next _ c.in-Some.ensures in
    rw is (rw (when_not_true (bytes_eq c.in-Some.first.now c.args.path.now) c.if-ne.ensures) refl)

pub overflow_add-self : goal.overflow_add-self
overflow_add-self c = let k = at_within c.self.inside.map.now c.self.inside.next _ c.in-Some.ensures in omega (arith, k, c.len-length.ensures.value)

pub returns-clause-entry : goal.returns-clause-entry
returns-clause-entry c =
    let is = sym c.self.view_is ∙ head_at c.self.inside.map.now c.self.inside.next _ c.in-Some.ensures in
    rw is (rw (when_not_false (bytes_eq c.in-Some.first.now c.args.path.now) c.if-ne.ensures) refl)

pub returns-clause-rest : goal.returns-clause-rest
returns-clause-rest c =
    let is = sym c.self.view_is ∙ head_at c.self.inside.map.now c.self.inside.next _ c.in-Some.ensures in
    rw is (rw (when_not_false (bytes_eq c.in-Some.first.now c.args.path.now) c.if-ne.ensures) refl)
