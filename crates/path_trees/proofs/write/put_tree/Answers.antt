use Rattle.std.proofs.Common.{List, ℕ, Ok, Err, subst, ◌∙◌}
use Rattle.object_text.specs.TreeMaps.{tree_object}
use Rattle.object_text.specs.declared.object.Kind.TheVariants.{Tree}
use Rattle.objects.specs.Puts.{HasPut as HasObjectPut}
use Rattle.objects.proofs.Digests.{away}
use Rattle.objects.proofs.Putting.{object_is_put}
use Rattle.objects.proofs.Writing.{put_keeps}
use Rattle.path_trees.proofs.Puts.{tree_not_put}
use Rattle.path_trees.proofs.write.put_tree.Goals as goal

pub returns-in-Ok-clause-put : goal.returns-in-Ok-clause-put
returns-in-Ok-clause-put g c told =
    let w = (g.S.Store.seen c.args.store.now).content in
    let new = (g.S.Store.seen c.put.new.store).content in
    let text = c.deref.ensures.value ∙ c.in_ok-text.ensures.text_is in
    object_is_put w (tree_object c.args.entries.now) c.in-Ok.id new (subst (λ (bytes : List ℕ). HasObjectPut w (record { kind = Tree; bytes = bytes }) (Ok c.in-Ok.id) new) text (c.in-Ok.ensures.put told))

pub returns-in-Ok-clause-keeps : goal.returns-in-Ok-clause-keeps
returns-in-Ok-clause-keeps g c told = put_keeps _ (record { kind = Tree; bytes = c.deref.result.now }) (Ok c.in-Ok.id) _ (c.in-Ok.ensures.put told)

pub returns-in-Ok-clause-elsewhere : goal.returns-in-Ok-clause-elsewhere
returns-in-Ok-clause-elsewhere g c told path other =
    c.in-Ok.ensures.elsewhere told path (away path (record { kind = Tree; bytes = c.deref.result.now }) other)

pub returns-clause-put : goal.returns-clause-put
returns-clause-put g c told =
    let w = (g.S.Store.seen c.args.store.now).content in
    let new = (g.S.Store.seen c.put.new.store).content in
    let text = c.deref.ensures.value ∙ c.in_ok-text.ensures.text_is in
    rw c.put_fault.ensures (tree_not_put w c.args.entries.now c.in-Err.fault new (subst (λ (bytes : List ℕ). HasObjectPut w (record { kind = Tree; bytes = bytes }) (Err c.in-Err.fault) new) text (c.in-Err.ensures.put told)))

pub returns-clause-keeps : goal.returns-clause-keeps
returns-clause-keeps g c told = put_keeps _ (record { kind = Tree; bytes = c.deref.result.now }) (Err c.in-Err.fault) _ (c.in-Err.ensures.put told)

pub returns-clause-elsewhere : goal.returns-clause-elsewhere
returns-clause-elsewhere g c told path other =
    c.in-Err.ensures.elsewhere told path (away path (record { kind = Tree; bytes = c.deref.result.now }) other)
