use Rattle.std.proofs.Common.{List, reverse, sym, ap, ◌∙◌, subst}
use Rattle.grammar.specs.Gives.{Fails}
use Rattle.object_text.specs.declared.tree.TreeEntry.{TreeEntry}
use Rattle.object_text.specs.ReadTrees.{IsTreeSoFar, entry_from}
use Rattle.object_text.proofs.Entries.{TreeLoop, tree_none, tree_more, tree_err, tree_done}
use Rattle.object_text.proofs.tree.entries_of.Goals as goal

pub loop-rest-init : goal.loop-rest-init
loop-rest-init c =
    subst (λ (es : List TreeEntry). TreeLoop c.args.bytes.now es c.args.bytes.now) (sym c.new-entries.ensures.items) (tree_none c.args.bytes.now)

pub entry_of-requires : goal.entry_of-requires
entry_of-requires c = subst (λ (es : List TreeEntry). IsTreeSoFar (reverse es)) (sym c.deref.ensures.value) c.loop-rest.invariant.good

pub loop-rest-smaller : goal.loop-rest-smaller
loop-rest-smaller c =
    let read = ap (λ (es : List TreeEntry). entry_from (reverse es) c.loop-rest.rest.now) (sym c.deref.ensures.value) ∙ c.in-Ok.ensures in
    (tree_more c.args.bytes.now c.loop-rest.entries.items c.loop-rest.rest.now c.in-Ok.entry c.in-Ok.after.now (sym c.is_empty.ensures ∙ c.loop-rest-test.true) read c.loop-rest.invariant).1

pub loop-rest-preserved : goal.loop-rest-preserved
loop-rest-preserved c =
    let read = ap (λ (es : List TreeEntry). entry_from (reverse es) c.loop-rest.rest.now) (sym c.deref.ensures.value) ∙ c.in-Ok.ensures in
    let more = (tree_more c.args.bytes.now c.loop-rest.entries.items c.loop-rest.rest.now c.in-Ok.entry c.in-Ok.after.now (sym c.is_empty.ensures ∙ c.loop-rest-test.true) read c.loop-rest.invariant).0 in
    subst (λ (es : List TreeEntry). TreeLoop c.args.bytes.now es c.in-Ok.after.now) (sym c.in_ok-push-in-Ok.ensures.items) more

pub returns-in-Err : goal.returns-in-Err
returns-in-Err c =
    let read = subst (λ (es : List TreeEntry). Fails c.in-Err.e (entry_from (reverse es) c.loop-rest.rest.now)) c.deref.ensures.value c.in-Err.ensures in
    tree_err c.args.bytes.now c.loop-rest.entries.items c.loop-rest.rest.now c.in-Err.e (sym c.is_empty.ensures ∙ c.loop-rest-test.true) read c.loop-rest.invariant

pub returns : goal.returns
returns c =
    tree_done c.args.bytes.now c.loop-rest.entries.items c.loop-rest.rest.now (sym c.is_empty.ensures ∙ c.loop-rest-test.false) c.loop-rest.invariant
