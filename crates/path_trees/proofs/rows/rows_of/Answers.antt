use Rattle.std.proofs.Common.{List, [], ◌∷◌, ◌++◌, ℕ, ap, subst, ◌∙◌}
use Rattle.seq_base.specs.Paths.{IsPath, IsPathFaultOrMemory}
use Rattle.object_text.specs.TreeMaps.{below}
use Rattle.object_text.specs.declared.tree.TreeEntry.{TreeEntry}
use Rattle.path_trees.proofs.Paths.{HasTaken, one_taken, path_passes, rows_fail}
use Rattle.path_trees.proofs.rows.rows_of.Goals as goal

pub returns-in-Err : goal.returns-in-Err
returns-in-Err c =
    let taken = subst (λ (es : List TreeEntry). HasTaken c.args.folder.now c.args.entries.items es c.rows.rows.items) c.in-Some.ensures.items c.rows.invariant in
    let fault = subst (λ (name : List ℕ). IsPathFaultOrMemory (below c.args.folder.now name) c.in-Err.fault) c.as_slice.ensures c.in-Err.ensures.fault in
    rw c.fault_of_path.ensures (rows_fail c.args.folder.now c.args.id c.args.entries.items c.pop.new.self.items c.in-Some.e c.rows.rows.items c.in-Err.fault taken c.requires.order c.requires.folder fault)

pub rows-preserved : goal.rows-preserved
rows-preserved c =
    let taken = subst (λ (es : List TreeEntry). HasTaken c.args.folder.now c.args.entries.items es c.rows.rows.items) c.in-Some.ensures.items c.rows.invariant in
    let path = subst (λ (name : List ℕ). IsPath (below c.args.folder.now name)) c.as_slice.ensures c.in-Ok.ensures.ok.1 in
    let bytes = c.in-Ok.ensures.ok.0 ∙ ap (below c.args.folder.now) c.as_slice.ensures in
    one_taken c.args.folder.now c.args.entries.items c.pop.new.self.items c.in-Some.e c.rows.rows.items c.push.new.self.items taken (path_passes (below c.args.folder.now c.in-Some.e.name) path)
    (c.in_ok-push-in-Ok.ensures.items ∙ ap (λ (p : List ℕ). c.rows.rows.items ++ (p, record { mode = c.in-Some.e.mode; id = c.in-Some.e.id }) ∷ []) bytes)
