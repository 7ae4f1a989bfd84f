use Rattle.std.proofs.Common.{◌≡◌, true, false, Ok, sym, subst, ◌∙◌}
use Rattle.std.specs.Result.{IfOk}
use Rattle.seq_base.specs.PathMaps.{IsPathMap, Entries}
use Rattle.object_text.specs.TreeMaps.{is_too_deep, map_at, root_of}
use Rattle.path_trees.specs.Puts.{HasPut, folder_put}
use Rattle.path_trees.proofs.PathNames.{cut_none, goes_at_root}
use Rattle.path_trees.proofs.ReadBack.{objects_put, reads_back, shallow_put, too_deep}
use Rattle.path_trees.proofs.write.write_map.Goals as goal
use Rattle.path_trees.proofs.write.write_map.Goals.{After-put_folder}

-- the trees of the root were put
put : (g : _) (c : After-put_folder g) → g.S.Store.told
    → HasPut c.put_folder.result (folder_put c.args.map.now (g.S.Store.seen c.args.store.now).content) (g.S.Store.seen c.put_folder.new.store).content
put g c told =
    subst (λ (rows : Entries). HasPut c.put_folder.result (folder_put rows (g.S.Store.seen c.args.store.now).content) (g.S.Store.seen c.put_folder.new.store).content) (cut_none c.entries-rows.result.now ∙ c.entries-rows.ensures.entries) (c.put_folder.ensures.put told)

pub returns-then-is_too_deep-clause-trees : goal.returns-then-is_too_deep-clause-trees
returns-then-is_too_deep-clause-trees g c told =
    too_deep c.args.map.now _ (subst (λ (rows : Entries). is_too_deep rows ≡ true) c.entries-rows.ensures.entries (sym c.is_too_deep.ensures.deep ∙ c.if-is_too_deep.true))

pub put_folder-requires : goal.put_folder-requires
put_folder-requires g c =
    goes_at_root c.entries-rows.result.now (c.is_too_deep.ensures.paths c.if-is_too_deep.false) (subst IsPathMap (sym c.entries-rows.ensures.entries) c.entries-rows.ensures.map)

pub returns-clause-trees : goal.returns-clause-trees
returns-clause-trees g c told =
    let low = subst (λ (rows : Entries). is_too_deep rows ≡ false) c.entries-rows.ensures.entries (sym c.is_too_deep.ensures.deep ∙ c.if-is_too_deep.false) in
    rw (shallow_put c.args.map.now (g.S.Store.seen c.args.store.now).content low) (put g (goal.at.returns-clause-trees g c).After-put_folder told)

pub returns-clause-root : goal.returns-clause-root
returns-clause-root g c =
    subst (λ (rows : Entries). IfOk c.put_folder.result (λ id. id ≡ root_of rows)) (cut_none c.entries-rows.result.now ∙ c.entries-rows.ensures.entries) c.put_folder.ensures.root

pub returns-clause-objects : goal.returns-clause-objects
returns-clause-objects g c told =
    objects_put c.args.map.now (g.S.Store.seen c.args.store.now).content (g.S.Store.seen c.put_folder.new.store).content c.put_folder.result (put g (goal.at.returns-clause-objects g c).After-put_folder told)

pub returns-clause-reads : goal.returns-clause-reads
returns-clause-reads g c told =
    let rows = c.entries-rows.result.now in
    let to = sym c.entries-rows.ensures.entries in
    let now = (g.S.Store.seen c.put_folder.new.store).content in
    let root = subst (λ (es : Entries). IfOk c.put_folder.result (λ id. id ≡ root_of es)) (cut_none rows) c.put_folder.ensures.root in
    let was = subst (λ (es : Entries). HasPut c.put_folder.result (folder_put es (g.S.Store.seen c.args.store.now).content) now) (cut_none rows) (c.put_folder.ensures.put told) in
    let back = reads_back rows (g.S.Store.seen c.args.store.now).content now c.put_folder.result (subst IsPathMap to c.entries-rows.ensures.map) (c.is_too_deep.ensures.paths c.if-is_too_deep.false) c.put_folder.ensures.ids (sym c.is_too_deep.ensures.deep ∙ c.if-is_too_deep.false) root was in
    subst (λ (es : Entries). IfOk c.put_folder.result (λ root. map_at now root ≡ Ok es)) c.entries-rows.ensures.entries back
