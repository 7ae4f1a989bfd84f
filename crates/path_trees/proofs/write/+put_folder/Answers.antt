use Rattle.std.proofs.Common.{rules, ◌≡◌, ◌+◌, ◌-◌, ◌<◌, ◌∷◌, List, [], ◌++◌, ℕ, length, take, drop, refl, sym, ap, subst, ◌∙◌, arith}
use Rattle.std.specs.Result.{IfOk, OnOk}
use Rattle.std.proofs.lemmas.List.{take_rest}
use Rattle.std.proofs.lemmas.Result.{err_from_is_err_and}
use Rattle.seq_base.specs.Paths.{IsPath}
use Rattle.seq_base.specs.declared.mode.Mode.TheVariants.{Folder}
use Rattle.seq_outside.proofs.Firsts.{first_and_others}
use Rattle.object_text.specs.declared.tree.TreeEntry.{TreeEntry}
use Rattle.object_text.specs.TreeMaps.{tree_id, tree_object}
use Rattle.object_text.specs.Trees.{HaveIds, IsTreeOrder}
use Rattle.objects.specs.Puts.{object_put}
use Rattle.path_trees.specs.Puts.{HasPut}
use Rattle.seq_base.specs.PathMaps.{Entries}
use Rattle.path_trees.proofs.Folders.{HasGroup, IsWay, falls, group_at, nothing, slash_found, way_ends, way_file, way_folder, way_ids, way_ordered, way_root, way_stops}
use Rattle.path_trees.proofs.write.+put_folder.Goals as goal
use Rattle.path_trees.proofs.write.+put_folder.Goals.{After-split_at, In_default}

pub loop-rest-preserved-in-None : goal.loop-rest-preserved-in-None
loop-rest-preserved-in-None g t c =
    let left = c.loop-rest.rest.now in
    let x = c.row-item.result in
    let path = take (length c.bytes.result.now - c.args.skip) (drop c.args.skip c.bytes.result.now) in
    let path_is : path ≡ drop c.args.skip x.0 = take_rest c.bytes.result.now c.args.skip ∙ ap (drop c.args.skip) c.bytes.ensures.same in
    let some : 0 < length left = omega arith in
    let after = take (length left - 1) (drop 1 left) in
    let way = way_file g.S.Store.told c.args.skip c.args.rows.now left after x path c.loop-rest.entries.items (g.S.Store.seen c.args.store.now).content (g.S.Store.seen c.loop-rest.store).content
    c.loop-rest.invariant.way (first_and_others left x some c.row-item.is) path_is (sym c.in-None.ensures) in
    let items : c.push.new.self.items ≡ c.loop-rest.entries.items ++ record { mode = x.1.mode; name = path; id = x.1.id } ∷ [] = c.in_ok-push-in-None.ensures.items ∙ ap (λ (e : TreeEntry). c.loop-rest.entries.items ++ e ∷ []) c.in_ok-entry-in-None.ensures in
    record {
      way =
          subst (λ (es : List TreeEntry). IsWay g.S.Store.told c.args.skip c.args.rows.now after es (g.S.Store.seen c.args.store.now).content (g.S.Store.seen c.loop-rest.store).content) (sym items) way;
      cause = c.loop-rest.invariant.cause;
    }

-- the rows of the folder that is met, and the others
met : (g : _) (t : ℕ) (c : After-split_at g t)
    → HasGroup (take c.in-Some.at (take (length c.bytes.result.now - c.args.skip) (drop c.args.skip c.bytes.result.now))) c.args.skip (c.args.skip + c.in-Some.at + 1) c.loop-rest.rest.now c.split_at.result.0.now c.split_at.result.1.now
met g t c =
    let left = c.loop-rest.rest.now in
    let x = c.row-item.result in
    let path = take (length c.bytes.result.now - c.args.skip) (drop c.args.skip c.bytes.result.now) in
    let path_is : path ≡ drop c.args.skip x.0 = take_rest c.bytes.result.now c.args.skip ∙ ap (drop c.args.skip) c.bytes.ensures.same in
    let some : 0 < length left = omega arith in
    group_at c.args.skip c.in-Some.at (c.args.skip + c.in-Some.at + 1) c.count_inside.result path (take (c.in-Some.at + 1) path) left (take (length left - 1) (drop 1 left)) c.split_at.result.0.now c.split_at.result.1.now x
    (first_and_others left x some c.row-item.is) path_is (sym c.in-Some.ensures) refl c.loop-rest.invariant.way.goes refl c.count_inside.ensures.count c.split_at.ensures.front c.split_at.ensures.back

pub put_folder-requires : goal.put_folder-requires
put_folder-requires g t c κs within =
    let slash = slash_found (take (length c.bytes.result.now - c.args.skip) (drop c.args.skip c.bytes.result.now)) c.in-Some.at (sym c.in-Some.ensures) in
    let less : 4096 - (c.args.skip + c.in-Some.at + 1) < 4096 - c.args.skip = falls c.bytes.result.now c.args.skip c.in-Some.at (subst IsPath (sym c.bytes.ensures.same) c.bytes.ensures.path) slash in
    let now = c.decreases in
    (omega (arith, less, now), (within, (met g t (goal.at.put_folder-requires g t c).After-split_at).inner))

pub returns-in_err-id-in-Some-clause-put : goal.returns-in_err-id-in-Some-clause-put
returns-in_err-id-in-Some-clause-put g t c told =
    let path = take (length c.bytes.result.now - c.args.skip) (drop c.args.skip c.bytes.result.now) in
    let p = err_from_is_err_and c.from_residual-in_err-id-in-Some.result c.from_residual-in_err-id-in-Some.ensures.1 in
    rw (p.1, p.2) (way_stops g.S.Store.told c.args.skip (c.args.skip + c.in-Some.at + 1) c.args.rows.now c.loop-rest.rest.now c.split_at.result.0.now c.split_at.result.1.now (take c.in-Some.at path) c.loop-rest.entries.items
    (g.S.Store.seen c.args.store.now).content (g.S.Store.seen c.loop-rest.store).content c.in_err-id-in-Some.field-0.0 (g.S.Store.seen c.put_folder.new.store).content
    c.loop-rest.invariant.way (met g t (goal.at.returns-in_err-id-in-Some-clause-put g t c).After-split_at) told (c.in_err-id-in-Some.ensures.put told))

pub returns-in_err-id-in-Some-clause-keeps : goal.returns-in_err-id-in-Some-clause-keeps
returns-in_err-id-in-Some-clause-keeps g t c told path text there =
    c.in_err-id-in-Some.ensures.keeps told path text (c.loop-rest.invariant.way.keeps told path text there)

pub returns-in_err-id-in-Some-clause-elsewhere : goal.returns-in_err-id-in-Some-clause-elsewhere
returns-in_err-id-in-Some-clause-elsewhere g t c told path other =
    c.in_err-id-in-Some.ensures.elsewhere told path other ∙ c.loop-rest.invariant.way.stays told path other

pub returns-in_err-entry-in-Some-clause-keeps : goal.returns-in_err-entry-in-Some-clause-keeps
returns-in_err-entry-in-Some-clause-keeps g t c told path text there =
    c.in_ok-id-in-Some.ensures.keeps told path text (c.loop-rest.invariant.way.keeps told path text there)

pub returns-in_err-entry-in-Some-clause-elsewhere : goal.returns-in_err-entry-in-Some-clause-elsewhere
returns-in_err-entry-in-Some-clause-elsewhere g t c told path other =
    c.in_ok-id-in-Some.ensures.elsewhere told path other ∙ c.loop-rest.invariant.way.stays told path other

pub returns-in_err-push-in-Some-clause-keeps : goal.returns-in_err-push-in-Some-clause-keeps
returns-in_err-push-in-Some-clause-keeps g t c told path text there =
    c.in_ok-id-in-Some.ensures.keeps told path text (c.loop-rest.invariant.way.keeps told path text there)

pub returns-in_err-push-in-Some-clause-elsewhere : goal.returns-in_err-push-in-Some-clause-elsewhere
returns-in_err-push-in-Some-clause-elsewhere g t c told path other =
    c.in_ok-id-in-Some.ensures.elsewhere told path other ∙ c.loop-rest.invariant.way.stays told path other

pub loop-rest-smaller : goal.loop-rest-smaller
loop-rest-smaller g t c = (met g t (goal.at.loop-rest-smaller g t c).After-split_at).fewer

pub loop-rest-preserved : goal.loop-rest-preserved
loop-rest-preserved g t c =
    let new = (g.S.Store.seen c.put_folder.new.store).content in
    let path = take (length c.bytes.result.now - c.args.skip) (drop c.args.skip c.bytes.result.now) in
    let name = take c.in-Some.at path in
    let id = c.in_ok-id-in-Some.id in
    let items : c.push-in-Some.new.self.items ≡ c.loop-rest.entries.items ++ record { mode = Folder; name = name; id = id } ∷ [] = c.in_ok-push-in-Some.ensures.items ∙ ap (λ (e : TreeEntry). c.loop-rest.entries.items ++ e ∷ []) c.in_ok-entry-in-Some.ensures in
    let way = way_folder g.S.Store.told c.args.skip (c.args.skip + c.in-Some.at + 1) c.args.rows.now c.loop-rest.rest.now c.split_at.result.0.now c.split_at.result.1.now name id c.loop-rest.entries.items (g.S.Store.seen c.args.store.now).content (g.S.Store.seen c.loop-rest.store).content new
    c.loop-rest.invariant.way (met g t (goal.at.loop-rest-preserved g t c).After-split_at) c.in_ok-id-in-Some.ensures.root c.in_ok-id-in-Some.ensures.elsewhere c.in_ok-id-in-Some.ensures.keeps c.in_ok-id-in-Some.ensures.ids c.in_ok-id-in-Some.ensures.put in
    record {
      way =
          subst (λ (es : List TreeEntry). IsWay g.S.Store.told c.args.skip c.args.rows.now c.split_at.result.1.now es (g.S.Store.seen c.args.store.now).content new) (sym items) way;
      cause = search rules;
    }

-- nothing is left
over : (g : _) (t : ℕ) (c : In_default g t)
    → IsWay g.S.Store.told c.args.skip c.args.rows.now [] c.loop-rest.entries.items (g.S.Store.seen c.args.store.now).content (g.S.Store.seen c.loop-rest.store).content
over g t c =
    let none : length c.loop-rest.rest.now ≡ 0 = omega arith in
    subst (λ (left : Entries). IsWay g.S.Store.told c.args.skip c.args.rows.now left c.loop-rest.entries.items (g.S.Store.seen c.args.store.now).content (g.S.Store.seen c.loop-rest.store).content) (nothing c.loop-rest.rest.now none) c.loop-rest.invariant.way

pub put_tree-requires : goal.put_tree-requires
put_tree-requires g t c =
    subst IsTreeOrder (sym c.deref.ensures.value) (way_ordered g.S.Store.told c.args.skip c.args.rows.now c.loop-rest.entries.items (g.S.Store.seen c.args.store.now).content (g.S.Store.seen c.loop-rest.store).content c.requires (over g t (goal.at.put_tree-requires g t c).In_default))

pub returns-clause-put : goal.returns-clause-put
returns-clause-put g t c told =
    let here = (g.S.Store.seen c.loop-rest.store).content in
    let new = (g.S.Store.seen c.put_tree.new.store).content in
    let root = subst (λ (es : List TreeEntry). IfOk c.put_tree.result (λ id. id ≡ tree_id es)) c.deref.ensures.value c.put_tree.ensures.root in
    let put = subst (λ (es : List TreeEntry). HasPut c.put_tree.result (object_put (tree_object es) here) new) c.deref.ensures.value (c.put_tree.ensures.put told) in
    way_ends g.S.Store.told c.args.skip c.args.rows.now c.loop-rest.entries.items (g.S.Store.seen c.args.store.now).content here c.put_tree.result new (over g t (goal.at.returns-clause-put g t c).In_default) told root put

pub returns-clause-root : goal.returns-clause-root
returns-clause-root g t c =
    let root = subst (λ (es : List TreeEntry). IfOk c.put_tree.result (λ id. id ≡ tree_id es)) c.deref.ensures.value c.put_tree.ensures.root in
    way_root g.S.Store.told c.args.skip c.args.rows.now c.loop-rest.entries.items (g.S.Store.seen c.args.store.now).content (g.S.Store.seen c.loop-rest.store).content c.put_tree.result (over g t (goal.at.returns-clause-root g t c).In_default) root

pub returns-clause-keeps : goal.returns-clause-keeps
returns-clause-keeps g t c told path text there = c.put_tree.ensures.keeps told path text (c.loop-rest.invariant.way.keeps told path text there)

pub returns-clause-elsewhere : goal.returns-clause-elsewhere
returns-clause-elsewhere g t c told path other = c.put_tree.ensures.elsewhere told path other ∙ c.loop-rest.invariant.way.stays told path other

pub returns-clause-ids : goal.returns-clause-ids
returns-clause-ids g t c =
    let ids = subst (λ (es : List TreeEntry). OnOk c.put_tree.result (HaveIds es)) c.deref.ensures.value c.put_tree.ensures.ids in
    way_ids g.S.Store.told c.args.skip c.args.rows.now c.loop-rest.entries.items (g.S.Store.seen c.args.store.now).content (g.S.Store.seen c.loop-rest.store).content c.put_tree.result (over g t (goal.at.returns-clause-ids g t c).In_default) ids
