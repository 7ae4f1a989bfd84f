use Rattle.std.proofs.Common.{rules, ◌≡◌, ◌-◌, List, [], ◌∷◌, ℕ, map, reverse, vec_len, sym, ap, subst, ◌∙◌, arith}
use Rattle.std.specs.List.{AllByRecursion}
use Rattle.std.proofs.lemmas.List.{reverse-append, reverse-reverse}
use Rattle.std.proofs.lemmas.Result.{err_from_is_err_and}
use Rattle.seq_base.specs.declared.map.Entry.{Entry}
use Rattle.object_text.specs.TreeMaps.{map_below}
use Rattle.seq_base.specs.PathMaps.{Entries}
use Rattle.path_trees.specs.Rows.{IsInside, row_at}
use Rattle.path_trees.proofs.Build.{HasBuilt, build_blames, build_ends, build_more, build_starts, file_map, file_under, folder_under, nothing_left}
use Rattle.path_trees.proofs.Depth.{at_some, at_zero, file_first, folder_blames, folder_first, rows_blame, tree_blames}
use Rattle.path_trees.proofs.read.+add_tree.Goals as goal

pub returns-then-depth-eq0-clause-fault : goal.returns-then-depth-eq0-clause-fault
returns-then-depth-eq0-clause-fault g t c told =
    at_zero c.args.depth (g.S.Store.seen c.args.store.now).content c.args.folder.now c.args.id c.if-depth-eq0.true

pub returns-in_err-entries-clause-fault : goal.returns-in_err-entries-clause-fault
returns-in_err-entries-clause-fault g t c told =
    let p = err_from_is_err_and c.from_residual.result c.from_residual.ensures.1 in
    rw (p.1, p.2) (tree_blames c.args.depth (g.S.Store.seen c.args.store.now).content c.args.folder.now c.args.id c.in_err-entries.field-0.0 (omega arith) (c.in_err-entries.ensures.gives told))

pub returns-in_err-rows-clause-fault : goal.returns-in_err-rows-clause-fault
returns-in_err-rows-clause-fault g t c told =
    let p = err_from_is_err_and c.from_residual-in_err-rows.result c.from_residual-in_err-rows.ensures.1 in
    rw (p.1, p.2) (rows_blame c.args.depth (g.S.Store.seen c.args.store.now).content c.args.folder.now c.args.id c.in_ok-entries.entries.items c.in_err-rows.field-0.0 (omega arith) (c.in_ok-entries.ensures.gives told) c.in_err-rows.ensures)

pub rows-init : goal.rows-init
rows-init g t c =
    let w = (g.S.Store.seen c.args.store.now).content in
    let es = c.in_ok-entries.entries.items in
    let left : reverse c.in_ok-rows.rows.items ≡ map (row_at c.args.folder.now) es = ap reverse c.in_ok-rows.ensures.0 ∙ reverse-reverse (map (row_at c.args.folder.now) es) in
    record {
      same = c.in_ok-entries.ensures.reads.0;
      deep = omega arith;
      built =
          subst (λ (rows : Entries). HasBuilt g.S.Store.told c.args.folder.now (map_below (c.args.depth - 1) w) (map_below c.args.depth w c.args.folder.now c.args.id) c.args.out.now.items c.args.out.now.items rows) (sym left)
          (build_starts g.S.Store.told c.args.folder.now (map_below (c.args.depth - 1) w) (map_below c.args.depth w c.args.folder.now c.args.id) c.args.out.now.items es c.in_ok-entries.ensures.order
          (λ told. at_some c.args.depth w c.args.folder.now c.args.id es (omega arith) (c.in_ok-entries.ensures.gives told) c.in_ok-rows.ensures.1));
      cause = c.in_ok-entries.ensures.reads.1;
    }

pub returns-in_err-add_tree-clause-fault : goal.returns-in_err-add_tree-clause-fault
returns-in_err-add_tree-clause-fault g t c told =
    let w = (g.S.Store.seen c.args.store.now).content in
    let sub = map_below (c.args.depth - 1) w in
    let total = map_below c.args.depth w c.args.folder.now c.args.id in
    let x : List ℕ × Entry = (c.in-Some.path, c.in-Some.entry) in
    let p = err_from_is_err_and c.from_residual-in_err-add_tree.result c.from_residual-in_err-add_tree.ensures.1 in
    let built = subst (λ (rows : Entries). HasBuilt g.S.Store.told c.args.folder.now sub total c.args.out.now.items c.rows.out.items rows) (ap reverse c.in-Some.ensures.items ∙ reverse-append c.pop.new.self.items (x ∷ [])) c.rows.invariant.built in
    let bad = folder_blames (c.args.depth - 1) w (g.S.Store.seen c.rows.store).content c.bytes.result.now x c.in_err-add_tree.field-0.0 (c.rows.invariant.same told) c.bytes.ensures.same (sym c.is_folder.ensures ∙ c.if-is_folder.true) (c.in_err-add_tree.ensures.fault told) in
    rw (p.1, p.2) (build_blames w g.S.Store.told c.args.folder.now sub total c.args.out.now.items c.rows.out.items x (reverse c.pop.new.self.items) c.in_err-add_tree.field-0.0 built told bad)

pub rows-preserved-then-is_folder : goal.rows-preserved-then-is_folder
rows-preserved-then-is_folder g t c =
    let w = (g.S.Store.seen c.args.store.now).content in
    let sub = map_below (c.args.depth - 1) w in
    let total = map_below c.args.depth w c.args.folder.now c.args.id in
    let x : List ℕ × Entry = (c.in-Some.path, c.in-Some.entry) in
    let on = sym c.is_folder.ensures ∙ c.if-is_folder.true in
    let adds = c.in_ok-add_tree.ensures.adds in
    let built = subst (λ (rows : Entries). HasBuilt g.S.Store.told c.args.folder.now sub total c.args.out.now.items c.rows.out.items rows) (ap reverse c.in-Some.ensures.items ∙ reverse-append c.pop.new.self.items (x ∷ [])) c.rows.invariant.built in
    let inside = subst (λ (p : List ℕ). AllByRecursion (λ r. IsInside p r.0) adds.rows) c.bytes.ensures.same adds.inside in
    record {
      same = λ told. c.in_ok-add_tree.ensures.reads.0 told ∙ c.rows.invariant.same told;
      deep = c.rows.invariant.deep;
      built =
          build_more g.S.Store.told c.args.folder.now sub total c.args.out.now.items c.rows.out.items c.add_tree.new.out.items x (reverse c.pop.new.self.items) adds.rows built adds.is_map (folder_under x adds.rows on c.bytes.ensures.path inside)
          (λ told. sym (folder_first (c.args.depth - 1) w (g.S.Store.seen c.rows.store).content c.bytes.result.now x (c.rows.invariant.same told) c.bytes.ensures.same on) ∙ adds.read told) adds.added;
      cause = search rules;
    }

pub rows-preserved : goal.rows-preserved
rows-preserved g t c =
    let w = (g.S.Store.seen c.args.store.now).content in
    let sub = map_below (c.args.depth - 1) w in
    let total = map_below c.args.depth w c.args.folder.now c.args.id in
    let x : List ℕ × Entry = (c.in-Some.path, c.in-Some.entry) in
    let off = sym c.is_folder.ensures ∙ c.if-is_folder.false in
    let built = subst (λ (rows : Entries). HasBuilt g.S.Store.told c.args.folder.now sub total c.args.out.now.items c.rows.out.items rows) (ap reverse c.in-Some.ensures.items ∙ reverse-append c.pop.new.self.items (x ∷ [])) c.rows.invariant.built in
    record {
      same = c.rows.invariant.same;
      deep = c.rows.invariant.deep;
      built =
          build_more g.S.Store.told c.args.folder.now sub total c.args.out.now.items c.rows.out.items c.push.new.self.items x (reverse c.pop.new.self.items) (x ∷ []) built (file_map x off) (file_under x off) (λ told. file_first sub x off) c.in_ok-push.ensures.items;
      cause = c.rows.invariant.cause;
    }

pub returns-clause-adds : goal.returns-clause-adds
returns-clause-adds g t c =
    let w = (g.S.Store.seen c.args.store.now).content in
    let sub = map_below (c.args.depth - 1) w in
    let total = map_below c.args.depth w c.args.folder.now c.args.id in
    let empty = nothing_left c.pop.result (vec_len c.rows.rows) (vec_len c.pop.new.self) c.rows.rows.items c.pop.new.self.items c.in_default.not-Some c.pop.ensures.cases c.pop.ensures.items c.pop.ensures.rest in
    let built = subst (λ (rows : Entries). HasBuilt g.S.Store.told c.args.folder.now sub total c.args.out.now.items c.rows.out.items (reverse rows)) empty c.rows.invariant.built in
    build_ends g.S.Store.told c.args.folder.now sub total c.args.out.now.items c.rows.out.items built
