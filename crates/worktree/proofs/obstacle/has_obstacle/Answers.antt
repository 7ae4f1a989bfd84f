use Rattle.std.proofs.Common.{◌&&◌, ap, sym, ◌∙◌, List, ℕ}
use Rattle.std.specs.FinMap as map
use Rattle.std.specs.List.{list_any}
use Rattle.seq_base.specs.World.{World, is_below}
use Rattle.stage_index.specs.Switching.{is_in_way, is_untracked}
use Rattle.worktree.proofs.Obstacles.{way_above, way_at, way_below}
use Rattle.worktree.proofs.obstacle.has_obstacle.Goals as goal

pub returns-then-branch-clause-told : goal.returns-then-branch-clause-told
returns-then-branch-clause-told g c told =
    let w = (g.S.Store.seen c.args.store.now).content in
    let from = c.args.from.now in
    way_at w from c.bytes-path.result.now (sym (c.in_ok-stands_at.ensures.told told) ∙ c.if-branch.true)
    ∙ ap (λ (p : List ℕ). list_any (λ file. is_untracked from file && is_in_way p file) (map.keys w)) c.bytes-path.ensures.same

pub returns-then-branch-2-clause-told : goal.returns-then-branch-2-clause-told
returns-then-branch-2-clause-told g c told =
    let w = (g.S.Store.seen c.args.store.now).content in
    let from = c.args.from.now in
    let path = c.bytes-path.result.now in
    let above = ap (λ (v : World). list_any (λ file. is_untracked from file && is_below file path) (map.keys v)) (sym (c.in_ok-stands_at.ensures.reads.0 told)) ∙ sym (c.in_ok-stands_above.ensures.told told) ∙ c.if-branch-2.true in
    way_above w from path above
    ∙ ap (λ (p : List ℕ). list_any (λ file. is_untracked from file && is_in_way p file) (map.keys w)) c.bytes-path.ensures.same

pub returns-clause-told : goal.returns-clause-told
returns-clause-told g c told =
    let w = (g.S.Store.seen c.args.store.now).content in
    let from = c.args.from.now in
    let path = c.bytes-path.result.now in
    let not_at = sym (c.in_ok-stands_at.ensures.told told) ∙ c.if-branch.false in
    let not_above = ap (λ (v : World). list_any (λ file. is_untracked from file && is_below file path) (map.keys v)) (sym (c.in_ok-stands_at.ensures.reads.0 told)) ∙ sym (c.in_ok-stands_above.ensures.told told) ∙ c.if-branch-2.false in
    let same = c.in_ok-stands_above.ensures.reads.0 told ∙ c.in_ok-stands_at.ensures.reads.0 told in
    c.in_ok-is_below.ensures.told told
    ∙ ap (λ (v : World). list_any (λ file. is_untracked from file && is_below path file) (map.keys v)) same
    ∙ way_below w from path not_at not_above
    ∙ ap (λ (p : List ℕ). list_any (λ file. is_untracked from file && is_in_way p file) (map.keys w)) c.bytes-path.ensures.same
