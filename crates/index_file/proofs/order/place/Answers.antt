use Rattle.std.proofs.Common.{◌≡◌, ℕ, ◌+◌, Bool, List, length, sym, ap, ◌∙◌, eq-eqb}
use Rattle.std.proofs.lemmas.Bool.{ne_eqb}
use Rattle.index_file.specs.Fronts.{files_of, path_of, last_of, is_below_front}
use Rattle.index_file.proofs.FrontLaws.{length-fronts, carried}
use Rattle.index_file.proofs.Sorted.{not_after, placed_other, placed_file}
use Rattle.index_file.proofs.order.place.Goals as goal

pub returns-then-not-is_after_all-clause-placed : goal.returns-then-not-is_after_all-clause-placed
returns-then-not-is_after_all-clause-placed c =
    sym (not_after c.args.entries.now c.args.entry.now c.requires.in_order (sym c.if-not-is_after_all.ensures))

pub move_to-requires : goal.move_to-requires
move_to-requires c =
    ap length c.requires.fronts ∙ length-fronts (files_of c.args.entries.now) (path_of (last_of c.args.entries.now))
    ∙ ap (λ (p : List ℕ). length p + 1) (sym c.last_path.ensures)

moved : (last path last' path' : List ℕ) (marks new : List Bool) → last' ≡ last → path' ≡ path → new ≡ carried last' marks path'
    → new ≡ carried last marks path
moved last path last' path' marks new p q h = cc

below_at : (below : Bool) (marks marks' : List Bool) (path path' : List ℕ) → marks' ≡ marks → path' ≡ path → below ≡ is_below_front marks' path'
    → below ≡ is_below_front marks path
below_at below marks marks' path path' p q h = cc

pub returns-then-entry-ne0-clause-placed : goal.returns-then-entry-ne0-clause-placed
returns-then-entry-ne0-clause-placed c =
    sym (placed_other c.args.entries.now c.args.files.now.items c.move_to.new.files.items c.args.entry.now c.requires (sym c.if-not-is_after_all.ensures)
    (moved _ _ _ _ _ _ c.last_path.ensures c.bytes-path.ensures.same c.in_ok-move_to.ensures.marks) (ne_eqb c.args.entry.now.stage 0 c.if-entry-ne0.true)).0

pub returns-then-entry-ne0-clause-holds : goal.returns-then-entry-ne0-clause-holds
returns-then-entry-ne0-clause-holds c = λ _.
    (placed_other c.args.entries.now c.args.files.now.items c.move_to.new.files.items c.args.entry.now c.requires (sym c.if-not-is_after_all.ensures)
    (moved _ _ _ _ _ _ c.last_path.ensures c.bytes-path.ensures.same c.in_ok-move_to.ensures.marks) (ne_eqb c.args.entry.now.stage 0 c.if-entry-ne0.true)).1

pub returns-clause-placed : goal.returns-clause-placed
returns-clause-placed c =
    (placed_file c.args.entries.now c.args.files.now.items c.move_to.new.files.items c.args.entry.now c.is_below-is_free.result c.requires (sym c.if-not-is_after_all.ensures)
    (moved _ _ _ _ _ _ c.last_path.ensures c.bytes-path.ensures.same c.in_ok-move_to.ensures.marks) (eq-eqb c.args.entry.now.stage 0 c.if-entry-ne0.false)
    (below_at _ _ _ _ _ c.deref.ensures.value c.bytes-path.ensures.same c.is_below-is_free.ensures)).0

pub returns-clause-holds : goal.returns-clause-holds
returns-clause-holds c = λ free.
    rw c.bytes-path.ensures.same
    ((placed_file c.args.entries.now c.args.files.now.items c.move_to.new.files.items c.args.entry.now c.is_below-is_free.result c.requires (sym c.if-not-is_after_all.ensures)
    (moved _ _ _ _ _ _ c.last_path.ensures c.bytes-path.ensures.same c.in_ok-move_to.ensures.marks) (eq-eqb c.args.entry.now.stage 0 c.if-entry-ne0.false)
    (below_at _ _ _ _ _ c.deref.ensures.value c.bytes-path.ensures.same c.is_below-is_free.ensures)).1 free)
