use Rattle.ref_text.specs.Refs.{head_name}
use Rattle.ref_store.specs.Changes.{head_noted}
use Rattle.ref_store.proofs.Updating.{free_of, head_noted_free, never_stops}
use Rattle.ref_store.proofs.change.write_head.Goals as goal

pub returns-clause-never : goal.returns-clause-never
returns-clause-never g c told =
    let w = (g.S.Store.seen c.args.store.now).content in
    never_stops c.note_head.result (head_noted c.args.head.now c.args.line.now w) _ _ (head_noted_free w c.args.head.now c.args.line.now (free_of w head_name (c.requires.free told))) (c.note_head.ensures.turns told)
