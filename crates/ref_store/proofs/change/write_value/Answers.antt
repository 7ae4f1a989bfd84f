use Rattle.std.specs.Option.{option_map}
use Rattle.ref_store.specs.Changes.{value_noted}
use Rattle.ref_store.proofs.Updating.{free_of, never_stops, value_noted_free}
use Rattle.ref_store.proofs.change.write_value.Goals as goal

pub returns-clause-never : goal.returns-clause-never
returns-clause-never g c told =
    let w = (g.S.Store.seen c.args.store.now).content in
    let line = option_map (λ line. line.now) c.args.line in
    never_stops c.note_value.result (value_noted c.args.name.now c.args.id line w) _ _ (value_noted_free w c.args.name.now c.args.id line c.requires.name (free_of w c.args.name.now (c.requires.free told))) (c.note_value.ensures.turns told)
