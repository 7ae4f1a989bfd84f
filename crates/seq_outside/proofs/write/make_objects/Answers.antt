use Rattle.seq_outside.specs.Laws.{draft_paths}
use Rattle.seq_outside.proofs.Slots.{objects_part, objects_part_free, objects_part_front}
use Rattle.seq_outside.proofs.write.make_objects.Goals as goal

pub make_part-requires : goal.make_part-requires
make_part-requires g c = draft_paths _ c.requires

pub returns-clause-on_the_way : goal.returns-clause-on_the_way
returns-clause-on_the_way g c told = objects_part _ c.args.slots.now c.requires _ (c.make_part.ensures.front told)

pub returns-clause-front : goal.returns-clause-front
returns-clause-front g c told = objects_part_front _ c.args.slots.now c.requires _ (c.make_part.ensures.front told)

pub returns-clause-free : goal.returns-clause-free
returns-clause-free g c told free blocked = c.make_part.ensures.free told (objects_part_free _ c.args.slots.now c.requires free) blocked
