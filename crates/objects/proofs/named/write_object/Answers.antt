use Rattle.std.proofs.Common.{Ok, Err}
use Rattle.objects.specs.Puts.{object_of}
use Rattle.objects.proofs.Digests.{away}
use Rattle.objects.proofs.Putting.{object_is_not_put}
use Rattle.objects.proofs.Writing.{put_keeps}
use Rattle.objects.proofs.named.write_object.Goals as goal

pub returns-in-Ok-clause-elsewhere : goal.returns-in-Ok-clause-elsewhere
returns-in-Ok-clause-elsewhere g c told path other = c.in-Ok.ensures.elsewhere told path (away path (object_of c.args.kind c.args.bytes.now) other)

pub returns-in-Err-clause-turns : goal.returns-in-Err-clause-turns
returns-in-Err-clause-turns g c told =
    object_is_not_put (g.S.Store.seen c.args.store.now).content (object_of c.args.kind c.args.bytes.now) c.in-Err.fault c.put_halt.result (g.S.Store.seen c.put.new.store).content (c.in-Err.ensures.put told) c.put_halt.ensures

pub returns-in-Err-clause-elsewhere : goal.returns-in-Err-clause-elsewhere
returns-in-Err-clause-elsewhere g c told path other = c.in-Err.ensures.elsewhere told path (away path (object_of c.args.kind c.args.bytes.now) other)

pub returns-in-Ok-clause-keeps : goal.returns-in-Ok-clause-keeps
returns-in-Ok-clause-keeps g c told = put_keeps _ (object_of c.args.kind c.args.bytes.now) (Ok c.in-Ok.id) _ (c.in-Ok.ensures.put told)

pub returns-in-Err-clause-keeps : goal.returns-in-Err-clause-keeps
returns-in-Err-clause-keeps g c told = put_keeps _ (object_of c.args.kind c.args.bytes.now) (Err c.in-Err.fault) _ (c.in-Err.ensures.put told)
