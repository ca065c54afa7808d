use Rattle.batch_pack.specs.Packed.{spelled_by}
use Rattle.driver_trait.specs.Reply.{replied}
use Rattle.batch_rail.proofs.Running.{runs_on_by}
use Rattle.batch_rail.proofs.run.run_batch.Goals as goal

pub loop-packed-preserved-in_ok-_reply : goal.loop-packed-preserved-in_ok-_reply
loop-packed-preserved-in_ok-_reply g c =
    runs_on_by g.D.Machine.steps c.args.driver.now c.args.batch.now.calls c.loop-packed.driver c.call.new.driver _ (spelled_by c.in-Some.packed) c.next.new.self (replied c.in_ok-_reply._reply) c.in-Some.ensures.next c.loop-packed.invariant c.in_ok-_reply.ensures.ok

pub loop-packed-preserved-in_ok-_reply-2 : goal.loop-packed-preserved-in_ok-_reply-2
loop-packed-preserved-in_ok-_reply-2 g c =
    runs_on_by g.D.Machine.steps c.args.driver.now c.args.batch.now.calls c.loop-packed.driver c.call.new.driver _ (spelled_by c.in-Some.packed) c.next.new.self (replied c.in_ok-_reply._reply) c.in-Some.ensures.next c.loop-packed.invariant c.in_ok-_reply.ensures.ok

pub loop-packed-preserved : goal.loop-packed-preserved
loop-packed-preserved g c =
    runs_on_by g.D.Machine.steps c.args.driver.now c.args.batch.now.calls c.loop-packed.driver c.call.new.driver _ (spelled_by c.in-Some.packed) c.next.new.self (replied c.in_ok-_reply._reply) c.in-Some.ensures.next c.loop-packed.invariant c.in_ok-_reply.ensures.ok
