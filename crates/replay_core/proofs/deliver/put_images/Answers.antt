use Rattle.std.proofs.Common.{refl, ◌∙◌, arith}
use Rattle.gl_outside.proofs.Outside.{Adds-nil}
use Rattle.replay_core.proofs.Delivery.{Adds-take_more}
use Rattle.replay_core.proofs.deliver.put_images.Goals as goal

pub loop-image-init : goal.loop-image-init
loop-image-init g c = record { stored = refl; added = Adds-nil _; sound = refl }

pub loop-image-preserved : goal.loop-image-preserved
loop-image-preserved g c = record {
  stored = omega arith;
  added = Adds-take_more _ _ _ c.args.images.now c.loop-image.stored c.loop-image.image-index c.image-item.result c.name.result.now c.bytes.result.now c.loop-image.invariant.stored c.loop-image-test.true c.image-item.is c.name.ensures c.bytes.ensures c.loop-image.invariant.added c.in-Ok.ensures.ok;
  sound = c.in-Ok.ensures.kept ∙ c.loop-image.invariant.sound;
}
