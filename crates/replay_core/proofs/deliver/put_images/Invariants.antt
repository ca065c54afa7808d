use Rattle.std.proofs.Common.{◌≡◌, take}
use Rattle.gl_outside.specs.Moved.{Adds}
use Rattle.replay_core.proofs.deliver.put_images.Given as goal

abbrev pub invariant-loop-image : goal.invariant-loop-image
invariant-loop-image g l = record {
  stored : l.stored ≡ l.image-index;
  added : Adds (g.G.Shelf.list l.fn.shelf) (g.G.Shelf.list l.shelf) (take l.stored l.images);
  sound : g.G.Shelf.faults l.shelf ≡ g.G.Shelf.faults l.fn.shelf;
}
