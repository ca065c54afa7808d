use Rattle.std.proofs.Common.{refl}
use Rattle.batch_rail.specs.Kept.{batches_in}
use Rattle.batch_rail.proofs.journal.Journal.new.Goals as goal

pub returns : goal.returns
unfolding batches_in
returns c = rw (c.in_ok-with_capacity.ensures.items, c.in_ok-with_capacity-2.ensures.items) refl
