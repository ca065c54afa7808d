-- The ends of the two rings of a rail; own.
use Rattle.std.specs.Prelude.{◌≡◌, ℕ}
use Rattle.rtrb.specs.Ring.{received, sent, SameConsumer, SameProducer, IsPair}
use Rattle.epoch_rail.specs.declared.ends.WorkerEnds.{WorkerEnds}
use Rattle.epoch_rail.specs.declared.ends.CallerEnds.{CallerEnds}

-- a worker's ends at two times; own
pub record SameWorker (before after : WorkerEnds) : Type 0 where
  pub filled : SameConsumer before.filled after.filled
  pub emptied : SameProducer before.emptied after.emptied
  pub size : after.size ≡ before.size

-- a caller's ends at two times; own
pub record SameCaller (before after : CallerEnds) : Type 0 where
  pub filled : SameProducer before.filled after.filled
  pub emptied : SameConsumer before.emptied after.emptied
  pub size : after.size ≡ before.size

-- a caller's and a worker's ends are those of the same two rings, and have the same size of batches; own
pub record AreFellows (caller : CallerEnds) (worker : WorkerEnds) : Type 0 where
  pub filled : IsPair caller.filled worker.filled
  pub emptied : IsPair worker.emptied caller.emptied
  pub size : worker.size ≡ caller.size

-- ends of new rings, all that was sent being received; own
pub record AreNew (caller : CallerEnds) (worker : WorkerEnds) (size : ℕ) : Type 0 where
  pub fellows : AreFellows caller worker
  pub all : received worker.filled ≡ sent caller.filled
  pub of_size : caller.size ≡ size
