-- Which batches a command hands over to rails; own.
use Rattle.std.specs.Prelude.{ℕ, []}
use Rattle.client_shadow.specs.Cutting.{batches_from}
use Rattle.batch_rail.specs.Maker.{KeepsOthers}
use Rattle.batch_rail.specs.Rail.{Gains}
use Rattle.replay_text.specs.declared.asked.Command.{Command}
use Rattle.replay_text.specs.declared.asked.Command.TheVariants.{Run, Direct}
use Rattle.replay_core.specs.Calls.{calls_of}
use Rattle.replay_core.specs.Script.{Scripted}
use Rattle.replay_core.specs.World.{Batches, Journal}

-- the batches of a script's context, each of at most so many slots; own
abbrev pub batches_of : ℕ → ℕ → Scripted → Batches
batches_of size context script = batches_from size [] (calls_of size context script)

-- the batches of a script's context that a command hands over: of `run` all, of `direct` none; own
abbrev pub batches_for : Command → ℕ → Scripted → Batches
batches_for (Run batch ring rail) context script = batches_of batch context script
batches_for Direct context script = []

-- the journal of a context was extended by these batches, and those of the others by none, as far as they are told now; own
pub record HandsOver (context : ℕ) (batches : Batches) (before after : Journal) : Type 0 where
  pub its : Gains (before context) (after context) batches
  pub others : KeepsOthers before after context

-- the journal of a context was extended by some batches, and those of the others by none, as far as they are told now; own
pub record HandsOverSome (context : ℕ) (before after : Journal) : Type 0 where
  pub batches : Batches
  pub handed_over : HandsOver context batches before after
