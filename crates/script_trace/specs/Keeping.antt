-- What is kept between two calls of a trace; own.
use Rattle.std.specs.Prelude.{◌≡◌, ℕ, ◌≤◌}
use Rattle.gl_tracked.specs.declared.tracked.Tracked.{Tracked}
use Rattle.batch_pack.specs.Batch.{IsBatchSize}
use Rattle.client_shadow.specs.declared.look.Becomes.{Becomes}
use Rattle.client_shadow.specs.declared.look.Becomes.TheVariants.{Answer, Sync, Defer}
use Rattle.soft_driver.specs.Renderer.{SoftView}
use Rattle.script_trace.specs.declared.open_batch.OpenBatch.{OpenBatch}

-- a batch holds no more slots than its size, no more calls than slots, and no slots without calls; own
pub record IsWithin (size : ℕ) (batch : OpenBatch) : Type 0 where
  pub few_slots : batch.slots ≤ size
  pub few_calls : batch.calls ≤ batch.slots
  pub no_slots : batch.calls ≡ 0 → batch.slots ≡ 0

-- batches have a size, the shadow is the tracked part of the renderer, and the open batch is within its size; own
pub record IsKept (size : ℕ) (soft : SoftView) (shadow : Tracked) (batch : OpenBatch) : Type 0 where
  pub batch_size : IsBatchSize size
  pub same_tracked : shadow ≡ soft.own.state.tracked
  pub within : IsWithin size batch

-- the slots of a call's spelling, where it is put off; own
abbrev pub slots_in : Becomes → ℕ
slots_in (Answer number) = 0
slots_in (Sync asks) = 0
slots_in (Defer heading) = heading.slots

-- where a call is put off, its spelling has a slot at least, and fits a batch without calls; own
abbrev pub CanJoin : ℕ → Becomes → Type 0
CanJoin size (Answer number) = Unit {0}
CanJoin size (Sync asks) = Unit {0}
CanJoin size (Defer heading) = (1 ≤ heading.slots) × (heading.slots ≤ size)
