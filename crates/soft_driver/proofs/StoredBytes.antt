-- The bytes of the memories that a draw reads: those of client memory for 0, and else those of a buffer's store.
use Rattle.std.proofs.Common.{◌≡◌, ◌≢◌, ℕ, Bool, cond, List, sym, ap, ◌∙◌}
use Rattle.std.proofs.lemmas.Bool.{ne_eqb}
use Rattle.gl_memory.specs.ClientMemory.{memory_of}
use Rattle.gl_memory.specs.Segment.{Segment, byte_at}
use Rattle.gl_memory.proofs.Bytes.{byte_at-memory_of}
use Rattle.gl_objects.specs.Step.{byte_in}
use Rattle.gl_objects.specs.Store.{store_in}
use Rattle.gl_objects.specs.View.{ObjectsView}
use Rattle.soft_driver.specs.Own.{memories_of}

module _ (objects : ObjectsView) (memory : List Segment) (buffer at : ℕ) where
  pub byte_of_client : buffer ≡ 0 → byte_at memory at ≡ byte_at (memories_of objects memory buffer) at
  unfolding memories_of
  byte_of_client zero = ap (λ (b : ℕ). byte_at (memories_of objects memory b) at) (sym zero)

  pub byte_of_store : buffer ≢ 0 → byte_in objects buffer at ≡ byte_at (memories_of objects memory buffer) at
  unfolding memories_of
  byte_of_store some =
      let store = store_in objects.buffers buffer in
      sym (byte_at-memory_of store at) ∙ ap (λ (b : Bool). byte_at (cond b memory (memory_of store)) at) (sym (ne_eqb buffer 0 some))
