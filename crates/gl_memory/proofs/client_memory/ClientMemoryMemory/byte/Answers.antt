use Rattle.std.proofs.Common.{List, ℕ, slice_index, ap, sym, ◌∙◌}
use Rattle.gl_memory.proofs.Bytes.{byte_at-memory_of}
use Rattle.gl_memory.proofs.client_memory.ClientMemoryMemory.byte.Goals as goal

pub returns : goal.returns
returns c =
    c.byte_or_zero.ensures
    ∙ ap (λ (bytes : List ℕ). slice_index bytes c.args.at) (c.as_slice.ensures.value ∙ c.self.view_is)
    ∙ sym (byte_at-memory_of c.args.self.now c.args.at)
