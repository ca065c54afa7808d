use Rattle.std.proofs.Common.{List, ℕ, subst, ◌∙◌}
use Rattle.gl_memory.specs.Segment.{AreBytes}
use Rattle.gl_memory.specs.ClientMemory.{memory_of}
use Rattle.gl_memory.proofs.client_memory.ClientMemory.bytes.Goals as goal

pub returns-clause-small : goal.returns-clause-small
returns-clause-small c =
    subst (λ (bytes : List ℕ). AreBytes (memory_of bytes)) (c.as_slice-bytes.ensures.value ∙ c.self.view_is) c.are_bytes.ensures
