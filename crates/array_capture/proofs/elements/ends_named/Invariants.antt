use Rattle.std.proofs.Common.{◌≡◌, ◌≤◌, Some}
use Rattle.gl_memory.specs.ClientMemory.{memory_of}
use Rattle.gl_tracked.specs.Indices.{indices_at}
use Rattle.array_capture.specs.Pieces.{ends_of}
use Rattle.array_capture.proofs.elements.ends_named.Given as goal

-- the ends of the indices so far
abbrev pub invariant-loop-number : goal.invariant-loop-number
invariant-loop-number l = record {
  found : Some l.ends ≡ ends_of (indices_at (memory_of l.memory) l.kind l.indices l.number);
  order : l.ends.least ≤ l.ends.greatest;
}
