-- Which elements of the arrays a draw takes; section 2.8.
use Rattle.std.specs.Prelude.{ℕ, ◌+◌, ◌^◌, ◌<◌, List}
use Rattle.gl_memory.specs.Segment.{Segment}
use Rattle.gl_tracked.specs.Indices.{index_numbered}
use Rattle.triangle_draw.specs.declared.elements.Elements.{Elements}
use Rattle.triangle_draw.specs.declared.elements.Elements.TheVariants.{From, Indexed}

-- the place in the arrays of the elements of the vertex with a number, from 0: so many behind the first, or the index with this number, in the memory in which the indices lie; section 2.8
abbrev pub place_in : Elements → (ℕ → List Segment) → ℕ → ℕ
place_in (From first) memories number = first + number
place_in (Indexed buffer kind place) memories number = index_numbered (memories buffer) kind place number

-- elements that a draw may take: consecutive ones from below 2^31 on, and all that indices name; own
abbrev pub AreElements : Elements → Type 0
AreElements (From first) = first < 2 ^ 31
AreElements (Indexed buffer kind place) = Unit {0}
